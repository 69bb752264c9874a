-- Who makes a legal move.
use Rattle.std.proofs.Common.{◌≡◌, ℕ, ◌<◌, true, false, ◌⊎◌, ap, sym, ◌∙◌, refl, inl, inr}
use Rattle.std.proofs.lemmas.Bool.{both_ways, cases_eq}
use Rattle.frz_board.specs.declared.man.Colour.{Colour}
use Rattle.frz_board.specs.declared.man.Colour.TheVariants.{White, Black}
use Rattle.frz_board.specs.Boards.{Board, holds}
use Rattle.frz_board.specs.Men.{is_man_of, man_of_cell, other_of}
use Rattle.frz_board.specs.Moving.{Step}
use Rattle.frz_fide.specs.Legal.{is_legal}
use Rattle.frz_king_planes.specs.Kings.{king_cell, king_square, with_kings}
use Rattle.frz_king_planes.proofs.Lemmas.{crowned}
use Rattle.frz_pair_moves.specs.Moves.{Makes}
use Rattle.frz_pair_moves.proofs.MenMoved.{goes_from, legal_goes, size_of}

other_king : (c : Colour) → is_man_of c (man_of_cell (king_cell (other_of c))) ≡ false
other_king White = refl
other_king Black = refl

pub mover_is : (p : Board) (m : Step) (a b : ℕ) → a < 64 → b < 64 → Makes p a b →
    is_legal (with_kings p a b) m ≡ true →
    (m.from ≡ king_square p.turn a b) ⊎ (holds p p.turn m.from ≡ true)
mover_is p m a b la lb made h =
    let c = p.turn in
    let q = with_kings p a b in
    let w = crowned p a b c (size_of p a b made.valid) la lb made.free in
    let own = goes_from q m (legal_goes q m h) in
    elim (cases_eq m.from (king_square c a b)) [
      | inl e ↦ inl e
      | inr ns ↦ elim (cases_eq m.from (king_square (other_of c) a b)) [
        | inl e ↦ absurd (both_ways (holds q c m.from)
            (ap (holds q c) e ∙ ap (λ x. is_man_of c (man_of_cell x)) w.other ∙ other_king c) own)
        | inr nt ↦ inr (ap (λ x. is_man_of c (man_of_cell x)) (sym (w.rest m.from ns nt)) ∙ own)
      ]
    ]
