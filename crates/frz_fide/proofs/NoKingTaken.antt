-- No legal move of a valid position takes a king.
use Rattle.std.proofs.Common.{◌≡◌, ℕ, ◌<◌, refl, ap, sym, ◌∙◌, Bool, true, false, ◌&&◌, ◌||◌, slice_index, inl, inr}
use Rattle.std.specs.Prelude.{◌==◌}
use Rattle.std.proofs.lemmas.Bool.{eqb-true, cases_Bool, and_from}
use Rattle.frz_board.specs.Attacks.{man_reaches, pawn_reaches, reaches, attacks, is_attacked, is_in_check}
use Rattle.frz_board.specs.Boards.{Board, holds, has, is_empty}
use Rattle.frz_board.specs.Men.{man_of_cell, cell_of_man, other_of, is_man_of, same_colour}
use Rattle.frz_board.specs.Moving.{Step}
use Rattle.frz_board.specs.Squares.{files_apart, is_forward}
use Rattle.frz_fide.specs.Legal.{goes, is_home, passed_over, is_target}
use Rattle.frz_fide.specs.Valid.{IsValid}
use Rattle.frz_board.specs.declared.man.Colour.{Colour}
use Rattle.frz_board.specs.declared.man.Kind.{Kind}
use Rattle.frz_board.specs.declared.man.Kind.TheVariants.{King, Queen, Rook, Bishop, Knight, Pawn}
use Rattle.frz_squares.proofs.Lemmas.{any_square}
use Rattle.frz_board.proofs.Lemmas.{cell_forth, other_other}
use Rattle.frz_fide.proofs.LegalParts.{Move}
use Rattle.frz_fide.proofs.Standing.{holds_from}
use Rattle.frz_fide.proofs.Kings.{king_there}
use Rattle.frz_fide.proofs.CellsAfter.{lf}
use Rattle.frz_fide.proofs.Colours.{own_colour, side}

pawn_attacks : (r h s e a o t : Bool) → e ≡ false →
    (((r && h) || (s && e)) || ((a && (e && o)) || (r && t))) ≡ true → r ≡ true
pawn_attacks true h s e a o t he g = refl
pawn_attacks false h true e true o t he g = cc
pawn_attacks false h true e false o t he g = cc
pawn_attacks false h false e true o t he g = cc
pawn_attacks false h false e false o t he g = cc

-- a man that may go to a square where a man stands attacks it
attacks_there : (p : Board) (c : Colour) (k : Kind) (a b : ℕ) → goes p c k a b ≡ true →
    is_empty p b ≡ false → reaches p c k a b ≡ true
attacks_there p c King a b g e = g
attacks_there p c Queen a b g e = g
attacks_there p c Rook a b g e = g
attacks_there p c Bishop a b g e = g
attacks_there p c Knight a b g e = g
attacks_there p c Pawn a b g e =
    pawn_attacks (pawn_reaches c a b) (holds p (other_of c) b)
    (files_apart a b == 0 && is_forward c 1 a b) (is_empty p b)
    (is_home c a && (files_apart a b == 0 && is_forward c 2 a b)) (is_empty p (passed_over a b))
    (is_target p.ep b) e g

module _ (p : Board) (m : Step) (v : IsValid p) (lt : m.to < 64) (f : Move p m) where
  attack : is_empty p m.to ≡ false → attacks p m.from m.to ≡ true
  attack e =
      ap (λ o. man_reaches p o m.from m.to) f.on
      ∙ attacks_there p f.man.colour f.man.kind m.from m.to f.way e

  attacked_there : is_empty p m.to ≡ false → is_attacked p m.to p.turn ≡ true
  attacked_there e =
      any_square (λ a. holds p p.turn a && attacks p a m.to) m.from (lf p m v lt f)
      (and_from (holds p p.turn m.from) (attacks p m.from m.to) (holds_from p m f) (attack e))

  pub no_king_there : (d : Colour) → has p d King m.to ≡ false
  no_king_there d =
      elim (cases_Bool (has p d King m.to)) [
        | inr h ↦ h
        | inl h ↦ absurd (
            let cell = eqb-true (slice_index p.cells m.to)
            (cell_of_man (record { colour = d; kind = King })) h in
            elim (side p.turn d) [
              | inl e ↦
                  let own = ap (λ x. is_man_of p.turn (man_of_cell x)) cell ∙ ap (is_man_of p.turn)
                  (cell_forth d King) ∙ ap (λ c. same_colour c p.turn) e ∙ own_colour p.turn in
                  let free = f.free in cc
              | inr e ↦
                  let full : is_empty p m.to ≡ false = ap (λ x. x == 0) cell ∙ king_there d in
                  let king : has p (other_of p.turn) King m.to ≡ true = ap (λ c. has p c King m.to)
                  (sym e) ∙ h in
                  let hit : is_attacked p m.to (other_of (other_of p.turn)) ≡ true =
                  ap (is_attacked p m.to) (other_other p.turn) ∙ attacked_there full in
                  let check : is_in_check p (other_of p.turn) ≡ true =
                  any_square (λ s. has p (other_of p.turn) King s && is_attacked p s
                  (other_of (other_of p.turn))) m.to lt
                  (and_from (has p (other_of p.turn) King m.to)
                  (is_attacked p m.to (other_of (other_of p.turn))) king hit) in
                  let safe = v.safe in cc
            ])
      ]
