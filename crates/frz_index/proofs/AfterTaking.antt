-- The position after a move that takes a man on its last square.
use Rattle.std.proofs.Common.{◌≡◌, ◌≢◌, ℕ, true, false, cond, Option, None, Some, List, slice_index, slice_set, refl, ap, sym, ◌∙◌, arith}
use Rattle.std.specs.Prelude.{◌==◌, ◌&&◌}
use Rattle.std.proofs.lemmas.Bool.{and_parts, and_right, eqb-true, false_from_ne_true}
use Rattle.frz_board.proofs.Lemmas.{cell_back, cell-some}
use Rattle.frz_board.specs.Attacks.{pawn_reaches}
use Rattle.frz_board.specs.Boards.{Board, is_empty}
use Rattle.frz_board.specs.EnPassant.{ahead, has_passed, has_pawn_beside, has_target_in_place, is_passed, is_passing_rank, is_target, target_stands}
use Rattle.frz_board.specs.Men.{cell_of_man, other_of}
use Rattle.frz_board.specs.Moving.{Step}
use Rattle.frz_board.specs.Squares.{files_apart, is_forward}
use Rattle.frz_board.specs.declared.man.Colour.{Colour}
use Rattle.frz_board.specs.declared.man.Kind.{Kind}
use Rattle.frz_board.specs.declared.man.Kind.TheVariants.{King, Queen, Rook, Bishop, Knight, Pawn}
use Rattle.frz_board.specs.declared.man.Man.{Man}
use Rattle.frz_fide.specs.Legal.{advances, after, after_man, beside_on_file, is_home, passed_over, takes_in_passing}
use Rattle.frz_fide.specs.Valid.{IsValid}
use Rattle.frz_index.specs.Stepping.{stepped}
use Rattle.frz_index.specs.Taking.{IsTaking}

-- no target is on a square where a man stands
no_target : (p : Board) (b : ℕ) → IsValid p → slice_index p.cells b ≢ 0 → is_target p.ep b ≡ false
unfolding has_target_in_place
no_target p b v some = by_target p.ep refl
  where
    by_target : (o : Option ℕ) → p.ep ≡ o → is_target o b ≡ false
    by_target None e = refl
    by_target (Some t) e =
        false_from_ne_true (t == b)
        (λ same.
        let passed : is_passed p (other_of p.turn) t ≡ true = ap (target_stands p) (sym e)
        ∙ v.target in
        let c = other_of p.turn in
        let parts = and_parts (has_passed p c t) (has_pawn_beside p (other_of c) (ahead c t))
        passed in
        let free = is_empty p t && is_empty p (ahead (other_of c) t) in
        let first = (and_parts (is_passing_rank c t && free) _ parts.0).0 in
        let empties = (and_parts (is_passing_rank c t) free first).1 in
        let empty = (and_parts (is_empty p t) (is_empty p (ahead (other_of c) t)) empties).0 in
        some (ap (slice_index p.cells) (sym (eqb-true t b same))
        ∙ eqb-true (slice_index p.cells t) 0 empty))

-- a pawn that takes leaves no target, and takes on its last square alone
pawn_takes : (p : Board) (c : Colour) (a b : ℕ) → is_target p.ep b ≡ false → is_empty p b ≡ false →
    after_man p (Some (record { colour = c; kind = Pawn }))
    (record { from = a; to = b; promo = None })
    ≡ stepped p (record { colour = c; kind = Pawn }) a b None
pawn_takes p c a b no_target_there full =
    let moved = slice_set (slice_set p.cells a 0) b
    (cell_of_man (record { colour = c; kind = Pawn })) in
    let made : List ℕ → Option ℕ → Board = λ cells target.
    record { cells = cells; turn = other_of p.turn; ep = target } in
    let beside = has_pawn_beside p (other_of c) b in
    let way = files_apart a b == 0 && is_forward c 2 a b in
    let passing : takes_in_passing p c a b ≡ false =
    ap (λ t. pawn_reaches c a b && t) no_target_there ∙ and_right (pawn_reaches c a b) false refl in
    let near : advances p c a b ≡ false =
    ap (λ t. (is_home c a && way) && (t && is_empty p (passed_over a b))) full
    ∙ and_right (is_home c a && way) false refl in
    ap (λ t. made (cond t (slice_set moved (beside_on_file a b) 0) moved)
    (cond (advances p c a b && beside) (Some (passed_over a b)) None)) passing
    ∙ ap (λ t. made moved (cond (t && beside) (Some (passed_over a b)) None)) near

kind_takes : (p : Board) (c : Colour) (k : Kind) (a b : ℕ) → is_target p.ep b ≡ false →
    is_empty p b ≡ false →
    after_man p (Some (record { colour = c; kind = k })) (record { from = a; to = b; promo = None })
    ≡ stepped p (record { colour = c; kind = k }) a b None
kind_takes p c King a b t e = refl
kind_takes p c Queen a b t e = refl
kind_takes p c Rook a b t e = refl
kind_takes p c Bishop a b t e = refl
kind_takes p c Knight a b t e = refl
kind_takes p c Pawn a b t e = pawn_takes p c a b t e

pub after_take : (p : Board) (m : Step) (man taken : Man) → IsValid p → IsTaking p m man taken →
    after p m ≡ stepped p man m.from m.to None
after_take p m man taken v h =
    let cell = cell_back (slice_index p.cells m.to) taken.colour taken.kind h.taken_is in
    let some = cell-some taken.colour taken.kind in
    let full : slice_index p.cells m.to ≢ 0 = λ none. omega (arith, cell, some, none) in
    ap (λ o. after_man p o m) h.man_is
    ∙ ap (λ (o : Option Kind). let s : Step = record { from = m.from; to = m.to; promo = o } in
    after_man p (Some man) s) h.promo
    ∙ kind_takes p man.colour man.kind m.from m.to (no_target p m.to v full)
    (false_from_ne_true (is_empty p m.to)
    (λ t. full (eqb-true (slice_index p.cells m.to) 0 t)))
