-- The target before a step stood in place exactly where the board without the man tells so, and the
-- man stood on neither of the squares that the pawn passed.
use Rattle.std.proofs.Common.{[], ◌∷◌, ◌≡◌, ◌≢◌, ℕ, Bool, true, false, ◌&&◌, ◌||◌, Option, None, Some, List, slice_index, slice_set, get_or-set_other, refl, ap, sym, ◌∙◌, arith, inl, inr}
use Rattle.std.specs.Prelude.{◌==◌, not}
use Rattle.std.specs.List.{list_any}
use Rattle.std.proofs.lemmas.Bool.{cases_eq, eq-eqb}
use Rattle.std.proofs.lemmas.Bool.Decides.{nat_tests}
use Rattle.frz_board.proofs.Lemmas.{cell-some, other_other}
use Rattle.frz_board.specs.declared.man.Colour.{Colour}
use Rattle.frz_board.specs.declared.man.Colour.TheVariants.{White, Black}
use Rattle.frz_board.specs.declared.man.Kind.TheVariants.{Pawn}
use Rattle.frz_board.specs.declared.man.Man.{Man}
use Rattle.frz_board.specs.Boards.{Board, has, is_empty}
use Rattle.frz_board.specs.EnPassant.{ahead, has_pawn_beside, has_target_in_place, is_passed, is_passing_rank}
use Rattle.frz_board.specs.Men.{cell_of_man, is_pawn, other_of}
use Rattle.frz_board.specs.Squares.{is_beside, squares}
use Rattle.frz_index.proofs.Lemmas.{at_to}
use Rattle.frz_index.specs.Stepping.{IsStep, stepped}
use Rattle.frz_sets.specs.Sets.{pawn}
use Rattle.frz_unmove.proofs.StepsBack.{no_pawn}
use Rattle.frz_unmove.specs.Quiet.{keeps_target}

none_pawn : (c : Colour) → (0 == pawn c) ≡ false
none_pawn White = refl
none_pawn Black = refl

-- the man on one of the squares is what keeps both from being empty
apart_from : (r e f w z x y : Bool) →
    (((r && ((e && not x) && (f && not y))) && w) && z) ≡ ((((r && (e && f)) && w) && z) && not (x || y))
apart_from false e f w z x y = refl
apart_from true false f w z x y = refl
apart_from true true false w z true y = refl
apart_from true true true false z true y = refl
apart_from true true true true false true y = refl
apart_from true true true true true true y = refl
apart_from true true false w z false y = refl
apart_from true true true false z false true = refl
apart_from true true true true false false true = refl
apart_from true true true true true false true = refl
apart_from true true true false z false false = refl
apart_from true true true true false false false = refl
apart_from true true true true true false false = refl

any_same : (f g : ℕ → Bool) (xs : List ℕ) → ((x : ℕ) → f x ≡ g x) → list_any f xs ≡ list_any g xs
any_same f g [] e = refl
any_same f g (x ∷ xs) e =
    ap (λ t. t || list_any f xs) (e x) ∙ ap (λ t. g x || t) (any_same f g xs e)

and_true : (a : Bool) → (a && true) ≡ a
and_true true = refl
and_true false = refl

module _ (q : Board) (man : Man) (a b : ℕ) (target : Option ℕ)
    (h : IsStep q man a b) (piece : is_pawn man.kind ≡ false) where
  abbrev p : Board
  p = stepped q man a b target

  abbrev bare : Board
  bare = record q { cells = slice_set q.cells a 0 }

  apart : b ≢ a
  apart e =
      let some = cell-some man.colour man.kind in
      let here = ap (slice_index q.cells) e in
      omega (arith, h.stood, h.free, here, some)

  free : slice_index bare.cells b ≡ 0
  free = get_or-set_other q.cells a b 0 0 apart ∙ h.free

  same : (s : ℕ) → s ≢ b → slice_index p.cells s ≡ slice_index bare.cells s
  same s n = get_or-set_other bare.cells b s (cell_of_man man) 0 n

  same_pawns : (c : Colour) (s : ℕ) → has p c Pawn s ≡ has bare c Pawn s
  same_pawns c s =
      elim (cases_eq s b) [
        | inl e ↦
            ap (λ n. has p c Pawn n) e
            ∙ ap (λ x. x == pawn c) (at_to q man a b target h)
            ∙ no_pawn c man.colour man.kind piece
            ∙ sym (none_pawn c)
            ∙ ap (λ x. x == pawn c) (sym free)
            ∙ ap (λ n. has bare c Pawn n) (sym e)
        | inr n ↦ ap (λ x. x == pawn c) (same s n)
      ]

  filled : (cell_of_man man == 0) ≡ false
  filled = let some = cell-some man.colour man.kind in grind (arith, nat_tests)

  same_empty : (s : ℕ) → is_empty p s ≡ (is_empty bare s && not (b == s))
  same_empty s =
      elim (cases_eq s b) [
        | inl e ↦
            ap (is_empty p) e
            ∙ ap (λ x. x == 0) (at_to q man a b target h)
            ∙ filled
            ∙ sym (ap (λ t. t && not (b == b)) (eq-eqb (slice_index bare.cells b) 0 free)
            ∙ ap not (eq-eqb b b refl))
            ∙ ap (λ n. is_empty bare n && not (b == n)) (sym e)
        | inr n ↦
            let other : (b == s) ≡ false = grind (arith, nat_tests) in
            ap (λ x. x == 0) (same s n)
            ∙ sym (and_true (is_empty bare s))
            ∙ ap (λ t. is_empty bare s && not t) (sym other)
      ]

  beside_same : (c : Colour) (s : ℕ) → has_pawn_beside p c s ≡ has_pawn_beside bare c s
  beside_same c s =
      any_same (λ x. is_beside x s && has p c Pawn x) (λ x. is_beside x s && has bare c Pawn x) squares
      (λ x. ap (λ t. is_beside x s && t) (same_pawns c x))

  stands : (t : ℕ) → is_passed p q.turn t
      ≡ (is_passed bare q.turn t && not (b == t || b == ahead (other_of q.turn) t))
  stands t =
      let c = q.turn in
      let d = other_of c in
      let r = is_passing_rank c t in
      let e = is_empty bare t in
      let f = is_empty bare (ahead d t) in
      let w = has bare c Pawn (ahead c t) in
      let z = has_pawn_beside bare d (ahead c t) in
      ap (λ x. ((r && (x && is_empty p (ahead d t))) && has p c Pawn (ahead c t))
      && has_pawn_beside p d (ahead c t)) (same_empty t)
      ∙ ap (λ x. ((r && ((e && not (b == t)) && x)) && has p c Pawn (ahead c t))
      && has_pawn_beside p d (ahead c t)) (same_empty (ahead d t))
      ∙ ap (λ x. ((r && ((e && not (b == t)) && (f && not (b == ahead d t)))) && x)
      && has_pawn_beside p d (ahead c t)) (same_pawns c (ahead c t))
      ∙ ap (λ x. ((r && ((e && not (b == t)) && (f && not (b == ahead d t)))) && w) && x)
      (beside_same d (ahead c t))
      ∙ apart_from r e f w z (b == t) (b == ahead d t)

-- the target was in place before the step
pub in_place : (q : Board) (man : Man) (a b : ℕ) (target : Option ℕ) → IsStep q man a b →
    is_pawn man.kind ≡ false → has_target_in_place (stepped q man a b target)
    ≡ keeps_target (record q { cells = slice_set q.cells a 0 }) target b
unfolding has_target_in_place
in_place q man a b None h piece = refl
in_place q man a b (Some t) h piece =
    ap (λ c. is_passed (stepped q man a b (Some t)) c t) (other_other q.turn)
    ∙ stands q man a b (Some t) h piece t
