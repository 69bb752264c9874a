-- Pairs joined with those of the squares that a man attacks, square by square.
use Rattle.std.proofs.Common.{◌≡◌, ◌≢◌, ℕ, ◌+◌, ◌<◌, ◌≤◌, Bool, true, false, ◌&&◌, ◌||◌, not, cond, List, bit_or, w64, refl, ap, sym, ◌∙◌, arith, inl, inr}
use Rattle.std.specs.Prelude.{◌==◌}
use Rattle.std.specs.Int.{bit_not}
use Rattle.std.proofs.lemmas.Bool.{cases_lt}
use Rattle.std.proofs.lemmas.Bool.Decides.{eqb_tells}
use Rattle.frz_board.specs.Lines.{is_between}
use Rattle.frz_squares.specs.SquareSets.{has_square, set_of}
use Rattle.frz_squares.specs.Words.{HasNoneFrom, IsNext}
use Rattle.frz_squares.proofs.Lemmas.{has-or, has-not, has-set_of, set_of-small}
use Rattle.frz_planes.specs.Planes.{IsPlaneOf, has_pair}

-- the rows of the squares below n are joined with the squares that do not shield them from m
pub record IsJoined (squares m : ℕ) (old new : List ℕ) (n : ℕ) : Type 0 where
  pub below : (x y : ℕ) → x < n → x < 64 → y < 64 → has_pair new x y
      ≡ (has_pair old x y || (has_square squares x && not (is_between m y x)))
  pub from : (x y : ℕ) → n ≤ x → x < 64 → y < 64 → has_pair new x y ≡ has_pair old x y

pub joined_none : (squares m : ℕ) (old : List ℕ) → IsJoined squares m old old 0
joined_none squares m old = record {
  below = λ x y l lx ly. absurd (omega arith);
  from = λ x y l lx ly. refl;
}

or_none : (x y : Bool) → x ≡ (x || (false && y))
or_none true y = refl
or_none false y = refl

module _ (squares m n s row shut : ℕ) (old new newer : List ℕ) (next : IsNext squares n s)
    (before : IsJoined squares m old new n) (is : shut ≡ set_of (λ t. is_between m t s))
    (read : (y : ℕ) → y < 64 → has_square row y ≡ has_pair new s y)
    (written : IsPlaneOf newer
    (λ x y. cond (x == s) (has_square (bit_or row (bit_not w64 shut)) y) (has_pair new x y))) where
  joined_row : (y : ℕ) → y < 64 → has_square (bit_or row (bit_not w64 shut)) y
      ≡ (has_pair old s y || (has_square squares s && not (is_between m y s)))
  joined_row y ly =
      ap (λ v. has_square (bit_or row (bit_not w64 v)) y) is
      ∙ has-or row (bit_not w64 (set_of (λ t. is_between m t s))) y
      ∙ ap (λ x. has_square row y || x)
      (has-not (set_of (λ t. is_between m t s)) y (set_of-small (λ t. is_between m t s)) ly
      ∙ ap not (has-set_of (λ t. is_between m t s) y ly))
      ∙ ap (λ x. x || not (is_between m y s)) (read y ly ∙ before.from s y next.from next.on_board ly)
      ∙ ap (λ x. has_pair old s y || (x && not (is_between m y s))) (sym next.there)

  kept : (x y : ℕ) → x ≢ s → x < 64 → y < 64 → has_pair newer x y ≡ has_pair new x y
  kept x y ne lx ly =
      written x y lx ly
      ∙ elim (eqb_tells x s) [
        | inl e ↦ absurd (ne e.1)
        | inr e ↦
            ap (λ t. cond t (has_square (bit_or row (bit_not w64 shut)) y) (has_pair new x y)) e.0
      ]

  skipped : (x y : ℕ) → x < s → x < 64 → y < 64 → has_pair newer x y
      ≡ (has_pair old x y || (has_square squares x && not (is_between m y x)))
  skipped x y l lx ly =
      kept x y (λ e. omega arith) lx ly
      ∙ elim (cases_lt x n) [
        | inl i ↦ before.below x y i lx ly
        | inr i ↦ before.from x y i lx ly ∙ or_none (has_pair old x y) (not (is_between m y x))
            ∙ ap (λ t. has_pair old x y || (t && not (is_between m y x))) (sym (next.first x i l))
      ]

  here : (x y : ℕ) → x < s + 1 → x < 64 → y < 64 → has_pair newer x y
      ≡ (has_pair old x y || (has_square squares x && not (is_between m y x)))
  here x y l lx ly =
      elim (eqb_tells x s) [
        | inl e ↦ written x y lx ly
            ∙ ap (λ t. cond t (has_square (bit_or row (bit_not w64 shut)) y) (has_pair new x y)) e.0
            ∙ joined_row y ly
            ∙ ap (λ k. has_pair old k y || (has_square squares k && not (is_between m y k)))
            (sym e.1)
        | inr e ↦ (let ne = e.1 in skipped x y (omega arith) lx ly)
      ]

  pub joined_more : IsJoined squares m old newer (s + 1)
  joined_more =
      let at = next.from in
      record {
        below = here;
        from = λ x y l lx ly. kept x y (λ e. omega arith) lx ly
            ∙ before.from x y (omega arith) lx ly;
      }

-- once no square is left, all rows are joined
pub joined_all : (squares m n : ℕ) (old new : List ℕ) (test : ℕ → Bool) →
    ((x : ℕ) → x < 64 → has_square squares x ≡ test x) → HasNoneFrom squares n →
    IsJoined squares m old new n →
    IsPlaneOf new (λ x y. has_pair old x y || (test x && not (is_between m y x)))
joined_all squares m n old new test are end joined x y lx ly =
    elim (cases_lt x n) [
      | inl i ↦ joined.below x y i lx ly
      | inr i ↦ joined.from x y i lx ly ∙ or_none (has_pair old x y) (not (is_between m y x))
          ∙ ap (λ t. has_pair old x y || (t && not (is_between m y x))) (sym (end.none x i lx))
    ]
    ∙ ap (λ t. has_pair old x y || (t && not (is_between m y x))) (are x lx)
