-- The exit line that decides a position gives it its value.
use Rattle.std.proofs.Common.{◌≡◌, ◌+◌, ℕ, zero, suc, inl, inr, Bool, true, List, [], ◌∷◌, Some, None, refl, subst, arith}
use Rattle.std.specs.Prelude.{slice_get}
use Rattle.std.specs.List.{position_from}
use Rattle.std.proofs.lemmas.Bool.{cases_Bool}
use Rattle.frz_board.specs.Boards.{Board}
use Rattle.frz_sets.specs.declared.exit.Value.TheVariants.{Unknown}
use Rattle.frz_sets.specs.Views.{ExitLine}
use Rattle.frz_exits.specs.Books.{first_value}
use Rattle.frz_exits.specs.Conditions.{conditions_hold}
use Rattle.frz_exits.specs.Fitting.{line_at}

-- the line at the place is the first that fits the position
pub record IsFirst (lines : List ExitLine) (q : Board) (i : ℕ) (line : ExitLine) : Type 0 where
  pub there : slice_get lines i ≡ Some line
  pub holds : conditions_hold q line.conds ≡ true
  pub value : first_value lines q ≡ line.value

abbrev fits : Board → ExitLine → Bool
fits q line = conditions_hold q line.conds

first_from : (lines : List ExitLine) (q : Board) (n k : ℕ) →
    position_from (fits q) n lines ≡ Some k →
    (i : ℕ) × (line : ExitLine) × (k ≡ n + i) × IsFirst lines q i line
first_from [] q n k h = absurd (cc)
first_from (x ∷ lines) q n k h =
    elim (cases_Bool (conditions_hold q x.conds)) [
      | inl t ↦ (let e : Some n ≡ Some k = rw t at h in
          let same : n ≡ k = cc in
          (zero, x, omega arith, record { there = refl; holds = t; value = rw t refl }))
      | inr f ↦ (let e : position_from (fits q) (n + 1) lines ≡ Some k = rw f at h in
          let w = first_from lines q (n + 1) k e in
          let place = w.2 in
          let first = w.3 in (
            suc w.0,
            w.1,
            omega arith,
            record { there = first.there; holds = first.holds; value = rw f first.value },
          ))
    ]

none_from : (lines : List ExitLine) (q : Board) (n : ℕ) →
    position_from (fits q) n lines ≡ None → first_value lines q ≡ Unknown
none_from [] q n h = refl
none_from (x ∷ lines) q n h =
    elim (cases_Bool (conditions_hold q x.conds)) [
      | inl t ↦ absurd (let e : Some n ≡ None = rw t at h in cc)
      | inr f ↦ (let e : position_from (fits q) (n + 1) lines ≡ None = rw f at h in
          rw f (none_from lines q (n + 1) e))
    ]

-- the line that decides a position is the first that fits it
pub first_fits : (lines : List ExitLine) (q : Board) (k : ℕ) → line_at lines q ≡ Some k →
    (line : ExitLine) × IsFirst lines q k line
first_fits lines q k h =
    let w = first_from lines q 0 k h in
    let place = w.2 in
    let same : w.0 ≡ k = omega arith in
    (w.1, subst (λ (j : ℕ). IsFirst lines q j w.1) same w.3)

-- where no line fits, the lines say nothing
pub none_fits : (lines : List ExitLine) (q : Board) → line_at lines q ≡ None →
    first_value lines q ≡ Unknown
none_fits lines q none = none_from lines q 0 none
