-- Arms of men, collected step by step.
use Rattle.std.proofs.Common.{◌≡◌, ℕ, zero, suc, ◌+◌, ◌<◌, ◌≤◌, true, Some, List, [], ◌∷◌, ◌++◌, ◌⊎◌, length, refl, ap, sym, ◌∙◌, subst, arith, inl, inr}
use Rattle.std.specs.List.{slice_get}
use Rattle.std.proofs.lemmas.Bool.{cases_eq, cases_lt}
use Rattle.std.proofs.lemmas.Option.{same_Some}
use Rattle.frz_board.specs.Boards.{Board}
use Rattle.frz_board.specs.Moving.{IsStep, Step}
use Rattle.frz_fide.specs.Legal.{after, can_go}
use Rattle.frz_sets.specs.Views.{RuleLines}
use Rattle.frz_pair_moves.specs.Steps.{HasNoStepFrom, IsNextStep, step_at, step_number}
use Rattle.frz_pair_moves.proofs.Lemmas.{numbered}
use Rattle.frz_plane_arms.specs.Arms.{HasNoMember, MakesMember}
use Rattle.frz_plane_arms.specs.MenArms.{AreArms, HasArm, IsArm}
use Rattle.frz_plane_arms.specs.declared.men.ManArm.{ManArm}

pub kept : {X : Type 0} (xs : List X) (y x : X) (k : ℕ) → slice_get xs k ≡ Some x →
    slice_get (xs ++ y ∷ []) k ≡ Some x
kept [] y x k h = absurd cc
kept (z ∷ xs) y x zero h = h
kept (z ∷ xs) y x (suc k) h = kept xs y x k h

pub last : {X : Type 0} (xs : List X) (y : X) → slice_get (xs ++ y ∷ []) (length xs) ≡ Some y
last [] y = refl
last (z ∷ xs) y = last xs y

pub old_or_last : {X : Type 0} (xs : List X) (y x : X) (k : ℕ) →
    slice_get (xs ++ y ∷ []) k ≡ Some x → (slice_get xs k ≡ Some x) ⊎ (y ≡ x)
old_or_last [] y x zero h = inr (same_Some y x h)
old_or_last [] y x (suc k) h = absurd cc
old_or_last (z ∷ xs) y x zero h = inl h
old_or_last (z ∷ xs) y x (suc k) h = old_or_last xs y x k h

-- the arms of the steps whose numbers are below n
pub record AreArmsBelow (r : RuleLines) (p : Board) (arms : List ManArm) (n : ℕ) : Type 0 where
  pub each : (k : ℕ) (arm : ManArm) → slice_get arms k ≡ Some arm → IsArm r p arm
  pub all : (k a b : ℕ) → k < n → can_go p (step_at k) ≡ true →
      MakesMember r.groups (after p (step_at k)) a b → HasArm arms (step_at k)

module _ (r : RuleLines) (p : Board) where
  pub none_below : AreArmsBelow r p [] 0
  none_below = record {
    each = λ k arm h. absurd cc;
    all = λ k a b l can made. absurd (omega arith);
  }

  -- a step that cannot go has no arm
  skipped : (n k j : ℕ) → IsNextStep p n k → n ≤ j → j < k → can_go p (step_at j) ≡ true → ⊥
  skipped n k j next low high can = let none = next.first j low high in absurd cc

  -- a step after which kings make no position of the set has none
  pub passed_over : (arms : List ManArm) (n k : ℕ) → AreArmsBelow r p arms n → IsNextStep p n k →
      HasNoMember r.groups (after p (step_at k)) → AreArmsBelow r p arms (k + 1)
  passed_over arms n k h next none = record { each = h.each; all = all }
    where
      all : (j a b : ℕ) → j < k + 1 → can_go p (step_at j) ≡ true →
          MakesMember r.groups (after p (step_at j)) a b → HasArm arms (step_at j)
      all j a b l can made =
          elim (cases_lt j n) [
            | inl low ↦ h.all j a b low can made
            | inr high ↦ elim (cases_eq j k) [
              | inl e ↦ absurd (none a b
                  (subst (λ (i : ℕ). MakesMember r.groups (after p (step_at i)) a b) e made))
              | inr ne ↦ absurd (skipped n k j next high (omega arith) can)
            ]
          ]

  -- the arm of the next step
  pub one_more : (arms : List ManArm) (arm : ManArm) (n k : ℕ) → AreArmsBelow r p arms n →
      IsNextStep p n k → IsArm r p arm → arm.step ≡ step_at k →
      AreArmsBelow r p (arms ++ arm ∷ []) (k + 1)
  one_more arms arm n k h next is step = record { each = each; all = all }
    where
      each : (j : ℕ) (x : ManArm) → slice_get (arms ++ arm ∷ []) j ≡ Some x → IsArm r p x
      each j x there =
          elim (old_or_last arms arm x j there) [
            | inl old ↦ h.each j x old
            | inr e ↦ subst (IsArm r p) e is
          ]

      all : (j a b : ℕ) → j < k + 1 → can_go p (step_at j) ≡ true →
          MakesMember r.groups (after p (step_at j)) a b → HasArm (arms ++ arm ∷ []) (step_at j)
      all j a b l can made =
          elim (cases_lt j n) [
            | inl low ↦ (let old = h.all j a b low can made in
                record {
                  place = old.place;
                  arm = old.arm;
                  there = kept arms arm old.arm old.place old.there;
                  step = old.step;
                })
            | inr high ↦ elim (cases_eq j k) [
              | inl e ↦ record {
                place = length arms;
                arm = arm;
                there = last arms arm;
                step = step ∙ ap step_at (sym e);
              }
              | inr ne ↦ absurd (skipped n k j next high (omega arith) can)
            ]
          ]

  -- no step is left
  pub all_there : (arms : List ManArm) (n : ℕ) → AreArmsBelow r p arms n → HasNoStepFrom p n →
      AreArms r p arms
  all_there arms n h end = record { each = h.each; all = all }
    where
      all : (m : Step) (a b : ℕ) → IsStep m → can_go p m ≡ true → MakesMember r.groups (after p m) a b →
          HasArm arms m
      all m a b step can made =
          let number = numbered m step in
          let k = step_number m in
          let same : step_at k ≡ m = number.1 in
          let here : can_go p (step_at k) ≡ true = ap (can_go p) same ∙ can in
          elim (cases_lt k n) [
            | inl low ↦ subst (HasArm arms) same
                (h.all k a b low here
                (subst (λ (x : Step). MakesMember r.groups (after p x) a b) (sym same) made))
            | inr high ↦ absurd (let none = end.none k high number.0 in cc)
          ]
