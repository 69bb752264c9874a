-- The exits of men, step by step.
use Rattle.std.proofs.Common.{◌≡◌, ℕ, ◌+◌, ◌<◌, Bool, true, List, ◌⊎◌, ap, sym, ◌∙◌, subst, arith, inl, inr}
use Rattle.std.proofs.lemmas.Bool.{cases_eq, cases_lt}
use Rattle.frz_board.specs.Boards.{Board}
use Rattle.frz_board.specs.Moving.{Step}
use Rattle.frz_fide.specs.Legal.{can_go}
use Rattle.frz_sets.specs.declared.exit.Value.{Value}
use Rattle.frz_sets.specs.Views.{RuleLines}
use Rattle.frz_pair_moves.specs.Steps.{HasNoStepFrom, IsNextStep, step_at, step_number}
use Rattle.frz_pair_moves.proofs.Lemmas.{goes_from, legal_man, numbered}
use Rattle.frz_plane_exits.specs.Adding.{Adds, LeavesBy, ManLeaves}
use Rattle.frz_plane_exits.specs.declared.exit_plane.ExitPlane.{ExitPlane}
use Rattle.frz_plane_exits.specs.declared.mover.Mover.TheVariants.{Man}
use Rattle.frz_plane_exits.proofs.Joining.{both, alike, nothing}
use Rattle.frz_plane_exits.proofs.MenLeave.{made}

module _ (r : RuleLines) (value : Board → Value) (p : Board) where
  -- a step whose number is below n leaves the set
  pub record ManBelow (n : ℕ) (v : Value) (f : Bool) (a b : ℕ) : Type 0 where
    pub number : ℕ
    pub low : number < n
    pub can : can_go p (step_at number) ≡ true
    pub leaves : LeavesBy r value p (Man (step_at number)) v f a b

  pub no_man : (xs : List ExitPlane) → Adds xs xs (ManBelow 0)
  no_man xs = nothing (ManBelow 0) xs (λ v f a b la lb h. let low = h.low in omega arith)

  module _ (n k : ℕ) (next : IsNextStep p n k) where
    before_or_this : (v : Value) (f : Bool) (a b : ℕ) → a < 64 → b < 64 →
        ManBelow (k + 1) v f a b →
        ManBelow n v f a b ⊎ LeavesBy r value p (Man (step_at k)) v f a b
    before_or_this v f a b la lb h =
        let below = h.low in
        elim (cases_lt h.number n) [
          | inl low ↦ inl (record {
            number = h.number;
            low = low;
            can = h.can;
            leaves = h.leaves;
          })
          | inr high ↦ elim (cases_eq h.number k) [
            | inl e ↦ inr (subst (λ (i : ℕ). LeavesBy r value p (Man (step_at i)) v f a b) e h.leaves)
            | inr ne ↦ absurd (let none = next.first h.number high (omega arith) in
                let can = h.can in cc)
          ]
        ]

    pub one_man : (xs ys zs : List ExitPlane) → Adds xs ys (ManBelow n) →
        Adds ys zs (LeavesBy r value p (Man (step_at k))) → Adds xs zs (ManBelow (k + 1))
    one_man xs ys zs g h =
        both (ManBelow n) (LeavesBy r value p (Man (step_at k))) (ManBelow (k + 1)) xs ys zs g h
        (λ v f a b la lb w. let low = w.low in
        let from = next.from in record {
          number = w.number;
          low = omega arith;
          can = w.can;
          leaves = w.leaves;
        })
        (λ v f a b la lb w. record {
          number = k;
          low = omega arith;
          can = next.can;
          leaves = w;
        }) before_or_this

  pub all_men : (n : ℕ) (xs ys : List ExitPlane) → HasNoStepFrom p n → Adds xs ys (ManBelow n) →
      Adds xs ys (ManLeaves r value p)
  all_men n xs ys end h =
      alike (ManBelow n) (ManLeaves r value p) xs ys h
      (λ v f a b la lb w. record {
        step = step_at w.number;
        own = goes_from p (step_at w.number) w.can;
        leaves = w.leaves;
      }) back
    where
      back : (v : Value) (f : Bool) (a b : ℕ) → a < 64 → b < 64 → ManLeaves r value p v f a b →
          ManBelow n v f a b
      back v f a b la lb w =
          let m = w.step in
          let step = w.leaves.leaves.is_step in
          let number = numbered m step in
          let k = step_number m in
          let same : step_at k ≡ m = number.1 in
          let can : can_go p (step_at k) ≡ true = ap (can_go p) same
          ∙ (legal_man p m a b step la lb (made r p a b w.leaves.leaves.here) w.own w.leaves.leaves.legal).0 in
          elim (cases_lt k n) [
            | inl low ↦ record {
              number = k;
              low = low;
              can = can;
              leaves = subst (λ (x : Step). LeavesBy r value p (Man x) v f a b) (sym same) w.leaves;
            }
            | inr high ↦ absurd (let none = end.none k high number.0 in cc)
          ]
