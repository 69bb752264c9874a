use Rattle.std.proofs.Common.{◌≡◌, ℕ, Bool, true, false, List, Option, Some, None, inl, inr, IfSome, IsNone, refl, sym, subst, ◌∙◌}
use Rattle.std.specs.List.{Contains}
use Rattle.frz_arena.specs.Chosen.{IsFirst, IsFound}
use Rattle.frz_arena.specs.Choices.{has_code}
use Rattle.frz_arena.proofs.Lists.FirstOnes.{at_in}
use Rattle.frz_arena.proofs.choice.choose.Goals as goal

second : {X : Type 0} (with_code : ℕ → X → Bool) (won : Bool) (c : ℕ) (xs : List X) → won ≡ false →
    ((x : X) → Contains xs x → with_code 1 x ≡ false) → (r : Option ℕ) →
    IfSome r (λ i. (x : X) × IsFirst (with_code 0) xs i x) →
    IfSome r (λ i. (x : X) × IsFound with_code won c xs i x)
second with_code won c xs e one None h = h
second with_code won c xs e one (Some i) h = (h.0, rw e (inr (one, h.1)))

neither : {X : Type 0} (with_code : ℕ → X → Bool) (won : Bool) (c : ℕ) (xs : List X) → won ≡ false →
    ((x : X) → Contains xs x → with_code 1 x ≡ false) →
    ((x : X) → Contains xs x → with_code 0 x ≡ false) → (i : ℕ) (x : X) →
    IsFound with_code won c xs i x → ⊥
neither with_code true c xs e one none i x f = cc
neither with_code false c xs e one none i x (inl f) =
    let a = one x (at_in xs i x f.here) in let b = f.passes in cc
neither with_code false c xs e one none i x (inr f) =
    let a = none x (at_in xs i x f.1.here) in let b = f.1.passes in cc

pub returns-in-None-clause-some : goal.returns-in-None-clause-some
returns-in-None-clause-some c =
    second has_code _ c.args.kept c.args.choices.now (sym c.is_win.ensures ∙ c.if-is_win.false)
    (c.first_with-2.ensures.none (subst (λ r. IsNone r) (sym c.in-None.is) refl))
    c.first_with-in-None.result c.first_with-in-None.ensures.some

pub returns-in-None-clause-none : goal.returns-in-None-clause-none
returns-in-None-clause-none c n =
    neither has_code _ c.args.kept c.args.choices.now (sym c.is_win.ensures ∙ c.if-is_win.false)
    (c.first_with-2.ensures.none (subst (λ r. IsNone r) (sym c.in-None.is) refl))
    (c.first_with-in-None.ensures.none n)
