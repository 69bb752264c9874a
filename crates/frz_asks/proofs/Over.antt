-- What a run says of files that agree with what the store tells: its result is what the calculation
-- gives over them, and its costs are within those that the calculation has there.
use Rattle.std.proofs.Common.{◌≡◌, inl, inr, ap, ◌∙◌, ℕ, List, Some, arith}
use Rattle.std.specs.Prelude.{◌⊎◌}
use Rattle.frz_store.specs.Outside.{Rose}
use Rattle.frz_store.specs.declared.outside.StoreFault.TheVariants.{Failed, NoMemory}
use Rattle.frz_store.specs.Files.{Files}
use Rattle.frz_store.specs.Told.{StoreTold}
use Rattle.frz_asks.specs.Trees.{Question, Asks, over, MayWant}
use Rattle.frz_asks.specs.Traces.{Trace, WantsMemory}
use Rattle.frz_asks.specs.Over.{GivesOver, RanOver, WantedOver}
use Rattle.frz_asks.specs.Runs.{End, came, halted, EndsAt, Run}
use Rattle.frz_asks.specs.Tidy.{unasked, Tidy}
use Rattle.frz_asks.proofs.Traces.{told_trace, next_within, next_bytes_within, wants_told}
use Rattle.frz_asks.proofs.Laying.{agreed}

given : {A : Type 0} (m : Files) (p q : Asks A) (end : End A) (old new : StoreTold)
    → over m p ≡ over m q → EndsAt q end old new → GivesOver m p end
unfolding over
given m p q (came a) old new e h = e ∙ ap (over m) h.0
given m p q (halted h) old new e k = tt

either : {A : Type 0} (m : Files) (s : List Question) (p q : Asks A) (old new : ℕ)
    → Trace (Some m) s p q → Rose old new ⊎ WantsMemory q → Rose old new ⊎ MayWant m p
either m s p q old new t (inl h) = inl h
either m s p q old new t (inr h) = inr (wants_told m s p q t h)

wanted : {A : Type 0} (m : Files) (s : List Question) (p q : Asks A) (end : End A)
    (old new : StoreTold) → Trace (Some m) s p q → EndsAt q end old new
    → WantedOver m p end old new
wanted m s p q (came a) old new t e = tt
wanted m s p q (halted Failed) old new t e = tt
wanted m s p q (halted NoMemory) old new t e = either m s p q old.wants new.wants t e

pub ran_over : {A : Type 0} (p : Asks A) (end : End A) (old new : StoreTold)
    → Tidy (λ x. unasked) p → Run p end old new → RanOver p end old new
ran_over p end old new t r =
    let a = agreed old.files r.seen p r.rest t r.trace in
    let told = told_trace a.m r.seen p r.rest a.trace in record {
      m = a.m;
      held = a.held;
      gives = given a.m p r.rest end old new told.gives r.ends;
      calls = (let x = r.calls in let y = told.calls in let z = next_within a.m r.rest in
          omega (arith, x, y, z));
      asked = (let x = r.asked in let y = told.asked in let z = next_bytes_within a.m r.rest in
          omega (arith, x, y, z));
      wants = wanted a.m r.seen p r.rest end old new a.trace r.ends;
    }
