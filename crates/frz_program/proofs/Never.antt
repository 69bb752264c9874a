-- Statuses that never come where no count of the objects rises.
use Rattle.std.proofs.Common.{◌≡◌, ◌≢◌, inl, inr, refl, sym, ap, ◌∙◌, ℕ, Bool, true, false, ◌==◌, ◌||◌, arith}
use Rattle.frz_store.specs.Outside.{Rose}
use Rattle.frz_answer.specs.declared.status.Status.{Status}
use Rattle.frz_answer.specs.declared.status.Status.TheVariants as statuses
use Rattle.frz_answer.specs.declared.fault.Fault.TheVariants as faults
use Rattle.frz_answer.specs.Statuses.{code_of}
use Rattle.frz_answer.specs.World.{World}
use Rattle.frz_answer.specs.Jobs.{Job}
use Rattle.frz_answer.specs.Outcomes.{HasStatus}

-- the status is that of a fault of the outside
abbrev is_outside : ℕ → Bool
is_outside n = (n == 8) || (n == 9) || (n == 10)

own_is_not : (s : Status) → is_outside (code_of s) ≡ false
own_is_not statuses.Success = refl
own_is_not statuses.Words = refl
own_is_not statuses.Rules = refl
own_is_not statuses.Fen = refl
own_is_not statuses.Table = refl
own_is_not statuses.Wrong = refl
own_is_not statuses.Outside = refl
own_is_not statuses.Missing = refl
own_is_not statuses.Limit = refl
own_is_not statuses.NoMove = refl

-- a count of nothing did not rise
never_rose : (old new : ℕ) → new ≡ 0 → Rose old new → ⊥
never_rose old new e h = omega (arith, e, h)

-- a status of the outside is not the call's where no object has ever failed
pub not_given : (job : Job) (status other : ℕ) (old new : World) → is_outside other ≡ true
    → new.store.faults ≡ 0 → new.input.faults ≡ 0 → new.out.faults ≡ 0
    → HasStatus job status old new → status ≢ other
not_given job status other old new outside store input out (inl (s, one, e, fine)) is =
    let no : true ≡ false = sym outside ∙ sym (ap is_outside is) ∙ ap is_outside e ∙ own_is_not s in
    cc
not_given job status other old new outside store input out (inr (inl (faults.Store, meets, e))) is =
    never_rose old.store.faults new.store.faults store meets.1
not_given job status other old new outside store input out (inr (inl (faults.Input, meets, e))) is =
    never_rose old.input.faults new.input.faults input meets.1
not_given job status other old new outside store input out
    (inr (inl (faults.NoMemory, meets, e))) is =
    let no : true ≡ false = sym outside ∙ sym (ap is_outside is) ∙ ap is_outside e in cc
not_given job status other old new outside store input out (inr (inr (rose, e))) is =
    never_rose old.out.faults new.out.faults out rose
