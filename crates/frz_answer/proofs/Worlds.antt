-- Worlds that follow on one another.
use Rattle.std.proofs.Common.{◌≡◌, inr, refl, sym, ap, subst, ◌∙◌, ℕ, ◌≤◌, List, take, length, Option, Some, None, Result, Ok, Err, arith}
use Rattle.std.proofs.Math.Seq.{take-length}
use Rattle.std.specs.Prelude.{IfSome, OnOk}
use Rattle.std.specs.Option.{option_map}
use Rattle.frz_store.specs.Bytes.{MayBeHeld}
use Rattle.frz_store.specs.Files.{Files}
use Rattle.frz_store.specs.Outside.{Rose, FreeCauses}
use Rattle.frz_store.specs.Told.{StoreTold, SourceTold, SinkTold, Unwritten, StoreLater, StoreQuiet, StoreFine}
use Rattle.frz_store.specs.declared.outside.StoreFault.{StoreFault}
use Rattle.frz_store.specs.declared.outside.StoreFault.TheVariants.{Failed}
use Rattle.frz_store.proofs.Lemmas.{later_store}
use Rattle.frz_answer.specs.World.{World, world, Agrees, Later, Fine, Quiet}
use Rattle.frz_answer.specs.Answers.{Answer, held, IsPart}
use Rattle.frz_answer.specs.Ends.{WritesOnly}

later_none : (store : StoreTold) → StoreLater store store
later_none store =
    record { asked = omega arith; calls = omega arith; faults = omega arith; wants = omega arith }

pub later_same : (w : World) → Later w w
later_same w = record {
  store = later_none w.store;
  input = omega arith;
  out = omega arith;
  steps = omega arith;
}

pub later_on : (old mid new : World) → Later old mid → Later mid new → Later old new
later_on old mid new h k = record {
  store = later_store old.store mid.store new.store h.store k.store;
  input = (let a = h.input in let b = k.input in omega (arith, a, b));
  out = (let a = h.out in let b = k.out in omega (arith, a, b));
  steps = (let a = h.steps in let b = k.steps in omega (arith, a, b));
}

pub fine_same : (w : World) → Fine w w
fine_same w = record { store = record { faults = refl; wants = refl }; input = refl; out = refl }

pub fine_steps : (store : StoreTold) (input : SourceTold) (out : SinkTold) (before now : ℕ)
    → Fine (world store input out before) (world store input out now)
fine_steps store input out before now =
    record { store = record { faults = refl; wants = refl }; input = refl; out = refl }

pub fine_store : (old new : StoreTold) (input : SourceTold) (out : SinkTold) (before now : ℕ)
    → StoreFine old new → Fine (world old input out before) (world new input out now)
fine_store old new input out before now h = record { store = h; input = refl; out = refl }

pub fine_on : (old mid new : World) → Fine old mid → Fine mid new → Fine old new
fine_on old mid new h k = record {
  store = record {
    faults = k.store.faults ∙ h.store.faults;
    wants = k.store.wants
        ∙ h.store.wants;
  };
  input = k.input ∙ h.input;
  out = k.out ∙ h.out;
}

pub unwritten_same : (store : StoreTold) → Unwritten store store
unwritten_same store = record { files = refl; last = refl; room = refl }

pub quiet_same : (w : World) → Quiet w w
quiet_same w =
    record { later = later_same w; store = unwritten_same w.store; left = refl; taken = refl }

-- steps alone, or calls of the store alone
pub quiet_steps : (store : StoreTold) (input : SourceTold) (out : SinkTold) (before now : ℕ)
    → before ≤ now → Quiet (world store input out before) (world store input out now)
quiet_steps store input out before now more = record {
  later = record { store = later_none store; input = omega arith; out = omega arith; steps = more };
  store = unwritten_same store;
  left = refl;
  taken = refl;
}

-- calls of the store and steps
pub quiet_both : (old new : StoreTold) (input : SourceTold) (out : SinkTold) (before now : ℕ)
    → StoreQuiet old new → before ≤ now
    → Quiet (world old input out before) (world new input out now)
quiet_both old new input out before now quiet later = record {
  later = record { store = quiet.later; input = omega arith; out = omega arith; steps = later };
  store = quiet.unwritten;
  left = refl;
  taken = refl;
}

pub quiet_store : (old new : StoreTold) (input : SourceTold) (out : SinkTold) (steps : ℕ)
    → StoreQuiet old new → Quiet (world old input out steps) (world new input out steps)
quiet_store old new input out steps h = record {
  later = record { store = h.later; input = omega arith; out = omega arith; steps = omega arith };
  store = h.unwritten;
  left = refl;
  taken = refl;
}

pub unwritten_on : (old mid new : StoreTold) → Unwritten old mid → Unwritten mid new
    → Unwritten old new
unwritten_on old mid new h k =
    record { files = k.files ∙ h.files; last = k.last ∙ h.last; room = k.room ∙ h.room }

pub only_unwritten : (writes : Option (List ℕ)) (old new : StoreTold) → Unwritten old new
    → WritesOnly writes old new
only_unwritten None old new h = h
only_unwritten (Some name) old new h = λ q other. ap (λ (o : Option Files). held o q) h.files

pub only_on : (writes : Option (List ℕ)) (old mid new : StoreTold) → WritesOnly writes old mid
    → WritesOnly writes mid new → WritesOnly writes old new
only_on None old mid new h k = unwritten_on old mid new h k
only_on (Some name) old mid new h k = λ q other. k q other ∙ h q other

-- what agrees with a world agrees with one that tells the same
told_on : {A : Type 0} (old new : Option A) (x : A) → new ≡ old → IfSome old (λ m. m ≡ x)
    → IfSome new (λ m. m ≡ x)
told_on {A} old new x e h = subst (λ (o : Option A). IfSome o (λ m. m ≡ x)) (sym e) h

pub agrees_on : (old new : World) (files : Files) (input : List ℕ)
    → new.store.files ≡ old.store.files → new.input.left ≡ old.input.left → Agrees old files input
    → Agrees new files input
agrees_on old new files input e f h =
    record {
      store = subst (λ (o : Option Files). MayBeHeld o files) (sym e) h.store;
      source = told_on old.input.left new.input.left input f h.source;
    }

-- a count that rose stays risen
pub still_risen : (before mid now : ℕ) → Rose before mid → mid ≤ now → Rose before now
still_risen before mid now rose later = omega (arith, rose, later)

pub risen_later : (before mid now : ℕ) → before ≤ mid → Rose mid now → Rose before now
risen_later before mid now later rose = omega (arith, rose, later)

-- a refusal that raised the count of faults
pub refusal_rose : {T : Type 0} (fault : StoreFault) (before now wants wants' : ℕ)
    (result : Result T StoreFault) → FreeCauses before now wants wants' result → result ≡ Err fault
    → fault ≡ Failed → Rose before now
refusal_rose {T} fault before now wants wants' result h is e =
    h.failed (let err : StoreFault → Result T StoreFault = λ f. Err f in is ∙ ap err e)

-- a call that succeeded left the counts
pub ok_fine : {T : Type 0} (before now wants wants' : ℕ) (result : Result T StoreFault) (x : T)
    → FreeCauses before now wants wants' result → result ≡ Ok x → (now ≡ before) × (wants' ≡ wants)
ok_fine {T} before now wants wants' result x h is = (
  subst (λ (r : Result T StoreFault). OnOk r (now ≡ before)) is h.fine,
  subst (λ (r : Result T StoreFault). OnOk r (wants' ≡ wants)) is h.wants_fine,
)

-- a name that holds what the answer gives it holds a prefix of it
whole_part : (given : Option (List ℕ)) → (k : ℕ) × (given ≡ option_map (take k) given)
whole_part None = (0, refl)
whole_part (Some bytes) = (length bytes, ap Some (sym (take-length bytes)))

held_given : (a : Answer) (name : List ℕ) (old : Option Files)
    → held (option_map (λ _. a.files) old) name ≡ option_map (λ _. a.files name) old
held_given a name None = refl
held_given a name (Some m) = refl

pub given_part : (a : Answer) (name : List ℕ) (old new : Option Files)
    → new ≡ option_map (λ _. a.files) old → IsPart a name old new
given_part a name old new e =
    let part = whole_part (a.files name) in
    inr (
      part.0,
      ap (λ (o : Option Files). held o name) e ∙ held_given a name old
          ∙ ap (λ (g : Option (List ℕ)). option_map (λ _. g) old) part.1,
    )
