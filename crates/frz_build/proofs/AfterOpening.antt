-- What a build leaves that comes after calls which wrote nothing, as those that open other tables.
use Rattle.std.proofs.Common.{◌≡◌, ◌≢◌, ◌⊎◌, refl, sym, ap, subst, ◌∙◌, ℕ, ◌+◌, ◌≤◌, List, take, Option, None, Some, Result, Ok, Err, arith}
use Rattle.std.specs.Prelude.{OnSome}
use Rattle.std.specs.Option.{option_map}
use Rattle.std.specs.Str.{bytes_eq}
use Rattle.std.proofs.lemmas.Slice.Eq.{bytes_eq-Decides}
use Rattle.std.proofs.lemmas.Bool.{false_from_ne_true}
use Rattle.frz_board.specs.Boards.{Board}
use Rattle.frz_sets.specs.declared.exit.Value.{Value}
use Rattle.frz_sets.specs.Views.{RuleLines}
use Rattle.frz_store.specs.Files.{Files, put}
use Rattle.frz_store.specs.Outside.{Rose}
use Rattle.frz_store.specs.Told.{StoreTold, StoreFine, StoreQuiet}
use Rattle.frz_store.specs.Writes.{Written}
use Rattle.frz_store.specs.declared.outside.StoreFault.{StoreFault}
use Rattle.frz_store.specs.declared.outside.StoreFault.TheVariants.{Failed, NoMemory}
use Rattle.frz_store.proofs.Lemmas.{later_store, put-off}
use Rattle.frz_table.specs.Possible.{MayHold}
use Rattle.frz_table.proofs.Lemmas.{fine_after, quiet_after}
use Rattle.frz_check.specs.OneFile.{IsOneFile}
use Rattle.frz_build.specs.Building.{Builds}

-- no call, and nothing written
pub quiet_same : (old : StoreTold) → StoreQuiet old old
quiet_same old = record {
  unwritten = record { files = refl; last = refl; room = refl };
  later = record {
    asked = omega arith;
    calls = omega arith;
    faults = omega arith;
    wants = omega arith;
  };
}

-- so much was written since before those calls
written_after : {T : Type 0} (name bytes : List ℕ) (result : Result T StoreFault)
    (old mid new : StoreTold) → StoreQuiet old mid → StoreFine old mid
    → Written name bytes result mid new → Written name bytes result old new
written_after name bytes (Ok x) old mid new quiet fine h = (
  record {
    files = h.0.files ∙ ap (option_map (λ m. put m name bytes)) quiet.unwritten.files;
    last = subst (λ (o : Option Files). OnSome o (new.last ≡ Some name)) quiet.unwritten.files
        h.0.last;
    later = later_store old mid new quiet.later h.0.later;
  },
  fine_after old mid new fine h.1,
)
written_after name bytes (Err Failed) old mid new quiet fine h = (
  record {
    files = subst (λ (o : Option Files). (new.files ≡ o)
        ⊎ ((k : ℕ) × (new.files ≡ option_map (λ m. put m name (take k bytes)) o)))
        quiet.unwritten.files h.0.files;
    later = later_store old mid new quiet.later h.0.later;
  },
  subst (λ (n : ℕ). Rose n new.faults) fine.faults h.1,
)
written_after name bytes (Err NoMemory) old mid new quiet fine h =
    quiet_after old mid new quiet h

-- and it is the one file by each book of the same values
pub builds_after : {T : Type 0} (magic text : List ℕ) (rules : RuleLines)
    (value same : Board → Value) (name : List ℕ) (result : Result T StoreFault)
    (old mid new : StoreTold) → value ≡ same → StoreQuiet old mid → StoreFine old mid
    → Builds magic text rules value name result mid new
    → Builds magic text rules same name result old new
builds_after magic text rules value same name result old mid new is quiet fine h = record {
  bytes = h.bytes;
  one_file = subst (λ (v : Board → Value). IsOneFile magic text rules v h.bytes) is h.one_file;
  written = written_after name h.bytes result old mid new quiet fine h.written;
}

-- another name may hold what it held
pub still_held : (name other bytes : List ℕ) (held : Option (List ℕ)) → name ≢ other
    → (old new : Option Files) → new ≡ option_map (λ m. put m name bytes) old
    → MayHold old other held → MayHold new other held
still_held name other bytes held differs None new e may =
    subst (λ (o : Option Files). MayHold o other held) (sym e) may
still_held name other bytes held differs (Some m) new e may =
    subst (λ (o : Option Files). MayHold o other held) (sym e)
    (put-off m name bytes other
    (false_from_ne_true (bytes_eq name other)
    (λ same. differs ((bytes_eq-Decides name other).0 same))) ∙ may)

-- what opening cost and what came after it are within the whole cost
pub costs_added : (start middle end first second all : ℕ) → all ≡ first + second
    → middle ≤ start + first → end ≤ middle + second → end ≤ start + all
costs_added start middle end first second all is few more = omega (arith, is, few, more)

-- and so is what opening cost, where no more came
pub costs_kept : (start middle end all : ℕ) → middle ≤ start + all → end ≤ middle
    → end ≤ start + all
costs_kept start middle end all few more = omega (arith, few, more)
