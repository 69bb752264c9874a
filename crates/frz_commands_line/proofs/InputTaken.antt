-- What a command that wrote lines has taken of its input, and what is left of it.
use Rattle.std.proofs.Common.{◌≡◌, refl, sym, ap, subst, ◌∙◌, ℕ, List, ◌++◌, ◌≤◌, drop, length, Bool, true, false, IsTrue, Option, Some, None, arith}
use Rattle.std.specs.Prelude.{IfSome}
use Rattle.std.specs.Option.{option_map}
use Rattle.std.proofs.Math.Seq.{drop-append_seam}
use Rattle.frz_store.specs.Bytes.{MayBeHeld}
use Rattle.frz_store.specs.Files.{Files}
use Rattle.frz_store.specs.Told.{StoreTold, SourceTold, SinkTold, StoreQuiet}
use Rattle.frz_answer.specs.Texts.{TookText}
use Rattle.frz_answer.specs.World.{World, world, Came, Quiet}
use Rattle.frz_answer.specs.Jobs.{Job}
use Rattle.frz_answer.proofs.Lemmas.{Found, text_came}
use Rattle.frz_ways.specs.SessionFaults.{TookBytes}

pub never_both : {A : Type 0} (b : Bool) → b ≡ true → b ≡ false → A
never_both b e f = let no : true ≡ false = sym e ∙ f in cc

-- some input that may be told, for a job that takes input
abbrev pub found_in : (job : Job) (files : Files) (free : List ℕ) (old : World) (input : List ℕ)
    → IsTrue job.needs.input → MayBeHeld old.store.files files
    → IfSome old.input.left (λ told. told ≡ input) → Found job files free old
found_in job files free old input takes there may = record {
  files = files;
  input = input;
  agrees = record { store = there; source = may };
  free = λ e. refl;
  untaken = λ e. never_both job.needs.input takes e;
}

-- what is left behind the bytes, where it is told, is the rest
pub rest_left : (bytes rest input : List ℕ) (old mid : Option (List ℕ)) → bytes ++ rest ≡ input
    → mid ≡ option_map (drop (length bytes)) old → IfSome old (λ told. told ≡ input)
    → IfSome mid (λ told. told ≡ rest)
rest_left bytes rest input None mid split e h =
    subst (λ (o : Option (List ℕ)). IfSome o (λ told. told ≡ rest)) (sym e) tt
rest_left bytes rest input (Some left) mid split e h =
    subst (λ (o : Option (List ℕ)). IfSome o (λ told. told ≡ rest)) (sym e)
    (ap (drop (length bytes)) (h ∙ sym split) ∙ drop-append_seam bytes rest)

-- the input as it was left, with no fault yet
abbrev pub unfailed_source : (source gone : SourceTold) → SourceTold
unfailed_source source gone = record { left = gone.left; faults = source.faults }

-- lines were written and bytes taken, and nothing else was done
pub lines_came : (text bytes : List ℕ) (store : StoreTold) (source gone : SourceTold)
    (out mid : SinkTold) (steps : ℕ) → TookText text out mid → TookBytes bytes source gone
    → Came text bytes (world store source out steps)
    (world store (unfailed_source source gone) mid steps)
lines_came text bytes store source gone out mid steps wrote took =
    let came = text_came text (world store source out steps) mid wrote in
    let later = came.later in
    record {
      later = record {
        store = later.store;
        input = later.input;
        out = later.out;
        steps = later.steps;
      };
      fine = record { store = came.fine.store; input = refl; out = came.fine.out };
      store = came.store;
      took = took.front;
      left = took.behind;
      taken = came.taken;
    }

-- and then the store was used, and the input may have failed
pub quiet_then : (store left : StoreTold) (source gone : SourceTold) (out : SinkTold)
    (before now : ℕ) → StoreQuiet store left → source.faults ≤ gone.faults → before ≤ now
    → Quiet (world store (unfailed_source source gone) out before) (world left gone out now)
quiet_then store left source gone out before now quiet fell later = record {
  later = record { store = quiet.later; input = fell; out = omega arith; steps = later };
  store = quiet.unwritten;
  left = refl;
  taken = refl;
}
