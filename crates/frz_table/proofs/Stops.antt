-- How the faults of a table end a run.
use Rattle.std.proofs.Common.{◌≡◌, refl, sym, subst, ℕ, Option, None, Some, Result, Ok, Err}
use Rattle.std.specs.Result.{IsErrOf}
use Rattle.frz_asks.specs.Runs.{came, halted, refused, end_of, stop_end, Run}
use Rattle.frz_asks.specs.Trees.{Asks}
use Rattle.frz_store.specs.Told.{StoreTold}
use Rattle.frz_store.specs.declared.outside.StoreFault.{StoreFault}
use Rattle.frz_store.specs.declared.outside.StoreFault.TheVariants as store
use Rattle.frz_table.specs.Faults.{IsOutside, TableCauses, UnlessOutside, fault_of, magic_fault, stop_of}
use Rattle.frz_table.specs.declared.other.OtherFile.{OtherFile}
use Rattle.frz_table.specs.declared.fault.TableFault.{TableFault}
use Rattle.frz_table.specs.declared.fault.TableFault.TheVariants.{Missing, Magic, Other, Truncated, Extra, Rules, Size, Failed, NoMemory}

-- a fault of the store halts it
pub halts : {B : Type 0} {q : Asks (Result B TableFault)} {old new : StoreTold} (h : StoreFault)
    → Run q (halted h) old new → Run q (stop_end {A = B} (stop_of (fault_of h))) old new
halts store.Failed r = r
halts store.NoMemory r = r

-- and a file that begins as it is not due is refused
pub refuses : {B : Type 0} {q : Asks (Result B TableFault)} {old new : StoreTold} (other : Option OtherFile)
    → Run q (came (Err (magic_fault other))) old new
    → Run q (stop_end {A = B} (stop_of (magic_fault other))) old new
refuses None r = r
refuses (Some other) r = r

-- a fault of the file
pub record OfFile (fault : TableFault) : Type 0 where
  pub stops : stop_of fault ≡ refused fault
  pub inside : IsOutside fault → ⊥
  pub unless : (a b : ℕ) → a ≡ b → UnlessOutside fault (a ≡ b)
  pub never_failed : fault ≡ Failed → ⊥
  pub never_wanted : fault ≡ NoMemory → ⊥

pub data Sort (fault : TableFault) : Type 0 where
  of_file : OfFile fault → Sort fault
  failed : fault ≡ Failed → Sort fault
  wanted : fault ≡ NoMemory → Sort fault

file_fault : {fault : TableFault} → stop_of fault ≡ refused fault → (IsOutside fault → ⊥)
    → ((a b : ℕ) → a ≡ b → UnlessOutside fault (a ≡ b)) → (fault ≡ Failed → ⊥) → (fault ≡ NoMemory → ⊥)
    → Sort fault
file_fault a b c d e = of_file (record {
  stops = a;
  inside = b;
  unless = c;
  never_failed = d;
  never_wanted = e;
})

pub sort : (fault : TableFault) → Sort fault
sort Missing = file_fault refl (λ x. x) (λ a b x. x) (λ e. cc) (λ e. cc)
sort Magic = file_fault refl (λ x. x) (λ a b x. x) (λ e. cc) (λ e. cc)
sort (Other o) = file_fault refl (λ x. x) (λ a b x. x) (λ e. cc) (λ e. cc)
sort (Truncated a b) = file_fault refl (λ x. x) (λ c d x. x) (λ e. cc) (λ e. cc)
sort (Extra a b) = file_fault refl (λ x. x) (λ a b x. x) (λ e. cc) (λ e. cc)
sort (Rules f) = file_fault refl (λ x. x) (λ a b x. x) (λ e. cc) (λ e. cc)
sort (Size a b) = file_fault refl (λ x. x) (λ a b x. x) (λ e. cc) (λ e. cc)
sort Failed = failed refl
sort NoMemory = wanted refl

-- a run says what raised the counts
same_fault : {T : Type 0} (a b : TableFault) → IsErrOf {T = T} {E = TableFault} (Err a) b → a ≡ b
same_fault a b is = cc

pub causes_by : {T A : Type 0} (view : T → A) (p : Asks (Result A TableFault)) (r : Result T TableFault)
    (old new : StoreTold) → Run p (end_of stop_of view r) old new
    → TableCauses {T = T} old.faults new.faults old.wants new.wants r
causes_by view p (Ok t) old new run = record {
  later = run.quiet.later.faults;
  wants_later = run.quiet.later.wants;
  fine = run.ends.1.faults;
  wants_fine = run.ends.1.wants;
  refused = tt;
  wants_refused = tt;
  failed = λ e. absurd cc;
}
causes_by {T} {A} view p (Err f) old new run = by_sort (sort f)
  where
    by_sort : Sort f → TableCauses {T = T} old.faults new.faults old.wants new.wants (Err f)
    by_sort (of_file h) =
        let came_so : Run p (came (Err f)) old new =
        subst (λ s. Run p (stop_end {A = A} s) old new) h.stops run in record {
          later = run.quiet.later.faults;
          wants_later = run.quiet.later.wants;
          fine = tt;
          wants_fine = tt;
          refused = h.unless new.faults old.faults came_so.ends.1.faults;
          wants_refused = h.unless new.wants old.wants came_so.ends.1.wants;
          failed = λ e. absurd (h.never_failed (same_fault {T = T} f Failed e));
        }
    by_sort (failed e) =
        let halted_so : Run p (halted store.Failed) old new =
        subst (λ x. Run p (stop_end {A = A} (stop_of x)) old new) e run in
        subst (λ x. TableCauses {T = T} old.faults new.faults old.wants new.wants (Err x)) (sym e)
        (record {
          later = run.quiet.later.faults;
          wants_later = run.quiet.later.wants;
          fine = tt;
          wants_fine = tt;
          refused = tt;
          wants_refused = tt;
          failed = λ _. halted_so.ends;
        })
    by_sort (wanted e) =
        subst (λ x. TableCauses {T = T} old.faults new.faults old.wants new.wants (Err x)) (sym e)
        (record {
          later = run.quiet.later.faults;
          wants_later = run.quiet.later.wants;
          fine = tt;
          wants_fine = tt;
          refused = tt;
          wants_refused = tt;
          failed = λ k. absurd cc;
        })
