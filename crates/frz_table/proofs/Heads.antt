-- The head of a file, step by step.
use Rattle.std.proofs.Common.{◌≡◌, ℕ, ◌+◌, ◌<◌, ◌≤◌, true, false, List, Option, Some, Result, Ok, Err, subst}
use Rattle.std.specs.Str.{bytes_eq}
use Rattle.frz_rules.specs.declared.fault.RulesCause.TheVariants.{TooLong}
use Rattle.frz_store.specs.Files.{Files}
use Rattle.frz_store.specs.Told.{StoreTold}
use Rattle.frz_table.specs.declared.fault.TableFault.{TableFault}
use Rattle.frz_table.specs.declared.fault.TableFault.TheVariants.{Truncated, Rules}
use Rattle.frz_asks.specs.Trees.{ask_size, ask_bytes, bind, over}
use Rattle.frz_asks.specs.Runs.{End, came, Run}
use Rattle.frz_asks.proofs.Lemmas.{run_none, run_on, told_over}
use Rattle.frz_table.specs.declared.head.Head.{Head}
use Rattle.frz_table.specs.Asking.{number_of, by_length, by_magic, by_size, heading}
use Rattle.frz_table.specs.Faults.{magic_fault}
use Rattle.frz_table.specs.Layout.{Front}
use Rattle.frz_table.specs.Tables.{Begins}
use Rattle.frz_table.proofs.Tests.{below, not_below}

-- the bytes that were read are those with which the file begins
pub begun : (name front : List ℕ) (old s1 s2 : StoreTold) → s1.files ≡ old.files
    → Run (ask_bytes name 0 8) (came front) s1 s2 → Begins old.files name front
unfolding over ask_bytes
begun name front old s1 s2 same k =
    subst (λ (o : Option Files). Begins o name front) same
    (told_over (ask_bytes name 0 8) front s1 s2 k)

module _ (name : List ℕ) (begin : Front) (file : ℕ) (old s1 : StoreTold)
    (h : Run (ask_size name) (came (Some file)) old s1) where
  pub short : file < 16 → Run (heading name begin) (came (Err (Truncated file 16))) old s1
  unfolding heading
  short few = run_on (by_size name begin) h (rw (below file 16 few) (run_none _ _))

  pub long : {end : End (Result Head TableFault)} {new : StoreTold} → 16 ≤ file
      → Run (bind (ask_bytes name 0 8) (by_magic name begin file)) end s1 new
      → Run (heading name begin) end old new
  unfolding heading
  long enough k = run_on (by_size name begin) h (rw (not_below file 16 enough) k)

  module _ (front : List ℕ) (s2 : StoreTold) (k : Run (ask_bytes name 0 8) (came front) s1 s2)
      (enough : 16 ≤ file) where
    pub other : bytes_eq front (begin.magic front) ≡ false
        → Run (heading name begin) (came (Err (magic_fault (begin.other front)))) old s2
    other e = long enough (run_on (by_magic name begin file) k (rw e (run_none _ _)))

    pub same : {end : End (Result Head TableFault)} {new : StoreTold} → bytes_eq front (begin.magic front) ≡ true
        → Run (bind (number_of name 8) (by_length file)) end s2 new
        → Run (heading name begin) end old new
    same e n = long enough (run_on (by_magic name begin file) k (rw e n))

    module _ (text : ℕ) (s3 : StoreTold) (n : Run (number_of name 8) (came text) s2 s3)
        (e : bytes_eq front (begin.magic front) ≡ true) where
      pub too_long : 65536 < text → Run (heading name begin)
          (came (Err (Rules (record { line = 0; cause = TooLong })))) old s3
      too_long l = same e (run_on (by_length file) n (rw (below 65536 text l) (run_none _ _)))

      pub cut : text ≤ 65536 → file < 16 + text
          → Run (heading name begin) (came (Err (Truncated file (16 + text)))) old s3
      cut l f = same e (run_on (by_length file) n
          (rw (not_below 65536 text l, below file (16 + text) f) (run_none _ _)))

      pub whole : text ≤ 65536 → 16 + text ≤ file
          → Run (heading name begin) (came (Ok (record { file = file; text = text }))) old s3
      whole l f = same e (run_on (by_length file) n
          (rw (not_below 65536 text l, not_below file (16 + text) f) (run_none _ _)))
