-- The size of a file, step by step.
use Rattle.std.proofs.Common.{◌≡◌, ℕ, ◌+◌, ◌<◌, ◌≤◌, List, length, Ok, Err, arith}
use Rattle.frz_store.specs.Told.{StoreTold}
use Rattle.frz_table.specs.Layout.{due_length}
use Rattle.frz_table.specs.declared.fault.TableFault.TheVariants.{Truncated, Extra, Size}
use Rattle.frz_asks.specs.Runs.{came, Run}
use Rattle.frz_asks.proofs.Lemmas.{run_none, run_on}
use Rattle.frz_table.specs.Asking.{Opened, number_of, sized_as, sizing}
use Rattle.frz_table.proofs.Tests.{below, not_below, different, equal}

module _ (name : List ℕ) (o : Opened) (size kept : ℕ) (old new : StoreTold)
    (h : Run (number_of name (12 + length o.text)) (came kept) old new) where
  sized : Run (sizing name o size) (came (sized_as o size kept)) old new
  unfolding sizing
  sized = run_on _ h (run_none _ _)

  pub other_size : (kept ≡ size → ⊥) → Run (sizing name o size) (came (Err (Size kept size))) old new
  other_size e = rw (different kept size e) at sized

  module _ (same : kept ≡ size) where
    pub too_short : o.file < due_length o.text size
        → Run (sizing name o size) (came (Err (Truncated o.file (due_length o.text size)))) old new
    too_short l = rw (equal kept size same, below o.file (due_length o.text size) l) at sized

    pub too_long : due_length o.text size < o.file
        → Run (sizing name o size) (came (Err (Extra o.file (due_length o.text size)))) old new
    too_long l =
        let not_short : due_length o.text size ≤ o.file = omega (arith, l) in
        rw (
          equal kept size same,
          not_below o.file (due_length o.text size) not_short,
          below (due_length o.text size) o.file l,
        ) at sized

    pub as_due : o.file ≡ due_length o.text size → Run (sizing name o size) (came (Ok tt)) old new
    as_due e =
        let not_short : due_length o.text size ≤ o.file = omega (arith, e) in
        let not_long : o.file ≤ due_length o.text size = omega (arith, e) in
        rw (
          equal kept size same,
          not_below o.file (due_length o.text size) not_short,
          not_below (due_length o.text size) o.file not_long,
        ) at sized
