-- What a run says of the files that a store tells, and of the places that may be read.
use Rattle.std.proofs.Common.{◌≡◌, refl, sym, ap, subst, ◌∙◌, ℕ, ◌+◌, ◌≤◌, List, length, Option, Some, None, IfSome, IsSomeAnd, arith}
use Rattle.std.specs.Option.{option_map}
use Rattle.frz_store.specs.Files.{Files, Covers}
use Rattle.frz_store.specs.Told.{StoreTold}
use Rattle.frz_asks.specs.Trees.{Asks, ask_size, over}
use Rattle.frz_asks.specs.Traces.{Trace}
use Rattle.frz_asks.specs.Runs.{came, Run, Sized}
use Rattle.frz_asks.proofs.Traces.{told_trace}

told_if : {A : Type 0} (p : Asks A) (a : A) (o : Option Files)
    → ((m : Files) → o ≡ Some m → over m p ≡ a) → IfSome o (λ m. over m p ≡ a)
told_if p a None f = tt
told_if p a (Some m) f = f m refl

-- what a run gave
pub told_over : {A : Type 0} (p : Asks A) (a : A) (old new : StoreTold) → Run p (came a) old new
    → IfSome old.files (λ m. over m p ≡ a)
unfolding over
told_over p a old new r =
    told_if p a old.files (λ m e. (told_trace m r.seen p r.rest
    (subst (λ o. Trace o r.seen p r.rest) e r.trace)).gives ∙ ap (over m) r.ends.0)

pub size_told : (name : List ℕ) (n : ℕ) (old new : StoreTold)
    → Run (ask_size name) (came (Some n)) old new → Sized new.files name n
unfolding ask_size over
size_told name n old new r =
    subst (λ o. Sized o name n) (sym r.quiet.unwritten.files)
    (told_over (ask_size name) (Some n) old new r)

-- the files are as they were
pub sized_on : (name : List ℕ) (n : ℕ) (old new : Option Files) → new ≡ old → Sized old name n
    → Sized new name n
sized_on name n old new same h = subst (λ o. Sized o name n) (sym same) h

covers_held : (held : Option (List ℕ)) (n at count : ℕ) → option_map length held ≡ Some n
    → at + count ≤ n → IsSomeAnd held (λ bytes. at + count ≤ length bytes)
covers_held None n at count e h = cc
covers_held (Some bytes) n at count e h = let same : length bytes ≡ n = cc in omega (arith, h, same)

pub covers : (files : Option Files) (name : List ℕ) (n at count : ℕ) → Sized files name n
    → at + count ≤ n → IfSome files (Covers at count name)
covers None name n at count e h = tt
covers (Some m) name n at count e h = covers_held (m name) n at count e h
