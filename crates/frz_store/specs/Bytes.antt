-- Lists of bytes, and files that hold nothing else.
use Rattle.std.specs.Prelude.{◌≡◌, ℕ, ◌<◌, List, Option, Some, None, IfSome, slice_index}
use Rattle.frz_store.specs.Files.{Files}

-- each number of the list is a byte
abbrev pub AreBytes : List ℕ → Type 0
AreBytes bytes = (i : ℕ) → slice_index bytes i < 256

-- each file holds bytes
abbrev pub HoldsBytes : Files → Type 0
HoldsBytes files = (name : List ℕ) → IfSome (files name) AreBytes

-- the files that a store may hold: those that it tells, or any files of bytes if it does not tell
abbrev pub MayBeHeld : Option Files → Files → Type 0
MayBeHeld None files = HoldsBytes files
MayBeHeld (Some told) files = told ≡ files
