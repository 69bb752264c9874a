-- What a store holds, as a function of the name: the bytes of the file, or none if it is not there.
use Rattle.std.specs.Prelude.{ℕ, ◌+◌, ◌≤◌, List, [], ◌++◌, length, Option, Some, None, IsSomeAnd, if◌then◌else◌}
use Rattle.std.specs.Option.{unwrap_or}
use Rattle.std.specs.Str.{bytes_eq}

abbrev pub Files : Type 0
Files = List ℕ → Option (List ℕ)

-- no file is there
abbrev pub no_files : Files
no_files = λ _. None

-- the files after the name was made to hold these bytes: every other name holds what it held
unfoldable pub put : Files → List ℕ → List ℕ → Files
put m name bytes = λ q. if bytes_eq name q then Some bytes else m q

-- the bytes of the file, and no bytes if it is not there
abbrev pub bytes_at : Files → List ℕ → List ℕ
bytes_at m name = unwrap_or (m name) []

-- the files after these bytes were appended to the named file; without a name nothing changes
abbrev pub grown : Option (List ℕ) → List ℕ → Files → Files
grown None piece m = m
grown (Some name) piece m = put m name (bytes_at m name ++ piece)

-- the file is there and has at least `count` bytes from byte `at` on
abbrev pub Covers : ℕ → ℕ → List ℕ → Files → Type 0
Covers at count name m = IsSomeAnd (m name) (λ bytes. at + count ≤ length bytes)
