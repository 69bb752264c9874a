-- What the real objects ask of std, as far as a reader, a writer or a file of std tells.
use Rattle.std.specs.Prelude.{◌≡◌, ℕ, List, [], Option, Some, None, IfSome}
use Rattle.std.specs.Io.KnownBytes.{Appends, Consumes}

-- the whole piece was written to the file that was created last; if there is no such file, the
-- piece is empty
abbrev pub Passes : {W : Type 0} → (contents : W → Option (List ℕ)) → (old new : Option W)
    → List ℕ → Type 0
Passes contents None new piece = piece ≡ []
Passes contents (Some before) None piece = ⊥
Passes contents (Some before) (Some now) piece = Appends (contents before) (contents now) piece

-- the opened file was moved to byte `at`, and these bytes were read from there on
pub record ReadsAt {F : Type 0} (position : F → Option ℕ) (remaining : F → Option (List ℕ))
    (at : ℕ) (bytes : List ℕ) (opened : F) : Type 0 where
  pub placed : F
  pub sent : IfSome (position opened) (λ _. position placed ≡ Some at)
  pub behind : F
  pub reads : Consumes (remaining placed) (remaining behind) bytes
