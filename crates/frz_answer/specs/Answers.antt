-- What a call of the program is to answer, and how much of the answer it gave.
use Rattle.std.specs.Prelude.{◌≡◌, ◌⊎◌, ℕ, ◌+◌, ◌≤◌, List, [], ◌∷◌, ◌++◌, drop, take, Option}
use Rattle.std.specs.Option.{option_map}
use Rattle.std.specs.Io.KnownBytes.{append_known}
use Rattle.frz_store.specs.Files.{Files}
use Rattle.frz_answer.specs.declared.status.Status.{Status}
use Rattle.frz_store.specs.Told.{SinkTold}
use Rattle.frz_answer.specs.World.{World}

-- an answer: the status, the text, the files afterwards, and how many bytes of the input are taken
pub record Answer : Type 0 where
  pub status : Status
  pub text : List ℕ
  pub files : Files
  pub taken : ℕ

-- the answer with this status and this text that takes nothing of the input
abbrev pub says : Status → List ℕ → Files → Answer
says status text files = record { status = status; text = text; files = files; taken = 0 }

-- an answer with these lines before its text, which takes so many more bytes of the input
abbrev pub behind : List ℕ → ℕ → Answer → Answer
behind lines count a = record a { text = lines ++ a.text; taken = count + a.taken }

-- there is such an answer, and its text is not empty
pub record SomeAnswer (R : Answer → Type 0) : Type 0 where
  pub a : Answer
  pub answer : R a
  pub text : a.text ≡ [] → ⊥

-- files, input and sink are left as the answer says
pub record Gives (a : Answer) (old new : World) : Type 0 where
  pub files : new.store.files ≡ option_map (λ _. a.files) old.store.files
  pub left : new.input.left ≡ option_map (drop a.taken) old.input.left
  pub text : new.out.taken ≡ append_known old.out.taken a.text

-- the text is empty, or consists of whole lines
abbrev pub IsLines : List ℕ → Type 0
IsLines text = (text ≡ []) ⊎ ((front : List ℕ) × (text ≡ front ++ 10 ∷ []))

-- the sink took some whole lines, and then `last`
pub record TookLines (last : List ℕ) (old new : SinkTold) : Type 0 where
  pub lines : List ℕ
  pub whole : IsLines lines
  pub text : new.taken ≡ append_known old.taken (lines ++ last)

-- what a name holds, where it is known what the files are
abbrev pub held : Option Files → List ℕ → Option (Option (List ℕ))
held files name = option_map (λ m. m name) files

-- the name holds what it held before, or a prefix of what the answer gives it
abbrev pub IsPart : Answer → List ℕ → Option Files → Option Files → Type 0
IsPart a name old new =
    (held new name ≡ held old name)
    ⊎ ((k : ℕ) × (held new name ≡ option_map (λ _. option_map (take k) (a.files name)) old))

-- no more was done than the answer says: each name holds what it held before, or a prefix of what
-- the answer gives it, and no more of the input was taken
pub record NoMore (a : Answer) (old new : World) : Type 0 where
  pub files : (name : List ℕ) → IsPart a name old.store.files new.store.files
  pub left : (k : ℕ) × (k ≤ a.taken) × (new.input.left ≡ option_map (drop k) old.input.left)

-- whole lines that begin the answer's text were written, but not all of it, and then `last`
pub record Begins (a : Answer) (last : List ℕ) (old new : World) : Type 0 where
  pub lines : List ℕ
  pub rest : List ℕ
  pub whole : IsLines lines
  pub begins : lines ++ rest ≡ a.text
  pub more : rest ≡ [] → ⊥
  pub text : new.out.taken ≡ append_known old.out.taken (lines ++ last)
  pub others : NoMore a old new

-- a text that begins the answer's text was written
pub record Cuts (a : Answer) (old new : World) : Type 0 where
  pub written : List ℕ
  pub rest : List ℕ
  pub begins : written ++ rest ≡ a.text
  pub text : new.out.taken ≡ append_known old.out.taken written
  pub others : NoMore a old new
