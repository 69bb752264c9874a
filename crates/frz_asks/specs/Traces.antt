-- Traces: which questions were asked one after the other, and what was answered.
use Rattle.std.specs.Prelude.{◌≡◌, ℕ, ◌+◌, List, [], ◌∷◌, length, Option, IfSome}
use Rattle.frz_store.specs.Bytes.{AreBytes}
use Rattle.frz_store.specs.Files.{Files}
use Rattle.frz_asks.specs.Trees.{Question, file_size, file_bytes, memory, Answer, Asks, gives, asks, size_in, bytes_in, calls_of, bytes_of}

-- what a store may answer: by what it tells, and bytes in any case
pub record SizeFits (told : Option Files) (name : List ℕ) (n : Option ℕ) : Type 0 where
  pub so : IfSome told (λ m. n ≡ size_in m name)

pub record BytesFit (told : Option Files) (name : List ℕ) (at count : ℕ)
    (l : List ℕ) : Type 0 where
  pub long : length l ≡ count
  pub bytes : AreBytes l
  pub so : IfSome told (λ m. l ≡ bytes_in m name at count)

abbrev pub Fits : Option Files → (e : Question) → Answer e → Type 0
Fits told (file_size name) n = SizeFits told name n
Fits told (file_bytes name at count) l = BytesFit told name at count l
Fits told memory x = Unit {0}

-- this question was asked and answered, and then what follows
pub record Event (told : Option Files) (asked e : Question) (Next : Answer e → Type 0) : Type 0 where
  pub same : asked ≡ e
  pub answer : Answer e
  pub fits : Fits told e answer
  pub next : Next answer

-- these questions lead from a calculation to the rest of it, by answers of a store of which this is
-- told
unfoldable pub Trace : {A : Type 0} → Option Files → List Question → Asks A → Asks A → Type 0
Trace told [] p q = p ≡ q
Trace told (asked ∷ s) (gives a) q = ⊥
Trace told (asked ∷ s) (asks e k) q = Event told asked e (λ x. Trace told s (k x) q)

-- how many calls they took, and for how many bytes they asked
unfoldable pub calls_in : List Question → ℕ
calls_in [] = 0
calls_in (e ∷ s) = calls_of e + calls_in s

unfoldable pub bytes_asked : List Question → ℕ
bytes_asked [] = 0
bytes_asked (e ∷ s) = bytes_of e + bytes_asked s

-- the same of the question that is next, and whether it is one for memory
unfoldable pub next_calls : {A : Type 0} → Asks A → ℕ
next_calls (gives a) = 0
next_calls (asks e k) = calls_of e

unfoldable pub next_bytes : {A : Type 0} → Asks A → ℕ
next_bytes (gives a) = 0
next_bytes (asks e k) = bytes_of e

unfoldable pub WantsMemory : {A : Type 0} → Asks A → Type 0
WantsMemory (gives a) = ⊥
WantsMemory (asks e k) = e ≡ memory
