-- Calculations that ask the outside as they go, as interaction trees: a calculation gives its
-- result, or asks a question and goes on by the answer.
use Rattle.std.specs.Prelude.{ℕ, ◌+◌, List, length, take, drop, Option, Result, Ok, Err}
use Rattle.std.specs.Option.{option_map}
use Rattle.frz_store.specs.Files.{Files, bytes_at}

-- how long is the file of this name, which bytes does it hold from a place on, and is there memory
pub data Question : Type 0 where
  file_size : (name : List ℕ) → Question
  file_bytes : (name : List ℕ) → (at count : ℕ) → Question
  memory : Question

-- what may be answered; without memory a calculation does not go on
abbrev pub Answer : Question → Type 0
Answer (file_size name) = Option ℕ
Answer (file_bytes name at count) = List ℕ
Answer memory = Unit {0}

pub data Asks (A : Type 0) : Type 0 where
  gives : A → Asks A
  asks : (question : Question) → (Answer question → Asks A) → Asks A

unfoldable pub ask_size : (name : List ℕ) → Asks (Option ℕ)
ask_size name = asks (file_size name) gives

unfoldable pub ask_bytes : (name : List ℕ) (at count : ℕ) → Asks (List ℕ)
ask_bytes name at count = asks (file_bytes name at count) gives

unfoldable pub with_memory : {A : Type 0} → Asks A → Asks A
with_memory p = asks memory (λ _. p)

-- one calculation, and then the next by what the first gives
unfoldable pub bind : {A B : Type 0} → Asks A → (A → Asks B) → Asks B
bind (gives a) f = f a
bind (asks e k) f = asks e (λ x. bind (k x) f)

-- the next, unless the first refuses
unfoldable pub if_ok : {A B E : Type 0} → (A → Asks (Result B E)) → Result A E → Asks (Result B E)
if_ok f (Ok a) = f a
if_ok f (Err e) = gives (Err e)

unfoldable pub bind_ok : {A B E : Type 0} → Asks (Result A E) → (A → Asks (Result B E))
    → Asks (Result B E)
bind_ok p f = bind p (if_ok f)

-- what files answer
abbrev pub size_in : Files → List ℕ → Option ℕ
size_in m name = option_map length (m name)

abbrev pub bytes_in : Files → List ℕ → ℕ → ℕ → List ℕ
bytes_in m name at count = take count (drop at (bytes_at m name))

abbrev pub answer_in : Files → (e : Question) → Answer e
answer_in m (file_size name) = size_in m name
answer_in m (file_bytes name at count) = bytes_in m name at count
answer_in m memory = tt

-- what a calculation gives over files: its denotation
unfoldable pub over : {A : Type 0} → Files → Asks A → A
over m (gives a) = a
over m (asks e k) = over m (k (answer_in m e))

-- how many calls of the store a question takes, and for how many bytes it asks
abbrev pub calls_of : Question → ℕ
calls_of (file_size name) = 1
calls_of (file_bytes name at count) = 1
calls_of memory = 0

abbrev pub bytes_of : Question → ℕ
bytes_of (file_size name) = 0
bytes_of (file_bytes name at count) = count
bytes_of memory = 0

-- the same of a calculation over files
unfoldable pub calls_over : {A : Type 0} → Files → Asks A → ℕ
calls_over m (gives a) = 0
calls_over m (asks e k) = calls_of e + calls_over m (k (answer_in m e))

unfoldable pub bytes_over : {A : Type 0} → Files → Asks A → ℕ
bytes_over m (gives a) = 0
bytes_over m (asks e k) = bytes_of e + bytes_over m (k (answer_in m e))

-- whether it comes to a question for memory
unfoldable pub MayWant : {A : Type 0} → Files → Asks A → Type 0
MayWant m (gives a) = ⊥
MayWant m (asks (file_size name) k) = MayWant m (k (size_in m name))
MayWant m (asks (file_bytes name at count) k) = MayWant m (k (bytes_in m name at count))
MayWant m (asks memory k) = Unit {0}
