-- Calculations that ask for the size of a file once, and then for its bytes from front to back.
use Rattle.std.specs.Prelude.{◌≡◌, ◌≤◌, ◌+◌, ℕ, List, length, Option, Some, None, if◌then◌else◌}
use Rattle.std.specs.Str.{bytes_eq}
use Rattle.frz_asks.specs.Trees.{Question, file_size, file_bytes, memory, Answer, Asks, gives, asks}

-- what was asked of a name: nothing, its size, which says that there is no file, or its size and
-- the bytes before a place
pub data Mark : Type 0 where
  unasked : Mark
  absent : Mark
  upto : (size at : ℕ) → Mark

abbrev pub by_size : Option ℕ → Mark
by_size None = absent
by_size (Some n) = upto n 0

-- these bytes may be asked for: they lie behind those that were, and in the file
abbrev pub IsBehind : Mark → ℕ → ℕ → Type 0
IsBehind (upto size before) at count = (before ≤ at) × (at + count ≤ size)
IsBehind mark at count = ⊥

abbrev pub gone_on : Mark → ℕ → Mark
gone_on (upto size before) end = upto size end
gone_on mark end = mark

-- bytes are answered as many as were asked for
abbrev pub IsLong : (e : Question) → Answer e → Type 0
IsLong (file_size name) n = Unit {0}
IsLong (file_bytes name at count) l = length l ≡ count
IsLong memory x = Unit {0}

abbrev pub Marks : Type 0
Marks = List ℕ → Mark

unfoldable pub noted : {A : Type 0} → (List ℕ → A) → List ℕ → A → List ℕ → A
noted s name v = λ q. if bytes_eq name q then v else s q

abbrev pub MayAsk : Marks → Question → Type 0
MayAsk s (file_size name) = s name ≡ unasked
MayAsk s (file_bytes name at count) = IsBehind (s name) at count
MayAsk s memory = Unit {0}

abbrev pub marked : Marks → (e : Question) → Answer e → Marks
marked s (file_size name) n = noted s name (by_size n)
marked s (file_bytes name at count) l = noted s name (gone_on (s name) (at + count))
marked s memory x = s

-- each question of the calculation may be asked, whatever is answered
unfoldable pub Tidy : {A : Type 0} → Marks → Asks A → Type 0
Tidy s (gives a) = Unit {0}
Tidy s (asks e k) =
    MayAsk s e × ((x : Answer e) → IsLong e x → Tidy (marked s e x) (k x))

-- the same of a calculation that asks for one name
abbrev pub MayAskOne : List ℕ → Mark → Question → Type 0
MayAskOne name s (file_size q) = (q ≡ name) × (s ≡ unasked)
MayAskOne name s (file_bytes q at count) = (q ≡ name) × IsBehind s at count
MayAskOne name s memory = Unit {0} × Unit {0}

abbrev pub marked_one : Mark → (e : Question) → Answer e → Mark
marked_one s (file_size name) n = by_size n
marked_one s (file_bytes name at count) l = gone_on s (at + count)
marked_one s memory x = s

-- and what is then so of what it gives, as a weakest precondition
unfoldable pub Reads : {A : Type 0} → List ℕ → Mark → Asks A → (A → Mark → Type 0) → Type 0
Reads name s (gives a) R = R a s
Reads name s (asks e k) R = MayAskOne name s e
    × ((x : Answer e) → IsLong e x → Reads name (marked_one s e x) (k x) R)
