-- The words that ask a table for a position and a side, over the tables behind it.
use Rattle.std.specs.Prelude.{◌≡◌, ℕ, List, ◌∷◌, length, nat_le, Bool, true, false, ◌&&◌, Option, Some, None, if◌then◌else◌}
use Rattle.frz_answer.specs.declared.words.Refusal.{Refusal}
use Rattle.frz_answer.specs.declared.words.Refusal.TheVariants.{Count, SameName}
use Rattle.frz_answer.specs.Jobs.{Job}
use Rattle.frz_answer.specs.Words.{taking, unless}
use Rattle.frz_atlas_prelude.specs.Names.{has_twice}
use Rattle.frz_atlas_prelude.specs.declared.names.TheConstants.{MOST_BACKS}

-- TABLE, FEN and SIDE, and the BACKs
pub record AskedNames : Type 0 where
  pub table : List ℕ
  pub fen : List ℕ
  pub side : List ℕ
  pub behind : List (List ℕ)

-- there are at least so many BACKs and at most 16; any other number of words is refused
abbrev pub asked_names_of : (fewest : ℕ) → List (List ℕ) → Option AskedNames
asked_names_of fewest (table ∷ fen ∷ side ∷ backs) =
    if nat_le fewest (length backs) && nat_le (length backs) MOST_BACKS
    then Some (record { table = table; fen = fen; side = side; behind = backs }) else None
asked_names_of fewest _ = None

-- two of the tables have one name
abbrev pub is_same_file : AskedNames → Bool
is_same_file names = has_twice (names.table ∷ names.behind)

-- the words give these names, and no two tables have one name
pub record AreAsked (fewest : ℕ) (words : List (List ℕ)) (names : AskedNames) : Type 0 where
  pub named : asked_names_of fewest words ≡ Some names
  pub apart : is_same_file names ≡ false

-- why words give no such names
pub data AreNotAsked (fewest : ℕ) (words : List (List ℕ)) : Refusal → Type 0 where
  not_so_many : asked_names_of fewest words ≡ None → AreNotAsked fewest words Count
  same : (names : AskedNames) → asked_names_of fewest words ≡ Some names
      → is_same_file names ≡ true → AreNotAsked fewest words SameName

-- the job by the names that words give, where no two tables have one name
abbrev pub asked_words : (fewest : ℕ) → (AskedNames → Job) → List (List ℕ) → Job
asked_words fewest job words =
    taking (λ names. unless (is_same_file names) (job names)) (asked_names_of fewest words)
