-- The words that name a table, a position and the tables behind the table.
use Rattle.std.specs.Prelude.{◌≡◌, ℕ, List, ◌∷◌, length, nat_le, Bool, true, false, Option, Some, None, if◌then◌else◌}
use Rattle.frz_answer.specs.declared.words.Refusal.{Refusal}
use Rattle.frz_answer.specs.declared.words.Refusal.TheVariants.{Count, SameName}
use Rattle.frz_answer.specs.Jobs.{Job}
use Rattle.frz_answer.specs.Words.{taking, unless}
use Rattle.frz_atlas_prelude.specs.Names.{has_twice}
use Rattle.frz_atlas_prelude.specs.declared.names.TheConstants.{MOST_BACKS}

-- TABLE and FEN, and the BACKs
pub record GivenNames : Type 0 where
  pub table : List ℕ
  pub fen : List ℕ
  pub behind : List (List ℕ)

-- there are at most 16 BACKs; any other number of words is refused
abbrev pub given_names_of : List (List ℕ) → Option GivenNames
given_names_of (table ∷ fen ∷ backs) =
    if nat_le (length backs) MOST_BACKS
    then Some (record { table = table; fen = fen; behind = backs }) else None
given_names_of _ = None

-- two of the tables have one name
abbrev pub is_same_file : GivenNames → Bool
is_same_file names = has_twice (names.table ∷ names.behind)

-- the words give these names, and no two tables have one name
pub record AreGiven (words : List (List ℕ)) (names : GivenNames) : Type 0 where
  pub named : given_names_of words ≡ Some names
  pub apart : is_same_file names ≡ false

-- why words give no such names
pub data AreNotGiven (words : List (List ℕ)) : Refusal → Type 0 where
  not_so_many : given_names_of words ≡ None → AreNotGiven words Count
  same : (names : GivenNames) → given_names_of words ≡ Some names
      → is_same_file names ≡ true → AreNotGiven words SameName

-- the job by the names that words give, where no two tables have one name
abbrev pub given_words : (GivenNames → Job) → List (List ℕ) → Job
given_words job words =
    taking (λ names. unless (is_same_file names) (job names)) (given_names_of words)
