-- The names that the words of a command give: a file, and the tables behind it.
use Rattle.std.specs.Prelude.{◌≡◌, ℕ, List, [], ◌∷◌, length, nat_lt, Bool, true, false, ◌||◌, Option, Some, None, if◌then◌else◌}
use Rattle.std.specs.List.{list_any}
use Rattle.std.specs.Option.{option_map}
use Rattle.std.specs.Str.{bytes_eq}
use Rattle.frz_answer.specs.declared.words.Refusal.{Refusal}
use Rattle.frz_answer.specs.declared.words.Refusal.TheVariants.{Count, SameName}
use Rattle.frz_atlas_prelude.specs.declared.names.TheConstants.{MOST_BACKS}

-- a file and the tables behind it, as words may name them
abbrev pub Names : Type 0
Names = List ℕ × List (List ℕ)

-- a file and the BACKs, of which there are 0 to 16; any other number of words is refused
abbrev pub file_names_of : List (List ℕ) → Option Names
file_names_of [] = None
file_names_of (file ∷ backs) = if nat_lt MOST_BACKS (length backs) then None else Some (file, backs)

-- RULES, and then TABLE and the BACKs
abbrev pub build_names_of : List (List ℕ) → Option (List ℕ × Names)
build_names_of [] = None
build_names_of (rules ∷ words) = option_map (λ names. (rules, names)) (file_names_of words)

-- some name stands twice among these
abbrev pub has_twice : List (List ℕ) → Bool
has_twice [] = false
has_twice (name ∷ names) = list_any (λ other. bytes_eq other name) names || has_twice names

-- the words are these names, no two of which are the same
pub record AreDifferent (words : List (List ℕ)) (file : List ℕ) (behind : List (List ℕ))
    : Type 0 where
  pub named : file_names_of words ≡ Some (file, behind)
  pub apart : has_twice words ≡ false

-- why words give no such names
pub data DoNotName (words : List (List ℕ)) : Refusal → Type 0 where
  not_so_many : file_names_of words ≡ None → DoNotName words Count
  same : (names : Names) → file_names_of words ≡ Some names → has_twice words ≡ true
      → DoNotName words SameName
