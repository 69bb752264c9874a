-- The parts of a text between separators.
use Rattle.std.specs.Prelude.{ℕ, Bool, List, [], ◌∷◌, if◌then◌else◌}

-- the parts with a byte put in front of the first
abbrev pub with_first : ℕ → List (List ℕ) → List (List ℕ)
with_first b [] = (b ∷ []) ∷ []
with_first b (part ∷ parts) = (b ∷ part) ∷ parts

-- the parts between the separators, empty ones too. There is one part more than separators
abbrev pub split : (ℕ → Bool) → List ℕ → List (List ℕ)
split is_separator [] = [] ∷ []
split is_separator (b ∷ bs) =
    if is_separator b then [] ∷ split is_separator bs else with_first b (split is_separator bs)
