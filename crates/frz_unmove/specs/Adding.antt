-- A list to which all items of some kind are added, each once.
use Rattle.std.specs.Prelude.{ℕ, ◌≡◌, ◌≤◌, List, [], ◌∷◌, ◌++◌, length, Contains}

-- none stands twice in the list
abbrev pub Once : {A : Type 0} → List A → Type 0
Once [] = Unit {0}
Once (x ∷ xs) = (Contains xs x → ⊥) × Once xs

-- the later list is the earlier one, followed by exactly the items that have P, each once, and at
-- most n of them
pub record Adds {A : Type 0} (P : A → Type 0) (old new : List A) (n : ℕ) : Type 0 where
  pub more : List A
  pub is : new ≡ old ++ more
  pub only : (x : A) → Contains more x → P x
  pub all : (x : A) → P x → Contains more x
  pub once : Once more
  pub few : length more ≤ n
