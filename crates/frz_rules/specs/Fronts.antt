-- The place of the first word that does not fit, without counting: the greatest front of a line
-- that begins one of its form.
use Rattle.std.specs.Prelude.{ℕ, true, List, ◌++◌, ◌≡◌, ◌≤◌, take, length}
use Rattle.frz_rules.specs.Grammar.{Form, fits}

-- the first n words begin a line of the form
abbrev pub FrontFits : Form → List (List ℕ) → ℕ → Type 0
FrontFits f ws n = (rest : List (List ℕ)) × (fits f (take n ws ++ rest) ≡ true)

-- n is the greatest number of first words that begin a line of the form
pub record IsGreatestFront (f : Form) (ws : List (List ℕ)) (n : ℕ) : Type 0 where
  pub within : n ≤ length ws
  pub begins : FrontFits f ws n
  pub greatest : (m : ℕ) → m ≤ length ws → FrontFits f ws m → m ≤ n
