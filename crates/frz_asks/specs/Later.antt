-- Calculations that may ask one place twice, over files that may be others at each question.
use Rattle.std.specs.Prelude.{◌≡◌, ℕ, suc, Option}
use Rattle.frz_store.specs.Bytes.{MayBeHeld}
use Rattle.frz_store.specs.Files.{Files}
use Rattle.frz_asks.specs.Trees.{Asks, gives, asks, answer_in}

-- what a calculation gives where `files k` are the files at its question k, from 0
unfoldable pub over_later : {A : Type 0} → (ℕ → Files) → Asks A → A
over_later files (gives a) = a
over_later files (asks e k) = over_later (λ j. files (suc j)) (k (answer_in (files 0) e))

-- the files at each question, and what is given over them
pub record Changing {A : Type 0} (told : Option Files) (p : Asks A) (a : A) : Type 0 where
  pub files : ℕ → Files
  pub held : (k : ℕ) → MayBeHeld told (files k)
  pub gives : over_later files p ≡ a
