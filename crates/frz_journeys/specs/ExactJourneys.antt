-- Journeys over tables each of which is exact over those before it.
use Rattle.std.specs.Prelude.{◌≡◌, ℕ, List}
use Rattle.frz_arena.specs.WayEnds.{Wrong}
use Rattle.frz_backs.specs.FileOn.{IsExactBack}
use Rattle.frz_backs.specs.Links.{AreExact, Link, backs_of, value_over}
use Rattle.frz_journeys.specs.Journeys.{Stage}

-- the table is exact over those before it, and each of these over those before it
pub record IsExactOver (before : List Link) (table : Link) : Type 0 where
  pub behind : AreExact before
  pub own : IsExactBack table.rules (value_over table.leans table.rules (backs_of before)) table.back

-- no wrong code ends the stage
abbrev pub EndsRight : Link → Stage → Type 0
EndsRight table stage =
    (at : ℕ × ℕ) (kept given : ℕ) → stage.end ≡ Wrong at kept given → ⊥
