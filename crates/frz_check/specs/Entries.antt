-- One entry compared with its local code, and the entries of both sides at one number.
use Rattle.std.specs.Prelude.{◌≡◌, ◌≢◌, ℕ, List, map, Option, None, Some}
use Rattle.frz_board.specs.declared.man.Colour.{Colour}
use Rattle.frz_board.specs.declared.man.Colour.TheVariants.{White, Black}
use Rattle.frz_board.specs.Moving.{Step}
use Rattle.frz_sets.specs.declared.exit.Value.{Value}
use Rattle.frz_arena.specs.declared.arm.Arm.{Arm}
use Rattle.frz_arena.specs.declared.node.Node.{Node}
use Rattle.frz_arena.specs.Arena.{Arena}
use Rattle.frz_arena.specs.LocalCodes.{node_code}
use Rattle.frz_game.specs.EntryCodes.{arm_code}
use Rattle.frz_game.specs.FreeCodes.{free_among}
use Rattle.frz_game.specs.declared.wrong.Wrong.{Wrong}
use Rattle.frz_check.specs.Verdicts.{AgreeAt, kept_code, given_code}

-- the local code, by what the number is, by its moves and by the entries of the side
abbrev pub code_by_moves : Colour → Node → List (Arm Step ℕ Value) → List ℕ → ℕ
code_by_moves side node arms entries =
    let codes = map (arm_code side entries) arms in
    node_code side node (free_among arms codes) codes

-- none if the kept code is the given one, else both codes with their side and number
abbrev pub IsCompared : Colour → ℕ → (kept given : ℕ) → Option Wrong → Type 0
IsCompared side number kept given None = kept ≡ given
IsCompared side number kept given (Some wrong) =
    (kept ≢ given) × (wrong ≡ record { side = side; number = number; kept = kept; given = given })

-- the entry at this number is wrong, and if it is Black's, White's is not
pub record IsWrongAt {M V : Type 0} (arena : Arena M ℕ V) (codes : Colour → List ℕ)
    (number : ℕ) (wrong : Wrong) : Type 0 where
  pub here : wrong.number ≡ number
  pub kept : wrong.kept ≡ kept_code codes wrong.side number
  pub given : wrong.given ≡ given_code arena codes wrong.side number
  pub differs : wrong.kept ≢ wrong.given
  pub white_first : wrong.side ≡ Black → kept_code codes White number ≡ given_code arena codes White
      number

-- both sides' entries agree at the number, or this is the first of them that is wrong
abbrev pub IsCheckedAt : {M V : Type 0} → Arena M ℕ V → (Colour → List ℕ) → ℕ → Option Wrong
    → Type 0
IsCheckedAt arena codes number None = AgreeAt arena codes number
IsCheckedAt arena codes number (Some wrong) = IsWrongAt arena codes number wrong
