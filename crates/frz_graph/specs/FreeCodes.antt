-- The codes of the free moves among those of all moves.
use Rattle.std.specs.Prelude.{ℕ, Bool, true, false, List, [], ◌∷◌, if◌then◌else◌}
use Rattle.frz_board.specs.Moving.{Step}
use Rattle.frz_exits.specs.Value.{Value}
use Rattle.frz_arena.specs.declared.arm.Arm.{Arm}

-- the codes of the free moves, where each move has its code
abbrev pub free_among : List (Arm Step ℕ Value) → List ℕ → List ℕ
free_among [] cs = []
free_among (a ∷ arms) [] = []
free_among (a ∷ arms) (c ∷ cs) = if a.free then c ∷ free_among arms cs else free_among arms cs

-- the codes of the moves that count: where the side itself moves (true) those of its free moves,
-- else all
abbrev pub counted_codes : (own : Bool) → List (Arm Step ℕ Value) → List ℕ → List ℕ
counted_codes true arms cs = free_among arms cs
counted_codes false arms cs = cs
