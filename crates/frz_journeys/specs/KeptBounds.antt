-- How a journey ends that begins at a win or at a hold.
use Rattle.std.specs.Prelude.{◌≡◌, ◌⊎◌, true, List, All, ⊤}
use Rattle.frz_board.specs.Boards.{Board}
use Rattle.frz_board.specs.Men.{other_of}
use Rattle.frz_board.specs.declared.man.Colour.{Colour}
use Rattle.frz_arena.specs.declared.class.Class.TheVariants.{Good, Safe}
use Rattle.frz_arena.specs.WayEnds.{Wrong, NoBound, Mated, Stalemated, Exit, Cut, Stopped}
use Rattle.frz_exits.specs.Books.{value_by}
use Rattle.frz_exits.specs.Values.{class_of}
use Rattle.frz_sets.specs.declared.exit.Value.{Value}
use Rattle.frz_sets.specs.declared.exit.Value.TheVariants.{Unknown}
use Rattle.frz_backs.specs.Behind.{value_behind}
use Rattle.frz_backs.specs.Links.{Link}
use Rattle.frz_ways.specs.ChessGames.{after_plies}
use Rattle.frz_ways.specs.Ways.{EndOfWay}
use Rattle.frz_journeys.specs.Journeys.{Stage}

-- the codes of each table are those of the set of its rules
abbrev pub HaveOwnSets : List Link → Type 0
HaveOwnSets tables = All (λ table. table.back.groups ≡ table.rules.groups) tables

-- an exit line of the table gives the position this value: one that is asked before the tables or,
-- where the table leans on others and these lines say nothing, one behind them
abbrev pub LinesGive : Link → Board → Value → Type 0
LinesGive table q v =
    (value_by table.rules q ≡ v)
    ⊎ ((table.leans ≡ true) × (value_by table.rules q ≡ Unknown) × (value_behind table.rules q ≡ v))

-- a win ends with a mate of the opponent, or outside where an exit line of the table says that the
-- side wins, unless a code is wrong or the input stops
abbrev pub EndsWonAt : Colour → Link → (last : Board) → EndOfWay → Type 0
EndsWonAt side table last (Wrong at kept given) = ⊤
EndsWonAt side table last NoBound = ⊥
EndsWonAt side table last (Mated mover) = mover ≡ other_of side
EndsWonAt side table last (Stalemated mover) = ⊥
EndsWonAt side table last (Exit v) = LinesGive table last v × (class_of v side ≡ Good)
EndsWonAt side table last Cut = ⊥
EndsWonAt side table last (Stopped halt) = ⊤

-- after a hold the side is not mated, and outside an exit line of the table says that it holds or wins
abbrev pub EndsHeldAt : Colour → Link → (last : Board) → EndOfWay → Type 0
EndsHeldAt side table last (Wrong at kept given) = ⊤
EndsHeldAt side table last NoBound = ⊥
EndsHeldAt side table last (Mated mover) = mover ≡ other_of side
EndsHeldAt side table last (Stalemated mover) = ⊤
EndsHeldAt side table last (Exit v) =
    LinesGive table last v
    × ((class_of v side ≡ Good) ⊎ (class_of v side ≡ Safe))
EndsHeldAt side table last Cut = ⊤
EndsHeldAt side table last (Stopped halt) = ⊤

abbrev pub IsWonAt : Colour → Link → Stage → Type 0
IsWonAt side table stage = EndsWonAt side table (after_plies stage.start stage.plies) stage.end

abbrev pub IsHeldAt : Colour → Link → Stage → Type 0
IsHeldAt side table stage = EndsHeldAt side table (after_plies stage.start stage.plies) stage.end
