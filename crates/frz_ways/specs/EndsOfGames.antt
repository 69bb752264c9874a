-- How the game of chess stands behind the plies of a way, by the way's end.
use Rattle.std.specs.Prelude.{◌≡◌, ⊤}
use Rattle.frz_board.specs.Boards.{Board}
use Rattle.frz_fide.specs.Ends.{IsMate, IsStalemate}
use Rattle.frz_sets.specs.declared.exit.Value.{Value}
use Rattle.frz_sets.specs.Views.{RuleLines}
use Rattle.frz_arena.specs.WayEnds.{Mated, Stalemated, Exit}
use Rattle.frz_index.specs.Members.{Member}
use Rattle.frz_ways.specs.Ways.{EndOfWay}

-- the mover is to move and mated, or stalemated. Or the set does not have the position, and the exit
-- has its value
abbrev pub StandsAt : RuleLines → (Board → Value) → Board → EndOfWay → Type 0
StandsAt rules value q (Mated mover) = (q.turn ≡ mover) × IsMate q
StandsAt rules value q (Stalemated mover) = (q.turn ≡ mover) × IsStalemate q
StandsAt rules value q (Exit v) = (Member rules.groups q → ⊥) × (v ≡ value q)
StandsAt rules value q end = ⊤
