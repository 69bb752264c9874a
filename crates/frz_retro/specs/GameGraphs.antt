-- What the solver may rely on in the game of some rules.
use Rattle.std.specs.Prelude.{◌≡◌, List}
use Rattle.frz_board.specs.Boards.{Board}
use Rattle.frz_sets.specs.declared.exit.Value.{Value}
use Rattle.frz_sets.specs.Sets.{size_of}
use Rattle.frz_sets.specs.Views.{GroupLine, RuleLines}
use Rattle.frz_graph.specs.Finite.{IsFinite}
use Rattle.frz_game.specs.Games.{graph_by}
use Rattle.frz_retro.specs.Graphs.{HasDifferentArms}

-- the set is that of the rules, and the game over its numbers meets the laws of a graph
pub record IsGameGraph (groups : List GroupLine) (rules : RuleLines)
    (value : Board → Value) : Type 0 where
  pub same : groups ≡ rules.groups
  pub finite : IsFinite (graph_by rules value) (size_of rules.groups)
  pub different : HasDifferentArms (graph_by rules value)
