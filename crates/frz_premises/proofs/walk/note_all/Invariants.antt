use Rattle.std.proofs.Common.{List, ◌++◌, map, take}
use Rattle.frz_board.specs.Boards.{Board}
use Rattle.frz_backs.specs.Loaded.{link_loaded}
use Rattle.frz_premises.specs.Trials.{AreTried, boards_after}
use Rattle.frz_premises.proofs.walk.note_all.Given as goal

-- the moves before this one are noted
abbrev pub invariant-loop-arm : goal.invariant-loop-arm
invariant-loop-arm l =
    (qs : List Board) → AreTried l.leans l.rules (map link_loaded l.backs) qs l.fn.trials →
    AreTried l.leans l.rules (map link_loaded l.backs) (qs ++ boards_after l.p (take l.arm-index l.arms))
    l.trials
