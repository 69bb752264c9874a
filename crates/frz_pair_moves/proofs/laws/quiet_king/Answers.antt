use Rattle.std.proofs.Common.{slice_index}
use Rattle.std.proofs.lemmas.Bool.{eqb-true}
use Rattle.frz_pair_moves.proofs.KingPairs.{entered_empty}
use Rattle.frz_pair_moves.proofs.laws.quiet_king.Goals as goal

pub returns : goal.returns
returns x p s empty = entered_empty p s (eqb-true (slice_index p.cells s) 0 empty)
