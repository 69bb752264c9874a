use Rattle.frz_backs.proofs.OwnLines.{past_none, past_place}
use Rattle.frz_backs.proofs.behind.lines_behind.Goals as goal

pub returns-in-Some : goal.returns-in-Some
returns-in-Some c = past_place c.args.lines.now c.in-Some.i c.in-Some.ensures.place

pub returns-in-None : goal.returns-in-None
returns-in-None c = past_none c.args.lines.now c.in-None.ensures.place
