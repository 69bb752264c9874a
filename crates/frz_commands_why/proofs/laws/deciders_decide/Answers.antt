use Rattle.frz_commands_why.proofs.Deciders.{decider_decides}
use Rattle.frz_commands_why.proofs.laws.deciders_decide.Goals as goal

pub returns : goal.returns
returns c = λ text rules accepted leans backs q. decider_decides text rules accepted leans backs q
