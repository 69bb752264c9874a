use Rattle.frz_index.proofs.CandidateAnswers.{unbroken}
use Rattle.frz_index.proofs.set.Set.boards_of.Goals as goal

pub returns : goal.returns
returns c =
    unbroken c.args.self.now c.args.i c.in-Some.p c.in-Some.ensures.0 c.in-Some.ensures.1
    c.requires
