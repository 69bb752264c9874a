use Rattle.frz_chain.proofs.ExactBacks.{judged_exact, judged_wrong, not_open}
use Rattle.frz_chain.proofs.laws.exact_by_verdict.Goals as goal

pub returns-clause-exact : goal.returns-clause-exact
returns-clause-exact c = judged_exact

pub returns-clause-wrong : goal.returns-clause-wrong
returns-clause-wrong c = judged_wrong

pub returns-clause-refused : goal.returns-clause-refused
returns-clause-refused c = not_open
