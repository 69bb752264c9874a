use Rattle.frz_commands_chain.proofs.ChainAccepted.{exact_after, finds_exact, made_of}
use Rattle.frz_commands_chain.proofs.laws.chained_is_accepted.Goals as goal

pub returns : goal.returns
returns c = λ rules back table files input more a b differ chained done checked.
    finds_exact table back a.files b
    (exact_after rules back table files a (made_of rules back table files a chained done) differ)
    checked
