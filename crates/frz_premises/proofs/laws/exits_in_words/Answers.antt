use Rattle.frz_premises.proofs.Exits.{exits_are_listed, listed_are_exits}
use Rattle.frz_premises.proofs.laws.exits_in_words.Goals as goal

pub returns : goal.returns
returns c rules value q =
    (λ h. listed_are_exits rules value q h, λ x. exits_are_listed rules value q x)
