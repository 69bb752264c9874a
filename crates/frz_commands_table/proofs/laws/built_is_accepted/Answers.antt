use Rattle.frz_commands_table.proofs.BuiltAccepted.{built_accepted}
use Rattle.frz_commands_table.proofs.laws.built_is_accepted.Goals as goal

pub returns : goal.returns
returns c = λ rules table files input more a b built done checked.
    built_accepted rules table files a b built done checked
