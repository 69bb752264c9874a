use Rattle.frz_commands_table.proofs.OneAccepted.{accepted_headline, one_accepted}
use Rattle.frz_commands_table.proofs.laws.one_is_accepted.Goals as goal

pub returns : goal.returns
returns c = λ table other files others input more a b first first_done second second_done.
    λ are other_are. one_accepted c.one_file.ensures.one table other files others
    (accepted_headline table files a are first first_done)
    (accepted_headline other others b other_are second second_done)
