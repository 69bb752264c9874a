use Rattle.frz_rules.proofs.LineReading.{group_fits, forbid_fits, exit_fits}
use Rattle.frz_rules.proofs.laws.line_forms.Goals as goal

pub returns-clause-group : goal.returns-clause-group
returns-clause-group c = group_fits

pub returns-clause-forbid : goal.returns-clause-forbid
returns-clause-forbid c = forbid_fits

pub returns-clause-exit : goal.returns-clause-exit
returns-clause-exit c = exit_fits
