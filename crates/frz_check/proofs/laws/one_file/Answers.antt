use Rattle.frz_check.proofs.OneFile.{file_there, one_file}
use Rattle.frz_check.proofs.laws.one_file.Goals as goal

pub returns-clause-there : goal.returns-clause-there
returns-clause-there c rules value small =
    file_there rules value (c.tables.ensures.there rules value small)

pub returns-clause-one : goal.returns-clause-one
returns-clause-one c rules value = one_file rules value (c.tables.ensures.one rules value)
