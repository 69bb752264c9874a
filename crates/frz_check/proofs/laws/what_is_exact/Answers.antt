use Rattle.frz_check.proofs.OneFile.{one_file_holds, one_file_opens, one_text, tables_are_one}
use Rattle.frz_check.proofs.laws.what_is_exact.Goals as goal

pub returns-clause-opens : goal.returns-clause-opens
returns-clause-opens c kind value contents bytes read one =
    one_file_opens kind value contents bytes read one

pub returns-clause-holds : goal.returns-clause-holds
returns-clause-holds c kind value small contents bytes =
    one_file_holds kind value contents bytes (c.tables.ensures.plies contents.rules value small)

pub returns-clause-exact : goal.returns-clause-exact
returns-clause-exact c = tables_are_one

pub returns-clause-one_text : goal.returns-clause-one_text
returns-clause-one_text c kind value =
    one_text kind value (λ rules. c.tables.ensures.one rules (value rules))
