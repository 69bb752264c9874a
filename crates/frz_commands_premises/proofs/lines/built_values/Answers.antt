use Rattle.frz_commands_premises.proofs.BuiltValues.{told_alone, told_over}
use Rattle.frz_commands_premises.proofs.lines.built_values.Goals as goal

pub returns-then-leans_on-clause-told : goal.returns-then-leans_on-clause-told
returns-then-leans_on-clause-told g c =
    let book = c.new.result in
    told_over c.args.rules.now book.rules.now c.args.backs.now c.leans_on.result c.values_by.result
    c.leans_on.ensures c.new.ensures.rules book.backs.now c.if-leans_on.true c.new.ensures.backs
    c.values_by.ensures.told

pub returns-else-leans_on-clause-told : goal.returns-else-leans_on-clause-told
returns-else-leans_on-clause-told g c =
    told_alone c.args.rules.now c.new-else-leans_on.result.rules.now c.args.backs.now
    c.leans_on.result c.values_by-else-leans_on.result c.leans_on.ensures
    c.new-else-leans_on.ensures c.if-leans_on.false c.values_by-else-leans_on.ensures.told
