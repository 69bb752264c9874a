use Rattle.frz_prelude.proofs.Held.{RulesSeen, sees_rules, rules_seen, seen_as, read_in, missing_due, long_due, text_due, fault_due}
use Rattle.frz_prelude.proofs.rules_at.read_rules_text.Given.{Over}
use Rattle.frz_prelude.proofs.rules_at.read_rules_text.Goals as goal
use Rattle.frz_prelude.proofs.rules_at.read_rules_text.Goals.{After-read_rules_file}

-- what was found under the name
seen : (g : Over) (c : After-read_rules_file g)
    → RulesSeen (g.S.Store.files c.args.store.now) c.args.name.now c.read_rules_file.result
    (g.S.Store.asked c.args.store.now) (g.S.Store.asked c.read_rules_file.new.store)
    (g.S.Store.calls c.args.store.now) (g.S.Store.calls c.read_rules_file.new.store)
seen g c =
    let e = c.read_rules_file.ensures in
    rules_seen _ c.args.name.now c.read_rules_file.result _ _ _ _
    (sees_rules _ c.args.name.now c.read_rules_file.result _ _ _ _ e.held e.bytes e.asked
    e.asked_by e.asked_most e.short e.calls_told e.calls_by e.calls)

pub returns-in-Ok-Missing-clause-read : goal.returns-in-Ok-Missing-clause-read
returns-in-Ok-Missing-clause-read g c =
    let here = seen g (goal.at.returns-in-Ok-Missing-clause-read g c).After-read_rules_file in
    read_in _ _ _ _ _ here
    (missing_due _ (seen_as _ _ _ _ _ _ _ _ _ here c.in-Ok-Missing.is c.in-Ok-Missing.field-0-is))

pub returns-in-Ok-TooLong-clause-read : goal.returns-in-Ok-TooLong-clause-read
returns-in-Ok-TooLong-clause-read g c =
    let here = seen g (goal.at.returns-in-Ok-TooLong-clause-read g c).After-read_rules_file in
    read_in _ _ _ _ _ here
    (long_due _ (seen_as _ _ _ _ _ _ _ _ _ here c.in-Ok-TooLong.is c.in-Ok-TooLong.field-0-is))

pub returns-in-Ok-Text-clause-read : goal.returns-in-Ok-Text-clause-read
returns-in-Ok-Text-clause-read g c =
    let here = seen g (goal.at.returns-in-Ok-Text-clause-read g c).After-read_rules_file in
    let held = seen_as _ _ _ _ _ _ _ _ _ here c.in-Ok-Text.is c.in-Ok-Text.field-0-is in
    read_in _ _ _ _ _ here (text_due _ _ _ held c.with_rules.ensures.due)

pub returns-in-Err-clause-read : goal.returns-in-Err-clause-read
returns-in-Err-clause-read g c =
    let here = seen g (goal.at.returns-in-Err-clause-read g c).After-read_rules_file in
    read_in _ _ _ _ _ here (fault_due _ _ _ c.from.ensures)
