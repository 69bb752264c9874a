use Rattle.std.proofs.Common.{◌∙◌, ap}
use Rattle.std.specs.Prelude.{List}
use Rattle.frz_rules.proofs.Lemmas.{text_sound}
use Rattle.frz_commands_premises.specs.declared.line.Line.{Line}
use Rattle.frz_commands_premises.specs.PremiseLines.{belief_among}
use Rattle.frz_commands_premises.proofs.Adding.{all_told}
use Rattle.frz_commands_premises.proofs.lines.premise_lines.Goals as goal

pub add_sides-requires-clause-sound : goal.add_sides-requires-clause-sound
add_sides-requires-clause-sound g c =
    text_sound c.args.read.now.text.items c.args.read.now.rules c.requires.read

pub returns-clause-told : goal.returns-clause-told
returns-clause-told g c =
    let first = rw c.new-lines.ensures.items at c.in_ok-add_behind.ensures.added in
    let more =
    rw (c.deref.ensures.value, c.leans_on-leans.ensures) at c.in_ok-add_text.ensures.added in
    all_told c.args.read.now.text.items c.args.read.now.rules c.args.backs.now
    c.count_beliefs-believed.result c.add_behind.new.lines.items c.push.new.self.items
    c.add_text.new.lines.items c.push-2.new.self.items c.add_sides.new.lines.items
    first c.in_ok-push.ensures.items more
    (c.count_beliefs-believed.ensures
    ∙ ap (λ (l : List Line). belief_among l) c.deref-2.ensures.value)
    c.in_ok-push-2.ensures.items c.in_ok-add_sides.ensures.added
