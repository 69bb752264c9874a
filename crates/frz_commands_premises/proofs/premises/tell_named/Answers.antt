use Rattle.std.proofs.Common.{refl, arith}
use Rattle.std.specs.Prelude.{map}
use Rattle.std.specs.String.{string_bytes}
use Rattle.frz_answer.specs.World.{world}
use Rattle.frz_answer.proofs.Lemmas.{quiet_store}
use Rattle.frz_prelude.specs.declared.rules_at.RulesText.{RulesText}
use Rattle.frz_prelude.proofs.Lemmas.{ended, may_stop}
use Rattle.frz_commands_premises.specs.Premising.{premising_at}
use Rattle.frz_commands_premises.proofs.PremisesEnd.{lines_writable, own_stop, premises_are_told, refused_so, small_place, stopped_at}
use Rattle.frz_commands_premises.proofs.premises.tell_named.Goals as goal

pub returns-in-Err : goal.returns-in-Err
returns-in-Err g c = λ input.
    let e = c.in-Err.ensures in
    let stop = c.in-Err.stop in
    let rules = c.args.rules.now in
    let behind = map string_bytes c.args.behind.now in
    let job = premising_at rules behind in
    ended job stop _ _ (world _ _ _ _) _ (quiet_store _ _ _ _ _ e.quiet)
    (may_stop RulesText job stop _ _ input _ _ _ refl refl
    (own_stop rules behind _ stop e.read.due) e.cause)
    c.end.ensures
    (λ files left agrees. stopped_at rules behind stop files left _ _ e.read (omega arith) agrees)

pub write_lines-requires : goal.write_lines-requires
write_lines-requires g c =
    let f = c.in-Ok-find_lines.ensures.found in
    rw c.deref.ensures.value
    (lines_writable _ _ (map string_bytes c.args.behind.now) _ _ _ _ c.in-Ok-find_lines.lines.items
    c.requires.few f)

pub returns-in-Ok-find_lines : goal.returns-in-Ok-find_lines
returns-in-Ok-find_lines g c = λ input.
    let e = c.in-Ok.ensures in
    let f = c.in-Ok-find_lines.ensures in
    premises_are_told c.args.rules.now (map string_bytes c.args.behind.now) c.requires.apart
    c.in-Ok.read
    _ _ _ _ _ e.read e.quiet e.cause f.quiet f.later input _ _ _ c.in-Ok-find_lines.lines.items
    f.found f.cause (c.said.ensures _ _ _ (rw c.deref.ensures.value at c.write_lines.ensures))

pub end_at-requires : goal.end_at-requires
end_at-requires g c =
    small_place c.in-Ok.read.rules (map string_bytes c.args.behind.now) _ _ _ _
    c.in-Err-find_lines.fault c.requires.few c.in-Err-find_lines.ensures.refused

pub returns : goal.returns
returns g c = λ input.
    let e = c.in-Ok.ensures in
    let f = c.in-Err-find_lines.ensures in
    refused_so c.args.rules.now (map string_bytes c.args.behind.now) c.requires.apart c.in-Ok.read
    _ _ _ _ _ e.read e.quiet e.cause f.quiet f.later input _ _ _ c.in-Err-find_lines.fault
    f.refused f.cause c.end_at.ensures
