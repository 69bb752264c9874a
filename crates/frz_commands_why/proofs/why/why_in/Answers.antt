use Rattle.std.proofs.Common.{ℕ, length, inl, inr, refl, ap, arith}
use Rattle.frz_game.specs.Numbers.{position_at}
use Rattle.frz_store.specs.Told.{sink_of}
use Rattle.frz_answer.specs.declared.end.End.TheVariants.{Stopped}
use Rattle.frz_answer.specs.declared.fault.Fault.TheVariants.{NoMemory}
use Rattle.frz_commands_why.proofs.Inside.{ends_inside, ends_outside, few_lines, placed_at, some_there, steps_inside}
use Rattle.frz_commands_why.proofs.why.why_in.Goals as goal

pub returns-in-Err-clause-told : goal.returns-in-Err-clause-told
returns-in-Err-clause-told g c =
    ends_outside c.args.own.now c.args.backs.now c.args.side c.args.p.now c.set.result.now
    c.set.ensures c.in-Err.why c.in-Err.ensures c.end.result (sink_of g.O.Sink c.args.out.now)
    (sink_of g.O.Sink c.end.new.out) c.end.ensures

pub exit_line_numbers-requires : goal.exit_line_numbers-requires
exit_line_numbers-requires g c =
    let table = c.args.own.now.table in
    let few = few_lines table.text table.rules c.rules-rules.ensures.read in
    let same = ap (length {A = ℕ}) c.text.ensures in
    omega (arith, few, same)

pub tell_in-requires-clause-inside : goal.tell_in-requires-clause-inside
tell_in-requires-clause-inside g c =
    let groups = c.args.own.now.table.rules.groups in
    let placed = placed_at c.set.result.now groups c.args.p.now c.in-Ok.number c.set.ensures
    c.in-Ok.ensures in
    some_there (position_at groups c.in-Ok.number) c.args.p.now placed.0

pub returns-in-Ok-exit_line_numbers-clause-told : goal.returns-in-Ok-exit_line_numbers-clause-told
returns-in-Ok-exit_line_numbers-clause-told g c =
    let placed = placed_at c.set.result.now c.args.own.now.table.rules.groups c.args.p.now
    c.in-Ok.number c.set.ensures c.in-Ok.ensures in
    ends_inside c.args.own.now c.args.backs.now c.args.side c.args.p.now c.in-Ok.number placed.1
    placed.2 c.tell_in.result (sink_of g.O.Sink c.args.out.now) (sink_of g.O.Sink c.tell_in.new.out)
    (inr c.tell_in.ensures.told)

pub returns-in-Ok-exit_line_numbers-clause-steps :
    goal.returns-in-Ok-exit_line_numbers-clause-steps
returns-in-Ok-exit_line_numbers-clause-steps g c =
    let placed = placed_at c.set.result.now c.args.own.now.table.rules.groups c.args.p.now
    c.in-Ok.number c.set.ensures c.in-Ok.ensures in
    steps_inside c.args.own.now c.args.backs.now c.args.side c.args.p.now c.in-Ok.number
    c.args.steps.now c.tell_in.new.steps placed.1 placed.2
    (c.tell_in.ensures.steps c.args.p.now placed.0)

pub returns-in-Err-exit_line_numbers-clause-told :
    goal.returns-in-Err-exit_line_numbers-clause-told
returns-in-Err-exit_line_numbers-clause-told g c =
    let placed = placed_at c.set.result.now c.args.own.now.table.rules.groups c.args.p.now
    c.in-Ok.number c.set.ensures c.in-Ok.ensures in
    ends_inside c.args.own.now c.args.backs.now c.args.side c.args.p.now c.in-Ok.number placed.1
    placed.2 (Stopped NoMemory) (sink_of g.O.Sink c.args.out.now)
    (sink_of g.O.Sink c.args.out.now) (inl (refl, refl))
