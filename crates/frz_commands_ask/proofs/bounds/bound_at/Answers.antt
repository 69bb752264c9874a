use Rattle.std.proofs.Common.{refl, rules, arith, length, ◌<◌, ◌≡◌}
use Rattle.std.specs.Prelude.{slice_index}
use Rattle.std.proofs.lemmas.List.{get_or_read}
use Rattle.frz_commands_ask.proofs.Entries.{in_range, entry_of, some_bound, is_bound}
use Rattle.frz_commands_ask.proofs.bounds.bound_at.Goals as goal

pub index-requires : goal.index-requires
index-requires g c =
    let held : c.args.i < length c.in_ok-codes.codes.items = in_range c.args.rules.now
    c.new-book.result.rules.now c.args.side c.in_ok-codes.codes.items
    c.in_ok-codes.ensures.table c.args.p.now c.requires.member c.args.i c.requires.number in
    first_of (omega (arith, held), grind (arith, held), search (rules, held))

pub unreachable-requires : goal.unreachable-requires
unreachable-requires g c =
    let items = c.in_ok-codes.codes.items in
    let held : c.args.i < length items = in_range c.args.rules.now c.new-book.result.rules.now
    c.args.side items c.in_ok-codes.ensures.table c.args.p.now c.requires.member c.args.i
    c.requires.number in
    let read : c.index.result.now ≡ slice_index items c.args.i = get_or_read items c.args.i
    c.index.result.now held c.index.ensures 0 in
    let none = c.in-None.ensures in
    let nothing : c.index.result.now ≡ 0 = none.broken.0 refl in
    some_bound c.args.rules.now c.args.side c.args.p.now c.index.result.now
    (rw read (entry_of c.args.rules.now c.new-book.result.rules.now c.new-book.ensures c.args.side
    items c.in_ok-codes.ensures.table c.args.p.now c.requires.member c.args.i c.requires.number))
    nothing

pub returns-clause-bound : goal.returns-clause-bound
returns-clause-bound g c =
    let items = c.in_ok-codes.codes.items in
    let held : c.args.i < length items = in_range c.args.rules.now c.new-book.result.rules.now
    c.args.side items c.in_ok-codes.ensures.table c.args.p.now c.requires.member c.args.i
    c.requires.number in
    let read : c.index.result.now ≡ slice_index items c.args.i = get_or_read items c.args.i
    c.index.result.now held c.index.ensures 0 in
    let some = c.in-Some.ensures in
    is_bound c.args.rules.now c.args.side c.args.p.now c.index.result.now
    (rw read (entry_of c.args.rules.now c.new-book.result.rules.now c.new-book.ensures c.args.side
    items c.in_ok-codes.ensures.table c.args.p.now c.requires.member c.args.i c.requires.number))
    c.in-Some.bound some.bound
