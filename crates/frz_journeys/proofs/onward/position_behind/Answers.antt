use Rattle.std.proofs.Common.{◌≡◌, ◌∙◌, true, None, Some, ap, subst, sym}
use Rattle.std.specs.Option.{option_map}
use Rattle.frz_board.specs.Boards.{Board}
use Rattle.frz_fide.specs.Legal.{after, is_legal}
use Rattle.frz_index.specs.Membership.{position_at}
use Rattle.frz_journeys.proofs.onward.position_behind.Goals as goal

pub after-requires-clause-legal : goal.after-requires-clause-legal
after-requires-clause-legal c =
    let there = c.requires.there in
    let at : Some c.in-Some.p ≡ position_at c.args.table.now.table.rules.groups c.args.number =
    c.in-Some.ensures.function ∙ ap (λ gs. position_at gs c.args.number) c.set.ensures in
    let same : c.requires.position ≡ c.in-Some.p = cc in
    subst (λ (p : Board). is_legal p c.args.mv ≡ true) same c.requires.legal

pub returns-clause-position : goal.returns-clause-position
returns-clause-position c =
    let at : position_at c.args.table.now.table.rules.groups c.args.number ≡ Some c.in-Some.p =
    sym (c.in-Some.ensures.function ∙ ap (λ gs. position_at gs c.args.number) c.set.ensures) in
    ap (option_map (λ (p : Board). after p c.args.mv)) at ∙ ap Some (sym c.after.ensures.position)

pub unreachable-requires : goal.unreachable-requires
unreachable-requires c =
    let there = c.requires.there in
    let none : None ≡ position_at c.args.table.now.table.rules.groups c.args.number =
    c.in-None.ensures.function ∙ ap (λ gs. position_at gs c.args.number) c.set.ensures in
    cc
