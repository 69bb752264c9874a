use Rattle.std.proofs.Common.{◌≡◌, List, subst, sym}
use Rattle.frz_backs.specs.Links.{Link}
use Rattle.frz_backs.specs.Loaded.{link_loaded}
use Rattle.frz_commands_premises.proofs.Lemmas.{links_loaded}
use Rattle.frz_commands_verdict.specs.Verdicts.{verdict_at}
use Rattle.frz_index.proofs.Lemmas.{of_member}
use Rattle.frz_commands_verdict.proofs.Placed.{missing_there, number_below, placed_at}
use Rattle.frz_commands_verdict.proofs.finding.tell_by.Goals as goal

pub returns-in-Err-clause-told : goal.returns-in-Err-clause-told
returns-in-Err-clause-told g c =
    missing_there c.set.result.now c.args.own.now.table.rules.groups c.args.p.now _ c.set.ensures
    c.in-Err.ensures

pub verdict_of-verdict-requires : goal.verdict_of-verdict-requires
verdict_of-verdict-requires g c =
    let groups = c.args.own.now.table.rules.groups in
    number_below groups c.args.p.now c.in-Ok.number
    (placed_at c.set.result.now groups c.args.p.now c.in-Ok.number c.set.ensures c.in-Ok.ensures)

pub returns-clause-told : goal.returns-clause-told
returns-clause-told g c =
    let groups = c.args.own.now.table.rules.groups in
    let placed = placed_at c.set.result.now groups c.args.p.now c.in-Ok.number c.set.ensures
    c.in-Ok.ensures in (
      of_member groups c.args.p.now placed.0,
      subst (λ (l : List Link). c.verdict_of-verdict.result
          ≡ verdict_at l (link_loaded c.args.own.now) c.args.p.now)
          (sym (links_loaded c.args.tables.now))
          (c.verdict_of-verdict.ensures c.args.p.now placed.1),
      c.in_ok-lines.ensures.told,
    )
