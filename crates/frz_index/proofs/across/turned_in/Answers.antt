use Rattle.std.proofs.Common.{◌≡◌, ◌∙◌, ap, arith}
use Rattle.frz_board.specs.Men.{other_of}
use Rattle.frz_index.specs.Stepping.{turn_adds}
use Rattle.frz_index.proofs.across.turned_in.Goals as goal

pub returns : goal.returns
returns c =
    let gs = c.args.plan.now.groups.items in
    let before : c.turn_adds-before.result ≡ turn_adds gs c.args.p.now.turn c.args.p.now.ep =
    c.turn_adds-before.ensures.adds
    ∙ ap (λ t. turn_adds gs t c.ep.result) c.turn.ensures
    ∙ ap (turn_adds gs c.args.p.now.turn) c.ep.ensures in
    let after : c.turn_adds-after.result
    ≡ turn_adds gs (other_of c.args.p.now.turn) c.args.target.now =
    c.turn_adds-after.ensures.adds
    ∙ ap (λ t. turn_adds gs t c.args.target.now)
    (c.other.ensures.other ∙ ap other_of c.turn-2.ensures) in
    let small = c.turn_adds-after.ensures.small in
    record {
      gained_is = omega (arith, c.from.ensures, after);
      lost_is = before;
      small = omega (arith, c.from.ensures, small);
    }
