use Rattle.std.proofs.Common.{◌∙◌, ◌&&◌, ap}
use Rattle.frz_board.specs.Boards.{holds}
use Rattle.frz_squares.specs.SquareSets.{has_square}
use Rattle.frz_squares.proofs.Lemmas.{set_of-from}
use Rattle.frz_bits.specs.Reaching.{is_in_reach, may_attack}
use Rattle.frz_bits.proofs.Gather.{in_set}
use Rattle.frz_bits.proofs.bitboards.Bitboards.men_in_reach.Goals as goal

pub returns : goal.returns
returns c =
    let p = c.args.self.now in
    let s = c.args.s in
    let by = c.args.by in
    set_of-from c.both.result (may_attack p s by) c.both.type_inv
    (λ k l.
    let held = in_set (holds p by) c.side.result k c.side.ensures l in
    let reach = in_set (is_in_reach s) c.reaching_set.result k c.reaching_set.ensures l in
    c.both.ensures k l
    ∙ ap (λ x. x && has_square c.reaching_set.result k) held
    ∙ ap (λ x. holds p by k && x) reach)
