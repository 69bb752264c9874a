use Rattle.std.proofs.Common.{◌≤◌, ◌∙◌, arith, length}
use Rattle.frz_fen.proofs.RankTexts.{rank_ends}
use Rattle.frz_fen.proofs.writing.write_rank.Goals as goal

pub returns-clause-text : goal.returns-clause-text
returns-clause-text c =
    let few : c.loop-cell.gap ≤ 8 = omega arith in
    let whole : length c.args.row.now ≤ c.loop-cell.cell-index = omega arith in
    c.write_gap.ensures.text
    ∙ rank_ends c.args.text.now.bytes c.loop-cell.text.bytes c.args.row.now c.loop-cell.gap
    c.loop-cell.cell-index few whole c.loop-cell.invariant.written
