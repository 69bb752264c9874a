use Rattle.std.proofs.Common.{◌∙◌, ap}
use Rattle.std.specs.Prelude.{◌==◌, count_by}
use Rattle.frz_board.proofs.Counting.{count_one}
use Rattle.frz_board.proofs.position.Position.count.Goals as goal

pub returns-clause-count : goal.returns-clause-count
returns-clause-count c =
    c.count_between.ensures.count
    ∙ count_one c.cell_of-cell.result c.cells.result
    ∙ ap (λ xs. count_by (λ x. x == c.cell_of-cell.result) xs) c.cells.ensures.cells
    ∙ ap (λ n. count_by (λ x. x == n) c.args.self.now.cells) c.cell_of-cell.ensures.cell
