use Rattle.std.proofs.Common.{◌≡◌, ◌∙◌, ◌++◌, ◌-◌, ap, List, ℕ, arith}
use Rattle.frz_report.specs.Exits.{letters_in}
use Rattle.frz_report.proofs.Classing.{letters_next, letters_to}
use Rattle.frz_report.proofs.class.class_of.Goals as goal

pub loop-cell-preserved : goal.loop-cell-preserved
loop-cell-preserved c = record {
  letters = c.push_letters.ensures.letters
      ∙ ap (λ (l : List ℕ). l ++ letters_in c.cells-cells.result c.loop-cell.cell)
      c.loop-cell.invariant.letters
      ∙ letters_next c.cells-cells.result c.loop-cell.cell c.loop-cell.auto.cell;
  few = c.push_letters.ensures.few;
}

pub returns : goal.returns
returns c =
    let end : c.loop-cell.cell - 1 ≡ 12 = omega arith in
    c.loop-cell.invariant.letters ∙ ap (letters_to c.cells-cells.result) end
    ∙ ap (λ (l : List ℕ). letters_to l 12) c.cells-cells.ensures.cells
