use Rattle.std.proofs.Common.{◌∙◌, ap, sym, count_by}
use Rattle.frz_board.specs.declared.man.Colour.{Colour}
use Rattle.frz_board.specs.declared.man.Colour.TheVariants.{White, Black}
use Rattle.frz_board.specs.Men.{is_man_of, man_of_cell}
use Rattle.frz_board.specs.Shapes.{men_of}
use Rattle.frz_board.proofs.Counting.{count_white, count_black}
use Rattle.frz_board.proofs.position.Position.men.Goals as goal

pub returns-in-White-clause-men : goal.returns-in-White-clause-men
unfolding men_of
returns-in-White-clause-men c =
    c.count_between.ensures.count
    ∙ count_white c.cells.result
    ∙ ap (λ xs. count_by (λ x. is_man_of White (man_of_cell x)) xs) c.cells.ensures.cells
    ∙ ap (λ (k : Colour). count_by (λ x. is_man_of k (man_of_cell x)) c.args.self.now.cells)
    (sym c.in-White.is)

pub returns-in-Black-clause-men : goal.returns-in-Black-clause-men
unfolding men_of
returns-in-Black-clause-men c =
    c.count_between-in-Black.ensures.count
    ∙ count_black c.cells-in-Black.result
    ∙ ap (λ xs. count_by (λ x. is_man_of Black (man_of_cell x)) xs) c.cells-in-Black.ensures.cells
    ∙ ap (λ (k : Colour). count_by (λ x. is_man_of k (man_of_cell x)) c.args.self.now.cells)
    (sym c.in-Black.is)
