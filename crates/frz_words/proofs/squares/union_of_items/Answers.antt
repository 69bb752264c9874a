use Rattle.std.proofs.Common.{sym, ◌∙◌, []}
use Rattle.frz_words.specs.Parts.{split}
use Rattle.frz_words.specs.Squares.{is_comma}
use Rattle.frz_words.proofs.Sets.{no_set}
use Rattle.frz_words.proofs.squares.union_of_items.Goals as goal

pub returns-in_err-read_item : goal.returns-in_err-read_item
returns-in_err-read_item c =
    no_set c.from_residual.result c.loop-item.set c.args.w.now c.loop-item.rest.now
    c.in-Some.item.now (split is_comma c.in-Some.after.now)
    c.from_residual.ensures c.loop-item.invariant c.in-Some.ensures.parts
    (sym c.in_err-read_item.was ∙ c.read_item.ensures)

pub returns-in_err-read_item-2 : goal.returns-in_err-read_item-2
returns-in_err-read_item-2 c =
    no_set c.from_residual-in_err-read_item-2.result c.loop-item.set c.args.w.now
    c.loop-item.rest.now c.loop-item.rest.now []
    c.from_residual-in_err-read_item-2.ensures c.loop-item.invariant c.in_default.ensures.parts
    (sym c.in_err-read_item-2.was ∙ c.read_item-2.ensures)
