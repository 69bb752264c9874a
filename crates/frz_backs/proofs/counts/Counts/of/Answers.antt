use Rattle.std.proofs.Common.{◌∙◌, ap₂, sym, Bool}
use Rattle.std.proofs.lemmas.List.Folds.{list_all-map}
use Rattle.frz_board.specs.declared.man.Colour.TheVariants.{White, Black}
use Rattle.frz_backs.specs.declared.counts.Counts.{Counts}
use Rattle.frz_backs.specs.Counts.{counts_for}
use Rattle.frz_backs.specs.FileOn.{loaded_back}
use Rattle.frz_backs.proofs.counts.Counts.of.Goals as goal

abbrev both : Bool → Bool → Counts
both white black = record { white = white; black = black }

pub returns : goal.returns
returns c =
    let backs = c.args.backs.now in
    ap₂ both (c.count_for.ensures ∙ sym (list_all-map (counts_for White) loaded_back backs))
    (c.count_for-2.ensures ∙ sym (list_all-map (counts_for Black) loaded_back backs))
