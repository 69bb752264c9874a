use Rattle.std.proofs.Common.{◌∙◌, ap, map}
use Rattle.frz_sets.specs.Views.{RuleLines}
use Rattle.frz_backs.specs.Behind.{lines_behind}
use Rattle.frz_backs.specs.FileOn.{loaded_back}
use Rattle.frz_backs.proofs.SmallLags.{atlas_small}
use Rattle.frz_backs.proofs.book.AtlasBook.new.Goals as goal

pub invariant_of-result : goal.invariant_of-result
invariant_of-result c = record {
  counted = c.of-counts.ensures;
  lines = c.lines_behind-behind.ensures ∙ ap lines_behind (c.deref.ensures.value
      ∙ ap (λ (r : RuleLines). r.exits) c.rules.view_is);
  small = atlas_small c.args.rules.now (map loaded_back c.args.backs.now) c.requires;
}
