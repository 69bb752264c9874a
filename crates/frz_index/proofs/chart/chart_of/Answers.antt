use Rattle.std.proofs.Common.{arith, ◌∙◌}
use Rattle.frz_index.proofs.Charting.{cut_all, cut_first, cut_once}
use Rattle.frz_index.proofs.chart.chart_of.Goals as goal

pub first_kind-first-requires : goal.first_kind-first-requires
first_kind-first-requires c =
    cut_once c.args.states.now 0 _ 0 (c.cuts_of-cuts.ensures.cut 0 (omega arith))
    (cut_first c.args.states.now)

pub returns : goal.returns
returns c = record {
  in_order = c.requires;
  words_are = c.words_of-words.ensures;
  cuts_are = c.cuts_of-cuts.ensures;
  order = c.end_kind-end.ensures.order;
  kinds = c.end_kind-end.ensures.small;
  none_before = c.first_kind-first.ensures.none_before;
  none_after =
      c.end_kind-end.ensures.none_after
      ∙ cut_all c.args.states.now _ c.requires (c.cuts_of-cuts.ensures.cut 384 (omega arith));
}
