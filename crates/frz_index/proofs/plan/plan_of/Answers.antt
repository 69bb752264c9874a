use Rattle.std.proofs.Common.{List, ap, filter, sym, ◌∙◌, subst}
use Rattle.frz_sets.specs.Views.{GroupLine, RuleLines}
use Rattle.frz_sets.specs.Sets.{targets}
use Rattle.frz_index.specs.Kept.{AreApart, AreKnown, AreNumberable, AreSoundGroups, AreWeights, may_lack, product_from}
use Rattle.std.specs.List.{AllByRecursion}
use Rattle.frz_sets.specs.Sound.{AreStates}
use Rattle.frz_index.specs.Charts.{AreCharts}
use Rattle.frz_index.specs.FixedBoards.{AreFixedBoards}
use Rattle.frz_index.specs.Shares.{AreShares}
use Rattle.frz_index.proofs.Soundness.{apart, in_order, numberable, sound_groups}
use Rattle.frz_index.proofs.plan.plan_of.Goals as goal

pub weights_of-requires : goal.weights_of-requires
weights_of-requires c =
    let same = c.in_ok-groups.ensures ∙ c.deref.ensures.value ∙ ap (λ (r : RuleLines). r.groups)
    c.r.view_is in
    subst AreNumberable (sym (c.deref-2.ensures.value ∙ same)) (numberable c.args.r.now c.requires)

pub product_from-whole-requires-clause-numberable :
    goal.product_from-whole-requires-clause-numberable
product_from-whole-requires-clause-numberable c =
    let same = c.in_ok-groups.ensures ∙ c.deref.ensures.value ∙ ap (λ (r : RuleLines). r.groups)
    c.r.view_is in
    subst AreNumberable (sym (c.deref-3.ensures.value ∙ same)) (numberable c.args.r.now c.requires)

pub returns : goal.returns
returns c =
    let same = c.in_ok-groups.ensures ∙ c.deref.ensures.value ∙ ap (λ (r : RuleLines). r.groups)
    c.r.view_is in (
      record {
        sound = subst AreSoundGroups (sym same) (sound_groups c.args.r.now c.requires);
        numberable = subst AreNumberable (sym same) (numberable c.args.r.now c.requires);
        apart = subst AreApart (sym same) (apart c.args.r.now c.requires);
        weights_are = subst (λ (gs : List GroupLine). AreWeights gs c.in_ok-weights.weights.items)
            c.deref-2.ensures.value c.in_ok-weights.ensures;
        whole_is = c.product_from-whole.ensures
            ∙ ap (λ gs. product_from gs 0) c.deref-3.ensures.value;
        targets_are = c.in_ok-targets.ensures ∙ ap targets c.deref-4.ensures.value;
        known_are = subst (λ (gs : List GroupLine). AreKnown gs c.known_squares_of-known_squares.result)
            c.deref-5.ensures.value c.known_squares_of-known_squares.ensures;
        lacking_are = subst (λ (gs : List GroupLine). AreKnown gs
            c.known_squares_of-lacking_squares.result)
            (c.deref-7.ensures.value ∙ c.in_ok-lacking.ensures ∙ ap (filter may_lack) c.deref-6.ensures.value)
            c.known_squares_of-lacking_squares.ensures;
        charts_are = subst (λ (gs : List GroupLine). AreCharts gs c.in_ok-charts.charts.items)
            c.deref-8.ensures.value c.in_ok-charts.ensures;
        shares_are = subst (λ (gs : List GroupLine). AreShares gs c.in_ok-shares.shares.items)
            c.deref-9.ensures.value c.in_ok-shares.ensures;
        rows_are = c.in_ok-triangle.ensures;
        fixed_are = subst (λ (gs : List GroupLine). AreFixedBoards gs c.fixed_boards-fixed.result)
            c.deref-12.ensures.value c.fixed_boards-fixed.ensures;
      },
      same,
    )

pub charts_of-requires : goal.charts_of-requires
charts_of-requires c =
    let same = c.in_ok-groups.ensures ∙ c.deref.ensures.value ∙ ap (λ (r : RuleLines). r.groups)
    c.r.view_is in
    subst (AllByRecursion (λ (g : GroupLine). AreStates g.states))
    (sym (c.deref-8.ensures.value ∙ same)) (in_order c.args.r.now c.requires)

pub shares_of-requires-clause-numberable : goal.shares_of-requires-clause-numberable
shares_of-requires-clause-numberable c =
    let same = c.in_ok-groups.ensures ∙ c.deref.ensures.value ∙ ap (λ (r : RuleLines). r.groups)
    c.r.view_is in
    subst AreNumberable (sym (c.deref-9.ensures.value ∙ same)) (numberable c.args.r.now c.requires)

pub fixed_boards-fixed-requires-clause-numberable :
    goal.fixed_boards-fixed-requires-clause-numberable
fixed_boards-fixed-requires-clause-numberable c =
    let same = c.in_ok-groups.ensures ∙ c.deref.ensures.value ∙ ap (λ (r : RuleLines). r.groups)
    c.r.view_is in
    subst AreNumberable (sym (c.deref-12.ensures.value ∙ same)) (numberable c.args.r.now c.requires)
