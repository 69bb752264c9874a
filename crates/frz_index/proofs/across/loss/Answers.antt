use Rattle.std.proofs.Common.{◌≡◌, ◌+◌, ◌∙◌, Option, Some, arith, ap, length, refl, subst, suc, sym, ℕ}
use Rattle.std.specs.Prelude.{MatchOption}
use Rattle.std.proofs.lemmas.Option.{same_Some, slice_get_read, slice_get_within}
use Rattle.std.proofs.lemmas.List.{get_or_default}
use Rattle.std.specs.List.{slice_get}
use Rattle.frz_sets.specs.Views.{GroupLine}
use Rattle.frz_index.proofs.GroupSteps.{product_le, whole_fits}
use Rattle.frz_index.proofs.NumbersAfterSteps.{share_small}
use Rattle.frz_index.proofs.OneShare.{share_once}
use Rattle.frz_index.specs.Kept.{product_from}
use Rattle.frz_index.specs.Taking.{IsSpare}
use Rattle.frz_index.proofs.across.loss.Goals as goal
use Rattle.frz_index.proofs.across.loss.Goals.{After-from, After-index}

pub returns-in_err-share : goal.returns-in_err-share
returns-in_err-share c =
    subst (λ (o : Option ℕ). MatchOption o
    ((x : ℕ) → IsSpare c.args.plan.now.groups.items c.args.man c.args.s x → ⊥)
    (IsSpare c.args.plan.now.groups.items c.args.man c.args.s)) (sym c.from_residual.ensures)
    (λ x h. c.in_err-share.ensures h.group h.adds h.share)

pub index-requires : goal.index-requires
index-requires c =
    let low = slice_get_within c.args.plan.now.groups.items c.in_ok-share.share.group
    c.in_ok-share.ensures.group c.in_ok-share.ensures.there in
    omega (arith, low)

pub index-requires-then-index-eq0 : goal.index-requires-then-index-eq0
index-requires-then-index-eq0 c =
    let low = slice_get_within c.args.plan.now.groups.items c.in_ok-share.share.group
    c.in_ok-share.ensures.group c.in_ok-share.ensures.there in
    omega (arith, low, c.requires.weights_are.size)

-- the group of the share was read
read : (c : After-index) → slice_get c.args.plan.now.groups.items c.in_ok-share.share.group
    ≡ Some c.index.result.now
read c =
    let gs = c.args.plan.now.groups.items in
    let k = c.in_ok-share.share.group in
    slice_get_read gs (length gs) k c.index.result.now refl
    (slice_get_within gs k c.in_ok-share.ensures.group c.in_ok-share.ensures.there)
    c.index.ensures

-- and its weight
weight : (c : After-from) → c.from.result
    ≡ product_from c.args.plan.now.groups.items (suc c.in_ok-share.share.group)
weight c =
    let k = c.in_ok-share.share.group in
    let ws = c.args.plan.now.weights.items in
    let known = c.requires.weights_are in
    let low = slice_get_within c.args.plan.now.groups.items k c.in_ok-share.ensures.group
    c.in_ok-share.ensures.there in
    c.from.ensures ∙ c.index-then-index-eq0.ensures
    ∙ get_or_default ws k c.index-then-index-eq0.result.now 0 (omega (arith, low, known.size))
    ∙ known.known k low

pub overflow_add-result : goal.overflow_add-result
overflow_add-result c =
    let gs = c.args.plan.now.groups.items in
    let k = c.in_ok-share.share.group in
    let n = c.requires.numberable in
    omega (
      arith,
      share_small gs c.args.man c.args.s k c.in_ok-share.share.adds n c.in_ok-share.ensures,
      weight (goal.at.overflow_add-result c).After-from,
      product_le gs n.groups (suc k),
      whole_fits gs n,
    )

pub returns-then-index-eq0 : goal.returns-then-index-eq0
returns-then-index-eq0 c = record {
  group = c.in_ok-share.share.group;
  adds = c.in_ok-share.share.adds;
  share = c.in_ok-share.ensures;
  none =
      ap (λ (g : GroupLine). g.least)
      (same_Some c.in_ok-share.ensures.group c.index.result.now
      (sym c.in_ok-share.ensures.there ∙ read (goal.at.returns-then-index-eq0 c).After-index))
      ∙ sym (ap (λ (g : GroupLine). g.least) c.behind-plan.view_is) ∙ c.if-index-eq0.true;
  loss_is =
      ap (λ w. c.in_ok-share.share.adds + w)
      (weight (goal.at.returns-then-index-eq0 c).After-from);
}

pub returns-else-index-eq0 : goal.returns-else-index-eq0
returns-else-index-eq0 c x h =
    let gs = c.args.plan.now.groups.items in
    let one = share_once gs c.args.man c.args.s h.group c.in_ok-share.share.group h.adds
    c.in_ok-share.share.adds h.share c.in_ok-share.ensures in
    let same = same_Some h.share.group c.index.result.now
    (sym h.share.there ∙ ap (slice_get gs) one
    ∙ read (goal.at.returns-else-index-eq0 c).After-index) in
    c.if-index-eq0.false
    (ap (λ (g : GroupLine). g.least) c.behind-plan.view_is
    ∙ sym (ap (λ (g : GroupLine). g.least) same) ∙ h.none)
