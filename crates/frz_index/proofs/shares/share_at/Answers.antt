use Rattle.std.proofs.Common.{◌≡◌, ◌∙◌, ◌*◌, Option, Some, ap, arith, length, refl, subst, sym, ℕ}
use Rattle.std.specs.Prelude.{MatchOption}
use Rattle.std.specs.List.{slice_get}
use Rattle.std.proofs.lemmas.Option.{slice_get-get_or, slice_get_read}
use Rattle.frz_sets.specs.Views.{GroupLine}
use Rattle.frz_index.proofs.OneShare.{more_than_one, no_state_here}
use Rattle.frz_index.specs.Stepping.{IsShare}
use Rattle.frz_index.specs.declared.shares.Share.{Share}
use Rattle.frz_index.proofs.shares.share_at.Goals as goal
use Rattle.frz_index.proofs.shares.share_at.Goals.{After-place_in, else-group-eq1-via-then-group-eq1+else-is_alone, else-group-eq1-via-else-group-eq1}

pub place_in-requires : goal.place_in-requires
place_in-requires c =
    c.requires.charts.each c.args.i c.index-groups-i.result _
    (slice_get_read c.args.groups.now (length c.args.groups.now) c.args.i c.index-groups-i.result
    refl c.requires.within c.index-groups-i.is)
    (slice_get-get_or c.args.charts.now c.args.i _
    (omega (arith, c.requires.charts.size, c.requires.within)))

read : (c : After-place_in) → slice_get c.args.groups.now c.args.i ≡ Some c.index-groups-i.result
read c =
    slice_get_read c.args.groups.now (length c.args.groups.now) c.args.i c.index-groups-i.result
    refl c.requires.within c.index-groups-i.is

pub returns-in_err-place : goal.returns-in_err-place
returns-in_err-place c =
    let d = (goal.at.returns-in_err-place c).After-place_in in
    subst (λ (o : Option Share).
    MatchOption o ((adds : ℕ) → IsShare c.args.groups.now c.args.man c.args.s c.args.i adds → ⊥)
    (λ x. IsShare c.args.groups.now c.args.man c.args.s x.group x.adds))
    (sym c.from_residual.ensures)
    (no_state_here c.args.groups.now c.args.man c.args.s c.args.i c.index-groups-i.result (read d)
    c.in_err-place.ensures)

pub returns-then-is_alone : goal.returns-then-is_alone
returns-then-is_alone c = record {
  group = c.index-groups-i.result;
  there = read (goal.at.returns-then-is_alone c).After-place_in;
  one = sym (ap (λ (g : GroupLine). g.most) c.group.view_is) ∙ c.if-group-eq1.true;
  place = c.in_ok-place.place;
  place_is = c.in_ok-place.ensures;
  adds_is =
      ap (λ x. x * c.from-then-is_alone.result) c.from.ensures
      ∙ ap (λ x. c.in_ok-place.place * x)
      (c.from-then-is_alone.ensures ∙ c.requires.weights.known c.args.i c.requires.within);
  alone = c.is_alone.ensures.0 c.if-is_alone.true;
}

pub returns-else-group-eq1 : goal.returns-else-group-eq1
returns-else-group-eq1 c =
    elim c.else-group-eq1.branch [
      | else-group-eq1-via-then-group-eq1+else-is_alone w ↦
          λ adds h. let on = w.is_alone.ensures.1 h.alone in
          let off = w.if-is_alone.false in
          absurd cc
      | else-group-eq1-via-else-group-eq1 w ↦
          more_than_one c.args.groups.now c.args.man c.args.s c.args.i c.index-groups-i.result
          (read (goal.at.returns-else-group-eq1 c).After-place_in)
          (λ e. w.if-group-eq1.false (ap (λ (g : GroupLine). g.most) c.group.view_is ∙ e))
    ]
