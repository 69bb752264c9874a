use Rattle.std.proofs.Common.{◌≡◌, ◌∙◌, Some, ap, arith, false, inl, inr, length, refl, sym, true}
use Rattle.std.specs.List.{slice_get}
use Rattle.std.specs.Prelude.{◌&&◌}
use Rattle.std.proofs.lemmas.Bool.{and_from, and_parts, cases_eq}
use Rattle.std.proofs.lemmas.Option.{same_Some, slice_get-get_or, slice_get_read, slice_get_within}
use Rattle.frz_board.specs.Men.{cell_of_man}
use Rattle.frz_sets.specs.Sets.{is_state}
use Rattle.frz_sets.specs.Views.{GroupLine}
use Rattle.frz_index.proofs.among.group_of.Goals as goal
use Rattle.frz_index.proofs.among.group_of.Goals.{After-has_both}

pub has_both-requires : goal.has_both-requires
has_both-requires c =
    c.requires.each c.loop-j.j c.index-groups-j.result _
    (slice_get_read c.args.groups.now (length c.args.groups.now) c.loop-j.j c.index-groups-j.result
    refl c.loop-j-test.true c.index-groups-j.is)
    (slice_get-get_or c.args.charts.now c.loop-j.j _
    (omega (arith, c.requires.size, c.loop-j-test.true)))

-- the group that was read
read : (c : After-has_both) → slice_get c.args.groups.now c.loop-j.j ≡ Some c.index-groups-j.result
read c =
    slice_get_read c.args.groups.now (length c.args.groups.now) c.loop-j.j c.index-groups-j.result
    refl c.loop-j-test.true c.index-groups-j.is

pub returns-then-has_both : goal.returns-then-has_both
returns-then-has_both c =
    let g = c.index-groups-j.result in
    let parts = and_parts (is_state (cell_of_man c.args.man) c.args.a g)
    (is_state (cell_of_man c.args.man) c.args.b g) (sym c.has_both.ensures ∙ c.if-has_both.true) in
    (g, read (goal.at.returns-then-has_both c).After-has_both, parts.0, parts.1)

pub loop-j-preserved : goal.loop-j-preserved
loop-j-preserved c i l h =
    elim (cases_eq i c.loop-j.j) [
      | inr other ↦ c.loop-j.invariant i (omega (arith, l, other)) h
      | inl here ↦
          let cell = cell_of_man c.args.man in
          let same : h.0 ≡ c.index-groups-j.result = same_Some h.0 c.index-groups-j.result
          (sym h.1 ∙ ap (slice_get c.args.groups.now) here
          ∙ read (goal.at.loop-j-preserved c).After-has_both) in
          let on = and_from (is_state cell c.args.a h.0) (is_state cell c.args.b h.0) h.2 h.3 in
          let wrong : true ≡ false = sym on
          ∙ ap (λ (g : GroupLine). is_state cell c.args.a g && is_state cell c.args.b g) same
          ∙ sym c.has_both.ensures ∙ c.if-has_both.false in
          absurd cc
    ]

pub returns : goal.returns
returns c j h =
    c.loop-j.invariant j
    (let low = slice_get_within c.args.groups.now j h.0 h.1 in
    omega (arith, low, c.loop-j-test.false)) h
