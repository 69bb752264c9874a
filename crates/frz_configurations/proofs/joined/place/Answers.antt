use Rattle.std.proofs.Common.{◌<◌, ◌≤◌, ◌∙◌, ap, arith, length, sym}
use Rattle.std.proofs.lemmas.Option.{slice_get_within}
use Rattle.frz_board.specs.declared.man.Kind.TheVariants.{King}
use Rattle.frz_sets.specs.Views.{GroupLine}
use Rattle.frz_configurations.proofs.PuttingTogether.{found_here, passed_over}
use Rattle.frz_configurations.proofs.joined.place.Goals as goal

pub loop-group-preserved : goal.loop-group-preserved
loop-group-preserved c j there =
    passed_over c.args.group.now.states c.group.inside.states.items j c.loop-group.k c.args.square
    c.index.result.now (ap (λ (g : GroupLine). g.states) c.group.view_is)
    (c.loop-group.invariant j there) c.index.ensures (sym c.ne.ensures ∙ c.loop-group-test.true) there

pub loop-group-smaller : goal.loop-group-smaller
loop-group-smaller c =
    let place = c.requires.there.place in
    let inside : place < length c.args.group.now.states =
    slice_get_within c.args.group.now.states place (King, c.args.square) c.requires.there.there in
    let here : c.loop-group.k ≤ place = c.loop-group.invariant place c.requires.there.there in
    omega arith

pub index-requires : goal.index-requires
index-requires c =
    let place = c.requires.there.place in
    let inside : place < length c.args.group.now.states =
    slice_get_within c.args.group.now.states place (King, c.args.square) c.requires.there.there in
    let here : c.loop-group.k ≤ place = c.loop-group.invariant place c.requires.there.there in
    omega (arith, ap length (ap (λ (g : GroupLine). g.states) c.group.view_is))

pub overflow_add-k : goal.overflow_add-k
overflow_add-k c =
    let place = c.requires.there.place in
    let inside : place < length c.args.group.now.states =
    slice_get_within c.args.group.now.states place (King, c.args.square) c.requires.there.there in
    let here : c.loop-group.k ≤ place = c.loop-group.invariant place c.requires.there.there in
    omega (arith, c.requires.short)

pub returns : goal.returns
returns c =
    let place = c.requires.there.place in
    let inside : place < length c.args.group.now.states =
    slice_get_within c.args.group.now.states place (King, c.args.square) c.requires.there.there in
    let here : c.loop-group.k ≤ place = c.loop-group.invariant place c.requires.there.there in
    record {
      state = found_here c.args.group.now c.group.inside.states.items c.loop-group.k c.args.square
          c.index.result.now (ap (λ (g : GroupLine). g.states) c.group.view_is) c.requires.kings
          (omega arith) c.index.ensures (sym c.ne.ensures ∙ c.loop-group-test.false);
      fits = omega arith;
    }
