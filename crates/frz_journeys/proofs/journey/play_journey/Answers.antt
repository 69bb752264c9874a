use Rattle.std.proofs.Common.{◌≡◌, List, map, refl, Some, sym, subst}
use Rattle.std.specs.Prelude.{IsSome}
use Rattle.frz_index.specs.Members.{HasNumber, Member}
use Rattle.frz_index.specs.Membership.{number_of}
use Rattle.frz_index.proofs.Lemmas.{number_back}
use Rattle.frz_sets.specs.Views.{GroupLine}
use Rattle.frz_store.specs.Told.{source_of, sink_of}
use Rattle.frz_chain.proofs.Lemmas.{number_below}
use Rattle.frz_backs.specs.Loaded.{link_loaded}
use Rattle.frz_journeys.proofs.JourneyStarts.{all_told, never_outside, no_member, nothing_told}
use Rattle.frz_journeys.proofs.journey.play_journey.Goals as goal

pub returns-in_default-clause-played : goal.returns-in_default-clause-played
returns-in_default-clause-played g c =
    nothing_told c.args.player.opponent c.args.player.side (map link_loaded c.args.backs.now)
    (link_loaded c.args.table.now) c.args.p.now
    (no_member c.args.p.now c.set.ensures c.in_default.ensures.member)
    (source_of g.I.Source c.args.input.now) (sink_of g.O.Sink c.args.out.now) c.args.steps.now

pub returns-in_default-clause-outside : goal.returns-in_default-clause-outside
returns-in_default-clause-outside g c =
    (λ e. no_member c.args.p.now c.set.ensures c.in_default.ensures.member, λ none. refl)

pub play_on-requires-clause-inside : goal.play_on-requires-clause-inside
play_on-requires-clause-inside g c =
    number_below c.args.table.now.table.rules.groups c.args.p.now c.in-Some.start
    (subst (λ (gs : List GroupLine). Some c.in-Some.start ≡ number_of gs c.args.p.now) c.set.ensures
    c.in-Some.ensures.function)

pub returns-clause-played : goal.returns-clause-played
returns-clause-played g c =
    let groups = c.args.table.now.table.rules.groups in
    let w = c.play_on.ensures.played in
    let has : HasNumber groups c.in-Some.start c.args.p.now =
    number_back groups c.args.p.now c.in-Some.start
    (sym (subst (λ (gs : List GroupLine). Some c.in-Some.start ≡ number_of gs c.args.p.now)
    c.set.ensures c.in-Some.ensures.function)) in
    all_told c.args.player.opponent c.args.player.side (map link_loaded c.args.backs.now)
    (link_loaded c.args.table.now) c.args.p.now c.in-Some.start has c.new-reader.result
    c.play_on.new.reader c.new-reader.ensures.more c.play_on.result
    (source_of g.I.Source c.args.input.now) (source_of g.I.Source c.play_on.new.input)
    (sink_of g.O.Sink c.args.out.now) (sink_of g.O.Sink c.play_on.new.out) c.args.steps.now
    c.play_on.new.steps c.play_on.ensures.still_ended w.0 w.1 w.2 w.3 w.4 (w.6 c.args.p.now has)

pub returns-clause-outside : goal.returns-clause-outside
returns-clause-outside g c = (
  λ e. absurd (never_outside c.play_on.result.answer c.play_on.ensures.settled e),
  λ none. absurd (none (subst (λ (gs : List GroupLine). Member gs c.args.p.now) c.set.ensures
      (c.number.ensures.member.0 (subst IsSome (sym c.in-Some.is) refl)))),
)

pub returns-clause-untouched : goal.returns-clause-untouched
returns-clause-untouched g c = λ e.
    absurd (never_outside c.play_on.result.answer c.play_on.ensures.settled e)
