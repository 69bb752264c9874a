use Rattle.std.proofs.Common.{List, ℕ, sym, subst}
use Rattle.std.specs.Prelude.{IsSome, map}
use Rattle.frz_sets.specs.Views.{RuleLines}
use Rattle.frz_game.specs.Numbers.{position_at}
use Rattle.frz_graph.specs.EntryCodes.{of_side}
use Rattle.frz_store.specs.Told.{sink_of}
use Rattle.frz_backs.specs.FileOn.{loaded_back}
use Rattle.frz_commands_why.specs.Deciders.{decider_of}
use Rattle.frz_commands_why.specs.Ending.{codes_loaded}
use Rattle.frz_commands_why.specs.Telling.{EndsWhy}
use Rattle.frz_commands_why.proofs.Told.{number_below}
use Rattle.frz_commands_why.proofs.why.tell_by.Goals as goal

pub tell_why-requires-clause-below : goal.tell_why-requires-clause-below
tell_why-requires-clause-below g c =
    number_below c.rules.result.now.groups c.args.number
    (subst (λ (r : RuleLines). IsSome (position_at r.groups c.args.number))
    (sym c.rules.ensures.rules) c.requires.inside)

pub returns-clause-told : goal.returns-clause-told
returns-clause-told g c =
    let own = c.args.own.now in
    let value = g.B.ExitBook.value_at c.args.book.now in
    let deciding = c.args.deciding.now in
    let decider = decider_of deciding.leans deciding.numbers.now deciding.rules.now
    (map loaded_back deciding.backs.now) in
    let old = sink_of g.O.Sink c.args.out.now in
    let new = sink_of g.O.Sink c.tell_why.new.out in
    subst (λ (r : RuleLines). EndsWhy r value c.args.side (codes_loaded own) decider c.args.number
    c.tell_why.result old new) c.rules.ensures.rules
    (subst (λ (w : List ℕ). EndsWhy c.rules.result.now value c.args.side
    (λ s. of_side s w own.black.items) decider c.args.number c.tell_why.result old new)
    c.deref.ensures.value
    (subst (λ (b : List ℕ). EndsWhy c.rules.result.now value c.args.side
    (λ s. of_side s c.deref.result.now b) decider c.args.number c.tell_why.result old new)
    c.deref-2.ensures.value c.tell_why.ensures.told))
