use Rattle.std.proofs.Common.{◌<◌, sym, subst}
use Rattle.frz_sets.specs.Sets.{size_of}
use Rattle.frz_sets.specs.Sound.{IsSound}
use Rattle.frz_sets.specs.Views.{RuleLines}
use Rattle.frz_game.specs.Games.{game_of}
use Rattle.frz_game.specs.Numbers.{numbers_by}
use Rattle.frz_game.proofs.Lemmas.{finite}
use Rattle.frz_backs.specs.Loaded.{link_loaded}
use Rattle.frz_ways.specs.Shown.{PlaysShown}
use Rattle.frz_ways.proofs.Lemmas.{turn_after}
use Rattle.frz_journeys.specs.Tables.{codes_of}
use Rattle.frz_journeys.proofs.Leaving.{left_legally}
use Rattle.frz_journeys.proofs.WayByValues.{moved_lent}
use Rattle.frz_journeys.proofs.stage.play_by.Goals as goal

pub play_shown-requires-clause-sound : goal.play_shown-requires-clause-sound
play_shown-requires-clause-sound g c =
    let sound = subst IsSound (sym c.rules-rules.ensures.rules) c.rules-rules.ensures.sound in
    finite c.rules-rules.result.now (g.B.ExitBook.value_at c.args.book.now)
    (g.met.B.ExitBook.small c.args.book.now) sound.size

pub play_shown-requires-clause-turns : goal.play_shown-requires-clause-turns
play_shown-requires-clause-turns g c =
    let rules = c.rules-rules.result.now in
    let value = g.B.ExitBook.value_at c.args.book.now in
    c.sides_move_in_turn.ensures.numbers (game_of rules value)
    (λ p m h. turn_after p m ((c.all_listed.ensures p m).0 h).1) (numbers_by rules.groups)
    (c.numbered.ensures.numbering rules value)

pub play_shown-requires-clause-different : goal.play_shown-requires-clause-different
play_shown-requires-clause-different g c = λ i k l n.
    c.different_arms.ensures c.rules-rules.result.now (g.B.ExitBook.value_at c.args.book.now) i k l n

pub play_shown-requires-clause-inside : goal.play_shown-requires-clause-inside
play_shown-requires-clause-inside g c =
    subst (λ (r : RuleLines). c.args.start < size_of r.groups) (sym c.rules-rules.ensures.rules)
    c.requires.inside

pub returns-clause-played : goal.returns-clause-played
returns-clause-played g c =
    let w = c.play_shown.ensures.played in
    let table = c.args.table.now in
    let side = c.args.player.side in (
      w.0,
      w.1,
      w.2,
      w.3,
      w.4,
      w.5,
      moved_lent (λ arena codes. PlaysShown arena c.args.player.opponent side codes c.args.start
          c.args.reader.now c.play_shown.new.reader w.1 w.0 c.play_shown.result c.args.steps.now
          c.play_shown.new.steps) (g.B.ExitBook.value_at c.args.book.now) side
          c.rules-rules.result.now table.table.rules _ _ table.white.items table.black.items
          c.rules-rules.ensures.rules c.deref.ensures.value c.deref-2.ensures.value w.6,
    )

pub returns-clause-left : goal.returns-clause-left
returns-clause-left g c =
    let w = c.play_shown.ensures.played in
    let table = c.args.table.now in
    let opponent = c.args.player.opponent in
    let side = c.args.player.side in
    let value = g.B.ExitBook.value_at c.args.book.now in
    let codes = codes_of side (link_loaded table) in
    left_legally table.table.rules value opponent side codes c.args.start c.args.reader.now
    c.play_shown.new.reader w.1 w.0 c.play_shown.result c.args.steps.now c.play_shown.new.steps
    (moved_lent (λ arena cs. PlaysShown arena opponent side cs c.args.start
    c.args.reader.now c.play_shown.new.reader w.1 w.0 c.play_shown.result c.args.steps.now
    c.play_shown.new.steps) value side c.rules-rules.result.now table.table.rules _ _
    table.white.items table.black.items c.rules-rules.ensures.rules c.deref.ensures.value
    c.deref-2.ensures.value w.6)
    (λ input. c.one_way.ensures.there table.table.rules value opponent side (λ k. codes)
    c.args.start input)
    (λ input plies end left way. c.ways_are_games.ensures.game table.table.rules value opponent side
    (λ k. codes) c.args.start input plies end left way)
    c.all_listed.ensures
