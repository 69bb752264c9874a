use Rattle.std.proofs.Common.{List, refl, sym, subst, ap, ◌∙◌}
use Rattle.frz_board.specs.Boards.{Board}
use Rattle.frz_board.specs.declared.man.Colour.TheVariants.{White}
use Rattle.frz_sets.specs.declared.exit.Value.{Value}
use Rattle.frz_sets.specs.Sets.{size_of}
use Rattle.frz_sets.specs.Sound.{IsSound}
use Rattle.frz_sets.specs.Views.{GroupLine, RuleLines}
use Rattle.frz_store.specs.Told.{sink_of}
use Rattle.frz_exits.specs.Books.{value_by}
use Rattle.frz_graph.specs.EntryCodes.{of_side}
use Rattle.frz_game.specs.Games.{game_of, graph_by}
use Rattle.frz_game.specs.Numbers.{numbers_by}
use Rattle.frz_index.specs.Members.{Num}
use Rattle.frz_ways.specs.declared.opponent.Opponent.TheVariants.{Codes}
use Rattle.frz_ways.specs.PlayLoaded.{PlaysLoaded}
use Rattle.frz_ways.specs.Ways.{way_player}
use Rattle.frz_ways.proofs.Lemmas.{by_table, turn_after}
use Rattle.library_example.proofs.KeptCodes.{number_inside}
use Rattle.library_example.proofs.LinePlayed.{line_played}
use Rattle.library_example.proofs.solved.Solved.line.Goals as goal

pub play_loaded-requires-clause-sound : goal.play_loaded-requires-clause-sound
play_loaded-requires-clause-sound g c =
    let game = c.game_by-game.result in
    c.numbered.ensures.finite game.rules.now (λ q. value_by game.book.now.rules.now q)
    (λ q valid. game.book.now.small q valid)
    (subst IsSound (sym c.game_by-game.ensures.rules) c.self.invariant.sound).size

pub play_loaded-requires-clause-turns : goal.play_loaded-requires-clause-turns
play_loaded-requires-clause-turns g c =
    let rules = c.game_by-game.result.rules.now in
    let value : Board → Value = λ q. value_by c.game_by-game.result.book.now.rules.now q in
    c.sides_move_in_turn.ensures.numbers (game_of rules value)
    (λ p m h. turn_after p m ((c.all_listed.ensures p m).0 h).1) (numbers_by rules.groups)
    (c.numbered.ensures.numbering rules value)

pub play_loaded-requires-clause-inside : goal.play_loaded-requires-clause-inside
play_loaded-requires-clause-inside g c =
    let s = c.self.inside in
    number_inside s.set c.game_by-game.result.rules.now.groups
    (c.self.invariant.fits ∙ sym (ap (λ (r : RuleLines). r.groups) c.game_by-game.ensures.rules))
    c.args.p.now (c.in-Some.ensures.member.0 refl) c.in-Some.start c.in-Some.ensures.number

pub play_loaded-requires-clause-many : goal.play_loaded-requires-clause-many
play_loaded-requires-clause-many g c =
    (c.codes-codes.ensures White).many
    ∙ ap (λ (r : RuleLines). size_of r.groups)
    (sym (c.game_by-game.ensures.rules ∙ c.self.view_is))

pub play_loaded-requires-clause-different : goal.play_loaded-requires-clause-different
play_loaded-requires-clause-different g c = λ i k l n.
    c.different_arms.ensures c.game_by-game.result.rules.now
    (λ q. value_by c.game_by-game.result.book.now.rules.now q) i k l n

pub returns-clause-line : goal.returns-clause-line
returns-clause-line g c = λ bound member is.
    let rules = c.args.self.now in
    let side = c.args.side in
    let p = c.args.p.now in
    let pair = c.codes-codes.result in
    let codes = of_side side pair.white.now pair.black.now in
    let table = c.codes-codes.ensures side in
    let game = c.game_by-game in
    let play = c.play_loaded in
    let played = play.ensures.played in
    line_played rules side codes table p member bound is c.in-Some.start c.new.result
    play.new.reader played.1 played.0 play.result c.args.steps.now play.new.steps
    (sink_of g.O.Sink c.args.out.now) (sink_of g.O.Sink play.new.out)
    (c.in-Some.ensures.number
    ∙ ap (λ (z : List GroupLine). Num z p)
    (c.self.invariant.fits ∙ ap (λ (r : RuleLines). r.groups) c.self.view_is))
    (by_table {table = rules} (λ arena. PlaysLoaded arena Codes side codes c.in-Some.start
    c.new.result play.new.reader played.1 played.0 play.result c.args.steps.now play.new.steps)
    ((game.ensures.book ∙ c.new-book.ensures) ∙ sym game.ensures.rules)
    (game.ensures.rules ∙ c.self.view_is) played.6) played.3 play.ensures.kind play.ensures.settled
    (λ input. c.bounds_kept_in_lines.ensures rules side codes p bound input table member is)
    (λ input plies end left way. (c.ways_by_cases.ensures.ways
    (way_player (graph_by rules (value_by rules)) Codes side (λ k. codes)) 0 input left
    (0, Num rules.groups p) plies end).1 way)
