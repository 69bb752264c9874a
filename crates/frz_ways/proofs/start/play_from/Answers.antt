use Rattle.std.proofs.Common.{◌≡◌, ◌<◌, List, refl, sym, subst, arith}
use Rattle.std.specs.Prelude.{IsSome}
use Rattle.frz_board.specs.Boards.{Board}
use Rattle.frz_sets.specs.declared.exit.Value.{Value}
use Rattle.frz_sets.specs.Sets.{size_of}
use Rattle.frz_sets.specs.Sound.{IsSound}
use Rattle.frz_sets.specs.Views.{RuleLines, GroupLine}
use Rattle.frz_store.specs.Told.{store_of, source_of, sink_of}
use Rattle.frz_exits.specs.Books.{value_by}
use Rattle.frz_game.specs.Games.{game_of}
use Rattle.frz_game.specs.Numbers.{numbers_by}
use Rattle.frz_game.proofs.Lemmas.{finite}
use Rattle.frz_index.specs.Members.{Member, Num}
use Rattle.frz_answer.specs.World.{spent_by}
use Rattle.frz_ways.specs.Kept.{told_codes}
use Rattle.frz_ways.proofs.CodesKept.{by_table, code_kept, may_before}
use Rattle.frz_ways.proofs.Spending.{code_read}
use Rattle.frz_table.specs.Tables.{table_size}
use Rattle.frz_ways.specs.PlayWay.{Plays}
use Rattle.frz_ways.proofs.Alternating.{turn_after}
use Rattle.frz_ways.proofs.WayFinished.{answer_cause, answer_input, answer_kind, same_fault}
use Rattle.frz_ways.proofs.WayStarts.{no_member, nothing_told, start_inside, start_unread, way_told}
use Rattle.frz_ways.proofs.start.play_from.Goals as goal

pub returns-in_default-clause-played : goal.returns-in_default-clause-played
returns-in_default-clause-played g c =
    nothing_told _ (table_size c.args.table.now) _ c.args.table.now.rules _ _ _ _
    (spent_by (store_of g.S.Store c.args.store.now) c.args.steps.now)
    (no_member c.args.p.now c.set.ensures c.in_default.ensures.member)

pub entry-requires-clause-number : goal.entry-requires-clause-number
entry-requires-clause-number g c =
    let rules = c.args.table.now.rules in
    start_inside rules c.args.p.now (c.numbered.ensures.numbering rules (value_by rules))
    c.set.ensures c.number.ensures.function c.in-Some.is

pub returns-in_err-code-clause-played : goal.returns-in_err-code-clause-played
returns-in_err-code-clause-played g c =
    start_unread _ (table_size c.args.table.now) _ c.args.table.now.rules _ _ _ _
    (code_read (store_of g.S.Store c.args.store.now) (store_of g.S.Store c.entry.new.store)
    c.args.steps.now c.in_err-code.ensures.asked c.in_err-code.ensures.calls)
    c.in_err-code.field-0.0 c.from_residual.result c.from_residual.ensures.1

pub play_way-finish-requires-clause-sound : goal.play_way-finish-requires-clause-sound
play_way-finish-requires-clause-sound g c =
    let sound = subst IsSound (sym c.rules-rules.ensures.rules) c.rules-rules.ensures.sound in
    finite c.rules-rules.result.now (λ q. value_by c.new-book.result.rules.now q)
    (λ q valid. c.new-book.result.small q valid) sound.size

pub play_way-finish-requires-clause-turns : goal.play_way-finish-requires-clause-turns
play_way-finish-requires-clause-turns g c =
    let rules = c.rules-rules.result.now in
    let value : Board → Value = λ q. value_by c.new-book.result.rules.now q in
    c.sides_move_in_turn.ensures.numbers (game_of rules value)
    (λ p m h. turn_after p m ((c.all_listed.ensures p m).0 h).1) (numbers_by rules.groups)
    (c.numbered.ensures.numbering rules value)

pub play_way-finish-requires-clause-inside : goal.play_way-finish-requires-clause-inside
play_way-finish-requires-clause-inside g c =
    let rules = c.args.table.now.rules in
    subst (λ (r : RuleLines). c.in-Some.start < size_of r.groups) (sym c.rules-rules.ensures.rules)
    (start_inside rules c.args.p.now (c.numbered.ensures.numbering rules (value_by rules))
    c.set.ensures c.number.ensures.function c.in-Some.is)

pub returns-clause-played : goal.returns-clause-played
returns-clause-played g c =
    let table = c.args.table.now in
    let side = c.args.player.side in
    let files = g.S.Store.files c.args.store.now in
    let source = source_of g.I.Source c.args.input.now in
    let start = c.in-Some.start in
    let code = c.in_ok-code.code in
    let first = c.new-reader.result in
    let last = c.play_way-finish.new.reader in
    let mid = spent_by (store_of g.S.Store c.entry.new.store) c.args.steps.now in
    let now = spent_by (store_of g.S.Store c.play_way-finish.new.store)
    c.play_way-finish.new.steps in
    let w = c.play_way-finish.ensures.wrote in
    way_told (told_codes table side files) (table_size table) c.args.player.opponent table.rules
    side c.args.p.now c.play_way-finish.result c.end_answer.result
    c.end_answer.ensures
    source (source_of g.I.Source c.play_way-finish.new.input) first last
    (sink_of g.O.Sink c.args.out.now)
    (sink_of g.O.Sink c.play_way-finish.new.out) now start code
    (subst (λ (z : List GroupLine). start ≡ Num z c.args.p.now) c.set.ensures
    c.in-Some.ensures.number)
    (code_read (store_of g.S.Store c.args.store.now) (store_of g.S.Store c.entry.new.store)
    c.args.steps.now c.in_ok-code.ensures.asked c.in_ok-code.ensures.calls)
    (start_inside table.rules c.args.p.now
    (c.numbered.ensures.numbering table.rules (value_by table.rules))
    c.set.ensures c.number.ensures.function c.in-Some.is) (search arith)
    (code_kept table side files start code c.in_ok-code.ensures.code) c.new-reader.ensures.more
    c.play_way-finish.ensures.still_ended w.0 w.1 w.2 w.3 w.4 w.6.0
    (λ k. may_before (told_codes table side) (table_size table) (w.6.0 k)
    c.in_ok-code.ensures.quiet.unwritten.files (w.6.1 k))
    (λ codes same. by_table {table = table.rules}
    (λ arena. Plays arena c.args.player.opponent side codes start code first last w.1 w.0
    c.play_way-finish.result mid now) c.new-book.ensures c.rules-rules.ensures.rules
    (w.6.2 codes same))

pub returns-clause-outside : goal.returns-clause-outside
returns-clause-outside g c = (
  λ e. absurd (c.play_way-finish.ensures.placed
      (same_fault c.play_way-finish.result c.end_answer.ensures _ e)),
  λ none. absurd (none (subst (λ (z : List GroupLine). Member z c.args.p.now) c.set.ensures
      (c.number.ensures.member.0 (subst IsSome (sym c.in-Some.is) refl)))),
)

pub returns-clause-untouched : goal.returns-clause-untouched
returns-clause-untouched g c = λ e.
    absurd (c.play_way-finish.ensures.placed
    (same_fault c.play_way-finish.result c.end_answer.ensures _ e))

pub returns-clause-kind : goal.returns-clause-kind
returns-clause-kind g c =
    answer_kind c.play_way-finish.result c.end_answer.ensures c.args.player.opponent
    c.play_way-finish.ensures.kind

pub returns-clause-cause : goal.returns-clause-cause
returns-clause-cause g c =
    answer_cause c.play_way-finish.result c.end_answer.ensures (store_of g.S.Store c.args.store.now)
    (store_of g.S.Store c.entry.new.store) (store_of g.S.Store c.play_way-finish.new.store)
    (record {
      faults = c.in_ok-code.ensures.causes.fine;
      wants = c.in_ok-code.ensures.causes.wants_fine;
    }) c.play_way-finish.ensures.cause

pub returns-clause-input : goal.returns-clause-input
returns-clause-input g c =
    answer_input c.play_way-finish.result c.end_answer.ensures
    (source_of g.I.Source c.args.input.now) (source_of g.I.Source c.play_way-finish.new.input)
    c.play_way-finish.ensures.input

pub play_way-finish-requires-clause-different : goal.play_way-finish-requires-clause-different
play_way-finish-requires-clause-different g c = λ i k l n.
    c.different_arms.ensures c.rules-rules.result.now
    (λ q. value_by c.new-book.result.rules.now q) i k l n
