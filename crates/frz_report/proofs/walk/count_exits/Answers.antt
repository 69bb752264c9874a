use Rattle.std.proofs.Common.{◌≡◌, ◌∙◌, ◌++◌, ℕ, List, All, sym, subst, true, arith}
use Rattle.frz_board.specs.Moving.{Step}
use Rattle.frz_fide.specs.Legal.{is_legal}
use Rattle.frz_sets.specs.declared.exit.Value.{Value}
use Rattle.frz_arena.specs.declared.arm.Arm.{Arm}
use Rattle.frz_game.specs.Games.{graph_by}
use Rattle.frz_index.proofs.Lemmas.{position_tells}
use Rattle.frz_report.specs.Exits.{classes_after, exits_below}
use Rattle.frz_report.specs.Walks.{Counts}
use Rattle.frz_report.proofs.Looking.{counted_more, firsts_more, few_with_one_more, total_more, weaker_holds_on_ok}
use Rattle.frz_report.proofs.Walking.{arms_legal}
use Rattle.frz_report.proofs.walk.count_exits.Goals as goal

pub note_all-requires-clause-valid : goal.note_all-requires-clause-valid
note_all-requires-clause-valid g c =
    (position_tells c.args.game.now.rules.now.groups c.args.number c.args.p.now
    c.requires.position).member.valid

pub note_all-requires-clause-legal : goal.note_all-requires-clause-legal
note_all-requires-clause-legal g c =
    let rules = c.args.game.now.rules.now in
    let value = g.B.ExitBook.value_at c.args.game.now.book.now in
    let are : c.as_slice.result.now ≡ (graph_by rules value).arms c.args.number =
    c.as_slice.ensures.value ∙ c.nexts_by.ensures.arms in
    subst (λ (l : List (Arm Step ℕ Value)). All (λ a. is_legal c.args.p.now a.mv ≡ true) l)
    (sym are) (arms_legal rules value c.args.number c.args.p.now c.requires.position)

pub note_all-requires-clause-counts : goal.note_all-requires-clause-counts
note_all-requires-clause-counts g c =
    let rules = c.args.game.now.rules.now in
    let value = g.B.ExitBook.value_at c.args.game.now.book.now in (
      exits_below rules value c.args.number,
      c.requires.counts,
      c.requires.total,
      omega (arith, c.as_slice.ensures.fits),
    )

pub returns-clause-counts : goal.returns-clause-counts
returns-clause-counts g c =
    let rules = c.args.game.now.rules.now in
    let value = g.B.ExitBook.value_at c.args.game.now.book.now in
    let are : c.as_slice.result.now ≡ (graph_by rules value).arms c.args.number =
    c.as_slice.ensures.value ∙ c.nexts_by.ensures.arms in
    weaker_holds_on_ok _ _ c.note_all.result
    (λ (h : (exits : List (List ℕ)) → Counts c.args.census.now.classes.entries exits
    → Counts c.note_all.new.self.classes.entries
    (exits ++ classes_after c.args.p.now c.as_slice.result.now)).
    counted_more rules value c.args.number c.args.p.now c.as_slice.result.now c.requires.position
    are c.args.census.now.classes.entries c.note_all.new.self.classes.entries h c.requires.counts)
    c.note_all.ensures.counts

pub returns-clause-firsts : goal.returns-clause-firsts
returns-clause-firsts g c =
    let rules = c.args.game.now.rules.now in
    let value = g.B.ExitBook.value_at c.args.game.now.book.now in
    let are : c.as_slice.result.now ≡ (graph_by rules value).arms c.args.number =
    c.as_slice.ensures.value ∙ c.nexts_by.ensures.arms in
    weaker_holds_on_ok _ _ c.note_all.result
    (λ h. firsts_more rules value c.args.number c.args.p.now c.as_slice.result.now
    c.requires.position are c.args.census.now.classes.entries
    c.note_all.new.self.classes.entries c.args.census.now.firsts.items
    c.note_all.new.self.firsts.items h c.requires.firsts)
    c.note_all.ensures.firsts

pub returns-clause-total : goal.returns-clause-total
returns-clause-total g c =
    let rules = c.args.game.now.rules.now in
    let value = g.B.ExitBook.value_at c.args.game.now.book.now in
    let are : c.as_slice.result.now ≡ (graph_by rules value).arms c.args.number =
    c.as_slice.ensures.value ∙ c.nexts_by.ensures.arms in
    weaker_holds_on_ok _ _ c.note_all.result
    (λ h. total_more rules value c.args.number c.args.p.now c.as_slice.result.now
    c.requires.position are c.args.census.now.total c.note_all.new.self.total c.requires.total h)
    c.note_all.ensures.total

pub returns-clause-few : goal.returns-clause-few
returns-clause-few g c =
    let rules = c.args.game.now.rules.now in
    let value = g.B.ExitBook.value_at c.args.game.now.book.now in
    weaker_holds_on_ok _ _ c.note_all.result
    (λ h. few_with_one_more rules value c.args.number c.args.p.now c.as_slice.result.now
    c.args.census.now.total c.note_all.new.self.total c.as_slice.ensures.fits c.requires.few h)
    c.note_all.ensures.total
