use Rattle.std.proofs.Common.{◌≡◌, ◌%◌, List, Option, ap, false, map, subst, sym, true, ◌∙◌}
use Rattle.std.specs.Prelude.{MatchOption}
use Rattle.frz_board.specs.Boards.{Board}
use Rattle.frz_combinations.specs.MixedRadix.{digits}
use Rattle.frz_sets.specs.Sets.{radix_of}
use Rattle.frz_sets.specs.Views.{GroupLine}
use Rattle.frz_index.specs.Candidates.{candidate}
use Rattle.frz_index.specs.FixedMen.{are_loose_free, put_loose}
use Rattle.frz_index.specs.FreeSquares.{is_spread}
use Rattle.frz_index.proofs.FixedFirst.{candidate_made, fixed_meet, loose_told}
use Rattle.frz_index.proofs.set.candidate_in.Goals.{After-put_loose}
use Rattle.frz_index.proofs.Bounds.{whole_some}
use Rattle.frz_index.proofs.set.candidate_in.Goals as goal

pub left_over-rest-requires : goal.left_over-rest-requires
left_over-rest-requires c =
    whole_some c.args.plan.now.groups.items c.args.plan.now.whole c.requires.numberable
    c.requires.whole_is

pub returns-in_err-p : goal.returns-in_err-p
returns-in_err-p c =
    let gs = c.args.plan.now.groups.items in
    subst (λ (o : Option Board). MatchOption o (is_spread gs c.args.i ≡ false)
    (λ p. (is_spread gs c.args.i ≡ true) × (p ≡ candidate gs c.args.i))) (sym c.from_residual.ensures)
    (fixed_meet gs c.args.i c.requires.numberable c.requires.apart
    (c.in_err-p.ensures gs c.requires.fixed_are))

-- no two men would stand on one square exactly where all loose men could be put
told : (c : After-put_loose) → is_spread c.args.plan.now.groups.items c.args.i ≡ c.put_loose.result
told c =
    let gs = c.args.plan.now.groups.items in
    let fixed = c.in_ok-p.ensures gs c.requires.fixed_are in
    let rest = c.left_over-rest.result in
    let p = c.in_ok-p.p in
    loose_told gs c.args.i c.requires.numberable c.requires.apart c.turn_state_in-turn.result.0
    c.turn_state_in-turn.result.1 rest p
    (c.left_over-rest.ensures ∙ ap (λ w. c.args.i % w) c.requires.whole_is) fixed.0 fixed.1
    ∙ sym (c.put_loose.ensures.free
    ∙ ap (λ (xs : List GroupLine). are_loose_free xs (digits (map radix_of xs) rest) p.cells)
    c.deref.ensures.value)

pub returns-then-put_loose : goal.returns-then-put_loose
returns-then-put_loose c =
    let gs = c.args.plan.now.groups.items in
    let fixed = c.in_ok-p.ensures gs c.requires.fixed_are in
    let rest = c.left_over-rest.result in
    let p = c.in_ok-p.p in
    let spread = told (goal.at.returns-then-put_loose c).After-put_loose ∙ c.if-put_loose.true in (
      spread,
      c.put_loose.ensures.put c.if-put_loose.true
          ∙ ap (λ (xs : List GroupLine).
          record p { cells = put_loose xs (digits (map radix_of xs) rest) p.cells })
          c.deref.ensures.value
          ∙ candidate_made gs c.args.i c.requires.numberable c.requires.apart
          c.turn_state_in-turn.result.0 c.turn_state_in-turn.result.1 rest p
          (c.left_over-rest.ensures ∙ ap (λ w. c.args.i % w) c.requires.whole_is) fixed.0 fixed.1
          spread c.turn_state_in-turn.ensures,
    )

pub returns-else-put_loose : goal.returns-else-put_loose
returns-else-put_loose c =
    told (goal.at.returns-else-put_loose c).After-put_loose ∙ c.if-put_loose.false
