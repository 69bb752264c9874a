use Rattle.std.proofs.Common.{◌≡◌, ◌<◌, ◌^◌, true, List, refl, ap, sym, subst, ◌∙◌, arith}
use Rattle.std.specs.List.{AllByRecursion, flat_map}
use Rattle.frz_combinations.specs.Binomials.{capped}
use Rattle.frz_combinations.specs.MixedRadix.{value_onto}
use Rattle.frz_sets.proofs.Lemmas.{counted}
use Rattle.frz_sets.specs.Sound.{AreCounted}
use Rattle.frz_sets.specs.Views.{GroupLine, RuleLines}
use Rattle.frz_index.proofs.FormerNumbers.{number_made}
use Rattle.frz_index.proofs.Membership.{men_of, of_men}
use Rattle.frz_index.specs.Members.{Member}
use Rattle.frz_index.specs.Membership.{are_men_covered}
use Rattle.frz_index.specs.OldDigits.{turn_before}
use Rattle.frz_index.specs.OldNumbers.{OldNum, old_digits, old_radices}
use Rattle.frz_index.specs.Places.{IsWithinCount}
use Rattle.frz_index.proofs.old.old_number.Goals as goal

pub returns-then-not-are_covered-clause-member : goal.returns-then-not-are_covered-clause-member
returns-then-not-are_covered-clause-member c = (
  λ e. absurd cc,
  λ m.
      let gs = c.args.r.now.groups in
      let same = c.deref.ensures.value ∙ ap (λ (r : RuleLines). r.groups) c.r.view_is in
      let covered : c.are_covered.result ≡ true = c.are_covered.ensures
      ∙ ap (λ (gs : List GroupLine). are_men_covered gs c.args.p.now) same
      ∙ of_men gs c.args.p.now m.men in
      let missing = c.if-not-are_covered.true in
      absurd cc,
)

pub with_groups-requires : goal.with_groups-requires
with_groups-requires c =
    subst AreCounted (sym (c.deref-3.ensures.value ∙ ap (λ (r : RuleLines). r.groups) c.r.view_is))
    (counted c.args.r.now c.requires.sound.lines)

within : (c : goal.In_ok-number) → Member c.args.r.now.groups c.args.p.now
within c =
    let gs = c.args.r.now.groups in
    let p = c.args.p.now in
    let same = c.deref.ensures.value ∙ ap (λ (r : RuleLines). r.groups) c.r.view_is in
    let read = c.deref-3.ensures.value ∙ ap (λ (r : RuleLines). r.groups) c.r.view_is in
    let covered : are_men_covered gs p ≡ true = sym
    (c.are_covered.ensures ∙ ap (λ (gs : List GroupLine). are_men_covered gs p) same)
    ∙ c.if-not-are_covered.false in
    record {
      valid = c.requires.valid;
      men = men_of gs p covered;
      counts = subst (AllByRecursion (IsWithinCount p)) read c.in_ok-number.ensures.0;
    }

is_number : (c : goal.In_ok-number) →
    (c.in_ok-number.number ≡ OldNum c.args.r.now.groups c.args.p.now)
    × (c.in_ok-number.number < 2 ^ 32)
is_number c =
    let gs = c.args.r.now.groups in
    let p = c.args.p.now in
    let turns = c.deref-2.ensures.value ∙ ap (λ (r : RuleLines). r.groups) c.r.view_is in
    let read = c.deref-3.ensures.value ∙ ap (λ (r : RuleLines). r.groups) c.r.view_is in
    let turn = c.turn_state-turn.ensures ∙ ap (λ (gs : List GroupLine). turn_before gs p.turn p.ep)
    turns in
    let digits = c.in_ok-number.ensures.1
    ∙ ap (λ (gs : List GroupLine). capped
    (value_onto c.turn_state-turn.result (flat_map old_radices gs)
    (flat_map (old_digits p) gs))) read in
    number_made gs p c.turn_state-turn.result c.in_ok-number.number (within c) c.requires.size turn
    digits

pub overflow_cast-result : goal.overflow_cast-result
overflow_cast-result c = omega (arith, (is_number c).1)

pub returns-clause-member : goal.returns-clause-member
returns-clause-member c = (λ e. within c, λ m. refl)

pub returns-clause-number : goal.returns-clause-number
returns-clause-number c = (is_number c).0
