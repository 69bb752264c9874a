use Rattle.std.proofs.Common.{◌≡◌, ℕ, ◌/◌, ◌%◌, ◌<◌, ◌∙◌, List, Option, ap, map, refl, replicate, subst, sym}
use Rattle.frz_board.specs.Boards.{Board}
use Rattle.frz_board.specs.declared.man.Colour.{Colour}
use Rattle.frz_combinations.specs.MixedRadix.{digits, product}
use Rattle.frz_sets.specs.Sets.{radix_of, targets}
use Rattle.frz_sets.specs.Views.{GroupLine}
use Rattle.frz_index.specs.Candidates.{no_men, put_groups}
use Rattle.frz_index.specs.FreeSquares.{are_groups_free}
use Rattle.frz_index.specs.TurnStates.{turn_in}
use Rattle.frz_configurations.specs.Configurations.{configuration_count, others}
use Rattle.frz_kingless.specs.Boards.{HasNoPosition, IsBoardOf}
use Rattle.frz_kingless.proofs.DigitBoards.{made, none_made, own_digits_of}
use Rattle.frz_kingless.proofs.finding.board_of.Goals.{After-put_others}
use Rattle.frz_kingless.proofs.finding.board_of.Goals as goal

empty_is : replicate 64 0 ≡ no_men
unfolding no_men
empty_is = refl

inside : (c : After-put_others) →
    c.args.configuration < configuration_count c.args.configurations.now.rules.now.groups
inside c = subst (λ gs. c.args.configuration < configuration_count gs) c.requires.set c.requires.inside

-- the digits that were taken, on the board that was empty
free_is : (c : After-put_others) → c.put_others.result
    ≡ are_groups_free (others c.args.configurations.now.rules.now.groups)
    (own_digits_of c.args.configurations.now.rules.now.groups c.args.configuration) no_men
free_is c =
    let os = others c.args.configurations.now.rules.now.groups in
    let n = c.args.configuration in
    c.put_others.ensures.free
    ∙ ap (λ w. are_groups_free os (digits (map radix_of os) (n % w)) c.empty-p.result.cells)
    c.whole-whole.ensures
    ∙ ap (λ (b : Board). are_groups_free os
    (own_digits_of c.args.configurations.now.rules.now.groups n) b.cells) c.empty-p.ensures
    ∙ ap (are_groups_free os (own_digits_of c.args.configurations.now.rules.now.groups n)) empty_is

pub returns-then-put_others : goal.returns-then-put_others
returns-then-put_others c =
    let r = c.args.configurations.now.rules.now in
    let gs = r.groups in
    let os = others gs in
    let n = c.args.configuration in
    let p = c.put_others.new.p in
    let here = (goal.at.returns-then-put_others c).After-put_others in
    let put = c.put_others.ensures.put c.if-put_others.true in
    let cells : p.cells ≡ put_groups os (own_digits_of gs n) no_men =
    ap (λ (b : Board). b.cells) put
    ∙ ap (λ w. put_groups os (digits (map radix_of os) (n % w)) c.empty-p.result.cells)
    c.whole-whole.ensures
    ∙ ap (λ (b : Board). put_groups os (own_digits_of gs n) b.cells) c.empty-p.ensures
    ∙ ap (put_groups os (own_digits_of gs n)) empty_is in
    let turn : turn_in (targets gs) (n / product (map radix_of os)) ≡ (p.turn, p.ep) =
    sym (ap (λ (b : Board). let x : Colour × Option ℕ = (b.turn, b.ep) in x) put
    ∙ ap (λ (b : Board). let x : Colour × Option ℕ = (b.turn, b.ep) in x) c.empty-p.ensures
    ∙ c.turn_state-turn.ensures
    ∙ ap (λ (xs : List GroupLine). turn_in (targets xs) (n / c.whole-whole.result)) c.requires.set
    ∙ ap (λ w. turn_in (targets gs) (n / w)) c.whole-whole.ensures) in
    subst (λ (xs : List GroupLine). IsBoardOf xs n p) (sym c.requires.set)
    (made r c.requires.sound n (inside here) p cells turn
    (sym (free_is here) ∙ c.if-put_others.true))

pub returns-else-put_others : goal.returns-else-put_others
returns-else-put_others c =
    let here = (goal.at.returns-else-put_others c).After-put_others in
    subst (λ (xs : List GroupLine). HasNoPosition xs c.args.configuration) (sym c.requires.set)
    (none_made c.args.configurations.now.rules.now c.requires.sound c.args.configuration (inside here)
    (sym (free_is here) ∙ c.if-put_others.false))
