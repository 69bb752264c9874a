use Rattle.std.proofs.Common.{◌≡◌, ◌<◌, List, None, arith, ap, subst, sym, ◌∙◌}
use Rattle.std.specs.Prelude.{IfSome}
use Rattle.frz_board.specs.Boards.{Board}
use Rattle.frz_board.specs.Moving.{Step}
use Rattle.frz_fide.specs.Legal.{after}
use Rattle.frz_fide.specs.Valid.{IsValid}
use Rattle.frz_fide.proofs.Lemmas.{apart, facts, valid_after}
use Rattle.frz_sets.specs.Views.{GroupLine}
use Rattle.frz_index.proofs.AfterTaking.{after_take}
use Rattle.frz_index.specs.Members.{HasNumber}
use Rattle.frz_index.specs.Stepping.{stepped}
use Rattle.frz_index.proofs.set.Set.number_after_taking.Goals as goal
use Rattle.frz_index.proofs.set.Set.number_after_taking.Goals.{In-Some}

pub number_after_taking_in-requires-clause-apart : goal.number_after_taking_in-requires-clause-apart
number_after_taking_in-requires-clause-apart c =
    λ e. apart c.args.p.now c.args.m (facts c.args.p.now c.args.m c.requires.legal)
    (sym (ap (λ (s : Step). s.from) c.m-2.view_is) ∙ e ∙ ap (λ (s : Step). s.to) c.m-2.view_is)

-- the position after the move
taken_is : (c : In-Some) → after c.args.p.now c.args.m
    ≡ stepped c.args.p.now c.in-Some.man c.m-2.inside.from c.m-2.inside.to None
taken_is c =
    after_take c.args.p.now c.args.m c.in-Some.man c.in-Some.taken c.requires.number.member.valid
    c.in-Some.ensures
    ∙ sym (ap (λ (s : Step). stepped c.args.p.now c.in-Some.man s.from s.to None) c.m-2.view_is)

pub number_after_taking_in-requires-clause-valid : goal.number_after_taking_in-requires-clause-valid
number_after_taking_in-requires-clause-valid c =
    let on : c.args.m.to < 64 = omega (arith, ap (λ (s : Step). s.to) c.m.view_is) in
    subst IsValid
    (taken_is (goal.at.number_after_taking_in-requires-clause-valid c).In-Some)
    (valid_after c.args.p.now c.args.m c.requires.number.member.valid on c.requires.legal)

pub returns-in-None-clause-told : goal.returns-in-None-clause-told
returns-in-None-clause-told c =
    (λ wrong. absurd cc, λ t. absurd (c.in-None.ensures t.0 t.1 t.2))

pub returns-in-Some-clause-number : goal.returns-in-Some-clause-number
returns-in-Some-clause-number c =
    subst (λ (q : Board). IfSome c.number_after_taking_in.result
    (λ n. HasNumber c.args.self.now n q))
    (sym (taken_is (goal.at.returns-in-Some-clause-number c).In-Some))
    (subst (λ (gs : List GroupLine). IfSome c.number_after_taking_in.result
    (λ n. HasNumber gs n (stepped c.args.p.now c.in-Some.man c.m-2.inside.from c.m-2.inside.to
    None))) c.self.view_is c.number_after_taking_in.ensures.number)
