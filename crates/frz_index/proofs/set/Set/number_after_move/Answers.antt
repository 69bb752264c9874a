use Rattle.std.proofs.Common.{◌<◌, ◌↔◌, None, arith, ap, subst, sym, ◌∙◌}
use Rattle.std.specs.Prelude.{IfSome, IsSome}
use Rattle.std.proofs.lemmas.Option.{same_Some}
use Rattle.frz_board.specs.declared.man.Man.{Man}
use Rattle.frz_board.specs.Boards.{Board}
use Rattle.frz_board.specs.Moving.{Step}
use Rattle.frz_fide.specs.Valid.{IsValid}
use Rattle.frz_fide.proofs.Lemmas.{valid_after}
use Rattle.frz_index.proofs.Stepping.{after_quiet}
use Rattle.frz_index.specs.Members.{HasNumber}
use Rattle.frz_index.specs.Stepping.{IsCountedOnBoth, stepped}
use Rattle.frz_index.proofs.set.Set.number_after_move.Goals as goal

pub number_after_step-requires-clause-valid : goal.number_after_step-requires-clause-valid
number_after_step-requires-clause-valid c =
    let on : c.args.m.to < 64 = omega (arith, ap (λ (s : Step). s.to) c.m.view_is) in
    subst IsValid (after_quiet c.args.p.now c.args.m c.in-Some.man c.in-Some.ensures
    ∙ sym (ap (λ (s : Step). stepped c.args.p.now c.in-Some.man s.from s.to None) c.m-2.view_is))
    (valid_after c.args.p.now c.args.m c.requires.number.member.valid on c.requires.legal)

pub returns-in-Some-clause-number : goal.returns-in-Some-clause-number
returns-in-Some-clause-number c =
    subst (λ (q : Board). IfSome c.number_after_step.result (λ n. HasNumber c.args.self.now n q))
    (sym (after_quiet c.args.p.now c.args.m c.in-Some.man c.in-Some.ensures
    ∙ sym (ap (λ (s : Step). stepped c.args.p.now c.in-Some.man s.from s.to None) c.m-2.view_is)))
    c.number_after_step.ensures.number

pub returns-in-Some-clause-told : goal.returns-in-Some-clause-told
returns-in-Some-clause-told c =
    let told = subst (λ (s : Step). IsSome c.number_after_step.result
    ↔ IsCountedOnBoth c.args.self.now c.in-Some.man s.from s.to) c.m-2.view_is
    c.number_after_step.ensures.told in (
      λ some. (c.in-Some.man, c.in-Some.ensures, told.0 some),
      λ t. told.1
          (subst (λ (m : Man). IsCountedOnBoth c.args.self.now m c.args.m.from c.args.m.to)
          (same_Some t.0 c.in-Some.man (sym t.1.man_is ∙ c.in-Some.ensures.man_is)) t.2),
    )
