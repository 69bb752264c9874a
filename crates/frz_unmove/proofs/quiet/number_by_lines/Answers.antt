use Rattle.std.proofs.Common.{◌<◌, arith, ap, subst, sym, ◌∙◌}
use Rattle.frz_board.specs.Moving.{Step}
use Rattle.frz_fide.specs.Valid.{IsValid}
use Rattle.frz_index.specs.Members.{HasNumber}
use Rattle.frz_index.specs.Membership.{number_of}
use Rattle.frz_index.specs.Stepping.{stepped}
use Rattle.frz_unmove.proofs.QuietOrigins.{origin_parts}
use Rattle.frz_unmove.proofs.StepsTold.{looked_up, numbered, valid_there}
use Rattle.frz_unmove.proofs.quiet.number_by_lines.Goals as goal

pub number_after_step-requires-clause-valid : goal.number_after_step-requires-clause-valid
number_after_step-requires-clause-valid c =
    let m = c.args.m in
    let lf : m.from < 64 = omega (arith, ap (λ (s : Step). s.from) c.m.view_is) in
    let lt : m.to < 64 = omega (arith, ap (λ (s : Step). s.to) c.m.view_is) in
    let r = c.args.ready.now in
    let parts = origin_parts r c.args.target.now m.to m.from c.requires.origin in
    subst (λ (s : Step). IsValid (stepped c.args.q.now r.man s.to s.from c.args.target.now)) (sym c.m.view_is)
    (valid_there c.args.q.now m 0 c.args.target.now r.man c.requires.number.member.valid lf lt
    c.requires.quiet r c.requires.ready parts.1 parts.2)

pub number_beside-requires-clause-valid : goal.number_beside-requires-clause-valid
number_beside-requires-clause-valid c =
    let m = c.args.m in
    let lf : m.from < 64 = omega (arith, ap (λ (s : Step). s.from) c.m.view_is) in
    let lt : m.to < 64 = omega (arith, ap (λ (s : Step). s.to) c.m.view_is) in
    let r = c.args.ready.now in
    let parts = origin_parts r c.args.target.now m.to m.from c.requires.origin in
    subst IsValid
    (ap (λ (s : Step). stepped c.args.q.now r.man s.to s.from c.args.target.now) (sym c.m.view_is)
    ∙ sym c.back.ensures)
    (valid_there c.args.q.now m 0 c.args.target.now r.man c.requires.number.member.valid lf lt
    c.requires.quiet r c.requires.ready parts.1 parts.2)

pub returns-in-Some-clause-number : goal.returns-in-Some-clause-number
returns-in-Some-clause-number c =
    let m = c.args.m in
    let lf : m.from < 64 = omega (arith, ap (λ (s : Step). s.from) c.m.view_is) in
    let lt : m.to < 64 = omega (arith, ap (λ (s : Step). s.to) c.m.view_is) in
    let r = c.args.ready.now in
    let parts = origin_parts r c.args.target.now m.to m.from c.requires.origin in
    numbered c.args.q.now m 0 c.args.target.now r.man c.requires.number.member.valid lf lt
    c.requires.quiet r c.requires.ready c.args.set.now c.in-Some.n parts.0
    (subst (λ (s : Step). HasNumber c.args.set.now c.in-Some.n
    (stepped c.args.q.now r.man s.to s.from c.args.target.now)) c.m.view_is c.in-Some.ensures.number)

pub returns-in-None-clause-number : goal.returns-in-None-clause-number
returns-in-None-clause-number c =
    let m = c.args.m in
    let lf : m.from < 64 = omega (arith, ap (λ (s : Step). s.from) c.m.view_is) in
    let lt : m.to < 64 = omega (arith, ap (λ (s : Step). s.to) c.m.view_is) in
    let r = c.args.ready.now in
    let parts = origin_parts r c.args.target.now m.to m.from c.requires.origin in
    looked_up c.args.q.now m 0 c.args.target.now r.man c.requires.number.member.valid lf lt
    c.requires.quiet r c.requires.ready c.args.set.now c.number_beside.result parts.0
    (c.number_beside.ensures.function
    ∙ ap (number_of c.args.set.now) (c.back.ensures
    ∙ ap (λ (s : Step). stepped c.args.q.now r.man s.to s.from c.args.target.now) c.m.view_is))
