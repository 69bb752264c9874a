use Rattle.std.proofs.Common.{◌≡◌, ◌∙◌, Bool, ap, arith, false, inr, refl, subst, sym, true}
use Rattle.std.specs.Prelude.{not}
use Rattle.frz_retro.specs.Beginning.{later_of, start_of}
use Rattle.frz_retro.specs.declared.start.Start.{Start}
use Rattle.frz_retro.proofs.BegunNotes.{open_note}
use Rattle.frz_retro.proofs.Starts.{fails_from}
use Rattle.frz_retro.proofs.note.going.Goals as goal

not_so : (b : Bool) → not b ≡ true → b ≡ false
not_so false e = refl
not_so true e = cc

so : (b : Bool) → not b ≡ false → b ≡ true
so true e = refl
so false e = cc

pub returns-then-not-start : goal.returns-then-not-start
returns-then-not-start c d own =
    let none = ap (λ (s : Start). s.any) (sym c.start_of-start.ensures.value)
    ∙ not_so c.start_of-start.result.any c.if-not-start.true in
    record {
      begun = inr (fails_from _ c.args.side c.args.arms.now 3 refl
          (subst (λ x. (start_of x c.args.side c.args.arms.now).any ≡ false) own none));
      ended = λ g. refl;
      short = omega arith;
    }

pub returns : goal.returns
returns c d own =
    let value = c.start_of-start.ensures.value in
    let later = c.later_of.ensures.value ∙ ap later_of value in
    let short = c.later_of.ensures.short in
    let most = c.max.ensures in
    open_note c.args.own c.args.side c.args.arms.now d c.start_of-start.result.count c.max.result own
    (ap (λ (s : Start). s.any) (sym value)
    ∙ so c.start_of-start.result.any c.if-not-start.false)
    (ap (λ (s : Start). s.count) value)
    (λ z. omega (arith, z, later, most)) (λ z. omega (arith, z, later, most))
    (omega (arith, short, most))
