use Rattle.std.proofs.Common.{◌≡◌, ◌≤◌, ◌+◌, ◌*◌, inl, inr, true, false, slice_index, sym, subst, ◌∙◌, arith}
use Rattle.std.proofs.lemmas.Bool.{cases_lt}
use Rattle.frz_sweep.specs.Told.{IsTold}
use Rattle.frz_sweep.proofs.NextTold.{past_told}
use Rattle.frz_sweep.proofs.plies.settle_all.Goals as goal
use Rattle.frz_sweep.proofs.plies.settle_all.Goals.{then-changed, else-changed}

pub loop-i-preserved : goal.loop-i-preserved
loop-i-preserved g c =
    let A = g.G.NumberedGame.arena c.args.game.now in
    record {
      before = λ p l. elim (cases_lt p c.loop-i.i) [
        | inl below ↦
            subst (λ z. IsTold A c.args.side (c.args.ply + 1) p z)
            (sym (c.settle-settles.ensures.others p (omega arith)))
            (c.loop-i.invariant.before p below)
        | inr above ↦ (let e : c.loop-i.i ≡ p = omega arith in
            subst (λ z. IsTold A c.args.side (c.args.ply + 1) z
            (slice_index c.settle-settles.new.codes z)) e c.settle-settles.ensures.told)
      ];
      after = λ p l. subst (λ z. IsTold A c.args.side c.args.ply p z)
          (sym (c.settle-settles.ensures.others p (omega arith)))
          (c.loop-i.invariant.after p (omega arith));
      same = λ h. elim c.if-changed.branch [
        | then-changed w ↦ absurd
            (let yes : true ≡ false = sym w.if-changed.true ∙ (sym w.changed-is ∙ h) in cc)
        | else-changed w ↦
            c.settle-settles.ensures.same (sym w.changed-is ∙ h)
            ∙ c.loop-i.invariant.same w.if-changed.false
      ];
      later = omega (arith, c.loop-i.invariant.later, c.settle-settles.ensures.later);
      late = λ h some. elim c.if-changed.branch [
        | then-changed w ↦ (
            let r = c.loop-i.invariant.late w.if-changed.true some in (
              r.0,
              omega (arith, r.1),
              subst (λ z. 2 + 2 * c.args.ply ≤ z)
                  (sym (c.settle-settles.ensures.others r.0 (let l = r.1 in omega arith))) r.2,
            ))
        | else-changed w ↦
            (c.loop-i.i, omega arith, c.settle-settles.ensures.late (sym w.changed-is ∙ h) some)
      ];
    }

pub returns-clause-told : goal.returns-clause-told
returns-clause-told g c i =
    let A = g.G.NumberedGame.arena c.args.game.now in
    elim (cases_lt i c.loop-i.i) [
      | inl below ↦ c.loop-i.invariant.before i below
      | inr above ↦ past_told A c.args.side c.args.ply i c.loop-i.codes
          (let a = c.loop-i.auto.codes in let b = c.requires.many in omega arith)
          (c.loop-i.invariant.after i above)
    ]
