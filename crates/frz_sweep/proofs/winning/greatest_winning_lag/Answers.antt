use Rattle.std.proofs.Common.{◌≡◌, ◌⊎◌, ◌∙◌, ℕ, List, inl, inr, sym, subst, arith}
use Rattle.std.proofs.lemmas.Bool.{cases_lt}
use Rattle.std.specs.List.{All}
use Rattle.std.proofs.Math.ListN.{get_or}
use Rattle.std.proofs.lemmas.List.{take_all}
use Rattle.std.proofs.lemmas.List.Elements.{All-more, Contains-get_or}
use Rattle.frz_board.specs.Moving.{Step}
use Rattle.frz_sets.specs.declared.exit.Value.{Value}
use Rattle.frz_arena.specs.declared.arm.Arm.{Arm}
use Rattle.frz_sweep.specs.Winning.{HasWinAfter, WinsAfter, WinsIn}
use Rattle.frz_sweep.proofs.ExitLags.{wins_in_more}
use Rattle.frz_sweep.proofs.winning.greatest_winning_lag.Goals as goal

pub loop-arm-preserved : goal.loop-arm-preserved
loop-arm-preserved c =
    let most = c.max-most.result in
    record {
      within = All-more (λ (a : Arm Step ℕ Value). WinsIn c.args.side most a.next) c.args.arms.now
          c.loop-arm.arm-index c.arm-item.result (omega arith)
          (λ k d l. wins_in_more c.args.side c.loop-arm.most most _ (omega arith)
          (c.loop-arm.invariant.within k d l))
          (subst (λ (a : Arm Step ℕ Value). WinsIn c.args.side most a.next) c.arm-item.is
          (wins_in_more c.args.side c.winning_lag.result most _ (omega arith)
          c.winning_lag.ensures.within));
      reached = elim (cases_lt c.loop-arm.most c.winning_lag.result) [
        | inl more ↦ (
            let same : c.winning_lag.result ≡ most = omega arith in
            elim c.winning_lag.ensures.reached [
              | inl none ↦ inl (sym same ∙ none)
              | inr wins ↦ inr (
                get_or c.args.arms.now c.loop-arm.arm-index c.arm-item.result,
                Contains-get_or c.args.arms.now c.loop-arm.arm-index c.arm-item.result
                    (omega arith),
                subst (λ (a : Arm Step ℕ Value). WinsAfter c.args.side most a.next) c.arm-item.is
                    (subst (λ lag. WinsAfter c.args.side lag c.arm-item.result.next) same wins),
              )
            ])
        | inr less ↦ (
            let same : c.loop-arm.most ≡ most = omega arith in
            subst (λ lag. (lag ≡ 0) ⊎ HasWinAfter c.args.side lag c.args.arms.now) same
            c.loop-arm.invariant.reached)
      ];
      small = omega arith;
    }

pub returns-clause-within : goal.returns-clause-within
returns-clause-within c =
    subst (λ (z : List (Arm Step ℕ Value)). All (λ a. WinsIn c.args.side c.loop-arm.most a.next) z)
    (take_all c.loop-arm.arm-index c.args.arms.now (omega arith)) c.loop-arm.invariant.within
