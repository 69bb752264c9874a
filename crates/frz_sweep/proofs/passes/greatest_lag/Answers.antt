use Rattle.std.proofs.Common.{◌≡◌, ◌⊎◌, ◌∙◌, inl, inr, subst, sym, arith}
use Rattle.std.proofs.lemmas.Bool.{cases_lt}
use Rattle.std.specs.List.{Contains}
use Rattle.frz_sweep.proofs.ExitLags.{small_lags, lags_at, winning_lag}
use Rattle.frz_sweep.specs.Winning.{HasWinAfter, IsWinningLag}
use Rattle.frz_sweep.proofs.passes.greatest_lag.Goals as goal

pub greatest_winning_lag-requires : goal.greatest_winning_lag-requires
greatest_winning_lag-requires g c =
    small_lags (g.G.NumberedGame.arena c.args.game.now) (g.G.NumberedGame.count c.args.game.now)
    (g.met.G.NumberedGame.finite c.args.game.now c.requires) c.loop-i.i c.as_slice.result.now
    (c.as_slice.ensures.value ∙ c.nexts_by.ensures.arms)

pub loop-i-preserved : goal.loop-i-preserved
loop-i-preserved g c = record {
  within = λ p l a v i e good. elim (cases_lt p c.loop-i.i) [
    | inl below ↦ (let h = c.loop-i.invariant.within p below a v i e good in omega arith)
    | inr above ↦ (
        let same : p ≡ c.loop-i.i = omega arith in
        let A = g.G.NumberedGame.arena c.args.game.now in
        let finite = g.met.G.NumberedGame.finite c.args.game.now c.requires in
        let within = lags_at A (g.G.NumberedGame.count c.args.game.now) finite c.args.side
        c.loop-i.i c.greatest_winning_lag.result c.as_slice.result.now
        (c.as_slice.ensures.value ∙ c.nexts_by.ensures.arms)
        c.greatest_winning_lag.ensures.within in
        let h = within a v (subst
        (λ z. Contains ((g.G.NumberedGame.arena c.args.game.now).arms z) a) same i) e good in
        omega arith)
  ];
  reached =
      let A = g.G.NumberedGame.arena c.args.game.now in
      let most = c.max-most.result in
      elim (cases_lt c.loop-i.most c.greatest_winning_lag.result) [
        | inl more ↦ (
            let same : c.greatest_winning_lag.result ≡ most = omega arith in
            elim c.greatest_winning_lag.ensures.reached [
              | inl none ↦ inl (sym same ∙ none)
              | inr wins ↦ inr (winning_lag A (g.G.NumberedGame.count c.args.game.now)
                  (g.met.G.NumberedGame.finite c.args.game.now c.requires) c.args.side c.loop-i.i
                  most c.as_slice.result.now
                  (c.as_slice.ensures.value ∙ c.nexts_by.ensures.arms)
                  (subst (λ lag. HasWinAfter c.args.side lag c.as_slice.result.now) same wins))
            ])
        | inr less ↦ (
            let same : c.loop-i.most ≡ most = omega arith in
            subst (λ lag. (lag ≡ 0) ⊎ IsWinningLag A c.args.side lag) same
            c.loop-i.invariant.reached)
      ];
  small = omega arith;
  later = omega (arith, c.loop-i.invariant.later, c.nexts_by.ensures.later);
}

pub returns-clause-within : goal.returns-clause-within
returns-clause-within g c p a v i e good =
    elim (cases_lt p c.loop-i.i) [
      | inl below ↦ c.loop-i.invariant.within p below a v i e good
      | inr above ↦ absurd (
          let finite = g.met.G.NumberedGame.finite c.args.game.now c.requires in
          let going = finite.going p a i in
          let broken = finite.numbered.past p (omega arith) in
          cc)
    ]
