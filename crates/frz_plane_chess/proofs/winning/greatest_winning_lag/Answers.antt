use Rattle.std.proofs.Common.{length, refl, arith}
use Rattle.std.proofs.lemmas.Option.{slice_get_read}
use Rattle.frz_plane_chess.proofs.Lags.{all_lags, one_lag_more}
use Rattle.frz_plane_chess.proofs.winning.greatest_winning_lag.Goals as goal

pub loop-exit-init : goal.loop-exit-init
loop-exit-init c = record {
  within = record { within = λ j x l. absurd (omega arith) };
  small = omega arith;
}

pub loop-exit-preserved : goal.loop-exit-preserved
loop-exit-preserved c =
    let exits = c.args.exits.now in
    let k = c.loop-exit.exit-index in
    let exit = c.exit-item.result in
    record {
      within = one_lag_more exits c.args.side k c.loop-exit.most c.winning_lag.result
          c.max-most.result exit
          (slice_get_read exits (length exits) k exit refl c.loop-exit-test.true c.exit-item.is)
          (omega arith) (omega arith) c.loop-exit.invariant.within c.winning_lag.ensures.within;
      small = omega arith;
    }

pub returns-clause-within : goal.returns-clause-within
returns-clause-within c =
    all_lags c.args.exits.now c.args.side c.loop-exit.exit-index c.loop-exit.most
    c.loop-exit-test.false c.loop-exit.invariant.within
