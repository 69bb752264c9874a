use Rattle.std.proofs.Common.{arith}
use Rattle.frz_answer.proofs.Lemmas.{gave_up, wrote_next}
use Rattle.frz_fide.proofs.Lemmas.{legal_at}
use Rattle.frz_commands_chess.proofs.Joining.{more_joined, cut_joined, all_joined}
use Rattle.frz_commands_chess.proofs.MovesListed.{more_steps}
use Rattle.frz_commands_chess.proofs.listing.write_line.Goals as goal

pub write_move-requires-clause-legal : goal.write_move-requires-clause-legal
write_move-requires-clause-legal g c =
    legal_at _ _ _ _ c.requires.moves c.loop-i-test.true c.index-moves-i.is

pub returns-clause-wrote : goal.returns-clause-wrote
returns-clause-wrote g c =
    wrote_next (all_joined _ _ _ _ _ c.loop-i-test.false c.loop-i.invariant.joined)
    c.write_piece.ensures

pub returns-in_err-write_move-clause-wrote : goal.returns-in_err-write_move-clause-wrote
returns-in_err-write_move-clause-wrote g c =
    gave_up c.from_residual.ensures.0
    (cut_joined _ _ _ _ _ _ _ c.loop-i-test.true c.index-moves-i.is c.loop-i.invariant.joined _
    c.in_err-write_move.ensures.wrote.failed)

pub loop-i-preserved : goal.loop-i-preserved
loop-i-preserved g c = record {
  joined = more_joined _ _ _ _ _ _ _ c.loop-i-test.true c.index-moves-i.is c.loop-i.invariant.joined
      c.in_ok-write_move.ensures.wrote.ok;
  later = omega (arith, c.in_ok-write_move.ensures.later, c.loop-i.invariant.later);
  few = let more = more_steps c.args.notation c.loop-i.i in
      omega (arith, c.in_ok-write_move.ensures.few, c.loop-i.invariant.few);
}
