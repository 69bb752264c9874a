use Rattle.std.proofs.Common.{◌∙◌, arith}
use Rattle.frz_arena.proofs.LocalCodes.Ranked.{code_told, high_rank, low_rank, rank_of_held}
use Rattle.frz_arena.proofs.best.Best.code.Goals as goal

pub returns-then-self-lt-HELD : goal.returns-then-self-lt-HELD
returns-then-self-lt-HELD c own cs h =
    low_rank c.args.self.rank (omega arith) ∙ code_told own cs c.args.self h

pub returns-then-self-eq-HELD : goal.returns-then-self-eq-HELD
returns-then-self-eq-HELD c own cs h =
    rank_of_held c.args.self.rank (omega arith) ∙ code_told own cs c.args.self h

pub returns-else-self-eq-HELD : goal.returns-else-self-eq-HELD
returns-else-self-eq-HELD c own cs h =
    high_rank c.args.self.rank (omega arith) ∙ code_told own cs c.args.self h
