use Rattle.std.proofs.Common.{min, refl, ap, ◌∙◌, arith}
use Rattle.frz_arena.proofs.LocalCodes.Ranked.{best_more}
use Rattle.frz_arena.proofs.best.Best.with.Goals as goal

pub returns : goal.returns
returns c own cs h =
    best_more own cs c.args.code c.args.self
    (record { own = c.args.self.own; rank = c.min.result }) (omega arith) refl
    (c.min.ensures ∙ ap (min c.args.self.rank) c.rank_of.ensures) h
