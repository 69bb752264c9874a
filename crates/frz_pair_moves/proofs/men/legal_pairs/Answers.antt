use Rattle.frz_pair_moves.proofs.Pairs.{leaving_both, valid_both}
use Rattle.frz_pair_moves.proofs.men.legal_pairs.Goals as goal

pub returns-clause-plane : goal.returns-clause-plane
returns-clause-plane c =
    leaving_both c.args.m c.args.before.now c.keep.new.self c.off_way-squares.result
    c.off_way-squares.ensures.off c.keep.ensures c.args.after.now c.cut_with.new.self
    c.cut_with.ensures

pub returns-clause-step : goal.returns-clause-step
returns-clause-step c = c.off_way-squares.ensures.step

pub returns-clause-legal : goal.returns-clause-legal
returns-clause-legal c p before after can =
    valid_both p c.args.m c.off_way-squares.ensures.step c.args.before.now c.keep.new.self
    c.off_way-squares.result before can c.off_way-squares.ensures.off c.keep.ensures
    c.args.after.now c.cut_with.new.self after c.cut_with.ensures
