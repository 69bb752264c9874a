use Rattle.frz_unmove.proofs.Whole.{all_listed, different_numbers}
use Rattle.frz_unmove.proofs.unmoving.unmoves.Goals as goal

pub returns-clause-all : goal.returns-clause-all
returns-clause-all g c =
    all_listed c.args.set.now c.args.q c.boards_of.result c.boards_of.ensures c.clear.new.self
    c.add_all.new.out 110592 c.clear.ensures c.add_all.ensures

pub returns-clause-once : goal.returns-clause-once
returns-clause-once g c =
    different_numbers c.args.set.now c.args.q c.boards_of.result c.boards_of.ensures
    c.clear.new.self c.add_all.new.out 110592 c.clear.ensures c.add_all.ensures
