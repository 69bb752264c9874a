use Rattle.frz_configurations.proofs.OneNumber.{king_squares}
use Rattle.frz_configurations.proofs.shares.all_first.Goals as goal

pub number-requires-clause-white : goal.number-requires-clause-white
number-requires-clause-white c =
    let x = c.args.origin.now in
    (king_squares c.args.configurations.now.rules.now 0 x.configuration x.white x.black
    c.requires.sound c.requires.origin).0

pub number-requires-clause-black : goal.number-requires-clause-black
number-requires-clause-black c =
    let x = c.args.origin.now in
    (king_squares c.args.configurations.now.rules.now 0 x.configuration x.white x.black
    c.requires.sound c.requires.origin).1
