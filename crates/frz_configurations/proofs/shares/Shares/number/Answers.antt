use Rattle.std.proofs.Common.{arith}
use Rattle.frz_configurations.proofs.KeptSums.{sum_read}
use Rattle.frz_configurations.proofs.shares.Shares.number.Goals as goal

pub overflow_add-result : goal.overflow_add-result
overflow_add-result c =
    let x = c.args.self.now in
    omega (
      arith,
      (sum_read x.rules.now x.configurations.items x.white x.black c.args.configuration c.args.white
          c.args.black c.index.result.now c.number-a.result c.number-b.result c.requires.sound x.known
          c.requires.inside c.requires.white c.requires.black c.number-a.ensures.number
          c.number-b.ensures.number c.number-a.ensures.on_board c.number-b.ensures.on_board
          c.index.ensures).fits,
    )

pub overflow_add-result-2 : goal.overflow_add-result-2
overflow_add-result-2 c =
    let x = c.args.self.now in
    omega (
      arith,
      (sum_read x.rules.now x.configurations.items x.white x.black c.args.configuration c.args.white
          c.args.black c.index.result.now c.number-a.result c.number-b.result c.requires.sound x.known
          c.requires.inside c.requires.white c.requires.black c.number-a.ensures.number
          c.number-b.ensures.number c.number-a.ensures.on_board c.number-b.ensures.on_board
          c.index.ensures).fits,
    )

pub returns : goal.returns
returns c =
    let x = c.args.self.now in
    (sum_read x.rules.now x.configurations.items x.white x.black c.args.configuration c.args.white
    c.args.black c.index.result.now c.number-a.result c.number-b.result c.requires.sound x.known
    c.requires.inside c.requires.white c.requires.black c.number-a.ensures.number
    c.number-b.ensures.number c.number-a.ensures.on_board c.number-b.ensures.on_board
    c.index.ensures).split
