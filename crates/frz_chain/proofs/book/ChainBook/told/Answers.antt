use Rattle.std.proofs.Common.{arith}
use Rattle.frz_chain.proofs.Told.{number_below}
use Rattle.frz_chain.proofs.book.ChainBook.told.Goals as goal

pub bounds-self-i : goal.bounds-self-i
bounds-self-i c =
    let below = number_below c.args.self.now.back.now c.args.q.now c.in-Some.i
    c.in-Some.ensures.function in
    let many = c.args.self.now.white_many in omega (arith, below, many)

pub bounds-self-i-in-Some : goal.bounds-self-i-in-Some
bounds-self-i-in-Some c =
    let below = number_below c.args.self.now.back.now c.args.q.now c.in-Some.i
    c.in-Some.ensures.function in
    let many = c.args.self.now.black_many in omega (arith, below, many)
