use Rattle.frz_chain.specs.Books.{back_with}
use Rattle.frz_chain.proofs.SmallLags.{chain_small}
use Rattle.frz_chain.proofs.book.ChainBook.new.Goals as goal

pub invariant_of-result : goal.invariant_of-result
invariant_of-result c = record {
  small = chain_small c.args.rules.now (back_with c.args.back.now c.args.white.now c.args.black.now)
      c.requires.sound;
  white_many = c.requires.white;
  black_many = c.requires.black;
}
