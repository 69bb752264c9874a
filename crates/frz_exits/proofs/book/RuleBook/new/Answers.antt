use Rattle.frz_exits.proofs.SoundLags.{small_values}
use Rattle.frz_exits.proofs.book.RuleBook.new.Goals as goal

pub invariant_of-result : goal.invariant_of-result
invariant_of-result c = record { small = λ q valid. small_values c.args.rules.now c.requires q }
