use Rattle.frz_san.proofs.Leaving.{captures_in_words}
use Rattle.frz_san.proofs.laws.captures_in_words.Goals as goal

pub returns : goal.returns
returns c = captures_in_words
