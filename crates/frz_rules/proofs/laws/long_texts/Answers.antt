use Rattle.std.proofs.lemmas.Bool.{lt-ltb}
use Rattle.std.proofs.Common.{length, refl}
use Rattle.frz_rules.specs.Text.{rules_of}
use Rattle.frz_rules.proofs.laws.long_texts.Goals as goal

pub returns : goal.returns
unfolding rules_of
returns c = λ text h. rw (lt-ltb 65536 (length text) h) refl
