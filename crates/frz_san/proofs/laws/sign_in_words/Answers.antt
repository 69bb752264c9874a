use Rattle.frz_san.proofs.SignsInWords.{mate, check, nothing}
use Rattle.frz_san.proofs.laws.sign_in_words.Goals as goal

pub returns : goal.returns
returns c = record { mate = mate; check = check; nothing = nothing }
