use Rattle.frz_commands_inquiry.proofs.Lawful.{ask_lawful}
use Rattle.frz_commands_inquiry.proofs.laws.one_ask_answer.Goals as goal

pub returns : goal.returns
returns c = ask_lawful
