use Rattle.frz_commands_chain.proofs.NoTable.{begins_otherwise, too_short}
use Rattle.frz_commands_chain.proofs.reading.why_no_table.Goals as goal

pub returns-then-text-lt16 : goal.returns-then-text-lt16
returns-then-text-lt16 c = λ rules read. too_short c.args.text.now c.if-text-lt16.true

pub returns-else-text-lt16 : goal.returns-else-text-lt16
returns-else-text-lt16 c =
    λ rules read. begins_otherwise c.args.text.now rules read c.if-text-lt16.false
