use Rattle.frz_report.proofs.Numbering.{no_number, second_number}
use Rattle.frz_report.proofs.squeeze.number_if_valid.Goals as goal

pub returns-in-Err-clause-number : goal.returns-in-Err-clause-number
returns-in-Err-clause-number c =
    no_number c.args.set.now c.args.q.now c.in-Err.field-0 c.in-Err.ensures.answer

pub with_black_to_move-requires : goal.with_black_to_move-requires
with_black_to_move-requires c =
    record { first = (c.requires.0, c.requires.1, c.requires.2, c.requires.3) }

pub returns-in-Ok-clause-number : goal.returns-in-Ok-clause-number
returns-in-Ok-clause-number c =
    second_number c.args.set.now c.requires.0 c.args.q.now c.args.w c.with_black_to_move.result
    c.requires.1 c.requires.4 c.in-Ok.ensures.valid c.with_black_to_move.ensures.number
    c.with_black_to_move.ensures.member
