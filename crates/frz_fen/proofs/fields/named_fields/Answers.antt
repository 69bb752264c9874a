use Rattle.std.proofs.Common.{rules}
use Rattle.frz_fen.proofs.Fielding.{named_two, named_three, four_fields, named_six, named_more}
use Rattle.frz_fen.proofs.fields.named_fields.Goals as goal

pub returns-in_err-castling : goal.returns-in_err-castling
returns-in_err-castling c =
    let e = named_two _ _ _ _ _ c.in_ok-placement.ensures c.in_ok-turn.ensures
    c.in_err-castling.ensures in
    search rules

pub returns-in_err-target : goal.returns-in_err-target
returns-in_err-target c =
    let e = named_three _ _ _ _ _ _ _ c.in_ok-placement.ensures c.in_ok-turn.ensures
    c.in_ok-castling.ensures c.in_err-target.ensures in
    search rules

pub returns-in-None-next_field : goal.returns-in-None-next_field
returns-in-None-next_field c =
    let four = four_fields _ _ _ _ _ _ _ _ _ c.in_ok-placement.ensures c.in_ok-turn.ensures
    c.in_ok-castling.ensures c.in_ok-target.ensures in
    named_six _ _ _ _ _ _ _ _ _ _ four c.in-Some.ensures c.in_ok-fullmove-in-Some.ensures
    c.in-None-next_field.ensures

pub returns-in-Some-next_field : goal.returns-in-Some-next_field
returns-in-Some-next_field c =
    let four = four_fields _ _ _ _ _ _ _ _ _ c.in_ok-placement.ensures c.in_ok-turn.ensures
    c.in_ok-castling.ensures c.in_ok-target.ensures in
    named_more _ _ _ _ _ _ _ _ _ _ _ _ four c.in-Some.ensures c.in_ok-fullmove-in-Some.ensures
    c.in-Some-next_field.ensures
