use Rattle.std.proofs.Common.{◌+◌, ◌*◌, length, arith}
use Rattle.std.proofs.lemmas.Result.{err_from_is_err_and}
use Rattle.frz_table.proofs.Pieces.{both, no_black, no_white}
use Rattle.frz_table.proofs.Stops.{halts}
use Rattle.frz_table.proofs.codes.load_codes.Goals as goal

pub returns-in_err-white-clause-run : goal.returns-in_err-white-clause-run
returns-in_err-white-clause-run g c =
    let p = err_from_is_err_and c.from_residual.result c.from_residual.ensures.1 in
    rw (p.1, p.2) (halts _ (no_white c.args.name.now c.args.text.now c.args.size _
    (16 + length c.args.text.now + 4 * c.args.size) c.codes_place-white_place.ensures (omega arith) _ _
    _ c.in_err-white.ensures.run))

pub returns-in_err-black-clause-run : goal.returns-in_err-black-clause-run
returns-in_err-black-clause-run g c =
    let p = err_from_is_err_and c.from_residual-in_err-black.result
    c.from_residual-in_err-black.ensures.1 in
    rw (p.1, p.2) (halts _ (no_black c.args.name.now c.args.text.now c.args.size _ _
    c.codes_place-white_place.ensures c.codes_place-black_place.ensures _ _ _ _
    c.in_ok-white.ensures.run _ c.in_err-black.ensures.run))

pub returns-clause-run : goal.returns-clause-run
returns-clause-run g c =
    both c.args.name.now c.args.text.now c.args.size _ _
    c.codes_place-white_place.ensures c.codes_place-black_place.ensures _ _ _ _
    c.in_ok-white.ensures.run _ c.in_ok-black.ensures.run
