use Rattle.std.proofs.Common.{rules}
use Rattle.frz_fen.proofs.Meaning.{wrong_placement, wrong_turn, wrong_castling, wrong_target, wrong_clock, all_right}
use Rattle.frz_fen.proofs.reading.read_fen.Goals as goal

pub returns-in_err-cells-clause-read : goal.returns-in_err-cells-clause-read
returns-in_err-cells-clause-read c =
    let e = wrong_placement _ _ _ c.in-Some.ensures c.in_err-cells.ensures.read in
    search rules

pub returns-in_err-turn-clause-read : goal.returns-in_err-turn-clause-read
returns-in_err-turn-clause-read c =
    let e = wrong_turn _ _ _ _ c.in-Some.ensures c.in_ok-cells.ensures.read c.in_err-turn.ensures in
    search rules

pub returns-in_err-read_castling-clause-read : goal.returns-in_err-read_castling-clause-read
returns-in_err-read_castling-clause-read c =
    let e = wrong_castling _ _ _ _ _ c.in-Some.ensures c.in_ok-cells.ensures.read
    c.in_ok-turn.ensures c.in_err-read_castling.ensures in
    search rules

pub returns-in_err-target-clause-read : goal.returns-in_err-target-clause-read
returns-in_err-target-clause-read c =
    let e = wrong_target _ _ _ _ _ _ c.in-Some.ensures c.in_ok-cells.ensures.read
    c.in_ok-turn.ensures c.in_ok-read_castling.ensures c.in_err-target.ensures in
    search rules

pub returns-in_err-read_clocks-clause-read : goal.returns-in_err-read_clocks-clause-read
returns-in_err-read_clocks-clause-read c =
    let e = wrong_clock _ _ _ _ _ _ _ c.in-Some.ensures c.in_ok-cells.ensures.read
    c.in_ok-turn.ensures c.in_ok-read_castling.ensures c.in_ok-target.ensures
    c.in_err-read_clocks.ensures in
    search rules

pub returns-clause-read : goal.returns-clause-read
returns-clause-read c =
    let e = all_right _ _ _ _ _ _ _ c.in-Some.ensures c.in_ok-cells.ensures.read
    c.in_ok-turn.ensures c.in_ok-read_castling.ensures c.in_ok-target.ensures
    c.in_ok-read_clocks.ensures in
    search rules
