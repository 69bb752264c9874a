use Rattle.std.proofs.Common.{ℕ, refl, slice_index}
use Rattle.frz_reasons.proofs.MovesSpoiled.{Laws, fails_by}
use Rattle.frz_reasons.proofs.laws.failures_are_spoiled.Goals as goal

pub returns : goal.returns
returns c = λ arena law side codes number failing agrees.
    let entry : ℕ → ℕ = λ k. slice_index codes k in
    let laws : Laws arena side codes number = record {
      own_win = c.own_codes.ensures.win arena side entry number;
      own_failure = c.own_codes.ensures.failure arena side entry number;
      own_hold = c.own_codes.ensures.hold arena side entry number;
      own_none = c.own_codes.ensures.none arena side entry number;
      other_failure = c.opponent_codes.ensures.failure arena side entry number;
      other_win = c.opponent_codes.ensures.win arena side entry number;
      other_hold = c.opponent_codes.ensures.hold arena side entry number;
    } in
    fails_by arena side codes number laws failing agrees law (arena.node number) refl
