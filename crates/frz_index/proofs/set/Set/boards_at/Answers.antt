use Rattle.frz_index.proofs.AtNumbers.{at_broken, at_found, at_other, none_broken}
use Rattle.frz_index.proofs.Membership.{answer_valid, position_answer}
use Rattle.frz_index.proofs.set.Set.boards_at.Goals as goal

pub returns-in-None : goal.returns-in-None
returns-in-None c =
    let e = at_broken c.args.self.now c.args.i c.in-None.ensures in
    record {
      exact = e;
      broken = none_broken c.args.self.now c.args.i _ e;
      function = position_answer c.args.self.now c.args.i _ e;
      valid = answer_valid c.args.self.now c.args.i _ e;
    }

pub returns-else-is_valid_in_shape : goal.returns-else-is_valid_in_shape
returns-else-is_valid_in_shape c =
    let e = at_other c.args.self.now c.args.i c.in-Some.p c.in-Some.ensures.0
    (λ h. let valid = c.is_valid_in_shape.ensures.1 h.member.valid in
    let no = c.if-is_valid_in_shape.false in
    absurd cc) in
    record {
      exact = e;
      broken = none_broken c.args.self.now c.args.i _ e;
      function = position_answer c.args.self.now c.args.i _ e;
      valid = answer_valid c.args.self.now c.args.i _ e;
    }

pub returns-then-is_valid_in_shape : goal.returns-then-is_valid_in_shape
returns-then-is_valid_in_shape c =
    let e = at_found c.args.self.now c.args.i c.in-Some.p c.in-Some.ensures.0
    (c.in-Some.ensures.1.0 (c.is_valid_in_shape.ensures.0 c.if-is_valid_in_shape.true)) in
    record {
      exact = e;
      broken = none_broken c.args.self.now c.args.i _ e;
      function = position_answer c.args.self.now c.args.i _ e;
      valid = answer_valid c.args.self.now c.args.i _ e;
    }
