use Rattle.std.proofs.lemmas.Bool.{false_from_ne_true}
use Rattle.frz_game.specs.Numbers.{is_member}
use Rattle.frz_index.proofs.Lemmas.{member_of, of_member, number_there, number_missing, position_tells, position_of}
use Rattle.frz_game.proofs.laws.numbers.membership.Goals as goal

pub returns-clause-member : goal.returns-clause-member
returns-clause-member c groups p = (member_of groups p, of_member groups p)

pub returns-clause-number : goal.returns-clause-number
returns-clause-number c groups p m = number_there groups p (of_member groups p m)

pub returns-clause-outside : goal.returns-clause-outside
returns-clause-outside c groups p out =
    number_missing groups p
    (false_from_ne_true (is_member groups p) (λ t. out (member_of groups p t)))

pub returns-clause-position : goal.returns-clause-position
returns-clause-position c groups i p = (position_tells groups i p, position_of groups i p)
