use Rattle.frz_index.proofs.Membership.{member_of, of_member, number_back, number_found, position_tells, position_of}
use Rattle.frz_index.proofs.laws.membership.Goals as goal

pub returns-clause-member : goal.returns-clause-member
returns-clause-member c gs p = (member_of gs p, of_member gs p)

pub returns-clause-number : goal.returns-clause-number
returns-clause-number c gs p i = (number_back gs p i, number_found gs p i)

pub returns-clause-position : goal.returns-clause-position
returns-clause-position c gs i p = (position_tells gs i p, position_of gs i p)
