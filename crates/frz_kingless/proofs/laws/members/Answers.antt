use Rattle.frz_configurations.specs.Configurations.{configuration_of}
use Rattle.frz_king_planes.specs.Kings.{with_kings}
use Rattle.frz_kingless.proofs.MembersByKings.{board_there, known_there, made_member, made_split}
use Rattle.frz_kingless.proofs.laws.members.Goals as goal

pub returns-clause-member : goal.returns-clause-member
returns-clause-member x r p a b sound la lb free v = (
  λ m. (
    known_there r p a b sound la lb free v m,
    (configuration_of r.groups (with_kings p a b), board_there r p a b sound la lb free v m),
  ),
  λ h. made_member r p a b sound la lb free v h.1.0 h.1.1 h.0,
)

pub returns-clause-number : goal.returns-clause-number
returns-clause-number x r p c a b sound la lb free v known board =
    made_split r p a b sound la lb free v c board known
