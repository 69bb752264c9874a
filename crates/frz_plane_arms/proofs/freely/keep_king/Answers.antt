use Rattle.std.proofs.Common.{◌&&◌, ◌∙◌, ap, sym}
use Rattle.frz_squares.specs.SquareSets.{has_square}
use Rattle.frz_planes.specs.Planes.{has_pair}
use Rattle.frz_king_planes.specs.Kings.{king_square}
use Rattle.frz_plane_arms.proofs.FreeSteps.{all_there, with_true}
use Rattle.frz_plane_arms.proofs.freely.keep_king.Goals as goal

pub returns-in-White : goal.returns-in-White
returns-in-White c a b la lb =
    c.keep.ensures a b la lb
    ∙ ap (λ t. has_pair c.args.pairs.now a b && (has_square c.args.squares a && t)) (all_there b lb)
    ∙ ap (λ t. has_pair c.args.pairs.now a b && t) (with_true (has_square c.args.squares a))
    ∙ ap (λ d. has_pair c.args.pairs.now a b && has_square c.args.squares (king_square d a b))
    (sym c.in-White.is)

pub returns-in-Black : goal.returns-in-Black
returns-in-Black c a b la lb =
    c.keep-in-Black.ensures a b la lb
    ∙ ap (λ t. has_pair c.args.pairs.now a b && (t && has_square c.args.squares b)) (all_there a la)
    ∙ ap (λ d. has_pair c.args.pairs.now a b && has_square c.args.squares (king_square d a b))
    (sym c.in-Black.is)
