-- The game of chess that the plies of a line or of a session are.
use Rattle.std.specs.Prelude.{◌≡◌, List, [], ◌∷◌, Some, true, slice_get, ⊤}
use Rattle.frz_board.specs.declared.man.Colour.{Colour}
use Rattle.frz_board.specs.Boards.{Board}
use Rattle.frz_fide.specs.Legal.{after}
use Rattle.frz_fide.specs.Listing.{legal_moves_of}
use Rattle.frz_sets.specs.Views.{RuleLines}
use Rattle.frz_exits.specs.Forbidding.{is_free}
use Rattle.frz_game.specs.Numbers.{position_at}
use Rattle.frz_ways.specs.Lines.{LinePly}

-- the ply starts at the number of this position and is a legal move of the side to move there.
-- Where the side itself moves, it is a move that the side has not renounced
pub record IsPlyFrom (rules : RuleLines) (side : Colour) (p : Board) (x : LinePly) : Type 0 where
  pub here : position_at rules.groups x.from.1 ≡ Some p
  pub turn : p.turn ≡ x.mover
  pub legal : slice_get (legal_moves_of p) x.place ≡ Some x.arm.mv
  pub free : x.mover ≡ side → is_free rules side p x.arm.mv ≡ true

-- from this position on, each ply starts at the position to which the plies before it lead
abbrev pub IsGame : RuleLines → Colour → Board → List LinePly → Type 0
IsGame rules side p [] = ⊤
IsGame rules side p (x ∷ plies) =
    IsPlyFrom rules side p x × IsGame rules side (after p x.arm.mv) plies

-- the position behind these plies
abbrev pub after_plies : Board → List LinePly → Board
after_plies p [] = p
after_plies p (x ∷ plies) = after_plies (after p x.arm.mv) plies
