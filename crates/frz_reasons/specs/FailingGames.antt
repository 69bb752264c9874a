-- The game of chess that a failing way is, and how it ends.
use Rattle.std.specs.Prelude.{◌≡◌, ◌≢◌, ℕ, true, false, List, [], ◌∷◌, Some, ⊤}
use Rattle.std.specs.List.{Contains}
use Rattle.frz_board.specs.declared.man.Colour.{Colour}
use Rattle.frz_board.specs.Boards.{Board}
use Rattle.frz_board.specs.Moving.{Step}
use Rattle.frz_fide.specs.Legal.{after}
use Rattle.frz_fide.specs.Listing.{legal_moves_of}
use Rattle.frz_sets.specs.declared.exit.Value.{Value}
use Rattle.frz_sets.specs.Views.{RuleLines}
use Rattle.frz_arena.specs.declared.arm.Arm.{Arm}
use Rattle.frz_arena.specs.declared.class.Class.TheVariants.{Bad}
use Rattle.frz_arena.specs.Chess.{IsMated}
use Rattle.frz_exits.specs.Forbidding.{is_free}
use Rattle.frz_exits.specs.Values.{class_of}
use Rattle.frz_game.specs.Games.{chess}
use Rattle.frz_game.specs.Numbers.{is_member, position_at}
use Rattle.frz_reasons.specs.declared.reason.Reason.{Reason}
use Rattle.frz_reasons.specs.declared.reason.Reason.TheVariants.{Wrong, Mated, Renounced, Left}

-- from this position on each move is legal where it is played, and the side plays free moves only
abbrev pub IsGameFrom : RuleLines → Colour → Board → List (Arm Step ℕ Value) → Type 0
IsGameFrom rules side p [] = ⊤
IsGameFrom rules side p (a ∷ arms) =
    Contains (legal_moves_of p) a.mv × (p.turn ≡ side → is_free rules side p a.mv ≡ true)
    × IsGameFrom rules side (after p a.mv) arms

-- the position behind these moves
abbrev pub position_behind : Board → List (Arm Step ℕ Value) → Board
position_behind p [] = p
position_behind p (a ∷ arms) = position_behind (after p a.mv) arms

-- the side is to move and has a legal move, and has renounced each
pub record HasRenounced (rules : RuleLines) (side : Colour) (p : Board) : Type 0 where
  pub to_move : p.turn ≡ side
  pub some : legal_moves_of p ≢ []
  pub none_free : (m : Step) → Contains (legal_moves_of p) m → is_free rules side p m ≡ false

-- the position q stands outside the set, and has this value. A legal move led to it from the
-- position of the number
pub record HasLeft (rules : RuleLines) (value : Board → Value) (number : ℕ) (m : Step) (v : Value)
    (q : Board) : Type 0 where
  pub from : Board
  pub at : position_at rules.groups number ≡ Some from
  pub legal : Contains (legal_moves_of from) m
  pub leads : after from m ≡ q
  pub outside : is_member rules.groups q ≡ false
  pub valued : v ≡ value q

-- what the reason says of the position at the end of the way
abbrev pub EndsAt : RuleLines → (Board → Value) → Colour → Board → Reason → Type 0
EndsAt rules value side q (Wrong w) = position_at rules.groups w.number ≡ Some q
EndsAt rules value side q Mated = IsMated chess side q
EndsAt rules value side q Renounced = HasRenounced rules side q
EndsAt rules value side q (Left number m v) = HasLeft rules value number m v q

-- the reason tells why the side fails: unless a code is wrong, it is mated, it has renounced its
-- moves, or the value outside is bad for it
abbrev pub IsSpoiled : Colour → Reason → Type 0
IsSpoiled side (Wrong w) = ⊤
IsSpoiled side Mated = ⊤
IsSpoiled side Renounced = ⊤
IsSpoiled side (Left number m v) = class_of v side ≡ Bad

-- no kept code is wrong
abbrev pub IsRight : Reason → Type 0
IsRight (Wrong w) = ⊥
IsRight reason = ⊤
