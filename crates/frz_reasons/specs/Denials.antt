-- How a win is denied to a side that holds: by which of its moves to which replies, or by which
-- moves of its opponent.
use Rattle.std.specs.Prelude.{◌≡◌, ◌==◌, not, ℕ, Bool, true, false, List, [], Option, Some, None, map, filter, find, is_none, take_while, slice_index, option_map, option_and_then, Result, Ok, Err}
use Rattle.frz_board.specs.declared.man.Colour.{Colour}
use Rattle.frz_board.specs.Men.{other_of}
use Rattle.frz_board.specs.Moving.{Step}
use Rattle.frz_sets.specs.declared.exit.Value.{Value}
use Rattle.frz_arena.specs.declared.arm.Arm.{Arm}
use Rattle.frz_arena.specs.declared.arm.Next.{Next}
use Rattle.frz_arena.specs.declared.arm.Next.TheVariants.{Inside, Outside}
use Rattle.frz_arena.specs.declared.node.Node.TheVariants.{Stalemate, Going}
use Rattle.frz_arena.specs.Arena.{Arena}
use Rattle.frz_arena.specs.Codes.{is_win}
use Rattle.frz_graph.specs.EntryCodes.{arm_code}
use Rattle.frz_game.specs.declared.wrong.Wrong.{Wrong}
use Rattle.frz_reasons.specs.declared.denial.Denial.{Denial}
use Rattle.frz_reasons.specs.LocalEntries.{given_at, Agrees, Differs, wrong_at}

-- by the codes the side has no win behind the move
abbrev pub is_denied : Colour → (codes : List ℕ) → Arm Step ℕ Value → Bool
is_denied side codes a = not (is_win (arm_code side codes a))

-- the first of these moves that denies the side a win
abbrev pub first_denying : Colour → (codes : List ℕ) → List (Arm Step ℕ Value) → Option Step
first_denying side codes arms = option_map (λ b. b.mv) (find (is_denied side codes) arms)

-- where a move of the side stays in the set, the first reply that denies it a win, if the game goes
-- on
abbrev pub reply_to : Arena Step ℕ Value → Colour → (codes : List ℕ) → Next ℕ Value → Option Step
reply_to arena side codes (Inside number) = first_denying side codes (arena.arms number)
reply_to arena side codes (Outside value) = None

-- how a move of the side is denied to win
abbrev pub own_denial : Arena Step ℕ Value → Colour → (codes : List ℕ) → Arm Step ℕ Value → Denial
own_denial arena side codes a = record { mv = a.mv; reply = reply_to arena side codes a.next }

-- a move of the opponent that denies the win by itself
abbrev pub other_denial : Arm Step ℕ Value → Denial
other_denial a = record { mv = a.mv; reply = None }

-- the entry of the number to which a move leads, where that is not its local code
abbrev pub wrong_entry : Arena Step ℕ Value → Colour → (codes : List ℕ) → (number : ℕ)
    → (agrees : Bool) → Option Wrong
wrong_entry arena side codes number true = None
wrong_entry arena side codes number false = Some (wrong_at arena side codes number)

abbrev pub wrong_behind : Arena Step ℕ Value → Colour → (codes : List ℕ) → Next ℕ Value
    → Option Wrong
wrong_behind arena side codes (Inside number) =
    wrong_entry arena side codes number
    (slice_index codes number == given_at arena side codes number)
wrong_behind arena side codes (Outside value) = None

-- the move leads to no wrong entry
abbrev pub leads_right : Arena Step ℕ Value → Colour → (codes : List ℕ) → Arm Step ℕ Value → Bool
leads_right arena side codes a = is_none (wrong_behind arena side codes a.next)

-- how these moves of the side are denied to win, up to one that leads to a wrong entry
abbrev pub own_denials : Arena Step ℕ Value → Colour → (codes : List ℕ) → List (Arm Step ℕ Value)
    → List Denial
own_denials arena side codes arms =
    map (own_denial arena side codes) (take_while (leads_right arena side codes) arms)

-- the first wrong entry to which one of these moves leads
abbrev pub first_wrong : Arena Step ℕ Value → Colour → (codes : List ℕ) → List (Arm Step ℕ Value)
    → Option Wrong
first_wrong arena side codes arms =
    option_and_then (λ a. wrong_behind arena side codes a.next)
    (find (λ a. not (leads_right arena side codes a)) arms)

-- those of these moves of the opponent that deny the side a win
abbrev pub other_denials : Colour → (codes : List ℕ) → List (Arm Step ℕ Value) → List Denial
other_denials side codes arms = map other_denial (filter (is_denied side codes) arms)

-- what is told of a number at which the side holds: how it is denied a win, and an entry that is
-- wrong, if one is met
pub data DeniesWin (arena : Arena Step ℕ Value) (side : Colour) (codes : List ℕ) (number : ℕ) :
    List Denial → Option Wrong → Type 0 where
  -- the entry of the number itself is wrong
  wrong : Differs arena side codes number →
      DeniesWin arena side codes number [] (Some (wrong_at arena side codes number))
  -- the side is to move: each of its free moves is denied
  own : Agrees arena side codes number → arena.node number ≡ Going side →
      DeniesWin arena side codes number
      (own_denials arena side codes (filter (λ a. a.free) (arena.arms number)))
      (first_wrong arena side codes (filter (λ a. a.free) (arena.arms number)))
  -- the opponent is to move, and denies the win by his moves
  other : Agrees arena side codes number → arena.node number ≡ Going (other_of side) →
      DeniesWin arena side codes number (other_denials side codes (arena.arms number)) None
  -- the game is over there, without a mate
  stalemate : Agrees arena side codes number → (mover : Colour) →
      arena.node number ≡ Stalemate mover → DeniesWin arena side codes number [] None

-- the reply to a move of the side, or the wrong entry to which the move leads
abbrev pub IsReplyTo : Arena Step ℕ Value → Colour → (codes : List ℕ) → Next ℕ Value
    → Result (Option Step) Wrong → Type 0
IsReplyTo arena side codes next (Ok reply) =
    (wrong_behind arena side codes next ≡ None) × (reply ≡ reply_to arena side codes next)
IsReplyTo arena side codes next (Err w) = wrong_behind arena side codes next ≡ Some w
