-- The way of a side that plays by its codes: in a line against an opponent who plays by them too,
-- in a session against an opponent whose plies come from an input.
use Rattle.std.specs.Prelude.{◌≡◌, ◌≤◌, ◌+◌, ◌==◌, ◌&&◌, ◌||◌, nat_le, ℕ, suc, Bool, true, false, List, [], ◌∷◌, Some, slice_get, slice_index, if◌then◌else◌, ◌⊎◌}
use Rattle.frz_board.specs.declared.man.Colour.{Colour}
use Rattle.frz_board.specs.Men.{same_colour}
use Rattle.frz_arena.specs.declared.arm.Arm.{Arm}
use Rattle.frz_arena.specs.declared.node.Node.{Node}
use Rattle.frz_arena.specs.declared.node.Node.TheVariants.{Broken, Mate, Stalemate, Going}
use Rattle.frz_arena.specs.Arena.{Arena}
use Rattle.frz_arena.specs.Chosen.{IsChosen}
use Rattle.frz_arena.specs.Codes.{is_win, is_failure}
use Rattle.frz_arena.specs.Inputs.{Answer, Reply, Stop}
use Rattle.frz_arena.specs.LocalCodes.{arm_code, local_code}
use Rattle.frz_arena.specs.Names.{Numbering, numbers_of}
use Rattle.frz_arena.specs.Plies.{LeadsTo}
use Rattle.frz_arena.specs.WayEnds.{End, Wrong, NoBound, Mated, Stalemated, Exit, Cut, Stopped}

-- a ply: the position before it, the index (place) of its arm among the arms there, the arm, who
-- moved, and how many lines of the input were refused before it
pub record Ply (M N V : Type 0) : Type 0 where
  pub from : N
  pub place : ℕ
  pub arm : Arm M N V
  pub mover : Colour
  pub refused : ℕ

-- who finds the opponent's plies: in a line the codes, and the line is cut at a hold after so many
-- plies (most); in a session an input
pub data Opponent (N S R : Type 0) : Type 0 where
  ByCodes : (most : ℕ) → Opponent N S R
  ByInput : (read : N → S → Answer S R) → Opponent N S R

-- a side, with the code that it keeps for each position (entry), and its opponent
pub record Player (M N V S R : Type 0) : Type 0 where
  pub arena : Arena M N V
  pub side : Colour
  pub entry : N → ℕ
  pub opponent : Opponent N S R

-- what is due at a position of a way: its end, or a ply
pub data Stage (N V R : Type 0) : Type 0 where
  Over : (end : End N V R) → Stage N V R
  Moves : (mover : Colour) → Stage N V R

-- after so many plies a line is cut where the code is a hold
abbrev pub is_cut : {N S R : Type 0} → Opponent N S R → (plies code : ℕ) → Bool
is_cut (ByCodes most) plies code = (code == 1) && nat_le most plies
is_cut (ByInput read) plies code = false

-- what is due at p by its node. In a closed arena no way from a position that is not broken comes
-- to a broken one
abbrev pub stage_of : {M N V S R : Type 0} → Player M N V S R → (plies : ℕ) → N → Node → Stage N V R
stage_of player plies p Broken = Over (Wrong p (player.entry p) 0)
stage_of player plies p (Mate mover) = Over (Mated mover)
stage_of player plies p (Stalemate mover) = Over (Stalemated mover)
stage_of player plies p (Going mover) =
    if is_cut player.opponent plies (player.entry p) then Over Cut else Moves mover

-- what is due at p after so many plies: first the kept code is compared with the local one, then
-- the start must not fail
abbrev pub stage : {M N V S R : Type 0} → Player M N V S R → (plies : ℕ) → N → Stage N V R
stage player plies p =
    let given = local_code player.arena player.side player.entry p in
    if player.entry p == given
    then (if (plies == 0) && is_failure (player.entry p) then Over NoBound
    else stage_of player plies p (player.arena.node p))
    else Over (Wrong p (player.entry p) given)

-- x is the ply that the codes or the input ask for, and it takes the input from s to t
abbrev pub IsTakenBy : {M N V S R : Type 0} → Player M N V S R → (own : Bool) → Opponent N S R → S →
    Ply M N V → S → Type 0
IsTakenBy player true opponent s x t =
    IsChosen player.arena player.side player.entry x.mover x.from x.place x.arm × (x.refused ≡ 0)
    × (t ≡ s)
IsTakenBy player false (ByCodes most) s x t =
    IsChosen player.arena player.side player.entry x.mover x.from x.place x.arm × (x.refused ≡ 0)
    × (t ≡ s)
IsTakenBy player false (ByInput read) s x t =
    (slice_get (player.arena.arms x.from) x.place ≡ Some x.arm)
    × (read x.from s ≡ Reply x.refused x.place t)

abbrev pub IsTaken : {M N V S R : Type 0} → Player M N V S R → S → Ply M N V → S → Type 0
IsTaken player s x t = IsTakenBy player (same_colour x.mover player.side) player.opponent s x t

-- the input stops where the opponent's ply is due
abbrev pub IsStopBy : {N V S R : Type 0} → (own : Bool) → Opponent N S R → S → N → End N V R → S →
    Type 0
IsStopBy true opponent s p end t = ⊥
IsStopBy false (ByCodes most) s p end t = ⊥
IsStopBy {R = R} false (ByInput read) s p end t =
    (reason : R) × (end ≡ Stopped reason) × (read p s ≡ Stop reason t)

abbrev pub IsStop : {M N V S R : Type 0} → Player M N V S R → (plies : ℕ) → S → N → End N V R → S →
    Type 0
IsStop player plies s p end t =
    (mover : Colour) × (stage player plies p ≡ Moves mover)
    × IsStopBy (same_colour mover player.side) player.opponent s p end t

-- after so many plies the way goes on from p with these plies
-- to this end, and takes the input from s to t
abbrev pub IsWay : {M N V S R : Type 0} → Player M N V S R → (plies : ℕ) → S → N →
    List (Ply M N V) → End N V R → S → Type 0
IsWay player plies s p [] end t =
    ((stage player plies p ≡ Over end) × (t ≡ s)) ⊎ IsStop player plies s p end t
IsWay {S = S} player plies s p (x ∷ xs) end t =
    (x.from ≡ p) × (stage player plies p ≡ Moves x.mover)
    × ((u : S) × IsTaken player s x u
    × LeadsTo (λ q. IsWay player (suc plies) u q xs end t)
    (λ v. (xs ≡ []) × (end ≡ Exit v) × (t ≡ u)) x.arm.next)

-- the opponent's plies are found by the codes, as in a line
abbrev pub is_line : {N S R : Type 0} → Opponent N S R → Bool
is_line (ByCodes most) = true
is_line (ByInput read) = false

-- the codes find the mover's ply: the side's own in every way, each in a line
abbrev pub is_by_codes : {M N V S R : Type 0} → Player M N V S R → Colour → Bool
is_by_codes player mover = same_colour mover player.side || is_line player.opponent

-- what holds of each ply of a way. The kept code is the local one, a win or a hold. The arm is
-- there, and free where the side moves. A win stays a win of at least one ply less, and of just one
-- ply less where the codes find the ply. A hold does not become a failure, and where the codes find
-- the ply its arm has code 1 or 0
pub record IsPlyOf {M N V S R : Type 0} (player : Player M N V S R) (x : Ply M N V) : Type 0 where
  pub agrees : player.entry x.from ≡ local_code player.arena player.side player.entry x.from
  pub stands : (is_win (player.entry x.from) ≡ true) ⊎ (player.entry x.from ≡ 1)
  pub goes_on : player.arena.node x.from ≡ Going x.mover
  pub there : slice_get (player.arena.arms x.from) x.place ≡ Some x.arm
  pub free : x.mover ≡ player.side → x.arm.free ≡ true
  pub win : is_win (player.entry x.from) ≡ true →
      (is_win (arm_code player.arena player.side player.entry x.arm) ≡ true)
      × (arm_code player.arena player.side player.entry x.arm + 2 ≤ player.entry x.from)
  pub best_win : is_by_codes player x.mover ≡ true → is_win (player.entry x.from) ≡ true →
      arm_code player.arena player.side player.entry x.arm + 2 ≡ player.entry x.from
  pub hold : player.entry x.from ≡ 1 →
      is_failure (arm_code player.arena player.side player.entry x.arm) ≡ false
  pub best_hold : is_by_codes player x.mover ≡ true → player.entry x.from ≡ 1 →
      arm_code player.arena player.side player.entry x.arm ≤ 1

-- a side that plays by its table of codes for the numbers
abbrev pub table_player : {M N V S R : Type 0} → Numbering N → Arena M N V → Colour → List ℕ →
    Opponent ℕ S R → Player M ℕ V S R
table_player numbers arena side codes opponent = record {
  arena = numbers_of numbers arena;
  side = side;
  entry = λ i. slice_index codes i;
  opponent = opponent;
}
