-- A way told by named cases, each of which is one thing that happens at a position.
use Rattle.std.specs.Prelude.{◌≡◌, ℕ, suc, true, false, List, [], ◌∷◌, Some, slice_get}
use Rattle.frz_board.specs.declared.man.Colour.{Colour}
use Rattle.frz_board.specs.Men.{same_colour}
use Rattle.frz_arena.specs.declared.arm.Next.TheVariants.{Inside, Outside}
use Rattle.frz_arena.specs.Chosen.{IsChosen}
use Rattle.frz_arena.specs.Inputs.{Answer, Reply, Stop}
use Rattle.frz_arena.specs.WayEnds.{End, Exit, Stopped}
use Rattle.frz_arena.specs.Ways.{Player, Ply, ByInput, Over, Moves, is_by_codes, stage}

-- x is the ply that is played with the input s, and leaves the input t
pub data Played {M N V S R : Type 0} (player : Player M N V S R) (s : S) (x : Ply M N V)
    (t : S) : Type 0 where
  -- the codes ask for it: for each ply of the side, and for each of a line
  by_codes : is_by_codes player x.mover ≡ true →
      IsChosen player.arena player.side player.entry x.mover x.from x.place x.arm →
      x.refused ≡ 0 → t ≡ s → Played player s x t
  -- the opponent gives it by the input
  by_input : (read : N → S → Answer S R) → player.opponent ≡ ByInput read →
      same_colour x.mover player.side ≡ false →
      slice_get (player.arena.arms x.from) x.place ≡ Some x.arm →
      read x.from s ≡ Reply x.refused x.place t → Played player s x t

-- after so many plies the way goes on from p with these plies to this end, and takes the input from
-- s to t
pub data Way {M N V S R : Type 0} (player : Player M N V S R) :
    (plies : ℕ) → S → N → List (Ply M N V) → End N V R → S → Type 0 where
  -- no ply is due at p: the way is over
  over : {plies : ℕ} {s : S} {p : N} {end : End N V R} → stage player plies p ≡ Over end →
      Way player plies s p [] end s
  -- the opponent's ply is due at p, and the input stops
  stopped : {plies : ℕ} {s t : S} {p : N} (mover : Colour) (read : N → S → Answer S R)
      (reason : R) → stage player plies p ≡ Moves mover → player.opponent ≡ ByInput read →
      same_colour mover player.side ≡ false → read p s ≡ Stop reason t →
      Way player plies s p [] (Stopped reason) t
  -- the ply x is played at p, and the way goes on from the position q to which it leads
  goes_on : {plies : ℕ} {s t : S} {p : N} {xs : List (Ply M N V)} {end : End N V R}
      (x : Ply M N V) (left : S) (q : N) → x.from ≡ p → stage player plies p ≡ Moves x.mover →
      Played player s x left → x.arm.next ≡ Inside q → Way player (suc plies) left q xs end t →
      Way player plies s p (x ∷ xs) end t
  -- the ply x is played at p, and leads out, to the value v
  leaves : {plies : ℕ} {s t : S} {p : N} (x : Ply M N V) (v : V) → x.from ≡ p →
      stage player plies p ≡ Moves x.mover → Played player s x t → x.arm.next ≡ Outside v →
      Way player plies s p (x ∷ []) (Exit v) t
