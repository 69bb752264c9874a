-- Where moves lead: to which configuration, and to which number of it.
use Rattle.std.specs.Prelude.{ℕ, ◌≡◌, ◌<◌, ◌↔◌, ◌&&◌, Bool, true, false, not, List}
use Rattle.frz_board.specs.Boards.{Board, is_empty}
use Rattle.frz_board.specs.Moving.{Step}
use Rattle.frz_fide.specs.Legal.{after, is_legal}
use Rattle.frz_sets.specs.Views.{GroupLine}
use Rattle.frz_sets.specs.declared.forbid.Forbid.{Forbid}
use Rattle.frz_exits.specs.Forbidding.{is_forbidden}
use Rattle.frz_index.specs.Members.{Member, Num}
use Rattle.frz_configurations.specs.Configurations.{IsSplit}
use Rattle.frz_planes.specs.Planes.{has_pair}
use Rattle.frz_king_planes.specs.Kings.{are_free, with_kings}
use Rattle.frz_pair_moves.specs.Ways.{leave_way}
use Rattle.frz_pair_moves.specs.Kings.{black_then, king_step, white_then}
use Rattle.frz_kingless.specs.Boards.{IsBoardOf}

-- the kings make a position of the set on these empty squares of the board
pub record MakesMember (gs : List GroupLine) (p : Board) (a b : ℕ) : Type 0 where
  pub white : a < 64
  pub black : b < 64
  pub free : are_free p a b ≡ true
  pub member : Member gs (with_kings p a b)

-- the kings make no position of the set on the board
abbrev pub HasNoMember : List GroupLine → Board → Type 0
HasNoMember gs p = (a b : ℕ) → MakesMember gs p a b → ⊥

-- the position is in the set exactly where the board is that of a configuration, and its number is
-- then the one of this configuration with the kings on a and b
pub record StandsAt (gs : List GroupLine) (position board : Board) (a b : ℕ) : Type 0 where
  pub member : Member gs position ↔ ((c : ℕ) × IsBoardOf gs c board)
  pub number : (c : ℕ) → IsBoardOf gs c board → IsSplit gs (Num gs position) c a b

-- the test holds, or fails, as `into` says
abbrev pub is_as : (into test : Bool) → Bool
is_as true test = test
is_as false test = not test

-- the kings leave the step its way, the planes before it and after it have the pair, and the plane
-- `to` has it or has it not, as `into` says
abbrev pub is_led : Step → (live live_after to : List ℕ) → (into : Bool) → (a b : ℕ) → Bool
is_led m live live_after to into a b =
    (has_pair live a b && leave_way m a b)
    && (has_pair live_after a b && is_as into (has_pair to a b))

-- the plane has exactly the pairs on which the kings make a position of the set in which the step is
-- legal, and which the plane `to` has, or has not
abbrev pub AreLeading : List GroupLine → Board → Step → (to : List ℕ) → (into : Bool) →
    (plane : List ℕ) → Type 0
AreLeading gs p m to into plane =
    (a b : ℕ) → a < 64 → b < 64 →
    (has_pair plane a b ≡ true)
    ↔ (MakesMember gs p a b × (is_legal (with_kings p a b) m ≡ true) × (has_pair to a b ≡ into))

-- the king of the side to move goes to s by a legal step that none of the lines forbids and that
-- stays in the set, to a pair that the plane has, or has not
pub record KingLeads (gs : List GroupLine) (lines : List Forbid) (p : Board) (to : List ℕ)
    (into : Bool) (a b s : ℕ) : Type 0 where
  pub legal : is_legal (with_kings p a b) (king_step p a b s) ≡ true
  pub free : is_forbidden lines p.turn (with_kings p a b) (king_step p a b s) ≡ false
  pub inside : Member gs (after (with_kings p a b) (king_step p a b s))
  pub there : has_pair to (white_then p.turn a s) (black_then p.turn b s) ≡ into

-- so the king goes to some empty square
pub record KingLeadsQuietly (gs : List GroupLine) (lines : List Forbid) (p : Board) (to : List ℕ)
    (into : Bool) (a b : ℕ) : Type 0 where
  pub square : ℕ
  pub on_board : square < 64
  pub empty : is_empty p square ≡ true
  pub leads : KingLeads gs lines p to into a b square
