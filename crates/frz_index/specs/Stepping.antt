-- A man gone to an empty square, with the other side to move, and the number after that.
use Rattle.std.specs.Prelude.{ℕ, suc, ◌+◌, ◌-◌, ◌*◌, ◌≡◌, ◌≢◌, ◌<◌, ◌^◌, ◌==◌, ◌&&◌, ◌||◌, Bool, false, not, true, Option, None, Some, List, MatchOption, drop, length, map, slice_index, slice_set}
use Rattle.std.specs.List.{slice_get}
use Rattle.frz_board.specs.declared.man.Colour.{Colour}
use Rattle.frz_board.specs.declared.man.Man.{Man}
use Rattle.frz_board.specs.Boards.{Board, is_empty, man_on}
use Rattle.frz_board.specs.Men.{cell_of_man, is_pawn, other_of}
use Rattle.frz_board.specs.Moving.{Step}
use Rattle.frz_board.specs.Squares.{files_apart, is_forward}
use Rattle.frz_combinations.specs.MixedRadix.{product}
use Rattle.frz_sets.specs.Sets.{is_state, radix_of}
use Rattle.frz_sets.specs.Views.{GroupLine}
use Rattle.frz_index.specs.declared.across.Turned.{Turned}
use Rattle.frz_index.specs.Places.{IsWithinCount, digit_of}
use Rattle.frz_index.specs.TurnStates.{turn_number}

-- the man goes from a to b; the other side is to move, and this is the target
abbrev pub stepped : Board → Man → ℕ → ℕ → Option ℕ → Board
stepped p man a b target = record {
  cells = slice_set (slice_set p.cells a 0) b (cell_of_man man);
  turn = other_of p.turn;
  ep = target;
}

-- the man stands on a, and b is empty
pub record IsStep (p : Board) (man : Man) (a b : ℕ) : Type 0 where
  pub size : length p.cells ≡ 64
  pub from : a < 64
  pub to : b < 64
  pub stood : slice_index p.cells a ≡ cell_of_man man
  pub free : slice_index p.cells b ≡ 0

-- the place of the man on this square among the group's states
abbrev pub IsPlace : GroupLine → Man → ℕ → ℕ → Type 0
IsPlace g man s k = (g.colour ≡ man.colour) × (slice_get g.states k ≡ Some (man.kind, s))

-- Only the group at index i has the man on this square as a state, and it has one man at most.
-- There his place is the group's digit, and `adds` is what that digit adds to a number.
pub record IsShare (gs : List GroupLine) (man : Man) (s i adds : ℕ) : Type 0 where
  pub group : GroupLine
  pub there : slice_get gs i ≡ Some group
  pub one : group.most ≡ 1
  pub place : ℕ
  pub place_is : IsPlace group man s place
  pub adds_is : adds ≡ place * product (map radix_of (drop (suc i) gs))
  pub alone : (j : ℕ) (g : GroupLine) → j ≢ i → slice_get gs j ≡ Some g →
      is_state (cell_of_man man) s g ≡ false

-- only the group at index i has the man on this square as a state
pub record IsCounter (gs : List GroupLine) (man : Man) (s i : ℕ) : Type 0 where
  pub group : GroupLine
  pub there : slice_get gs i ≡ Some group
  pub place : ℕ
  pub place_is : IsPlace group man s place
  pub alone : (j : ℕ) (g : GroupLine) → j ≢ i → slice_get gs j ≡ Some g →
      is_state (cell_of_man man) s g ≡ false

-- the group at index i has the man on both squares as states
abbrev pub HasOnBoth : List GroupLine → Man → ℕ → ℕ → ℕ → Type 0
HasOnBoth gs man a b i =
    (g : GroupLine) × (slice_get gs i ≡ Some g) × (is_state (cell_of_man man) a g ≡ true)
    × (is_state (cell_of_man man) b g ≡ true)

-- one group alone counts the man on both squares
pub record IsCountedOnBoth (gs : List GroupLine) (man : Man) (a b : ℕ) : Type 0 where
  pub group : ℕ
  pub there : IsCounter gs man a group
  pub then : IsCounter gs man b group

-- one group alone, of one man at most, counts the man on both squares: he adds `left` on the first
-- and `comes` on the second
pub record IsSharedOnBoth (gs : List GroupLine) (man : Man) (a b : ℕ) : Type 0 where
  pub group : ℕ
  pub left : ℕ
  pub comes : ℕ
  pub there : IsShare gs man a group left
  pub then : IsShare gs man b group comes

-- what the digit of the group at index k adds, and None where it has too few men or too many
abbrev pub DigitAdds : List GroupLine → Board → ℕ → GroupLine → Option ℕ → Type 0
DigitAdds gs p k g adds =
    MatchOption adds (IsWithinCount p g → ⊥)
    (λ x. IsWithinCount p g × (x ≡ digit_of p g * product (map radix_of (drop (suc k) gs))))

-- what a turn state adds to a number
abbrev pub turn_adds : List GroupLine → Colour → Option ℕ → ℕ
turn_adds gs turn target = turn_number gs turn target * product (map radix_of gs)

-- The number after a step, where `before` and `after` are the targets before and after it: i, less
-- what the man's group (`left`) and the turn state added before, plus what the group (`comes`) and
-- the turn state add after.
abbrev pub number_after : List GroupLine → Colour → Option ℕ → Option ℕ → ℕ → ℕ → ℕ → ℕ
number_after gs turn before after i left comes =
    i + comes + turn_adds gs (other_of turn) after - left - turn_adds gs turn before

-- the number with what the turn state adds after a step, where this is the target then, and what
-- the turn state added before
pub record IsTurned (gs : List GroupLine) (i : ℕ) (p : Board) (target : Option ℕ) (t : Turned)
    : Type 0 where
  pub gained_is : t.gained ≡ i + turn_adds gs (other_of p.turn) target
  pub lost_is : t.lost ≡ turn_adds gs p.turn p.ep
  pub small : t.gained < 2 ^ 34

-- a man that is no pawn moves, or a pawn goes one square forward
abbrev pub is_plain : Man → ℕ → ℕ → Bool
is_plain man a b =
    not (is_pawn man.kind) || (files_apart a b == 0 && is_forward man.colour 1 a b)

-- the plain move of this man to an empty square, where he stays what he is
pub record IsQuiet (p : Board) (m : Step) (man : Man) : Type 0 where
  pub man_is : man_on p m.from ≡ Some man
  pub plain : is_plain man m.from m.to ≡ true
  pub free : is_empty p m.to ≡ true
  pub promo : m.promo ≡ None
