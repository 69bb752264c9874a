-- Sound rules: their states are in order, and nothing is wrong with them.
use Rattle.std.specs.Prelude.{ℕ, ◌+◌, ◌<◌, ◌≤◌, ◌≡◌, true, false, List, [], ◌∷◌, ◌++◌, length}
use Rattle.std.specs.List.{AllByRecursion, list_any}
use Rattle.frz_board.specs.declared.man.Colour.TheVariants.{White, Black}
use Rattle.frz_board.specs.declared.man.Kind.{Kind}
use Rattle.frz_sets.specs.declared.exit.Value.{Value}
use Rattle.frz_sets.specs.declared.exit.Value.TheVariants.{WhiteWinsIn, BlackWinsIn}
use Rattle.frz_sets.specs.declared.limits.TheConstants.{MOST_CONDS, MOST_EXITS, MOST_FORBIDS, MOST_GROUPS, MOST_MEN, MOST_NUMBERS, MOST_LAG, MOST_STATES}
use Rattle.frz_sets.specs.Views.{GroupLine, ExitLine, RuleLines}
use Rattle.frz_sets.specs.Groups.{state_number, is_end_pawn, is_bad_count, is_bad_king, has_king_group, overlaps, most_men_of}
use Rattle.frz_sets.specs.Sets.{size_of}

-- the states are on squares of the board and in order by kind, then square, each once, and none is
-- below number n
abbrev pub AreIncreasingFrom : ℕ → List (Kind × ℕ) → Type 0
AreIncreasingFrom n [] = Unit {0}
AreIncreasingFrom n (s ∷ states) =
    (n ≤ state_number s) × (s.1 < 64) × AreIncreasingFrom (state_number s + 1) states

pub record AreStates (states : List (Kind × ℕ)) : Type 0 where
  pub increasing : AreIncreasingFrom 0 states
  pub few : length states ≤ MOST_STATES

-- the men of a group have states to stand in, and are at most 16
pub record IsCounted (g : GroupLine) : Type 0 where
  pub order : g.least ≤ g.most
  pub room : g.most ≤ length g.states
  pub men : g.most ≤ MOST_MEN
  pub few : length g.states ≤ MOST_STATES

abbrev pub AreCounted : List GroupLine → Type 0
AreCounted groups = AllByRecursion IsCounted groups

-- a group behind the earlier ones: its states are in order, and nothing is wrong with it
pub record IsSoundBehind (earlier : List GroupLine) (g : GroupLine) : Type 0 where
  pub states : AreStates g.states
  pub no_end_pawn : list_any is_end_pawn g.states ≡ false
  pub count : is_bad_count g ≡ false
  pub king : is_bad_king earlier g ≡ false
  pub no_overlap : overlaps earlier g ≡ false
  pub few_men : most_men_of earlier g.colour + g.most ≤ MOST_MEN
  pub few_groups : length earlier < MOST_GROUPS

-- each group is sound behind the earlier ones
abbrev pub AreSoundAfter : List GroupLine → List GroupLine → Type 0
AreSoundAfter earlier [] = Unit {0}
AreSoundAfter earlier (g ∷ groups) =
    IsSoundBehind earlier g × AreSoundAfter (earlier ++ g ∷ []) groups

abbrev pub HasFewPlies : Value → Type 0
HasFewPlies (WhiteWinsIn n) = n ≤ MOST_LAG
HasFewPlies (BlackWinsIn n) = n ≤ MOST_LAG
HasFewPlies _ = Unit {0}

pub record IsSoundExit (e : ExitLine) : Type 0 where
  pub lag : HasFewPlies e.value
  pub conds : length e.conds ≤ MOST_CONDS

-- nothing is wrong with any line of the rules
pub record AreSoundLines (r : RuleLines) : Type 0 where
  pub groups : AreSoundAfter [] r.groups
  pub forbids : length r.forbids ≤ MOST_FORBIDS
  pub few_exits : length r.exits ≤ MOST_EXITS
  pub exits : AllByRecursion IsSoundExit r.exits

-- nothing is wrong with any line, nor with the rules as a whole: each side has a king group, and
-- the set is not too big
pub record IsSound (r : RuleLines) : Type 0 where
  pub lines : AreSoundLines r
  pub white_king : has_king_group r.groups White ≡ true
  pub black_king : has_king_group r.groups Black ≡ true
  pub size : size_of r.groups ≤ MOST_NUMBERS
