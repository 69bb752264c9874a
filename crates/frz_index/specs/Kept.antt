-- What a set keeps of its groups.
use Rattle.std.specs.Prelude.{ℕ, suc, ◌+◌, ◌≡◌, ◌<◌, ◌≤◌, Bool, false, true, ◌||◌, ◌==◌, List, [], ◌∷◌, drop, filter, length, map, nat_lt, slice_index}
use Rattle.frz_combinations.specs.MixedRadix.{product}
use Rattle.frz_board.specs.declared.man.Colour.TheVariants.{White, Black}
use Rattle.frz_sets.specs.Groups.{has_king_group}
use Rattle.frz_sets.specs.Views.{GroupLine}
use Rattle.frz_sets.specs.Sound.{AreCounted, AreSoundAfter, AreStates}
use Rattle.frz_sets.specs.declared.limits.TheConstants.{MOST_GROUPS, MOST_NUMBERS, MOST_STATES}
use Rattle.frz_index.specs.declared.plan.Plan.{Plan}
use Rattle.frz_squares.specs.SquareSets.{set_of}
use Rattle.frz_index.specs.Charts.{AreCharts}
use Rattle.frz_index.specs.FixedBoards.{AreFixedBoards}
use Rattle.frz_index.specs.Shares.{AreShares}
use Rattle.frz_sets.specs.Sets.{has_state, is_state, radix_of, size_of, targets}

-- what the numbers of a set need of its groups
pub record AreNumberable (gs : List GroupLine) : Type 0 where
  pub groups : AreCounted gs
  pub few : length gs ≤ MOST_GROUPS
  pub size : size_of gs ≤ MOST_NUMBERS

-- how many numbers the groups from index i on have: the product of their radices
abbrev pub product_from : List GroupLine → ℕ → ℕ
product_from gs i = product (map radix_of (drop i gs))

-- what one unit of each group's digit adds to a number: how many numbers the later groups have
pub record AreWeights (gs : List GroupLine) (ws : List ℕ) : Type 0 where
  pub size : length ws ≡ length gs
  pub known : (i : ℕ) → i < length gs → slice_index ws i ≡ product_from gs (suc i)

-- the cell is empty, or its man on this square is a state of some group
abbrev pub is_known : List GroupLine → ℕ → ℕ → Bool
is_known gs cell s = cell == 0 || has_state gs cell s

-- the group may have fewer men than its most
abbrev pub may_lack : GroupLine → Bool
may_lack g = nat_lt g.least g.most

-- for each cell, the bitboard of the squares on which it is known
pub record AreKnown (gs : List GroupLine) (words : List ℕ) : Type 0 where
  pub size : length words ≡ 13
  pub known : (cell : ℕ) → cell < 13 → slice_index words cell ≡ set_of (is_known gs cell)

-- the group's states are in order, and no later group has one of them
pub record IsApart (g : GroupLine) (later : List GroupLine) : Type 0 where
  pub states : AreStates g.states
  pub alone : (cell s : ℕ) → is_state cell s g ≡ true → has_state later cell s ≡ false

-- no two groups have a state in common
abbrev pub AreApart : List GroupLine → Type 0
AreApart [] = Unit {0}
AreApart (g ∷ gs) = IsApart g gs × AreApart gs

-- each group is sound behind the earlier ones, and each side has a king group
pub record AreSoundGroups (gs : List GroupLine) : Type 0 where
  pub groups : AreSoundAfter [] gs
  pub white_king : has_king_group gs White ≡ true
  pub black_king : has_king_group gs Black ≡ true

-- what is kept is right: the weights, the numbers of all groups, the targets, the known squares,
-- those that groups know that may have fewer men than their most, the charts, what each man adds on each square, the rows of binomials up to 384, and the boards of
-- the fixed men; and each state is of one group alone
pub record IsPlan (plan : Plan) : Type 0 where
  pub sound : AreSoundGroups plan.groups.items
  pub numberable : AreNumberable plan.groups.items
  pub apart : AreApart plan.groups.items
  pub weights_are : AreWeights plan.groups.items plan.weights.items
  pub whole_is : plan.whole ≡ product_from plan.groups.items 0
  pub targets_are : plan.targets.items ≡ targets plan.groups.items
  pub known_are : AreKnown plan.groups.items plan.known_squares
  pub lacking_are : AreKnown (filter may_lack plan.groups.items) plan.lacking_squares
  pub charts_are : AreCharts plan.groups.items plan.charts.items
  pub shares_are : AreShares plan.groups.items plan.shares.items
  pub rows_are : plan.triangle ≡ MOST_STATES + 1
  pub fixed_are : AreFixedBoards plan.groups.items plan.fixed
