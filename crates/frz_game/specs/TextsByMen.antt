-- Rules whose exit lines the men alone show to be true, by a test of the lines.
use Rattle.std.specs.Prelude.{◌≢◌, not, ℕ, Bool, true, false, ◌==◌, ◌&&◌, ◌||◌, ◌+◌, nat_le, List, [], ◌∷◌, if◌then◌else◌}
use Rattle.std.specs.List.{list_any, list_all}
use Rattle.frz_board.specs.declared.man.Colour.{Colour}
use Rattle.frz_board.specs.declared.man.Colour.TheVariants.{White, Black}
use Rattle.frz_board.specs.declared.man.Kind.{Kind}
use Rattle.frz_board.specs.declared.man.Kind.TheVariants.{Queen, Rook, Bishop, Knight, Pawn}
use Rattle.frz_board.specs.Boards.{Board}
use Rattle.frz_board.specs.Men.{same_colour, number_of_kind}
use Rattle.frz_sets.specs.declared.exit.Test.{Test}
use Rattle.frz_sets.specs.declared.exit.Test.TheVariants.{Turn, Count, On, Distance, Check, Always}
use Rattle.frz_sets.specs.declared.exit.Value.{Value}
use Rattle.frz_sets.specs.declared.exit.Value.TheVariants.{WhiteWins, BlackWins, Draw, WhiteHolds, BlackHolds, Unknown, WhiteWinsIn, BlackWinsIn}
use Rattle.frz_sets.specs.Views.{Condition, GroupLine, RuleLines}
use Rattle.frz_arena.specs.Exits.{IsExit}
use Rattle.frz_game.specs.Games.{game_of}

abbrev pub same_kind : Kind → Kind → Bool
same_kind j k = number_of_kind j == number_of_kind k

-- some group of the side has a state of this kind
abbrev pub has_kind : List GroupLine → Colour → Kind → Bool
has_kind groups c k =
    list_any (λ g. same_colour g.colour c && list_any (λ state. same_kind state.0 k) g.states)
    groups

-- one move outside the set the side may have a man of this kind: it has one in the set, or a pawn
-- that becomes one
abbrev pub may_have : List GroupLine → Colour → Kind → Bool
may_have groups c k = has_kind groups c k || has_kind groups c Pawn

-- the test asks that the side have at most n men of this kind
abbrev pub asks_at_most : Test → Colour → Kind → ℕ → Bool
asks_at_most (Count side man least most) c k n =
    same_colour side c && (same_kind man k && nat_le most n)
asks_at_most (Turn side) c k n = false
asks_at_most (On side man set) c k n = false
asks_at_most (Distance side square least most) c k n = false
asks_at_most Check c k n = false
asks_at_most Always c k n = false

-- some condition asks that the side have at most n men of this kind
abbrev pub say_at_most : List Condition → Colour → Kind → ℕ → Bool
say_at_most conds c k n = list_any (λ cond. not cond.negated && asks_at_most cond.test c k n) conds

-- the groups of the side with men of this kind have together at most so many men
abbrev pub most_of : List GroupLine → Colour → Kind → ℕ
most_of [] c k = 0
most_of (g ∷ groups) c k =
    (if same_colour g.colour c && list_any (λ state. same_kind state.0 k) g.states
    then g.most else 0) + most_of groups c k

-- the set has no pawns, and its groups have together at most n men of this kind
abbrev pub groups_leave_at_most : List GroupLine → Colour → Kind → ℕ → Bool
groups_leave_at_most groups c k n =
    not (has_kind groups White Pawn || has_kind groups Black Pawn) && nat_le (most_of groups c k) n

-- where the conditions hold one move outside the set, the side has at most n men of this kind
abbrev pub leave_at_most : List GroupLine → List Condition → Colour → Kind → ℕ → Bool
leave_at_most groups conds c k n =
    not (may_have groups c k) || (groups_leave_at_most groups c k n || say_at_most conds c k n)

-- where the conditions hold one move outside the set, the side has its king alone
unfoldable pub leave_bare : List GroupLine → List Condition → Colour → Bool
leave_bare groups conds c =
    leave_at_most groups conds c Queen 0 && (leave_at_most groups conds c Rook 0
    && (leave_at_most groups conds c Bishop 0 && (leave_at_most groups conds c Knight 0
    && leave_at_most groups conds c Pawn 0)))

-- where they hold there, the side has one man at most beside its king, a bishop or a knight
unfoldable pub leave_minor : List GroupLine → List Condition → Colour → Bool
leave_minor groups conds c =
    (leave_at_most groups conds c Queen 0 && (leave_at_most groups conds c Rook 0
    && leave_at_most groups conds c Pawn 0))
    && ((leave_at_most groups conds c Bishop 1 && leave_at_most groups conds c Knight 0)
    || (leave_at_most groups conds c Bishop 0 && leave_at_most groups conds c Knight 1))

-- where they hold there, neither side has the men to mate
unfoldable pub leave_dead : List GroupLine → List Condition → Bool
leave_dead groups conds =
    (leave_bare groups conds White && leave_minor groups conds Black)
    || (leave_bare groups conds Black && leave_minor groups conds White)

-- where they hold there, the value is true by the men
abbrev pub is_true_by : List GroupLine → List Condition → Value → Bool
is_true_by groups conds Draw = leave_dead groups conds
is_true_by groups conds WhiteHolds = leave_bare groups conds Black
is_true_by groups conds BlackHolds = leave_bare groups conds White
is_true_by groups conds Unknown = true
is_true_by groups conds WhiteWins = false
is_true_by groups conds BlackWins = false
is_true_by groups conds (WhiteWinsIn n) = false
is_true_by groups conds (BlackWinsIn n) = false

-- each exit line is true by the men
unfoldable pub are_true_by_men : RuleLines → Bool
are_true_by_men rules =
    list_all (λ line. is_true_by rules.groups line.conds line.value) rules.exits

abbrev pub is_draw : Value → Bool
is_draw Draw = true
is_draw _ = false

-- each exit line is a draw that is true by the men
unfoldable pub are_drawn_by_men : RuleLines → Bool
are_drawn_by_men rules =
    list_all (λ line. is_draw line.value && leave_dead rules.groups line.conds) rules.exits

-- no move out of the set leads to a position of unknown value
abbrev pub HasNoOpenExit : RuleLines → (Board → Value) → Type 0
HasNoOpenExit rules value = (q : Board) → IsExit (game_of rules value) q → value q ≢ Unknown
