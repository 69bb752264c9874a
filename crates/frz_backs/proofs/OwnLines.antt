-- What the exit lines of a text give where each line has a property.
use Rattle.std.proofs.Common.{◌≡◌, ◌∙◌, ap, ◌≤◌, ◌+◌, ◌-◌, take, drop, length, ℕ, Option, Some, None, zero, suc, inl, inr, Bool, true, false, not, List, [], ◌∷◌, All, refl, arith}
use Rattle.std.specs.Prelude.{if◌then◌else◌}
use Rattle.std.specs.List.{list_all, position_from}
use Rattle.std.proofs.lemmas.Bool.{and_parts, cases_Bool}
use Rattle.std.proofs.lemmas.List.{length-drop, take_all}
use Rattle.std.proofs.lemmas.List.Elements.{All-head, All-tail, All-nil, All-drop}
use Rattle.frz_board.specs.Boards.{Board}
use Rattle.frz_board.specs.declared.man.Colour.{Colour}
use Rattle.frz_board.specs.declared.man.Colour.TheVariants.{White, Black}
use Rattle.frz_sets.specs.declared.exit.Value.{Value}
use Rattle.frz_sets.specs.declared.exit.Value.TheVariants.{WhiteWins, BlackWins, Draw, WhiteHolds, BlackHolds, Unknown, WhiteWinsIn, BlackWinsIn}
use Rattle.frz_sets.specs.Views.{ExitLine, RuleLines}
use Rattle.frz_sets.specs.Sound.{IsSound}
use Rattle.frz_arena.specs.declared.class.Class.TheVariants.{Good}
use Rattle.frz_exits.specs.Books.{first_value, value_by}
use Rattle.frz_exits.specs.Conditions.{conditions_hold}
use Rattle.frz_exits.specs.Values.{class_of, is_numbered, lag_of}
use Rattle.frz_exits.proofs.Lemmas.{sound_lags}
use Rattle.frz_backs.specs.Behind.{ends_lines, lines_behind, lines_past, value_behind}
use Rattle.frz_backs.specs.Books.{Back}
use Rattle.frz_backs.specs.Counts.{is_uncounted, lines_count}
use Rattle.frz_backs.specs.LinkPlies.{OwnWinsNumbered}
use Rattle.frz_backs.specs.Values.{is_behind, own_value}
use Rattle.frz_chain.proofs.Lemmas.{holds_of_either_value}

-- what holds of an unknown value and of the value of each line holds of the value they give
value_of_lines : (P : Value → Type 0) (lines : List ExitLine) (q : Board) → P Unknown →
    All (λ line. P line.value) lines → P (first_value lines q)
value_of_lines P [] q unknown each = unknown
value_of_lines P (line ∷ lines) q unknown each =
    elim (cases_Bool (conditions_hold q line.conds)) [
      | inl t ↦ rw t (All-head (λ (l : ExitLine). P l.value) line lines each)
      | inr f ↦ rw f (value_of_lines P lines q unknown
          (All-tail (λ (l : ExitLine). P l.value) line lines each))
    ]

-- what holds of each line holds of each line behind
all_past : (P : ExitLine → Type 0) (lines : List ExitLine) (o : Option ℕ) → All P lines →
    All P (lines_past o lines)
all_past P lines None each = All-nil P
all_past P lines (Some i) each = All-drop P (i + 1) lines each

all_behind : (P : ExitLine → Type 0) (lines : List ExitLine) → All P lines →
    All P (lines_behind lines)
unfolding lines_behind
all_behind P lines each = all_past P lines (position_from ends_lines 0 lines) each

-- the rest of the list behind the place of such a line
pub past_place : (lines : List ExitLine) (i : ℕ) → Some i ≡ position_from ends_lines 0 lines →
    take (length lines - (i + 1)) (drop (i + 1) lines) ≡ lines_behind lines
unfolding lines_behind
past_place lines i e =
    let many = length-drop (i + 1) lines in
    take_all (length lines - (i + 1)) (drop (i + 1) lines) (omega (arith, many))
    ∙ ap (λ (o : Option ℕ). lines_past o lines) e

pub past_none : (lines : List ExitLine) → None ≡ position_from ends_lines 0 lines →
    [] ≡ lines_behind lines
unfolding lines_behind
past_none lines e = ap (λ (o : Option ℕ). lines_past o lines) e

unless_behind : (P : Value → Type 0) (test : Bool) (v : Value) → P Unknown → P v →
    P (if test then Unknown else v)
unless_behind P true v unknown h = unknown
unless_behind P false v unknown h = h

-- so what holds of an unknown value and of that of each line holds of the value by all of them
pub value_of_own : (P : Value → Type 0) (rules : RuleLines) (backs : List Back) (q : Board) →
    P Unknown → All (λ line. P line.value) rules.exits → P (own_value rules backs q)
value_of_own P rules backs q unknown each =
    holds_of_either_value P (value_by rules q)
    (if is_behind backs q then Unknown else value_behind rules q)
    (value_of_lines P rules.exits q unknown each)
    (unless_behind P (is_behind backs q) (value_behind rules q) unknown
    (value_of_lines P (lines_behind rules.exits) q unknown
    (all_behind (λ (l : ExitLine). P l.value) rules.exits each)))

-- a line by which the side wins says in how many plies, where its value counts
counted : (v : Value) (side : Colour) → not (is_uncounted v side) ≡ true →
    class_of v side ≡ Good → is_numbered v ≡ true
counted WhiteWins White c g = absurd (cc)
counted WhiteWins Black c g = absurd (cc)
counted BlackWins White c g = absurd (cc)
counted BlackWins Black c g = absurd (cc)
counted Draw side c g = absurd (cc)
counted WhiteHolds White c g = absurd (cc)
counted WhiteHolds Black c g = absurd (cc)
counted BlackHolds White c g = absurd (cc)
counted BlackHolds Black c g = absurd (cc)
counted Unknown side c g = absurd (cc)
counted (WhiteWinsIn n) side c g = refl
counted (BlackWinsIn n) side c g = refl

abbrev IsCounted : Colour → Value → Type 0
IsCounted side v = class_of v side ≡ Good → is_numbered v ≡ true

each_counted : (side : Colour) (lines : List ExitLine) →
    list_all (λ line. not (is_uncounted line.value side)) lines ≡ true →
    All (λ line. IsCounted side line.value) lines
each_counted side [] e k d l = absurd (omega (arith, l))
each_counted side (line ∷ lines) e zero d l =
    counted line.value side
    (and_parts (not (is_uncounted line.value side))
    (list_all (λ line. not (is_uncounted line.value side)) lines) e).0
each_counted side (line ∷ lines) e (suc k) d l =
    each_counted side lines
    (and_parts (not (is_uncounted line.value side))
    (list_all (λ line. not (is_uncounted line.value side)) lines) e).1
    k d (omega (arith, l))

all_counted : (side : Colour) (lines : List ExitLine) → lines_count side lines ≡ true →
    All (λ line. IsCounted side line.value) lines
unfolding lines_count
all_counted side lines e = each_counted side lines e

-- where each line counts, each win by them says in how many plies
pub own_numbered : (rules : RuleLines) (backs : List Back) (side : Colour) →
    lines_count side rules.exits ≡ true → OwnWinsNumbered rules backs side
own_numbered rules backs side e q x =
    value_of_own (IsCounted side) rules backs q (λ g. absurd (cc))
    (all_counted side rules.exits e)

pub lines_numbered : (rules : RuleLines) (side : Colour) → lines_count side rules.exits ≡ true →
    (q : Board) → class_of (value_by rules q) side ≡ Good → is_numbered (value_by rules q) ≡ true
lines_numbered rules side e q =
    value_of_lines (IsCounted side) rules.exits q (λ g. absurd (cc))
    (all_counted side rules.exits e)

-- the lines of sound rules name no more than 1,000 plies
pub own_small : (rules : RuleLines) (backs : List Back) → IsSound rules → (q : Board) →
    lag_of (own_value rules backs q) ≤ 1000
own_small rules backs sound q =
    let lines = sound.lines in
    value_of_own (λ (v : Value). lag_of v ≤ 1000) rules backs q (omega arith)
    (sound_lags rules.exits lines.exits)
