-- What a group line, a forbid line and an exit line say: their words after the first.
use Rattle.std.specs.Prelude.{ℕ, ◌&&◌, List, [], ◌∷◌, Option, None, Some, if◌then◌else◌, codes}
use Rattle.std.specs.List.{before_first, after_first}
use Rattle.frz_board.specs.declared.man.Colour.{Colour}
use Rattle.frz_board.specs.declared.man.Colour.TheVariants.{White, Black}
use Rattle.frz_board.specs.declared.man.Kind.{Kind}
use Rattle.frz_sets.specs.declared.forbid.Only.{Only}
use Rattle.frz_sets.specs.declared.forbid.Only.TheVariants.{Any, Capture, Promotion}
use Rattle.frz_sets.specs.declared.forbid.Forbid.{Forbid}
use Rattle.frz_sets.specs.declared.exit.Value.{Value}
use Rattle.frz_sets.specs.declared.exit.Value.TheVariants.{WhiteWins, BlackWins, Draw, WhiteHolds, BlackHolds, Unknown, WhiteWinsIn, BlackWinsIn}
use Rattle.frz_sets.specs.Views.{Condition, GroupLine, ExitLine}
use Rattle.frz_rules.specs.Classes.{is, colour_of, kind_of, count_of, place_of, lag_of}
use Rattle.frz_rules.specs.Conditions.{cond_of}
use Rattle.frz_rules.specs.States.{states_of}
use Rattle.frz_words.specs.Squares.{squares_of}

abbrev pub with_first : {A : Type 0} → Option A → Option (List A) → Option (List A)
with_first None others = None
with_first (Some x) None = None
with_first (Some x) (Some xs) = Some (x ∷ xs)

-- what each of the words says; None where one of them is not of the class
abbrev pub all_of : {A : Type 0} → (List ℕ → Option A) → List (List ℕ) → Option (List A)
all_of class [] = Some []
all_of class (w ∷ ws) = with_first (class w) (all_of class ws)

-- what each of the words says, where there is one word or more
abbrev pub some_of : {A : Type 0} → (List ℕ → Option A) → List (List ℕ) → Option (List A)
some_of class [] = None
some_of class (w ∷ ws) = all_of class (w ∷ ws)

abbrev pub group_from : Option Colour → Option (ℕ × ℕ) → Option (List (Kind × ℕ)) → Option GroupLine
group_from (Some c) (Some n) (Some places) =
    Some (record { colour = c; least = n.0; most = n.1; states = states_of places })
group_from _ _ _ = None

-- COLOUR COUNT PLACE ..
unfoldable pub group_of : List (List ℕ) → Option GroupLine
group_of (c ∷ n ∷ places) = group_from (colour_of c) (count_of n) (some_of place_of places)
group_of _ = None

-- nothing, `capture` or `promotion`
abbrev pub only_of : List (List ℕ) → Option Only
only_of [] = Some Any
only_of (w ∷ []) =
    if is (codes "capture") w then Some Capture else
    (if is (codes "promotion") w then Some Promotion else None)
only_of _ = None

abbrev pub forbid_from : Option Colour → Option Kind → Option ℕ → Option ℕ → Option Only →
    Option Forbid
forbid_from (Some c) (Some k) (Some s) (Some t) (Some o) =
    Some (record { colour = c; kind = k; from = s; to = t; only = o })
forbid_from _ _ _ _ _ = None

-- COLOUR KIND from SQUARES to SQUARES, then nothing, `capture` or `promotion`
unfoldable pub forbid_of : List (List ℕ) → Option Forbid
forbid_of (c ∷ k ∷ f ∷ s ∷ t ∷ u ∷ end) =
    if is (codes "from") f && is (codes "to") t
    then forbid_from (colour_of c) (kind_of k) (squares_of s) (squares_of u) (only_of end) else None
forbid_of _ = None

abbrev pub wins : Colour → Value
wins White = WhiteWins
wins Black = BlackWins

abbrev pub holds : Colour → Value
holds White = WhiteHolds
holds Black = BlackHolds

abbrev pub wins_in : Colour → ℕ → Value
wins_in White n = WhiteWinsIn n
wins_in Black n = BlackWinsIn n

abbrev pub won_or_held : Option Colour → List ℕ → Option Value
won_or_held None verb = None
won_or_held (Some c) verb =
    if is (codes "wins") verb then Some (wins c) else
    (if is (codes "holds") verb then Some (holds c) else None)

abbrev pub won_in : Option Colour → Option ℕ → Option Value
won_in (Some c) (Some n) = Some (wins_in c n)
won_in _ _ = None

-- VALUE: `draw` or `unknown`; COLOUR and `wins` or `holds`; COLOUR, `wins` and LAG
abbrev pub value_of : List (List ℕ) → Option Value
value_of (w ∷ []) =
    if is (codes "draw") w then Some Draw else
    (if is (codes "unknown") w then Some Unknown else None)
value_of (c ∷ verb ∷ []) = won_or_held (colour_of c) verb
value_of (c ∷ verb ∷ n ∷ []) =
    if is (codes "wins") verb then won_in (colour_of c) (lag_of n) else None
value_of _ = None

abbrev pub exit_from : Option Value → Option (List Condition) → Option ExitLine
exit_from (Some v) (Some conds) = Some (record { value = v; conds = conds })
exit_from _ _ = None

-- VALUE if COND ..
unfoldable pub exit_of : List (List ℕ) → Option ExitLine
exit_of ws =
    exit_from (value_of (before_first (is (codes "if")) ws))
    (some_of cond_of (after_first (is (codes "if")) ws))
