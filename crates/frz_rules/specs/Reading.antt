-- What the private functions of the reader give, word by word: a value, or the words from the first
-- that does not fit.
use Rattle.std.specs.Prelude.{ℕ, ◌+◌, ◌-◌, List, [], ◌∷◌, ◌≡◌, length, Option, None, Some, Result, Ok, Err, if◌then◌else◌, codes}
use Rattle.frz_board.specs.declared.man.Colour.{Colour}
use Rattle.frz_board.specs.declared.man.Kind.{Kind}
use Rattle.frz_rules.specs.declared.fault.RulesCause.{RulesCause}
use Rattle.frz_rules.specs.declared.fault.RulesCause.TheVariants as causes
use Rattle.frz_sets.specs.declared.forbid.Only.{Only}
use Rattle.frz_sets.specs.declared.forbid.Only.TheVariants.{Any, Capture, Promotion}
use Rattle.frz_sets.specs.declared.forbid.Forbid.{Forbid}
use Rattle.frz_sets.specs.declared.exit.Value.{Value}
use Rattle.frz_sets.specs.declared.exit.Value.TheVariants.{Draw, Unknown}
use Rattle.frz_rules.specs.declared.stop.Stop.{Stop}
use Rattle.frz_rules.specs.declared.stop.Stop.TheVariants as stops
use Rattle.frz_rules.specs.declared.stop.Left.{Left}
use Rattle.frz_rules.specs.declared.stop.LineError.{LineError}
use Rattle.frz_rules.specs.declared.stop.LineError.TheVariants as refusals
use Rattle.frz_sets.specs.Views.{Condition, GroupLine, ExitLine, RuleLines}
use Rattle.frz_rules.specs.Classes.{is, colour_of, kind_of, count_of, place_of, lag_of}
use Rattle.frz_rules.specs.Conditions.{cond_of}
use Rattle.frz_rules.specs.States.{states_of}
use Rattle.frz_rules.specs.Lines.{wins, holds, wins_in}
use Rattle.frz_rules.specs.Text.{◌>>=◌}
use Rattle.frz_words.specs.Words.{words}
use Rattle.frz_words.specs.Squares.{squares_of}

-- what reading gives: a value, or the words that are left from the first that does not fit
abbrev pub Read : Type 0 → Type 0
Read A = Result A (List (List ℕ))

abbrev pub Stops : {Y : Type 0} → Stop → Read Y → Type 0
Stops stops.Memory read = Unit {0}
Stops (stops.At rest) read = read ≡ Err (words rest.now)

-- what a function returned, seen by view, is what reading gives, unless memory ran out
abbrev pub Gives : {X Y : Type 0} → (X → Y) → Result X Stop → Read Y → Type 0
Gives view (Ok x) read = read ≡ Ok (view x)
Gives view (Err e) read = Stops e read

-- what a function that needs no memory returned, seen by view, is what reading gives
abbrev pub Leaves : {X Y : Type 0} → (X → Y) → Result X Left → Read Y → Type 0
Leaves view (Ok x) read = read ≡ Ok (view x)
Leaves view (Err left) read = read ≡ Err (words left.0.now)

abbrev pub taken : {A : Type 0} → Option A → List ℕ → List (List ℕ) → Read (A × List (List ℕ))
taken None w ws = Err (w ∷ ws)
taken (Some x) w ws = Ok (x, ws)

-- the first word, if it is of the class, and the words behind it
abbrev pub slot : {A : Type 0} → (List ℕ → Option A) → List (List ℕ) → Read (A × List (List ℕ))
slot class [] = Err []
slot class (w ∷ ws) = taken (class w) w ws

-- the words behind the first, if the first is this very word
abbrev pub literal : List ℕ → List (List ℕ) → Read (List (List ℕ))
literal text [] = Err []
literal text (w ∷ ws) = if is text w then Ok ws else Err (w ∷ ws)

-- words of a class to the end
abbrev pub more_of : {A : Type 0} → Option A → List ℕ → List (List ℕ) → Read (List A) →
    Read (List A)
more_of None w ws others = Err (w ∷ ws)
more_of (Some x) w ws others = others >>= λ xs. Ok (x ∷ xs)

abbrev pub each_of : {A : Type 0} → (List ℕ → Option A) → List (List ℕ) → Read (List A)
each_of class [] = Ok []
each_of class (w ∷ ws) = more_of (class w) w ws (each_of class ws)

abbrev pub at_least_one : {A : Type 0} → List A → Read (List A)
at_least_one [] = Err []
at_least_one (x ∷ xs) = Ok (x ∷ xs)

abbrev pub one_or_more : {A : Type 0} → (List ℕ → Option A) → List (List ℕ) → Read (List A)
one_or_more class ws = each_of class ws >>= at_least_one

unfoldable pub group_words : List (List ℕ) → Read (Colour × (ℕ × ℕ) × List (Kind × ℕ))
group_words ws = do
  c ← slot colour_of ws
  n ← slot count_of c.1
  places ← one_or_more place_of n.1
  Ok (c.0, n.0, places)

abbrev pub only_words : List (List ℕ) → Read Only
only_words [] = Ok Any
only_words (w ∷ []) =
    if is (codes "capture") w then Ok Capture else
    (if is (codes "promotion") w then Ok Promotion else Err (w ∷ []))
only_words (w ∷ v ∷ vs) =
    if is (codes "capture") w then Err (v ∷ vs) else
    (if is (codes "promotion") w then Err (v ∷ vs) else Err (w ∷ v ∷ vs))

unfoldable pub forbid_words : List (List ℕ) → Read Forbid
forbid_words ws = do
  c ← slot colour_of ws
  k ← slot kind_of c.1
  after_from ← literal (codes "from") k.1
  a ← slot squares_of after_from
  after_to ← literal (codes "to") a.1
  b ← slot squares_of after_to
  o ← only_words b.1
  Ok (record { colour = c.0; kind = k.0; from = a.0; to = b.0; only = o })

-- the word `if`, behind a value
abbrev pub then_if : Value → List (List ℕ) → Read (Value × List (List ℕ))
then_if v ws = literal (codes "if") ws >>= λ rest. Ok (v, rest)

abbrev pub lagged : Colour → Option ℕ → List ℕ → List (List ℕ) → Read (Value × List (List ℕ))
lagged c None w ws = Err (w ∷ ws)
lagged c (Some n) w ws = then_if (wins_in c n) ws

-- what follows the word `wins`: `if`, or a lag and `if`
abbrev pub after_wins : Colour → List (List ℕ) → Read (Value × List (List ℕ))
after_wins c [] = Err []
after_wins c (w ∷ ws) = if is (codes "if") w then Ok (wins c, ws) else lagged c (lag_of w) w ws

-- what follows a colour in a value: `wins` or `holds`, and what ends it
abbrev pub after_colour : Colour → List (List ℕ) → Read (Value × List (List ℕ))
after_colour c [] = Err []
after_colour c (w ∷ ws) =
    if is (codes "wins") w then after_wins c ws else
    (if is (codes "holds") w then then_if (holds c) ws else Err (w ∷ ws))

-- a value and `if`
unfoldable pub value_words : List (List ℕ) → Read (Value × List (List ℕ))
value_words [] = Err []
value_words (w ∷ ws) =
    if is (codes "draw") w then then_if Draw ws else
    (if is (codes "unknown") w then then_if Unknown ws else
    (slot colour_of (w ∷ ws) >>= λ c. after_colour c.0 c.1))

unfoldable pub exit_words : List (List ℕ) → Read (Value × List Condition)
exit_words ws = do
  v ← value_words ws
  conds ← one_or_more cond_of v.1
  Ok (v.0, conds)

-- the place of the first word that does not fit, of n words of which these are left
abbrev pub place : ℕ → List (List ℕ) → RulesCause
place n rest = causes.Word (n - length rest + 1)

abbrev pub read_group : Colour × (ℕ × ℕ) × List (Kind × ℕ) → GroupLine
read_group g = record { colour = g.0; least = g.1.0; most = g.1.1; states = states_of g.2 }

abbrev pub read_exit : Value × List Condition → ExitLine
read_exit e = record { value = e.0; conds = e.1 }

-- the rules with a line of n words, or why it is bad
abbrev pub read_to : {A : Type 0} → (RuleLines → A → Result RuleLines RulesCause) → RuleLines → ℕ →
    Read A → Result RuleLines RulesCause
read_to add r n (Err rest) = Err (place n rest)
read_to add r n (Ok x) = add r x

abbrev pub Refuses : LineError → Result RuleLines RulesCause → Type 0
Refuses refusals.Memory read = Unit {0}
Refuses (refusals.Cause c) read = read ≡ Err c

-- what a function returned is what reading a line gives, unless memory ran out
abbrev pub Reads : Result RuleLines LineError → Result RuleLines RulesCause → Type 0
Reads (Ok r) read = read ≡ Ok r
Reads (Err e) read = Refuses e read
