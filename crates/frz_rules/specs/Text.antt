-- The rules of a text, or its first bad line with the first cause there.
use Rattle.std.specs.Prelude.{ℕ, ◌+◌, Bool, true, false, not, ◌&&◌, ◌||◌, ◌==◌, nat_le, nat_lt, List, [], ◌∷◌, ◌++◌, length, Option, None, Some, Result, Ok, Err, ◌≡◌, if◌then◌else◌, codes}
use Rattle.frz_board.specs.declared.man.Colour.TheVariants.{White, Black}
use Rattle.frz_combinations.specs.Binomials.{capped}
use Rattle.frz_words.specs.Lines.{lines, numbered}
use Rattle.frz_words.specs.Words.{words}
use Rattle.frz_sets.specs.declared.forbid.Forbid.{Forbid}
use Rattle.frz_rules.specs.declared.fault.RulesCause.{RulesCause}
use Rattle.frz_rules.specs.declared.fault.RulesCause.TheVariants as causes
use Rattle.frz_rules.specs.declared.fault.RulesFault.{RulesFault}
use Rattle.frz_rules.specs.declared.fault.RulesError.{RulesError}
use Rattle.frz_rules.specs.declared.fault.RulesError.TheVariants as errors
use Rattle.frz_sets.specs.declared.limits.TheConstants.{MOST_CONDS, MOST_EXITS, MOST_FORBIDS, MOST_NUMBERS}
use Rattle.frz_rules.specs.declared.fault.TheConstants.{LONGEST_TEXT}
use Rattle.frz_sets.specs.Views.{GroupLine, ExitLine, RuleLines}
use Rattle.frz_rules.specs.Classes.{is}
use Rattle.frz_rules.specs.Lines.{group_of, forbid_of, exit_of}
use Rattle.frz_rules.specs.Grammar.{reach, line_form}
use Rattle.frz_sets.specs.Groups.{has_king_group}
use Rattle.frz_rules.specs.Causes.{cause_of_group}
use Rattle.frz_sets.specs.Sets.{size_of}

-- the cause of a line that has no form: the place of the word behind its longest front that begins
-- a line of some form
abbrev pub unreadable : List (List ℕ) → RulesCause
unreadable line = causes.Word (reach line_form line + 1)

abbrev pub unless : Option RulesCause → RuleLines → Result RuleLines RulesCause
unless None r = Ok r
unless (Some c) r = Err c

abbrev pub add_group : RuleLines → GroupLine → Result RuleLines RulesCause
add_group r g =
    unless (cause_of_group r.groups g)
    (record { groups = r.groups ++ g ∷ []; forbids = r.forbids; exits = r.exits })

abbrev pub add_forbid : RuleLines → Forbid → Result RuleLines RulesCause
add_forbid r f =
    if nat_le MOST_FORBIDS (length r.forbids) then Err causes.TooManyLines
    else Ok (record { groups = r.groups; forbids = r.forbids ++ f ∷ []; exits = r.exits })

abbrev pub add_exit : RuleLines → ExitLine → Result RuleLines RulesCause
add_exit r e =
    if nat_le MOST_EXITS (length r.exits) || nat_lt MOST_CONDS (length e.conds)
    then Err causes.TooManyLines
    else Ok (record { groups = r.groups; forbids = r.forbids; exits = r.exits ++ e ∷ [] })

abbrev pub with_line : {A : Type 0} → (RuleLines → A → Result RuleLines RulesCause) → RuleLines →
    List (List ℕ) → Option A → Result RuleLines RulesCause
with_line add r line None = Err (unreadable line)
with_line add r line (Some x) = add r x

-- a line behind the header, after the lines that gave r
unfoldable pub line_of : RuleLines → List (List ℕ) → Result RuleLines RulesCause
line_of r [] = Ok r
line_of r (w ∷ ws) =
    if is (codes "group") w then with_line add_group r (w ∷ ws) (group_of ws) else
    (if is (codes "forbid") w then with_line add_forbid r (w ∷ ws) (forbid_of ws) else
    (if is (codes "exit") w then with_line add_exit r (w ∷ ws) (exit_of ws) else
    Err causes.UnknownLine))

-- the first word is one of those that a line may begin with
abbrev pub begins_known : List (List ℕ) → Bool
begins_known [] = false
begins_known (w ∷ ws) = is (codes "group") w || (is (codes "forbid") w || is (codes "exit") w)

abbrev pub at_line : ℕ → Result RuleLines RulesCause → Result RuleLines RulesFault
at_line n (Ok r) = Ok r
at_line n (Err c) = Err (record { line = n; cause = c })

-- go on with what was read, or keep the fault
infixl 10 ◌>>=◌
abbrev pub ◌>>=◌ : {A B E : Type 0} → Result A E → (A → Result B E) → Result B E
(Ok x) >>= f = f x
(Err e) >>= f = Err e

-- the lines behind the header in order, each with its number
abbrev pub lines_of : RuleLines → List (ℕ × List (List ℕ)) → Result RuleLines RulesFault
lines_of r [] = Ok r
lines_of r (l ∷ ls) = at_line l.0 (line_of r l.1) >>= λ s. lines_of s ls

abbrev pub begins_hash : List ℕ → Bool
begins_hash [] = false
begins_hash (b ∷ bs) = b == 35

-- a line without words, or whose first word begins with #
abbrev pub is_skipped : List (List ℕ) → Bool
is_skipped [] = true
is_skipped (w ∷ ws) = begins_hash w

-- the lines that count, as words
abbrev pub significant : List (ℕ × List ℕ) → List (ℕ × List (List ℕ))
significant [] = []
significant (l ∷ ls) =
    if is_skipped (words l.1) then significant ls else (l.0, words l.1) ∷ significant ls

abbrev pub no_rules : RuleLines
no_rules = record { groups = []; forbids = []; exits = [] }

abbrev pub is_header : List (List ℕ) → Bool
is_header (a ∷ b ∷ []) = is (codes "freezer") a && is (codes "1") b
is_header _ = false

-- the rules, if nothing is wrong with them as a whole
abbrev pub whole : RuleLines → Result RuleLines RulesFault
whole r =
    if not (has_king_group r.groups White && has_king_group r.groups Black)
    then Err (record { line = 0; cause = causes.KingGroup }) else
    (if nat_lt MOST_NUMBERS (size_of r.groups)
    then Err (record { line = 0; cause = causes.SetTooBig (capped (size_of r.groups)) }) else Ok r)

abbrev pub after_header : List (ℕ × List (List ℕ)) → Result RuleLines RulesFault
after_header [] = Err (record { line = 0; cause = causes.Header })
after_header (l ∷ ls) =
    if is_header l.1 then lines_of no_rules ls >>= whole else
    Err (record { line = l.0; cause = causes.Header })

-- the refusal of a text of more than 65,536 bytes
abbrev pub too_long : Result RuleLines RulesFault
too_long = Err (record { line = 0; cause = causes.TooLong })

unfoldable pub rules_of : List ℕ → Result RuleLines RulesFault
rules_of text =
    if nat_lt LONGEST_TEXT (length text) then too_long
    else after_header (significant (numbered 1 (lines text)))

abbrev pub first_known : List (ℕ × List (List ℕ)) → Bool
first_known [] = false
first_known (l ∷ ls) = begins_known l.1

abbrev pub has_known_line : List (ℕ × List (List ℕ)) → Bool
has_known_line [] = false
has_known_line (l ∷ ls) = is_header l.1 && first_known ls

-- whether memory may run out: only where the text is within its limit, the header is right, and the
-- first line behind it begins with a known word
unfoldable pub may_want_memory : List ℕ → Bool
may_want_memory text =
    nat_le (length text) LONGEST_TEXT && has_known_line (significant (numbered 1 (lines text)))

abbrev pub Fails : RulesError → Result RuleLines RulesFault → Type 0
Fails errors.NoMemory read = Unit {0}
Fails (errors.Bad f) read = read ≡ Err f

-- what the reader answers is what the text gives, unless memory runs out
abbrev pub Answers : Result RuleLines RulesError → Result RuleLines RulesFault → Type 0
Answers (Ok r) read = read ≡ Ok r
Answers (Err e) read = Fails e read
