-- What a walk over the numbers has written and counted so far.
use Rattle.std.specs.Prelude.{◌≡◌, ℕ, List, [], ◌++◌, map, flat_map, Option, Some, None, Result, Ok, Err, Bool, true, false, All}
use Rattle.arrayvec.specs.ArrayString.{ArrayString}
use Rattle.frz_board.specs.declared.man.Colour.{Colour}
use Rattle.frz_board.specs.Boards.{Board}
use Rattle.frz_fide.specs.Valid.{IsValid}
use Rattle.frz_sets.specs.Views.{RuleLines}
use Rattle.frz_store.specs.Told.{SinkTold}
use Rattle.frz_answer.specs.Answers.{IsLines}
use Rattle.frz_answer.specs.Texts.{TookText, FailedWithin}
use Rattle.frz_report.specs.declared.fault.ReportFault.{ReportFault}
use Rattle.frz_report.specs.declared.fault.ReportFault.TheVariants.{Output}
use Rattle.frz_report.specs.Census.{census, firsts_by}
use Rattle.frz_report.specs.Exits.{class_of}
use Rattle.frz_report.specs.Lines.{squeeze_line}
use Rattle.frz_report.specs.Squeezes.{Squeeze, squeezes_below}

-- 1 if it is true, else 0
abbrev pub one_if : Bool → ℕ
one_if true = 1
one_if false = 0

-- the entries of a map, with each key as its letters
abbrev pub lettered : List (ArrayString × ℕ) → List (List ℕ × ℕ)
lettered entries = map (λ e. (e.0.bytes, e.1)) entries

-- the entries are the census of these exits
abbrev pub Counts : List (ArrayString × ℕ) → List (List ℕ) → Type 0
Counts entries exits = lettered entries ≡ census exits

-- these valid positions are the first ones of each class among the exits
pub record IsFirsts (firsts exits : List Board) : Type 0 where
  pub are : firsts ≡ firsts_by class_of exits
  pub valid : All IsValid firsts

-- the entries are the census of these exits, and the positions are the first ones of each class
abbrev pub KeepsFirsts : List (ArrayString × ℕ) → (firsts exits : List Board) → Type 0
KeepsFirsts entries firsts exits = Counts entries (map class_of exits) × IsFirsts firsts exits

-- the line of a squeeze, where there is one
abbrev pub line_of : Option Squeeze → List ℕ
line_of None = []
line_of (Some s) = squeeze_line s

-- 1 if there is a squeeze, else 0
abbrev pub one_of : Option Squeeze → ℕ
one_of None = 0
one_of (Some s) = 1

-- the lines of the squeezes whose first number is below n
abbrev pub lines_below : RuleLines → (Colour → List ℕ) → ℕ → List ℕ
lines_below rules codes n = flat_map squeeze_line (squeezes_below rules.groups codes n)

-- the sink took whole lines, with which this text begins
pub record TookFront (whole : List ℕ) (old new : SinkTold) : Type 0 where
  pub text : List ℕ
  pub rest : List ℕ
  pub lines : IsLines text
  pub took : TookText text old new
  pub begins : text ++ rest ≡ whole

-- the whole text was written, with so many squeezes; or the sink failed within it; or, with another
-- fault, whole lines with which it begins were written
abbrev pub WritesSome : Result ℕ ReportFault → (whole : List ℕ) → (many : ℕ) → SinkTold → SinkTold
    → Type 0
WritesSome (Ok n) whole many old new = (n ≡ many) × TookText whole old new
WritesSome (Err Output) whole many old new = FailedWithin whole old new
WritesSome (Err fault) whole many old new = TookFront whole old new
