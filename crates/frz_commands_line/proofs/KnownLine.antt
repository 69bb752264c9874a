-- What is known of a line that was played, by the file that the store tells.
use Rattle.std.proofs.Common.{◌≡◌, refl, sym, subst, ◌∙◌, ℕ, List, ◌++◌, Bool, true, false, Result}
use Rattle.frz_board.specs.declared.man.Colour.{Colour}
use Rattle.frz_board.specs.Boards.{Board}
use Rattle.frz_sets.specs.declared.exit.Value.{Value}
use Rattle.frz_sets.specs.Views.{RuleLines, GroupLine}
use Rattle.frz_exits.specs.Books.{value_by}
use Rattle.frz_index.specs.Members.{Member, Num}
use Rattle.frz_index.proofs.Lemmas.{member_of, of_member}
use Rattle.frz_game.specs.Games.{graph_by}
use Rattle.frz_game.specs.Numbers.{is_member}
use Rattle.frz_table.specs.Opening.{Contents}
use Rattle.frz_answer.specs.World.{Spent}
use Rattle.frz_ways.specs.declared.end.LineEnd.{LineEnd}
use Rattle.frz_ways.specs.declared.end.LineFault.{LineFault}
use Rattle.frz_ways.specs.BestLine.{TellsLine}
use Rattle.frz_ways.specs.Costs.{SpendsAt}
use Rattle.frz_ways.specs.Ends.{told, Finishes}
use Rattle.frz_ways.specs.Lines.{LinePly, EndOfLine, IsLine}
use Rattle.frz_ways.specs.Texts.{line_text}
use Rattle.frz_commands_line.specs.LineOf.{code_at, codes_later, IsLineBy, LineComes}

-- that there is a line from each number
abbrev pub LineThere : Type 0
LineThere = (rules : RuleLines) (value : Board → Value) (side : Colour) (codes : ℕ → List ℕ)
    (start : ℕ)
    → (plies : List LinePly) × (end : EndOfLine) × IsLine rules value side codes start plies end

-- the position is in the set, or not
pub by_member : {A : Type 0} (groups : List GroupLine) (p : Board) → (Member groups p → A)
    → ((Member groups p → ⊥) → A) → A
by_member {A} groups p inside outside = by_test (is_member groups p) refl
  where
    by_test : (b : Bool) → is_member groups p ≡ b → A
    by_test true e = inside (member_of groups p e)
    by_test false e =
        outside (λ member. let no : false ≡ true = sym e ∙ of_member groups p member in cc)

pub not_member : (groups : List GroupLine) (p : Board) → (Member groups p → ⊥)
    → is_member groups p ≡ false
not_member groups p none = by_test (is_member groups p) refl
  where
    by_test : (b : Bool) → is_member groups p ≡ b → b ≡ false
    by_test true e = absurd (none (member_of groups p e))
    by_test false e = refl

-- the line of which this text was written, with what was spent on it
pub record LineSo (contents : Contents) (bytes : ℕ → List ℕ) (side : Colour) (p : Board)
    (text : List ℕ)
    (result : Result LineEnd LineFault) (before now : Spent) : Type 0 where
  pub plies : List LinePly
  pub end : EndOfLine
  pub line : IsLineBy contents bytes side p plies end
  pub rest : List ℕ
  pub whole : text ++ rest ≡ line_text side (code_at contents bytes side p) plies (told side end)
  pub finishes : Finishes result (told side end) rest
  pub costs : (numbers : List ℕ) → LineComes bytes side p contents numbers
      → SpendsAt (graph_by contents.rules (value_by contents.rules)) 1 numbers before now

pub line_so : LineThere → (contents : Contents) (bytes : ℕ → List ℕ) (side : Colour) (p : Board)
    (text : List ℕ) (result : Result LineEnd LineFault) (before now : Spent)
    → Member contents.rules.groups p
    → TellsLine contents.rules side (codes_later contents bytes side) p text result before now
    → LineSo contents bytes side p text result before now
line_so there contents bytes side p text result before now inside tells =
    let rules = contents.rules in
    let line = there rules (value_by rules) side (codes_later contents bytes side)
    (Num rules.groups p) in
    let so = tells inside line.0 line.1 line.2 in
    let arena = graph_by rules (value_by rules) in
    record {
      plies = line.0;
      end = line.1;
      line = line.2;
      rest = so.0;
      whole = so.1;
      finishes = so.2;
      costs = λ numbers comes. subst (λ (z : List ℕ). SpendsAt arena 1 z before now)
          (sym comes.are) (tells inside comes.plies comes.end comes.line).3;
    }
