-- What the lines of `solve` mean in chess, and what the command is to do.
use Rattle.std.specs.Prelude.{◌≡◌, ℕ, ◌+◌, List, [], ◌∷◌, true, false, Some, None, Ok, Err}
use Rattle.frz_store.specs.Files.{Files}
use Rattle.frz_answer.specs.declared.status.Status.TheVariants.{Success, Rules, Outside, Missing}
use Rattle.frz_answer.specs.declared.status.Status.{Status}
use Rattle.frz_answer.specs.Jobs.{Job, Once, plain, WithinCosts}
use Rattle.frz_answer.specs.Words.{taking, two_words_of}
use Rattle.frz_answer.specs.Answers.{Answer}
use Rattle.frz_board.specs.declared.man.Colour.TheVariants.{White, Black}
use Rattle.frz_board.specs.Boards.{Board}
use Rattle.frz_fen.specs.Reading.{fen_of}
use Rattle.frz_prelude.specs.Causes.{rules_line}
use Rattle.frz_prelude.specs.Positions.{on_position}
use Rattle.frz_prelude.specs.RulesFiles.{asked_of, reads_of}
use Rattle.frz_rules.specs.declared.fault.RulesFault.{RulesFault}
use Rattle.frz_index.specs.Members.{Member}
use Rattle.frz_sets.specs.Views.{RuleLines}
use Rattle.frz_sets.specs.declared.exit.Value.{Value}
use Rattle.frz_rules.specs.Text.{rules_of}
use Rattle.frz_arena.specs.declared.bound.Bound.{Bound}
use Rattle.frz_exits.specs.Books.{value_by}
use Rattle.frz_game.specs.ExactBounds.{IsExactWhereFree}
use Rattle.frz_game.specs.Meaning.{Means, WinsAlone}
use Rattle.frz_game.specs.TextsByMen.{are_true_by_men}
use Rattle.frz_game.specs.Values.{AreTrueExits}
use Rattle.frz_bound_lines.specs.BoundLines.{bounds_text}
use Rattle.frz_commands_ask.specs.Solving.{Solves, IsSolvedAt}

-- the text tells the bounds of both sides at a position of the rules' set, in the game of the rules
-- with these values of exits, and the bounds say of chess what Means states, under the premise that
-- the exits are true
pub record TellsBounds (lines : RuleLines) (value : Board → Value) (p : Board)
    (text : List ℕ) : Type 0 where
  pub white : Bound
  pub black : Bound
  pub told : text ≡ bounds_text white black
  pub bounds : Solves lines value p white black
  pub white_means : Means lines value White p white
  pub black_means : Means lines value Black p black
  pub white_alone : WinsAlone white black
  pub black_alone : WinsAlone black white
  -- where no line forbids a side a move, its bound is exact in chess as MeansExactly says. For
  -- instance, where each way out of the set is drawn by the men, `wins within N` is a mate in
  -- exactly N plies, `none` is a forced loss, and with `holds` neither side can force mate
  pub white_exact : IsExactWhereFree lines value White p white
  pub black_exact : IsExactWhereFree lines value Black p black

-- the rules file is there and accepted, the position is in its set, and the text tells its bounds
pub record TellsSolved (rules : List ℕ) (p : Board) (files : Files) (text : List ℕ) : Type 0 where
  pub source : List ℕ
  pub there : files rules ≡ Some source
  pub lines : RuleLines
  pub accepted : rules_of source ≡ Ok lines
  pub inside : Member lines.groups p
  pub tells : TellsBounds lines (value_by lines) p text
  -- where the exit lines are true by the men (the men that their conditions leave show it), the
  -- exits are true
  pub true_by_men : are_true_by_men lines ≡ true → AreTrueExits lines (value_by lines)

-- the rules file is there and accepted, and the position is not in its set
pub record IsOutside (rules : List ℕ) (p : Board) (files : Files) : Type 0 where
  pub source : List ℕ
  pub there : files rules ≡ Some source
  pub lines : RuleLines
  pub accepted : rules_of source ≡ Ok lines
  pub outside : Member lines.groups p → ⊥

-- the rules file is there, and the text names the first fault in it
pub record TellsFault (rules : List ℕ) (files : Files) (text : List ℕ) : Type 0 where
  pub source : List ℕ
  pub there : files rules ≡ Some source
  pub fault : RulesFault
  pub refused : rules_of source ≡ Err fault
  pub told : text ≡ rules_line fault

-- what an answer says, by its status
abbrev pub MeansStatus : List ℕ → Board → Files → Status → List ℕ → Type 0
MeansStatus rules p files Success text = TellsSolved rules p files text
MeansStatus rules p files Rules text = TellsFault rules files text
MeansStatus rules p files Outside text = IsOutside rules p files
MeansStatus rules p files Missing text = files rules ≡ None
MeansStatus rules p files status text = ⊥

-- what an answer of `solve` means: it changes no file and takes no input, and each status has its
-- cause
pub record MeansSolve (rules : List ℕ) (p : Board) (files : Files) (a : Answer) : Type 0 where
  pub same : a.files ≡ files
  pub untaken : a.taken ≡ 0
  pub says : MeansStatus rules p files a.status a.text

-- `solve` at a position: one `size` and one `read` of the rules file, which is not read where it is
-- missing or too long; the steps have no bound here
abbrev pub solving_at : List ℕ → Board → Job
solving_at rules p = record (plain (Success ∷ Rules ∷ Outside ∷ Missing ∷ [])
    (λ files input a. IsSolvedAt p rules files a)) {
      means = λ files input a. MeansSolve rules p files a;
      needs = record { store = true; reads = Once; input = false; memory = true };
      costs = λ files input a. WithinCosts (record {
        steps = None;
        calls = Some (1 + reads_of (files rules));
        asked = Some (asked_of (files rules));
      });
    }

-- solve RULES FEN
abbrev pub solve_words : List (List ℕ) → Job
solve_words words =
    taking (λ names. on_position (solving_at names.0) (fen_of names.1)) (two_words_of words)
