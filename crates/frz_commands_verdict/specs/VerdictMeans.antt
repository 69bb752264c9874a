-- What the answers of `verdict TABLE FEN BACK ..` mean.
use Rattle.std.specs.Prelude.{◌≡◌, ◌++◌, ◌∷◌, [], ℕ, List, length, map, codes, ⊤}
use Rattle.frz_board.specs.declared.man.Colour.TheVariants.{White, Black}
use Rattle.frz_board.specs.Boards.{Board}
use Rattle.frz_board.specs.Men.{other_of}
use Rattle.frz_index.specs.Members.{Member}
use Rattle.frz_arena.specs.Chess.{ForcesMate, NeverForcesMate}
use Rattle.frz_game.specs.Games.{chess}
use Rattle.frz_store.specs.Files.{Files}
use Rattle.frz_answer.specs.declared.status.Status.{Status}
use Rattle.frz_answer.specs.declared.status.Status.TheVariants as statuses
use Rattle.frz_answer.specs.Answers.{Answer}
use Rattle.frz_atlas.specs.Behind.{AreJudged, TableBytes}
use Rattle.frz_atlas.specs.Held.{all_held}
use Rattle.frz_commands_premises.specs.Believing.{BeliefsHold}
use Rattle.frz_commands_premises.specs.PremiseLines.{TextLink, behind_lines, belief_among, links_in, text_link_of}
use Rattle.frz_commands_premises.specs.PremisesMean.{AllLinesMean}
use Rattle.frz_commands_verdict.specs.declared.verdict.Verdict.{Verdict}
use Rattle.frz_commands_verdict.specs.declared.verdict.Verdict.TheVariants.{MatesWithin, Wins, Draw, DoesNotLose, NotShown}
use Rattle.frz_commands_verdict.specs.Answers.{RefusesTable}
use Rattle.frz_commands_verdict.specs.Finding.{names_over}
use Rattle.frz_commands_verdict.specs.Texts.{verdict_text}

-- the verdict is true in chess
abbrev pub IsTrueVerdict : Verdict → Board → Type 0
IsTrueVerdict (MatesWithin side n) p = ForcesMate chess side n p
IsTrueVerdict (Wins side) p = (n : ℕ) × ForcesMate chess side n p
IsTrueVerdict Draw p = NeverForcesMate chess White p × NeverForcesMate chess Black p
IsTrueVerdict (DoesNotLose side) p = NeverForcesMate chess (other_of side) p
IsTrueVerdict NotShown p = ⊤

-- what a verdict on a position says, where these are the texts and tables of the BACKs and, the
-- last, of TABLE
pub record VerdictMeans (p : Board) (verdict : Verdict) (texts : List TextLink) : Type 0 where
  -- with no line believed, it is true in chess, and nothing is assumed
  pub none_believed : belief_among (behind_lines [] texts) ≡ 0 → IsTrueVerdict verdict p
  -- else it is, where each line that is believed is true at each exit that it decides
  pub believed : BeliefsHold (links_in texts) → IsTrueVerdict verdict p
  -- what is told of each exit line, believed or not, and of the number of its line
  pub lines : AllLinesMean [] texts

-- the BACKs and TABLE hold tables that are exact, each over those before it. The position is in
-- TABLE's set, and the text tells the verdict on it, which of the exit lines are believed, and how
-- many
pub record TellsVerdict (table : List ℕ) (behind : List (List ℕ)) (p : Board) (files : Files)
    (text : List ℕ) : Type 0 where
  pub before : List TableBytes
  pub own : TableBytes
  pub there : map files (names_over table behind) ≡ all_held (before ++ own ∷ [])
  pub judged : AreJudged (before ++ own ∷ [])
  pub inside : Member own.contents.rules.groups p
  pub texts : List TextLink
  pub texts_are : map text_link_of (before ++ own ∷ []) ≡ texts
  pub verdict : Verdict
  pub told : text ≡ verdict_text p verdict (length behind) (behind_lines [] texts)
  pub means : VerdictMeans p verdict texts

-- all tables are exact, and the position is not in TABLE's set
pub record TellsOutside (table : List ℕ) (behind : List (List ℕ)) (p : Board) (files : Files)
    (text : List ℕ) : Type 0 where
  pub before : List TableBytes
  pub own : TableBytes
  pub there : map files (names_over table behind) ≡ all_held (before ++ own ∷ [])
  pub judged : AreJudged (before ++ own ∷ [])
  pub outside : Member own.contents.rules.groups p → ⊥
  pub told : text ≡ codes "outside\n"

-- what an answer says, by its status
abbrev pub MeansStatus : List ℕ → List (List ℕ) → Board → Files → Answer → Status → Type 0
MeansStatus table behind p files a statuses.Success = TellsVerdict table behind p files a.text
MeansStatus table behind p files a statuses.Outside = TellsOutside table behind p files a.text
MeansStatus table behind p files a status = RefusesTable table behind files a

-- what an answer of `verdict` means: it changes no file and takes no input, and each status has its
-- cause
pub record MeansVerdict (table : List ℕ) (behind : List (List ℕ)) (p : Board) (files : Files)
    (a : Answer) : Type 0 where
  pub same : a.files ≡ files
  pub untaken : a.taken ≡ 0
  pub says : MeansStatus table behind p files a a.status
