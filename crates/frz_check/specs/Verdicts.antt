-- What a check says of two lists of codes: they are the tables, or which is the first wrong entry.
use Rattle.std.specs.Prelude.{◌≡◌, ◌≢◌, ◌<◌, ℕ, List, slice_index}
use Rattle.frz_board.specs.Boards.{Board}
use Rattle.frz_board.specs.declared.man.Colour.{Colour}
use Rattle.frz_board.specs.declared.man.Colour.TheVariants.{White, Black}
use Rattle.frz_sets.specs.declared.exit.Value.{Value}
use Rattle.frz_sets.specs.Sets.{size_of}
use Rattle.frz_sets.specs.Views.{RuleLines}
use Rattle.frz_arena.specs.Arena.{Arena}
use Rattle.frz_arena.specs.LocalCodes.{local_code}
use Rattle.frz_arena.specs.Tables.{IsExact}
use Rattle.frz_game.specs.declared.wrong.Wrong.{Wrong}
use Rattle.frz_game.specs.Bounds.{IsTableOf}
use Rattle.frz_game.specs.Games.{graph_by}
use Rattle.frz_check.specs.declared.verdict.Verdict.{Verdict}
use Rattle.frz_check.specs.declared.verdict.Verdict.TheVariants as verdict

-- the code of the side at the number
abbrev pub kept_code : (Colour → List ℕ) → Colour → ℕ → ℕ
kept_code codes side i = slice_index (codes side) i

-- the local code of the side at the number: what the codes one ply on give
abbrev pub given_code : {M V : Type 0} → Arena M ℕ V → (Colour → List ℕ) → Colour → ℕ → ℕ
given_code arena codes side i = local_code arena side (λ k. kept_code codes side k) i

-- both sides' codes agree with their local codes at the number
abbrev pub AgreeAt : {M V : Type 0} → Arena M ℕ V → (Colour → List ℕ) → ℕ → Type 0
AgreeAt arena codes i = (side : Colour) → kept_code codes side i ≡ given_code arena codes side i

-- this entry differs from its local code, and all before it agree: those of both sides at smaller
-- numbers, and White's before Black's at one number
pub record IsFirstWrong {M V : Type 0} (arena : Arena M ℕ V) (size : ℕ)
    (codes : Colour → List ℕ) (wrong : Wrong) : Type 0 where
  pub inside : wrong.number < size
  pub kept : wrong.kept ≡ kept_code codes wrong.side wrong.number
  pub given : wrong.given ≡ given_code arena codes wrong.side wrong.number
  pub differs : wrong.kept ≢ wrong.given
  pub before : (i : ℕ) → i < wrong.number → AgreeAt arena codes i
  pub white_first : wrong.side ≡ Black →
      kept_code codes White wrong.number ≡ given_code arena codes White wrong.number

-- over an arena of numbers: each code is its local code, or this entry is the first that is wrong
abbrev pub IsVerdictOver : {M V : Type 0} → Arena M ℕ V → ℕ → (Colour → List ℕ) → Verdict → Type 0
IsVerdictOver arena size codes verdict.Exact =
    (side : Colour) → IsExact arena side size (codes side)
IsVerdictOver arena size codes (verdict.Wrong wrong) = IsFirstWrong arena size codes wrong

-- over the game of rules and a book: the codes of each side are
-- its table, or this entry is the first that is wrong
abbrev pub IsVerdict : RuleLines → (Board → Value) → (Colour → List ℕ) → Verdict → Type 0
IsVerdict rules value codes verdict.Exact =
    (side : Colour) → IsTableOf rules value side (codes side)
IsVerdict rules value codes (verdict.Wrong wrong) =
    IsFirstWrong (graph_by rules value) (size_of rules.groups) codes wrong
