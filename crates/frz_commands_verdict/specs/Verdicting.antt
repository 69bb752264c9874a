-- What `verdict TABLE FEN BACK ..` is to do.
use Rattle.std.specs.Prelude.{ℕ, List, [], ◌∷◌, map, true, false}
use Rattle.frz_board.specs.Boards.{Board}
use Rattle.frz_fen.specs.Reading.{fen_of}
use Rattle.frz_answer.specs.declared.status.Status.TheVariants.{Success, Wrong, Table, Outside, Missing}
use Rattle.frz_answer.specs.Jobs.{Job, Once, plain, WithinCosts}
use Rattle.frz_prelude.specs.Positions.{on_position}
use Rattle.frz_commands_verdict.specs.Answers.{IsVerdictAt, verdict_costs}
use Rattle.frz_commands_verdict.specs.Finding.{names_over}
use Rattle.frz_commands_verdict.specs.VerdictMeans.{MeansVerdict}
use Rattle.frz_atlas_prelude.specs.Given.{GivenNames, given_words}

-- `verdict` with names no two of which are the same
abbrev pub verdict_on : List ℕ → List (List ℕ) → Board → Job
verdict_on table behind p =
    record (plain (Success ∷ Wrong ∷ Table ∷ Outside ∷ Missing ∷ [])
    (λ files input a. IsVerdictAt table behind p files a)) {
      means = λ files input a. MeansVerdict table behind p files a;
      needs = record { store = true; reads = Once; input = false; memory = true };
      costs = λ files input a.
          WithinCosts (verdict_costs (map files (names_over table behind)));
    }

-- the FEN is read first
abbrev pub verdict_named : GivenNames → Job
verdict_named names = on_position (verdict_on names.table names.behind) (fen_of names.fen)

-- verdict TABLE FEN BACK ..
abbrev pub verdict_words : List (List ℕ) → Job
verdict_words words = given_words verdict_named words
