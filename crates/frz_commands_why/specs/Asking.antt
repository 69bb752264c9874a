-- What `why TABLE FEN SIDE BACK ..` is to do.
use Rattle.std.specs.Prelude.{ℕ, List, [], ◌∷◌, map, true, false}
use Rattle.frz_board.specs.declared.man.Colour.{Colour}
use Rattle.frz_board.specs.Boards.{Board}
use Rattle.frz_fen.specs.Reading.{fen_of}
use Rattle.frz_answer.specs.declared.status.Status.TheVariants.{Success, Wrong, Table, Outside, Missing}
use Rattle.frz_answer.specs.Jobs.{Job, Once, plain, WithinCosts}
use Rattle.frz_prelude.specs.Positions.{on_position}
use Rattle.frz_atlas_prelude.specs.Asked.{AskedNames, asked_words}
use Rattle.frz_commands_line.specs.Sides.{on_side, side_of}
use Rattle.frz_commands_why.specs.Costs.{why_costs}
use Rattle.frz_commands_why.specs.Meaning.{MeansWhy}
use Rattle.frz_commands_why.specs.WhyOf.{IsWhyAt}

-- `why` with these names, no two of which are the same. Its text is written only once all files are
-- loaded, so that no fault of the store or of memory comes behind some of its lines
abbrev pub asking_at : List ℕ → List (List ℕ) → Colour → Board → Job
asking_at table behind side p =
    record (plain (Success ∷ Wrong ∷ Table ∷ Outside ∷ Missing ∷ [])
    (λ files input a. IsWhyAt table behind side p files a)) {
      means = λ files input a. MeansWhy table behind side p files a;
      needs = record { store = true; reads = Once; input = false; memory = true };
      costs = λ files input a.
          WithinCosts (why_costs side p (files table) (map files behind));
    }

-- the side is read first, and then the FEN
abbrev pub asking_named : AskedNames → Job
asking_named names =
    on_side (λ side. on_position (asking_at names.table names.behind side) (fen_of names.fen))
    (side_of names.side)

-- why TABLE FEN SIDE BACK ..
abbrev pub why_words : List (List ℕ) → Job
why_words words = asked_words 0 asking_named words
