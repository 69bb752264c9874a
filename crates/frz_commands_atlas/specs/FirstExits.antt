-- The open exits of a report, each class with its first position, the most frequent class first.
use Rattle.std.specs.Prelude.{ℕ, ◌-◌, List, ◌++◌, map, flat_map, Result, codes, decimal}
use Rattle.frz_board.specs.declared.man.Colour.{Colour}
use Rattle.frz_board.specs.Boards.{Board}
use Rattle.frz_fen.specs.Writing.{fen_text}
use Rattle.frz_sets.specs.declared.exit.Value.{Value}
use Rattle.frz_sets.specs.Views.{RuleLines}
use Rattle.frz_store.specs.Told.{SinkTold}
use Rattle.frz_report.specs.declared.fault.ReportFault.{ReportFault}
use Rattle.frz_report.specs.declared.fault.Totals.{Totals}
use Rattle.frz_report.specs.Census.{firsts_by, times}
use Rattle.frz_report.specs.Exits.{class_of, positions_of}
use Rattle.frz_report.specs.Reports.{WritesWith, report_with}
use Rattle.frz_commands_atlas.specs.declared.first_exits.FirstExit.{FirstExit}
use Rattle.frz_commands_atlas.specs.declared.first_exits.TheConstants.{MOST_COUNT}
use Rattle.frz_commands_atlas.specs.InOrder.{in_order}

-- a position, and how many of the exits have its class
abbrev pub row_among : (exits : List Board) → Board → FirstExit
row_among exits q = record { position = q; count = times (map class_of exits) (class_of q) }

-- the first position of each class of these exits, as the classes are first met
abbrev pub listed : (exits : List Board) → List FirstExit
listed exits = map (row_among exits) (firsts_by class_of exits)

-- the lower, the more frequent
abbrev pub rarity : FirstExit → ℕ
rarity row = MOST_COUNT - row.count

abbrev pub place_text : Board → List ℕ
place_text q = codes " " ++ (class_of q ++ (codes " " ++ (fen_text q ++ codes "\n")))

-- the line of a class: how many exits have it, its letters, and its first position
abbrev pub first_line : FirstExit → List ℕ
first_line row = codes "exits " ++ decimal row.count ++ place_text row.position

-- the lines of the classes of open exits, the most frequent first, and those of one count as they
-- are first met
abbrev pub firsts_text : RuleLines → (Board → Value) → List ℕ
firsts_text rules value = flat_map first_line (in_order rarity (listed (positions_of rules value)))

-- the report with these lines
abbrev pub first_report_text : RuleLines → (Board → Value) → (Colour → List ℕ) → List ℕ
first_report_text rules value = report_with (firsts_text rules value) rules value

-- it was written as far as the result says
abbrev pub WritesFirsts : RuleLines → (Board → Value) → (Colour → List ℕ)
    → Result Totals ReportFault → SinkTold → SinkTold → Type 0
WritesFirsts rules value = WritesWith (firsts_text rules value) rules value
