-- What `verdict TABLE FEN BACK ..` answers. No file changes.
use Rattle.std.specs.Prelude.{◌≡◌, ◌==◌, ◌*◌, ◌++◌, ◌∷◌, [], ℕ, List, length, map, sum_by, Option, Some, if◌then◌else◌}
use Rattle.frz_board.specs.Boards.{Board}
use Rattle.frz_game.specs.Numbers.{is_member}
use Rattle.frz_store.specs.Files.{Files}
use Rattle.frz_answer.specs.declared.status.Status.TheVariants.{Success}
use Rattle.frz_answer.specs.Answers.{Answer, says}
use Rattle.frz_answer.specs.Jobs.{Costs}
use Rattle.frz_prelude.specs.Refusals.{refusal_line, status_of}
use Rattle.frz_prelude.specs.TableCauses.{table_line}
use Rattle.frz_prelude.specs.WrongLines.{wrong_line}
use Rattle.frz_prelude.specs.declared.refused.Refused.TheVariants.{Outside}
use Rattle.frz_backs.specs.Links.{Link}
use Rattle.frz_atlas.specs.Behind.{IsRefusedAt, TableBytes, link_of}
use Rattle.frz_atlas.specs.Costs.{bytes_of, calls_of, steps_of}
use Rattle.frz_atlas.specs.declared.fault.BackFault.{BackFault}
use Rattle.frz_atlas.specs.declared.fault.BackFault.TheVariants.{Refused, Wrong}
use Rattle.frz_atlas_prelude.specs.BackLines.{back_line, back_status}
use Rattle.frz_atlas_prelude.specs.Tables.{AreTablesIn}
use Rattle.frz_commands_premises.specs.PremiseLines.{TextLink, behind_lines, links_in, text_link_of}
use Rattle.frz_commands_verdict.specs.Finding.{names_over}
use Rattle.frz_commands_verdict.specs.Texts.{verdict_text}
use Rattle.frz_commands_verdict.specs.Verdicts.{verdict_at}

-- the line that refuses the table at a place, where `own` is the place of TABLE, behind the BACKs
abbrev pub own_line : BackFault → List ℕ
own_line (Refused fault) = table_line fault
own_line (Wrong wrong) = wrong_line wrong

abbrev pub fault_line : (own place : ℕ) → BackFault → List ℕ
fault_line own place fault = if place == own then own_line fault else back_line place fault

-- one of the BACKs is refused, or TABLE behind them; all before it are exact
pub record RefusesTable (table : List ℕ) (behind : List (List ℕ)) (files : Files)
    (a : Answer) : Type 0 where
  pub place : ℕ
  pub fault : BackFault
  pub refused : IsRefusedAt [] (map files (names_over table behind)) place fault
  pub told : a ≡ says (back_status fault) (fault_line (length behind) place fault) files

-- by TABLE and the texts of all tables: a position outside its set is refused
abbrev pub answer_over : (table : Link) → List TextLink → (own : ℕ) → Board → Files → Answer
answer_over table texts own p files =
    if is_member table.rules.groups p
    then says Success
    (verdict_text p (verdict_at (links_in texts) table p) own (behind_lines [] texts)) files
    else says (status_of Outside) (refusal_line Outside) files

-- all tables are exact, each over those before it
pub record FindsTables (table : List ℕ) (behind : List (List ℕ)) (p : Board) (files : Files)
    (a : Answer) : Type 0 where
  pub before : List TableBytes
  pub own : TableBytes
  pub all : AreTablesIn (map files (names_over table behind)) (before ++ own ∷ [])
  pub told : a ≡ answer_over (link_of own) (map text_link_of (before ++ own ∷ []))
      (length behind) p files

pub data IsVerdictAt (table : List ℕ) (behind : List (List ℕ)) (p : Board) (files : Files)
    (a : Answer) : Type 0 where
  refused : RefusesTable table behind files a → IsVerdictAt table behind p files a
  found : FindsTables table behind p files a → IsVerdictAt table behind p files a

-- the costs of `verdict`, by what the BACKs and TABLE hold: checking each of the tables, and one
-- more step for each of their numbers
abbrev pub verdict_costs : List (Option (List ℕ)) → Costs
verdict_costs helds = record {
  steps = Some (2 * sum_by steps_of helds);
  calls = Some (sum_by calls_of helds);
  asked = Some (sum_by bytes_of helds);
}
