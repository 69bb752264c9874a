-- From codes that were loaded to the file under the table's name.
use Rattle.std.proofs.Common.{◌≡◌, refl, sym, subst, ℕ, ◌+◌, ◌*◌, ◌≤◌, List, Option, Some, Ok, IfSome}
use Rattle.std.specs.Prelude.{slice_index}
use Rattle.frz_board.specs.Boards.{Board}
use Rattle.frz_board.specs.declared.man.Colour.{Colour}
use Rattle.frz_board.specs.declared.man.Colour.TheVariants.{White, Black}
use Rattle.frz_rules.specs.Text.{rules_of}
use Rattle.frz_sets.specs.declared.exit.Value.{Value}
use Rattle.frz_sets.specs.Sets.{size_of}
use Rattle.frz_sets.specs.Views.{RuleLines}
use Rattle.frz_store.specs.Bytes.{HoldsBytes}
use Rattle.frz_store.specs.Files.{Files}
use Rattle.frz_game.specs.Bounds.{IsTableOf}
use Rattle.frz_game.specs.EntryCodes.{of_side}
use Rattle.frz_table.specs.Opening.{contents_of}
use Rattle.frz_table.specs.Possible.{MayKeep}
use Rattle.frz_table.specs.Tables.{Table}
use Rattle.frz_table.proofs.Lemmas.{held_bytes}
use Rattle.frz_check.specs.declared.verdict.Verdict.{Verdict}
use Rattle.frz_check.specs.Kept.{ChecksTable, kept_codes}
use Rattle.frz_check.specs.Verdicts.{IsVerdict}
use Rattle.frz_check.proofs.Lemmas.{TablesExact, file_opens, same_verdict, verdict_on}

-- a verdict by equal rules, on equal lists
pub moved_lists : (r s : RuleLines) (value : Board → Value)
    (white black white_slice black_slice : List ℕ) (v : Verdict)
    → r ≡ s → white_slice ≡ white → black_slice ≡ black
    → IsVerdict r value (λ side. of_side side white_slice black_slice) v
    → IsVerdict s value (λ side. of_side side white black) v
moved_lists r s value white black white_slice black_slice v is white_is black_is h =
    subst (λ (x : RuleLines). IsVerdict x value (λ side. of_side side white black) v) is
    (subst (λ (l : List ℕ). IsVerdict r value (λ side. of_side side white l) v) black_is
    (subst (λ (l : List ℕ). IsVerdict r value (λ side. of_side side l black_slice) v) white_is h))

-- the lists that were loaded are those in a file that the name may hold
pub table_checked : (files : Option Files) (table : Table) (value : Board → Value)
    (white black : List ℕ) (v : Verdict)
    → IfSome files HoldsBytes → TablesExact table.rules value
    → ((side : Colour) (codes : List ℕ) → IsTableOf table.rules value side codes → (i : ℕ)
    → slice_index codes i ≤ 3 + 2 * (size_of table.rules.groups + 1000))
    → rules_of table.text ≡ Ok table.rules → MayKeep files table white black
    → IsVerdict table.rules value (λ side. of_side side white black) v
    → ChecksTable files table value v
table_checked files table value white black v are exact plies read kept h =
    let opens = (file_opens table.kind table table.name kept.bytes files files refl refl refl read
    kept.may kept.file).1 in
    record {
      bytes = kept.bytes;
      may = kept.may;
      file = kept.file;
      told =
          verdict_on table.kind value (contents_of table) kept.bytes v
          (held_bytes files table.name (Some kept.bytes) are kept.may) exact plies read opens
          (same_verdict table.rules value (λ side. of_side side white black)
          (kept_codes (contents_of table) kept.bytes) v kept_side h);
    }
  where
    kept_side : (side : Colour) → of_side side white black
        ≡ kept_codes (contents_of table) kept.bytes side
    kept_side White = sym kept.white_is
    kept_side Black = sym kept.black_is
