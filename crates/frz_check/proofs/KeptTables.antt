-- What the codes in a file tell where they are the tables of both sides.
use Rattle.std.proofs.Common.{◌≡◌, sym, subst, ◌∙◌, ℕ, List, Some, Result, Ok}
use Rattle.std.specs.Prelude.{slice_index}
use Rattle.frz_board.specs.Boards.{Board}
use Rattle.frz_board.specs.declared.man.Colour.{Colour}
use Rattle.frz_board.specs.declared.man.Colour.TheVariants.{White, Black}
use Rattle.frz_rules.specs.Text.{rules_of}
use Rattle.frz_sets.specs.declared.exit.Value.{Value}
use Rattle.frz_sets.specs.Sets.{size_of}
use Rattle.frz_sets.specs.Views.{RuleLines}
use Rattle.frz_store.specs.Files.{Files}
use Rattle.frz_game.specs.Members.{Member, Num}
use Rattle.frz_game.specs.Bounds.{IsTableOf}
use Rattle.frz_game.proofs.Lemmas.{bound_means, stored_bound}
use Rattle.frz_table.specs.declared.fault.TableFault.{TableFault}
use Rattle.frz_table.specs.declared.kind.FileKind.{FileKind}
use Rattle.frz_table.specs.Layout.{magic_of}
use Rattle.frz_table.specs.Opening.{Contents, IsOpened, opened, table_format}
use Rattle.frz_table.specs.Tables.{IsTableFile}
use Rattle.frz_table.proofs.Lemmas.{opens_by, read_short}
use Rattle.frz_check.specs.Kept.{kept_codes}
use Rattle.frz_check.specs.KeptTables.{KeepsBound, KeepsTables}

pub bound_kept : (value : Board → Value) (contents : Contents) (bytes : List ℕ)
    → KeepsTables value contents bytes → (side : Colour) (p : Board)
    → Member contents.rules.groups p
    → KeepsBound contents.rules value side p
    (slice_index (kept_codes contents bytes side) (Num contents.rules.groups p))
bound_kept value contents bytes tables side p inside =
    let b = stored_bound contents.rules value side (kept_codes contents bytes side) (tables side) p
    inside in
    record {
      bound = b.0;
      is = b.1;
      of = b.2;
      means = bound_means contents.rules value side p b.0 inside b.2;
    }

-- bytes that open so open in no other way
pub opened_alone : (kind : FileKind) (bytes : List ℕ) (own contents : Contents)
    → IsOpened (table_format kind) bytes own
    → opened (table_format kind) (Some bytes) ≡ Ok contents → own ≡ contents
opened_alone kind bytes own contents is opens =
    let here : ◌≡◌ {A = Result Contents TableFault} (Ok own) (Ok contents) =
    sym (opens_by (table_format kind) bytes own is) ∙ opens in
    cc

-- of two lists that a file keeps, which are the tables
pub both_tables : (value : Board → Value) (contents : Contents) (bytes white black : List ℕ)
    → kept_codes contents bytes White ≡ white → kept_codes contents bytes Black ≡ black
    → IsTableOf contents.rules value White white → IsTableOf contents.rules value Black black
    → KeepsTables value contents bytes
both_tables value contents bytes white black white_is black_is white_table black_table White =
    subst (λ (l : List ℕ). IsTableOf contents.rules value White l) (sym white_is) white_table
both_tables value contents bytes white black white_is black_is white_table black_table Black =
    subst (λ (l : List ℕ). IsTableOf contents.rules value Black l) (sym black_is) black_table

-- a table file of an accepted text, whose two lists are the tables by these values
pub record HoldsTables (kind : FileKind) (value : RuleLines → Board → Value) (bytes : List ℕ)
    (own : Contents) : Type 0 where
  pub accepted : rules_of own.text ≡ Ok own.rules
  pub layout : IsTableFile (magic_of kind) own.text (size_of own.rules.groups) bytes
  pub tables : KeepsTables (value own.rules) own bytes

module _ (kind : FileKind) (value : RuleLines → Board → Value) (bytes : List ℕ) (own : Contents)
    (holds : HoldsTables kind value bytes own) where
  is_opened : IsOpened (table_format kind) bytes own
  is_opened = record {
    file = holds.layout;
    short = read_short own.text own.rules holds.accepted;
    read = holds.accepted;
  }

  pub exact_opens : opened (table_format kind) (Some bytes) ≡ Ok own
  exact_opens = opens_by (table_format kind) bytes own is_opened

  -- what the same name opens with is that text, and keeps those tables
  module _ (table : List ℕ) (files : Files) (there : files table ≡ Some bytes) (kept : List ℕ)
      (contents : Contents) (here : files table ≡ Some kept)
      (opens : opened (table_format kind) (Some kept) ≡ Ok contents) where
    same_bytes : bytes ≡ kept
    same_bytes = let same : Some bytes ≡ Some kept = sym there ∙ here in cc

    pub exact_contents : own ≡ contents
    exact_contents =
        opened_alone kind kept own contents
        (subst (λ (l : List ℕ). IsOpened (table_format kind) l own) same_bytes is_opened) opens

    pub exact_tables : KeepsTables (value contents.rules) contents kept
    exact_tables =
        subst (λ (c : Contents). KeepsTables (value c.rules) c kept) exact_contents
        (subst (λ (l : List ℕ). KeepsTables (value own.rules) own l) same_bytes holds.tables)
