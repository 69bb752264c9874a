-- A table of which the headline holds opens with its text and its rules, and keeps the
-- tables by its exit lines and by those behind it.
use Rattle.std.proofs.Common.{◌≡◌, sym, subst, ◌∙◌, ℕ, List, None, Some, Ok}
use Rattle.frz_board.specs.Boards.{Board}
use Rattle.frz_sets.specs.declared.exit.Value.{Value}
use Rattle.frz_sets.specs.Views.{RuleLines}
use Rattle.frz_store.specs.Files.{Files}
use Rattle.frz_table.specs.declared.kind.FileKind.{FileKind}
use Rattle.frz_table.specs.Opening.{Contents, opened, table_format}
use Rattle.frz_check.specs.KeptTables.{KeepsTables}
use Rattle.frz_check.proofs.Lemmas as files
use Rattle.frz_check.proofs.Lemmas.{HoldsTables, both_tables}
use Rattle.frz_commands_verdict.specs.Links.{backs_of, value_over}
use Rattle.frz_commands_ask.specs.AskedFiles.{OpensAsked}
use Rattle.frz_commands_atlas.specs.Behind.{kind_of, leans}
use Rattle.frz_commands_atlas.proofs.Lemmas.{as_own, of_own}
use Rattle.frz_commands_atlas.specs.AtlasHeadline.{AtlasHeadline}

module _ (table : List ℕ) (behind : List (List ℕ)) (held : Files)
    (exact : AtlasHeadline table behind held) where
  abbrev own : Contents
  own = record { text = exact.text; rules = exact.rules }

  abbrev value : RuleLines → Board → Value
  value rules = value_over (leans exact.bytes) rules (backs_of exact.links)

  abbrev kind : FileKind
  kind = kind_of exact.bytes

  holds_tables : HoldsTables kind value exact.bytes own
  holds_tables = record {
    accepted = exact.accepted;
    layout = exact.layout;
    tables = both_tables (value exact.rules) own exact.bytes exact.white exact.black
        exact.white_is exact.black_is exact.white_table exact.black_table;
  }

  pub exact_opens : OpensAsked None table held exact.bytes own
  exact_opens = record {
    there = exact.there;
    opens = as_own exact.bytes own (files.exact_opens kind value exact.bytes own holds_tables);
  }

  module _ (bytes : List ℕ) (contents : Contents)
      (opens : OpensAsked None table held bytes contents) where
    same_bytes : bytes ≡ exact.bytes
    same_bytes = let same : Some bytes ≡ Some exact.bytes = sym opens.there ∙ exact.there in cc

    opens_so : opened (table_format kind) (Some bytes) ≡ Ok contents
    opens_so =
        subst (λ (l : List ℕ). opened (table_format (kind_of l)) (Some bytes) ≡ Ok contents) same_bytes
        (of_own bytes contents opens.opens)

    pub exact_contents : own ≡ contents
    exact_contents =
        files.exact_contents kind value exact.bytes own holds_tables table held exact.there bytes
        contents opens.there opens_so

    pub exact_tables : KeepsTables (value contents.rules) contents bytes
    exact_tables =
        files.exact_tables kind value exact.bytes own holds_tables table held exact.there bytes
        contents opens.there opens_so
