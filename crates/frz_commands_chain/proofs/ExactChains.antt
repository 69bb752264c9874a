-- A table over a back table of which the headline holds opens with its text and its rules, and keeps
-- the tables by the book of both.
use Rattle.std.proofs.Common.{◌≡◌, ℕ, List}
use Rattle.frz_board.specs.Boards.{Board}
use Rattle.frz_sets.specs.declared.exit.Value.{Value}
use Rattle.frz_sets.specs.Views.{RuleLines}
use Rattle.frz_store.specs.Files.{Files}
use Rattle.frz_table.specs.declared.kind.FileKind.TheVariants.{Chained}
use Rattle.frz_table.specs.Opening.{Contents}
use Rattle.frz_check.specs.KeptTables.{KeepsTables}
use Rattle.frz_check.proofs.Lemmas.{HoldsTables, both_tables, exact_contents, exact_opens, exact_tables}
use Rattle.frz_chain.specs.Books.{chain_value}
use Rattle.frz_prelude.specs.TableFiles.{OpensAsKind}
use Rattle.frz_commands_chain.specs.ChainHeadline.{ChainHeadline}

module _ (table back : List ℕ) (files : Files) (exact : ChainHeadline table back files) where
  abbrev own : Contents
  own = record { text = exact.text; rules = exact.rules }

  abbrev value : RuleLines → Board → Value
  value rules = chain_value rules exact.behind

  holds_tables : HoldsTables Chained value exact.bytes own
  holds_tables = record {
    accepted = exact.accepted;
    layout = exact.layout;
    tables = both_tables (value exact.rules) own exact.bytes exact.white exact.black
        exact.white_is exact.black_is exact.white_table exact.black_table;
  }

  pub chain_opens : OpensAsKind Chained table files exact.bytes own
  chain_opens = record {
    there = exact.there;
    opens = exact_opens Chained value exact.bytes own holds_tables;
  }

  module _ (bytes : List ℕ) (contents : Contents)
      (opens : OpensAsKind Chained table files bytes contents) where
    pub chain_contents : own ≡ contents
    chain_contents =
        exact_contents Chained value exact.bytes own holds_tables table files exact.there bytes
        contents opens.there opens.opens

    pub chain_tables : KeepsTables (chain_value contents.rules exact.behind) contents bytes
    chain_tables =
        exact_tables Chained value exact.bytes own holds_tables table files exact.there bytes
        contents opens.there opens.opens
