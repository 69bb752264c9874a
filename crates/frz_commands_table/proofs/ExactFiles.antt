-- A table of which the headline holds opens with its text and its rules, and keeps the tables.
use Rattle.std.proofs.Common.{◌≡◌, ℕ, List}
use Rattle.frz_exits.specs.Books.{value_by}
use Rattle.frz_store.specs.Files.{Files}
use Rattle.frz_table.specs.declared.kind.FileKind.TheVariants.{Plain}
use Rattle.frz_table.specs.Opening.{Contents}
use Rattle.frz_check.specs.KeptTables.{KeepsTables}
use Rattle.frz_check.proofs.Lemmas.{HoldsTables, both_tables, exact_contents, exact_opens, exact_tables}
use Rattle.frz_prelude.specs.TableFiles.{OpensAs}
use Rattle.frz_commands_table.specs.Headline.{Headline}

module _ (table : List ℕ) (files : Files) (exact : Headline table files) where
  abbrev own : Contents
  own = record { text = exact.text; rules = exact.rules }

  holds_tables : HoldsTables Plain value_by exact.bytes own
  holds_tables = record {
    accepted = exact.accepted;
    layout = exact.layout;
    tables = both_tables (value_by exact.rules) own exact.bytes exact.white exact.black
        exact.white_is exact.black_is exact.white_table exact.black_table;
  }

  pub headline_opens : OpensAs table files exact.bytes own
  headline_opens = record {
    there = exact.there;
    opens = exact_opens Plain value_by exact.bytes own holds_tables;
  }

  module _ (bytes : List ℕ) (contents : Contents) (opens : OpensAs table files bytes contents) where
    pub headline_contents : own ≡ contents
    headline_contents =
        exact_contents Plain value_by exact.bytes own holds_tables table files exact.there bytes
        contents opens.there opens.opens

    pub headline_tables : KeepsTables (value_by contents.rules) contents bytes
    headline_tables =
        exact_tables Plain value_by exact.bytes own holds_tables table files exact.there bytes
        contents opens.there opens.opens
