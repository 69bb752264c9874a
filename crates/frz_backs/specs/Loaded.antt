-- A loaded table as one of several, each of which may lean on those before it.
use Rattle.std.specs.Prelude.{Bool, true, false}
use Rattle.frz_chain.specs.FileKind.{FileKind}
use Rattle.frz_chain.specs.FileKind.TheVariants.{Plain, Chained, Atlas}
use Rattle.frz_backs.specs.FileOn.{loaded_back}
use Rattle.frz_chain.specs.declared.back.BackTable.{BackTable}
use Rattle.frz_backs.specs.Links.{Link}

-- whether a table of this kind leans on others
abbrev pub leans_as : FileKind → Bool
leans_as Atlas = true
leans_as Plain = false
leans_as Chained = false

-- the table with its rules, which leans on those before it where its kind does
abbrev pub link_loaded : BackTable → Link
link_loaded back = record {
  rules = back.table.rules;
  leans = leans_as back.table.kind;
  back = loaded_back back;
}
