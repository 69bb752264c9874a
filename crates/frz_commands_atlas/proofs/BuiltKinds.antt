-- The kind of a file that was built over tables, or over none.
use Rattle.std.proofs.Common.{◌≡◌, sym, subst, ℕ, List, Bool, Ok}
use Rattle.frz_rules.specs.Text.{rules_of}
use Rattle.frz_sets.specs.Views.{RuleLines}
use Rattle.frz_table.specs.Layout.{kind_by, magic_of}
use Rattle.frz_table.specs.Opening.{Contents, table_format}
use Rattle.frz_table.proofs.Lemmas.{belongs}
use Rattle.frz_check.specs.OneFile.{IsOneFile}
use Rattle.frz_check.proofs.Lemmas.{one_file_opens}
use Rattle.frz_atlas.specs.Books.{Back}
use Rattle.frz_atlas.specs.Links.{value_over}
use Rattle.frz_atlas.specs.Behind.{leans}
use Rattle.frz_atlas.specs.FileOver.{IsFileOver, IsOwnFile, leans_on}
use Rattle.frz_atlas.proofs.Lemmas.{leans_by}

module _ (text : List ℕ) (rules : RuleLines) (backs : List Back) (bytes : List ℕ)
    (accepted : rules_of text ≡ Ok rules) (file : IsFileOver text rules backs bytes) where
  pub built_leans : leans bytes ≡ leans_on backs
  built_leans =
      let kind = kind_by (leans_on backs) in
      let contents : Contents = record { text = text; rules = rules } in
      let opens = one_file_opens kind (value_over (leans_on backs) rules backs) contents bytes accepted
      file in
      leans_by (leans_on backs) bytes (belongs (table_format kind) bytes contents opens).file.begins

  pub built_own : IsOwnFile text rules backs bytes
  built_own =
      subst (λ (b : Bool). IsOneFile (magic_of (kind_by b)) text rules (value_over b rules backs) bytes)
      (sym built_leans) file
