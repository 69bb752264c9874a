-- The values of the exits in the table that is built, by the book that was used.
use Rattle.std.proofs.Common.{Bool, true, false, ◌≡◌, ◌∙◌, List, ap, ap₂, sym}
use Rattle.std.specs.Prelude.{map}
use Rattle.frz_sets.specs.Views.{RuleLines}
use Rattle.frz_exits.specs.Books.{value_by}
use Rattle.frz_atlas.specs.Books.{Back}
use Rattle.frz_atlas.specs.FileOn.{loaded_back}
use Rattle.frz_atlas.specs.BackTable.{BackTable}
use Rattle.frz_atlas.specs.Links.{Link, backs_of, value_over}
use Rattle.frz_atlas.specs.Loaded.{link_loaded}
use Rattle.frz_atlas.specs.Values.{atlas_value}
use Rattle.frz_atlas.proofs.Lemmas.{loaded_backs}
use Rattle.frz_premises.specs.declared.sides.ExitValues.{ExitValues}
use Rattle.frz_premises.specs.Sides.{exits_tell}
use Rattle.frz_commands_premises.specs.PremiseLines.{built_value, leans_over}

module _ (rules used : RuleLines) (backs : List BackTable) (leans : Bool) (values : ExitValues)
    (is : leans ≡ leans_over (map link_loaded backs)) (same_rules : used ≡ rules) where
  abbrev links : List Link
  links = map link_loaded backs

  by_kind : (kind : Bool) → leans ≡ kind →
      values ≡ exits_tell rules (value_over kind rules (backs_of links)) →
      values ≡ exits_tell rules (built_value rules links)
  by_kind kind so told =
      told ∙ ap (λ (b : Bool). exits_tell rules (value_over b rules (backs_of links)))
      (sym so ∙ is)

  -- with tables behind the lines
  pub told_over : (asked : List BackTable) → leans ≡ true → asked ≡ backs →
      values ≡ exits_tell rules (λ q. atlas_value used (map loaded_back asked) q) →
      values ≡ exits_tell rules (built_value rules links)
  told_over asked so same_backs told =
      by_kind true so
      (told ∙ ap₂ (λ (r : RuleLines) (bs : List Back). exits_tell rules (λ q. atlas_value r bs q))
      same_rules (ap (map loaded_back) same_backs ∙ sym (loaded_backs backs)))

  -- by the lines alone
  pub told_alone : leans ≡ false → values ≡ exits_tell rules (λ q. value_by used q) →
      values ≡ exits_tell rules (built_value rules links)
  told_alone so told =
      by_kind false so
      (told ∙ ap (λ (r : RuleLines). exits_tell rules (λ q. value_by r q)) same_rules)
