-- The line that decides a position gives it its value.
use Rattle.std.proofs.Common.{◌≡◌, ℕ, inl, inr, ◌⊎◌, Bool, true, List, Option, Some, None, ap, ◌∙◌, refl}
use Rattle.std.proofs.lemmas.Bool.{eqb-true, eq-eqb}
use Rattle.frz_board.specs.Boards.{Board}
use Rattle.frz_sets.specs.declared.exit.Value.TheVariants.{Unknown}
use Rattle.frz_sets.specs.Views.{ExitLine, RuleLines}
use Rattle.frz_backs.specs.Lines.{line_over}
use Rattle.frz_backs.specs.Links.{Link, backs_of, own_over}
use Rattle.frz_backs.proofs.Lemmas.{GivesValue, line_gives, no_line_gives}
use Rattle.frz_premises.specs.Deciding.{is_place, decides}

tested_place_is_it : (i : ℕ) (o : Option ℕ) → is_place i o ≡ true → o ≡ Some i
tested_place_is_it i None h = absurd (cc)
tested_place_is_it i (Some k) h = ap Some (eqb-true k i h)

module _ (leans : Bool) (rules : RuleLines) (links : List Link) (q : Board) where
  -- a line that decides a position gives its value
  pub decides_value : (i : ℕ) → decides leans rules links i q ≡ true →
      (line : ExitLine) × GivesValue rules.exits (own_over leans rules (backs_of links) q) i line
  decides_value i h =
      line_gives leans rules (backs_of links) q i
      (tested_place_is_it i (line_over leans rules (backs_of links) q) h)

  -- there is none, and the value is unknown, or some line decides it
  pub first_cases : (own_over leans rules (backs_of links) q ≡ Unknown)
      ⊎ ((i : ℕ) × (line : ExitLine) × (decides leans rules links i q ≡ true)
      × GivesValue rules.exits (own_over leans rules (backs_of links) q) i line)
  first_cases = by_place (line_over leans rules (backs_of links) q) refl
    where
      by_place : (o : Option ℕ) → line_over leans rules (backs_of links) q ≡ o →
          (own_over leans rules (backs_of links) q ≡ Unknown)
          ⊎ ((i : ℕ) × (line : ExitLine) × (decides leans rules links i q ≡ true)
          × GivesValue rules.exits (own_over leans rules (backs_of links) q) i line)
      by_place None e = inl (no_line_gives leans rules (backs_of links) q e)
      by_place (Some k) e =
          let given = line_gives leans rules (backs_of links) q k e in
          inr (k, given.0, ap (is_place k) e ∙ eq-eqb k k refl, given.1)
