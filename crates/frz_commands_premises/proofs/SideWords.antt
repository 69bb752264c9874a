-- What is said of a side is true of its codes.
use Rattle.std.proofs.Common.{◌≡◌, ◌≤◌, ℕ, Bool, true, false, List, arith, inl, inr, nat_lt, refl}
use Rattle.std.proofs.lemmas.Bool.{ltb-false}
use Rattle.frz_board.specs.declared.man.Colour.{Colour}
use Rattle.frz_board.specs.Boards.{Board}
use Rattle.frz_sets.specs.Views.{RuleLines}
use Rattle.frz_sets.specs.declared.exit.Value.{Value}
use Rattle.frz_game.specs.Bounds.{IsTableOf}
use Rattle.frz_game.specs.Values.{AreTrueExits}
use Rattle.frz_game.proofs.Lemmas.{table_means}
use Rattle.frz_atlas.specs.Links.{AreExact, Link}
use Rattle.frz_premises.specs.declared.sides.ExitValues.{ExitValues}
use Rattle.frz_premises.specs.declared.sides.Strength.{Strength}
use Rattle.frz_premises.specs.declared.sides.Strength.TheVariants.{Believed, Renounced, Undecided, Outcomes, Exact}
use Rattle.frz_premises.specs.Sides.{exits_tell, renounces, strength_by}
use Rattle.frz_premises.proofs.Lemmas.{all_true, exact_outcomes, exact_wins, nothing_bad_where_exact, renounced_by, strong_side_is_decided, true_over, undecided_by, undecided_exit}
use Rattle.frz_commands_premises.specs.PremiseLines.{built_value, leans_over, strength_over}
use Rattle.frz_commands_premises.specs.SidesMean.{IsTrueInChess, StrengthMeans}

-- where the exits are true, the codes are
pub true_codes : (rules : RuleLines) (value : Board → Value) (side : Colour) (codes : List ℕ) →
    IsTableOf rules value side codes → AreTrueExits rules value → IsTrueInChess rules side codes
true_codes rules value side codes table exits =
    let means = table_means rules value side codes table in
    record {
      mates = λ p n member e. (means.win p n member e).mate exits;
      wins_safely = λ p n member e. (means.win p n member e).safe exits;
      holds = λ p member e. means.hold p member e exits;
    }

-- nothing is believed where it is not said
not_believing : (believes gives : Bool) (values : ExitValues) (side : Colour) →
    (strength_by believes gives values side ≡ Believed → ⊥) → believes ≡ false
not_believing true gives values side other = absurd (other refl)
not_believing false gives values side other = refl

none_by : (believed : ℕ) → nat_lt 0 believed ≡ false → believed ≡ 0
none_by believed h = let few : believed ≤ 0 = ltb-false 0 believed h in omega (arith, few)

module _ (rules : RuleLines) (links : List Link) (side : Colour) (codes : List ℕ) (believed : ℕ)
    (tables : AreExact links)
    (none : believed ≡ 0 → AreTrueExits rules (built_value rules links))
    (table : IsTableOf rules (built_value rules links) side codes) where
  abbrev value : Board → Value
  value = built_value rules links

  abbrev told : ExitValues
  told = exits_tell rules value

  true_unless : (strength_over rules links believed side ≡ Believed → ⊥) →
      AreTrueExits rules value
  true_unless other =
      none (none_by believed
      (not_believing (nat_lt 0 believed) (renounces rules side) told side other))

  by_word : (word : Strength) → strength_over rules links believed side ≡ word →
      StrengthMeans rules links side codes word
  by_word Believed e = λ behind here.
      true_codes rules value side codes table
      (true_over (leans_over links) rules links tables (all_true links tables behind) here)
  by_word Renounced e = record {
    renounced = renounced_by (nat_lt 0 believed) (renounces rules side) told side e;
    true_codes = true_codes rules value side codes table (true_unless (λ b.
        let no : Renounced ≡ Believed = rw e at b in cc));
  }
  by_word Undecided e =
      let open_exit = undecided_exit rules value
      (undecided_by (nat_lt 0 believed) (renounces rules side) told side e) in
      record {
        exit = open_exit.0;
        undecided = open_exit.1;
        true_codes = true_codes rules value side codes table (true_unless (λ b.
            let no : Undecided ≡ Believed = rw e at b in cc));
      }
  by_word Outcomes e =
      let exits = true_unless (λ b. let no : Outcomes ≡ Believed = rw e at b in cc) in
      let needs = strong_side_is_decided rules believed told side (inl e) in
      exact_outcomes rules value side codes table needs.0 exits needs.1
  by_word Exact e =
      let exits = true_unless (λ b. let no : Exact ≡ Believed = rw e at b in cc) in
      let needs = strong_side_is_decided rules believed told side (inr e) in (
        exact_outcomes rules value side codes table needs.0 exits needs.1,
        λ p n member. exact_wins rules value side codes table needs.0 exits needs.1
            (nothing_bad_where_exact rules believed told side e) p member n,
      )

  pub word_means : StrengthMeans rules links side codes (strength_over rules links believed side)
  word_means = by_word (strength_over rules links believed side) refl
