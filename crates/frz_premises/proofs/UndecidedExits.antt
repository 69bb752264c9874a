-- What is renounced, and the exit at which nothing is decided.
use Rattle.std.proofs.Common.{◌≡◌, ◌&&◌, Bool, true, false, not, inl, inr, List, [], ◌∷◌, map, Option, Some, refl, sym, subst, ap, ◌∙◌}
use Rattle.std.specs.Prelude.{find}
use Rattle.std.specs.List.{list_all}
use Rattle.std.proofs.lemmas.Bool.{cases_Bool, not-true}
use Rattle.frz_board.specs.declared.man.Colour.{Colour}
use Rattle.frz_board.specs.Boards.{Board}
use Rattle.frz_board.specs.Men.{other_of}
use Rattle.frz_sets.specs.declared.exit.Value.{Value}
use Rattle.frz_sets.specs.Views.{RuleLines}
use Rattle.frz_game.specs.ExactTables.{is_decided}
use Rattle.frz_premises.specs.declared.sides.ExitValues.{ExitValues}
use Rattle.frz_premises.specs.declared.sides.Strength.TheVariants.{Believed, Renounced, Undecided, Outcomes, Exact}
use Rattle.frz_premises.specs.Sides.{bad_for, exits_tell, strength_by}
use Rattle.frz_premises.specs.Undecided.{IsUndecided, is_open}
use Rattle.frz_premises.specs.WaysOut.{outside_of}
use Rattle.frz_premises.proofs.Exits.{listed_are_exits}
use Rattle.frz_premises.proofs.Needs.{found_in}

pub renounced_by : (believes renounces : Bool) (values : ExitValues) (side : Colour)
    → strength_by believes renounces values side ≡ Renounced → renounces ≡ true
renounced_by true gives values side h = absurd (cc)
renounced_by false true values side h = refl
renounced_by false false values side h = absurd (by_decided values.decided refl h)
  where
    by_bad : (b : Bool) → bad_for values (other_of side) ≡ b → values.decided ≡ true →
        strength_by false false values side ≡ Renounced → ⊥
    by_bad true b d k = let no : Outcomes ≡ Renounced = rw (d, b) at k in cc
    by_bad false b d k = let no : Exact ≡ Renounced = rw (d, b) at k in cc

    by_decided : (d : Bool) → values.decided ≡ d →
        strength_by false false values side ≡ Renounced → ⊥
    by_decided true d k = by_bad (bad_for values (other_of side)) refl d k
    by_decided false d k = let no : Undecided ≡ Renounced = rw d at k in cc

pub undecided_by : (believes renounces : Bool) (values : ExitValues) (side : Colour)
    → strength_by believes renounces values side ≡ Undecided → values.decided ≡ false
undecided_by true gives values side h = absurd (cc)
undecided_by false true values side h = absurd (cc)
undecided_by false false values side h = by_decided values.decided refl h
  where
    by_bad : (b : Bool) → bad_for values (other_of side) ≡ b → values.decided ≡ true →
        strength_by false false values side ≡ Undecided → ⊥
    by_bad true b d k = let no : Outcomes ≡ Undecided = rw (d, b) at k in cc
    by_bad false b d k = let no : Exact ≡ Undecided = rw (d, b) at k in cc

    by_decided : (d : Bool) → values.decided ≡ d →
        strength_by false false values side ≡ Undecided → values.decided ≡ false
    by_decided true d k = absurd (by_bad (bad_for values (other_of side)) refl d k)
    by_decided false d k = d

-- where not all values decide, there is a first that does not
first_open : (value : Board → Value) (qs : List Board) → list_all is_decided (map value qs) ≡ false
    → (q : Board) × (find (is_open value) qs ≡ Some q)
first_open value [] h = absurd (cc)
first_open value (q ∷ qs) h =
    elim (cases_Bool (is_decided (value q))) [
      | inl decided ↦ (let rest : list_all is_decided (map value qs) ≡ false = rw decided at h in
          let later = first_open value qs rest in
          (later.0, rw decided later.1))
      | inr undecided ↦ (q, rw undecided refl)
    ]

pub undecided_exit : (rules : RuleLines) (value : Board → Value)
    → (exits_tell rules value).decided ≡ false → (q : Board) × IsUndecided rules value q
undecided_exit rules value h =
    let exits = outside_of rules.groups in
    let first = first_open value exits h in
    let found = found_in (is_open value) exits first.0 first.1 in (
      first.0,
      record {
        first = first.1;
        is_exit = listed_are_exits rules value first.0 found.0;
        undecided = not-true (is_decided (value first.0)) found.1;
      },
    )
