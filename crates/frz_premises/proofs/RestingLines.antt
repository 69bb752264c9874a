-- What each word on an exit line says of it.
use Rattle.std.proofs.Common.{Bool, ◌≡◌, ◌⊎◌, ℕ, inl, inr, true, List, Option, Some, None, refl, sym, subst, ap, ◌∙◌}
use Rattle.std.specs.Prelude.{find}
use Rattle.std.specs.List.{Contains, list_any, position_from}
use Rattle.frz_board.specs.Boards.{Board}
use Rattle.frz_sets.specs.declared.exit.Value.{Value}
use Rattle.frz_sets.specs.Views.{ExitLine, RuleLines}
use Rattle.frz_arena.proofs.Lemmas.{none_in_empty}
use Rattle.frz_exits.specs.Books.{value_by}
use Rattle.frz_backs.specs.Links.{Link}
use Rattle.frz_premises.specs.declared.basis.Basis.{Basis}
use Rattle.frz_premises.specs.declared.basis.Basis.TheVariants.{AsksNothing, ByMen, ByTable, ByTables, Believed}
use Rattle.frz_premises.specs.Bases.{asked_of, basis_of, by_need}
use Rattle.frz_premises.specs.Deciding.{decided_by, decides}
use Rattle.frz_premises.specs.Men.{men_show}
use Rattle.frz_premises.specs.RestsOn.{IsDecided, RestsOn}
use Rattle.frz_premises.specs.Saying.{none_says, says_as_much, says_at_each}
use Rattle.frz_premises.specs.WaysOut.{outside_of}
use Rattle.frz_premises.proofs.Exits.{exits_are_listed}
use Rattle.frz_premises.proofs.InLists.{in_filter}
use Rattle.frz_premises.proofs.Needs.{believed_needs_belief}
use Rattle.frz_premises.proofs.Resting.{Resting, none_asked, resting, shown_or_asked, some_says, told_by}

module _ (leans : Bool) (rules : RuleLines) (links : List Link) (i : ℕ) (line : ExitLine) where
  abbrev at : List Board
  at = decided_by leans rules links i (outside_of rules.groups)

  abbrev asked : List Board
  asked = asked_of line.value at

  -- an exit that the line decides is one of those that it was asked of
  there : (q : Board) → IsDecided leans rules links i q → Contains at q
  there q d =
      in_filter (decides leans rules links i) (outside_of rules.groups) q
      (exits_are_listed rules (value_by rules) q d.is_exit) d.decided

  by_place : (need : find (none_says links line.value) asked ≡ None) (place : Option ℕ)
      → position_from (says_at_each line.value asked) 0 links ≡ place
      → RestsOn leans rules links i line (by_need None place)
  by_place need (Some k) e =
      let told = told_by links line.value asked k e in
      RestsOn.by_table k told.link told.there (λ q d.
      elim (shown_or_asked line.value at q (there q d)) [
        | inl shown ↦ inl shown
        | inr is ↦ inr (told.each q is)
      ])
  by_place need None e =
      RestsOn.by_tables (λ q d. elim (shown_or_asked line.value at q (there q d)) [
        | inl shown ↦ inl shown
        | inr is ↦ inr (some_says links line.value asked q need is)
      ])

  by_find : (need : Option Board) → find (none_says links line.value) asked ≡ need → (b : Basis)
      → b ≡ by_need need (position_from (says_at_each line.value asked) 0 links)
      → basis_of leans rules links i line ≡ b → RestsOn leans rules links i line b
  by_find None e b is h =
      subst (λ (x : Basis). RestsOn leans rules links i line x) (sym is)
      (by_place e (position_from (says_at_each line.value asked) 0 links) refl)
  by_find (Some q) e b is h =
      subst (λ (x : Basis). RestsOn leans rules links i line x) (sym is)
      (RestsOn.believed q
      (believed_needs_belief leans rules (value_by rules) links i line q (h ∙ is)))

  pub line_rests : RestsOn leans rules links i line (basis_of leans rules links i line)
  line_rests =
      let b = basis_of leans rules links i line in
      elim (resting links line.value at) [
        | Resting.of_none none is ↦ subst (λ (x : Basis). RestsOn leans rules links i line x) (sym is)
            (RestsOn.asks_nothing (λ q d. absurd (none_in_empty q
            (subst (λ (l : List Board). Contains l q) none (there q d)))))
        | Resting.of_unknown unknown is ↦ subst (λ (x : Basis). RestsOn leans rules links i line x) (sym is)
            (RestsOn.asks_nothing (λ q d. unknown))
        | Resting.of_men none is ↦ subst (λ (x : Basis). RestsOn leans rules links i line x) (sym is)
            (RestsOn.by_men (λ q d. none_asked line.value at q none (there q d)))
        | Resting.of_asked known is ↦ by_find (find (none_says links line.value) asked) refl b is refl
      ]
