-- The exit that is told of a believed line is the first that needs belief.
use Rattle.std.proofs.Common.{◌≡◌, ◌<◌, ◌+◌, ℕ, inl, inr, length, arith, Bool, true, false, not, List, [], ◌∷◌, All, get_or, Option, Some, None, refl, sym, subst, ap, ◌∙◌}
use Rattle.std.specs.Prelude.{find}
use Rattle.std.specs.List.{Contains, enumerate_from, list_any, position_from}
use Rattle.std.proofs.lemmas.Bool.{cases_Bool, not-true}
use Rattle.std.proofs.lemmas.List.Elements.{All-map}
use Rattle.frz_board.specs.Boards.{Board}
use Rattle.frz_sets.specs.declared.exit.Value.{Value}
use Rattle.frz_sets.specs.declared.exit.Value.TheVariants.{Unknown}
use Rattle.frz_sets.specs.Views.{ExitLine, RuleLines}
use Rattle.frz_arena.specs.Exits.{IsExit}
use Rattle.frz_arena.proofs.Lemmas.{first_in, later_in}
use Rattle.frz_game.specs.Games.{game_of}
use Rattle.frz_backs.specs.Links.{Link}
use Rattle.frz_premises.specs.declared.basis.Basis.{Basis}
use Rattle.frz_premises.specs.declared.basis.Basis.TheVariants.{AsksNothing, ByMen, ByTable, ByTables, Believed}
use Rattle.frz_exits.specs.Values.{is_unknown}
use Rattle.frz_premises.specs.Bases.{asked_of, bases_of, basis_at, basis_of, by_need, by_tables}
use Rattle.frz_premises.specs.Deciding.{decided_by, decides}
use Rattle.frz_premises.specs.Men.{men_show}
use Rattle.frz_premises.specs.Needs.{IsTellable, NeedsBelief}
use Rattle.frz_premises.specs.Saying.{none_says, says_as_much, says_at_each}
use Rattle.frz_premises.specs.WaysOut.{outside_of}
use Rattle.frz_premises.proofs.Exits.{listed_are_exits}
use Rattle.frz_premises.proofs.InLists.{of_filter}
use Rattle.frz_premises.proofs.MenShow.{exit_valid}
use Rattle.frz_premises.proofs.Resting.{Resting, resting}

pub found_in : {X : Type 0} (test : X → Bool) (xs : List X) (x : X) → find test xs ≡ Some x →
    Contains xs x × (test x ≡ true)
found_in test [] x h = absurd (cc)
found_in test (y ∷ xs) x h =
    elim (cases_Bool (test y)) [
      | inl passes ↦ (let e : Some y ≡ Some x = rw passes at h in
          let same : y ≡ x = cc in
          (subst (λ z. Contains (y ∷ xs) z) same (first_in y xs), sym (ap test same) ∙ passes))
      | inr fails ↦ (let e : find test xs ≡ Some x = rw fails at h in
          let rest = found_in test xs x e in (later_in y xs x rest.0, rest.1))
    ]

need_is : (need : Option Board) (place : Option ℕ) (q : Board) →
    by_need need place ≡ Believed q → need ≡ Some q
need_is (Some first) place q h = let same : first ≡ q = cc in ap Some same
need_is None (Some k) q h = absurd (cc)
need_is None None q h = absurd (cc)

-- the exit is the first that is asked and of which no table says as much
told_need : (links : List Link) (v : Value) (qs : List Board) (q : Board) →
    basis_at links v qs ≡ Believed q →
    (find (none_says links v) (asked_of v qs) ≡ Some q) × (is_unknown v ≡ false)
told_need links v qs q h =
    elim (resting links v qs) [
      | Resting.of_none none is ↦ absurd (let e = sym is ∙ h in cc)
      | Resting.of_unknown unknown is ↦ absurd (let e = sym is ∙ h in cc)
      | Resting.of_men none is ↦ absurd (let e = sym is ∙ h in cc)
      | Resting.of_asked known is ↦ (
        need_is (find (none_says links v) (asked_of v qs))
            (position_from (says_at_each v (asked_of v qs)) 0 links) q (sym is ∙ h),
        known,
      )
    ]

pub believed_needs_belief : (leans : Bool) (rules : RuleLines) (value : Board → Value) (links : List Link) (i : ℕ)
    (line : ExitLine) (q : Board) → basis_of leans rules links i line ≡ Believed q →
    NeedsBelief leans rules value links i line q
believed_needs_belief leans rules value links i line q h =
    let exits = outside_of rules.groups in
    let v = line.value in
    let qs = decided_by leans rules links i exits in
    let told = told_need links v qs q h in
    let found = found_in (none_says links v) (asked_of v qs) q told.0 in
    let asked = of_filter (λ (z : Board). not (men_show v z)) qs q found.0 in
    let kept = of_filter (decides leans rules links i) exits q asked.0 in
    record {
      is_exit = listed_are_exits rules value q kept.0;
      decided = kept.1;
      known = told.1;
      asked = not-true (men_show v q) asked.1;
      none = not-true (list_any (λ link. says_as_much v link q) links) found.1;
    }

-- and the table that is told is one of those that are there
place_is : (need : Option Board) (place : Option ℕ) (k : ℕ) →
    by_need need place ≡ ByTable k → place ≡ Some k
place_is (Some first) place k h = absurd (cc)
place_is None (Some j) k h = let same : j ≡ k = cc in ap Some same
place_is None None k h = absurd (cc)

place_below : {X : Type 0} (test : X → Bool) (n : ℕ) (xs : List X) (k : ℕ) →
    position_from test n xs ≡ Some k → k < n + length xs
place_below test n [] k h = absurd (cc)
place_below test n (x ∷ xs) k h =
    elim (cases_Bool (test x)) [
      | inl passes ↦ (let e : Some n ≡ Some k = rw passes at h in
          let same : n ≡ k = cc in omega arith)
      | inr fails ↦ (let e : position_from test (n + 1) xs ≡ Some k = rw fails at h in
          let below = place_below test (n + 1) xs k e in omega arith)
    ]

told_table : (links : List Link) (v : Value) (qs : List Board) (k : ℕ) →
    basis_at links v qs ≡ ByTable k → k < length links
told_table links v qs k h =
    elim (resting links v qs) [
      | Resting.of_none none is ↦ absurd (let e = sym is ∙ h in cc)
      | Resting.of_unknown unknown is ↦ absurd (let e = sym is ∙ h in cc)
      | Resting.of_men none is ↦ absurd (let e = sym is ∙ h in cc)
      | Resting.of_asked known is ↦ (
          let asked = asked_of v qs in
          let below = place_below (says_at_each v asked) 0 links k
          (place_is (find (none_says links v) asked)
          (position_from (says_at_each v asked) 0 links) k (sym is ∙ h)) in omega arith)
    ]

by_basis : (leans : Bool) (rules : RuleLines) (links : List Link) (i : ℕ) (line : ExitLine) (b : Basis) →
    basis_of leans rules links i line ≡ b → IsTellable (length links) b
by_basis leans rules links i line AsksNothing e = tt
by_basis leans rules links i line ByMen e = tt
by_basis leans rules links i line (ByTable k) e =
    told_table links line.value (decided_by leans rules links i (outside_of rules.groups)) k e
by_basis leans rules links i line ByTables e = tt
by_basis leans rules links i line (Believed q) e =
    exit_valid rules (λ q. Unknown) q
    (believed_needs_belief leans rules (λ q. Unknown) links i line q e).is_exit

pub all_tellable : (leans : Bool) (rules : RuleLines) (links : List Link) (tables : ℕ) → length links ≡ tables →
    All (IsTellable tables) (bases_of leans rules links)
unfolding bases_of
all_tellable leans rules links tables many =
    let f : ℕ × ExitLine → Basis = λ e. basis_of leans rules links e.0 e.1 in
    All-map (IsTellable tables) f (enumerate_from 0 rules.exits)
    (λ k d l. (
    let e = get_or (enumerate_from 0 rules.exits) k d in
    subst (λ (n : ℕ). IsTellable n (f e)) many (by_basis leans rules links e.0 e.1 (f e) refl)))
