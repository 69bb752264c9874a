-- What a line rests on, by cases of the exits that it decides.
use Rattle.std.proofs.Common.{◌≡◌, ◌<◌, ◌+◌, ◌⊎◌, ℕ, zero, suc, inl, inr, Bool, true, false, not, List, [], ◌∷◌, length, Option, Some, None, refl, sym, subst, ap, ◌∙◌, arith}
use Rattle.std.specs.Prelude.{find, slice_get}
use Rattle.std.specs.List.{Contains, list_all, list_any, position_from}
use Rattle.std.proofs.lemmas.Bool.{cases_Bool, and_parts, not-false, not_from_false}
use Rattle.frz_board.specs.Boards.{Board}
use Rattle.frz_sets.specs.declared.exit.Value.{Value}
use Rattle.frz_arena.proofs.Lemmas.{none_in_empty, in_cases}
use Rattle.frz_exits.specs.Values.{is_unknown}
use Rattle.frz_backs.specs.Links.{Link}
use Rattle.frz_premises.specs.declared.basis.Basis.{Basis}
use Rattle.frz_premises.specs.declared.basis.Basis.TheVariants.{AsksNothing, ByMen, ByTable, ByTables, Believed}
use Rattle.frz_premises.specs.Bases.{asked_of, basis_at, by_asked, by_need, by_tables}
use Rattle.frz_premises.specs.Men.{men_show}
use Rattle.frz_premises.specs.Saying.{none_says, says_as_much, says_at_each}
use Rattle.frz_premises.proofs.InLists.{in_filter, none_found}

module _ (links : List Link) (v : Value) (qs : List Board) where
  -- no exit, an unknown value, men that show it at each, or tables that are asked
  pub data Resting (b : Basis) : Type 0 where
    of_none : qs ≡ [] → b ≡ AsksNothing → Resting b
    of_unknown : is_unknown v ≡ true → b ≡ AsksNothing → Resting b
    of_men : asked_of v qs ≡ [] → b ≡ ByMen → Resting b
    of_asked : is_unknown v ≡ false → b ≡ by_tables links v (asked_of v qs) → Resting b

by_list : (links : List Link) (v : Value) (qs asked : List Board) → asked_of v qs ≡ asked →
    is_unknown v ≡ false → (b : Basis) → b ≡ by_asked links v asked → Resting links v qs b
by_list links v qs [] e known b is = Resting.of_men e is
by_list links v qs (first ∷ more) e known b is =
    Resting.of_asked known (is ∙ ap (by_tables links v) (sym e))

pub resting : (links : List Link) (v : Value) (qs : List Board) →
    Resting links v qs (basis_at links v qs)
resting links v [] = Resting.of_none refl refl
resting links v (q ∷ qs) =
    elim (cases_Bool (is_unknown v)) [
      | inl unknown ↦ Resting.of_unknown unknown (rw unknown refl)
      | inr known ↦ by_list links v (q ∷ qs) (asked_of v (q ∷ qs)) refl known
          (basis_at links v (q ∷ qs)) (rw known refl)
    ]

-- at an exit the men show the value, or it is one of those that are asked
pub shown_or_asked : (v : Value) (qs : List Board) (q : Board) → Contains qs q →
    (men_show v q ≡ true) ⊎ Contains (asked_of v qs) q
shown_or_asked v qs q i =
    elim (cases_Bool (men_show v q)) [
      | inl shown ↦ inl shown
      | inr hidden ↦ inr (in_filter (λ z. not (men_show v z)) qs q i
          (not_from_false (men_show v q) hidden))
    ]

pub none_asked : (v : Value) (qs : List Board) (q : Board) → asked_of v qs ≡ [] →
    Contains qs q → men_show v q ≡ true
none_asked v qs q none i =
    elim (shown_or_asked v qs q i) [
      | inl shown ↦ shown
      | inr asked ↦ absurd (none_in_empty q (subst (λ (l : List Board). Contains l q) none asked))
    ]

-- where no exit needs belief, some table says as much at each that is asked
pub some_says : (links : List Link) (v : Value) (asked : List Board) (q : Board) →
    find (none_says links v) asked ≡ None → Contains asked q →
    list_any (λ link. says_as_much v link q) links ≡ true
some_says links v asked q none i =
    not-false (list_any (λ link. says_as_much v link q) links)
    (none_found (none_says links v) asked q none i)

-- the table that is told says as much at each
holds_in : {X : Type 0} (test : X → Bool) (xs : List X) (x : X) → list_all test xs ≡ true →
    Contains xs x → test x ≡ true
holds_in test [] x h i = absurd (none_in_empty x i)
holds_in test (y ∷ xs) x h i =
    let parts = and_parts (test y) (list_all test xs) h in
    elim (in_cases y xs x i) [
      | inl e ↦ sym (ap test e) ∙ parts.0
      | inr j ↦ holds_in test xs x parts.1 j
    ]

found_at : {X : Type 0} (test : X → Bool) (n : ℕ) (xs : List X) (k : ℕ) →
    position_from test n xs ≡ Some k →
    (i : ℕ) × (x : X) × (k ≡ n + i) × (slice_get xs i ≡ Some x) × (test x ≡ true)
found_at test n [] k h = absurd (cc)
found_at test n (x ∷ xs) k h =
    elim (cases_Bool (test x)) [
      | inl passes ↦ (let e : Some n ≡ Some k = rw passes at h in
          let same : n ≡ k = cc in (zero, x, omega arith, refl, passes))
      | inr fails ↦ (let e : position_from test (n + 1) xs ≡ Some k = rw fails at h in
          let rest = found_at test (n + 1) xs k e in
          (suc rest.0, rest.1, (let at = rest.2 in omega arith), rest.3, rest.4))
    ]

pub record TellsAll (links : List Link) (v : Value) (asked : List Board) (k : ℕ) : Type 0 where
  pub link : Link
  pub there : slice_get links k ≡ Some link
  pub each : (q : Board) → Contains asked q → says_as_much v link q ≡ true

pub told_by : (links : List Link) (v : Value) (asked : List Board) (k : ℕ) →
    position_from (says_at_each v asked) 0 links ≡ Some k → TellsAll links v asked k
told_by links v asked k h =
    let found = found_at (says_at_each v asked) 0 links k h in
    let same : found.0 ≡ k = (let at = found.2 in omega arith) in
    record {
      link = found.1;
      there = subst (λ i. slice_get links i ≡ Some found.1) same found.3;
      each = λ q i. holds_in (says_as_much v found.1) asked q found.4 i;
    }
