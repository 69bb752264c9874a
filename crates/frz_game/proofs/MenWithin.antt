-- A position of a set has no more men of a kind than its groups allow.
use Rattle.std.proofs.Common.{◌≡◌, ◌≢◌, ◌≤◌, ◌<◌, ◌+◌, ℕ, zero, suc, inl, inr, Bool, true, false, not, ◌&&◌, ◌||◌, List, [], ◌∷◌, ◌++◌, refl, sym, subst, ap, ◌∙◌, arith, slice_index}
use Rattle.std.specs.Prelude.{◌==◌, count_by, if◌then◌else◌}
use Rattle.std.specs.List.{Contains, AllByRecursion, list_any, range_with_len}
use Rattle.std.proofs.lemmas.Bool.{eqb-true, eq-eqb, cases_Bool, and_parts, and_from}
use Rattle.std.proofs.lemmas.List.Elements.{Contains-append_left, Contains-append_right}
use Rattle.std.proofs.lemmas.List.Sums.{sum_by-append}
use Rattle.frz_board.specs.declared.man.Colour.{Colour}
use Rattle.frz_board.specs.declared.man.Kind.{Kind}
use Rattle.frz_board.specs.Attacking.{Stands}
use Rattle.frz_board.specs.Boards.{Board, has}
use Rattle.frz_board.specs.Men.{cell_of_man, same_colour}
use Rattle.frz_board.specs.Shapes.{count_of}
use Rattle.frz_board.specs.Squares.{squares}
use Rattle.frz_board.proofs.Lemmas.{cell-some}
use Rattle.frz_fide.proofs.Lemmas.{same_side, own_colour, same_man}
use Rattle.frz_sets.specs.Sets.{has_state, is_state}
use Rattle.frz_sets.specs.Views.{GroupLine}
use Rattle.frz_index.specs.Members.{Member}
use Rattle.frz_index.specs.Places.{IsWithinCount}
use Rattle.frz_arena.proofs.Lemmas.{none_in_empty, in_cases}
use Rattle.frz_game.specs.TextsByMen.{same_kind, most_of}
use Rattle.frz_game.proofs.Elements.{some_in, any_in}
use Rattle.frz_game.proofs.SameKinds.{same_kind_of}
use Rattle.frz_game.proofs.MenCounted.{number, count_cons, count_squares, places_counted}

-- the test without one number
abbrev without : (ℕ → Bool) → ℕ → ℕ → Bool
without t y s = t s && not (s == y)

differ_by_test : (s y : ℕ) → s ≢ y → (s == y) ≡ false
differ_by_test s y n =
    elim (cases_Bool (s == y)) [
      | inl e ↦ absurd (n (eqb-true s y e))
      | inr e ↦ e
    ]

-- without another number the test is the same
and_not : (b c : Bool) → c ≡ false → b ≡ (b && not c)
and_not true c e = sym (ap not e)
and_not false c e = refl

kept_test : (t : ℕ → Bool) (y s : ℕ) → s ≢ y → t s ≡ without t y s
kept_test t y s n = and_not (t s) (s == y) (differ_by_test s y n)

above : (t : ℕ → Bool) (y a n : ℕ) → y < a →
    count_by t (range_with_len a n) ≡ count_by (without t y) (range_with_len a n)
above t y a zero h = refl
above t y a (suc n) h =
    let first = count_cons t a (range_with_len (a + 1) n) in
    let second = count_cons (without t y) a (range_with_len (a + 1) n) in
    let here = ap number (kept_test t y a (λ e. absurd (omega arith))) in
    let rest = above t y (a + 1) n (omega arith) in
    omega (arith, first, second, here, rest)

small : (b : Bool) → number b ≤ 1
small true = omega arith
small false = omega arith

-- a list of numbers without one of them counts at most one less
one_less : (t : ℕ → Bool) (y a n : ℕ) →
    count_by t (range_with_len a n) ≤ suc (count_by (without t y) (range_with_len a n))
one_less t y a zero = omega arith
one_less t y a (suc n) =
    let first = count_cons t a (range_with_len (a + 1) n) in
    let second = count_cons (without t y) a (range_with_len (a + 1) n) in
    elim (cases_Bool (a == y)) [
      | inl e ↦ (
          let at = eqb-true a y e in
          let rest = above t y (a + 1) n (omega arith) in
          let few = small (t a) in
          omega (arith, first, second, rest, few))
      | inr e ↦ (
          let differs : a ≢ y = λ same. (let no = eq-eqb a y same in cc) in
          let here = ap number (kept_test t y a differs) in
          let rest = one_less t y (a + 1) n in
          omega (arith, first, second, here, rest))
    ]

pub none_counted : (t : ℕ → Bool) (a n : ℕ) → ((s : ℕ) → s < a + n → t s ≡ true → ⊥) →
    count_by t (range_with_len a n) ≡ 0
none_counted t a zero none = refl
none_counted t a (suc n) none =
    let first = count_cons t a (range_with_len (a + 1) n) in
    let rest = none_counted t (a + 1) n (λ s h e. none s (omega arith) e) in
    elim (cases_Bool (t a)) [
      | inl e ↦ absurd (none a (omega arith) e)
      | inr e ↦ (let here = ap number e in omega (arith, first, rest, here))
    ]

-- where each number that passes is one of a list, no more pass than pass there
pub covered : {X : Type 0} (f : X → Bool) (at : X → ℕ) (xs : List X) (t : ℕ → Bool) (n : ℕ) →
    ((s : ℕ) → s < n → t s ≡ true → (x : X) × Contains xs x × (f x ≡ true) × (at x ≡ s)) →
    count_by t (range_with_len 0 n) ≤ count_by f xs
covered f at [] t n each =
    let none = none_counted t 0 n (λ s h e. none_in_empty (each s (omega arith) e).0
    (each s (omega arith) e).1) in
    omega (arith, none)
covered f at (y ∷ xs) t n each =
    let more = count_cons f y xs in
    elim (cases_Bool (f y)) [
      | inl e ↦ (
          let here = ap number e in
          let less = one_less t (at y) 0 n in
          let rest = covered f at xs (without t (at y)) n (λ s h w. (
          let both = and_parts (t s) (not (s == at y)) w in
          let x = each s h both.0 in
          elim (in_cases y xs x.0 x.1) [
            | inl same ↦ absurd (let no = eq-eqb s (at y) (sym (ap at same ∙ x.3)) in
                let off = both.1 in cc)
            | inr i ↦ (x.0, i, x.2, x.3)
          ])) in
          omega (arith, more, here, less, rest))
      | inr e ↦ (
          let here = ap number e in
          let rest = covered f at xs t n (λ s h w. (
          let x = each s h w in
          elim (in_cases y xs x.0 x.1) [
            | inl same ↦ absurd (let yes = x.2 in let no = ap f same in cc)
            | inr i ↦ (x.0, i, x.2, x.3)
          ])) in
          omega (arith, more, here, rest))
    ]

-- the group has men of this kind
abbrev group_has : GroupLine → Colour → Kind → Bool
group_has g c k = same_colour g.colour c && list_any (λ state. same_kind state.0 k) g.states

-- the states of the groups that have men of this kind
abbrev states_for : List GroupLine → Colour → Kind → List (Kind × ℕ)
states_for [] c k = []
states_for (g ∷ groups) c k =
    (if group_has g c k then g.states else []) ++ states_for groups c k

module _ (p : Board) (c : Colour) (k : Kind) where
  abbrev stood : Kind × ℕ → Bool
  stood state = has p c state.0 state.1

  -- the men that stand so are at most those of the groups
  few_stand : (groups : List GroupLine) → AllByRecursion (IsWithinCount p) groups →
      count_by stood (states_for groups c k) ≤ most_of groups c k
  few_stand [] all = omega arith
  few_stand (g ∷ groups) all =
      let rest = few_stand groups all.1 in
      elim (cases_Bool (group_has g c k)) [
        | inl e ↦ (
            let both = and_parts (same_colour g.colour c)
            (list_any (λ state. same_kind state.0 k) g.states) e in
            let own = same_side g.colour c both.0 in
            let most = all.0.most in
            let places = places_counted p g in
            let here = ap (λ (d : Colour). count_by (λ (state : Kind × ℕ).
            has p d state.0 state.1) g.states) own in
            let split = sum_by-append (λ (state : Kind × ℕ). number (stood state)) g.states
            (states_for groups c k) in
            rw e (omega (arith, rest, most, places, here, split)))
        | inr e ↦ rw e (omega (arith, rest))
      ]

  -- each man of the kind is one of them
  is_one : (groups : List GroupLine) (s : ℕ) → has p c k s ≡ true →
      has_state groups (cell_of_man (record { colour = c; kind = k })) s ≡ true →
      (state : Kind × ℕ) × Contains (states_for groups c k) state × (stood state ≡ true)
      × (state.1 ≡ s)
  is_one [] s h none = absurd (cc)
  is_one (g ∷ groups) s h some =
      let cell = cell_of_man (record { colour = c; kind = k }) in
      elim (cases_Bool (is_state cell s g)) [
        | inl e ↦ (
            let state = some_in (λ (state : Kind × ℕ).
            cell_of_man (record { colour = g.colour; kind = state.0 }) == cell && state.1 == s)
            g.states e in
            let both = and_parts
            (cell_of_man (record { colour = g.colour; kind = state.0.0 }) == cell)
            (state.0.1 == s) state.2 in
            let man = same_man g.colour c state.0.0 k
            (eqb-true (cell_of_man (record { colour = g.colour; kind = state.0.0 })) cell both.0) in
            let place = eqb-true state.0.1 s both.1 in
            let own : same_colour g.colour c ≡ true =
            subst (λ (d : Colour). same_colour g.colour d ≡ true) man.0 (own_colour g.colour) in
            let has_kind = any_in (λ (st : Kind × ℕ). same_kind st.0 k) g.states state.0 state.1
            (same_kind_of state.0.0 k man.1) in
            let group = and_from (same_colour g.colour c)
            (list_any (λ st. same_kind st.0 k) g.states) own has_kind in
            let listed : Contains (if group_has g c k then g.states else []) state.0 =
            rw group state.1 in
            let stands : stood state.0 ≡ true =
            ap (λ (j : Kind). has p c j state.0.1) man.1 ∙ ap (has p c k) place ∙ h in (
              state.0,
              Contains-append_left (if group_has g c k then g.states else [])
                  (states_for groups c k) state.0 listed,
              stands,
              place,
            ))
        | inr e ↦ (
            let later : has_state groups cell s ≡ true =
            ap (λ b. b || has_state groups cell s) (sym e) ∙ some in
            let w = is_one groups s h later in (
              w.0,
              Contains-append_right (if group_has g c k then g.states else [])
                  (states_for groups c k) w.0 w.1,
              w.2,
              w.3,
            ))
      ]

pub men_within : (groups : List GroupLine) (p : Board) → Member groups p → (c : Colour)
    (k : Kind) → count_of p c k ≤ most_of groups c k
unfolding squares
men_within groups p member c k =
    let cell = cell_of_man (record { colour = c; kind = k }) in
    let counted = count_squares p c k member.valid.fits.size in
    let most = few_stand p c k groups member.counts in
    let each = covered (λ (state : Kind × ℕ). has p c state.0 state.1)
    (λ (state : Kind × ℕ). state.1) (states_for groups c k) (λ s. has p c k s) 64 (λ s ls h. (
    let there : Stands p c k s = eqb-true (slice_index p.cells s) cell h in
    let some : slice_index p.cells s ≢ 0 = λ e. (let n = cell-some c k in omega arith) in
    is_one p c k groups s h (subst (λ x. has_state groups x s ≡ true) there
    (member.men s ls some)))) in
    omega (arith, counted, most, each)
