-- What stands on a square after men were put on the board, and that men on free squares stay.
use Rattle.std.proofs.Common.{◌≡◌, ◌≢◌, ℕ, ◌<◌, true, Option, None, Some, List, [], ◌∷◌, length, slice_index, refl, ap, sym, ◌∙◌, arith, inl, inr, ◌⊎◌, get_or-set_same, get_or-set_other}
use Rattle.std.specs.Prelude.{◌==◌, ◌&&◌, ◌||◌}
use Rattle.std.specs.List.{slice_get}
use Rattle.std.proofs.lemmas.Bool.{and_from, and_parts, cases_eq, cases_lt, eq-eqb, eqb-true, or_cases, or_right}
use Rattle.std.proofs.Math.ListN.{get_or-eq_default}
use Rattle.frz_board.proofs.Lemmas.{cell-some}
use Rattle.frz_board.specs.Men.{cell_of_man}
use Rattle.frz_board.specs.declared.man.Colour.{Colour}
use Rattle.frz_board.specs.declared.man.Kind.{Kind}
use Rattle.frz_combinations.specs.Selections.{selection_at}
use Rattle.frz_sets.specs.Sets.{has_state, is_state}
use Rattle.frz_sets.specs.Views.{GroupLine}
use Rattle.frz_index.specs.Candidates.{put_group, put_groups, put_man, put_men}
use Rattle.frz_index.specs.FreeSquares.{are_free, are_groups_free, is_free, is_group_free}
use Rattle.frz_index.proofs.Filling.{length-put_man}
use Rattle.frz_index.proofs.RoomForMen.{any_at}
use Rattle.frz_index.proofs.SelectionsByNumber.{among}

-- the man of this cell on the square was put there, as one of these places says
pub record IsPut (c : Colour) (states : List (Kind × ℕ)) (ks : List ℕ) (s x : ℕ) : Type 0 where
  pub place : ℕ
  pub counted : among place ks ≡ true
  pub state : Kind × ℕ
  pub state_is : slice_get states place ≡ Some state
  pub here : state.1 ≡ s
  pub man : x ≡ cell_of_man (record { colour = c; kind = state.0 })

-- the man of this cell on the square was put there, as this one state says
record IsPutOne (c : Colour) (o : Option (Kind × ℕ)) (s x : ℕ) : Type 0 where
  state : Kind × ℕ
  state_is : o ≡ Some state
  here : state.1 ≡ s
  man : x ≡ cell_of_man (record { colour = c; kind = state.0 })

one_put_or_kept : (c : Colour) (o : Option (Kind × ℕ)) (cells : List ℕ) (s : ℕ) →
    (slice_index (put_man c o cells) s ≡ slice_index cells s)
    ⊎ IsPutOne c o s (slice_index (put_man c o cells) s)
one_put_or_kept c None cells s = inl refl
one_put_or_kept c (Some state) cells s =
    let man = cell_of_man (record { colour = c; kind = state.0 }) in
    elim (cases_eq s state.1) [
      | inr other ↦ inl (get_or-set_other cells state.1 s man 0 other)
      | inl same ↦ elim (cases_lt state.1 (length cells)) [
        | inl inside ↦ inr (record {
          state = state;
          state_is = refl;
          here = sym same;
          man = ap (slice_index (put_man c (Some state) cells)) same
              ∙ get_or-set_same cells state.1 man 0 inside;
        })
        | inr past ↦
            let l = length-put_man c (Some state) cells in
            inl (get_or-eq_default (put_man c (Some state) cells) 0 (omega (arith, l, same, past))
            ∙ sym (get_or-eq_default cells 0 (omega (arith, same, past))))
      ]
    ]

pub put_or_kept : (c : Colour) (states : List (Kind × ℕ)) (ks cells : List ℕ) (s : ℕ) →
    (slice_index (put_men c states ks cells) s ≡ slice_index cells s)
    ⊎ IsPut c states ks s (slice_index (put_men c states ks cells) s)
put_or_kept c states [] cells s = inl refl
put_or_kept c states (k ∷ ks) cells s =
    let next = put_man c (slice_get states k) cells in
    elim (put_or_kept c states ks next s) [
      | inr p ↦ inr (record {
        place = p.place;
        counted = or_right (p.place == k) (among p.place ks) p.counted;
        state = p.state;
        state_is = p.state_is;
        here = p.here;
        man = p.man;
      })
      | inl e ↦ elim (one_put_or_kept c (slice_get states k) cells s) [
        | inl kept ↦ inl (e ∙ kept)
        | inr p ↦ inr (record {
          place = k;
          counted = ap (λ b. b || among k ks) (eq-eqb k k refl);
          state = p.state;
          state_is = p.state_is;
          here = p.here;
          man = e ∙ p.man;
        })
      ]
    ]

-- a man that was put stands as a state of the group says
pub put_state : (g : GroupLine) (ks : List ℕ) (s x : ℕ) → IsPut g.colour g.states ks s x →
    is_state x s g ≡ true
put_state g ks s x p =
    any_at (λ (state : Kind × ℕ). cell_of_man (record { colour = g.colour; kind = state.0 })
    == x && state.1 == s) g.states p.place p.state p.state_is
    (and_from _ _ (eq-eqb _ _ (sym p.man)) (eq-eqb p.state.1 s p.here))

pub groups_put_or_kept : (gs : List GroupLine) (ds cells : List ℕ) (s : ℕ) →
    (slice_index (put_groups gs ds cells) s ≡ slice_index cells s)
    ⊎ (has_state gs (slice_index (put_groups gs ds cells) s) s ≡ true)
groups_put_or_kept [] ds cells s = inl refl
groups_put_or_kept (g ∷ gs) [] cells s = inl refl
groups_put_or_kept (g ∷ gs) (d ∷ ds) cells s =
    let ks = selection_at (length g.states) g.least g.most d in
    let x = slice_index (put_groups gs ds (put_group g d cells)) s in
    elim (groups_put_or_kept gs ds (put_group g d cells) s) [
      | inr later ↦ inr (or_right (is_state x s g) (has_state gs x s) later)
      | inl e ↦ elim (put_or_kept g.colour g.states ks cells s) [
        | inl kept ↦ inl (e ∙ kept)
        | inr p ↦
            inr (ap (λ b. b || has_state gs x s)
            (ap (λ y. is_state y s g) e ∙ put_state g ks s (slice_index (put_group g d cells) s) p))
      ]
    ]

-- a man on the board stays where the next one finds his square free
one_keeps : (c : Colour) (o : Option (Kind × ℕ)) (cells : List ℕ) (s : ℕ) →
    is_free o cells ≡ true → slice_index cells s ≢ 0 →
    slice_index (put_man c o cells) s ≡ slice_index cells s
one_keeps c None cells s free some = refl
one_keeps c (Some state) cells s free some =
    get_or-set_other cells state.1 s (cell_of_man (record { colour = c; kind = state.0 })) 0
    (λ same. some (ap (slice_index cells) same ∙ eqb-true (slice_index cells state.1) 0 free))

pub men_keep : (c : Colour) (states : List (Kind × ℕ)) (ks cells : List ℕ) (s : ℕ) →
    are_free c states ks cells ≡ true → slice_index cells s ≢ 0 →
    slice_index (put_men c states ks cells) s ≡ slice_index cells s
men_keep c states [] cells s free some = refl
men_keep c states (k ∷ ks) cells s free some =
    let next = put_man c (slice_get states k) cells in
    let parts = and_parts (is_free (slice_get states k) cells) (are_free c states ks next) free in
    let one = one_keeps c (slice_get states k) cells s parts.0 some in
    men_keep c states ks next s parts.1 (λ none. some (sym one ∙ none)) ∙ one

pub groups_keep : (gs : List GroupLine) (ds cells : List ℕ) (s : ℕ) →
    are_groups_free gs ds cells ≡ true → slice_index cells s ≢ 0 →
    slice_index (put_groups gs ds cells) s ≡ slice_index cells s
groups_keep [] ds cells s free some = refl
groups_keep (g ∷ gs) [] cells s free some = refl
groups_keep (g ∷ gs) (d ∷ ds) cells s free some =
    let ks = selection_at (length g.states) g.least g.most d in
    let next = put_group g d cells in
    let parts = and_parts (is_group_free g d cells) (are_groups_free gs ds next) free in
    let one = men_keep g.colour g.states ks cells s parts.0 some in
    groups_keep gs ds next s parts.1 (λ none. some (sym one ∙ none)) ∙ one

-- a man put on a free square stands there, and stays
pub men_stand : (c : Colour) (states : List (Kind × ℕ)) (ks cells : List ℕ) (k : ℕ)
    (state : Kind × ℕ) → are_free c states ks cells ≡ true → among k ks ≡ true →
    slice_get states k ≡ Some state → state.1 < length cells →
    slice_index (put_men c states ks cells) state.1
    ≡ cell_of_man (record { colour = c; kind = state.0 })
men_stand c states [] cells k state free counted is inside = absurd cc
men_stand c states (j ∷ ks) cells k state free counted is inside =
    let next = put_man c (slice_get states j) cells in
    let man = cell_of_man (record { colour = c; kind = state.0 }) in
    let parts = and_parts (is_free (slice_get states j) cells) (are_free c states ks next) free in
    elim (or_cases (k == j) (among k ks) counted) [
      | inl e ↦
          let at_j : slice_get states j ≡ Some state = ap (slice_get states)
          (sym (eqb-true k j e)) ∙ is in
          let now : slice_index next state.1 ≡ man =
          ap (λ o. slice_index (put_man c o cells) state.1) at_j
          ∙ get_or-set_same cells state.1 man 0 inside in
          let some = cell-some c state.0 in
          men_keep c states ks next state.1 parts.1 (λ none. omega (arith, some, now, none)) ∙ now
      | inr later ↦ men_stand c states ks next k state parts.1 later is
          (let l = length-put_man c (slice_get states j) cells in omega (arith, l, inside))
    ]
