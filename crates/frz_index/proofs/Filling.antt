-- The men of a position, put on an empty board again, give the position.
use Rattle.std.proofs.Common.{◌≡◌, ℕ, zero, suc, ◌<◌, Bool, true, false, ◌&&◌, ◌||◌, cond, Option, None, Some, List, [], ◌∷◌, length, map, slice_index, refl, ap, sym, ◌∙◌, subst, arith, inl, inr, ◌⊎◌, get_or-set_same, get_or-set_other, length-set}
use Rattle.std.specs.Prelude.{◌==◌}
use Rattle.std.specs.List.{slice_get, AllByRecursion}
use Rattle.std.proofs.lemmas.Bool.{eqb-true, eq-eqb, cases_lt, cases_eq, and_parts}
use Rattle.std.proofs.lemmas.List.{get_or-replicate}
use Rattle.std.proofs.lemmas.Grind.{same_number_lists}
use Rattle.std.proofs.lemmas.List.Folds.{Any-from_list_any}
use Rattle.std.proofs.lemmas.Option.{slice_get_read}
use Rattle.std.proofs.Math.ListN.{get_or-eq_default}
use Rattle.frz_board.specs.Boards.{Board}
use Rattle.frz_board.specs.Men.{cell_of_man}
use Rattle.frz_board.specs.declared.man.Colour.{Colour}
use Rattle.frz_board.specs.declared.man.Kind.{Kind}
use Rattle.frz_combinations.proofs.Lemmas.{places_descend}
use Rattle.frz_combinations.proofs.Lemmas.{selection_at-digit}
use Rattle.frz_combinations.specs.Combinations.{places_below}
use Rattle.frz_combinations.specs.Selections.{selection_at}
use Rattle.frz_index.specs.Candidates.{no_men, put_group, put_groups, put_man, put_men}
use Rattle.frz_index.specs.Members.{Member}
use Rattle.frz_index.specs.Places.{IsWithinCount, digit_of, places, stands}
use Rattle.frz_sets.specs.Sets.{has_state, is_state}
use Rattle.frz_sets.specs.Views.{GroupLine}

-- each cell becomes that of the position, or stays
abbrev pub Fill : Board → List ℕ → List ℕ → Type 0
Fill p old new =
    (q : ℕ) → (slice_index new q ≡ slice_index p.cells q) ⊎ (slice_index new q ≡ slice_index old q)

pub fill_trans : (p : Board) (a b c : List ℕ) → Fill p a b → Fill p b c → Fill p a c
fill_trans p a b c f g q = elim (g q) [
  | inl e ↦ inl e
  | inr e ↦ elim (f q) [ inl d ↦ inl (e ∙ d) | inr d ↦ inr (e ∙ d) ]
]

-- a cell that is already that of the position stays
pub fill_keeps : (p : Board) (a b : List ℕ) → Fill p a b → (q : ℕ) →
    slice_index a q ≡ slice_index p.cells q → slice_index b q ≡ slice_index p.cells q
fill_keeps p a b f q e = elim (f q) [ inl d ↦ d | inr d ↦ d ∙ e ]

pub length-put_man : (c : Colour) (o : Option (Kind × ℕ)) (cells : List ℕ) →
    length (put_man c o cells) ≡ length cells
length-put_man c None cells = refl
length-put_man c (Some state) cells = length-set cells state.1 _

pub length-put_men : (c : Colour) (states : List (Kind × ℕ)) (ks cells : List ℕ) →
    length (put_men c states ks cells) ≡ length cells
length-put_men c states [] cells = refl
length-put_men c states (k ∷ ks) cells =
    length-put_men c states ks _ ∙ length-put_man c (slice_get states k) cells

pub length-put_groups : (gs : List GroupLine) (ds cells : List ℕ) →
    length (put_groups gs ds cells) ≡ length cells
length-put_groups [] ds cells = refl
length-put_groups (g ∷ gs) [] cells = refl
length-put_groups (g ∷ gs) (d ∷ ds) cells =
    length-put_groups gs ds (put_group g d cells)
    ∙ length-put_men g.colour g.states (selection_at (length g.states) g.least g.most d) cells

-- a man that stands in the position is put where it stands
pub put_right : (p : Board) (c : Colour) (state : Kind × ℕ) (cells : List ℕ) →
    stands p c (Some state) ≡ true → state.1 < length cells →
    slice_index (put_man c (Some state) cells) state.1 ≡ slice_index p.cells state.1
put_right p c state cells h k =
    get_or-set_same cells state.1 _ 0 k
    ∙ sym (eqb-true (slice_index p.cells state.1)
    (cell_of_man (record { colour = c; kind = state.0 })) h)

pub put_fills : (p : Board) (c : Colour) (o : Option (Kind × ℕ)) (cells : List ℕ) →
    stands p c o ≡ true → Fill p cells (put_man c o cells)
put_fills p c None cells h = absurd cc
put_fills p c (Some state) cells h =
    λ q.
    elim (cases_eq q state.1) [
      | inl same ↦
          elim (cases_lt state.1 (length cells)) [
            | inl inside ↦
                inl (ap (slice_index (put_man c (Some state) cells)) same
                ∙ put_right p c state cells h inside ∙ ap (slice_index p.cells) (sym same))
            | inr past ↦ inr (get_or-eq_default (put_man c (Some state) cells) 0
                (let l = length-put_man c (Some state) cells in omega arith)
                ∙ sym (get_or-eq_default cells 0 (omega arith)))
          ]
      | inr other ↦ inr (get_or-set_other cells state.1 q _ 0 other)
    ]

-- the states that hold a man
abbrev at : Board → Colour → List (Kind × ℕ) → ℕ → Bool
at p c states k = stands p c (slice_get states k)

pub men_fill : (p : Board) (c : Colour) (states : List (Kind × ℕ)) (n : ℕ) (cells : List ℕ) →
    Fill p cells (put_men c states (places_below (at p c states) n) cells)
men_fill p c states zero cells = λ q. inr refl
men_fill p c states (suc n) cells =
    let fills_either_way : (b : Bool) → at p c states n ≡ b
    → Fill p cells (put_men c states
    (cond b (n ∷ places_below (at p c states) n) (places_below (at p c states) n)) cells) =
    λ b. elim b as (λ b. at p c states n ≡ b
    → Fill p cells (put_men c states
    (cond b (n ∷ places_below (at p c states) n) (places_below (at p c states) n)) cells)) [
      | true ↦
          λ e. fill_trans p cells _ _ (put_fills p c (slice_get states n) cells e)
          (men_fill p c states n _)
      | false ↦ λ e. men_fill p c states n cells
    ] in
    fills_either_way (at p c states n) refl

-- each man that has a state stands where it should
pub men_hit : (p : Board) (c : Colour) (states : List (Kind × ℕ)) (k : ℕ) (state : Kind × ℕ) →
    slice_get states k ≡ Some state → stands p c (Some state) ≡ true → (n : ℕ) → k < n →
    (cells : List ℕ) → state.1 < length cells →
    slice_index (put_men c states (places_below (at p c states) n) cells) state.1
    ≡ slice_index p.cells state.1
men_hit p c states k state is on zero h cells room = absurd (omega arith)
men_hit p c states k state is on (suc n) h cells room =
    let Goal : Bool → Type 0 = λ b. slice_index
    (put_men c states
    (cond b (n ∷ places_below (at p c states) n) (places_below (at p c states) n)) cells)
    state.1 ≡ slice_index p.cells state.1 in
    elim (cases_lt k n) [
      | inl less ↦
          elim (at p c states n) as Goal [
            | true ↦ men_hit p c states k state is on n less (put_man c (slice_get states n) cells)
                (let l = length-put_man c (slice_get states n) cells in omega arith)
            | false ↦ men_hit p c states k state is on n less cells room
          ]
      | inr more ↦
          let here : n ≡ k = omega arith in
          let state_at : slice_get states n ≡ Some state = ap (slice_get states) here ∙ is in
          subst Goal (sym (ap (stands p c) state_at ∙ on))
          (fill_keeps p (put_man c (slice_get states n) cells) _ (men_fill p c states n _) state.1
          (ap (λ o. slice_index (put_man c o cells) state.1) state_at
          ∙ put_right p c state cells on room))
    ]

-- a group's digit puts its men
pub put_group_is : (p : Board) (g : GroupLine) (cells : List ℕ) → IsWithinCount p g →
    put_group g (digit_of p g) cells ≡ put_men g.colour g.states (places p g) cells
put_group_is p g cells h =
    ap (λ ks. put_men g.colour g.states ks cells)
    (selection_at-digit (length g.states) g.least g.most (places p g)
    (places_descend (at p g.colour g.states) (length g.states)) h.least h.most)

pub groups_fill : (p : Board) (gs : List GroupLine) (cells : List ℕ) →
    AllByRecursion (IsWithinCount p) gs → Fill p cells (put_groups gs (map (digit_of p) gs) cells)
groups_fill p [] cells h = λ q. inr refl
groups_fill p (g ∷ gs) cells h =
    fill_trans p cells _ _
    (subst (Fill p cells) (sym (put_group_is p g cells h.0))
    (men_fill p g.colour g.states (length g.states) cells)) (groups_fill p gs _ h.1)

group_hits : (p : Board) (g : GroupLine) (s : ℕ) (cells : List ℕ) → IsWithinCount p g →
    s < length cells → is_state (slice_index p.cells s) s g ≡ true →
    slice_index (put_group g (digit_of p g) cells) s ≡ slice_index p.cells s
group_hits p g s cells h room covered =
    let found = Any-from_list_any
    (λ state. cell_of_man (record { colour = g.colour; kind = state.0 }) == slice_index p.cells
    s && state.1 == s) g.states covered in
    let state = found.1 in
    let tests = and_parts
    (cell_of_man (record { colour = g.colour; kind = state.0 }) == slice_index p.cells s)
    (state.1 == s) found.4 in
    let square : state.1 ≡ s = eqb-true state.1 s tests.1 in
    let man = eqb-true (cell_of_man (record { colour = g.colour; kind = state.0 }))
    (slice_index p.cells s) tests.0 in
    let is : slice_get g.states found.0 ≡ Some state = slice_get_read g.states (length g.states)
    found.0 state refl found.2 (sym found.3) in
    let on : stands p g.colour (Some state) ≡ true = eq-eqb (slice_index p.cells state.1)
    (cell_of_man (record { colour = g.colour; kind = state.0 }))
    (ap (slice_index p.cells) square ∙ sym man) in
    ap (λ xs. slice_index xs s) (put_group_is p g cells h)
    ∙ ap (slice_index (put_men g.colour g.states (places p g) cells)) (sym square)
    ∙ men_hit p g.colour g.states found.0 state is on (length g.states) found.2 cells
    (subst (λ n. n < length cells) (sym square) room)
    ∙ ap (slice_index p.cells) square

pub groups_hit : (p : Board) (gs : List GroupLine) (s : ℕ) (cells : List ℕ) →
    AllByRecursion (IsWithinCount p) gs → s < length cells →
    has_state gs (slice_index p.cells s) s ≡ true →
    slice_index (put_groups gs (map (digit_of p) gs) cells) s ≡ slice_index p.cells s
groups_hit p [] s cells h room covered = absurd cc
groups_hit p (g ∷ gs) s cells h room covered =
    let next = put_group g (digit_of p g) cells in
    let hit_here_or_later : (b : Bool) → is_state (slice_index p.cells s) s g ≡ b
    → slice_index (put_groups gs (map (digit_of p) gs) next) s ≡ slice_index p.cells s =
    λ b. elim b as (λ b. is_state (slice_index p.cells s) s g ≡ b
    → slice_index (put_groups gs (map (digit_of p) gs) next) s ≡ slice_index p.cells s) [
      | true ↦
          λ e. fill_keeps p next _ (groups_fill p gs next h.1) s (group_hits p g s cells h.0 room e)
      | false ↦ λ e. groups_hit p gs s next h.1
          (let l = length-put_men g.colour g.states
          (selection_at (length g.states) g.least g.most (digit_of p g)) cells in omega arith)
          (ap (λ b. b || has_state gs (slice_index p.cells s) s) (sym e) ∙ covered)
    ] in
    hit_here_or_later (is_state (slice_index p.cells s) s g) refl

pub length-empty : length no_men ≡ 64
unfolding no_men
length-empty = refl

pub get_or-empty : (s : ℕ) → s < 64 → slice_index no_men s ≡ 0
unfolding no_men
get_or-empty s h = get_or-replicate 64 s 0 0 h

-- the whole board
pub cells_back : (gs : List GroupLine) (p : Board) → Member gs p →
    put_groups gs (map (digit_of p) gs) no_men ≡ p.cells
cells_back gs p m =
    let size : length (put_groups gs (map (digit_of p) gs) no_men) ≡ 64 = length-put_groups gs
    (map (digit_of p) gs) no_men ∙ length-empty in
    same_number_lists (put_groups gs (map (digit_of p) gs) no_men) p.cells
    (size ∙ sym m.valid.fits.size) (λ s h.
    let low : s < 64 = omega arith in
    elim (cases_eq (slice_index p.cells s) 0) [
      | inl none ↦
          elim (groups_fill p gs no_men m.counts s) [
            | inl e ↦ e
            | inr e ↦ e ∙ get_or-empty s low ∙ sym none
          ]
      | inr some ↦ groups_hit p gs s no_men m.counts (let l = length-empty in omega arith)
          (m.men s low some)
    ])
