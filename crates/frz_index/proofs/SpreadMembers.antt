-- The men of a position of the set, put on an empty board again, all find their squares free.
use Rattle.std.proofs.Common.{◌≡◌, ℕ, zero, suc, ◌<◌, ◌%◌, Bool, true, false, cond, Option, None, Some, List, [], ◌∷◌, length, map, slice_index, refl, ap, sym, ◌∙◌, arith, inl, inr, get_or-set_other}
use Rattle.std.specs.Prelude.{◌==◌, ◌||◌}
use Rattle.std.specs.List.{AllByRecursion, slice_get}
use Rattle.std.proofs.lemmas.Bool.{and_from, eq-eqb, eqb-true, or_right}
use Rattle.std.proofs.lemmas.Nat.{mod-mul-add}
use Rattle.frz_board.specs.Boards.{Board}
use Rattle.frz_board.specs.Men.{cell_of_man}
use Rattle.frz_board.specs.declared.man.Colour.{Colour}
use Rattle.frz_board.specs.declared.man.Kind.{Kind}
use Rattle.frz_combinations.proofs.Lemmas.{digits-value, places_descend, selection_at-digit, value_below}
use Rattle.frz_combinations.specs.Combinations.{places_below}
use Rattle.frz_combinations.specs.MixedRadix.{digits, product, value}
use Rattle.frz_sets.specs.Sets.{has_state, is_state, radix_of}
use Rattle.frz_sets.specs.Sound.{AreStates}
use Rattle.frz_sets.specs.Views.{GroupLine}
use Rattle.frz_index.specs.Candidates.{no_men, put_group, put_man}
use Rattle.frz_index.specs.FreeSquares.{are_free, are_groups_free, is_free, is_group_free, is_spread}
use Rattle.frz_index.specs.Kept.{AreApart}
use Rattle.frz_index.specs.Members.{HasNumber}
use Rattle.frz_index.specs.Places.{IsWithinCount, digit_of, places, stands}
use Rattle.frz_index.specs.TurnStates.{turn_number}
use Rattle.frz_index.proofs.Charting.{state_low}
use Rattle.frz_index.proofs.Covering.{passing}
use Rattle.frz_index.proofs.Filling.{get_or-empty, put_group_is}
use Rattle.frz_index.proofs.OwnSquares.{same_place, stands_state}
use Rattle.frz_index.proofs.PuttingMen.{put_or_kept}
use Rattle.frz_index.proofs.WholeNumbers.{digits_are}

-- each man of the first n places still has his square free
abbrev AreOpen : Board → Colour → List (Kind × ℕ) → ℕ → List ℕ → Type 0
AreOpen p c states n cells =
    (k : ℕ) (state : Kind × ℕ) → k < n → slice_get states k ≡ Some state →
    stands p c (Some state) ≡ true → slice_index cells state.1 ≡ 0

abbrev at : Board → Colour → List (Kind × ℕ) → ℕ → Bool
at p c states k = stands p c (slice_get states k)

-- where a man stands at a place, there is a state
state_there : (p : Board) (c : Colour) (o : Option (Kind × ℕ)) → stands p c o ≡ true →
    (state : Kind × ℕ) × (o ≡ Some state)
state_there p c None h = absurd cc
state_there p c (Some state) h = (state, refl)

-- the others' squares stay free
open_next : (p : Board) (c : Colour) (states : List (Kind × ℕ)) (n : ℕ) (cells : List ℕ)
    (state : Kind × ℕ) → AreStates states → slice_get states n ≡ Some state →
    stands p c (Some state) ≡ true → AreOpen p c states (suc n) cells →
    AreOpen p c states n (put_man c (Some state) cells)
open_next p c states n cells state h is on free_yet k other low at_k stood =
    let man = cell_of_man (record { colour = c; kind = state.0 }) in
    get_or-set_other cells state.1 other.1 man 0
    (λ same.
    let cell : slice_index p.cells state.1 ≡ man = eqb-true (slice_index p.cells state.1) man on in
    let cell_other = eqb-true (slice_index p.cells other.1)
    (cell_of_man (record { colour = c; kind = other.0 })) stood in
    let places : k ≡ n = same_place c states k n other state h at_k is same
    (sym cell_other ∙ ap (slice_index p.cells) same ∙ cell) in
    absurd (omega (arith, places, low)))
    ∙ free_yet k other (omega (arith, low)) at_k stood

men_free : (p : Board) (c : Colour) (states : List (Kind × ℕ)) (n : ℕ) (cells : List ℕ) →
    AreStates states → AreOpen p c states n cells →
    are_free c states (places_below (at p c states) n) cells ≡ true
men_free p c states zero cells h free_yet = refl
men_free p c states (suc n) cells h free_yet =
    let ks = places_below (at p c states) n in
    let free_either_way : (b : Bool) → at p c states n ≡ b
    → are_free c states (cond b (n ∷ ks) ks) cells ≡ true =
    λ b. elim b as (λ b. at p c states n ≡ b → are_free c states (cond b (n ∷ ks) ks) cells
    ≡ true) [
      | true ↦
          λ e. let there = state_there p c (slice_get states n) e in
          let state = there.0 in
          let on = sym (ap (stands p c) there.1) ∙ e in
          and_from (is_free (slice_get states n) cells)
          (are_free c states ks (put_man c (slice_get states n) cells))
          (ap (λ o. is_free o cells) there.1
          ∙ eq-eqb (slice_index cells state.1) 0 (free_yet n state (omega arith) there.1 on))
          (ap (λ o. are_free c states ks (put_man c o cells)) there.1
          ∙ men_free p c states n (put_man c (Some state) cells) h
          (open_next p c states n cells state h there.1 on free_yet))
      | false ↦
          λ e. men_free p c states n cells h
          (λ k state low is on. free_yet k state (omega (arith, low)) is on)
    ] in
    free_either_way (at p c states n) refl

-- each man of these groups still has his square free
abbrev AreAllOpen : Board → List GroupLine → List ℕ → Type 0
AreAllOpen p gs cells =
    (s : ℕ) → s < 64 → has_state gs (slice_index p.cells s) s ≡ true → slice_index cells s ≡ 0

-- the places of the group's digit are its places
places_again : (p : Board) (g : GroupLine) (cells : List ℕ) → IsWithinCount p g →
    AreStates g.states → AreOpen p g.colour g.states (length g.states) cells →
    is_group_free g (digit_of p g) cells ≡ true
places_again p g cells counted h free_yet =
    ap (λ ks. are_free g.colour g.states ks cells)
    (selection_at-digit (length g.states) g.least g.most (places p g)
    (places_descend (at p g.colour g.states) (length g.states)) counted.least counted.most)
    ∙ men_free p g.colour g.states (length g.states) cells h free_yet

-- once a group's men are put, the later groups' men still have theirs
all_open_next : (p : Board) (g : GroupLine) (gs : List GroupLine) (cells : List ℕ) →
    AreApart (g ∷ gs) → IsWithinCount p g → AreAllOpen p (g ∷ gs) cells →
    AreAllOpen p gs (put_group g (digit_of p g) cells)
all_open_next p g gs cells apart counted free_yet s low later =
    let x = slice_index p.cells s in
    ap (λ xs. slice_index xs s) (put_group_is p g cells counted)
    ∙ elim (put_or_kept g.colour g.states (places p g) cells s) [
      | inl kept ↦ kept ∙ free_yet s low (or_right (is_state x s g) (has_state gs x s) later)
      | inr put ↦
          let f = at p g.colour g.states in
          let found = passing f (λ j. put.place == j) (length g.states) put.counted in
          let same : put.place ≡ found.place = eqb-true put.place found.place found.passes in
          let on : stands p g.colour (Some put.state) ≡ true =
          ap (stands p g.colour) (sym put.state_is) ∙ ap f same ∙ found.counted in
          let own = stands_state p g put.place put.state put.state_is
          (eqb-true (slice_index p.cells put.state.1)
          (cell_of_man (record { colour = g.colour; kind = put.state.0 })) on) in
          let here = ap (λ q. is_state (slice_index p.cells q) q g) (sym put.here) ∙ own in
          let no = apart.0.alone x s here in
          absurd cc
    ]

groups_free : (p : Board) (gs : List GroupLine) (cells : List ℕ) → AreApart gs →
    AllByRecursion (IsWithinCount p) gs → AreAllOpen p gs cells →
    are_groups_free gs (map (digit_of p) gs) cells ≡ true
groups_free p [] cells apart counts free_yet = refl
groups_free p (g ∷ gs) cells apart counts free_yet =
    let next = put_group g (digit_of p g) cells in
    and_from (is_group_free g (digit_of p g) cells)
    (are_groups_free gs (map (digit_of p) gs) next)
    (places_again p g cells counts.0 apart.0.states
    (λ k state low is on.
    let square = (state_low 0 g.states k state apart.0.states.increasing is).1 in
    let x = slice_index p.cells state.1 in
    let own = stands_state p g k state is
    (eqb-true x (cell_of_man (record { colour = g.colour; kind = state.0 })) on) in
    free_yet state.1 square (ap (λ b. b || has_state gs x state.1) own)))
    (groups_free p gs next apart.1 counts.1 (all_open_next p g gs cells apart counts.0 free_yet))

-- the men of a board's digits all find their squares free on an empty board
pub digits_free : (p : Board) (gs : List GroupLine) → AreApart gs →
    AllByRecursion (IsWithinCount p) gs → are_groups_free gs (map (digit_of p) gs) no_men ≡ true
digits_free p gs apart counts =
    groups_free p gs no_men apart counts (λ s low has. get_or-empty s low)

-- so each number of a position has men on squares of their own
pub spread : (gs : List GroupLine) (i : ℕ) (p : Board) → AreApart gs → HasNumber gs i p →
    is_spread gs i ≡ true
spread gs i p apart h =
    let bs = map radix_of gs in
    let ds = map (digit_of p) gs in
    let v = value bs ds in
    let fit = digits_are p gs h.member.counts in
    ap (λ n. are_groups_free gs (digits bs (n % product bs)) no_men) (sym h.number)
    ∙ ap (λ r. are_groups_free gs (digits bs r) no_men)
    (mod-mul-add (turn_number gs p.turn p.ep) (product bs) v (value_below bs ds fit))
    ∙ ap (λ xs. are_groups_free gs xs no_men) (digits-value bs ds fit)
    ∙ digits_free p gs apart h.member.counts
