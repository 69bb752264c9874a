-- A number whose men all find their squares free is the number of its candidate, if that is valid.
use Rattle.std.proofs.Common.{◌≡◌, ◌≢◌, ℕ, ◌+◌, ◌*◌, ◌/◌, ◌%◌, ◌<◌, Bool, true, false, Some, List, [], ◌∷◌, length, map, slice_index, refl, ap, sym, ◌∙◌, arith, inl, inr}
use Rattle.std.specs.Prelude.{◌==◌, ◌&&◌, ◌||◌}
use Rattle.std.specs.List.{AllByRecursion, slice_get}
use Rattle.std.proofs.lemmas.Bool.{and_from, and_parts, eq-eqb, eqb-true, false_from_ne_true}
use Rattle.std.proofs.lemmas.Nat.{div-add-mod', div_below, mod_below}
use Rattle.frz_fide.proofs.Lemmas.{same_tests}
use Rattle.frz_fide.specs.Valid.{IsValid}
use Rattle.frz_board.proofs.Lemmas.{cell-some}
use Rattle.frz_board.specs.Boards.{Board}
use Rattle.frz_board.specs.Men.{cell_of_man}
use Rattle.frz_board.specs.declared.man.Colour.{Colour}
use Rattle.frz_board.specs.declared.man.Kind.{Kind}
use Rattle.frz_board.specs.declared.man.Man.{Man}
use Rattle.frz_combinations.proofs.Lemmas.{digits_fit, value-digits}
use Rattle.frz_combinations.specs.MixedRadix.{AreDigits, digits, product, value}
use Rattle.frz_combinations.specs.Selections.{digit, selection_at}
use Rattle.frz_sets.specs.Groups.{state_number}
use Rattle.frz_sets.specs.Sets.{has_state, is_state, radix_of, size_of, targets}
use Rattle.frz_sets.specs.Sound.{AreCounted, AreStates}
use Rattle.frz_sets.specs.Views.{GroupLine}
use Rattle.frz_index.specs.Candidates.{candidate, no_men, put_group, put_groups}
use Rattle.frz_index.specs.FreeSquares.{are_groups_free, is_group_free, is_spread}
use Rattle.frz_index.specs.Kept.{AreApart, AreNumberable}
use Rattle.frz_index.specs.Members.{HasNumber}
use Rattle.frz_index.specs.Places.{IsWithinCount, digit_of, places, stands}
use Rattle.frz_index.proofs.Charting.{pair_is, some_at, state_low}
use Rattle.frz_index.proofs.Filling.{get_or-empty, length-empty, length-put_men}
use Rattle.frz_index.proofs.GroupSteps.{product_some}
use Rattle.frz_index.proofs.PuttingMen.{groups_keep, groups_put_or_kept, men_stand, put_or_kept, put_state}
use Rattle.frz_index.proofs.RoomForMen.{any_at, any_found, same_man}
use Rattle.frz_index.proofs.SelectionsByNumber.{IsSelection, among, places_are, selected}
use Rattle.frz_index.proofs.Stepping.{state_once}
use Rattle.frz_index.proofs.Turns.{turn_forth}

-- no man on the board has a state of these groups
abbrev Clear : List GroupLine → List ℕ → Type 0
Clear gs cells = (s : ℕ) → s < 64 → has_state gs (slice_index cells s) s ≡ false

or_false : (a b : Bool) → (a || b) ≡ false → (a ≡ false) × (b ≡ false)
or_false true b h = absurd cc
or_false false b h = (refl, h)

-- the empty square is no state
empty_no_state : (gs : List GroupLine) (s : ℕ) → has_state gs 0 s ≡ false
empty_no_state gs s =
    false_from_ne_true (has_state gs 0 s)
    (λ e.
    let group = any_found (is_state 0 s) gs e in
    let g = group.1 in
    let found = any_found (λ (state : Kind × ℕ). cell_of_man
    (record { colour = g.colour; kind = state.0 }) == 0 && state.1 == s) g.states group.3 in
    let state = found.1 in
    let parts = and_parts (cell_of_man (record { colour = g.colour; kind = state.0 }) == 0)
    (state.1 == s) found.3 in
    let none = eqb-true (cell_of_man (record { colour = g.colour; kind = state.0 })) 0 parts.0 in
    let some = cell-some g.colour state.0 in
    omega (arith, none, some))

clear_empty : (gs : List GroupLine) → Clear gs no_men
clear_empty gs s low =
    ap (λ x. has_state gs x s) (get_or-empty s low) ∙ empty_no_state gs s

-- a man that stands as the place says has a state of the group
pub stands_state : (p : Board) (g : GroupLine) (k : ℕ) (state : Kind × ℕ) →
    slice_get g.states k ≡ Some state →
    slice_index p.cells state.1 ≡ cell_of_man (record { colour = g.colour; kind = state.0 }) →
    is_state (slice_index p.cells state.1) state.1 g ≡ true
stands_state p g k state is man =
    any_at (λ (x : Kind × ℕ). cell_of_man (record { colour = g.colour; kind = x.0 })
    == slice_index p.cells state.1 && x.1 == state.1) g.states k state is
    (and_from _ _ (eq-eqb _ _ (sym man)) (eq-eqb state.1 state.1 refl))

-- the men of a group's digit, and then those of the later groups, all find their squares free
record Given (p : Board) (g : GroupLine) (gs : List GroupLine) (d : ℕ) (ds cells : List ℕ) :
    Type 0 where
  cells_are : p.cells ≡ put_groups gs ds (put_group g d cells)
  size : length cells ≡ 64
  apart : AreApart (g ∷ gs)
  free : is_group_free g d cells ≡ true
  free_later : are_groups_free gs ds (put_group g d cells) ≡ true
  clear : Clear (g ∷ gs) cells

-- a man of the group that was put stands at his place
put_stands : (p : Board) (g : GroupLine) (gs : List GroupLine) (d : ℕ) (ds cells : List ℕ) →
    Given p g gs d ds cells → (k : ℕ) → k < length g.states →
    among k (selection_at (length g.states) g.least g.most d) ≡ true →
    stands p g.colour (slice_get g.states k) ≡ true
put_stands p g gs d ds cells h k low counted =
    let ks = selection_at (length g.states) g.least g.most d in
    let found = some_at g.states k low in
    let state = found.0 in
    let man = cell_of_man (record { colour = g.colour; kind = state.0 }) in
    let square = (state_low 0 g.states k state h.apart.0.states.increasing found.1).1 in
    let now = men_stand g.colour g.states ks cells k state h.free counted found.1
    (omega (arith, h.size, square)) in
    let some = cell-some g.colour state.0 in
    let last : slice_index p.cells state.1 ≡ man = ap (λ xs. slice_index xs state.1) h.cells_are
    ∙ groups_keep gs ds (put_group g d cells) state.1 h.free_later
    (λ none. omega (arith, some, now, none)) ∙ now in
    ap (stands p g.colour) found.1 ∙ eq-eqb (slice_index p.cells state.1) man last

-- the same square and cell are one state
pub same_place : (c : Colour) (states : List (Kind × ℕ)) (j k : ℕ) (s t : Kind × ℕ) →
    AreStates states → slice_get states j ≡ Some s → slice_get states k ≡ Some t → s.1 ≡ t.1 →
    cell_of_man (record { colour = c; kind = s.0 })
    ≡ cell_of_man (record { colour = c; kind = t.0 }) → j ≡ k
same_place c states j k s t h ej ek square man =
    let same = same_man (record { colour = c; kind = s.0 })
    (record { colour = c; kind = t.0 }) man in
    let kinds : s.0 ≡ t.0 = ap (λ (m : Man). m.kind) same in
    let one : s ≡ t = pair_is s t.0 t.1 kinds square in
    state_once states j k s t h ej ek (ap state_number one)

-- a man of the group that stands at a place was put there
stands_put : (p : Board) (g : GroupLine) (gs : List GroupLine) (d : ℕ) (ds cells : List ℕ) →
    Given p g gs d ds cells → (k : ℕ) → k < length g.states →
    stands p g.colour (slice_get g.states k) ≡ true →
    among k (selection_at (length g.states) g.least g.most d) ≡ true
stands_put p g gs d ds cells h k low on =
    let ks = selection_at (length g.states) g.least g.most d in
    let next = put_group g d cells in
    let found = some_at g.states k low in
    let state = found.0 in
    let s = state.1 in
    let square = (state_low 0 g.states k state h.apart.0.states.increasing found.1).1 in
    let man = cell_of_man (record { colour = g.colour; kind = state.0 }) in
    let cell : slice_index p.cells s ≡ man = eqb-true (slice_index p.cells s) man
    (sym (ap (stands p g.colour) found.1) ∙ on) in
    let own = stands_state p g k state found.1 cell in
    let last : slice_index p.cells s ≡ slice_index (put_groups gs ds next) s =
    ap (λ xs. slice_index xs s) h.cells_are in
    elim (groups_put_or_kept gs ds next s) [
      | inr later ↦
          let no = h.apart.0.alone (slice_index p.cells s) s own in
          let yes = ap (λ x. has_state gs x s) last ∙ later in
          absurd cc
      | inl e ↦ elim (put_or_kept g.colour g.states ks cells s) [
        | inl kept ↦
            let no = (or_false (is_state (slice_index cells s) s g)
            (has_state gs (slice_index cells s) s) (h.clear s square)).0 in
            let yes = ap (λ x. is_state x s g) (sym (last ∙ e ∙ kept)) ∙ own in
            absurd cc
        | inr put ↦
            let same = same_place g.colour g.states put.place k put.state state h.apart.0.states
            put.state_is
            found.1 put.here (sym put.man ∙ sym (last ∙ e) ∙ cell) in
            ap (λ j. among j ks) (sym same) ∙ put.counted
      ]
    ]

-- the group's places are those of its digit
own_places : (p : Board) (g : GroupLine) (gs : List GroupLine) (d : ℕ) (ds cells : List ℕ) →
    Given p g gs d ds cells →
    IsSelection (length g.states) g.least g.most d
    (selection_at (length g.states) g.least g.most d) →
    places p g ≡ selection_at (length g.states) g.least g.most d
own_places p g gs d ds cells h sel =
    let ks = selection_at (length g.states) g.least g.most d in
    places_are (λ k. stands p g.colour (slice_get g.states k)) (length g.states) ks sel.places
    (λ k low. same_tests (stands p g.colour (slice_get g.states k)) (among k ks)
    (stands_put p g gs d ds cells h k low) (put_stands p g gs d ds cells h k low))

-- no later group has a state on the board once the group's men are put
clear_next : (g : GroupLine) (gs : List GroupLine) (d : ℕ) (cells : List ℕ) →
    AreApart (g ∷ gs) → Clear (g ∷ gs) cells → Clear gs (put_group g d cells)
clear_next g gs d cells apart clear s low =
    let ks = selection_at (length g.states) g.least g.most d in
    elim (put_or_kept g.colour g.states ks cells s) [
      | inl kept ↦
          ap (λ x. has_state gs x s) kept
          ∙ (or_false (is_state (slice_index cells s) s g)
          (has_state gs (slice_index cells s) s) (clear s low)).1
      | inr put ↦
          apart.0.alone (slice_index (put_group g d cells) s) s
          (put_state g ks s (slice_index (put_group g d cells) s) put)
    ]

-- so the digits are those of the groups
filled : (p : Board) (gs : List GroupLine) (ds cells : List ℕ) → p.cells ≡ put_groups gs ds cells →
    length cells ≡ 64 → AreApart gs → AreCounted gs → AreDigits (map radix_of gs) ds →
    are_groups_free gs ds cells ≡ true → Clear gs cells →
    AllByRecursion (IsWithinCount p) gs × (map (digit_of p) gs ≡ ds)
filled p [] ds cells e size apart counted fit free clear = (tt, sym fit)
filled p (g ∷ gs) [] cells e size apart counted fit free clear = absurd fit
filled p (g ∷ gs) (d ∷ ds) cells e size apart counted fit free clear =
    let next = put_group g d cells in
    let parts = and_parts (is_group_free g d cells) (are_groups_free gs ds next) free in
    let sel = selected (length g.states) g.least g.most d counted.0.order fit.0 in
    let own = own_places p g gs d ds cells
    (record {
      cells_are = e;
      size = size;
      apart = apart;
      free = parts.0;
      free_later = parts.1;
      clear = clear;
    }) sel in
    let rest = filled p gs ds next e
    (length-put_men g.colour g.states (selection_at (length g.states) g.least g.most d) cells
    ∙ size) apart.1 counted.1 fit.1 parts.1 (clear_next g gs d cells apart clear) in (
      (
        record {
          least = omega (arith, ap length own, sel.least);
          most = omega (arith, ap length own, sel.most);
        },
        rest.0,
      ),
      ap (λ ks. digit (length g.states) g.least ks ∷ map (digit_of p) gs) own
          ∙ ap (λ x. x ∷ map (digit_of p) gs) sel.number ∙ ap (λ xs. d ∷ xs) rest.1,
    )

-- the men that digits put on an empty board are those of the digits
pub own_digits : (p : Board) (gs : List GroupLine) (ds : List ℕ) → p.cells ≡ put_groups gs ds no_men →
    AreApart gs → AreCounted gs → AreDigits (map radix_of gs) ds →
    are_groups_free gs ds no_men ≡ true →
    AllByRecursion (IsWithinCount p) gs × (map (digit_of p) gs ≡ ds)
own_digits p gs ds e apart counted fit free =
    filled p gs ds no_men e length-empty apart counted fit free (clear_empty gs)

-- each man of the candidate has a state
pub men_put : (gs : List GroupLine) (p : Board) (ds : List ℕ) → p.cells ≡ put_groups gs ds no_men →
    (s : ℕ) → s < 64 → slice_index p.cells s ≢ 0 → has_state gs (slice_index p.cells s) s ≡ true
men_put gs p ds e s low some =
    elim (groups_put_or_kept gs ds no_men s) [
      | inl kept ↦
          absurd (some (ap (λ xs. slice_index xs s) e ∙ kept ∙ get_or-empty s low))
      | inr put ↦ ap (λ xs. has_state gs (slice_index xs s) s) e ∙ put
    ]

-- the candidate of a number below the size whose men stand on squares of their own has the number
-- if it is valid
pub own_number : (gs : List GroupLine) (i : ℕ) → AreNumberable gs → AreApart gs →
    i < size_of gs → is_spread gs i ≡ true → IsValid (candidate gs i) →
    HasNumber gs i (candidate gs i)
own_number gs i s apart below spread valid =
    let w = product (map radix_of gs) in
    let p = candidate gs i in
    let ds = digits (map radix_of gs) (i % w) in
    let some = product_some gs s.groups in
    let low = mod_below i w some in
    let f = own_digits p gs ds refl apart s.groups (digits_fit (map radix_of gs) (i % w) low) spread in
    let turn = turn_forth gs (i / w) (div_below i w (2 + length (targets gs)) some below) in
    record {
      member = record { valid = valid; men = men_put gs p ds refl; counts = f.0 };
      number = ap (λ t. t * w + value (map radix_of gs) (map (digit_of p) gs)) turn
          ∙ ap (λ xs. i / w * w + value (map radix_of gs) xs) f.1
          ∙ ap (λ r. i / w * w + r) (value-digits (map radix_of gs) (i % w) low)
          ∙ div-add-mod' i w;
    }
