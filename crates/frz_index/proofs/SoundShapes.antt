-- The candidate of sound groups, whose men all find their squares free, has the shape of a valid
-- position, but for its target: its men are counted as they are put.
use Rattle.std.proofs.Common.{◌≡◌, ℕ, zero, suc, ◌+◌, ◌*◌, ◌%◌, ◌<◌, ◌≤◌, Bool, true, false, cond, ◌&&◌, ◌||◌, not, Option, None, Some, List, [], ◌∷◌, ◌++◌, length, map, slice_index, refl, ap, sym, ◌∙◌, subst, arith, inl, inr}
use Rattle.std.specs.Prelude.{◌==◌, count_by, nat_le}
use Rattle.std.specs.List.{list_any, slice_get}
use Rattle.std.proofs.lemmas.Bool.{and_from, and_parts, cases_Bool, eq-eqb, eqb-true, false_from_ne_true, le-leb, or_cases}
use Rattle.std.proofs.lemmas.List.{get_or_default}
use Rattle.std.proofs.lemmas.List.Folds.{list_any-append, sum_by-replicate}
use Rattle.std.proofs.lemmas.List.Sums.{sum_by-set}
use Rattle.std.proofs.lemmas.Nat.{mod_below}
use Rattle.frz_board.proofs.Lemmas.{cell_forth, cell-small, cell-some}
use Rattle.frz_board.specs.declared.man.Colour.{Colour}
use Rattle.frz_board.specs.declared.man.Colour.TheVariants.{White, Black}
use Rattle.frz_board.specs.declared.man.Kind.{Kind}
use Rattle.frz_board.specs.declared.man.Kind.TheVariants.{King, Queen, Rook, Bishop, Knight, Pawn}
use Rattle.frz_board.specs.declared.man.Man.{Man}
use Rattle.std.proofs.lemmas.Option.{same_Some}
use Rattle.frz_board.specs.Boards.{Board, CellsFit, has}
use Rattle.frz_board.specs.Men.{cell_of_man, is_man_of, is_pawn, man_of_cell, number_of_kind, same_colour}
use Rattle.frz_board.specs.Shapes.{count_of, has_few_men, has_kings, has_pawn, has_pawns_inside, is_end, men_of}
use Rattle.frz_squares.proofs.Lemmas.{all_squares}
use Rattle.frz_fide.proofs.Lemmas.{same_side}
use Rattle.frz_combinations.proofs.Lemmas.{digits_fit}
use Rattle.frz_combinations.specs.Combinations.{AreDescending}
use Rattle.frz_combinations.specs.MixedRadix.{AreDigits, digits, product}
use Rattle.frz_combinations.specs.Selections.{selection_at}
use Rattle.frz_sets.specs.Groups.{has_king_group, is_bad_king, is_end_pawn, is_king, most_men_of}
use Rattle.frz_sets.specs.Sets.{has_state, is_state, radix_of}
use Rattle.frz_sets.specs.Sound.{AreCounted, AreSoundAfter, AreStates}
use Rattle.frz_sets.specs.Views.{GroupLine}
use Rattle.frz_index.specs.Candidates.{candidate, no_men, put_group, put_groups, put_man, put_men}
use Rattle.frz_index.specs.FreeSquares.{are_free, are_groups_free, is_free, is_group_free, is_spread}
use Rattle.frz_index.specs.Kept.{AreApart, AreNumberable, AreSoundGroups}
use Rattle.frz_index.specs.Members.{HasShape}
use Rattle.frz_index.proofs.Charting.{some_at, state_low}
use Rattle.frz_index.proofs.Filling.{get_or-empty, length-empty, length-put_groups, length-put_man, length-put_men}
use Rattle.frz_index.proofs.GroupSteps.{product_some}
use Rattle.frz_index.proofs.PuttingMen.{groups_put_or_kept}
use Rattle.frz_index.proofs.RoomForMen.{any_at, any_found, same_man}
use Rattle.frz_index.proofs.SelectionsByNumber.{selected}

abbrev one : (ℕ → Bool) → ℕ → ℕ
one f x = cond (f x) 1 0

abbrev man_at : Colour → Kind × ℕ → ℕ
man_at c state = cell_of_man (record { colour = c; kind = state.0 })

-- how many of the men put by these places the test counts
abbrev counts_one : (ℕ → Bool) → Colour → Option (Kind × ℕ) → ℕ
counts_one f c None = 0
counts_one f c (Some state) = one f (man_at c state)

abbrev counts_men : (ℕ → Bool) → Colour → List (Kind × ℕ) → List ℕ → ℕ
counts_men f c states [] = 0
counts_men f c states (k ∷ ks) = counts_one f c (slice_get states k) + counts_men f c states ks

abbrev counts_group : (ℕ → Bool) → GroupLine → ℕ → ℕ
counts_group f g d =
    counts_men f g.colour g.states (selection_at (length g.states) g.least g.most d)

abbrev counts_groups : (ℕ → Bool) → List GroupLine → List ℕ → ℕ
counts_groups f [] ds = 0
counts_groups f (g ∷ gs) [] = 0
counts_groups f (g ∷ gs) (d ∷ ds) = counts_group f g d + counts_groups f gs ds

one_put : (f : ℕ → Bool) (c : Colour) (o : Option (Kind × ℕ)) (cells : List ℕ) → f 0 ≡ false →
    is_free o cells ≡ true →
    ((state : Kind × ℕ) → o ≡ Some state → state.1 < length cells) →
    count_by f (put_man c o cells) ≡ count_by f cells + counts_one f c o
one_put f c None cells none free low = omega arith
one_put f c (Some state) cells none free low =
    let empty = eqb-true (slice_index cells state.1) 0 free in
    let before : one f (slice_index cells state.1) ≡ 0 =
    ap (one f) empty ∙ ap (λ b. cond b 1 0) none in
    let put = sum_by-set (one f) cells state.1 (man_at c state) 0 (low state refl) in
    omega (arith, before, put)

men_put : (f : ℕ → Bool) (c : Colour) (states : List (Kind × ℕ)) (ks cells : List ℕ) →
    f 0 ≡ false → AreStates states → length cells ≡ 64 → are_free c states ks cells ≡ true →
    count_by f (put_men c states ks cells) ≡ count_by f cells + counts_men f c states ks
men_put f c states [] cells none sound size free = omega arith
men_put f c states (k ∷ ks) cells none sound size free =
    let next = put_man c (slice_get states k) cells in
    let parts = and_parts (is_free (slice_get states k) cells) (are_free c states ks next) free in
    let first = one_put f c (slice_get states k) cells none parts.0
    (λ state e. let l = (state_low 0 states k state sound.increasing e).1 in omega (arith, l, size)) in
    let rest = men_put f c states ks next none sound
    (length-put_man c (slice_get states k) cells ∙ size) parts.1 in
    omega (arith, first, rest)

groups_put : (f : ℕ → Bool) (gs : List GroupLine) (ds cells : List ℕ) → f 0 ≡ false →
    AreApart gs → length cells ≡ 64 → are_groups_free gs ds cells ≡ true →
    count_by f (put_groups gs ds cells) ≡ count_by f cells + counts_groups f gs ds
groups_put f [] ds cells none apart size free = omega arith
groups_put f (g ∷ gs) [] cells none apart size free = omega arith
groups_put f (g ∷ gs) (d ∷ ds) cells none apart size free =
    let ks = selection_at (length g.states) g.least g.most d in
    let next = put_group g d cells in
    let parts = and_parts (is_group_free g d cells) (are_groups_free gs ds next) free in
    let first = men_put f g.colour g.states ks cells none apart.0.states size parts.0 in
    let rest = groups_put f gs ds next none apart.1
    (length-put_men g.colour g.states ks cells ∙ size) parts.1 in
    omega (arith, first, rest)

none_before : (f : ℕ → Bool) → f 0 ≡ false → count_by f no_men ≡ 0
unfolding no_men
none_before f none =
    sum_by-replicate (one f) 64 0 ∙ ap (λ b. 64 * cond b 1 0) none

at_most_each : (f : ℕ → Bool) (c : Colour) (states : List (Kind × ℕ)) (ks : List ℕ) →
    counts_men f c states ks ≤ length ks
at_most_each f c states [] = omega arith
at_most_each f c states (k ∷ ks) =
    let first = at_most_one (slice_get states k) in
    let rest = at_most_each f c states ks in
    omega (arith, first, rest)
  where
    bit : (b : Bool) → cond b 1 0 ≤ 1
    bit true = omega arith
    bit false = omega arith

    at_most_one : (o : Option (Kind × ℕ)) → counts_one f c o ≤ 1
    at_most_one None = omega arith
    at_most_one (Some state) = bit (f (man_at c state))

-- a test that no man of the states passes counts none
none_each : (f : ℕ → Bool) (c : Colour) (states : List (Kind × ℕ)) (ks : List ℕ) →
    ((k : ℕ) (state : Kind × ℕ) → slice_get states k ≡ Some state → f (man_at c state) ≡ false) →
    counts_men f c states ks ≡ 0
none_each f c states [] fails = refl
none_each f c states (k ∷ ks) fails =
    let first = none_one (slice_get states k) refl in
    let rest = none_each f c states ks fails in
    omega (arith, first, rest)
  where
    none_one : (o : Option (Kind × ℕ)) → slice_get states k ≡ o → counts_one f c o ≡ 0
    none_one None e = refl
    none_one (Some state) e = ap (λ b. cond b 1 0) (fails k state e)

-- a test that each man of the states passes counts all
all_each : (f : ℕ → Bool) (c : Colour) (states : List (Kind × ℕ)) (n : ℕ) (ks : List ℕ) →
    ((k : ℕ) (state : Kind × ℕ) → slice_get states k ≡ Some state → f (man_at c state) ≡ true) →
    n ≤ length states → AreDescending n ks → counts_men f c states ks ≡ length ks
all_each f c states n [] passes low places = refl
all_each f c states n (k ∷ ks) passes low places =
    let below = places.0 in
    let found = some_at states k (omega (arith, below, low)) in
    let first : counts_one f c (slice_get states k) ≡ 1 =
    ap (counts_one f c) found.1 ∙ ap (λ b. cond b 1 0) (passes k found.0 found.1) in
    let rest = all_each f c states k ks passes (omega (arith, below, low)) places.1 in
    omega (arith, first, rest)

-- the men of a side
abbrev is_side : Colour → ℕ → Bool
is_side c x = is_man_of c (man_of_cell x)

side_group : (c : Colour) (g : GroupLine) (d : ℕ) → g.least ≤ g.most → d < radix_of g →
    counts_group (is_side c) g d ≤ cond (same_colour g.colour c) g.most 0
side_group c g d order fit =
    let ks = selection_at (length g.states) g.least g.most d in
    let sel = selected (length g.states) g.least g.most d order fit in
    elim (cases_Bool (same_colour g.colour c)) [
      | inl e ↦ subst (λ b. counts_group (is_side c) g d ≤ cond b g.most 0) (sym e)
          (let most = at_most_each (is_side c) g.colour g.states ks in
          let few = sel.most in omega (arith, most, few))
      | inr e ↦ subst (λ b. counts_group (is_side c) g d ≤ cond b g.most 0) (sym e)
          (let zero = none_each (is_side c) g.colour g.states ks
          (λ k state is. ap (is_man_of c) (cell_forth g.colour state.0) ∙ e) in
          omega (arith, zero))
    ]

side_groups : (c : Colour) (gs : List GroupLine) (ds : List ℕ) → AreCounted gs →
    AreDigits (map radix_of gs) ds → counts_groups (is_side c) gs ds ≤ most_men_of gs c
side_groups c [] ds counted fit = omega arith
side_groups c (g ∷ gs) [] counted fit = absurd fit
side_groups c (g ∷ gs) (d ∷ ds) counted fit =
    let first = side_group c g d counted.0.order fit.0 in
    let rest = side_groups c gs ds counted.1 fit.1 in
    omega (arith, first, rest)

most_append : (gs hs : List GroupLine) (c : Colour) →
    most_men_of (gs ++ hs) c ≡ most_men_of gs c + most_men_of hs c
most_append [] hs c = omega arith
most_append (g ∷ gs) hs c = let rest = most_append gs hs c in omega (arith, rest)

few_after : (c : Colour) (earlier gs : List GroupLine) → AreSoundAfter earlier gs →
    most_men_of earlier c ≤ 16 → most_men_of earlier c + most_men_of gs c ≤ 16
few_after c earlier [] sound few = omega (arith, few)
few_after c earlier (g ∷ gs) sound few =
    let one = most_append earlier (g ∷ []) c in
    let next : most_men_of earlier c + cond (same_colour g.colour c) g.most 0 ≤ 16 =
    elim (cases_Bool (same_colour g.colour c)) [
      | inl e ↦ subst (λ b. most_men_of earlier c + cond b g.most 0 ≤ 16) (sym e)
          (subst (λ d. most_men_of earlier d + g.most ≤ 16) (same_side g.colour c e) sound.0.few_men)
      | inr e ↦ subst (λ b. most_men_of earlier c + cond b g.most 0 ≤ 16) (sym e)
          (omega (arith, few))
    ] in
    let rest = few_after c (earlier ++ g ∷ []) gs sound.1 (omega (arith, one, next)) in
    omega (arith, one, rest)

-- the king of a side
abbrev is_side_king : Colour → ℕ → Bool
is_side_king c x = x == cell_of_man (record { colour = c; kind = King })

abbrev has_side_kings : Colour → GroupLine → Bool
has_side_kings c g = same_colour g.colour c && list_any is_king g.states

bad_parts : (t x u v w : Bool) → t ≡ true → (t && (x || (not (u && v) || w))) ≡ false →
    (x ≡ false) × (u ≡ true) × (v ≡ true) × (w ≡ false)
bad_parts true false true true false e h = (refl, refl, refl, refl)
bad_parts t x u v w e h = absurd cc

king_kind : (k : Kind) → (number_of_kind k == 1) ≡ true → k ≡ King
king_kind King h = refl
king_kind Queen h = absurd cc
king_kind Rook h = absurd cc
king_kind Bishop h = absurd cc
king_kind Knight h = absurd cc
king_kind Pawn h = absurd cc

is_true : (x : Bool) → not x ≡ false → x ≡ true
is_true true h = refl
is_true false h = absurd cc

-- a group of the side's kings has one man, a king, and no earlier group has kings of the side
king_group : (c : Colour) (earlier : List GroupLine) (g : GroupLine) (d : ℕ) →
    is_bad_king earlier g ≡ false → has_side_kings c g ≡ true → g.least ≤ g.most →
    d < radix_of g →
    (counts_group (is_side_king c) g d ≡ 1) × (has_king_group earlier c ≡ false)
king_group c earlier g d good kings order fit =
    let ks = selection_at (length g.states) g.least g.most d in
    let both = and_parts (same_colour g.colour c) (list_any is_king g.states) kings in
    let side = same_side g.colour c both.0 in
    let p = bad_parts (list_any is_king g.states) (list_any (λ s. not (is_king s)) g.states)
    (g.least == 1) (g.most == 1) (has_king_group earlier g.colour) both.1 good in
    let sel = selected (length g.states) g.least g.most d order fit in
    let least = eqb-true g.least 1 p.1 in
    let most = eqb-true g.most 1 p.2 in
    let low = sel.least in
    let high = sel.most in
    let all = all_each (is_side_king c) g.colour g.states (length g.states) ks
    (λ k state e.
    let king = king_kind state.0 (is_true (is_king state)
    (false_from_ne_true (not (is_king state))
    (λ other. let some = any_at (λ s. not (is_king s)) g.states k state e other in
    let none = p.0 in cc))) in
    eq-eqb (man_at g.colour state) (cell_of_man (record { colour = c; kind = King }))
    (ap (λ x. cell_of_man (record { colour = x; kind = state.0 })) side
    ∙ ap (λ x. cell_of_man (record { colour = c; kind = x })) king))
    (omega arith) sel.places in
    (omega (arith, all, least, most, low, high), ap (has_king_group earlier) (sym side) ∙ p.3)

-- a group of no kings of the side counts none
other_group : (c : Colour) (g : GroupLine) (d : ℕ) → has_side_kings c g ≡ false →
    counts_group (is_side_king c) g d ≡ 0
other_group c g d none =
    none_each (is_side_king c) g.colour g.states (selection_at (length g.states) g.least g.most d)
    (λ k state e.
    false_from_ne_true (is_side_king c (man_at g.colour state))
    (λ yes.
    let same = same_man (record { colour = g.colour; kind = state.0 })
    (record { colour = c; kind = King })
    (eqb-true (man_at g.colour state) (cell_of_man (record { colour = c; kind = King })) yes) in
    let side = ap (λ (m : Man). m.colour) same in
    let king = ap (λ (m : Man). m.kind) same in
    let some : has_side_kings c g ≡ true =
    and_from (same_colour g.colour c) (list_any is_king g.states)
    (ap (λ x. same_colour x c) side ∙ own_colour c)
    (any_at is_king g.states k state e (ap (λ x. number_of_kind x == 1) king)) in
    cc))
  where
    own_colour : (x : Colour) → same_colour x x ≡ true
    own_colour White = refl
    own_colour Black = refl

-- the side's kings of these groups: one, unless an earlier group has it or none has
abbrev kings_due : Bool → Bool → ℕ
kings_due earlier later = cond earlier 0 (cond later 1 0)

king_groups : (c : Colour) (earlier gs : List GroupLine) (ds : List ℕ) →
    AreSoundAfter earlier gs → AreCounted gs → AreDigits (map radix_of gs) ds →
    counts_groups (is_side_king c) gs ds
    ≡ kings_due (has_king_group earlier c) (has_king_group gs c)
king_groups c earlier [] ds sound counted fit = none_due (has_king_group earlier c)
  where
    none_due : (b : Bool) → 0 ≡ kings_due b false
    none_due true = refl
    none_due false = refl
king_groups c earlier (g ∷ gs) [] sound counted fit = absurd fit
king_groups c earlier (g ∷ gs) (d ∷ ds) sound counted fit =
    let before = has_king_group earlier c in
    let here = has_side_kings c g in
    let after = has_king_group gs c in
    let rest = king_groups c (earlier ++ g ∷ []) gs ds sound.1 counted.1 fit.1
    ∙ ap (λ b. kings_due b after) (list_any-append (has_side_kings c) earlier (g ∷ [])) in
    elim (cases_Bool here) [
      | inl e ↦
          let own = king_group c earlier g d sound.0.king e counted.0.order fit.0 in
          let later : counts_groups (is_side_king c) gs ds ≡ 0 =
          rest ∙ ap (λ b. kings_due (b || (here || false)) after) own.1
          ∙ ap (λ b. kings_due (false || (b || false)) after) e in
          let due : kings_due before (here || after) ≡ 1 =
          ap (λ b. kings_due b (here || after)) own.1
          ∙ ap (λ b. kings_due false (b || after)) e in
          let first = own.0 in
          omega (arith, first, later) ∙ sym due
      | inr e ↦
          let first = other_group c g d e in
          let later : counts_groups (is_side_king c) gs ds ≡ kings_due before after =
          rest ∙ ap (λ b. kings_due (before || (b || false)) after) e
          ∙ ap (λ b. kings_due b after) (or_none before) in
          ap (λ n. n + counts_groups (is_side_king c) gs ds) first
          ∙ omega arith
          ∙ later ∙ ap (λ b. kings_due before (b || after)) (sym e)
    ]
  where
    or_none : (b : Bool) → (b || (false || false)) ≡ b
    or_none true = refl
    or_none false = refl

-- no group has a pawn on an end rank as a state
no_end_pawns : (earlier gs : List GroupLine) (i : ℕ) (g : GroupLine) → AreSoundAfter earlier gs →
    slice_get gs i ≡ Some g → list_any is_end_pawn g.states ≡ false
no_end_pawns earlier [] i g sound e = absurd cc
no_end_pawns earlier (h ∷ gs) zero g sound e =
    ap (λ (x : GroupLine). list_any is_end_pawn x.states) (sym (same_Some h g e))
    ∙ sound.0.no_end_pawn
no_end_pawns earlier (h ∷ gs) (suc i) g sound e =
    no_end_pawns (earlier ++ h ∷ []) gs i g sound.1 e

-- the state of a man that stands on the square
record StandsBy (gs : List GroupLine) (cell s : ℕ) : Type 0 where
  number : ℕ
  group : GroupLine
  group_is : slice_get gs number ≡ Some group
  place : ℕ
  state : Kind × ℕ
  state_is : slice_get group.states place ≡ Some state
  man : man_at group.colour state ≡ cell
  here : state.1 ≡ s

stands_by : (gs : List GroupLine) (cell s : ℕ) → has_state gs cell s ≡ true → StandsBy gs cell s
stands_by gs cell s h =
    let group = any_found (is_state cell s) gs h in
    let g = group.1 in
    let found = any_found (λ (state : Kind × ℕ). man_at g.colour state == cell && state.1 == s)
    g.states group.3 in
    let state = found.1 in
    let parts = and_parts (man_at g.colour state == cell) (state.1 == s) found.3 in
    record {
      number = group.0;
      group = g;
      group_is = group.2;
      place = found.0;
      state = state;
      state_is = found.2;
      man = eqb-true (man_at g.colour state) cell parts.0;
      here = eqb-true state.1 s parts.1;
    }

module _ (gs : List GroupLine) (ds : List ℕ) where
  abbrev cells : List ℕ
  cells = put_groups gs ds no_men

  size : length cells ≡ 64
  size = length-put_groups gs ds no_men ∙ length-empty

  small_at : (s : ℕ) → s < 64 → slice_index cells s < 13
  small_at s low =
      elim (groups_put_or_kept gs ds no_men s) [
        | inl kept ↦ let none = kept ∙ get_or-empty s low in omega (arith, none)
        | inr put ↦
            let by = stands_by gs (slice_index cells s) s put in
            subst (λ x. x < 13) by.man (cell-small by.group.colour by.state.0)
      ]

  pub cells_fit : CellsFit cells
  cells_fit = record {
    size = size;
    men = λ k d low. subst (λ x. x < 13) (get_or_default cells k 0 d low)
        (small_at k (omega (arith, size, low)));
  }

  -- no pawn is put on an end rank
  off_end : (c : Colour) (s : ℕ) → AreSoundAfter [] gs → s < 64 → is_end s ≡ true →
      slice_index cells s ≡ cell_of_man (record { colour = c; kind = Pawn }) → ⊥
  off_end c s sound low end pawn =
      elim (groups_put_or_kept gs ds no_men s) [
        | inl kept ↦
            let none = kept ∙ get_or-empty s low in
            let some = cell-some c Pawn in
            omega (arith, none, some, pawn)
        | inr put ↦
            let by = stands_by gs (slice_index cells s) s put in
            let same = same_man (record { colour = by.group.colour; kind = by.state.0 })
            (record { colour = c; kind = Pawn }) (by.man ∙ pawn) in
            let yes = any_at is_end_pawn by.group.states by.place by.state by.state_is
            (and_from (is_pawn by.state.0) (is_end by.state.1)
            (ap (λ (m : Man). is_pawn m.kind) same) (ap is_end by.here ∙ end)) in
            let no = no_end_pawns [] gs by.number by.group sound by.group_is in
            absurd cc
      ]

  pub pawns_inside : (turn : Colour) (ep : Option ℕ) → AreSoundAfter [] gs →
      has_pawns_inside (record { cells = cells; turn = turn; ep = ep }) ≡ true
  unfolding has_pawns_inside
  pawns_inside turn ep sound =
      let p : Board = record { cells = cells; turn = turn; ep = ep } in
      all_squares (λ s. not (is_end s && has_pawn p s))
      (λ s low. ap not (false_from_ne_true (is_end s && has_pawn p s)
      (λ h.
      let parts = and_parts (is_end s) (has_pawn p s) h in
      elim (or_cases (has p White Pawn s) (has p Black Pawn s) parts.1) [
        | inl e ↦ off_end White s sound low parts.0
            (eqb-true (slice_index cells s) (cell_of_man (record { colour = White; kind = Pawn })) e)
        | inr e ↦ off_end Black s sound low parts.0
            (eqb-true (slice_index cells s) (cell_of_man (record { colour = Black; kind = Pawn })) e)
      ])))

no_king : (c : Colour) → is_side_king c 0 ≡ false
no_king White = refl
no_king Black = refl

-- the candidate of a number whose men all find their squares free has the shape of a valid position
pub shaped : (gs : List GroupLine) (i : ℕ) → AreSoundGroups gs → AreNumberable gs → AreApart gs →
    is_spread gs i ≡ true → HasShape (candidate gs i)
unfolding has_kings has_few_men men_of
shaped gs i sound s apart spread =
    let w = product (map radix_of gs) in
    let ds = digits (map radix_of gs) (i % w) in
    let p = candidate gs i in
    let fit = digits_fit (map radix_of gs) (i % w) (mod_below i w (product_some gs s.groups)) in
    let king : (c : Colour) → has_king_group gs c ≡ true → count_of p c King ≡ 1 = λ c yes.
    let put = groups_put (is_side_king c) gs ds no_men (no_king c) apart length-empty spread in
    let none = none_before (is_side_king c) (no_king c) in
    let due = king_groups c [] gs ds sound.groups s.groups fit ∙ ap (kings_due false) yes in
    omega (arith, put, none, due) in
    let few : (c : Colour) → count_by (is_side c) p.cells ≤ 16 = λ c.
    let put = groups_put (is_side c) gs ds no_men refl apart length-empty spread in
    let none = none_before (is_side c) refl in
    let men = side_groups c gs ds s.groups fit in
    let most = few_after c [] gs sound.groups (omega arith) in
    omega (arith, put, none, men, most) in
    record {
      fits = cells_fit gs ds;
      kings = and_from (count_of p White King == 1) (count_of p Black King == 1)
          (eq-eqb (count_of p White King) 1 (king White sound.white_king))
          (eq-eqb (count_of p Black King) 1 (king Black sound.black_king));
      pawns = pawns_inside gs ds p.turn p.ep sound.groups;
      men = and_from (nat_le (count_by (is_side White) p.cells) 16)
          (nat_le (count_by (is_side Black) p.cells) 16)
          (le-leb (count_by (is_side White) p.cells) 16 (few White))
          (le-leb (count_by (is_side Black) p.cells) 16 (few Black));
    }
