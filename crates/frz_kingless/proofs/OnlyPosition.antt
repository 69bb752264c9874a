-- A number's position is its configuration's board with kings.
use Rattle.std.proofs.Common.{◌≡◌, ◌≢◌, ℕ, ◌<◌, Bool, true, false, not, ◌&&◌, cond, Option, Some, List, [], ◌∷◌, ◌++◌, length, length-set, map, slice_index, refl, ap, sym, ◌∙◌, arith, inl, inr}
use Rattle.std.specs.Prelude.{◌==◌}
use Rattle.std.specs.List.{AllByRecursion, slice_get}
use Rattle.std.proofs.lemmas.Bool.{and_from, and_parts, cases_Bool, cases_eq, eq-eqb, eqb-true, or_cases, or_left, or_right}
use Rattle.std.proofs.lemmas.Grind.{same_number_lists}
use Rattle.std.proofs.lemmas.Nat.{div-mul-add}
use Rattle.std.proofs.lemmas.Option.{same_Some}
use Rattle.frz_board.specs.declared.man.Colour.{Colour}
use Rattle.frz_board.specs.declared.man.Colour.TheVariants.{White, Black}
use Rattle.frz_board.specs.declared.man.Kind.{Kind}
use Rattle.frz_board.specs.declared.man.Kind.TheVariants.{King}
use Rattle.frz_board.specs.Boards.{Board, has, is_empty}
use Rattle.frz_board.specs.Men.{cell_of_man, same_colour}
use Rattle.frz_squares.proofs.Lemmas.{same_not}
use Rattle.frz_fide.proofs.Lemmas.{same_side}
use Rattle.frz_combinations.specs.MixedRadix.{product, value}
use Rattle.frz_combinations.proofs.Lemmas.{value_below}
use Rattle.frz_sets.specs.Groups.{is_king}
use Rattle.frz_sets.specs.Sets.{has_state, is_state, radices, radix_of, targets}
use Rattle.frz_sets.specs.Sound.{AreSoundAfter, IsSound}
use Rattle.frz_sets.specs.Views.{GroupLine, RuleLines}
use Rattle.frz_index.specs.Members.{HasNumber, Member}
use Rattle.frz_index.specs.Places.{IsWithinCount, digit_of}
use Rattle.frz_index.specs.TurnStates.{turn_in, turn_number}
use Rattle.frz_index.proofs.Lemmas.{candidate-Num, digits_are, turn_fits}
use Rattle.frz_configurations.specs.Configurations.{IsSplit, configuration_of, has_kings, king_state, other_digits, other_radices, others}
use Rattle.frz_configurations.proofs.Lemmas.{kingly, on_square, other_digits-map, same_digits, state_is}
use Rattle.frz_king_planes.specs.Kings.{are_free, king_cell, with_kings}
use Rattle.frz_king_planes.proofs.Lemmas.{Crowned, crowned}
use Rattle.frz_kingless.specs.Boards.{IsBoardOf}
use Rattle.frz_kingless.proofs.CarriedMen.{carried, some_passes}
use Rattle.frz_kingless.proofs.KingGroups.{king_on_board, one_king}
use Rattle.frz_kingless.proofs.OtherMen.{all_others, no_king_cell, none_passes}

-- the king that a position's digits give stands
kings_stand : (q : Board) (c : Colour) (s : ℕ) (earlier gs : List GroupLine) →
    AreSoundAfter earlier gs → AllByRecursion (IsWithinCount q) gs →
    king_state c gs (map (digit_of q) gs) ≡ Some (King, s) → has q c King s ≡ true
kings_stand q c s earlier [] sound counts e = absurd cc
kings_stand q c s earlier (g ∷ gs) sound counts e =
    let rest = king_state c gs (map (digit_of q) gs) in
    elim (cases_Bool (same_colour g.colour c && has_kings g)) [
      | inl h ↦ (let parts = and_parts (same_colour g.colour c) (has_kings g) h in
          let kings = kingly earlier g sound.0.king parts.1 in
          let on = on_square earlier q g kings counts.0 in
          let state : slice_get g.states (digit_of q g) ≡ Some (King, s) =
          sym (ap (λ t. cond t (slice_get g.states (digit_of q g)) rest) h) ∙ e in
          let same : Some (King, on.0) ≡ Some (King, s) = sym on.1.state ∙ state in
          let square : on.0 ≡ s = ap (λ (x : Kind × ℕ). x.1) (same_Some (King, on.0) (King, s) same) in
          ap (λ (d : Colour). has q d King s) (sym (same_side g.colour c parts.0))
          ∙ ap (λ t. has q g.colour King t) (sym square) ∙ on.1.stands)
      | inr h ↦ kings_stand q c s (earlier ++ g ∷ []) gs sound.1 counts.1
          (sym (ap (λ t. cond t (slice_get g.states (digit_of q g)) rest) h) ∙ e)
    ]

-- a man of a group of kings is a king
king_of_group : (earlier : List GroupLine) (g : GroupLine) (cell s : ℕ) →
    AreSoundAfter earlier (g ∷ []) → has_kings g ≡ true → is_state cell s g ≡ true →
    cell ≡ king_cell g.colour
king_of_group earlier g cell s sound kings h =
    let test : Kind × ℕ → Bool = λ state.
    cell_of_man (record { colour = g.colour; kind = state.0 }) == cell && state.1 == s in
    let found = some_passes test g.states h in
    let state = found.element in
    let man = cell_of_man (record { colour = g.colour; kind = state.0 }) in
    let kind = state_is earlier g found.place state (kingly earlier g sound.0.king kings)
    found.there in
    sym (eqb-true man cell (and_parts (man == cell) (state.1 == s) found.passes).0)
    ∙ ap (λ (k : Kind). cell_of_man (record { colour = g.colour; kind = k })) kind

-- a man that is no king has a group without kings
pub other_known : (earlier gs : List GroupLine) (cell s : ℕ) → AreSoundAfter earlier gs →
    ((c : Colour) → cell ≡ king_cell c → ⊥) → has_state gs cell s ≡ true →
    has_state (others gs) cell s ≡ true
other_known earlier [] cell s sound none h = h
other_known earlier (g ∷ gs) cell s sound none h =
    let either : (t : Bool) → has_kings g ≡ t →
    has_state (cond (not t) (g ∷ others gs) (others gs)) cell s ≡ true =
    λ t. elim t as (λ t. has_kings g ≡ t →
    has_state (cond (not t) (g ∷ others gs) (others gs)) cell s ≡ true) [
      | true ↦ λ e. elim (or_cases (is_state cell s g) (has_state gs cell s) h) [
        | inl k ↦ absurd (none g.colour (king_of_group earlier g cell s (sound.0, tt) e k))
        | inr k ↦ other_known (earlier ++ g ∷ []) gs cell s sound.1 none k
      ]
      | false ↦ λ e. elim (or_cases (is_state cell s g) (has_state gs cell s) h) [
        | inl k ↦ or_left (is_state cell s g) (has_state (others gs) cell s) k
        | inr k ↦ or_right (is_state cell s g) (has_state (others gs) cell s)
            (other_known (earlier ++ g ∷ []) gs cell s sound.1 none k)
      ]
    ] in
    either (has_kings g) refl

-- groups without kings know no king
no_king_known : (c : Colour) (gs : List GroupLine) (s : ℕ) →
    has_state (others gs) (king_cell c) s ≡ true → ⊥
no_king_known c [] s h = absurd cc
no_king_known c (g ∷ gs) s h =
    let either : (t : Bool) → has_kings g ≡ t →
    has_state (cond (not t) (g ∷ others gs) (others gs)) (king_cell c) s ≡ true → ⊥ =
    λ t. elim t as (λ t. has_kings g ≡ t →
    has_state (cond (not t) (g ∷ others gs) (others gs)) (king_cell c) s ≡ true → ⊥) [
      | true ↦ λ e k. no_king_known c gs s k
      | false ↦ λ e k. elim (or_cases (is_state (king_cell c) s g)
          (has_state (others gs) (king_cell c) s) k) [
            | inl y ↦ no_state e y
            | inr y ↦ no_king_known c gs s y
          ]
    ] in
    either (has_kings g) refl h
  where
    no_state : has_kings g ≡ false → is_state (king_cell c) s g ≡ true → ⊥
    no_state none y =
        let test : Kind × ℕ → Bool = λ state.
        cell_of_man (record { colour = g.colour; kind = state.0 }) == king_cell c
        && state.1 == s in
        let found = some_passes test g.states y in
        let state = found.element in
        let man = cell_of_man (record { colour = g.colour; kind = state.0 }) in
        let parts = and_parts (man == king_cell c) (state.1 == s) found.passes in
        let same = eq-eqb (king_cell c) man (sym (eqb-true man (king_cell c) parts.0)) in
        let other = no_king_cell g.colour c state.0
        (none_passes is_king g.states found.place state none found.there) in
        cc

pub same_board : (x y : Board) → x.cells ≡ y.cells → x.turn ≡ y.turn → x.ep ≡ y.ep → x ≡ y
same_board x y cells turn ep =
    ap (λ (v : List ℕ). let z : Board = record { cells = v; turn = x.turn; ep = x.ep } in z) cells
    ∙ ap (λ (v : Colour). let z : Board = record { cells = y.cells; turn = v; ep = x.ep } in z) turn
    ∙ ap (λ (v : Option ℕ). let z : Board = record { cells = y.cells; turn = y.turn; ep = v } in z) ep

module _ (r : RuleLines) (q : Board) (i c a b : ℕ) (sound : IsSound r)
    (split : IsSplit r.groups i c a b) (number : HasNumber r.groups i q) where
  abbrev gs : List GroupLine
  gs = r.groups

  abbrev m : Member r.groups q
  m = number.member

  abbrev turn_of : Board → ℕ
  turn_of x = turn_number r.groups x.turn x.ep

  all_digits : split.turn ∷ split.ds ≡ turn_of q ∷ map (digit_of q) gs
  all_digits =
      same_digits (radices gs) (split.turn ∷ split.ds) (turn_of q ∷ map (digit_of q) gs) split.fits
      (turn_fits gs q m, digits_are q gs m.counts) (sym split.number ∙ sym number.number)

  own_turn : split.turn ≡ turn_of q
  own_turn = let h = all_digits in cc

  own_digits : split.ds ≡ map (digit_of q) gs
  own_digits = let h = all_digits in cc

  pub white_there : has q White King a ≡ true
  white_there =
      kings_stand q White a [] gs sound.lines.groups m.counts
      (ap (king_state White gs) (sym own_digits) ∙ split.white)

  pub black_there : has q Black King b ≡ true
  black_there =
      kings_stand q Black b [] gs sound.lines.groups m.counts
      (ap (king_state Black gs) (sym own_digits) ∙ split.black)

  pub la : a < 64
  la = king_on_board White a [] gs split.ds sound.lines.groups split.white

  pub lb : b < 64
  lb = king_on_board Black b [] gs split.ds sound.lines.groups split.black

  pub own_configuration : c ≡ configuration_of gs q
  own_configuration =
      split.configuration
      ∙ ap (λ t. value (other_radices gs) (t ∷ other_digits gs split.ds)) own_turn
      ∙ ap (λ ds. value (other_radices gs) (turn_of q ∷ other_digits gs ds)) own_digits
      ∙ ap (λ ds. value (other_radices gs) (turn_of q ∷ ds)) (other_digits-map (digit_of q) gs)

  pub differ : a ≢ b
  differ e =
      let white = eqb-true (slice_index q.cells a) (king_cell White) white_there in
      let black = ap (slice_index q.cells) e
      ∙ eqb-true (slice_index q.cells b) (king_cell Black) black_there in
      absurd (omega arith)

  pub no_other_king : (s : ℕ) → s < 64 → s ≢ a → s ≢ b → (d : Colour) →
      slice_index q.cells s ≡ king_cell d → ⊥
  no_other_king s l na nb White e =
      na (one_king q White s a m.valid l la (eq-eqb (slice_index q.cells s) (king_cell White) e)
      white_there)
  no_other_king s l na nb Black e =
      nb (one_king q Black s b m.valid l lb (eq-eqb (slice_index q.cells s) (king_cell Black) e)
      black_there)

  -- the turn state of the position is that of its number
  pub state_back : turn_in (targets gs) (turn_of q) ≡ (q.turn, q.ep)
  state_back =
      let w = product (map radix_of gs) in
      let v = value (map radix_of gs) (map (digit_of q) gs) in
      let below = value_below (map radix_of gs) (map (digit_of q) gs) (digits_are q gs m.counts) in
      ap (turn_in (targets gs)) (sym (div-mul-add (turn_of q) w v below))
      ∙ ap (λ (x : Board). let y : Colour × Option ℕ = (x.turn, x.ep) in y) (candidate-Num gs q m)

  module _ (p : Board) (board : IsBoardOf r.groups c p) where
    one_configuration : turn_of q ∷ map (digit_of q) (others gs)
        ≡ turn_of p ∷ map (digit_of p) (others gs)
    one_configuration =
        same_digits (other_radices gs) (turn_of q ∷ map (digit_of q) (others gs))
        (turn_of p ∷ map (digit_of p) (others gs))
        (turn_fits gs q m, digits_are q (others gs) (all_others (IsWithinCount q) gs m.counts))
        (board.below, digits_are p (others gs) board.counts)
        (sym own_configuration ∙ sym board.configuration)

    one_turn : turn_of q ≡ turn_of p
    one_turn = let h = one_configuration in cc

    other_men : map (digit_of q) (others gs) ≡ map (digit_of p) (others gs)
    other_men = let h = one_configuration in cc

    -- a man of a group without kings stands on both
    from_board : (s : ℕ) → s < 64 → slice_index p.cells s ≢ 0 →
        slice_index q.cells s ≡ slice_index p.cells s
    from_board s l some =
        carried p q (others gs) (slice_index p.cells s) s board.counts
        (all_others (IsWithinCount q) gs m.counts) (sym other_men) refl (board.men s l some)

    empty_below : (d : Colour) (s : ℕ) → s < 64 → has q d King s ≡ true →
        slice_index p.cells s ≡ 0
    empty_below d s l king =
        elim (cases_eq (slice_index p.cells s) 0) [
          | inl e ↦ e
          | inr some ↦ absurd (no_king_known d gs s
              (ap (λ x. has_state (others gs) x s)
              (sym (eqb-true (slice_index q.cells s) (king_cell d) king) ∙ from_board s l some)
              ∙ board.men s l some))
        ]

    pub are_empty : are_free p a b ≡ true
    are_empty =
        and_from (not (a == b)) (is_empty p a && is_empty p b) (same_not a b differ)
        (and_from (is_empty p a) (is_empty p b)
        (eq-eqb (slice_index p.cells a) 0 (empty_below White a la white_there))
        (eq-eqb (slice_index p.cells b) 0 (empty_below Black b lb black_there)))

    one_man : (s : ℕ) → s < 64 → s ≢ a → s ≢ b → slice_index q.cells s ≡ slice_index p.cells s
    one_man s l na nb =
        elim (cases_eq (slice_index p.cells s) 0) [
          | inr some ↦ from_board s l some
          | inl none ↦ elim (cases_eq (slice_index q.cells s) 0) [
            | inl e ↦ e ∙ sym none
            | inr some ↦ sym (carried q p (others gs) (slice_index q.cells s) s
                (all_others (IsWithinCount q) gs m.counts) board.counts other_men refl
                (other_known [] gs (slice_index q.cells s) s sound.lines.groups
                (no_other_king s l na nb) (m.men s l some)))
          ]
        ]

    view : Crowned p (with_kings p a b) White a b
    view = crowned p a b White board.fits.size la lb are_empty

    one_cell : (s : ℕ) → s < 64 →
        slice_index q.cells s ≡ slice_index (with_kings p a b).cells s
    one_cell s l =
        elim (cases_eq s a) [
          | inl e ↦ ap (slice_index q.cells) e
              ∙ eqb-true (slice_index q.cells a) (king_cell White) white_there ∙ sym view.own
              ∙ ap (slice_index (with_kings p a b).cells) (sym e)
          | inr na ↦ elim (cases_eq s b) [
            | inl e ↦ ap (slice_index q.cells) e
                ∙ eqb-true (slice_index q.cells b) (king_cell Black) black_there ∙ sym view.other
                ∙ ap (slice_index (with_kings p a b).cells) (sym e)
            | inr nb ↦ one_man s l na nb ∙ sym (view.rest s na nb)
          ]
        ]

    size_q : length q.cells ≡ 64
    size_q = m.valid.fits.size

    size_p : length (with_kings p a b).cells ≡ 64
    size_p = rw (length-set, length-set) board.fits.size

    cells_same : q.cells ≡ (with_kings p a b).cells
    cells_same =
        same_number_lists q.cells (with_kings p a b).cells (size_q ∙ sym size_p)
        (λ s l. one_cell s (omega (arith, size_q)))

    one_state : turn_in (targets gs) (turn_of p) ≡ (q.turn, q.ep)
    one_state = ap (turn_in (targets gs)) (sym one_turn) ∙ state_back

    pub is_that : q ≡ with_kings p a b
    is_that =
        same_board q (with_kings p a b) cells_same
        (ap (λ (x : Colour × Option ℕ). x.0) (sym one_state ∙ board.turn))
        (ap (λ (x : Colour × Option ℕ). x.1) (sym one_state ∙ board.turn))
