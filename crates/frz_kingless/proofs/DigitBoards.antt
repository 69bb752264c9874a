-- The board that the digits of a configuration make.
use Rattle.std.proofs.Common.{◌≡◌, ℕ, ◌+◌, ◌*◌, ◌/◌, ◌%◌, ◌<◌, true, false, not, cond, Option, List, [], ◌∷◌, length, map, slice_set, ap, sym, ◌∙◌, subst, arith}
use Rattle.std.proofs.lemmas.Bool.{false_from_ne_true}
use Rattle.std.proofs.lemmas.Nat.{div-add-mod', div_below, mod_below}
use Rattle.frz_board.specs.declared.man.Colour.{Colour}
use Rattle.frz_board.specs.Boards.{Board, CellsFit}
use Rattle.frz_combinations.specs.MixedRadix.{AreDigits, digits, product, value}
use Rattle.frz_combinations.proofs.Lemmas.{digits_fit, value-digits}
use Rattle.frz_sets.specs.Sets.{has_state, is_state, radix_of, targets}
use Rattle.frz_sets.specs.Sound.{IsCounted, IsSound}
use Rattle.frz_sets.specs.Views.{GroupLine, RuleLines}
use Rattle.frz_index.specs.Candidates.{no_men, put_groups}
use Rattle.frz_index.specs.FreeSquares.{are_groups_free}
use Rattle.frz_index.specs.Kept.{AreApart}
use Rattle.frz_index.specs.Places.{digit_of}
use Rattle.frz_index.specs.TurnStates.{turn_in, turn_number}
use Rattle.frz_index.proofs.Lemmas.{apart, cells_fit, digits_are, digits_free, men_put, numberable, own_digits, product_some, turn_forth}
use Rattle.frz_configurations.specs.Configurations.{configuration_count, has_kings, other_radices, others}
use Rattle.frz_configurations.proofs.Lemmas.{same_digits}
use Rattle.frz_kingless.specs.Boards.{HasNoPosition, IsBoardOf}
use Rattle.frz_kingless.proofs.Emptied.{is_board}
use Rattle.frz_kingless.proofs.KingGroups.{known_too}
use Rattle.frz_kingless.proofs.OtherMen.{all_others}

-- no two groups without kings have a state in common
apart_others : (gs : List GroupLine) → AreApart gs → AreApart (others gs)
apart_others [] h = h
apart_others (g ∷ gs) h =
    elim (has_kings g) as
    (λ t. AreApart (cond (not t) (g ∷ others gs) (others gs))) [
      | true ↦ apart_others gs h.1
      | false ↦ (record { states = h.0.states; alone = alone }, apart_others gs h.1)
    ]
  where
    alone : (cell s : ℕ) → is_state cell s g ≡ true → has_state (others gs) cell s ≡ false
    alone cell s own =
        false_from_ne_true (has_state (others gs) cell s)
        (λ e. let yes = known_too gs cell s e in let no = h.0.alone cell s own in cc)

-- the digits that groups without kings have in a configuration
abbrev pub own_digits_of : List GroupLine → ℕ → List ℕ
own_digits_of gs c =
    digits (map radix_of (others gs)) (c % product (map radix_of (others gs)))

module _ (r : RuleLines) (sound : IsSound r) (c : ℕ) (inside : c < configuration_count r.groups) where
  abbrev gs : List GroupLine
  gs = r.groups

  abbrev os : List GroupLine
  os = others r.groups

  abbrev whole : ℕ
  whole = product (map radix_of (others r.groups))

  abbrev ds : List ℕ
  ds = own_digits_of r.groups c

  pub some : 0 < whole
  some = product_some os (all_others IsCounted gs (numberable r sound).groups)

  low : c % whole < whole
  low = mod_below c whole some

  turns : c / whole < 2 + length (targets gs)
  turns = div_below c whole (2 + length (targets gs)) some inside

  fit : AreDigits (map radix_of os) ds
  fit = digits_fit (map radix_of os) (c % whole) low

  same_value : value (other_radices gs) (c / whole ∷ ds) ≡ c
  same_value =
      ap (λ n. c / whole * whole + n) (value-digits (map radix_of os) (c % whole) low)
      ∙ div-add-mod' c whole

  -- where each man finds his square free, the board is the configuration's
  module _ (p : Board) (cells_are : p.cells ≡ put_groups os ds no_men)
      (turn_is : turn_in (targets gs) (c / whole) ≡ (p.turn, p.ep))
      (free : are_groups_free os ds no_men ≡ true) where
    number : turn_number gs p.turn p.ep ≡ c / whole
    number =
        ap (λ (x : Colour × Option ℕ). turn_number gs x.0 x.1) (sym turn_is)
        ∙ turn_forth gs (c / whole) turns

    pub made : IsBoardOf r.groups c p
    made =
        let own = own_digits p os ds cells_are (apart_others gs (apart r sound))
        (all_others IsCounted gs (numberable r sound).groups) fit free in
        let state = number in
        let few = turns in
        record {
          fits = subst CellsFit (sym cells_are) (cells_fit os ds);
          men = men_put os p ds cells_are;
          counts = own.0;
          below = omega (arith, state, few);
          turn = ap (turn_in (targets gs)) number ∙ turn_is;
          configuration = ap (λ t. value (other_radices gs) (t ∷ map (digit_of p) os)) number
              ∙ ap (λ xs. value (other_radices gs) (c / whole ∷ xs)) own.1
              ∙ same_value;
        }

  -- a configuration with a board has each man find his square free
  free_there : (p : Board) → IsBoardOf r.groups c p → are_groups_free os ds no_men ≡ true
  free_there p board =
      let same = same_digits (other_radices gs)
      (turn_number gs p.turn p.ep ∷ map (digit_of p) os) (c / whole ∷ ds)
      (board.below, digits_are p os board.counts) (turns, fit)
      (board.configuration ∙ sym same_value) in
      let own : map (digit_of p) os ≡ ds = cc in
      ap (λ xs. are_groups_free os xs no_men) (sym own)
      ∙ digits_free p os (apart_others gs (apart r sound)) board.counts

  pub none_made : are_groups_free os ds no_men ≡ false → HasNoPosition r.groups c
  none_made clash i a b split q member e =
      let free = free_there (record q { cells = slice_set (slice_set q.cells a 0) b 0 })
      (is_board r q i c a b sound split (record { member = member; number = e })) in
      absurd cc
