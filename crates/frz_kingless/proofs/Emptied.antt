-- A position without its kings is its configuration's board.
use Rattle.std.proofs.Common.{◌≡◌, ◌≢◌, ℕ, ◌<◌, Bool, true, false, not, ◌&&◌, cond, List, [], ◌∷◌, length, length-set, map, slice_index, slice_set, get_or-set_same, get_or-set_other, refl, ap, sym, ◌∙◌, arith, inl, inr}
use Rattle.std.specs.Prelude.{◌==◌}
use Rattle.std.specs.List.{AllByRecursion}
use Rattle.std.proofs.lemmas.Bool.{and_from, cases_eq, eq-eqb, eqb-true}
use Rattle.std.proofs.lemmas.Grind.{same_number_lists}
use Rattle.std.proofs.lemmas.List.Elements.{All-set}
use Rattle.frz_board.specs.declared.man.Colour.TheVariants.{White, Black}
use Rattle.frz_board.specs.Boards.{Board, CellsFit, is_empty}
use Rattle.frz_squares.proofs.Lemmas.{same_not}
use Rattle.frz_combinations.specs.MixedRadix.{value}
use Rattle.frz_sets.specs.Sets.{has_state}
use Rattle.frz_sets.specs.Sound.{IsSound}
use Rattle.frz_sets.specs.Views.{GroupLine, RuleLines}
use Rattle.frz_index.specs.Members.{HasNumber}
use Rattle.frz_index.specs.Places.{IsWithinCount, digit_of, places}
use Rattle.frz_index.specs.TurnStates.{turn_number}
use Rattle.frz_index.proofs.Lemmas.{turn_fits}
use Rattle.frz_configurations.specs.Configurations.{IsSplit, has_kings, other_radices, others}
use Rattle.frz_king_planes.specs.Kings.{are_free, king_cell, with_kings}
use Rattle.frz_king_planes.proofs.Lemmas.{Crowned, crowned}
use Rattle.frz_kingless.specs.Boards.{IsBoardOf}
use Rattle.frz_kingless.proofs.OnlyPosition.{black_there, differ, la, lb, no_other_king, other_known, own_configuration, same_board, state_back, white_there}
use Rattle.frz_kingless.proofs.OtherMen.{digits_alike, places_alike}

module _ (r : RuleLines) (q : Board) (i c a b : ℕ) (sound : IsSound r)
    (split : IsSplit r.groups i c a b) (number : HasNumber r.groups i q) where
  abbrev p : Board
  p = record q { cells = slice_set (slice_set q.cells a 0) b 0 }

  on_a : a < 64
  on_a = la r q i c a b sound split number

  on_b : b < 64
  on_b = lb r q i c a b sound split number

  apart : a ≢ b
  apart = differ r q i c a b sound split number

  size_q : length q.cells ≡ 64
  size_q = number.member.valid.fits.size

  size_p : length p.cells ≡ 64
  size_p = rw (length-set, length-set) size_q

  at_a : slice_index p.cells a ≡ 0
  at_a =
      get_or-set_other (slice_set q.cells a 0) b a 0 0 apart
      ∙ get_or-set_same q.cells a 0 0 (let on = on_a in let size = size_q in omega arith)

  at_b : slice_index p.cells b ≡ 0
  at_b =
      let on = on_b in
      let size = size_q in
      let same = length-set q.cells a 0 in
      get_or-set_same (slice_set q.cells a 0) b 0 0 (omega arith)

  rest : (s : ℕ) → s ≢ a → s ≢ b → slice_index p.cells s ≡ slice_index q.cells s
  rest s na nb =
      get_or-set_other (slice_set q.cells a 0) b s 0 0 nb
      ∙ get_or-set_other q.cells a s 0 0 na

  free : are_free p a b ≡ true
  free =
      and_from (not (a == b)) (is_empty p a && is_empty p b) (same_not a b apart)
      (and_from (is_empty p a) (is_empty p b) (eq-eqb (slice_index p.cells a) 0 at_a)
      (eq-eqb (slice_index p.cells b) 0 at_b))

  view : Crowned p (with_kings p a b) White a b
  view = crowned p a b White size_p on_a on_b free

  one_cell : (s : ℕ) → slice_index (with_kings p a b).cells s ≡ slice_index q.cells s
  one_cell s =
      elim (cases_eq s a) [
        | inl e ↦ ap (slice_index (with_kings p a b).cells) e ∙ view.own
            ∙ sym (eqb-true (slice_index q.cells a) (king_cell White)
            (white_there r q i c a b sound split number))
            ∙ ap (slice_index q.cells) (sym e)
        | inr na ↦ elim (cases_eq s b) [
          | inl e ↦ ap (slice_index (with_kings p a b).cells) e ∙ view.other
              ∙ sym (eqb-true (slice_index q.cells b) (king_cell Black)
              (black_there r q i c a b sound split number))
              ∙ ap (slice_index q.cells) (sym e)
          | inr nb ↦ view.rest s na nb ∙ rest s na nb
        ]
      ]

  size_crowned : length (with_kings p a b).cells ≡ 64
  size_crowned = rw (length-set, length-set) size_p

  crown : with_kings p a b ≡ q
  crown =
      same_board (with_kings p a b) q
      (same_number_lists (with_kings p a b).cells q.cells (size_crowned ∙ sym size_q)
      (λ s l. one_cell s)) refl refl

  fits : CellsFit p.cells
  fits = record {
    size = size_p;
    men = All-set (λ x. x < 13) (slice_set q.cells a 0) b 0 (omega arith)
        (All-set (λ x. x < 13) q.cells a 0 (omega arith) number.member.valid.fits.men);
  }

  men : (s : ℕ) → s < 64 → slice_index p.cells s ≢ 0 →
      has_state (others r.groups) (slice_index p.cells s) s ≡ true
  men s l some =
      elim (cases_eq s a) [
        | inl e ↦ absurd (some (ap (slice_index p.cells) e ∙ at_a))
        | inr na ↦ elim (cases_eq s b) [
          | inl e ↦ absurd (some (ap (slice_index p.cells) e ∙ at_b))
          | inr nb ↦ ap (λ x. has_state (others r.groups) x s) (rest s na nb)
              ∙ other_known [] r.groups (slice_index q.cells s) s sound.lines.groups
              (no_other_king r q i c a b sound split number s l na nb)
              (number.member.men s l (λ none. some (rest s na nb ∙ none)))
        ]
      ]

  kept : (g : GroupLine) → has_kings g ≡ false → IsWithinCount q g → IsWithinCount p g
  kept g none h =
      let same = ap (λ x. length (places x g)) (sym crown)
      ∙ ap (λ cs. length cs) (places_alike p a b size_p on_a on_b free g none) in
      let low = h.least in
      let high = h.most in
      record { least = omega arith; most = omega arith }

  all_kept : (gs : List GroupLine) → AllByRecursion (IsWithinCount q) gs →
      AllByRecursion (IsWithinCount p) (others gs)
  all_kept [] h = h
  all_kept (g ∷ gs) h =
      let either : (t : Bool) → has_kings g ≡ t →
      AllByRecursion (IsWithinCount p) (cond (not t) (g ∷ others gs) (others gs)) =
      λ t. elim t as (λ t. has_kings g ≡ t →
      AllByRecursion (IsWithinCount p) (cond (not t) (g ∷ others gs) (others gs))) [
        | true ↦ λ e. all_kept gs h.1
        | false ↦ λ e. (kept g e h.0, all_kept gs h.1)
      ] in
      either (has_kings g) refl

  pub is_board : IsBoardOf r.groups c p
  is_board = record {
    fits = fits;
    men = men;
    counts = all_kept r.groups number.member.counts;
    below = turn_fits r.groups q number.member;
    turn = state_back r q i c a b sound split number;
    configuration =
        ap (λ ds. value (other_radices r.groups) (turn_number r.groups q.turn q.ep ∷ ds))
        (sym (digits_alike p a b size_p on_a on_b free r.groups)
        ∙ ap (λ x. map (digit_of x) (others r.groups)) crown)
        ∙ sym (own_configuration r q i c a b sound split number);
  }
