-- The number of a position of the set gives the position back.
use Rattle.std.proofs.Common.{◌≡◌, ℕ, ◌+◌, ◌<◌, Option, List, [], ◌∷◌, length, map, refl, ap, ◌∙◌}
use Rattle.std.specs.List.{AllByRecursion}
use Rattle.frz_board.specs.Boards.{Board}
use Rattle.frz_board.specs.declared.man.Colour.{Colour}
use Rattle.frz_combinations.proofs.Lemmas.{digits-value, value_below}
use Rattle.frz_combinations.proofs.Lemmas.{places_descend}
use Rattle.frz_combinations.proofs.Lemmas.{digit_below}
use Rattle.frz_combinations.specs.MixedRadix.{AreDigits, digits, product, value}
use Rattle.frz_index.proofs.Filling.{cells_back}
use Rattle.frz_index.proofs.Turns.{target_possible, turn_back, turn_below}
use Rattle.frz_index.specs.Candidates.{candidate, no_men, put_groups}
use Rattle.frz_index.specs.Members.{Member, Num}
use Rattle.frz_index.specs.Places.{IsWithinCount, digit_of, places, stands}
use Rattle.frz_index.specs.TurnStates.{turn_in, turn_number}
use Rattle.frz_sets.specs.Sets.{radices, radix_of, size_of, targets}
use Rattle.frz_sets.specs.Views.{GroupLine}
use Rattle.std.proofs.lemmas.Nat.{div-mul-add, mod-mul-add}
use Rattle.std.specs.List.{slice_get}

pub digits_are : (p : Board) (gs : List GroupLine) → AllByRecursion (IsWithinCount p) gs →
    AreDigits (map radix_of gs) (map (digit_of p) gs)
digits_are p [] h = refl
digits_are p (g ∷ gs) h = (
  digit_below (length g.states) g.least g.most (places p g)
      (places_descend (λ k. stands p g.colour (slice_get g.states k)) (length g.states)) h.0.least
      h.0.most,
  digits_are p gs h.1,
)

pub turn_fits : (gs : List GroupLine) (p : Board) → Member gs p →
    turn_number gs p.turn p.ep < 2 + length (targets gs)
turn_fits gs p m = turn_below gs p.turn p.ep (λ t e. (target_possible gs p m t e).0)

-- the number is below the size
pub Num_below : (gs : List GroupLine) (p : Board) → Member gs p → Num gs p < size_of gs
Num_below gs p m =
    value_below (radices gs) (turn_number gs p.turn p.ep ∷ map (digit_of p) gs)
    (turn_fits gs p m, digits_are p gs m.counts)

pub board_is : (p : Board) (cells : List ℕ) (turn : Colour × Option ℕ) → cells ≡ p.cells
    → turn ≡ (p.turn, p.ep) → record { cells = cells; turn = turn.0; ep = turn.1 } ≡ p
board_is p cells turn e f =
    ap (λ (xs : List ℕ). let b : Board = record { cells = xs; turn = turn.0; ep = turn.1 } in b) e
    ∙ ap (λ (x : Colour × Option ℕ).
    let b : Board = record { cells = p.cells; turn = x.0; ep = x.1 } in b) f

-- the position is found again
pub candidate-Num : (gs : List GroupLine) (p : Board) → Member gs p → candidate gs (Num gs p) ≡ p
candidate-Num gs p m =
    let t = turn_number gs p.turn p.ep in
    let w = product (map radix_of gs) in
    let v = value (map radix_of gs) (map (digit_of p) gs) in
    let below = value_below (map radix_of gs) (map (digit_of p) gs) (digits_are p gs m.counts) in
    board_is p _ _
    (ap (λ r. put_groups gs (digits (map radix_of gs) r) no_men) (mod-mul-add t w v below)
    ∙ ap (λ ds. put_groups gs ds no_men)
    (digits-value (map radix_of gs) (map (digit_of p) gs) (digits_are p gs m.counts))
    ∙ cells_back gs p m)
    (ap (turn_in (targets gs)) (div-mul-add t w v below) ∙ turn_back gs p.turn p.ep
    (target_possible gs p m))
