-- Groups without kings count the same men on a board with kings and without.
use Rattle.std.proofs.Common.{◌≡◌, ℕ, ◌<◌, zero, suc, Bool, true, false, not, cond, Option, None, Some, List, [], ◌∷◌, length, map, refl, ap, ◌∙◌, arith}
use Rattle.std.specs.Prelude.{◌==◌}
use Rattle.std.specs.List.{AllByRecursion, list_any, slice_get}
use Rattle.std.proofs.lemmas.Bool.{false_from_ne_true}
use Rattle.std.proofs.lemmas.List.Folds.{list_any_at}
use Rattle.std.proofs.lemmas.Option.{get_or_from_slice_get, slice_get_within}
use Rattle.frz_board.specs.declared.man.Colour.{Colour}
use Rattle.frz_board.specs.declared.man.Colour.TheVariants.{White, Black}
use Rattle.frz_board.specs.declared.man.Kind.{Kind}
use Rattle.frz_board.specs.declared.man.Kind.TheVariants.{King, Queen, Rook, Bishop, Knight, Pawn}
use Rattle.frz_board.specs.Boards.{Board}
use Rattle.frz_board.specs.Men.{cell_of_man, number_of_kind}
use Rattle.frz_combinations.specs.Combinations.{places_below}
use Rattle.frz_combinations.specs.Selections.{digit}
use Rattle.frz_sets.specs.Groups.{is_king}
use Rattle.frz_sets.specs.Views.{GroupLine}
use Rattle.frz_index.specs.Places.{IsWithinCount, digit_of, places, stands}
use Rattle.frz_configurations.specs.Configurations.{has_kings, others}
use Rattle.frz_king_planes.specs.Kings.{are_free, king_cell, with_kings}
use Rattle.frz_king_planes.proofs.Lemmas.{same_test}

-- what holds of all groups holds of those without kings
pub all_others : (P : GroupLine → Type 0) (gs : List GroupLine) → AllByRecursion P gs →
    AllByRecursion P (others gs)
all_others P [] h = h
all_others P (g ∷ gs) h =
    elim (has_kings g) as
    (λ t. AllByRecursion P (cond (not t) (g ∷ others gs) (others gs))) [
      | true ↦ all_others P gs h.1
      | false ↦ (h.0, all_others P gs h.1)
    ]

-- no other man has a king's number
pub no_king_cell : (c d : Colour) (k : Kind) → (number_of_kind k == 1) ≡ false →
    (king_cell d == cell_of_man (record { colour = c; kind = k })) ≡ false
no_king_cell White White King h = absurd cc
no_king_cell White White Queen h = refl
no_king_cell White White Rook h = refl
no_king_cell White White Bishop h = refl
no_king_cell White White Knight h = refl
no_king_cell White White Pawn h = refl
no_king_cell White Black King h = absurd cc
no_king_cell White Black Queen h = refl
no_king_cell White Black Rook h = refl
no_king_cell White Black Bishop h = refl
no_king_cell White Black Knight h = refl
no_king_cell White Black Pawn h = refl
no_king_cell Black White King h = absurd cc
no_king_cell Black White Queen h = refl
no_king_cell Black White Rook h = refl
no_king_cell Black White Bishop h = refl
no_king_cell Black White Knight h = refl
no_king_cell Black White Pawn h = refl
no_king_cell Black Black King h = absurd cc
no_king_cell Black Black Queen h = refl
no_king_cell Black Black Rook h = refl
no_king_cell Black Black Bishop h = refl
no_king_cell Black Black Knight h = refl
no_king_cell Black Black Pawn h = refl

pub no_empty_man : (c : Colour) (k : Kind) →
    (0 == cell_of_man (record { colour = c; kind = k })) ≡ false
no_empty_man White King = refl
no_empty_man White Queen = refl
no_empty_man White Rook = refl
no_empty_man White Bishop = refl
no_empty_man White Knight = refl
no_empty_man White Pawn = refl
no_empty_man Black King = refl
no_empty_man Black Queen = refl
no_empty_man Black Rook = refl
no_empty_man Black Bishop = refl
no_empty_man Black Knight = refl
no_empty_man Black Pawn = refl

-- a test that no element passes
pub none_passes : {X : Type 0} (test : X → Bool) (xs : List X) (i : ℕ) (x : X) →
    list_any test xs ≡ false → slice_get xs i ≡ Some x → test x ≡ false
none_passes test xs i x none e =
    false_from_ne_true (test x)
    (λ h. let some = list_any_at test xs i x (slice_get_within xs i x e)
    (ap test (get_or_from_slice_get xs i x x e) ∙ h) in absurd cc)

-- tests that agree list the same places
places_same : (f g : ℕ → Bool) → ((k : ℕ) → f k ≡ g k) → (n : ℕ) →
    places_below f n ≡ places_below g n
places_same f g h zero = refl
places_same f g h (suc n) =
    ap (λ t. cond t (n ∷ places_below f n) (places_below f n)) (h n)
    ∙ ap (λ cs. cond (g n) (n ∷ cs) cs) (places_same f g h n)

module _ (p : Board) (a b : ℕ) (size : length p.cells ≡ 64) (la : a < 64) (lb : b < 64)
    (free : are_free p a b ≡ true) where
  abbrev q : Board
  q = with_kings p a b

  stands_alike : (c : Colour) (o : Option (Kind × ℕ)) →
      ((state : Kind × ℕ) → o ≡ Some state → is_king state ≡ false) →
      stands q c o ≡ stands p c o
  stands_alike c None h = refl
  stands_alike c (Some state) h =
      same_test p a b size la lb free
      (λ x. x == cell_of_man (record { colour = c; kind = state.0 }))
      (no_empty_man c state.0) (no_king_cell c White state.0 (h state refl))
      (no_king_cell c Black state.0 (h state refl)) state.1

  pub places_alike : (g : GroupLine) → has_kings g ≡ false → places q g ≡ places p g
  places_alike g none =
      places_same (λ k. stands q g.colour (slice_get g.states k))
      (λ k. stands p g.colour (slice_get g.states k))
      (λ k. stands_alike g.colour (slice_get g.states k)
      (λ state e. none_passes is_king g.states k state none e)) (length g.states)

  pub digits_alike : (gs : List GroupLine) →
      map (digit_of q) (others gs) ≡ map (digit_of p) (others gs)
  digits_alike [] = refl
  digits_alike (g ∷ gs) =
      let either : (t : Bool) → has_kings g ≡ t →
      map (digit_of q) (cond (not t) (g ∷ others gs) (others gs))
      ≡ map (digit_of p) (cond (not t) (g ∷ others gs) (others gs)) =
      λ t. elim t as (λ t. has_kings g ≡ t →
      map (digit_of q) (cond (not t) (g ∷ others gs) (others gs))
      ≡ map (digit_of p) (cond (not t) (g ∷ others gs) (others gs))) [
        | true ↦ λ e. digits_alike gs
        | false ↦ λ e.
            ap (λ cs. digit (length g.states) g.least cs ∷ map (digit_of q) (others gs))
            (places_alike g e)
            ∙ ap (λ ds. digit_of p g ∷ ds) (digits_alike gs)
      ] in
      either (has_kings g) refl

  pub counted_alike : (g : GroupLine) → has_kings g ≡ false → IsWithinCount p g →
      IsWithinCount q g
  counted_alike g none h =
      let same = ap (λ cs. length cs) (places_alike g none) in
      let low = h.least in
      let high = h.most in
      record { least = omega arith; most = omega arith }
