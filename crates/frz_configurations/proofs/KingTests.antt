-- The test of a king's square.
use Rattle.std.proofs.Common.{◌≡◌, ℕ, zero, suc, Bool, true, not, ◌&&◌, ◌||◌, Some, List, [], ◌∷◌, refl, ap, sym, ◌∙◌, inl, inr}
use Rattle.std.specs.Prelude.{◌==◌}
use Rattle.std.specs.List.{list_any, slice_get}
use Rattle.std.proofs.lemmas.Bool.{and_from, and_parts, cases_Bool, eq-eqb, eqb-true, or_cases, or_right}
use Rattle.std.proofs.lemmas.List.Folds.{list_any_at}
use Rattle.std.proofs.lemmas.Option.{get_or_from_slice_get, same_Some, slice_get_within}
use Rattle.frz_board.specs.declared.man.Colour.{Colour}
use Rattle.frz_board.specs.declared.man.Colour.TheVariants.{White, Black}
use Rattle.frz_board.specs.declared.man.Kind.{Kind}
use Rattle.frz_board.specs.declared.man.Kind.TheVariants.{King}
use Rattle.frz_board.specs.Men.{same_colour}
use Rattle.frz_fide.proofs.Lemmas.{own_colour, same_side}
use Rattle.frz_sets.specs.Groups.{is_king}
use Rattle.frz_sets.specs.Views.{GroupLine}
use Rattle.frz_configurations.specs.Configurations.{has_kings}
use Rattle.frz_configurations.specs.Joined.{HasKing, IsKingSquare, of_colour}
use Rattle.frz_configurations.specs.Shares.{allows_king, has_king, is_king_square}
use Rattle.frz_configurations.proofs.KingStates.{king_kind}

-- a king on the square among some states
record IsAmong (states : List (Kind × ℕ)) (s : ℕ) : Type 0 where
  place : ℕ
  there : slice_get states place ≡ Some (King, s)

among : (states : List (Kind × ℕ)) (s : ℕ) →
    list_any (λ state. is_king state && state.1 == s) states ≡ true → IsAmong states s
among [] s h = absurd cc
among (x ∷ states) s h =
    elim (or_cases (is_king x && x.1 == s)
    (list_any (λ state. is_king state && state.1 == s) states) h) [
      | inl y ↦
          let both = and_parts (is_king x) (x.1 == s) y in
          record {
            place = 0;
            there = ap (λ (k : Kind). Some (k, x.1)) (king_kind x.0 both.0)
                ∙ ap (λ n. Some (King, n)) (eqb-true x.1 s both.1);
          }
      | inr y ↦ (let rest = among states s y in
          record { place = suc rest.place; there = rest.there })
    ]

king_there : (g : GroupLine) (s : ℕ) → has_king g s ≡ true → HasKing g s
king_there g s h =
    let found = among g.states s h in record { place = found.place; there = found.there }

there_king : (g : GroupLine) (s : ℕ) → HasKing g s → has_king g s ≡ true
there_king g s h =
    let state : Kind × ℕ = (King, s) in
    let test : Kind × ℕ → Bool = λ x. is_king x && x.1 == s in
    list_any_at test g.states h.place state (slice_get_within g.states h.place state h.there)
    (ap test (get_or_from_slice_get g.states h.place state state h.there) ∙ eq-eqb s s refl)

-- a square that passes is one on which each group of kings of the colour has one
pub passes_square : (gs : List GroupLine) (c : Colour) (s : ℕ) → is_king_square gs c s ≡ true →
    IsKingSquare gs c s
passes_square [] c s h k g e colour kings = absurd cc
passes_square (x ∷ gs) c s h zero g e colour kings =
    let same : x ≡ g = same_Some x g e in
    let here = (and_parts (allows_king c s x) (is_king_square gs c s) h).0 in
    let test : (same_colour g.colour c && has_kings g) ≡ true =
    and_from (same_colour g.colour c) (has_kings g)
    (ap (λ d. same_colour d c) colour ∙ own_colour c) kings in
    king_there g s
    (sym (ap (λ t. not t || has_king g s) test) ∙ ap (allows_king c s) (sym same) ∙ here)
passes_square (x ∷ gs) c s h (suc k) g e colour kings =
    passes_square gs c s (and_parts (allows_king c s x) (is_king_square gs c s) h).1 k g e colour
    kings

allowed : (x : GroupLine) (c : Colour) (s : ℕ) →
    (x.colour ≡ c → has_kings x ≡ true → HasKing x s) → allows_king c s x ≡ true
allowed x c s h =
    elim (cases_Bool (same_colour x.colour c && has_kings x)) [
      | inl test ↦
          let both = and_parts (same_colour x.colour c) (has_kings x) test in
          or_right (not (same_colour x.colour c && has_kings x)) (has_king x s)
          (there_king x s (h (same_side x.colour c both.0) both.1))
      | inr none ↦ ap (λ t. not t || has_king x s) none
    ]

pub square_passes : (gs : List GroupLine) (c : Colour) (s : ℕ) → IsKingSquare gs c s →
    is_king_square gs c s ≡ true
square_passes [] c s h = refl
square_passes (x ∷ gs) c s h =
    and_from (allows_king c s x) (is_king_square gs c s) (allowed x c s (h 0 x refl))
    (square_passes gs c s (λ k. h (suc k)))

-- the squares of both kings once that of a colour has moved
pub moved_white : (gs : List GroupLine) (c : Colour) (s w : ℕ) → IsKingSquare gs c s →
    IsKingSquare gs White w → IsKingSquare gs White (of_colour c s w)
moved_white gs White s w h k = h
moved_white gs Black s w h k = k

pub moved_black : (gs : List GroupLine) (c : Colour) (s b : ℕ) → IsKingSquare gs c s →
    IsKingSquare gs Black b → IsKingSquare gs Black (of_colour c b s)
moved_black gs White s b h k = k
moved_black gs Black s b h k = h
