-- The same men with Black to move have the next turn state, and the same digits.
use Rattle.std.proofs.Common.{◌≡◌, ℕ, zero, suc, ◌+◌, ◌*◌, ◌<◌, ◌≤◌, Bool, cond, Option, None, Some, List, [], ◌∷◌, length, map, refl, ap, sym, subst, ◌∙◌, arith}
use Rattle.std.specs.List.{AllByRecursion, slice_get}
use Rattle.frz_board.specs.Boards.{Board}
use Rattle.frz_board.specs.declared.man.Colour.{Colour}
use Rattle.frz_board.specs.declared.man.Colour.TheVariants.{White}
use Rattle.frz_board.specs.declared.man.Kind.{Kind}
use Rattle.frz_combinations.proofs.Lemmas.{value_below}
use Rattle.frz_combinations.specs.Combinations.{places_below}
use Rattle.frz_combinations.specs.MixedRadix.{product, value}
use Rattle.frz_combinations.specs.Selections.{digit}
use Rattle.frz_fide.specs.Valid.{IsValid}
use Rattle.frz_index.proofs.AtNumbers.{is_candidate}
use Rattle.frz_index.proofs.WholeNumbers.{digits_are}
use Rattle.frz_index.specs.Members.{HasNumber, Member, Num}
use Rattle.frz_index.specs.Partners.{with_black}
use Rattle.frz_index.specs.Places.{IsWithinCount, digit_of, places, stands}
use Rattle.frz_index.specs.TurnStates.{turn_number}
use Rattle.frz_sets.specs.Sets.{radices, radix_of, size_of, targets}
use Rattle.frz_sets.specs.Views.{GroupLine}

same_stands : (p : Board) (c : Colour) (o : Option (Kind × ℕ)) →
    stands (with_black p) c o ≡ stands p c o
same_stands p c None = refl
same_stands p c (Some state) = refl

pub same_below : (f h : ℕ → Bool) → ((k : ℕ) → f k ≡ h k) → (n : ℕ) →
    places_below f n ≡ places_below h n
same_below f h e zero = refl
same_below f h e (suc n) =
    ap (λ b. cond b (n ∷ places_below f n) (places_below f n)) (e n)
    ∙ ap (λ ks. cond (h n) (n ∷ ks) ks) (same_below f h e n)

same_places : (p : Board) (g : GroupLine) → places (with_black p) g ≡ places p g
same_places p g =
    same_below (λ k. stands (with_black p) g.colour (slice_get g.states k))
    (λ k. stands p g.colour (slice_get g.states k))
    (λ k. same_stands p g.colour (slice_get g.states k))
    (length g.states)

same_digits : (p : Board) (gs : List GroupLine) →
    map (digit_of (with_black p)) gs ≡ map (digit_of p) gs
same_digits p [] = refl
same_digits p (g ∷ gs) =
    ap (λ d. d ∷ map (digit_of (with_black p)) gs)
    (ap (digit (length g.states) g.least) (same_places p g))
    ∙ ap (λ ds. digit_of p g ∷ ds) (same_digits p gs)

same_counts : (p : Board) (gs : List GroupLine) → AllByRecursion (IsWithinCount p) gs →
    AllByRecursion (IsWithinCount (with_black p)) gs
same_counts p [] h = tt
same_counts p (g ∷ gs) h =
    let same = sym (ap length (same_places p g)) in (
      record {
        least = subst (λ n. g.least ≤ n) same h.0.least;
        most = subst (λ n. n ≤ g.most) same h.0.most;
      },
      same_counts p gs h.1,
    )

-- they are in the set where they are valid
pub Member-with_black : (gs : List GroupLine) (p : Board) → Member gs p → IsValid (with_black p) →
    Member gs (with_black p)
Member-with_black gs p m v =
    record { valid = v; men = m.men; counts = same_counts p gs m.counts }

-- their number is that of the next turn state
Num-with_black : (gs : List GroupLine) (p : Board) → p.turn ≡ White → p.ep ≡ None →
    Num gs (with_black p) ≡ Num gs p + product (map radix_of gs)
Num-with_black gs p white none =
    let first : turn_number gs p.turn p.ep ≡ 0 = ap (λ c. turn_number gs c p.ep) white
    ∙ ap (turn_number gs White) none in
    let turn = ap (λ t. t * product (map radix_of gs)) first in
    omega (arith, turn, ap (value (map radix_of gs)) (same_digits p gs))

-- it is below the size, whether they are valid or not
Num-with_black_below : (gs : List GroupLine) (p : Board) → Member gs p →
    Num gs (with_black p) < size_of gs
Num-with_black_below gs p m =
    let low : 1 < 2 + length (targets gs) = omega arith in
    let below = value_below (radices gs) (1 ∷ map (digit_of p) gs)
    (low, digits_are p gs m.counts) in
    subst (λ ds. value (radices gs) (1 ∷ ds) < size_of gs) (sym (same_digits p gs)) below

-- the number of a position with White to move and no target
abbrev pub IsFirst : List GroupLine → ℕ → Type 0
IsFirst gs i = (p : Board) × HasNumber gs i p × (p.turn ≡ White) × (p.ep ≡ None)

pub second_is : (gs : List GroupLine) (i whole : ℕ) → IsFirst gs i →
    whole ≡ product (map radix_of gs) → (p : Board) → HasNumber gs i p →
    Num gs (with_black p) ≡ i + whole
second_is gs i whole first e p h =
    let same : first.0 ≡ p = sym (is_candidate gs i first.0 first.1) ∙ is_candidate gs i p h in
    Num-with_black gs p (ap (λ (b : Board). b.turn) (sym same) ∙ first.2)
    (ap (λ (b : Board). b.ep) (sym same) ∙ first.3)
    ∙ ap (λ n. n + product (map radix_of gs)) h.number ∙ ap (λ w. i + w) (sym e)

pub second_below : (gs : List GroupLine) (i whole : ℕ) → IsFirst gs i →
    whole ≡ product (map radix_of gs) → i + whole < size_of gs
second_below gs i whole first e =
    subst (λ n. n < size_of gs) (second_is gs i whole first e first.0 first.1)
    (Num-with_black_below gs first.0 first.1.member)
