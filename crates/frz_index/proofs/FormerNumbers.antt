-- Numbers of the former format: below its size, and different for different positions.
use Rattle.std.proofs.Common.{◌≡◌, ℕ, zero, suc, ◌+◌, ◌-◌, ◌^◌, ◌<◌, ◌≤◌, Bool, true, false, cond, Option, None, Some, List, [], ◌∷◌, ◌++◌, length, map, filter, replicate, refl, ap, sym, ◌∙◌, subst, arith, inl, inr}
use Rattle.std.specs.Prelude.{◌==◌, nat_lt, reverse}
use Rattle.std.specs.List.{AllByRecursion, flat_map, range_with_len, slice_get}
use Rattle.std.proofs.lemmas.Bool.{cases_eq, eq-eqb}
use Rattle.std.proofs.lemmas.Bool.Decides.{nat_tests}
use Rattle.std.proofs.lemmas.Grind.{reverse_onto}
use Rattle.std.proofs.lemmas.List.{length-reverse, reverse-reverse}
use Rattle.frz_board.specs.Boards.{Board}
use Rattle.frz_board.specs.declared.man.Colour.{Colour}
use Rattle.frz_board.specs.declared.man.Colour.TheVariants.{Black, White}
use Rattle.frz_combinations.proofs.Lemmas.{AreDigits-append, digits-value, places_descend, value_below, value_onto-value}
use Rattle.frz_combinations.specs.Binomials.{capped}
use Rattle.frz_combinations.specs.Combinations.{AreDescending}
use Rattle.frz_combinations.specs.MixedRadix.{AreDigits, digits, product, value, value_onto}
use Rattle.frz_combinations.specs.Selections.{digit}
use Rattle.frz_squares.specs.Squares.{squares}
use Rattle.frz_sets.specs.Sets.{is_possible, radices, targets}
use Rattle.frz_sets.specs.Views.{GroupLine}
use Rattle.frz_index.proofs.DigitByDigit.{length-old_digits}
use Rattle.frz_index.proofs.Turns.{place_at, target_place}
use Rattle.frz_index.proofs.WholeNumbers.{candidate-Num, turn_fits}
use Rattle.frz_index.specs.Candidates.{candidate}
use Rattle.frz_index.specs.Members.{Member, Num}
use Rattle.frz_index.specs.OldDigits.{radices_from, turn_before}
use Rattle.frz_index.specs.OldNumbers.{OldNum, old_digits, old_radices, old_radix, old_size_of}
use Rattle.frz_index.specs.Places.{IsWithinCount, digit_of, places, stands}
use Rattle.frz_index.specs.TurnStates.{place_of, turn_number}

-- each radix has room for the states, and behind the least men for an absent one
states_fit : (s l k : ℕ) → s ≤ old_radix s l k
states_fit s l k =
    elim (nat_lt k l) as (λ b. s ≤ cond b s (s + 1)) [ true ↦ omega arith | false ↦ omega arith ]

absent_fits : (s l k : ℕ) → l ≤ k → s < old_radix s l k
absent_fits s l k h =
    let late : nat_lt k l ≡ false = grind (arith, nat_tests) in
    let e : old_radix s l k ≡ s + 1 = ap (λ b. cond b s (s + 1)) late in
    omega arith

absent_digits : (s l a n : ℕ) → l ≤ a → AreDigits (radices_from s l a n) (replicate n s)
absent_digits s l a zero h = refl
absent_digits s l a (suc n) h = (absent_fits s l a h, absent_digits s l (a + 1) n (omega arith))

digits_of_men : (s l a n m : ℕ) (xs : List ℕ) → AllByRecursion (λ x. x < s) xs → length xs + m ≡ n →
    l ≤ a + length xs → AreDigits (radices_from s l a n) (xs ++ replicate m s)
digits_of_men s l a n m [] h e low =
    let same : m ≡ n = omega arith in
    subst (λ k. AreDigits (radices_from s l a k) (replicate m s)) same
    (absent_digits s l a m (omega arith))
digits_of_men s l a zero m (x ∷ xs) h e low = absurd (omega arith)
digits_of_men s l a (suc n) m (x ∷ xs) h e low =
    let below : x < old_radix s l a =
    (let b : x < s = h.0 in let f = states_fit s l a in omega arith) in
    (below, digits_of_men s l (a + 1) n m xs h.1 (omega arith) (omega arith))

all_push : (s x : ℕ) (xs : List ℕ) → AllByRecursion (λ x. x < s) xs → x < s →
    AllByRecursion (λ x. x < s) (xs ++ x ∷ [])
all_push s x [] h k = (k, tt)
all_push s x (y ∷ xs) h k = (h.0, all_push s x xs h.1 k)

below_reverse : (s n : ℕ) (cs : List ℕ) → n ≤ s → AreDescending n cs →
    AllByRecursion (λ x. x < s) (reverse cs)
below_reverse s n [] h d = tt
below_reverse s n (c ∷ cs) h d =
    let less : c < n = d.0 in
    subst (AllByRecursion (λ x. x < s)) (sym (reverse_onto cs c []))
    (all_push s c (reverse cs) (below_reverse s c cs (omega arith) d.1) (omega arith))

places_below_states : (p : Board) (g : GroupLine) →
    AllByRecursion (λ x. x < length g.states) (reverse (places p g))
places_below_states p g =
    below_reverse (length g.states) (length g.states) (places p g) (omega arith)
    (places_descend (λ k. stands p g.colour (slice_get g.states k)) (length g.states))

-- the digits of a group are digits
group_fits : (p : Board) (g : GroupLine) → IsWithinCount p g →
    AreDigits (old_radices g) (old_digits p g)
group_fits p g h =
    let least = h.least in
    let most = h.most in
    let same = length-reverse (places p g) in
    digits_of_men (length g.states) g.least 0 g.most (g.most - length (places p g))
    (reverse (places p g)) (places_below_states p g) (omega arith) (omega arith)

groups_fit : (p : Board) (gs : List GroupLine) → AllByRecursion (IsWithinCount p) gs →
    AreDigits (flat_map old_radices gs) (flat_map (old_digits p) gs)
groups_fit p [] h = refl
groups_fit p (g ∷ gs) h =
    AreDigits-append (old_radices g) (flat_map old_radices gs) (old_digits p g)
    (flat_map (old_digits p) gs) (group_fits p g h.0) (groups_fit p gs h.1)

-- the turn state and the digits of all groups
all_radices : List GroupLine → List ℕ
all_radices gs = (2 + length (targets gs)) ∷ flat_map old_radices gs

all_digits : List GroupLine → Board → List ℕ
all_digits gs p = turn_number gs p.turn p.ep ∷ flat_map (old_digits p) gs

all_fit : (gs : List GroupLine) (p : Board) → Member gs p →
    AreDigits (all_radices gs) (all_digits gs p)
unfolding all_radices all_digits
all_fit gs p m = (turn_fits gs p m, groups_fit p gs m.counts)

OldNum-value : (gs : List GroupLine) (p : Board) → Member gs p →
    OldNum gs p ≡ value (all_radices gs) (all_digits gs p)
unfolding OldNum all_radices all_digits
OldNum-value gs p m =
    value_onto-value (turn_number gs p.turn p.ep) (flat_map old_radices gs)
    (flat_map (old_digits p) gs) (groups_fit p gs m.counts)

size-product : (gs : List GroupLine) → old_size_of gs ≡ product (all_radices gs)
unfolding old_size_of all_radices
size-product gs = refl

pub OldNum_below : (gs : List GroupLine) (p : Board) → Member gs p → OldNum gs p < old_size_of gs
OldNum_below gs p m =
    let below = value_below (all_radices gs) (all_digits gs p) (all_fit gs p m) in
    let n = OldNum-value gs p m in
    let s = size-product gs in
    omega arith

-- different positions have different digits
same_men : (s m n : ℕ) (xs ys : List ℕ) → AllByRecursion (λ x. x < s) xs →
    AllByRecursion (λ x. x < s) ys → xs ++ replicate m s ≡ ys ++ replicate n s → xs ≡ ys
same_men s m n [] [] h k e = refl
same_men s zero n [] (y ∷ ys) h k e = absurd cc
same_men s (suc m) n [] (y ∷ ys) h k e =
    let low : y < s = k.0 in let same : s ≡ y = cc in absurd (omega arith)
same_men s m zero (x ∷ xs) [] h k e = absurd cc
same_men s m (suc n) (x ∷ xs) [] h k e =
    let low : x < s = h.0 in let same : x ≡ s = cc in absurd (omega arith)
same_men s m n (x ∷ xs) (y ∷ ys) h k e =
    let head : x ≡ y = cc in
    let tail : xs ++ replicate m s ≡ ys ++ replicate n s = cc in
    let more = same_men s m n xs ys h.1 k.1 tail in
    ap (λ z. z ∷ xs) head ∙ ap (λ zs. y ∷ zs) more

split_same : (xs ys vs ws : List ℕ) → length xs ≡ length ys → xs ++ vs ≡ ys ++ ws →
    (xs ≡ ys) × (vs ≡ ws)
split_same [] [] vs ws h e = (refl, e)
split_same [] (y ∷ ys) vs ws h e = absurd (omega arith)
split_same (x ∷ xs) [] vs ws h e = absurd (omega arith)
split_same (x ∷ xs) (y ∷ ys) vs ws h e =
    let head : x ≡ y = cc in
    let tail : xs ++ vs ≡ ys ++ ws = cc in
    let more = split_same xs ys vs ws (omega arith) tail in
    (ap (λ z. z ∷ xs) head ∙ ap (λ zs. y ∷ zs) more.0, more.1)

same_places : (p q : Board) (g : GroupLine) → old_digits p g ≡ old_digits q g →
    digit_of p g ≡ digit_of q g
same_places p q g e =
    let s = length g.states in
    let turned = same_men s (g.most - length (places p g)) (g.most - length (places q g))
    (reverse (places p g)) (reverse (places q g)) (places_below_states p g)
    (places_below_states q g) e in
    let same : places p g ≡ places q g = sym (reverse-reverse (places p g)) ∙ ap reverse turned
    ∙ reverse-reverse (places q g) in
    ap (digit s g.least) same

same_digits : (p q : Board) (gs : List GroupLine) → AllByRecursion (IsWithinCount p) gs →
    AllByRecursion (IsWithinCount q) gs →
    flat_map (old_digits p) gs ≡ flat_map (old_digits q) gs
    → map (digit_of p) gs ≡ map (digit_of q) gs
same_digits p q [] h k e = refl
same_digits p q (g ∷ gs) h k e =
    let parts = split_same (old_digits p g) (old_digits q g) (flat_map (old_digits p) gs)
    (flat_map (old_digits q) gs) (sym (length-old_digits p g h.0) ∙ length-old_digits q g k.0)
    e in
    ap (λ d. d ∷ map (digit_of p) gs) (same_places p q g parts.0)
    ∙ ap (λ ds. digit_of q g ∷ ds) (same_digits p q gs h.1 k.1 parts.1)

same_number : (gs : List GroupLine) (p q : Board) → Member gs p → Member gs q →
    all_digits gs p ≡ all_digits gs q → Num gs p ≡ Num gs q
unfolding all_digits
same_number gs p q m k e =
    let turn : turn_number gs p.turn p.ep ≡ turn_number gs q.turn q.ep = cc in
    let rest : flat_map (old_digits p) gs ≡ flat_map (old_digits q) gs = cc in
    ap (λ t. value (radices gs) (t ∷ map (digit_of p) gs)) turn
    ∙ ap (λ ds. value (radices gs) (turn_number gs q.turn q.ep ∷ ds))
    (same_digits p q gs m.counts k.counts rest)

pub OldNum_once : (gs : List GroupLine) (p q : Board) → Member gs p → Member gs q →
    OldNum gs p ≡ OldNum gs q → p ≡ q
OldNum_once gs p q m k e =
    let values : value (all_radices gs) (all_digits gs p) ≡ value (all_radices gs)
    (all_digits gs q) = sym (OldNum-value gs p m) ∙ e ∙ OldNum-value gs q k in
    let same : all_digits gs p ≡ all_digits gs q = sym
    (digits-value (all_radices gs) (all_digits gs p) (all_fit gs p m))
    ∙ ap (digits (all_radices gs)) values ∙ digits-value (all_radices gs) (all_digits gs q)
    (all_fit gs q k) in
    sym (candidate-Num gs p m) ∙ ap (candidate gs) (same_number gs p q m k same)
    ∙ candidate-Num gs q k

-- the turn state by the possible targets before the target
place_before : (f : ℕ → Bool) (t : ℕ) → f t ≡ true → (n a : ℕ) → a ≤ t → t < a + n →
    place_of t (filter f (range_with_len a n)) ≡ length (filter f (range_with_len a (t - a)))
place_before f t e zero a low high = absurd (omega arith)
place_before f t e (suc n) a low high =
    let later = filter f (range_with_len (a + 1) n) in
    elim (cases_eq t a) [
      | inl same ↦
          let none : t - a ≡ 0 = omega arith in
          let here : f a ≡ true = ap f (sym same) ∙ e in
          ap (λ b. place_of t (cond b (a ∷ later) later)) here
          ∙ place_at t a later true (eq-eqb t a same)
          ∙ sym (ap (λ k. length (filter f (range_with_len a k))) none)
      | inr other ↦
          let k = t - (a + 1) in
          let more : t - a ≡ suc k = omega arith in
          let test : (t == a) ≡ false = grind (arith, nat_tests) in
          let rest = place_before f t e n (a + 1) (omega arith) (omega arith) in
          let before = filter f (range_with_len (a + 1) k) in
          let place_either_way : (b : Bool) → place_of t (cond b (a ∷ later) later) ≡ length
          (cond b (a ∷ before) before) =
          λ b. elim b as (λ b. place_of t (cond b (a ∷ later) later) ≡ length
          (cond b (a ∷ before) before)) [
            | true ↦ place_at t a later false test ∙ ap suc rest
            | false ↦ rest
          ] in
          place_either_way (f a) ∙ sym (ap (λ k. length (filter f (range_with_len a k))) more)
    ]

pub turn_found : (gs : List GroupLine) (c : Colour) (o : Option ℕ) →
    ((t : ℕ) → o ≡ Some t → (t < 64) × (is_possible gs t ≡ true)) →
    turn_before gs c o ≡ turn_number gs c o
unfolding squares
turn_found gs c (Some t) h =
    let at = h t refl in
    let zero_less : t - 0 ≡ t = omega arith in
    let place = place_before (is_possible gs) t at.1 64 0 (omega arith) (omega (arith, at.0)) in
    let count = ap (λ k. length (filter (is_possible gs) (range_with_len 0 k))) zero_less in
    let e : length (filter (is_possible gs) (range_with_len 0 t)) ≡ place_of t (targets gs) =
    sym count ∙ sym place in
    ap (λ n. suc (suc n)) e
turn_found gs White None h = refl
turn_found gs Black None h = refl

pub turn_same : (gs : List GroupLine) (p : Board) → Member gs p →
    turn_before gs p.turn p.ep ≡ turn_number gs p.turn p.ep
turn_same gs p m =
    turn_found gs p.turn p.ep (λ t e. (let at = target_place gs p m t e in (at.0, at.1)))

-- what the code makes is the number
pub number_made : (gs : List GroupLine) (p : Board) (turn n : ℕ) → Member gs p →
    old_size_of gs ≤ 16777216 → turn ≡ turn_before gs p.turn p.ep →
    n ≡ capped (value_onto turn (flat_map old_radices gs) (flat_map (old_digits p) gs)) →
    (n ≡ OldNum gs p) × (n < 2 ^ 32)
unfolding OldNum
number_made gs p turn n m size et en =
    let below = OldNum_below gs p m in
    let same : turn ≡ turn_number gs p.turn p.ep = et ∙ turn_same gs p m in
    let e : n ≡ capped (value_onto (turn_number gs p.turn p.ep) (flat_map old_radices gs)
    (flat_map (old_digits p) gs)) =
    en ∙ ap (λ t. capped (value_onto t (flat_map old_radices gs) (flat_map (old_digits p) gs)))
    same in
    (omega arith, omega arith)
