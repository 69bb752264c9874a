-- The digits of the former format, one after another, in numbers that are kept within 64 bits.
use Rattle.std.proofs.Common.{◌≡◌, ℕ, zero, suc, ◌+◌, ◌-◌, ◌*◌, ◌^◌, ◌<◌, ◌≤◌, Bool, true, false, List, [], ◌∷◌, ◌++◌, drop, length, get_or, replicate, refl, ap, sym, ◌∙◌, subst, arith}
use Rattle.std.specs.Prelude.{reverse}
use Rattle.std.specs.List.{AllByRecursion, flat_map, slice_get}
use Rattle.std.proofs.lemmas.Grind.{replicate_next, reverse_onto}
use Rattle.std.proofs.lemmas.List.{length-append, length-replicate, length-reverse}
use Rattle.std.proofs.lemmas.List.FromFn.{length-map-range_with_len, map-range_with_len_more}
use Rattle.std.proofs.lemmas.Option.{slice_get_read, same_Some}
use Rattle.frz_board.specs.Boards.{Board, has}
use Rattle.frz_board.specs.declared.man.Colour.{Colour}
use Rattle.frz_board.specs.declared.man.Kind.{Kind}
use Rattle.frz_combinations.proofs.Lemmas.{place_counts, value_onto-append}
use Rattle.frz_combinations.specs.Binomials.{capped}
use Rattle.frz_combinations.specs.MixedRadix.{value_onto}
use Rattle.frz_sets.proofs.Lemmas.{capped_times}
use Rattle.frz_sets.specs.Views.{GroupLine}
use Rattle.frz_index.proofs.Counting.{place_off, place_on}
use Rattle.frz_index.proofs.GroupSteps.{drop_end, drop_read}
use Rattle.frz_index.specs.OldDigits.{ArePlaced, radices_from}
use Rattle.frz_index.specs.OldNumbers.{old_digits, old_radices, old_radix}
use Rattle.frz_index.specs.Places.{IsWithinCount, places, places_among, stands}

-- a number may be kept within 64 bits before a digit comes behind it
same_sum : (a b d : ℕ) → capped a ≡ capped b → capped (a + d) ≡ capped (b + d)
same_sum a b d h = omega arith

pub capped_digit : (x r d : ℕ) → capped (capped x * r + d) ≡ capped (x * r + d)
capped_digit x r d = same_sum (capped x * r) (x * r) d (capped_times x r)

pub capped_small : (x : ℕ) → x < 2 ^ 64 → capped x ≡ x
capped_small x h = omega arith

same_digit : (x y r d : ℕ) → capped x ≡ capped y → capped (x * r + d) ≡ capped (y * r + d)
same_digit x y r d h =
    sym (capped_digit x r d) ∙ ap (λ z. capped (z * r + d)) h ∙ capped_digit y r d

pub capped_onto : (x y : ℕ) (bs ds : List ℕ) → capped x ≡ capped y →
    capped (value_onto x bs ds) ≡ capped (value_onto y bs ds)
capped_onto x y [] ds h = h
capped_onto x y (b ∷ bs) [] h = h
capped_onto x y (b ∷ bs) (d ∷ ds) h =
    capped_onto (x * b + d) (y * b + d) bs ds (same_digit x y b d h)

pub capped-capped : (x : ℕ) → capped (capped x) ≡ capped x
capped-capped x = omega arith

-- one digit more
pub digit_more : (s l a n start number next r d k : ℕ) (ds : List ℕ) → length ds ≡ n → a + n ≡ k →
    number ≡ capped (value_onto start (radices_from s l a n) ds) → r ≡ old_radix s l k →
    next ≡ capped (number * r + d) →
    next ≡ capped (value_onto start (radices_from s l a (n + 1)) (ds ++ d ∷ []))
digit_more s l a n start number next r d k ds len at e er en =
    let so_far = value_onto start (radices_from s l a n) ds in
    let more = map-range_with_len_more (old_radix s l) a n k at in
    let same : length (radices_from s l a n) ≡ length ds = length-map-range_with_len (old_radix s l)
    a n ∙ sym len in
    en ∙ ap (λ x. capped (x * r + d)) e ∙ capped_digit so_far r d
    ∙ ap (λ x. capped (so_far * x + d)) er
    ∙ sym (ap (λ rs. capped (value_onto start rs (ds ++ d ∷ []))) more
    ∙ ap capped (value_onto-append start (radices_from s l a n) (old_radix s l k ∷ []) ds
    (d ∷ []) same))

-- the absent men up to the digit at k
abbrev pub AreAbsent : ℕ → ℕ → ℕ → ℕ → ℕ → ℕ → Type 0
AreAbsent s l count start k number =
    number
    ≡ capped (value_onto start (radices_from s l count (k - count)) (replicate (k - count) s))

pub absent_start : (s l count start : ℕ) → start < 2 ^ 64 → AreAbsent s l count start count start
absent_start s l count start h =
    let none : count - count ≡ 0 = omega arith in
    sym (ap (λ n. capped (value_onto start (radices_from s l count n) (replicate n s))) none
    ∙ capped_small start h)

pub absent_more : (s l count start k number next r : ℕ) → count ≤ k →
    AreAbsent s l count start k number → r ≡ old_radix s l k → next ≡ capped (number * r + s) →
    AreAbsent s l count start (k + 1) next
absent_more s l count start k number next r low e er en =
    let n : k + 1 - count ≡ (k - count) + 1 = omega arith in
    digit_more s l count (k - count) start number next r s k (replicate (k - count) s)
    (length-replicate (k - count) s) (omega arith) e er en
    ∙ sym (ap (λ n. capped (value_onto start (radices_from s l count n) (replicate n s))) n
    ∙ ap (λ ds. capped (value_onto start (radices_from s l count ((k - count) + 1)) ds))
    (replicate_next (k - count) s))

pub absent_end : (s l count start k most number : ℕ) → k ≡ most →
    AreAbsent s l count start k number → AreAbsent s l count start most number
absent_end s l count start k most number e h =
    subst (λ k. AreAbsent s l count start k number) e h

-- the men at the first states
stand_read : (p : Board) (c : Colour) (states : List (Kind × ℕ)) (k : ℕ) (a b : Kind × ℕ) →
    k < length states → a ≡ get_or states k a → b ≡ get_or states k b →
    has p c (get_or states k a).0 (get_or states k b).1 ≡ stands p c (slice_get states k)
stand_read p c states k a b h ea eb =
    let at_a = slice_get_read states (length states) k a refl h ea in
    let at_b = slice_get_read states (length states) k b refl h eb in
    let same : a ≡ b = same_Some a b (sym at_a ∙ at_b) in
    ap (λ (x : Kind × ℕ). has p c x.0 (get_or states k b).1) (sym ea)
    ∙ ap (λ (x : Kind × ℕ). has p c a.0 x.1) (sym eb ∙ sym same) ∙ sym (ap (stands p c) at_a)

-- a test of the man at the place k
pub record IsTested (p : Board) (c : Colour) (states : List (Kind × ℕ)) (k : ℕ)
    (there : Bool) : Type 0 where
  pub test : stands p c (slice_get states k) ≡ there

pub tested : (p : Board) (c : Colour) (states : List (Kind × ℕ)) (k : ℕ) (a b : Kind × ℕ)
    (r there : Bool) →
    k < length states → a ≡ get_or states k a → b ≡ get_or states k b →
    r ≡ has p c (get_or states k a).0 (get_or states k b).1 → r ≡ there →
    IsTested p c states k there
tested p c states k a b r there h ea eb er et =
    record { test = sym (stand_read p c states k a b h ea eb) ∙ sym er ∙ et }

pub placed_start : (p : Board) (c : Colour) (states : List (Kind × ℕ)) (least most start : ℕ) →
    start < 2 ^ 64 → ArePlaced p c states least most start 0 0 start
placed_start p c states least most start h =
    record { count_is = refl; few = omega arith; number_is = sym (capped_small start h) }

pub placed_on : (p : Board) (c : Colour) (states : List (Kind × ℕ))
    (least most start k count number next r : ℕ) →
    IsTested p c states k true → (count ≡ most → ⊥) →
    ArePlaced p c states least most start k count number →
    r ≡ old_radix (length states) least count → next ≡ capped (number * r + k) →
    ArePlaced p c states least most start (k + 1) (count + 1) next
placed_on p c states least most start k count number next r t room h er en =
    let ks = places_among p c states k in
    let more : places_among p c states (k + 1) ≡ k ∷ ks = place_on
    (λ j. stands p c (slice_get states j)) k t.test in
    let turned : reverse (k ∷ ks) ≡ reverse ks ++ k ∷ [] = reverse_onto ks k [] in
    record {
      count_is = omega (arith, h.count_is, ap length more);
      few = omega (arith, h.few);
      number_is =
          digit_more (length states) least 0 count start number next r k count (reverse ks)
          (length-reverse ks ∙ sym h.count_is) (omega arith) h.number_is er en
          ∙ ap (λ ds. capped
          (value_onto start (radices_from (length states) least 0 (count + 1)) ds))
          (sym (ap reverse more ∙ turned));
    }

pub placed_off : (p : Board) (c : Colour) (states : List (Kind × ℕ))
    (least most start k count number : ℕ) →
    IsTested p c states k false → ArePlaced p c states least most start k count number →
    ArePlaced p c states least most start (k + 1) count number
placed_off p c states least most start k count number t h =
    let same : places_among p c states (k + 1) ≡ places_among p c states k = place_off
    (λ j. stands p c (slice_get states j)) k t.test in
    record {
      count_is = h.count_is ∙ sym (ap length same);
      few = h.few;
      number_is =
          h.number_is
          ∙ ap (λ ks. capped
          (value_onto start (radices_from (length states) least 0 count) (reverse ks))) (sym same);
    }

-- one man more than the most
pub one_too_many : (p : Board) (c : Colour) (states : List (Kind × ℕ))
    (least most start k count number : ℕ) →
    k < length states → IsTested p c states k true → count ≡ most →
    ArePlaced p c states least most start k count number →
    most < length (places_among p c states (length states))
one_too_many p c states least most start k count number low t full h =
    omega (
      arith,
      h.count_is,
      place_counts (λ j. stands p c (slice_get states j)) k (length states)
          low t.test,
    )

-- the digits of the men and those of absent ones are the group's
radices_split : (s l a n m : ℕ) →
    radices_from s l a (n + m) ≡ radices_from s l a n ++ radices_from s l (a + n) m
radices_split s l a zero m =
    let e : 0 + m ≡ m = omega arith in
    let z : a ≡ a + 0 = omega arith in
    ap (radices_from s l a) e ∙ ap (λ b. radices_from s l b m) z
radices_split s l a (suc n) m =
    let e : suc n + m ≡ suc (n + m) = omega arith in
    let z : (a + 1) + n ≡ a + suc n = omega arith in
    ap (radices_from s l a) e
    ∙ ap (λ rs. old_radix s l a ∷ rs)
    (radices_split s l (a + 1) n m ∙ ap (λ b. radices_from s l (a + 1) n ++ radices_from s l b m) z)

pub group_digits : (p : Board) (g : GroupLine) (start count number next : ℕ) →
    ArePlaced p g.colour g.states g.least g.most start (length g.states) count number →
    AreAbsent (length g.states) g.least count number g.most next →
    next ≡ capped (value_onto start (old_radices g) (old_digits p g))
group_digits p g start count number next h e =
    let s = length g.states in
    let ks = places p g in
    let rest = g.most - count in
    let first = radices_from s g.least 0 count in
    let split : old_radices g ≡ first ++ radices_from s g.least count rest =
    (let m : g.most ≡ count + rest = (let f = h.few in omega arith) in
    let z : 0 + count ≡ count = omega arith in
    ap (radices_from s g.least 0) m ∙ radices_split s g.least 0 count rest
    ∙ ap (λ b. first ++ radices_from s g.least b rest) z) in
    let ds : old_digits p g ≡ reverse ks ++ replicate rest s =
    ap (λ n. reverse ks ++ replicate (g.most - n) s) (sym h.count_is) in
    let same : length first ≡ length (reverse ks) = length-map-range_with_len (old_radix s g.least)
    0 count ∙ h.count_is ∙ sym (length-reverse ks) in
    e
    ∙ capped_onto number (value_onto start first (reverse ks)) (radices_from s g.least count rest)
    (replicate rest s) (ap capped h.number_is ∙ capped-capped (value_onto start first (reverse ks)))
    ∙ ap capped (sym
    (value_onto-append start first (radices_from s g.least count rest) (reverse ks)
    (replicate rest s) same))
    ∙ sym (ap (λ rs. capped (value_onto start rs (old_digits p g))) split
    ∙ ap (λ xs. capped (value_onto start (first ++ radices_from s g.least count rest) xs)) ds)

-- the digits of a group whose fields were read
pub group_done : (p : Board) (v g : GroupLine) (slice : List (Kind × ℕ))
    (start count number next : ℕ) →
    v ≡ g → slice ≡ v.states → v.least ≤ count →
    ArePlaced p v.colour slice v.least v.most start (length slice) count number →
    AreAbsent (length slice) v.least count number v.most next →
    IsWithinCount p g × (next ≡ capped (value_onto start (old_radices g) (old_digits p g)))
group_done p v g slice start count number next same read low h e =
    let Placed : List (Kind × ℕ) → Type 0 = λ states. ArePlaced p v.colour states v.least v.most
    start (length states) count number in
    let Absent : List (Kind × ℕ) → Type 0 = λ states. AreAbsent (length states) v.least count number
    v.most next in
    let Done : GroupLine → Type 0 = λ x. IsWithinCount p x
    × (next ≡ capped (value_onto start (old_radices x) (old_digits p x))) in
    let placed : ArePlaced p v.colour v.states v.least v.most start (length v.states) count number =
    subst Placed read h in
    let within : IsWithinCount p v = record {
      least = (let n = placed.count_is in omega arith);
      most = (let n = placed.count_is in let f = placed.few in omega arith);
    } in
    subst Done same (within, group_digits p v start count number next placed (subst Absent read e))

-- as many digits as radices
pub length-old_digits : (p : Board) (g : GroupLine) → IsWithinCount p g →
    length (old_radices g) ≡ length (old_digits p g)
length-old_digits p g h =
    let m = h.most in
    length-map-range_with_len (old_radix (length g.states) g.least) 0 g.most
    ∙ sym (length-append (reverse (places p g))
    (replicate (g.most - length (places p g)) (length g.states))
    ∙ omega (
      arith,
      length-reverse (places p g),
      length-replicate (g.most - length (places p g))
          (length g.states),
    ))

-- the digits of the first i groups make this number
pub record OldLeft (p : Board) (gs : List GroupLine) (start i number : ℕ) : Type 0 where
  pub counted : AllByRecursion (IsWithinCount p) (drop i gs) → AllByRecursion (IsWithinCount p) gs
  pub fits : number < 2 ^ 64
  pub number_is : capped
      (value_onto number (flat_map old_radices (drop i gs)) (flat_map (old_digits p) (drop i gs)))
      ≡ capped (value_onto start (flat_map old_radices gs) (flat_map (old_digits p) gs))

pub old_start : (p : Board) (gs : List GroupLine) (start : ℕ) → start < 2 ^ 64 →
    OldLeft p gs start 0 start
old_start p gs start h =
    record { counted = λ h. h; fits = h; number_is = refl }

pub old_step : (p : Board) (gs : List GroupLine) (start i number next : ℕ) (g : GroupLine) →
    i < length gs → g ≡ get_or gs i g → OldLeft p gs start i number → IsWithinCount p g →
    next ≡ capped (value_onto number (old_radices g) (old_digits p g)) →
    OldLeft p gs start (i + 1) next
old_step p gs start i number next g low e h w en =
    let is = drop_read gs i g low e in
    let rs = flat_map old_radices (drop (i + 1) gs) in
    let ds = flat_map (old_digits p) (drop (i + 1) gs) in
    let so_far = value_onto number (old_radices g) (old_digits p g) in
    record {
      counted = λ k. h.counted (subst (AllByRecursion (IsWithinCount p)) (sym is) (w, k));
      fits = omega arith;
      number_is =
          capped_onto next so_far rs ds (ap capped en ∙ capped-capped so_far)
          ∙ ap capped (sym
          (value_onto-append number (old_radices g) rs (old_digits p g) ds
          (length-old_digits p g w)))
          ∙ sym (ap (λ xs. capped
          (value_onto number (flat_map old_radices xs) (flat_map (old_digits p) xs))) is)
          ∙ h.number_is;
    }

pub old_end : (p : Board) (gs : List GroupLine) (start i number : ℕ) → length gs ≤ i →
    OldLeft p gs start i number →
    AllByRecursion (IsWithinCount p) gs
    × (number ≡ capped (value_onto start (flat_map old_radices gs) (flat_map (old_digits p) gs)))
old_end p gs start i number past h =
    let e = drop_end gs i past in (
      h.counted (subst (AllByRecursion (IsWithinCount p)) (sym e) tt),
      sym (capped_small number h.fits)
          ∙ sym (ap (λ xs. capped
          (value_onto number (flat_map old_radices xs) (flat_map (old_digits p) xs))) e)
          ∙ h.number_is,
    )
