-- The groups one after another.
use Rattle.std.proofs.Common.{◌≡◌, ◌≢◌, true, false, cond, ℕ, zero, suc, ◌+◌, ◌*◌, ◌/◌, ◌%◌, ◌<◌, ◌≤◌, Option, None, Some, List, [], ◌∷◌, length, map, drop, get_or, slice_index, refl, ap, sym, ◌∙◌, subst, arith, add-one, mul_assoc}
use Rattle.std.specs.List.{AllByRecursion}
use Rattle.std.proofs.Math.Seq.{drop-cons}
use Rattle.std.proofs.Math.Nat.{add-mul}
use Rattle.std.proofs.lemmas.Nat.{mul-le}
use Rattle.std.specs.Prelude.{◌==◌, ◌&&◌}
use Rattle.std.proofs.lemmas.Bool.{eq-eqb}
use Rattle.std.proofs.lemmas.Bool.Decides.{nat_tests}
use Rattle.frz_board.specs.Boards.{Board}
use Rattle.frz_combinations.proofs.Lemmas.{choose_some}
use Rattle.frz_combinations.proofs.Lemmas.{places_descend}
use Rattle.frz_combinations.proofs.Lemmas.{digit_below}
use Rattle.frz_combinations.specs.Binomials.{capped}
use Rattle.frz_combinations.specs.MixedRadix.{digits, product, value}
use Rattle.frz_index.proofs.Turns.{place_at}
use Rattle.frz_index.specs.FixedMen.{are_loose_free, is_free_if_loose, put_if_loose, put_loose}
use Rattle.frz_index.specs.Kept.{AreNumberable, AreWeights, product_from}
use Rattle.frz_sets.specs.Sound.{IsCounted}
use Rattle.frz_index.specs.Places.{IsWithinCount, digit_of, places, stands}
use Rattle.frz_index.specs.TurnStates.{place_of, turn_among}
use Rattle.frz_board.specs.declared.man.Colour.{Colour}
use Rattle.frz_board.specs.declared.man.Colour.TheVariants.{White, Black}
use Rattle.frz_sets.specs.Sets.{radix_of, targets}
use Rattle.frz_sets.specs.Views.{GroupLine}
use Rattle.std.specs.List.{slice_get}

pub all_drop : {X : Type 0} (P : X → Type 0) (xs : List X) (i : ℕ) → AllByRecursion P xs →
    AllByRecursion P (drop i xs)
all_drop P xs zero h = h
all_drop P [] (suc i) h = tt
all_drop P (x ∷ xs) (suc i) h = all_drop P xs i h.1

-- an element that was read stands first in what is left
pub drop_read : {X : Type 0} (xs : List X) (i : ℕ) (x : X) → i < length xs → x ≡ get_or xs i x →
    drop i xs ≡ x ∷ drop (i + 1) xs
drop_read xs i x h e =
    drop-cons xs i x h ∙ ap (λ y. y ∷ drop (suc i) xs) (sym e)
    ∙ ap (λ n. x ∷ drop n xs) (sym (add-one i))

pub drop_end : {X : Type 0} (xs : List X) (i : ℕ) → length xs ≤ i → drop i xs ≡ []
drop_end [] zero h = refl
drop_end [] (suc i) h = refl
drop_end (x ∷ xs) zero h = absurd (omega arith)
drop_end (x ∷ xs) (suc i) h = drop_end xs i (omega arith)

pub radix_some : (g : GroupLine) → IsCounted g → 0 < radix_of g
radix_some g s =
    omega (arith, choose_some (length g.states) g.least (omega (arith, s.order, s.room)))

mul_some : (a b : ℕ) → 0 < a → 0 < b → 0 < a * b
mul_some a b h k = omega (arith, mul-le 1 1 a b h k)

pub product_some : (gs : List GroupLine) → AllByRecursion IsCounted gs →
    0 < product (map radix_of gs)
product_some [] h = omega arith
product_some (g ∷ gs) h =
    mul_some (radix_of g) (product (map radix_of gs)) (radix_some g h.0) (product_some gs h.1)

-- a factor is below the product
le_product : (a b : ℕ) → 0 < b → a ≤ a * b
le_product a b h = omega (arith, mul-le a 1 a b (omega arith) h)

le_product' : (a b : ℕ) → 0 < a → b ≤ a * b
le_product' a b h = omega (arith, mul-le 1 b a b h (omega arith))

pub whole_fits : (gs : List GroupLine) → AreNumberable gs → product (map radix_of gs) ≤ 134217728
whole_fits gs s =
    omega (
      arith,
      le_product' (2 + length (targets gs)) (product (map radix_of gs)) (omega arith),
      s.size,
    )

-- the digits of the first i groups make this sum
pub record Left (p : Board) (gs : List GroupLine) (i total : ℕ) : Type 0 where
  pub counted : AllByRecursion (IsWithinCount p) (drop i gs) → AllByRecursion (IsWithinCount p) gs
  pub bound : total + product (map radix_of (drop i gs)) ≤ product (map radix_of gs)
  pub sum : total + value (map radix_of (drop i gs)) (map (digit_of p) (drop i gs))
      ≡ value (map radix_of gs) (map (digit_of p) gs)

pub left_start : (p : Board) (gs : List GroupLine) → Left p gs 0 0
left_start p gs = record { counted = λ h. h; bound = omega arith; sum = omega arith }

pub counted_below : (p : Board) (g : GroupLine) → IsWithinCount p g → digit_of p g < radix_of g
counted_below p g h =
    digit_below (length g.states) g.least g.most (places p g)
    (places_descend (λ k. stands p g.colour (slice_get g.states k)) (length g.states)) h.least
    h.most

-- what the group at i is
pub record At (gs : List GroupLine) (i : ℕ) (g : GroupLine) (w : ℕ) : Type 0 where
  pub is : drop i gs ≡ g ∷ drop (i + 1) gs
  pub weight : w ≡ product (map radix_of (drop (i + 1) gs))
  pub sound : IsCounted g
  pub some : 0 < w
  pub part : product (map radix_of (drop i gs)) ≡ radix_of g * w

pub at_read : (gs : List GroupLine) (ws : List ℕ) (i : ℕ) (g : GroupLine) → AreNumberable gs →
    AreWeights gs ws → i < length gs → g ≡ get_or gs i g → At gs i g (slice_index ws i)
at_read gs ws i g s weights h e =
    let is = drop_read gs i g h e in
    let w : slice_index ws i ≡ product (map radix_of (drop (i + 1) gs)) = weights.known i h
    ∙ ap (λ n. product (map radix_of (drop n gs))) (sym (add-one i)) in
    let part : AllByRecursion IsCounted (g ∷ drop (i + 1) gs) = subst (AllByRecursion IsCounted) is
    (all_drop IsCounted gs i s.groups) in
    record {
      is = is;
      weight = w;
      sound = part.0;
      some = omega (arith, w, product_some (drop (i + 1) gs) part.1);
      part = ap (λ xs. product (map radix_of xs)) is ∙ ap (λ n. radix_of g * n) (sym w);
    }

pub digit_room : (p : Board) (gs : List GroupLine) (i total : ℕ) (g : GroupLine) (w : ℕ) →
    AreNumberable gs → At gs i g w → Left p gs i total → radix_of g ≤ 134217728
digit_room p gs i total g w s a l =
    omega (arith, le_product (radix_of g) w a.some, a.part, l.bound, whole_fits gs s)

pub step_fits : (p : Board) (gs : List GroupLine) (i total : ℕ) (g : GroupLine) (w d : ℕ) →
    AreNumberable gs → At gs i g w → Left p gs i total → IsWithinCount p g → d ≡ digit_of p g →
    total + d * w + w ≤ product (map radix_of gs)
step_fits p gs i total g w d s a l h e =
    let below : d + 1 ≤ radix_of g = omega (arith, e, counted_below p g h) in
    omega (
      arith,
      mul-le (d + 1) w (radix_of g) w below (omega arith),
      add-mul d 1 w,
      a.part,
      l.bound,
    )

pub left_step : (p : Board) (gs : List GroupLine) (i total : ℕ) (g : GroupLine) (w d : ℕ) →
    AreNumberable gs → At gs i g w → Left p gs i total → IsWithinCount p g → d ≡ digit_of p g →
    Left p gs (i + 1) (total + d * w)
left_step p gs i total g w d s a l h e =
    let split = ap (λ xs. value (map radix_of xs) (map (digit_of p) xs)) a.is in
    record {
      counted = λ k. l.counted (subst (AllByRecursion (IsWithinCount p)) (sym a.is) (h, k));
      bound = omega (arith, step_fits p gs i total g w d s a l h e, a.weight);
      sum = omega (arith, split, l.sum, ap (λ x. x * w) e, ap (λ n. digit_of p g * n) a.weight);
    }

pub left_end : (p : Board) (gs : List GroupLine) (i total : ℕ) → length gs ≤ i → Left p gs i total →
    AllByRecursion (IsWithinCount p) gs × (total ≡ value (map radix_of gs) (map (digit_of p) gs))
left_end p gs i total h l =
    let e = drop_end gs i h in (
      l.counted (subst (AllByRecursion (IsWithinCount p)) (sym e) tt),
      let v = ap (λ xs. value (map radix_of xs) (map (digit_of p) xs)) e in omega (arith, l.sum, v),
    )

-- a loose group's men are put, and what is left is for the groups after it
pub put_step : (gs : List GroupLine) (i : ℕ) (g : GroupLine) (w rest : ℕ) (cells : List ℕ) →
    At gs i g w →
    put_loose (drop (i + 1) gs) (digits (map radix_of (drop (i + 1) gs)) (rest % w))
    (put_if_loose g (rest / w) cells) ≡ put_loose (drop i gs) (digits (map radix_of (drop i gs)) rest)
    cells
put_step gs i g w rest cells a =
    ap (λ v. put_loose (drop (i + 1) gs) (digits (map radix_of (drop (i + 1) gs)) (rest % v))
    (put_if_loose g (rest / v) cells)) a.weight
    ∙ sym (ap (λ xs. put_loose xs (digits (map radix_of xs) rest) cells) a.is)

pub put_end : (gs : List GroupLine) (i rest : ℕ) (cells : List ℕ) → length gs ≤ i →
    cells ≡ put_loose (drop i gs) (digits (map radix_of (drop i gs)) rest) cells
put_end gs i rest cells h =
    sym (ap (λ xs. put_loose xs (digits (map radix_of xs) rest) cells) (drop_end gs i h))

-- where the loose men of the group at i find their squares free, the later groups decide
pub free_step : (gs : List GroupLine) (i : ℕ) (g : GroupLine) (w rest : ℕ) (cells : List ℕ) →
    At gs i g w → is_free_if_loose g (rest / w) cells ≡ true →
    are_loose_free (drop (i + 1) gs) (digits (map radix_of (drop (i + 1) gs)) (rest % w))
    (put_if_loose g (rest / w) cells)
    ≡ are_loose_free (drop i gs) (digits (map radix_of (drop i gs)) rest) cells
free_step gs i g w rest cells a free =
    let later = drop (i + 1) gs in
    let v = product (map radix_of later) in
    let next = are_loose_free later (digits (map radix_of later) (rest % v))
    (put_if_loose g (rest / v) cells) in
    ap (λ v. are_loose_free later (digits (map radix_of later) (rest % v))
    (put_if_loose g (rest / v) cells)) a.weight
    ∙ sym (ap (λ b. b && next) (ap (λ v. is_free_if_loose g (rest / v) cells) (sym a.weight) ∙ free))
    ∙ sym (ap (λ xs. are_loose_free xs (digits (map radix_of xs) rest) cells) a.is)

pub free_stop : (gs : List GroupLine) (i : ℕ) (g : GroupLine) (w rest : ℕ) (cells : List ℕ) →
    At gs i g w → is_free_if_loose g (rest / w) cells ≡ false →
    false ≡ are_loose_free (drop i gs) (digits (map radix_of (drop i gs)) rest) cells
free_stop gs i g w rest cells a free =
    let later = drop (i + 1) gs in
    let v = product (map radix_of later) in
    let next = are_loose_free later (digits (map radix_of later) (rest % v))
    (put_if_loose g (rest / v) cells) in
    sym (ap (λ b. b && next) (ap (λ v. is_free_if_loose g (rest / v) cells) (sym a.weight) ∙ free))
    ∙ sym (ap (λ xs. are_loose_free xs (digits (map radix_of xs) rest) cells) a.is)

pub free_end : (gs : List GroupLine) (i rest : ℕ) (cells : List ℕ) → length gs ≤ i →
    true ≡ are_loose_free (drop i gs) (digits (map radix_of (drop i gs)) rest) cells
free_end gs i rest cells h =
    sym (ap (λ xs. are_loose_free xs (digits (map radix_of xs) rest) cells) (drop_end gs i h))

-- the place of a number in what is left of a list
pub place_here : (xs : List ℕ) (i t : ℕ) → i < length xs → t ≡ get_or xs i 0 →
    place_of t (drop i xs) ≡ 0
place_here xs i t h e =
    ap (place_of t) (drop-cons xs i 0 h)
    ∙ place_at t (get_or xs i 0) (drop (suc i) xs) true (eq-eqb t (get_or xs i 0) e)

pub place_later : (xs : List ℕ) (i t : ℕ) → i < length xs → t ≢ get_or xs i 0 →
    place_of t (drop i xs) ≡ suc (place_of t (drop (i + 1) xs))
place_later xs i t h e =
    let test : (t == get_or xs i 0) ≡ false = grind (arith, nat_tests) in
    ap (place_of t) (drop-cons xs i 0 h)
    ∙ place_at t (get_or xs i 0) (drop (suc i) xs) false test
    ∙ ap (λ n. suc (place_of t (drop n xs))) (sym (add-one i))

pub place_end : (xs : List ℕ) (i t : ℕ) → length xs ≤ i → place_of t (drop i xs) ≡ 0
place_end xs i t h = ap (place_of t) (drop_end xs i h)

pub place_le : (t : ℕ) (xs : List ℕ) → place_of t xs ≤ length xs
place_le t [] = omega arith
place_le t (x ∷ xs) =
    elim (t == x) as (λ b. cond b 0 (suc (place_of t xs)) ≤ suc (length xs))
    [ true ↦ omega arith | false ↦ omega (arith, place_le t xs) ]

pub turn_le : (ts : List ℕ) (c : Colour) (o : Option ℕ) → turn_among ts c o ≤ 2 + length ts
turn_le ts c (Some t) = omega (arith, place_le t ts)
turn_le ts White None = omega arith
turn_le ts Black None = omega arith

-- what the group at i is, before the weights are known
pub at_plain : (gs : List GroupLine) (i : ℕ) (g : GroupLine) → AreNumberable gs → i < length gs →
    g ≡ get_or gs i g → At gs i g (product_from gs (i + 1))
at_plain gs i g s h e =
    let is = drop_read gs i g h e in
    let part : AllByRecursion IsCounted (g ∷ drop (i + 1) gs) = subst (AllByRecursion IsCounted) is
    (all_drop IsCounted gs i s.groups) in
    record {
      is = is;
      weight = refl;
      sound = part.0;
      some = product_some (drop (i + 1) gs) part.1;
      part = ap (λ xs. product (map radix_of xs)) is;
    }

pub product_le : (gs : List GroupLine) → AllByRecursion IsCounted gs → (i : ℕ) →
    product_from gs i ≤ product (map radix_of gs)
product_le gs h zero = omega arith
product_le [] h (suc i) = omega arith
product_le (g ∷ gs) h (suc i) =
    omega (
      arith,
      product_le gs h.1 i,
      le_product' (radix_of g) (product (map radix_of gs))
          (radix_some g h.0),
    )

-- one more factor fits
pub factor_fits : (gs : List GroupLine) (from i n : ℕ) (g : GroupLine) (r : ℕ) → AreNumberable gs →
    At gs i g (product_from gs (i + 1)) → n * product_from gs i ≡ product_from gs from → 0 < n →
    r ≡ capped (radix_of g) →
    (r ≡ radix_of g) × (n * r ≤ 134217728) × (r ≤ 134217728)
    × ((n * r) * product_from gs (i + 1) ≡ product_from gs from) × (0 < n * r)
factor_fits gs from i n g r s a e some er =
    let w = product_from gs (i + 1) in
    let whole = whole_fits gs s in
    let top = product_le gs s.groups from in
    let eq : n * product_from gs i ≡ n * (radix_of g * product_from gs (i + 1)) =
    ap (λ x. n * x) a.part in
    let turned : n * (radix_of g * product_from gs (i + 1)) ≡ (n * radix_of g) * product_from gs
    (i + 1) = sym (mul_assoc n (radix_of g) (product_from gs (i + 1))) in
    let fits : n * radix_of g ≤ 134217728 = omega (
      arith,
      le_product (n * radix_of g) (product_from gs (i + 1)) a.some,
      e,
      eq,
      turned,
      top,
      whole,
    ) in
    let small : radix_of g ≤ 134217728 = omega (arith, le_product' n (radix_of g) some, fits) in
    let same : r ≡ radix_of g = omega (arith, er, small) in (
      same,
      omega (arith, ap (λ x. n * x) same, fits),
      omega (arith, same, small),
      ap (λ x. (n * x) * product_from gs (i + 1)) same ∙ sym turned ∙ sym eq ∙ e,
      omega (arith, ap (λ x. n * x) same, mul_some n (radix_of g) some (radix_some g a.sound)),
    )
