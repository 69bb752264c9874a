-- The pairs of a plane, row by row.
use Rattle.std.proofs.Common.{◌≡◌, ℕ, ◌+◌, ◌/◌, ◌%◌, ◌^◌, ◌<◌, ◌≤◌, List, get_or, bit_or, Bool, true, false, ◌||◌, ap, sym, ◌∙◌, arith, refl, inl, inr, ◌↔◌, IsTrue, below_more, eqb-true, eq-eqb, count_ones, add-one}
use Rattle.std.specs.Prelude.{◌==◌, count_by, sum_by}
use Rattle.std.specs.List.{range_with_len}
use Rattle.std.proofs.lemmas.Bool.{cases_lt}
use Rattle.std.proofs.lemmas.List.Sums.{count_by-le-length}
use Rattle.frz_squares.specs.Squares.{squares}
use Rattle.frz_squares.specs.SquareSets.{has_square}
use Rattle.frz_squares.specs.Words as words
use Rattle.frz_squares.proofs.Lemmas.{length-squares, has-or, has-zero, empty_set, sum_by-next, ones_in}
use Rattle.frz_planes.specs.Planes.{has_pair, count_of, pair_number, HasNoneFrom, IsNext, IsPlaneOf}

-- a word has a square exactly where one of the first i rows has it
pub record IsJoin (p : List ℕ) (i w : ℕ) : Type 0 where
  pub none : (b : ℕ) → has_square w b ≡ false → (k : ℕ) → k < i → has_pair p k b ≡ false
  pub all : (b : ℕ) → ((k : ℕ) → k < i → has_pair p k b ≡ false) → has_square w b ≡ false

neither : (x y : Bool) → (x || y) ≡ false → (x ≡ false) × (y ≡ false)
neither true y h = absurd cc
neither false y h = (refl, h)

pub join_more : (p : List ℕ) (i w : ℕ) → IsJoin p i w → IsJoin p (i + 1) (bit_or w (get_or p i 0))
join_more p i w h = record {
  none =
      λ b e. let parts = neither (has_square w b) (has_pair p i b)
      (sym (has-or w (get_or p i 0) b) ∙ e) in
      below_more _ _ (h.none b parts.0) parts.1;
  all =
      λ b e. has-or w (get_or p i 0) b
      ∙ ap (λ x. x || has_pair p i b) (h.all b (λ k l. e k (omega arith))) ∙ e i (omega arith);
}

pub join_none : (p : List ℕ) → IsJoin p 0 0
join_none p = record { none = λ b e k l. absurd (omega arith); all = λ b e. has-zero b }

pub join_empty : (p : List ℕ) (i w : ℕ) → i ≡ 64 → w < 2 ^ 64 → IsJoin p i w →
    (IsTrue (w == 0)) ↔ IsPlaneOf p (λ a b. false)
join_empty p i w e small h = (
  λ t a b la lb. h.none b (ap (λ v. has_square v b) (eqb-true w 0 t) ∙ has-zero b) a (omega arith),
  λ f. eq-eqb w 0 (empty_set w small (λ b l. h.all b (λ k m. f k b (omega arith) l))),
)

-- the pairs of the first i rows
abbrev pub count_below : List ℕ → ℕ → ℕ
count_below p i = sum_by (λ a. count_by (λ b. has_pair p a b) squares) (range_with_len 0 i)

row_ones : (p : List ℕ) (i : ℕ) → get_or p i 0 < 2 ^ 64 →
    count_ones (get_or p i 0) ≡ count_by (λ b. has_pair p i b) squares
row_ones p i small = ones_in (get_or p i 0) small

pub count_more : (p : List ℕ) (i n : ℕ) → get_or p i 0 < 2 ^ 64 → n ≡ count_below p i →
    n + count_ones (get_or p i 0) ≡ count_below p (i + 1)
count_more p i n small e =
    let row = λ (a : ℕ). count_by (λ b. has_pair p a b) squares in
    let at : 0 + i ≡ i = omega arith in
    let ones = row_ones p i small in
    let next = sum_by-next row 0 i in
    let here = ap row at in
    ap (λ m. m + count_ones (get_or p i 0)) e
    ∙ omega (arith, ones, next, here, ap (λ j. count_below p j) (add-one i))

pub few_ones : (p : List ℕ) (i : ℕ) → get_or p i 0 < 2 ^ 64 → count_ones (get_or p i 0) ≤ 64
few_ones p i small =
    omega (arith, row_ones p i small, count_by-le-length (λ b. has_pair p i b) squares, length-squares)

pub count_all : (p : List ℕ) → count_below p 64 ≡ count_of p
unfolding squares
count_all p = refl

-- the pairs from number n on stand from row a on, and in it from square s on
pub record IsFrom (p : List ℕ) (n a s : ℕ) : Type 0 where
  pub small : s < 64
  pub behind : n ≤ pair_number a s
  pub before : (x y : ℕ) → x < 64 → y < 64 → n ≤ pair_number x y →
      pair_number x y < pair_number a s → has_pair p x y ≡ false

pub from_start : (p : List ℕ) (n : ℕ) → IsFrom p n (n / 64) (n % 64)
from_start p n = record {
  small = omega arith;
  behind = omega arith;
  before = λ x y lx ly l m. absurd (omega arith);
}

-- the row holds no pair of those, so they stand from the next row on
pub from_next : (p : List ℕ) (n a s : ℕ) → IsFrom p n a s → words.HasNoneFrom (get_or p a 0) s →
    IsFrom p n (a + 1) 0
from_next p n a s h none = record {
  small = omega arith;
  behind = let small = h.small in let behind = h.behind in omega arith;
  before = λ x y lx ly l m. elim (cases_lt (pair_number x y) (pair_number a s)) [
    | inl k ↦ h.before x y lx ly l k
    | inr k ↦ (let row : x ≡ a = omega arith in
        ap (λ r. has_pair p r y) row ∙ none.none y (omega arith) ly)
  ];
}

pub from_found : (p : List ℕ) (n a s b : ℕ) → a < 64 → IsFrom p n a s →
    words.IsNext (get_or p a 0) s b → IsNext p n a b
from_found p n a s b la h next = record {
  from = let from = next.from in let behind = h.behind in omega arith;
  white = la;
  black = next.on_board;
  there = next.there;
  first = λ x y lx ly l m. elim (cases_lt (pair_number x y) (pair_number a s)) [
    | inl k ↦ h.before x y lx ly l k
    | inr k ↦ (let on = next.on_board in let row : x ≡ a = omega arith in
        ap (λ r. has_pair p r y) row ∙ next.first y (omega arith) (omega arith))
  ];
}

pub from_end : (p : List ℕ) (n a s : ℕ) → 64 ≤ a → IsFrom p n a s → HasNoneFrom p n
from_end p n a s l h =
    record { none = λ x y lx ly m. h.before x y lx ly m (omega arith) }
