-- The squares that a king's square and its steps leave.
use Rattle.std.proofs.Common.{◌≡◌, ℕ, ◌*◌, ◌%◌, ◌^◌, ◌<◌, Bool, true, false, not, ◌&&◌, ◌||◌, refl, ap, sym, ◌∙◌, arith, bit_or, w64}
use Rattle.std.specs.Prelude.{◌==◌, nat_le}
use Rattle.std.specs.Cmp.{both_ways}
use Rattle.std.specs.Int.{bit_not}
use Rattle.std.specs.Int.Bits.{or_zero_l}
use Rattle.std.specs.List.{list_all}
use Rattle.std.proofs.lemmas.Bool.{and_parts, eqb-true}
use Rattle.std.proofs.lemmas.Nat.{or_lt}
use Rattle.frz_squares.specs.Squares.{squares, distance}
use Rattle.frz_squares.specs.SquareSets.{has_square, set_of}
use Rattle.frz_squares.specs.Steps.{any_step}
use Rattle.frz_squares.proofs.Lemmas.{Found, some_square, any_square, each_square, has-not, has-or, has-set_of, has-zero, set_of-from, set_of-small}
use Rattle.frz_planes.proofs.Rows.{bit_put}

has-king : (a b : ℕ) → a < 64 → b < 64 → has_square (1 * 2 ^ a % 2 ^ 64) b ≡ (b == a)
has-king a b la lb =
    ap (λ w. has_square w b) (sym (or_zero_l (1 * 2 ^ a % 2 ^ 64))) ∙ bit_put 0 a b la lb
    ∙ ap (λ x. (b == a) || x) (has-zero b) ∙ or_none (b == a)
  where
    or_none : (x : Bool) → (x || false) ≡ x
    or_none true = refl
    or_none false = refl

-- a step from just one square
one_step : (w a s : ℕ) → a < 64 → ((b : ℕ) → b < 64 → has_square w b ≡ (b == a)) →
    any_step s (has_square w) ≡ (distance s a == 1)
one_step w a s la h =
    both_ways (any_step s (has_square w)) (distance s a == 1)
    (λ e. from (some_square (λ c. distance s c == 1 && has_square w c) e))
    (λ e. any_square (λ c. distance s c == 1 && has_square w c) a la
    (both (distance s a == 1) (has_square w a) e (h a la ∙ same a)))
  where
    same : (n : ℕ) → (n == n) ≡ true
    same n = grind arith

    both : (x y : Bool) → x ≡ true → y ≡ true → (x && y) ≡ true
    both x y e f = rw (e, f)

    from : Found (λ c. distance s c == 1 && has_square w c) → (distance s a == 1) ≡ true
    from f =
        let parts = and_parts (distance s f.square == 1) (has_square w f.square) f.passes in
        let here = eqb-true f.square a (sym (h f.square f.on_board) ∙ parts.1) in
        ap (λ c. distance s c == 1) (sym here) ∙ parts.0

-- by computing, for all pairs of squares
neither : (a : ℕ) → a < 64 → (b : ℕ) → b < 64 →
    not ((b == a) || (distance b a == 1)) ≡ nat_le 2 (distance a b)
unfolding squares
neither a la b lb =
    let same = λ (x y : Bool). (x && y) || (not x && not y) in
    let test = λ (m n : ℕ). same (not ((n == m) || (distance n m == 1))) (nat_le 2 (distance m n)) in
    let each = each_square (λ m. list_all (test m) squares) refl a la in
    equal (not ((b == a) || (distance b a == 1))) (nat_le 2 (distance a b))
    (each_square (test a) each b lb)
  where
    equal : (x y : Bool) → ((x && y) || (not x && not y)) ≡ true → x ≡ y
    equal true true h = refl
    equal true false h = absurd cc
    equal false true h = absurd cc
    equal false false h = refl

pub apart_squares : (a : ℕ) → a < 64 →
    bit_not w64 (bit_or (1 * 2 ^ a % 2 ^ 64)
    (set_of (λ s. any_step s (has_square (1 * 2 ^ a % 2 ^ 64)))))
    ≡ set_of (λ b. nat_le 2 (distance a b))
apart_squares a la =
    let king = 1 * 2 ^ a % 2 ^ 64 in
    let steps = set_of (λ s. any_step s (has_square king)) in
    let small : bit_or king steps < 2 ^ 64 = or_lt 64 king steps (omega arith)
    (set_of-small (λ s. any_step s (has_square king))) in
    set_of-from (bit_not w64 (bit_or king steps)) (λ b. nat_le 2 (distance a b)) (omega arith)
    (λ b lb. has-not (bit_or king steps) b small lb
    ∙ ap not (has-or king steps b
    ∙ ap (λ x. x || has_square steps b) (has-king a b la lb)
    ∙ ap (λ x. (b == a) || x) (has-set_of (λ s. any_step s (has_square king)) b lb
    ∙ one_step king a b la (λ c lc. has-king a c la lc)))
    ∙ neither a la b lb)
