-- The tables are what the definitions give, by computing.
use Rattle.std.proofs.Common.{◌≡◌, ℕ, ◌+◌, ◌*◌, ◌/◌, ◌%◌, ◌<◌, Bool, List, [], ◌∷◌, length, zero, suc, ◌^◌, map, refl, ap, sym, ◌∙◌, slice_index, take, drop, arith}
use Rattle.std.specs.List.{range_with_len}
use Rattle.std.proofs.lemmas.List.{get_or-drop, get_or-take}
use Rattle.std.proofs.lemmas.List.FromFn.{get_or-map-range_with_len}
use Rattle.frz_board.specs.declared.man.Colour.TheVariants.{White, Black}
use Rattle.frz_board.specs.Lines.{is_knight_jump, is_king_step, is_rook_line, is_bishop_line, is_between}
use Rattle.frz_board.specs.Attacks.{pawn_reaches}
use Rattle.frz_bits.specs.declared.lines.TheConstants.{BETWEEN_LOW, BETWEEN_HIGH}
use Rattle.frz_bits.specs.declared.shadows.TheConstants.{HIDDEN_LOW, HIDDEN_HIGH}
use Rattle.frz_bits.specs.declared.reach.TheConstants.{KNIGHT, KING, ROOK, BISHOP}
use Rattle.frz_bits.specs.declared.pawns.TheConstants.{PAWN, WHITE_PAWN_WAYS, BLACK_PAWN_WAYS}
use Rattle.frz_squares.specs.SquareSets.{set_of}
use Rattle.frz_bits.specs.Ways.{is_pawn_way}

in_table : (f : ℕ → ℕ) (n : ℕ) (xs : List ℕ) → map f (range_with_len 0 n) ≡ xs → (i : ℕ) → i < n →
    slice_index xs i ≡ f i
in_table f n xs e i h =
    ap (λ ys. slice_index ys i) (sym e) ∙ get_or-map-range_with_len f 0 n i i 0 h (omega arith)

-- the first 64 words of the table are the sets of the squares for which the test holds
abbrev pub IsTable : (ℕ → ℕ → Bool) → List ℕ → Type 0
IsTable f xs = (s : ℕ) → s < 64 → slice_index xs s ≡ set_of (f s)

words_in : (f : ℕ → ℕ → Bool) (xs : List ℕ) →
    map (λ a. set_of (f a)) (range_with_len 0 64) ≡ take 64 xs → IsTable f xs
words_in f xs e s h =
    sym (get_or-take 64 xs s 0 h) ∙ in_table (λ a. set_of (f a)) 64 (take 64 xs) e s h

-- the same, where the words stand n places further
words_behind : (f : ℕ → ℕ → Bool) (n : ℕ) (xs : List ℕ) →
    map (λ a. set_of (f a)) (range_with_len 0 64) ≡ take 64 (drop n xs) →
    (s : ℕ) → s < 64 → slice_index xs (s + n) ≡ set_of (f s)
words_behind f n xs e s h =
    let place : s + n ≡ n + s = omega arith in
    ap (slice_index xs) place ∙ sym (get_or-drop n xs s 0) ∙ words_in f (drop n xs) e s h

pub knight_at : IsTable is_knight_jump KNIGHT
unfolding set_of
knight_at = words_in is_knight_jump KNIGHT refl

pub king_at : IsTable is_king_step KING
unfolding set_of
king_at = words_in is_king_step KING refl

pub rook_at : IsTable is_rook_line ROOK
unfolding set_of
rook_at = words_in is_rook_line ROOK refl

pub bishop_at : IsTable is_bishop_line BISHOP
unfolding set_of
bishop_at = words_in is_bishop_line BISHOP refl

pub white_pawn_way_at : IsTable (is_pawn_way White) WHITE_PAWN_WAYS
unfolding set_of
white_pawn_way_at = words_in (is_pawn_way White) WHITE_PAWN_WAYS refl

pub black_pawn_way_at : IsTable (is_pawn_way Black) BLACK_PAWN_WAYS
unfolding set_of
black_pawn_way_at = words_in (is_pawn_way Black) BLACK_PAWN_WAYS refl

-- one table for the pawns of both sides: White's words stand 16 places further
pub white_pawn_at : (s : ℕ) → s < 64 →
    slice_index PAWN (s + 16) ≡ set_of (λ b. pawn_reaches White s b)
unfolding set_of
white_pawn_at = words_behind (pawn_reaches White) 16 PAWN refl

pub black_pawn_at : IsTable (pawn_reaches Black) PAWN
unfolding set_of
black_pawn_at = words_in (pawn_reaches Black) PAWN refl

-- the words of two lists of halves
joined : List ℕ → List ℕ → List ℕ
joined [] ls = []
joined (h ∷ hs) [] = []
joined (h ∷ hs) (l ∷ ls) = (h * 2 ^ 32 + l) ∷ joined hs ls

joined_at : (hs ls : List ℕ) (i : ℕ) → length hs ≡ length ls →
    slice_index (joined hs ls) i ≡ slice_index hs i * 2 ^ 32 + slice_index ls i
unfolding joined
joined_at [] [] i e = refl
joined_at [] (l ∷ ls) i e = cc
joined_at (h ∷ hs) [] i e = cc
joined_at (h ∷ hs) (l ∷ ls) zero e = refl
joined_at (h ∷ hs) (l ∷ ls) (suc i) e = joined_at hs ls i (omega arith)

-- the word of two squares stands at 64 times the one and the other
word_at : (f : ℕ → ℕ → ℕ → Bool) (hs ls : List ℕ) → length hs ≡ length ls →
    map (λ i. set_of (f (i / 64) (i % 64))) (range_with_len 0 4096) ≡ joined hs ls →
    (a b : ℕ) → a < 64 → b < 64 →
    slice_index hs (64 * a + b) * 2 ^ 32 + slice_index ls (64 * a + b) ≡ set_of (f a b)
word_at f hs ls same table a b la lb =
    let i = 64 * a + b in
    let row : i / 64 ≡ a = omega arith in
    let column : i % 64 ≡ b = omega arith in
    sym (joined_at hs ls i same)
    ∙ in_table (λ k. set_of (f (k / 64) (k % 64))) 4096 (joined hs ls) table i (omega arith)
    ∙ ap (λ j. set_of (f j (i % 64))) row
    ∙ ap (λ j. set_of (f a j)) column

between_table : map (λ i. set_of (λ s. is_between (i / 64) s (i % 64))) (range_with_len 0 4096)
    ≡ joined BETWEEN_HIGH BETWEEN_LOW
unfolding set_of joined
between_table = refl

pub between_at : (a b : ℕ) → a < 64 → b < 64 →
    slice_index BETWEEN_HIGH (64 * a + b) * 2 ^ 32 + slice_index BETWEEN_LOW (64 * a + b)
    ≡ set_of (λ s. is_between a s b)
between_at a b la lb =
    word_at (λ a b s. is_between a s b) BETWEEN_HIGH BETWEEN_LOW refl between_table a b la lb

hidden_table : map (λ i. set_of (λ b. is_between (i / 64) (i % 64) b)) (range_with_len 0 4096)
    ≡ joined HIDDEN_HIGH HIDDEN_LOW
unfolding set_of joined
hidden_table = refl

pub hidden_at : (a m : ℕ) → a < 64 → m < 64 →
    slice_index HIDDEN_HIGH (64 * a + m) * 2 ^ 32 + slice_index HIDDEN_LOW (64 * a + m)
    ≡ set_of (λ b. is_between a m b)
hidden_at a m la lm =
    word_at (λ a m b. is_between a m b) HIDDEN_HIGH HIDDEN_LOW refl hidden_table a m la lm
