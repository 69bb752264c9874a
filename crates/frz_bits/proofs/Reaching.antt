-- A man that attacks a square stands in reach of it.
use Rattle.std.proofs.Common.{◌≡◌, ℕ, ◌<◌, ◌+◌, true, false, ◌&&◌, ◌||◌, not, Option, None, Some, max, refl, ap, sym, ◌∙◌, arith}
use Rattle.std.specs.Prelude.{◌==◌}
use Rattle.std.proofs.lemmas.Bool.{eqb-true, and_parts, and_from, false_from_ne_true, or_left, or_right}
use Rattle.std.proofs.lemmas.Bool.Decides.{nat_tests}
use Rattle.frz_board.specs.declared.man.Colour.{Colour}
use Rattle.frz_board.specs.declared.man.Colour.TheVariants.{White, Black}
use Rattle.frz_board.specs.declared.man.Kind.{Kind}
use Rattle.frz_board.specs.declared.man.Kind.TheVariants.{King, Queen, Rook, Bishop, Knight, Pawn}
use Rattle.frz_board.specs.declared.man.Man.{Man}
use Rattle.frz_board.specs.Squares.{rank_of, files_apart, ranks_apart, is_forward}
use Rattle.frz_board.specs.Lines.{is_rook_line, is_bishop_line, is_knight_jump, is_king_step}
use Rattle.frz_board.specs.Boards.{Board, man_on, holds}
use Rattle.frz_board.specs.Attacks.{attacks, man_reaches, reaches, is_clear, pawn_reaches}
use Rattle.frz_squares.specs.SquareSets.{has_square, set_of}
use Rattle.frz_squares.proofs.Lemmas.{has-set_of}
use Rattle.frz_bits.specs.Reaching.{is_in_reach, may_attack}
use Rattle.frz_bits.proofs.Gather.{hits}

pub files_back : (a b : ℕ) → files_apart a b ≡ files_apart b a
files_back a b = omega arith

pub ranks_back : (a b : ℕ) → ranks_apart a b ≡ ranks_apart b a
ranks_back a b = omega arith

apart_back : (a b : ℕ) → (a == b) ≡ (b == a)
apart_back a b = grind (arith, nat_tests)

pub rook_back : (a b : ℕ) → is_rook_line a b ≡ is_rook_line b a
rook_back a b = rw (apart_back a b, files_back a b, ranks_back a b) refl

pub bishop_back : (a b : ℕ) → is_bishop_line a b ≡ is_bishop_line b a
bishop_back a b = rw (apart_back a b, files_back a b, ranks_back a b) refl

pub knight_back : (a b : ℕ) → is_knight_jump a b ≡ is_knight_jump b a
knight_back a b = rw (files_back a b, ranks_back a b) refl

-- two squares a step from each other, by their files and ranks
step_apart : (x y f r : ℕ) → (x ≡ y → f ≡ 0) → (x ≡ y → r ≡ 0) → max f r ≡ 1 →
    ((not (x == y) && (f == 0 || r == 0)) || (not (x == y) && f == r)) ≡ true
step_apart x y f r df dr e = grind (arith, nat_tests)

king_line : (a s : ℕ) → is_king_step a s ≡ true → (is_rook_line a s || is_bishop_line a s) ≡ true
king_line a s h =
    step_apart a s (files_apart a s) (ranks_apart a s) (λ e. omega arith) (λ e. omega arith)
    (eqb-true (max (files_apart a s) (ranks_apart a s)) 1 h)

one_rank : (c : Colour) (a s : ℕ) → is_forward c 1 a s ≡ true → ranks_apart a s ≡ 1
one_rank White a s h = let ahead = eqb-true (rank_of s) (rank_of a + 1) h in omega arith
one_rank Black a s h = let ahead = eqb-true (rank_of a) (rank_of s + 1) h in omega arith

on_diagonal : (x y f r : ℕ) → (x ≡ y → f ≡ 0) → f ≡ 1 → r ≡ 1 → (not (x == y) && f == r) ≡ true
on_diagonal x y f r df one same = grind (arith, nat_tests)

pawn_line : (c : Colour) (a s : ℕ) → pawn_reaches c a s ≡ true → is_bishop_line a s ≡ true
pawn_line c a s h =
    let parts = and_parts (files_apart a s == 1) (is_forward c 1 a s) h in
    on_diagonal a s (files_apart a s) (ranks_apart a s) (λ e. omega arith)
    (eqb-true (files_apart a s) 1 parts.0) (one_rank c a s parts.1)

-- a man stands in reach of what it reaches
reach_from : (p : Board) (c : Colour) (k : Kind) (a s : ℕ) → reaches p c k a s ≡ true →
    is_in_reach a s ≡ true
reach_from p c King a s h =
    or_left (is_rook_line a s || is_bishop_line a s) (is_knight_jump a s) (king_line a s h)
reach_from p c Queen a s h =
    or_left (is_rook_line a s || is_bishop_line a s) (is_knight_jump a s)
    (and_parts (is_rook_line a s || is_bishop_line a s) (is_clear p a s) h).0
reach_from p c Rook a s h =
    or_left (is_rook_line a s || is_bishop_line a s) (is_knight_jump a s)
    (or_left (is_rook_line a s) (is_bishop_line a s)
    (and_parts (is_rook_line a s) (is_clear p a s) h).0)
reach_from p c Bishop a s h =
    or_left (is_rook_line a s || is_bishop_line a s) (is_knight_jump a s)
    (or_right (is_rook_line a s) (is_bishop_line a s)
    (and_parts (is_bishop_line a s) (is_clear p a s) h).0)
reach_from p c Knight a s h =
    or_right (is_rook_line a s || is_bishop_line a s) (is_knight_jump a s) h
reach_from p c Pawn a s h =
    or_left (is_rook_line a s || is_bishop_line a s) (is_knight_jump a s)
    (or_right (is_rook_line a s) (is_bishop_line a s) (pawn_line c a s h))

reach_of : (p : Board) (man : Option Man) (a s : ℕ) → man_reaches p man a s ≡ true →
    is_in_reach a s ≡ true
reach_of p None a s h = cc
reach_of p (Some man) a s h = reach_from p man.colour man.kind a s h

reach_back : (a s : ℕ) → is_in_reach a s ≡ is_in_reach s a
reach_back a s = rw (rook_back a s, bishop_back a s, knight_back a s) refl

pub hit_may : (p : Board) (s : ℕ) (by : Colour) (a : ℕ) → hits p s by a ≡ true →
    may_attack p s by a ≡ true
hit_may p s by a h =
    let parts = and_parts (holds p by a) (attacks p a s) h in
    and_from (holds p by a) (is_in_reach s a) parts.0
    (sym (reach_back a s) ∙ reach_of p (man_on p a) a s parts.1)

-- a man outside the word of those that may attack does not
pub hits_in : (p : Board) (s : ℕ) (by : Colour) (w : ℕ) → w ≡ set_of (λ a. may_attack p s by a) →
    (k : ℕ) → k < 64 → has_square w k ≡ false → hits p s by k ≡ false
hits_in p s by w e k l h =
    false_from_ne_true (hits p s by k)
    (λ t. let may = hit_may p s by k t in
    let out = ap (λ v. has_square v k) e ∙ has-set_of (λ a. may_attack p s by a) k l in cc)

-- each man that may attack is one of the side's
pub may_held : (p : Board) (s : ℕ) (by : Colour) (a : ℕ) → may_attack p s by a ≡ true →
    holds p by a ≡ true
may_held p s by a h = (and_parts (holds p by a) (is_in_reach s a) h).0
