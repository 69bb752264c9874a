-- No square lies between two that adjoin or are a knight's jump apart; one does between those of a
-- pawn that advances two squares.
use Rattle.std.proofs.Common.{◌≡◌, ◌≢◌, ℕ, ◌+◌, ◌≤◌, Bool, true, false, ◌&&◌, ◌||◌, not, max, sym, arith}
use Rattle.std.specs.Prelude.{◌==◌}
use Rattle.std.proofs.lemmas.Bool.{eqb-true, and_parts}
use Rattle.std.proofs.lemmas.Bool.Decides.{nat_tests}
use Rattle.frz_board.specs.declared.man.Colour.{Colour}
use Rattle.frz_board.specs.declared.man.Colour.TheVariants.{White, Black}
use Rattle.frz_board.specs.Attacks.{pawn_reaches}
use Rattle.frz_board.specs.Lines.{is_between, is_king_step, is_knight_jump}
use Rattle.frz_board.specs.Squares.{rank_of, files_apart, ranks_apart, is_forward}
use Rattle.frz_fide.specs.Legal.{passed_over}

-- what is_between asks of the squares a and b and one between them, by their files and ranks apart:
-- those of the two, of a and the one between, of that one and b
abbrev is_within : (a s b f g h q r t : ℕ) → Bool
is_within a s b f g h q r t =
    (not (s == a) && not (s == b)) && (g + h == f && r + t == q)
    && (((not (a == b) && (f == 0 || q == 0)) && (not (a == s) && (g == 0 || r == 0)))
    || ((not (a == b) && f == q) && (not (a == s) && g == r)))

no_jump : (a s b f g h q r t : ℕ) → ((f == 1 && q == 2) || (f == 2 && q == 1)) ≡ true →
    is_within a s b f g h q r t ≡ false
no_jump a s b f g h q r t e = grind (arith, nat_tests)

no_step : (a s b f g h q r t : ℕ) → f ≤ 1 → q ≤ 1 → (g ≡ 0 → r ≡ 0 → s ≡ a) →
    (h ≡ 0 → t ≡ 0 → s ≡ b) → is_within a s b f g h q r t ≡ false
no_step a s b f g h q r t lf lq first last = grind (arith, nat_tests)

one_square : (a b : ℕ) → files_apart a b ≡ 0 → ranks_apart a b ≡ 0 → b ≡ a
one_square a b f r = omega arith

pub knight_past : (a s b : ℕ) → is_knight_jump a b ≡ true → is_between a s b ≡ false
knight_past a s b h =
    no_jump a s b (files_apart a b) (files_apart a s) (files_apart s b) (ranks_apart a b)
    (ranks_apart a s) (ranks_apart s b) h

step_past : (a s b : ℕ) → files_apart a b ≤ 1 → ranks_apart a b ≤ 1 → is_between a s b ≡ false
step_past a s b f r =
    no_step a s b (files_apart a b) (files_apart a s) (files_apart s b) (ranks_apart a b)
    (ranks_apart a s) (ranks_apart s b) f r
    (λ g h. one_square a s g h) (λ g h. sym (one_square s b g h))

pub king_past : (a s b : ℕ) → is_king_step a b ≡ true → is_between a s b ≡ false
king_past a s b h =
    let one = eqb-true (max (files_apart a b) (ranks_apart a b)) 1 h in
    step_past a s b (grind arith) (grind arith)

pub king_leaves : (a b : ℕ) → is_king_step a b ≡ true → b ≢ a
king_leaves a b h e = absurd (let t = same a b h e in cc)
  where
    same : (a b : ℕ) → is_king_step a b ≡ true → b ≡ a → true ≡ false
    same a b h e = let one = eqb-true (max (files_apart a b) (ranks_apart a b)) 1 h in grind arith

one_rank : (c : Colour) (a b : ℕ) → is_forward c 1 a b ≡ true → ranks_apart a b ≤ 1
one_rank White a b h = let e = eqb-true (rank_of b) (rank_of a + 1) h in omega arith
one_rank Black a b h = let e = eqb-true (rank_of a) (rank_of b + 1) h in omega arith

pub pawn_past : (c : Colour) (a s b : ℕ) → pawn_reaches c a b ≡ true → is_between a s b ≡ false
pawn_past c a s b h =
    let parts = and_parts (files_apart a b == 1) (is_forward c 1 a b) h in
    let file = eqb-true (files_apart a b) 1 parts.0 in
    step_past a s b (omega arith) (one_rank c a b parts.1)

pub straight_past : (c : Colour) (a s b : ℕ) → (files_apart a b == 0 && is_forward c 1 a b) ≡ true →
    is_between a s b ≡ false
straight_past c a s b h =
    let parts = and_parts (files_apart a b == 0) (is_forward c 1 a b) h in
    let file = eqb-true (files_apart a b) 0 parts.0 in
    step_past a s b (omega arith) (one_rank c a b parts.1)

-- what two files and ranks apart say of the square midway
record Midway (a s b : ℕ) : Type 0 where
  file : files_apart a b ≡ 0
  file_to : files_apart a s ≡ 0
  file_from : files_apart s b ≡ 0
  rank : ranks_apart a b ≡ 2
  rank_to : ranks_apart a s ≡ 1
  rank_from : ranks_apart s b ≡ 1

two_ranks : (c : Colour) (a b : ℕ) → (files_apart a b == 0 && is_forward c 2 a b) ≡ true →
    Midway a (passed_over a b) b
two_ranks White a b h =
    let parts = and_parts (files_apart a b == 0) (is_forward White 2 a b) h in
    let file = eqb-true (files_apart a b) 0 parts.0 in
    let rank = eqb-true (rank_of b) (rank_of a + 2) parts.1 in
    let to : b ≡ a + 16 = omega arith in
    let mid : passed_over a b ≡ a + 8 = omega arith in
    record {
      file = file;
      file_to = omega arith;
      file_from = omega arith;
      rank = omega arith;
      rank_to = omega arith;
      rank_from = omega arith;
    }
two_ranks Black a b h =
    let parts = and_parts (files_apart a b == 0) (is_forward Black 2 a b) h in
    let file = eqb-true (files_apart a b) 0 parts.0 in
    let rank = eqb-true (rank_of a) (rank_of b + 2) parts.1 in
    let to : a ≡ b + 16 = omega arith in
    let mid : passed_over a b ≡ b + 8 = omega arith in
    record {
      file = file;
      file_to = omega arith;
      file_from = omega arith;
      rank = omega arith;
      rank_to = omega arith;
      rank_from = omega arith;
    }

within_two : (a s b f g h q r t : ℕ) → f ≡ 0 → g ≡ 0 → h ≡ 0 → q ≡ 2 → r ≡ 1 → t ≡ 1 → s ≢ a →
    s ≢ b → a ≢ b → is_within a s b f g h q r t ≡ true
within_two a s b f g h q r t ef eg eh eq er et sa sb ab = grind (arith, nat_tests)

-- the square that a pawn passes over lies between
pub passed_between : (c : Colour) (a b : ℕ) → (files_apart a b == 0 && is_forward c 2 a b) ≡ true →
    is_between a (passed_over a b) b ≡ true
passed_between c a b h =
    let w = two_ranks c a b h in
    let rank = w.rank in
    let to = w.rank_to in
    let from = w.rank_from in
    within_two a (passed_over a b) b (files_apart a b) (files_apart a (passed_over a b))
    (files_apart (passed_over a b) b) (ranks_apart a b) (ranks_apart a (passed_over a b))
    (ranks_apart (passed_over a b) b) w.file w.file_to w.file_from w.rank w.rank_to w.rank_from
    (λ e. apart_by a (passed_over a b) (sym e) w.rank_to)
    (λ e. apart_by (passed_over a b) b e w.rank_from)
    (λ e. apart_two a b e w.rank)
  where
    apart_by : (a b : ℕ) → a ≡ b → ranks_apart a b ≡ 1 → ⊥
    apart_by a b e r = omega arith

    apart_two : (a b : ℕ) → a ≡ b → ranks_apart a b ≡ 2 → ⊥
    apart_two a b e r = omega arith

-- of two ranks apart on one file, one is between
record Middle (g h r t : ℕ) : Type 0 where
  to : g ≡ 0
  from : h ≡ 0
  up : r ≡ 1
  on : t ≡ 1

middle : (a s b f g h q r t : ℕ) → f ≡ 0 → q ≡ 2 → (g ≡ 0 → r ≡ 0 → s ≡ a) →
    (h ≡ 0 → t ≡ 0 → s ≡ b) → is_within a s b f g h q r t ≡ true → Middle g h r t
middle a s b f g h q r t ef eq first last w = record {
  to = grind (arith, nat_tests);
  from = grind (arith, nat_tests);
  up = grind (arith, nat_tests);
  on = grind (arith, nat_tests);
}

-- and no other does
pub only_passed : (c : Colour) (a s b : ℕ) → (files_apart a b == 0 && is_forward c 2 a b) ≡ true →
    is_between a s b ≡ true → s ≡ passed_over a b
only_passed c a s b h e =
    let w = two_ranks c a b h in
    let m = middle a s b (files_apart a b) (files_apart a s) (files_apart s b) (ranks_apart a b)
    (ranks_apart a s) (ranks_apart s b) w.file w.rank
    (λ g r. one_square a s g r) (λ g r. sym (one_square s b g r)) e in
    same_place c a s b h m.to m.up m.on
  where
    same_place : (c : Colour) (a s b : ℕ) → (files_apart a b == 0 && is_forward c 2 a b) ≡ true →
        files_apart a s ≡ 0 → ranks_apart a s ≡ 1 → ranks_apart s b ≡ 1 → s ≡ passed_over a b
    same_place White a s b h file up on =
        let parts = and_parts (files_apart a b == 0) (is_forward White 2 a b) h in
        let files = eqb-true (files_apart a b) 0 parts.0 in
        let rank = eqb-true (rank_of b) (rank_of a + 2) parts.1 in
        let to : b ≡ a + 16 = omega arith in
        let mid : s ≡ a + 8 = omega arith in
        omega arith
    same_place Black a s b h file up on =
        let parts = and_parts (files_apart a b == 0) (is_forward Black 2 a b) h in
        let files = eqb-true (files_apart a b) 0 parts.0 in
        let rank = eqb-true (rank_of a) (rank_of b + 2) parts.1 in
        let to : a ≡ b + 16 = omega arith in
        let mid : s ≡ b + 8 = omega arith in
        omega arith
