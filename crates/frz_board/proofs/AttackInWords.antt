-- The test of attack computes the relation of attack.
use Rattle.std.proofs.Common.{◌≡◌, ℕ, ◌+◌, true, ◌&&◌, ◌||◌, not, max, refl, ap, ◌∙◌, Option, None, Some, slice_index, inl, inr}
use Rattle.std.specs.Prelude.{◌==◌}
use Rattle.std.proofs.lemmas.Bool.{eqb-true, eq-eqb, and_parts, and_from, or_cases}
use Rattle.frz_board.specs.declared.man.Colour.{Colour}
use Rattle.frz_board.specs.declared.man.Colour.TheVariants.{White, Black}
use Rattle.frz_board.specs.declared.man.Kind.{Kind}
use Rattle.frz_board.specs.declared.man.Kind.TheVariants.{King, Queen, Rook, Bishop, Knight, Pawn}
use Rattle.frz_board.specs.declared.man.Man.{Man}
use Rattle.frz_board.specs.Squares.{files_apart, ranks_apart, rank_of, is_forward}
use Rattle.frz_board.specs.Lines.{is_rook_line, is_bishop_line, is_between}
use Rattle.frz_board.specs.Men.{man_of_cell}
use Rattle.frz_board.specs.Boards.{Board, man_on, is_empty}
use Rattle.frz_board.specs.Attacks.{man_reaches, reaches, attacks, is_clear}
use Rattle.frz_board.specs.Attacking.{Stands, IsClear, IsDiagonal, IsFileOrRank, IsForward, Attack, king, rook, bishop, queen, knight, pawn}
use Rattle.frz_squares.proofs.Lemmas.{either_or, implied, implies, not_same, same_not, each_square, all_squares}
use Rattle.frz_board.proofs.CellsOfMen.{cell_back, cell_forth}

clear_means : (p : Board) (a b : ℕ) → is_clear p a b ≡ true → IsClear p a b
clear_means p a b h s l w =
    eqb-true (slice_index p.cells s) 0
    (implied (is_between a s b) (is_empty p s)
    (each_square (λ k. not (is_between a k b) || is_empty p k) h s l) w)

means_clear : (p : Board) (a b : ℕ) → IsClear p a b → is_clear p a b ≡ true
means_clear p a b h =
    all_squares (λ k. not (is_between a k b) || is_empty p k)
    (λ k l. implies (is_between a k b) (is_empty p k)
    (λ w. eq-eqb (slice_index p.cells k) 0 (h k l w)))

diagonal_means : (a b : ℕ) → is_bishop_line a b ≡ true → IsDiagonal a b
diagonal_means a b h =
    let parts = and_parts (not (a == b)) (files_apart a b == ranks_apart a b) h in
    (not_same a b parts.0, eqb-true (files_apart a b) (ranks_apart a b) parts.1)

means_diagonal : (a b : ℕ) → IsDiagonal a b → is_bishop_line a b ≡ true
means_diagonal a b h =
    and_from (not (a == b)) (files_apart a b == ranks_apart a b) (same_not a b h.0)
    (eq-eqb (files_apart a b) (ranks_apart a b) h.1)

line_means : (a b : ℕ) → is_rook_line a b ≡ true → IsFileOrRank a b
line_means a b h =
    let parts = and_parts (not (a == b)) (files_apart a b == 0 || ranks_apart a b == 0) h in (
      not_same a b parts.0,
      elim (or_cases (files_apart a b == 0) (ranks_apart a b == 0) parts.1) [
        | inl w ↦ inl (eqb-true (files_apart a b) 0 w)
        | inr w ↦ inr (eqb-true (ranks_apart a b) 0 w)
      ],
    )

means_line : (a b : ℕ) → IsFileOrRank a b → is_rook_line a b ≡ true
means_line a b h =
    and_from (not (a == b)) (files_apart a b == 0 || ranks_apart a b == 0) (same_not a b h.0)
    (either_or (files_apart a b == 0) (ranks_apart a b == 0)
    (elim h.1 [
      | inl w ↦ inl (eq-eqb (files_apart a b) 0 w)
      | inr w ↦ inr (eq-eqb (ranks_apart a b) 0 w)
    ]))

two_means : (m n k l : ℕ) → (m == k && n == l) ≡ true → (m ≡ k) × (n ≡ l)
two_means m n k l h =
    let parts = and_parts (m == k) (n == l) h in (eqb-true m k parts.0, eqb-true n l parts.1)

means_two : (m n k l : ℕ) → (m ≡ k) × (n ≡ l) → (m == k && n == l) ≡ true
means_two m n k l h = and_from (m == k) (n == l) (eq-eqb m k h.0) (eq-eqb n l h.1)

pub forward_means : (c : Colour) (a b : ℕ) → is_forward c 1 a b ≡ true → IsForward c a b
forward_means White a b h = eqb-true (rank_of b) (rank_of a + 1) h
forward_means Black a b h = eqb-true (rank_of a) (rank_of b + 1) h

pub means_forward : (c : Colour) (a b : ℕ) → IsForward c a b → is_forward c 1 a b ≡ true
means_forward White a b h = eq-eqb (rank_of b) (rank_of a + 1) h
means_forward Black a b h = eq-eqb (rank_of a) (rank_of b + 1) h

by_kind : (p : Board) (c : Colour) (k : Kind) (a b : ℕ) → Stands p c k a →
    reaches p c k a b ≡ true → Attack p a b
by_kind p c King a b s h = king c s (eqb-true (max (files_apart a b) (ranks_apart a b)) 1 h)
by_kind p c Rook a b s h =
    let parts = and_parts (is_rook_line a b) (is_clear p a b) h in
    rook c s (line_means a b parts.0) (clear_means p a b parts.1)
by_kind p c Bishop a b s h =
    let parts = and_parts (is_bishop_line a b) (is_clear p a b) h in
    bishop c s (diagonal_means a b parts.0) (clear_means p a b parts.1)
by_kind p c Queen a b s h =
    let parts = and_parts (is_rook_line a b || is_bishop_line a b) (is_clear p a b) h in
    queen c s
    (elim (or_cases (is_rook_line a b) (is_bishop_line a b) parts.0) [
      | inl w ↦ inl (line_means a b w)
      | inr w ↦ inr (diagonal_means a b w)
    ])
    (clear_means p a b parts.1)
by_kind p c Knight a b s h =
    knight c s
    (elim (or_cases (files_apart a b == 1 && ranks_apart a b == 2)
    (files_apart a b == 2 && ranks_apart a b == 1) h) [
      | inl w ↦ inl (two_means (files_apart a b) (ranks_apart a b) 1 2 w)
      | inr w ↦ inr (two_means (files_apart a b) (ranks_apart a b) 2 1 w)
    ])
by_kind p c Pawn a b s h =
    let parts = and_parts (files_apart a b == 1) (is_forward c 1 a b) h in
    pawn c s (eqb-true (files_apart a b) 1 parts.0) (forward_means c a b parts.1)

by_man : (p : Board) (o : Option Man) (a b : ℕ) → man_on p a ≡ o → man_reaches p o a b ≡ true →
    Attack p a b
by_man p None a b e h = cc
by_man p (Some man) a b e h =
    by_kind p man.colour man.kind a b (cell_back (slice_index p.cells a) man.colour man.kind e) h

pub test_means : (p : Board) (a b : ℕ) → attacks p a b ≡ true → Attack p a b
test_means p a b h = by_man p (man_on p a) a b refl h

opened : (p : Board) (c : Colour) (k : Kind) (a b : ℕ) → Stands p c k a → reaches p c k a b ≡ true →
    attacks p a b ≡ true
opened p c k a b s h =
    ap (λ x. man_reaches p (man_of_cell x) a b) s ∙ ap (λ o. man_reaches p o a b) (cell_forth c k)
    ∙ h

pub means_test : (p : Board) (a b : ℕ) → Attack p a b → attacks p a b ≡ true
means_test p a b (king c s h) =
    opened p c King a b s (eq-eqb (max (files_apart a b) (ranks_apart a b)) 1 h)
means_test p a b (rook c s l w) =
    opened p c Rook a b s
    (and_from (is_rook_line a b) (is_clear p a b) (means_line a b l) (means_clear p a b w))
means_test p a b (bishop c s l w) =
    opened p c Bishop a b s
    (and_from (is_bishop_line a b) (is_clear p a b) (means_diagonal a b l) (means_clear p a b w))
means_test p a b (queen c s l w) =
    opened p c Queen a b s
    (and_from (is_rook_line a b || is_bishop_line a b) (is_clear p a b)
    (either_or (is_rook_line a b) (is_bishop_line a b)
    (elim l [ inl x ↦ inl (means_line a b x) | inr x ↦ inr (means_diagonal a b x) ]))
    (means_clear p a b w))
means_test p a b (knight c s h) =
    opened p c Knight a b s
    (either_or (files_apart a b == 1 && ranks_apart a b == 2)
    (files_apart a b == 2 && ranks_apart a b == 1)
    (elim h [
      | inl w ↦ inl (means_two (files_apart a b) (ranks_apart a b) 1 2 w)
      | inr w ↦ inr (means_two (files_apart a b) (ranks_apart a b) 2 1 w)
    ]))
means_test p a b (pawn c s f h) =
    opened p c Pawn a b s
    (and_from (files_apart a b == 1) (is_forward c 1 a b) (eq-eqb (files_apart a b) 1 f)
    (means_forward c a b h))
