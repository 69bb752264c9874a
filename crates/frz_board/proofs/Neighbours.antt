-- The squares beside a square have the numbers before and after it.
use Rattle.std.proofs.Common.{◌≡◌, ℕ, ◌+◌, ◌-◌, ◌<◌, Bool, true, false, ◌&&◌, ◌||◌, ap, sym, ◌∙◌, arith, ◌⊎◌, inl, inr}
use Rattle.std.specs.Prelude.{◌==◌, nat_lt}
use Rattle.std.specs.List.{list_any}
use Rattle.std.proofs.lemmas.Bool.{eqb-true, eq-eqb, ltb-true, lt-ltb, and_parts, and_from, or_cases}
use Rattle.frz_board.specs.declared.man.Colour.{Colour}
use Rattle.frz_board.specs.declared.man.Kind.TheVariants.{Pawn}
use Rattle.frz_board.specs.Squares.{squares, file_of, files_apart, ranks_apart}
use Rattle.frz_board.specs.Boards.{Board, has}
use Rattle.frz_board.specs.EnPassant.{has_pawn_beside}
use Rattle.frz_squares.proofs.Lemmas.{either_or, Found, some_square, any_square}
use Rattle.std.specs.Cmp.{both_ways}

-- one file apart on one rank
abbrev is_beside : ℕ → ℕ → Bool
is_beside s b = ranks_apart s b == 0 && files_apart s b == 1

-- a test passes at the square before b, or at the one after
abbrev passes_beside : (ℕ → Bool) → ℕ → Bool
passes_beside q b = (nat_lt 0 (file_of b) && q (b - 1)) || (nat_lt (file_of b) 7 && q (b + 1))

beside_cases : (s b : ℕ) → s < 64 → b < 64 → ranks_apart s b ≡ 0 → files_apart s b ≡ 1 →
    ((0 < file_of b) × (s ≡ b - 1)) ⊎ ((file_of b < 7) × (s ≡ b + 1))
beside_cases s b l m h k = grind arith

left_is_beside : (b : ℕ) → b < 64 → 0 < file_of b → is_beside (b - 1) b ≡ true
left_is_beside b l h =
    and_from (ranks_apart (b - 1) b == 0) (files_apart (b - 1) b == 1)
    (eq-eqb (ranks_apart (b - 1) b) 0 (omega arith))
    (eq-eqb (files_apart (b - 1) b) 1 (omega arith))

right_is_beside : (b : ℕ) → b < 64 → file_of b < 7 → is_beside (b + 1) b ≡ true
right_is_beside b l h =
    and_from (ranks_apart (b + 1) b == 0) (files_apart (b + 1) b == 1)
    (eq-eqb (ranks_apart (b + 1) b) 0 (omega arith))
    (eq-eqb (files_apart (b + 1) b) 1 (omega arith))

from_found : (q : ℕ → Bool) (b : ℕ) → b < 64 → Found (λ s. is_beside s b && q s) →
    passes_beside q b ≡ true
from_found q b l f =
    let parts = and_parts (is_beside f.square b) (q f.square) f.passes in
    let near = and_parts (ranks_apart f.square b == 0) (files_apart f.square b == 1) parts.0 in
    elim (beside_cases f.square b f.on_board l (eqb-true (ranks_apart f.square b) 0 near.0)
    (eqb-true (files_apart f.square b) 1 near.1)) [
      | inl w ↦ either_or (nat_lt 0 (file_of b) && q (b - 1)) (nat_lt (file_of b) 7 && q (b + 1))
          (inl (and_from (nat_lt 0 (file_of b)) (q (b - 1)) (lt-ltb 0 (file_of b) w.0)
          (ap q (sym w.1) ∙ parts.1)))
      | inr w ↦ either_or (nat_lt 0 (file_of b) && q (b - 1)) (nat_lt (file_of b) 7 && q (b + 1))
          (inr (and_from (nat_lt (file_of b) 7) (q (b + 1)) (lt-ltb (file_of b) 7 w.0)
          (ap q (sym w.1) ∙ parts.1)))
    ]

to_any : (q : ℕ → Bool) (b : ℕ) → b < 64 → passes_beside q b ≡ true →
    list_any (λ s. is_beside s b && q s) squares ≡ true
to_any q b l h =
    elim (or_cases (nat_lt 0 (file_of b) && q (b - 1)) (nat_lt (file_of b) 7 && q (b + 1)) h) [
      | inl w ↦
          (let parts = and_parts (nat_lt 0 (file_of b)) (q (b - 1)) w in
          any_square (λ s. is_beside s b && q s) (b - 1) (omega arith)
          (and_from (is_beside (b - 1) b) (q (b - 1))
          (left_is_beside b l (ltb-true 0 (file_of b) parts.0)) parts.1))
      | inr w ↦
          (let parts = and_parts (nat_lt (file_of b) 7) (q (b + 1)) w in
          let inside : file_of b < 7 = ltb-true (file_of b) 7 parts.0 in
          any_square (λ s. is_beside s b && q s) (b + 1) (omega arith)
          (and_from (is_beside (b + 1) b) (q (b + 1)) (right_is_beside b l inside) parts.1))
    ]

beside_by_number : (p : Board) (c : Colour) (b : ℕ) → b < 64 →
    passes_beside (has p c Pawn) b ≡ has_pawn_beside p c b
beside_by_number p c b l =
    both_ways (passes_beside (has p c Pawn) b) (has_pawn_beside p c b)
    (to_any (has p c Pawn) b l)
    (λ h. from_found (has p c Pawn) b l (some_square (λ s. is_beside s b && has p c Pawn s) h))

-- the one neighbour decides, or else the other does
pub beside_before : (p : Board) (c : Colour) (b : ℕ) (x : Bool) → b < 64 →
    x ≡ (nat_lt 0 (file_of b) && has p c Pawn (b - 1)) → x ≡ true → x ≡ has_pawn_beside p c b
beside_before p c b x l e h =
    (h ∙ sym (either_or (nat_lt 0 (file_of b) && has p c Pawn (b - 1))
    (nat_lt (file_of b) 7 && has p c Pawn (b + 1)) (inl (sym e ∙ h))))
    ∙ beside_by_number p c b l

pub beside_after : (p : Board) (c : Colour) (b : ℕ) (x y : Bool) → b < 64 →
    x ≡ (nat_lt 0 (file_of b) && has p c Pawn (b - 1)) → x ≡ false →
    y ≡ (nat_lt (file_of b) 7 && has p c Pawn (b + 1)) → y ≡ has_pawn_beside p c b
beside_after p c b x y l e h k =
    (k ∙ ap (λ z. z || (nat_lt (file_of b) 7 && has p c Pawn (b + 1))) (sym h ∙ e))
    ∙ beside_by_number p c b l
