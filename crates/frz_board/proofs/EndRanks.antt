-- The first and the last rank are the two ends of each file.
use Rattle.std.proofs.Common.{◌≡◌, ℕ, ◌+◌, ◌-◌, ◌<◌, ◌≤◌, Bool, true, false, ◌&&◌, not, refl, ap, sym, ◌∙◌, arith, ◌⊎◌, inl, inr}
use Rattle.std.specs.Prelude.{◌==◌}
use Rattle.std.proofs.lemmas.Bool.{eqb-true, eq-eqb, and_from, or_cases}
use Rattle.frz_board.specs.Squares.{rank_of}
use Rattle.frz_board.specs.Boards.{Board}
use Rattle.frz_board.specs.Shapes.{is_end, has_pawn, has_pawns_inside}
use Rattle.frz_squares.proofs.Lemmas.{either_or, all_squares, not_all_squares}

-- what a test of a rank forbids
not_both : (x y : Bool) → (x ≡ true → not y ≡ true) → not (x && y) ≡ true
not_both true y h = h refl
not_both false y h = refl

end_cases : (s : ℕ) → s < 64 → is_end s ≡ true → (s < 8) ⊎ (56 ≤ s)
end_cases s l h =
    elim (or_cases (rank_of s == 0) (rank_of s == 7) h) [
      | inl w ↦ inl (let e = eqb-true (rank_of s) 0 w in omega arith)
      | inr w ↦ inr (let e = eqb-true (rank_of s) 7 w in omega arith)
    ]

first_end : (f : ℕ) → f < 8 → is_end f ≡ true
first_end f l =
    either_or (rank_of f == 0) (rank_of f == 7) (inl (eq-eqb (rank_of f) 0 (omega arith)))

last_end : (f : ℕ) → f < 8 → is_end (56 + f) ≡ true
last_end f l =
    either_or (rank_of (56 + f) == 0) (rank_of (56 + f) == 7)
    (inr (eq-eqb (rank_of (56 + f)) 7 (omega arith)))

-- no pawn stands on the ends of the files below n
abbrev pub HasFreeEnds : Board → ℕ → Type 0
HasFreeEnds p n = (f : ℕ) → f < n → (has_pawn p f ≡ false) × (has_pawn p (56 + f) ≡ false)

not_false : (x : Bool) → x ≡ false → not x ≡ true
not_false x h = rw h

pub ends_free : (p : Board) → HasFreeEnds p 8 → true ≡ has_pawns_inside p
unfolding has_pawns_inside
ends_free p h =
    sym (all_squares (λ s. not (is_end s && has_pawn p s))
    (λ s l. not_both (is_end s) (has_pawn p s)
    (λ e. elim (end_cases s l e) [
      | inl w ↦ not_false (has_pawn p s) (h s w).0
      | inr w ↦
          (let back : 56 + (s - 56) ≡ s = omega arith in
          not_false (has_pawn p s) (ap (has_pawn p) (sym back) ∙ (h (s - 56) (omega arith)).1))
    ])))

pub pawn_on_end : (p : Board) (s : ℕ) → s < 64 → is_end s ≡ true → has_pawn p s ≡ true →
    false ≡ has_pawns_inside p
unfolding has_pawns_inside
pawn_on_end p s l e h =
    sym (not_all_squares (λ k. not (is_end k && has_pawn p k)) s l
    (ap not (and_from (is_end s) (has_pawn p s) e h)))

pub pawn_on_first : (p : Board) (f : ℕ) → f < 8 → has_pawn p f ≡ true → false ≡ has_pawns_inside p
pawn_on_first p f l h = pawn_on_end p f (omega arith) (first_end f l) h

pub pawn_on_last : (p : Board) (f : ℕ) → f < 8 → has_pawn p (56 + f) ≡ true →
    false ≡ has_pawns_inside p
pawn_on_last p f l h = pawn_on_end p (56 + f) (omega arith) (last_end f l) h
