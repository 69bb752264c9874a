-- The squares that no man of a word hides from a square, man by man.
use Rattle.std.proofs.Common.{◌≡◌, ℕ, ◌+◌, ◌^◌, ◌<◌, Bool, true, false, ◌&&◌, ◌||◌, not, refl, ap, sym, ◌∙◌, arith, inl, inr}
use Rattle.std.proofs.Math.Bool.{not-not}
use Rattle.std.proofs.lemmas.Bool.{and_left, and_parts, and_right, cases_Bool, cases_eq, cases_lt, false_from_ne_true, not-true}
use Rattle.std.specs.Prelude.{◌==◌}
use Rattle.frz_board.specs.Lines.{is_between, is_bishop_line, is_rook_line}
use Rattle.frz_board.specs.Squares.{files_apart, ranks_apart}
use Rattle.frz_squares.proofs.Lemmas.{all_squares, not_all_squares, set_of-from}
use Rattle.frz_squares.specs.SquareSets.{has_square, set_of}
use Rattle.frz_bits.specs.Rays.{is_open}
use Rattle.frz_bits.specs.Words.{HasNoneFrom, IsNext}
use Rattle.frz_bits.proofs.Gather.{in_set, sees}

two_lines : (x r q d e : Bool) → (x && ((r && q) || (d && e))) ≡ true → (q || e) ≡ true
two_lines true r true d e h = refl
two_lines true r false d true h = refl
two_lines true true false true false h = cc
two_lines true true false false false h = cc
two_lines true false false true false h = cc
two_lines true false false false false h = cc
two_lines false r q d e h = cc

-- a square that is on no line with s stands between s and no square
off_line : (s k b : ℕ) → (is_rook_line s k || is_bishop_line s k) ≡ false →
    is_between s k b ≡ false
off_line s k b h =
    false_from_ne_true (is_between s k b)
    (λ e. let line = two_lines ((not (k == s) && not (k == b))
    && (files_apart s k + files_apart k b == files_apart s b
    && ranks_apart s k + ranks_apart k b == ranks_apart s b))
    (is_rook_line s b) (is_rook_line s k) (is_bishop_line s b) (is_bishop_line s k) e in cc)

-- a man who is not among those on a line with s hides nothing from it
pub men_off : (s occupied men lines : ℕ) →
    lines ≡ set_of (λ k. is_rook_line s k || is_bishop_line s k) →
    ((k : ℕ) → k < 64 → has_square men k ≡ (has_square occupied k && has_square lines k)) →
    (k : ℕ) → k < 64 → has_square men k ≡ false → (b : ℕ) →
    (is_between s k b && has_square occupied k) ≡ false
men_off s occupied men lines e h k l out b =
    elim (cases_Bool (has_square occupied k)) [
      | inl there ↦
          and_left (is_between s k b) (has_square occupied k)
          (off_line s k b
          (sym (in_set (λ k. is_rook_line s k || is_bishop_line s k) lines k e l)
          ∙ ap (λ x. x && has_square lines k) (sym there) ∙ sym (h k l) ∙ out))
      | inr none ↦ and_right (is_between s k b) (has_square occupied k) none
    ]

-- the word has those squares of the lines that no man below n hides from s
pub record IsSeen (s lines occupied n word : ℕ) : Type 0 where
  pub kept : (b : ℕ) → b < 64 → has_square word b ≡ true →
      (has_square lines b ≡ true)
      × ((k : ℕ) → k < n → k < 64 → (is_between s k b && has_square occupied k) ≡ false)
  pub left : (b : ℕ) → b < 64 → has_square word b ≡ false → sees s lines occupied b ≡ false

pub seen_first : (s lines occupied : ℕ) → IsSeen s lines occupied 0 lines
seen_first s lines occupied = record {
  kept = λ b l h. (h, λ k i m. absurd (omega arith));
  left = λ b l h. and_left (has_square lines b) (is_open occupied s b) h;
}

not_both : (x y : Bool) → (x && y) ≡ false → (not x || not y) ≡ true
not_both true true h = cc
not_both true false h = refl
not_both false y h = refl

shut : (x y : Bool) → x ≡ true → y ≡ true → (not x || not y) ≡ false
shut x y h i = rw (h, i) refl

-- the men on the lines, of whom the others hide nothing
module _ (s lines occupied men : ℕ)
    (off : (k : ℕ) → k < 64 → has_square men k ≡ false → (b : ℕ) →
    (is_between s k b && has_square occupied k) ≡ false) where
  pub seen_next : (n m word hid less : ℕ) → IsNext men n m → has_square occupied m ≡ true →
      hid ≡ set_of (λ b. is_between s m b) →
      ((b : ℕ) → b < 64 → has_square less b ≡ (has_square word b && not (has_square hid b))) →
      IsSeen s lines occupied n word → IsSeen s lines occupied (m + 1) less
  seen_next n m word hid less next there e cut was = record {
    kept = λ b l h.
        let parts = and_parts (has_square word b) (not (has_square hid b)) (sym (cut b l) ∙ h) in
        let old = was.kept b l parts.0 in (
          old.0,
          λ k i j. elim (cases_lt k n) [
            | inl below ↦ old.1 k below j
            | inr above ↦ elim (cases_eq k m) [
              | inl same ↦ and_left (is_between s k b) (has_square occupied k)
                  (ap (λ x. is_between s x b) same
                  ∙ sym (in_set (λ b. is_between s m b) hid b e l)
                  ∙ not-true (has_square hid b) parts.1)
              | inr apart ↦ off k j (next.first k above (omega arith)) b
            ]
          ],
        );
    left = λ b l h. elim (cases_Bool (has_square word b)) [
      | inl here ↦
          and_right (has_square lines b) (is_open occupied s b)
          (not_all_squares (λ k. not (is_between s k b) || not (has_square occupied k)) m
          next.on_board
          (shut (is_between s m b) (has_square occupied m)
          (sym (in_set (λ b. is_between s m b) hid b e l) ∙ sym (not-not (has_square hid b))
          ∙ ap not (ap (λ x. x && not (has_square hid b)) (sym here) ∙ sym (cut b l) ∙ h))
          there))
      | inr none ↦ was.left b l none
    ];
  }

  pub seen_end : (n word : ℕ) → word < 2 ^ 64 → HasNoneFrom men n →
      IsSeen s lines occupied n word → word ≡ set_of (sees s lines occupied)
  seen_end n word small none was =
      set_of-from word (sees s lines occupied) small
      (λ b l. elim (cases_Bool (has_square word b)) [
        | inl there ↦
            let old = was.kept b l there in
            there ∙ sym (ap (λ x. x && is_open occupied s b) old.0
            ∙ all_squares (λ k. not (is_between s k b) || not (has_square occupied k))
            (λ k m. not_both (is_between s k b) (has_square occupied k)
            (elim (cases_lt k n) [
              | inl below ↦ old.1 k below m
              | inr above ↦ off k m (none.none k above m) b
            ])))
        | inr out ↦ out ∙ sym (was.left b l out)
      ])
