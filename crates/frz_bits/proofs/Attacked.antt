-- The squares that a side attacks, gathered man by man.
use Rattle.std.proofs.Common.{◌≡◌, ℕ, ◌+◌, ◌^◌, ◌<◌, true, ◌||◌, refl, ap, sym, ◌∙◌, arith, inl, inr}
use Rattle.std.specs.Cmp.{both_ways}
use Rattle.std.proofs.lemmas.Bool.{agree_below_at, and_from, and_parts, cases_eq, cases_lt, or_cases, or_left, or_right}
use Rattle.frz_board.specs.declared.man.Colour.{Colour}
use Rattle.frz_board.specs.Boards.{Board, holds}
use Rattle.frz_board.specs.Attacks.{attacks, is_attacked}
use Rattle.frz_squares.specs.SquareSets.{has_square, set_of}
use Rattle.frz_squares.proofs.Lemmas.{any_square, has-zero, set_of-from, some_square}
use Rattle.frz_bits.specs.Words.{IsNext, HasNoneFrom}
use Rattle.frz_bits.proofs.Gather.{hits, in_side}

-- the word of all squares
pub all_there : (k : ℕ) → k < 64 → has_square 18446744073709551615 k ≡ true
all_there k l = agree_below_at (has_square 18446744073709551615) (λ _. true) 64 k refl l

-- the word has the squares that the side's men below n attack, and no square that none attacks
pub record IsGathered (p : Board) (by : Colour) (n word : ℕ) : Type 0 where
  pub sound : (b : ℕ) → b < 64 → has_square word b ≡ true → is_attacked p b by ≡ true
  pub whole : (a b : ℕ) → a < n → b < 64 → hits p b by a ≡ true → has_square word b ≡ true

pub gathered_none : (p : Board) (by : Colour) → IsGathered p by 0 0
gathered_none p by = record {
  sound = λ b l h. let off = has-zero b in absurd cc;
  whole = λ a b la lb h. absurd (omega (arith, la));
}

module _ (p : Board) (by : Colour) (men : ℕ) (men_are : men ≡ set_of (λ s. holds p by s)) where
  -- one man more
  pub gathered_next : (n a word more new : ℕ) → IsNext men n a → IsGathered p by n word →
      ((b : ℕ) → b < 64 → has_square more b ≡ attacks p a b) →
      ((b : ℕ) → b < 64 → has_square new b ≡ (has_square word b || has_square more b)) →
      IsGathered p by (a + 1) new
  gathered_next n a word more new next g his joined =
      let held : holds p by a ≡ true =
      sym (in_side p by men a men_are next.on_board) ∙ next.there in
      record {
        sound = λ b l h.
            elim (or_cases (has_square word b) (has_square more b) (sym (joined b l) ∙ h)) [
              | inl e ↦ g.sound b l e
              | inr e ↦ any_square (hits p b by) a next.on_board
                  (and_from (holds p by a) (attacks p a b) held (sym (his b l) ∙ e))
            ];
        whole = λ x b lx lb h.
            elim (cases_lt x n) [
              | inl below ↦
                  joined b lb
                  ∙ or_left (has_square word b) (has_square more b) (g.whole x b below lb h)
              | inr above ↦ elim (cases_eq x a) [
                | inl same ↦
                    joined b lb
                    ∙ or_right (has_square word b) (has_square more b)
                    (his b lb ∙ ap (λ y. attacks p y b) (sym same)
                    ∙ (and_parts (holds p by x) (attacks p x b) h).1)
                | inr other ↦
                    let on = next.on_board in
                    let low : x < 64 = omega (arith, lx, on) in
                    let off = next.first x above (omega (arith, lx, other)) in
                    let there = in_side p by men x men_are low in
                    let stands = (and_parts (holds p by x) (attacks p x b) h).0 in
                    absurd cc
              ]
            ];
      }

  pub gathered_all : (n word : ℕ) → word < 2 ^ 64 → IsGathered p by n word →
      HasNoneFrom men n → word ≡ set_of (λ s. is_attacked p s by)
  gathered_all n word small g none =
      set_of-from word (λ s. is_attacked p s by) small
      (λ b l. both_ways (has_square word b) (is_attacked p b by) (g.sound b l)
      (λ h.
      let found = some_square (hits p b by) h in
      elim (cases_lt found.square n) [
        | inl below ↦ g.whole found.square b below l found.passes
        | inr above ↦
            let off = none.none found.square above found.on_board in
            let there = in_side p by men found.square men_are found.on_board in
            let stands = (and_parts (holds p by found.square) (attacks p found.square b)
            found.passes).0 in
            absurd cc
      ]))
