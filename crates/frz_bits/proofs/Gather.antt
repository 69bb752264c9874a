-- Words gathered square by square.
use Rattle.std.proofs.Common.{◌≡◌, ℕ, ◌+◌, ◌^◌, ◌<◌, ◌≤◌, Bool, false, cond, ◌&&◌, ap, sym, ◌∙◌, arith, inl, inr}
use Rattle.std.proofs.lemmas.Bool.{cases_eq, cases_lt, and_left}
use Rattle.frz_board.specs.declared.man.Colour.{Colour}
use Rattle.frz_board.specs.declared.man.Kind.TheVariants.{King}
use Rattle.frz_board.specs.Men.{other_of}
use Rattle.frz_board.specs.Boards.{Board, holds, has}
use Rattle.frz_board.specs.Attacks.{attacks, is_attacked}
use Rattle.frz_bits.specs.Words.{IsNext, HasNoneFrom}
use Rattle.frz_bits.specs.Rays.{is_open}
use Rattle.frz_squares.specs.SquareSets.{bits_below, set_of, has_square}
use Rattle.frz_squares.proofs.Lemmas.{bits_below-next, bits_below-jump, bits_below-small, has-set_of}

-- a walk over the squares of the word w, which holds all that pass the test f: the squares that
-- pass it are gathered into a word
module _ (f : ℕ → Bool) (w : ℕ)
    (all : (k : ℕ) → k < 64 → has_square w k ≡ false → f k ≡ false) where
  pub walked : (n s : ℕ) → IsNext w n s → bits_below f s ≡ bits_below f n
  walked n s next =
      bits_below-jump f n s next.from
      (λ k l m. let on = next.on_board in all k (omega arith) (next.first k l m))

  pub walk_room : (n s word : ℕ) → word ≡ bits_below f n → IsNext w n s → word < 2 ^ s
  walk_room n s word e next =
      let same = walked n s next in let small = bits_below-small f s in omega arith

  pub walk_next : (n s word v : ℕ) (x : Bool) → word ≡ bits_below f n → IsNext w n s →
      v ≡ word + cond x (2 ^ s) 0 → x ≡ f s → v ≡ bits_below f (s + 1)
  walk_next n s word v x e next made is =
      made ∙ ap (λ m. m + cond x (2 ^ s) 0) (e ∙ sym (walked n s next))
      ∙ ap (λ y. bits_below f s + cond y (2 ^ s) 0) is ∙ sym (bits_below-next f s)

  pub walk_end : (n word : ℕ) → n ≤ 64 → word ≡ bits_below f n → HasNoneFrom w n → word ≡ set_of f
  unfolding set_of
  walk_end n word l e none = e ∙ sym (bits_below-jump f n 64 l (λ k i m. all k m (none.none k i m)))

-- the squares below n of the lines that no occupied square hides
abbrev pub sees : ℕ → ℕ → ℕ → ℕ → Bool
sees s lines occupied b = has_square lines b && is_open occupied s b

-- the men of a side that attack the square
abbrev pub hits : Board → ℕ → Colour → ℕ → Bool
hits p s by a = holds p by a && attacks p a s

pub sees_in : (s lines occupied : ℕ) (k : ℕ) → k < 64 → has_square lines k ≡ false →
    sees s lines occupied k ≡ false
sees_in s lines occupied k l h = and_left (has_square lines k) (is_open occupied s k) h

-- a square is in the word of a test where it passes the test
pub in_set : (f : ℕ → Bool) (w k : ℕ) → w ≡ set_of f → k < 64 → has_square w k ≡ f k
in_set f w k e l = ap (λ v. has_square v k) e ∙ has-set_of f k l

-- a square is in the word of a side where its man stands there
pub in_side : (p : Board) (c : Colour) (w k : ℕ) → w ≡ set_of (λ s. holds p c s) → k < 64 →
    has_square w k ≡ holds p c k
in_side p c w k e l = in_set (λ s. holds p c s) w k e l

-- a king of the side stands on the square, and is attacked
abbrev pub checks : Board → Colour → ℕ → Bool
checks p c s = has p c King s && is_attacked p s (other_of c)

pub checks_in : (p : Board) (c : Colour) (w : ℕ) → w ≡ set_of (λ s. has p c King s) → (k : ℕ) →
    k < 64 → has_square w k ≡ false → checks p c k ≡ false
checks_in p c w e k l h =
    and_left (has p c King k) (is_attacked p k (other_of c))
    (sym (in_set (has p c King) w k e l) ∙ h)

-- what fails below n, between n and s, and at s, fails below s + 1
pub fails_on : (f : ℕ → Bool) (w n s : ℕ) →
    ((k : ℕ) → k < 64 → has_square w k ≡ false → f k ≡ false) → IsNext w n s →
    ((k : ℕ) → k < n → f k ≡ false) → f s ≡ false → (k : ℕ) → k < s + 1 → f k ≡ false
fails_on f w n s all next below here k l =
    elim (cases_lt k n) [
      | inl i ↦ below k i
      | inr i ↦ elim (cases_eq k s) [
        | inl e ↦ ap f e ∙ here
        | inr e ↦ let on = next.on_board in all k (omega arith) (next.first k i (omega arith))
      ]
    ]

pub fails_all : (f : ℕ → Bool) (w n : ℕ) →
    ((k : ℕ) → k < 64 → has_square w k ≡ false → f k ≡ false) → HasNoneFrom w n →
    ((k : ℕ) → k < n → f k ≡ false) → (k : ℕ) → k < 64 → f k ≡ false
fails_all f w n all none below k l =
    elim (cases_lt k n) [
      | inl i ↦ below k i
      | inr i ↦ all k l (none.none k i l)
    ]
