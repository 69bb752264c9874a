-- What is answered, by the line that stands first in the input.
use Rattle.std.proofs.Common.{◌≡◌, ◌≢◌, ◌≤◌, ◌<◌, refl, sym, ap, ◌∙◌, ℕ, suc, ◌+◌, not, Bool, true, false, List, [], ◌∷◌, ◌++◌, take, drop, length, arith, length-append, eq-eqb, nat_lt, inl, inr}
use Rattle.std.proofs.Math.Seq.{take-append_seam, drop-append-add, take-append-add}
use Rattle.std.proofs.lemmas.List.Folds.{prefix_len-append}
use Rattle.std.proofs.lemmas.List.{length-take}
use Rattle.std.proofs.lemmas.Bool.Decides.{nat_tests}
use Rattle.std.proofs.lemmas.Bool.{cases_Bool}
use Rattle.std.specs.Prelude.{cond}
use Rattle.frz_words.specs.Lines.{is_line_feed}
use Rattle.frz_ways.specs.Hearing.{IsOneLine}
use Rattle.frz_ways.specs.Reading.{line_length, first_line, behind_line}
use Rattle.frz_commands_inquiry.specs.declared.inquiring.Halt.TheVariants.{LineLength}
use Rattle.frz_commands_inquiry.specs.declared.input_line.TheConstants.{MOST_LENGTH}
use Rattle.frz_commands_inquiry.specs.Inquiries.{Inquiry, answering, halts, inquiry, whole_line}

-- how long a line is that goes on behind these bytes
pub line_length_adds_up : (bytes rest : List ℕ) → IsOneLine bytes
    → line_length (bytes ++ rest) ≡ length bytes + line_length rest
line_length_adds_up bytes rest one =
    let p : ℕ → Bool = λ b. not (is_line_feed b) in
    prefix_len-append p bytes rest
    ∙ ap (λ (b : Bool). cond b (length bytes + line_length rest) (line_length bytes))
    (eq-eqb (line_length bytes) (length bytes) one)

other_byte_no_feed : (byte : ℕ) → (byte ≡ 10 → ⊥) → is_line_feed byte ≡ false
other_byte_no_feed byte h = grind (arith, nat_tests)

one_byte : (byte : ℕ) → is_line_feed byte ≡ false → line_length (byte ∷ []) ≡ 1
one_byte byte h = rw h refl

-- a byte more that is no line feed
pub one_byte_more : (bytes : List ℕ) (byte : ℕ) → IsOneLine bytes → (byte ≡ 10 → ⊥)
    → IsOneLine (bytes ++ byte ∷ [])
one_byte_more bytes byte one h =
    line_length_adds_up bytes (byte ∷ []) one
    ∙ (ap (λ n. length bytes + n) (one_byte byte (other_byte_no_feed byte h))
    ∙ sym (length-append bytes (byte ∷ [])))

short_line : (n : ℕ) → n ≤ MOST_LENGTH → nat_lt MOST_LENGTH n ≡ false
short_line n l = grind (arith, nat_tests)

long_line : (n : ℕ) → MOST_LENGTH < n → nat_lt MOST_LENGTH n ≡ true
long_line n l = grind (arith, nat_tests)

module _ (reply : List ℕ → List ℕ) where
  pub asks_short : (more : ℕ) (left : List ℕ) → left ≢ [] → line_length left ≤ MOST_LENGTH
      → inquiry reply (suc more) left ≡ answering (reply (first_line left))
      (length (whole_line left)) (inquiry reply more (behind_line left))
  asks_short more [] some few = absurd (some refl)
  asks_short more (b ∷ bs) some few = rw (short_line (line_length (b ∷ bs)) few) refl

  pub asks_long : (more : ℕ) (left : List ℕ) → left ≢ [] → MOST_LENGTH < line_length left
      → inquiry reply (suc more) left ≡ halts LineLength (MOST_LENGTH + 1)
  asks_long more [] some many = absurd (some refl)
  asks_long more (b ∷ bs) some many = rw (long_line (line_length (b ∷ bs)) many) refl

  -- a line, and behind it a line feed and more, or nothing
  pub asks_line : (more : ℕ) (line tail : List ℕ) → IsOneLine line → line_length tail ≡ 0
      → length line ≤ MOST_LENGTH → line ++ tail ≢ []
      → inquiry reply (suc more) (line ++ tail) ≡ answering (reply line)
      (length (line ++ take 1 tail)) (inquiry reply more (drop 1 tail))
  asks_line more line tail one none few some =
      let long : line_length (line ++ tail) ≡ length line = line_length_adds_up line tail one
      ∙ (ap (λ n. length line + n) none ∙ omega arith) in
      let first : first_line (line ++ tail) ≡ line = ap (λ n. take n (line ++ tail)) long
      ∙ take-append_seam line tail in
      let whole : whole_line (line ++ tail) ≡ line ++ take 1 tail =
      ap (λ n. take (n + 1) (line ++ tail)) long ∙ take-append-add line tail 1 in
      let behind : behind_line (line ++ tail) ≡ drop 1 tail =
      ap (λ n. drop (n + 1) (line ++ tail)) long ∙ drop-append-add line tail 1 in
      asks_short more (line ++ tail) some (omega (arith, long, few))
      ∙ (ap (λ (l : List ℕ). answering (reply l) (length (whole_line (line ++ tail)))
      (inquiry reply more (behind_line (line ++ tail)))) first
      ∙ (ap (λ (l : List ℕ). answering (reply line) (length l)
      (inquiry reply more (behind_line (line ++ tail)))) whole
      ∙ ap (λ (l : List ℕ). answering (reply line) (length (line ++ take 1 tail))
      (inquiry reply more l)) behind))

  not_empty : (bytes rest : List ℕ) → 0 < length bytes → bytes ++ rest ≢ []
  not_empty [] rest l = absurd (omega arith)
  not_empty (b ∷ bytes) rest l = λ e. absurd (cc)

  -- one byte too many
  pub asks_too_long : (more : ℕ) (bytes rest : List ℕ) → IsOneLine bytes
      → length bytes ≡ MOST_LENGTH + 1
      → inquiry reply (suc more) (bytes ++ rest) ≡ halts LineLength (length bytes)
  asks_too_long more bytes rest one many =
      let long : MOST_LENGTH < line_length (bytes ++ rest) =
      (let l = line_length_adds_up bytes rest one in omega (arith, l, many)) in
      asks_long more (bytes ++ rest) (not_empty bytes rest (omega (arith, many))) long
      ∙ ap (halts LineLength) (sym many)

  -- at least a part of a line is taken
  pub takes_part : (more : ℕ) (part rest : List ℕ) → IsOneLine part → length part ≤ MOST_LENGTH
      → length part ≤ (inquiry reply (suc more) (part ++ rest)).taken
  takes_part more [] rest one few = omega arith
  takes_part more (a ∷ part) rest one few =
      let left = (a ∷ part) ++ rest in
      let some : left ≢ [] = λ e. absurd (cc) in
      let long = line_length_adds_up (a ∷ part) rest one in
      let all = length-append (a ∷ part) rest in
      elim (cases_Bool (nat_lt MOST_LENGTH (line_length left))) [
        | inl t ↦ (
            let many : MOST_LENGTH < line_length left = grind (arith, nat_tests, t) in
            let taken = ap (λ (i : Inquiry). i.taken) (asks_long more left some many) in
            omega (arith, taken, few))
        | inr f ↦ (
            let short : line_length left ≤ MOST_LENGTH = grind (arith, nat_tests, f) in
            let taken = ap (λ (i : Inquiry). i.taken) (asks_short more left some short) in
            let whole = length-take (line_length left + 1) left in
            grind (arith, nat_tests, taken, whole, long, all))
      ]
