-- What an input gives, by the line that stands first in it.
use Rattle.std.proofs.Common.{◌≡◌, ◌≢◌, ◌≤◌, ◌<◌, refl, sym, ap, subst, ◌∙◌, ℕ, zero, suc, ◌+◌, ◌-◌, not, Bool, true, false, List, [], ◌∷◌, ◌++◌, take, drop, length, Option, Some, None, arith, length-append, eq-eqb, nat_lt, inl, inr}
use Rattle.std.proofs.Math.Seq.{take-append_seam, drop-append-add}
use Rattle.std.proofs.lemmas.List.Folds.{prefix_len-append}
use Rattle.std.proofs.lemmas.Bool.Decides.{nat_tests}
use Rattle.std.specs.Prelude.{cond}
use Rattle.std.proofs.lemmas.Bool.{cases_Bool}
use Rattle.frz_board.specs.Moving.{Step}
use Rattle.frz_sets.specs.declared.exit.Value.{Value}
use Rattle.frz_words.specs.Lines.{is_line_feed}
use Rattle.frz_arena.specs.declared.arm.Arm.{Arm}
use Rattle.frz_arena.specs.Inputs.{Answer, Reply, Stop}
use Rattle.frz_ways.specs.declared.session_end.PlayLimit.TheVariants.{LineLength}
use Rattle.frz_ways.specs.declared.hearing.Why.TheVariants.{Limit}
use Rattle.frz_ways.specs.declared.session_end.TheConstants.{MOST_LENGTH}
use Rattle.frz_ways.specs.Hearing.{EndsWith, IsOneLine, left_by, refuse}
use Rattle.frz_ways.specs.Reading.{Input, Halt, halted, line_length, first_line, behind_line, place_said, refuse_one, reply_or, reads}
use Rattle.frz_ways.proofs.Taking.{ends_itself, ends_dropped, ends_on}

-- how long a line is that goes on behind these bytes
pub line_length_adds_up : (bytes rest : List ℕ) → IsOneLine bytes
    → line_length (bytes ++ rest) ≡ length bytes + line_length rest
line_length_adds_up bytes rest one =
    let p : ℕ → Bool = λ b. not (is_line_feed b) in
    prefix_len-append p bytes rest
    ∙ ap (λ (b : Bool). cond b (length bytes + line_length rest) (line_length bytes))
    (eq-eqb (line_length bytes) (length bytes) one)

pub empty_is_one_line : IsOneLine []
empty_is_one_line = refl

other_byte_no_feed : (byte : ℕ) → (byte ≡ 10 → ⊥) → is_line_feed byte ≡ false
other_byte_no_feed byte h = grind (arith, nat_tests)

one_byte : (byte : ℕ) → is_line_feed byte ≡ false → line_length (byte ∷ []) ≡ 1
one_byte byte h = rw h refl

-- a byte more that is no line feed
pub one_byte_more : (bytes : List ℕ) (byte : ℕ) → IsOneLine bytes → (byte ≡ 10 → ⊥)
    → IsOneLine (bytes ++ byte ∷ [])
one_byte_more bytes byte one h =
    line_length_adds_up bytes (byte ∷ []) one
    ∙ (ap (λ n. length bytes + n) (one_byte byte (other_byte_no_feed byte h))
    ∙ sym (length-append bytes (byte ∷ [])))

short_line : (n : ℕ) → n ≤ MOST_LENGTH → nat_lt MOST_LENGTH n ≡ false
short_line n l = grind (arith, nat_tests)

long_line : (n : ℕ) → MOST_LENGTH < n → nat_lt MOST_LENGTH n ≡ true
long_line n l = grind (arith, nat_tests)

reads_short : (arms : List (Arm Step ℕ Value)) (more : ℕ) (left : List ℕ) → left ≢ []
    → line_length left ≤ MOST_LENGTH
    → reads arms (suc more) left ≡ reply_or (place_said arms (first_line left))
    (record { left = behind_line left; more = more }) (reads arms more (behind_line left))
reads_short arms more [] some few = absurd (some refl)
reads_short arms more (b ∷ bs) some few = rw (short_line (line_length (b ∷ bs)) few) refl

reads_long : (arms : List (Arm Step ℕ Value)) (more : ℕ) (left : List ℕ) → left ≢ []
    → MOST_LENGTH < line_length left → reads arms (suc more) left ≡ Stop (halted (Limit LineLength))
    (record { left = drop (MOST_LENGTH + 1) left; more = suc more })
reads_long arms more [] some many = absurd (some refl)
reads_long arms more (b ∷ bs) some many = rw (long_line (line_length (b ∷ bs)) many) refl

-- a line, and behind it a line feed and more, or nothing
pub reads_line : (arms : List (Arm Step ℕ Value)) (more : ℕ) (line tail : List ℕ) → IsOneLine line
    → line_length tail ≡ 0 → length line ≤ MOST_LENGTH → line ++ tail ≢ []
    → reads arms (suc more) (line ++ tail) ≡ reply_or (place_said arms line)
    (record { left = drop 1 tail; more = more }) (reads arms more (drop 1 tail))
reads_line arms more line tail one none few some =
    let long : line_length (line ++ tail) ≡ length line = line_length_adds_up line tail one
    ∙ (ap (λ n. length line + n) none ∙ omega arith) in
    let first : first_line (line ++ tail) ≡ line = ap (λ n. take n (line ++ tail)) long
    ∙ take-append_seam line tail in
    let behind : behind_line (line ++ tail) ≡ drop 1 tail = ap (λ n. drop (n + 1) (line ++ tail))
    long ∙ drop-append-add line tail 1 in
    reads_short arms more (line ++ tail) some (omega (arith, long, few))
    ∙ (ap (λ (l : List ℕ). reply_or (place_said arms l)
    (record { left = behind_line (line ++ tail); more = more })
    (reads arms more (behind_line (line ++ tail)))) first
    ∙ ap (λ (l : List ℕ). reply_or (place_said arms line) (record { left = l; more = more })
    (reads arms more l)) behind)

bytes_before_not_empty : (bytes rest : List ℕ) → 0 < length bytes → bytes ++ rest ≢ []
bytes_before_not_empty [] rest l = absurd (omega arith)
bytes_before_not_empty (b ∷ bytes) rest l = λ e. absurd (cc)

-- one byte too many
pub reads_too_long : (arms : List (Arm Step ℕ Value)) (more : ℕ) (bytes rest : List ℕ)
    → IsOneLine bytes → length bytes ≡ MOST_LENGTH + 1
    → reads arms (suc more) (bytes ++ rest) ≡ Stop (halted (Limit LineLength))
    (record { left = rest; more = suc more })
reads_too_long arms more bytes rest one many =
    let long : MOST_LENGTH < line_length (bytes ++ rest) =
    (let l = line_length_adds_up bytes rest one in omega (arith, l, many)) in
    let behind : drop (MOST_LENGTH + 1) (bytes ++ rest) ≡ rest = ap (λ n. drop n (bytes ++ rest))
    (sym many ∙ omega arith) ∙ drop-append-add bytes rest 0 in
    reads_long arms more (bytes ++ rest) (bytes_before_not_empty bytes rest (omega (arith, many)))
    long
    ∙ ap (λ (l : List ℕ). Stop (halted (Limit LineLength)) (record { left = l; more = suc more }))
    behind

left_refused : (answer : Answer Input Halt) → left_by (refuse_one answer) ≡ left_by answer
left_refused (Reply refused place left) = refl
left_refused (Stop halt left) = refl

left_reply : (said : Option ℕ) (left : Input) (next : Answer Input Halt)
    → EndsWith (left_by next) left.left → EndsWith (left_by (reply_or said left next)) left.left
left_reply (Some place) left next h = ends_itself left.left
left_reply None left next h =
    subst (λ (l : List ℕ). EndsWith l left.left) (sym (left_refused next)) h

drop_part : (part rest : List ℕ) (n : ℕ) → EndsWith (drop (length part + n) (part ++ rest)) rest
drop_part part rest n =
    subst (λ (l : List ℕ). EndsWith l rest) (sym (drop-append-add part rest n))
    (ends_dropped n rest)

module _ (arms : List (Arm Step ℕ Value)) where
  -- the rest of a line is taken before anything else is given
  part_by : (more : ℕ) (part rest : List ℕ)
      → ((left : List ℕ) → EndsWith (left_by (reads arms more left)) left) → IsOneLine part
      → length part ≤ MOST_LENGTH → part ++ rest ≢ []
      → EndsWith (left_by (reads arms (suc more) (part ++ rest))) rest
  part_by more part rest ih one few some =
      let long = line_length_adds_up part rest one in
      let left = part ++ rest in
      elim (cases_Bool (nat_lt MOST_LENGTH (line_length left))) [
        | inl t ↦ (
            let many : MOST_LENGTH < line_length left = grind (arith, nat_tests, t) in
            let cut : length part + (MOST_LENGTH + 1 - length part) ≡ MOST_LENGTH + 1 = omega
            (arith, few) in
            subst (λ (a : Answer Input Halt). EndsWith (left_by a) rest)
            (sym (reads_long arms more left some many))
            (subst (λ n. EndsWith (drop n left) rest) cut
            (drop_part part rest (MOST_LENGTH + 1 - length part))))
        | inr f ↦ (
            let short : line_length left ≤ MOST_LENGTH = grind (arith, nat_tests, f) in
            let cut : length part + (line_length rest + 1) ≡ line_length left + 1 = omega
            (arith, long) in
            let behind : EndsWith (behind_line left) rest = subst (λ n. EndsWith (drop n left) rest)
            cut (drop_part part rest (line_length rest + 1)) in
            subst (λ (a : Answer Input Halt). EndsWith (left_by a) rest)
            (sym (reads_short arms more left some short))
            (ends_on (left_by
            (reply_or (place_said arms (first_line left))
            (record { left = behind_line left; more = more }) (reads arms more (behind_line left))))
            (behind_line left) rest
            (left_reply (place_said arms (first_line left))
            (record { left = behind_line left; more = more }) (reads arms more (behind_line left))
            (ih (behind_line left))) behind))
      ]

  -- an input is taken from the front
  pub reads_front : (more : ℕ) (left : List ℕ) → EndsWith (left_by (reads arms more left)) left
  reads_front zero left = ends_itself left
  reads_front (suc more) [] = ends_itself []
  reads_front (suc more) (b ∷ bs) =
      part_by more [] (b ∷ bs) (reads_front more) refl (omega arith) (λ e. absurd (cc))

  -- behind a part of a line
  pub reads_behind : (more : ℕ) (part rest : List ℕ) → IsOneLine part → length part ≤ MOST_LENGTH
      → EndsWith (left_by (reads arms (suc more) (part ++ rest))) rest
  reads_behind more [] [] one few = ends_itself []
  reads_behind more [] (b ∷ rest) one few =
      part_by more [] (b ∷ rest) (reads_front more) one few (λ e. absurd (cc))
  reads_behind more (a ∷ part) rest one few =
      part_by more (a ∷ part) rest (reads_front more) one few (λ e. absurd (cc))

-- refused lines before an answer
pub refuse_inside : (n : ℕ) (answer : Answer Input Halt)
    → refuse n (refuse_one answer) ≡ refuse_one (refuse n answer)
refuse_inside zero answer = refl
refuse_inside (suc n) answer = ap refuse_one (refuse_inside n answer)

pub refuse_reply : (n place : ℕ) (left : Input) → refuse n (Reply 0 place left) ≡ Reply n place left
refuse_reply zero place left = refl
refuse_reply (suc n) place left = ap refuse_one (refuse_reply n place left)

pub refuse_stop : (n : ℕ) (halt : Halt) (left : Input) → halt.refused ≡ 0
    → refuse n (Stop halt left) ≡ Stop (record { refused = n; why = halt.why }) left
refuse_stop zero halt left e = ap (λ k. Stop (record { refused = k; why = halt.why }) left) e
refuse_stop (suc n) halt left e = ap refuse_one (refuse_stop n halt left e)

pub left_refuse : (n : ℕ) (answer : Answer Input Halt) → left_by (refuse n answer) ≡ left_by answer
left_refuse zero answer = refl
left_refuse (suc n) answer = left_refused (refuse n answer) ∙ left_refuse n answer
