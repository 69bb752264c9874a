-- Which lines of an input are answered, and how much of it is taken.
use Rattle.std.proofs.Common.{◌≡◌, ◌≤◌, ◌<◌, refl, sym, ap, subst, ◌∙◌, ℕ, zero, suc, ◌+◌, not, true, false, List, [], ◌∷◌, ◌++◌, take, drop, length, Some, arith, nat_lt, inl, inr}
use Rattle.std.specs.Prelude.{slice_get, codes}
use Rattle.std.proofs.Math.Seq.{take-length}
use Rattle.std.proofs.lemmas.List.{length-take, length-drop}
use Rattle.std.proofs.lemmas.List.Sums.{prefix_len-le-length, sum_by-cons}
use Rattle.std.proofs.lemmas.Bool.Decides.{nat_tests}
use Rattle.std.proofs.lemmas.Bool.{cases_Bool}
use Rattle.frz_words.specs.Lines.{is_line_feed, lines, without_empty_end}
use Rattle.frz_words.specs.Parts.{split, with_first}
use Rattle.frz_words.proofs.Lemmas.{length-split}
use Rattle.frz_ways.specs.Reading.{behind_line, first_line, line_length}
use Rattle.frz_commands_inquiry.specs.declared.inquiring.Halt.{Halt}
use Rattle.frz_commands_inquiry.specs.declared.inquiring.Halt.TheVariants.{InputEnded, Lines, LineLength}
use Rattle.frz_commands_inquiry.specs.declared.input_line.TheConstants.{MOST_LENGTH}
use Rattle.frz_commands_inquiry.specs.Inquiries.{Inquiry, inquiry, whole_line}
use Rattle.frz_commands_inquiry.specs.Meaning.{bytes_of, replies}
use Rattle.frz_commands_inquiry.proofs.InputLines.{asks_long, asks_short}

-- the first line of bytes, and the lines behind it, if there is a line feed
data FirstPart (left : List ℕ) : Type 0 where
  fed : split is_line_feed left ≡ first_line left ∷ split is_line_feed (behind_line left)
      → FirstPart left
  last : split is_line_feed left ≡ left ∷ [] → line_length left ≡ length left → FirstPart left

feed_first : (b : ℕ) (bs : List ℕ) → is_line_feed b ≡ true → FirstPart (b ∷ bs)
feed_first b bs e = fed (rw e refl)

one_behind : (n : ℕ) → suc n + 1 ≡ suc (n + 1)
one_behind n = omega arith

later_part : (b : ℕ) (bs : List ℕ) → is_line_feed b ≡ false → FirstPart bs → FirstPart (b ∷ bs)
later_part b bs e (fed h) =
    let next : line_length (b ∷ bs) ≡ suc (line_length bs) = rw e (omega arith) in
    let parts : split is_line_feed (b ∷ bs) ≡ with_first b (split is_line_feed bs) = rw e refl in
    fed (parts ∙ (ap (with_first b) h
    ∙ sym (ap (λ n. take n (b ∷ bs) ∷ split is_line_feed (drop (n + 1) (b ∷ bs))) next
    ∙ ap (λ n. take (suc (line_length bs)) (b ∷ bs) ∷ split is_line_feed (drop n (b ∷ bs)))
    (one_behind (line_length bs)))))
later_part b bs e (last h l) =
    let next : line_length (b ∷ bs) ≡ suc (line_length bs) = rw e (omega arith) in
    let parts : split is_line_feed (b ∷ bs) ≡ with_first b (split is_line_feed bs) = rw e refl in
    last (parts ∙ ap (with_first b) h) (next ∙ ap suc l)

first_part : (left : List ℕ) → FirstPart left
first_part [] = last refl refl
first_part (b ∷ bs) = elim (cases_Bool (is_line_feed b)) [
  | inl t ↦ feed_first b bs t
  | inr f ↦ later_part b bs f (first_part bs)
]

ends_after : (line : List ℕ) (others : List (List ℕ)) → 0 < length others
    → without_empty_end (line ∷ others) ≡ line ∷ without_empty_end others
ends_after line [] h = absurd (omega arith)
ends_after [] (next ∷ others) h = refl
ends_after (b ∷ bs) (next ∷ others) h = refl

drop_all : (xs : List ℕ) → drop (length xs + 1) xs ≡ []
drop_all [] = refl
drop_all (x ∷ xs) = ap (λ n. drop n (x ∷ xs)) (one_behind (length xs)) ∙ drop_all xs

lines_by : (b : ℕ) (bs : List ℕ) → FirstPart (b ∷ bs)
    → lines (b ∷ bs) ≡ first_line (b ∷ bs) ∷ lines (behind_line (b ∷ bs))
lines_by b bs (fed h) =
    ap without_empty_end h
    ∙ ends_after (first_line (b ∷ bs)) (split is_line_feed (behind_line (b ∷ bs)))
    (length-split is_line_feed (behind_line (b ∷ bs)))
lines_by b bs (last h l) =
    ap without_empty_end h
    ∙ (ap (λ (x : List ℕ). x ∷ []) (sym (take-length (b ∷ bs)))
    ∙ (ap (λ n. take n (b ∷ bs) ∷ []) (sym l)
    ∙ ap (λ (x : List ℕ). first_line (b ∷ bs) ∷ lines x)
    (sym (ap (λ n. drop (n + 1) (b ∷ bs)) l ∙ drop_all (b ∷ bs)))))

pub lines_on : (b : ℕ) (bs : List ℕ)
    → lines (b ∷ bs) ≡ first_line (b ∷ bs) ∷ lines (behind_line (b ∷ bs))
lines_on b bs = lines_by b bs (first_part (b ∷ bs))

-- so many lines are answered, and then it halts
abbrev pub HaltsSo : Halt → (answered more : ℕ) → (left : List ℕ) → (taken : ℕ) → Type 0
HaltsSo InputEnded answered more left taken =
    (answered ≡ length (lines left)) × (answered < more) × (taken ≡ length left)
HaltsSo Lines answered more left taken =
    (answered ≡ more) × (answered ≤ length (lines left))
    × (taken ≤ bytes_of (take answered (lines left)))
HaltsSo LineLength answered more left taken =
    (answered < more)
    × ((line : List ℕ) × (slice_get (lines left) answered ≡ Some line) × (MOST_LENGTH < length line))
    × (taken ≤ bytes_of (take answered (lines left)) + (MOST_LENGTH + 1))

pub record Answers (reply : List ℕ → List ℕ) (more : ℕ) (left : List ℕ) (told : Inquiry) :
    Type 0 where
  pub answered : ℕ
  pub text : told.text ≡ replies reply (take answered (lines left))
  pub halts : HaltsSo told.halt answered more left told.taken

few_taken : (n : ℕ) (left : List ℕ) → length (take n left) ≤ n
few_taken n left = let t = length-take n left in grind (arith, nat_tests, t)

first_long : (left : List ℕ) → length (first_line left) ≡ line_length left
first_long left =
    let l = prefix_len-le-length (λ b. not (is_line_feed b)) left in
    let t = length-take (line_length left) left in grind (arith, nat_tests, l, t)

module _ (reply : List ℕ → List ℕ) where
  halts_later : (halt : Halt) (answered more taken : ℕ) (b : ℕ) (bs : List ℕ)
      → HaltsSo halt answered more (behind_line (b ∷ bs)) taken
      → HaltsSo halt (suc answered) (suc more) (b ∷ bs)
      (length (whole_line (b ∷ bs)) + taken)
  halts_later InputEnded answered more taken b bs h =
      let left = b ∷ bs in
      let all = lines_on b bs in
      let count = ap (length {A = List ℕ}) all in
      let whole = length-take (line_length left + 1) left in
      let rest = length-drop (line_length left + 1) left in
      let l = prefix_len-le-length (λ b. not (is_line_feed b)) left in
      (omega (arith, h.0, count), omega (arith, h.1), grind (arith, nat_tests, whole, rest, h.2, l))
  halts_later Lines answered more taken b bs h =
      let left = b ∷ bs in
      let all = lines_on b bs in
      let count = ap (length {A = List ℕ}) all in
      let spent : bytes_of (take (suc answered) (lines left))
      ≡ (length (first_line left) + 1) + bytes_of (take answered (lines (behind_line left))) =
      ap (λ (l : List (List ℕ)). bytes_of (take (suc answered) l)) all
      ∙ sum_by-cons (λ line. length {A = ℕ} line + 1) (first_line left)
      (take answered (lines (behind_line left))) in
      let whole = few_taken (line_length left + 1) left in
      let first = first_long left in (
        omega (arith, h.0),
        omega (arith, h.1, count),
        (let few = h.2 in omega (arith, few, spent, whole, first)),
      )
  halts_later LineLength answered more taken b bs h =
      let left = b ∷ bs in
      let all = lines_on b bs in
      let spent : bytes_of (take (suc answered) (lines left))
      ≡ (length (first_line left) + 1) + bytes_of (take answered (lines (behind_line left))) =
      ap (λ (l : List (List ℕ)). bytes_of (take (suc answered) l)) all
      ∙ sum_by-cons (λ line. length {A = ℕ} line + 1) (first_line left)
      (take answered (lines (behind_line left))) in
      let whole = few_taken (line_length left + 1) left in
      let first = first_long left in (
        omega (arith, h.0),
        (
          h.1.0,
          ap (λ (l : List (List ℕ)). slice_get l (suc answered)) all ∙ h.1.1,
          h.1.2,
        ),
        (let few = h.2 in omega (arith, few, spent, whole, first)),
      )

  one_more : (more : ℕ) (b : ℕ) (bs : List ℕ) → line_length (b ∷ bs) ≤ MOST_LENGTH
      → Answers reply more (behind_line (b ∷ bs)) (inquiry reply more (behind_line (b ∷ bs)))
      → Answers reply (suc more) (b ∷ bs) (inquiry reply (suc more) (b ∷ bs))
  one_more more b bs short h =
      let told = inquiry reply more (behind_line (b ∷ bs)) in
      let all = lines_on b bs in
      subst (λ (i : Inquiry). Answers reply (suc more) (b ∷ bs) i)
      (sym (asks_short reply more (b ∷ bs) (λ e. absurd (cc)) short))
      (record {
        answered = suc h.answered;
        text = ap (λ (t : List ℕ). (reply (first_line (b ∷ bs)) ++ codes "\n") ++ t) h.text
            ∙ sym (ap (λ (l : List (List ℕ)). replies reply (take (suc h.answered) l)) all);
        halts = halts_later told.halt h.answered more told.taken b bs h.halts;
      })

  too_long : (more : ℕ) (b : ℕ) (bs : List ℕ) → MOST_LENGTH < line_length (b ∷ bs)
      → Answers reply (suc more) (b ∷ bs) (inquiry reply (suc more) (b ∷ bs))
  too_long more b bs long =
      let first = first_long (b ∷ bs) in
      subst (λ (i : Inquiry). Answers reply (suc more) (b ∷ bs) i)
      (sym (asks_long reply more (b ∷ bs) (λ e. absurd (cc)) long))
      (record {
        answered = 0;
        text = refl;
        halts = (
          omega arith,
          (
            first_line (b ∷ bs),
            ap (λ (l : List (List ℕ)). slice_get l 0) (lines_on b bs),
            omega (arith, first, long),
          ),
          omega arith,
        );
      })

  pub lines_answered : (more : ℕ) (left : List ℕ)
      → Answers reply more left (inquiry reply more left)
  lines_answered zero left = record {
    answered = 0;
    text = refl;
    halts = (refl, omega arith, omega arith);
  }
  lines_answered (suc more) [] = record {
    answered = 0;
    text = refl;
    halts = (refl, omega arith, refl);
  }
  lines_answered (suc more) (b ∷ bs) =
      elim (cases_Bool (nat_lt MOST_LENGTH (line_length (b ∷ bs)))) [
        | inl t ↦ too_long more b bs (grind (arith, nat_tests, t))
        | inr f ↦ one_more more b bs (grind (arith, nat_tests, f))
            (lines_answered more (behind_line (b ∷ bs)))
      ]
