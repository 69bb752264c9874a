-- A file that opens is a file of its text, and a front of it is refused.
use Rattle.std.proofs.Common.{◌≡◌, refl, sym, ap, subst, ◌∙◌, ℕ, ◌+◌, ◌-◌, ◌<◌, ◌≤◌, List, length, take, drop, Some, Bool, true, false, Result, Ok, Err, arith, cond, ltb, length-drop}
use Rattle.std.specs.Prelude.{◌==◌}
use Rattle.std.specs.Int.{w32, from_le_bytes}
use Rattle.std.specs.Str.{bytes_eq}
use Rattle.std.proofs.lemmas.Bool.{ltb-true, ltb-false, lt-ltb, eqb-true, eq-eqb}
use Rattle.std.proofs.lemmas.List.{length-take-le, take-take, drop-take}
use Rattle.std.proofs.lemmas.Slice.Eq.{bytes_eq-Decides}
use Rattle.frz_sets.specs.Views.{RuleLines}
use Rattle.frz_rules.specs.declared.fault.RulesCause.TheVariants.{TooLong}
use Rattle.frz_rules.specs.declared.fault.RulesFault.{RulesFault}
use Rattle.frz_table.specs.declared.fault.TableFault.{TableFault}
use Rattle.frz_table.specs.declared.fault.TableFault.TheVariants.{Truncated, Extra, Rules, Size}
use Rattle.frz_table.specs.Faults.{magic_fault}
use Rattle.frz_table.specs.Numbers.{number_at}
use Rattle.frz_table.specs.Layout.{due_length}
use Rattle.frz_table.specs.Opening.{Format, Contents, IsOpened, opened, with_magic, with_length, with_text, with_rules, of_size, of_length, kept_length, kept_text, kept_size, due_by}
use Rattle.frz_table.proofs.Refusing.{Given, short, long_enough, right_magic, short_text, cut_text, whole_text, of_due}
use Rattle.frz_table.specs.Steps.{HasSize}

not_first : (b : Bool) (fault : TableFault) (given : Given) (contents : Contents)
    → cond b (Err fault) given ≡ Ok contents → (b ≡ false) × (given ≡ Ok contents)
not_first true fault given contents h = absurd (cc)
not_first false fault given contents h = (refl, h)

not_second : (b : Bool) (given : Given) (fault : TableFault) (contents : Contents)
    → cond b given (Err fault) ≡ Ok contents → (b ≡ true) × (given ≡ Ok contents)
not_second true given fault contents h = (refl, h)
not_second false given fault contents h = absurd (cc)

-- the last three steps passed
passed_size : (format : Format) (bytes : List ℕ) (made contents : Contents) (size : ℕ)
    → of_size bytes made size ≡ Ok contents
    → (kept_size bytes ≡ size) × (length bytes ≡ due_length made.text size) × (made ≡ contents)
passed_size format bytes made contents size h =
    let due : ℕ = due_length made.text size in
    let sized = not_second (kept_size bytes == size) (of_length bytes made due)
    (Size (kept_size bytes) size) contents h in
    let long = not_first (ltb (length bytes) due) (Truncated (length bytes) due)
    (cond (ltb due (length bytes)) (Err (Extra (length bytes) due)) (Ok made)) contents
    sized.1 in
    let short = not_first (ltb due (length bytes)) (Extra (length bytes) due) (Ok made) contents
    long.1 in
    let above : due ≤ length bytes = ltb-false (length bytes) due long.0 in
    let below : length bytes ≤ due = ltb-false due (length bytes) short.0 in
    let last : Ok made ≡ Ok contents = short.1 in
    (eqb-true (kept_size bytes) size sized.0, omega (arith, above, below), cc)

passed_rules : (format : Format) (bytes : List ℕ) (contents : Contents)
    (read : Result RuleLines RulesFault) → with_rules format bytes read ≡ Ok contents
    → (rules : RuleLines) × (read ≡ Ok rules)
    × (of_size bytes (record { text = kept_text bytes; rules = rules }) (format.size rules)
    ≡ Ok contents)
passed_rules format bytes contents (Err fault) h = absurd (cc)
passed_rules format bytes contents (Ok rules) h = (rules, refl, h)

-- all steps passed
pub belongs : (format : Format) (bytes : List ℕ) (contents : Contents)
    → opened format (Some bytes) ≡ Ok contents → IsOpened format bytes contents
unfolding opened
belongs format bytes contents h =
    let long = not_first (ltb (length bytes) 16) (Truncated (length bytes) 16)
    (with_magic format bytes) contents h in
    let magic = not_second (bytes_eq (take 8 bytes) (format.magic (take 8 bytes))) (with_length format bytes)
    (magic_fault (format.other (take 8 bytes)))
    contents long.1 in
    let few = not_first (ltb 65536 (kept_length bytes))
    (Rules (record { line = 0; cause = TooLong })) (with_text format bytes) contents magic.1 in
    let whole = not_first (ltb (length bytes) (16 + kept_length bytes))
    (Truncated (length bytes) (16 + kept_length bytes))
    (with_rules format bytes (format.read (kept_text bytes))) contents few.1 in
    let read = passed_rules format bytes contents (format.read (kept_text bytes)) whole.1 in
    let made : Contents = record { text = kept_text bytes; rules = read.0 } in
    let size = passed_size format bytes made contents (format.size read.0) read.2 in
    let enough : 16 + kept_length bytes ≤ length bytes = ltb-false (length bytes)
    (16 + kept_length bytes) whole.0 in
    let counted : length (kept_text bytes) ≡ kept_length bytes = length-take-le (kept_length bytes)
    (drop 12 bytes) (omega (arith, enough, length-drop 12 bytes)) in
    let made_file : IsOpened format bytes made = record {
      file = record {
        begins = (bytes_eq-Decides (take 8 bytes) (format.magic (take 8 bytes))).0 magic.0;
        counted = sym counted;
        has_text = ap (λ (n : ℕ). take n (drop 12 bytes)) counted;
        sized = ap (λ (n : ℕ). number_at (12 + n) bytes) counted ∙ size.0;
        due = size.1;
      };
      short = omega (arith, counted, ltb-false 65536 (kept_length bytes) few.0);
      read = read.1;
    } in
    subst (λ (c : Contents). IsOpened format bytes c) size.2 made_file

-- and then it opens
pub opens_by : (format : Format) (bytes : List ℕ) (contents : Contents)
    → IsOpened format bytes contents → opened format (Some bytes) ≡ Ok contents
opens_by format bytes contents h =
    let size : ℕ = format.size contents.rules in
    let long : 16 ≤ length bytes = omega (arith, h.file.due) in
    let whole : 16 + kept_length bytes ≤ length bytes = omega (arith, h.file.due, h.file.counted) in
    let text_is : kept_text bytes ≡ contents.text = ap (λ (n : ℕ). take n (drop 12 bytes))
    h.file.counted ∙ h.file.has_text in
    let at : List ℕ → Given = λ t. of_size bytes (record { text = t; rules = contents.rules })
    size in
    let sized : HasSize contents.text size bytes =
    record {
      sized = ap (λ (n : ℕ). number_at (12 + n) bytes) h.file.counted ∙ h.file.sized;
      due = h.file.due;
    } in
    long_enough format bytes long ∙ right_magic format bytes h.file.begins ∙ short_text format bytes
    (omega (arith, h.file.counted, h.short)) ∙ whole_text format bytes whole
    ∙ ap (with_rules format bytes) (ap format.read text_is ∙ h.read) ∙ ap at text_is
    ∙ of_due contents.text contents.rules size bytes sized

-- what stands in a front of the bytes
front_part : (place n k : ℕ) (bytes : List ℕ) → place + n ≤ k
    → take n (drop place (take k bytes)) ≡ take n (drop place bytes)
front_part place n k bytes h =
    let is : k ≡ place + (k - place) = omega (arith, h) in
    let few : n ≤ k - place = omega (arith, h) in
    ap (λ (j : ℕ). take n (drop place (take j bytes))) is
    ∙ ap (take n) (drop-take place (k - place) bytes) ∙ take-take n (k - place)
    (drop place bytes) few

front_number : (place k : ℕ) (bytes : List ℕ) → place + 4 ≤ k
    → number_at place (take k bytes) ≡ number_at place bytes
front_number place k bytes h = ap (from_le_bytes w32) (front_part place 4 k bytes h)

-- a file that is cut is refused with its length and the length due
cut_short : (format : Format) (bytes : List ℕ) (k : ℕ) → k ≤ length bytes → k < 16
    → opened format (Some (take k bytes)) ≡ Err (Truncated k 16)
cut_short format bytes k within few =
    let long : length (take k bytes) ≡ k = length-take-le k bytes within in
    let at : ℕ → Given = λ n. Err (Truncated n 16) in
    short format (take k bytes) (omega (arith, long, few)) ∙ ap at long

cut_begun : (format : Format) (bytes : List ℕ) (contents : Contents) (k : ℕ)
    → IsOpened format bytes contents → k ≤ length bytes → 16 ≤ k
    → opened format (Some (take k bytes)) ≡ with_text format (take k bytes)
cut_begun format bytes contents k h within enough =
    let long : length (take k bytes) ≡ k = length-take-le k bytes within in
    let kept : kept_length (take k bytes) ≡ length contents.text = front_number 8 k bytes
    (omega (arith, enough)) ∙ h.file.counted in
    long_enough format (take k bytes) (omega (arith, long, enough))
    ∙ right_magic format (take k bytes)
    (subst (λ (l : List ℕ). l ≡ format.magic l) (sym (take-take 8 k bytes (omega (arith, enough))))
    h.file.begins) ∙ short_text format (take k bytes)
    (omega (arith, kept, h.short))

cut_in_text : (format : Format) (bytes : List ℕ) (contents : Contents) (k : ℕ)
    → IsOpened format bytes contents → k ≤ length bytes → 16 ≤ k → k < 16 + length contents.text
    → opened format (Some (take k bytes)) ≡ Err (Truncated k (16 + length contents.text))
cut_in_text format bytes contents k h within enough few =
    let long : length (take k bytes) ≡ k = length-take-le k bytes within in
    let kept : kept_length (take k bytes) ≡ length contents.text = front_number 8 k bytes
    (omega (arith, enough)) ∙ h.file.counted in
    let at : ℕ → ℕ → Given = λ n due. Err (Truncated n due) in
    cut_begun format bytes contents k h within enough ∙ cut_text format (take k bytes)
    (omega (arith, long, kept, few))
    ∙ ap (λ (n : ℕ). at n (16 + kept_length (take k bytes))) long
    ∙ ap (λ (n : ℕ). at k (16 + n)) kept

cut_in_codes : (format : Format) (bytes : List ℕ) (contents : Contents) (k : ℕ)
    → IsOpened format bytes contents → k < length bytes → 16 + length contents.text ≤ k
    → opened format (Some (take k bytes)) ≡ Err
    (Truncated k (due_length contents.text (format.size contents.rules)))
cut_in_codes format bytes contents k h few enough =
    let size : ℕ = format.size contents.rules in
    let due : ℕ = due_length contents.text size in
    let front : List ℕ = take k bytes in
    let long : length front ≡ k = length-take-le k bytes (omega (arith, few)) in
    let kept : kept_length front ≡ length contents.text = front_number 8 k bytes
    (omega (arith, enough)) ∙ h.file.counted in
    let text_is : kept_text front ≡ contents.text =
    ap (λ (n : ℕ). take n (drop 12 front)) kept ∙ front_part 12 (length contents.text) k bytes
    (omega (arith, enough)) ∙ h.file.has_text in
    let sized : kept_size front ≡ size = ap (λ (n : ℕ). number_at (12 + n) front) kept
    ∙ front_number (12 + length contents.text) k bytes (omega (arith, enough)) ∙ h.file.sized in
    let at : List ℕ → Given = λ t. of_size front (record { text = t; rules = contents.rules })
    size in
    let cut : ℕ → Given = λ n. Err (Truncated n due) in
    cut_begun format bytes contents k h (omega (arith, few)) (omega (arith, enough))
    ∙ whole_text format front (omega (arith, long, kept, enough))
    ∙ ap (with_rules format front) (ap format.read text_is ∙ h.read) ∙ ap at text_is
    ∙ ap (λ (t : Bool). cond t (of_length front contents due) (Err (Size (kept_size front) size)))
    (eq-eqb (kept_size front) size sized)
    ∙ ap (λ (t : Bool). cond t (Err (Truncated (length front) due))
    (cond (ltb due (length front)) (Err (Extra (length front) due)) (Ok contents)))
    (lt-ltb (length front) due (omega (arith, long, few, h.file.due)))
    ∙ ap cut long

pub cut_refused : (format : Format) (bytes : List ℕ) (contents : Contents) (k : ℕ)
    → opened format (Some bytes) ≡ Ok contents → k < length bytes
    → opened format (Some (take k bytes)) ≡ Err
    (Truncated k (due_by contents.text (format.size contents.rules) k))
cut_refused format bytes contents k opens few = by_start (ltb k 16) refl
  where
    h : IsOpened format bytes contents
    h = belongs format bytes contents opens

    by_text : (b : Bool) → ltb k (16 + length contents.text) ≡ b → 16 ≤ k
        → opened format (Some (take k bytes)) ≡ Err
        (Truncated k (cond b (16 + length contents.text)
        (due_length contents.text (format.size contents.rules))))
    by_text true is enough = cut_in_text format bytes contents k h (omega (arith, few)) enough
        (ltb-true k (16 + length contents.text) is)
    by_text false is enough =
        cut_in_codes format bytes contents k h few (ltb-false k (16 + length contents.text) is)

    by_start : (b : Bool) → ltb k 16 ≡ b
        → opened format (Some (take k bytes)) ≡ Err
        (Truncated k (cond b 16
        (cond (ltb k (16 + length contents.text)) (16 + length contents.text)
        (due_length contents.text (format.size contents.rules)))))
    by_start true is = cut_short format bytes k (omega (arith, few)) (ltb-true k 16 is)
    by_start false is = by_text (ltb k (16 + length contents.text)) refl (ltb-false k 16 is)
