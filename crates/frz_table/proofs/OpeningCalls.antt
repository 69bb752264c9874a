-- How many calls open a file.
use Rattle.std.proofs.Common.{◌≡◌, ap, ◌∙◌, ℕ, ◌+◌, ◌*◌, ◌≤◌, List, length, take, drop, Option, Some, None, Bool, true, false, Result, Ok, Err, arith, cond, ltb}
use Rattle.std.specs.Str.{bytes_eq}
use Rattle.std.proofs.lemmas.Bool.{le-ltb}
use Rattle.std.proofs.lemmas.Slice.Eq.{bytes_eq-Decides}
use Rattle.frz_sets.specs.Views.{RuleLines}
use Rattle.frz_rules.specs.declared.fault.RulesFault.{RulesFault}
use Rattle.frz_table.specs.Opening.{Format, Contents, opened, opening_calls, calls_by_magic, calls_by_length, calls_by_text, calls_by_rules, kept_length, kept_text}
use Rattle.frz_table.proofs.Belonging.{belongs}

-- the lesser of two
below_both : (b : Bool) (n x y : ℕ) → n ≤ x → n ≤ y → n ≤ cond b x y
below_both true n x y h k = h
below_both false n x y h k = k

by_rules : (read : Result RuleLines RulesFault) → 4 ≤ calls_by_rules read
by_rules (Err fault) = omega arith
by_rules (Ok rules) = omega arith

by_text : (format : Format) (bytes : List ℕ) → 3 ≤ calls_by_text format bytes
by_text format bytes =
    let more = by_rules (format.read (kept_text bytes)) in
    below_both (ltb (length bytes) (16 + kept_length bytes)) 3 3
    (calls_by_rules (format.read (kept_text bytes))) (omega arith) (omega (arith, more))

by_length : (format : Format) (bytes : List ℕ) → 3 ≤ calls_by_length format bytes
by_length format bytes = below_both (ltb 65536 (kept_length bytes)) 3 3 (calls_by_text format bytes)
    (omega arith) (by_text format bytes)

by_magic : (format : Format) (bytes : List ℕ) → 2 ≤ calls_by_magic format bytes
by_magic format bytes =
    let more = by_length format bytes in
    below_both (bytes_eq (take 8 bytes) (format.magic (take 8 bytes))) 2 (calls_by_length format bytes) 2
    (omega (arith, more)) (omega arith)

-- one call at least
pub one_call : (format : Format) (held : Option (List ℕ)) → 1 ≤ opening_calls format held
unfolding opening_calls
one_call format None = omega arith
one_call format (Some bytes) =
    let more = by_magic format bytes in
    below_both (ltb (length bytes) 16) 1 1 (calls_by_magic format bytes) (omega arith)
    (omega (arith, more))

-- the steps that are passed
past_first : (format : Format) (bytes : List ℕ) → 16 ≤ length bytes
    → opening_calls format (Some bytes) ≡ calls_by_magic format bytes
unfolding opening_calls
past_first format bytes h =
    ap (λ (t : Bool). cond t 1 (calls_by_magic format bytes)) (le-ltb (length bytes) 16 h)

past_magic : (format : Format) (bytes : List ℕ) → take 8 bytes ≡ format.magic (take 8 bytes)
    → calls_by_magic format bytes ≡ calls_by_length format bytes
past_magic format bytes h = ap (λ (t : Bool). cond t (calls_by_length format bytes) 2)
    ((bytes_eq-Decides (take 8 bytes) (format.magic (take 8 bytes))).1 h)

past_text : (format : Format) (bytes : List ℕ) → kept_length bytes ≤ 65536
    → 16 + kept_length bytes ≤ length bytes
    → calls_by_length format bytes ≡ calls_by_rules (format.read (kept_text bytes))
past_text format bytes short whole =
    ap (λ (t : Bool). cond t 3 (calls_by_text format bytes))
    (le-ltb 65536 (kept_length bytes) short)
    ∙ ap (λ (t : Bool). cond t 3 (calls_by_rules (format.read (kept_text bytes))))
    (le-ltb (length bytes) (16 + kept_length bytes) whole)

-- a file that opens is opened by five calls
pub opened_calls : (format : Format) (bytes : List ℕ) (contents : Contents)
    → opened format (Some bytes) ≡ Ok contents → opening_calls format (Some bytes) ≡ 5
opened_calls format bytes contents opens =
    let o = belongs format bytes contents opens in
    let due = o.file.due in
    let counted = o.file.counted in
    past_first format bytes (omega (arith, due)) ∙ past_magic format bytes o.file.begins
    ∙ past_text format bytes (omega (arith, counted, o.short)) (omega (arith, due, counted))
    ∙ ap calls_by_rules (ap format.read
    (ap (λ (k : ℕ). take k (drop 12 bytes)) counted ∙ o.file.has_text) ∙ o.read)

-- the calls that load two lists, behind those that open the file
pub loading_calls : (old mid new due pieces first : ℕ) → due ≡ pieces → first ≡ 5 → mid ≤ old + 5
    → new ≤ mid + 2 * pieces → new ≤ old + (first + 2 * due)
loading_calls old mid new due pieces first same five few more =
    omega (arith, same, five, few, more)
