-- Each step of opening a file: where it refuses, and where it goes on.
use Rattle.std.proofs.Common.{◌≡◌, refl, ap, ◌∙◌, ℕ, ◌+◌, ◌<◌, ◌≤◌, List, length, take, Option, Some, None, Bool, true, Result, Ok, Err, arith, cond, ltb}
use Rattle.std.specs.Str.{bytes_eq}
use Rattle.std.proofs.lemmas.Bool.{lt-ltb, le-ltb, eq-eqb}
use Rattle.std.proofs.lemmas.Slice.Eq.{bytes_eq-Decides}
use Rattle.frz_sets.specs.Views.{RuleLines}
use Rattle.frz_rules.specs.declared.fault.RulesCause.TheVariants.{TooLong}
use Rattle.frz_table.specs.declared.fault.TableFault.{TableFault}
use Rattle.frz_table.specs.declared.fault.TableFault.TheVariants.{Missing, Truncated, Extra, Rules, Size}
use Rattle.frz_table.specs.declared.kind.FileKind.{FileKind}
use Rattle.frz_table.specs.Faults.{magic_fault}
use Rattle.frz_table.specs.Layout.{due_length}
use Rattle.frz_table.specs.Opening.{Format, Contents, format_for, opened, with_magic, with_length, with_text, with_rules, of_size, of_length, kept_length, kept_text, kept_size}
use Rattle.frz_table.specs.Steps.{HasSize, Refines}

abbrev pub Given : Type 0
Given = Result Contents TableFault

-- step 1
pub opened_missing : (format : Format) → opened format None ≡ Err Missing
unfolding opened
opened_missing format = refl

-- step 2
pub short : (format : Format) (bytes : List ℕ) → length bytes < 16
    → opened format (Some bytes) ≡ Err (Truncated (length bytes) 16)
unfolding opened
short format bytes h =
    ap (λ (t : Bool). cond t (Err (Truncated (length bytes) 16)) (with_magic format bytes))
    (lt-ltb (length bytes) 16 h)

pub long_enough : (format : Format) (bytes : List ℕ) → 16 ≤ length bytes
    → opened format (Some bytes) ≡ with_magic format bytes
unfolding opened
long_enough format bytes h =
    ap (λ (t : Bool). cond t (Err (Truncated (length bytes) 16)) (with_magic format bytes))
    (le-ltb (length bytes) 16 h)

-- step 3
magic_tested : (format : Format) (bytes : List ℕ) (b : Bool)
    → bytes_eq (take 8 bytes) (format.magic (take 8 bytes)) ≡ b
    → with_magic format bytes ≡ cond b (with_length format bytes)
    (Err (magic_fault (format.other (take 8 bytes))))
magic_tested format bytes b h =
    ap (λ (t : Bool). cond t (with_length format bytes) (Err (magic_fault (format.other (take 8 bytes))))) h

pub right_magic : (format : Format) (bytes : List ℕ) → take 8 bytes ≡ format.magic (take 8 bytes)
    → with_magic format bytes ≡ with_length format bytes
right_magic format bytes h =
    magic_tested format bytes true ((bytes_eq-Decides (take 8 bytes) (format.magic (take 8 bytes))).1 h)

-- step 4
long_text : (format : Format) (bytes : List ℕ) → 65536 < kept_length bytes
    → with_length format bytes ≡ Err (Rules (record { line = 0; cause = TooLong }))
long_text format bytes h =
    ap (λ (t : Bool). cond t (Err (Rules (record { line = 0; cause = TooLong })))
    (with_text format bytes)) (lt-ltb 65536 (kept_length bytes) h)

pub short_text : (format : Format) (bytes : List ℕ) → kept_length bytes ≤ 65536
    → with_length format bytes ≡ with_text format bytes
short_text format bytes h =
    ap (λ (t : Bool). cond t (Err (Rules (record { line = 0; cause = TooLong })))
    (with_text format bytes)) (le-ltb 65536 (kept_length bytes) h)

-- step 5
pub cut_text : (format : Format) (bytes : List ℕ) → length bytes < 16 + kept_length bytes
    → with_text format bytes ≡ Err (Truncated (length bytes) (16 + kept_length bytes))
cut_text format bytes h =
    ap (λ (t : Bool). cond t (Err (Truncated (length bytes) (16 + kept_length bytes)))
    (with_rules format bytes (format.read (kept_text bytes))))
    (lt-ltb (length bytes) (16 + kept_length bytes) h)

pub whole_text : (format : Format) (bytes : List ℕ) → 16 + kept_length bytes ≤ length bytes
    → with_text format bytes ≡ with_rules format bytes (format.read (kept_text bytes))
whole_text format bytes h =
    ap (λ (t : Bool). cond t (Err (Truncated (length bytes) (16 + kept_length bytes)))
    (with_rules format bytes (format.read (kept_text bytes))))
    (le-ltb (length bytes) (16 + kept_length bytes) h)

-- all steps pass
pub of_due : (text : List ℕ) (rules : RuleLines) (size : ℕ) (bytes : List ℕ)
    → HasSize text size bytes → of_size bytes (record { text = text; rules = rules }) size ≡ Ok
    (record { text = text; rules = rules })
of_due text rules size bytes h =
    let contents : Contents = record { text = text; rules = rules } in
    let due : ℕ = due_length text size in
    ap (λ (t : Bool). cond t (of_length bytes contents due) (Err (Size (kept_size bytes) size)))
    (eq-eqb (kept_size bytes) size h.sized)
    ∙ ap (λ (t : Bool). cond t (Err (Truncated (length bytes) due))
    (cond (ltb due (length bytes)) (Err (Extra (length bytes) due)) (Ok contents)))
    (le-ltb (length bytes) due (omega (arith, h.due)))
    ∙ ap (λ (t : Bool). cond t (Err (Extra (length bytes) due)) (Ok contents))
    (le-ltb due (length bytes) (omega (arith, h.due)))

pub table_refines : (kind : Option FileKind) → Refines (format_for kind)
table_refines kind = record { refuses = λ text fault h. h }
