-- Opening is tidy: the size of the file, and then its bytes from front to back.
use Rattle.std.proofs.Common.{◌≡◌, refl, sym, ap, subst, ℕ, ◌+◌, ◌≤◌, nat_lt, List, length, Option, Some, None, Result, Ok, Err, arith}
use Rattle.std.specs.Prelude.{⊤}
use Rattle.std.specs.Str.{bytes_eq}
use Rattle.frz_asks.proofs.Lemmas.{bytes_then, either_then, memory_then, none_then, ok_then, reads_bind, size_then, tidy_one}
use Rattle.frz_asks.specs.Tidy.{Mark, unasked, absent, upto, by_size as mark_by_size, Reads, IsBehind, gone_on, Tidy}
use Rattle.frz_asks.specs.Trees.{Asks, bind}
use Rattle.frz_rules.specs.Text.{may_want_memory, rules_of}
use Rattle.frz_rules.specs.declared.fault.RulesFault.{RulesFault}
use Rattle.frz_sets.specs.Views.{RuleLines}
use Rattle.frz_table.specs.Asking.{Opened, number_of, by_length, by_magic, by_size, heading, kept_as, reading, by_head, texting, sizing, by_rules, by_text, opening}
use Rattle.frz_table.specs.Layout.{Front}
use Rattle.frz_table.specs.Opening.{Format, front_of}
use Rattle.frz_table.specs.declared.fault.TableFault.{TableFault}
use Rattle.frz_table.specs.declared.head.Head.{Head}
use Rattle.frz_table.proofs.Tests.{at_least}

number_then : {B : Type 0} (name : List ℕ) (s : Mark) (at : ℕ) (f : ℕ → Asks B)
    (Q : B → Mark → Type 0) → IsBehind s at 4
    → ((n : ℕ) → Reads name (gone_on s (at + 4)) (f n) Q)
    → Reads name s (bind (number_of name at) f) Q
number_then name s at f Q h k =
    reads_bind name s (number_of name at) f (λ n t. t ≡ gone_on s (at + 4)) Q
    (bytes_then name s at 4 _ _ h (λ l long. none_then name _ _ _ refl))
    (λ n t e. subst (λ x. Reads name x (f n) Q) (sym e) (k n))

-- the head was read
HeadAt : Result Head TableFault → Mark → Type 0
HeadAt (Err e) t = ⊤
HeadAt (Ok h) t = (t ≡ upto h.file 12) × (16 + h.text ≤ h.file)

head_length : (name : List ℕ) (file text : ℕ) → Reads name (upto file 12) (by_length file text) HeadAt
unfolding HeadAt
head_length name file text =
    either_then name (upto file 12) (nat_lt 65536 text) _ _ HeadAt (λ e. none_then name _ _ _ tt)
    (λ e. either_then name (upto file 12) (nat_lt file (16 + text)) _ _ HeadAt
    (λ k. none_then name _ _ _ tt) (λ k. none_then name _ _ _ (refl, at_least file (16 + text) k)))

head_magic : (name : List ℕ) (begin : Front) (file : ℕ) (front : List ℕ) → 16 ≤ file
    → Reads name (upto file 8) (by_magic name begin file front) HeadAt
unfolding HeadAt
head_magic name begin file front long =
    either_then name (upto file 8) (bytes_eq front (begin.magic front)) _ _ HeadAt
    (λ e. number_then name (upto file 8) 8 (by_length file) HeadAt (omega arith, omega arith)
    (λ text. head_length name file text))
    (λ e. none_then name _ _ _ tt)

head_size : (name : List ℕ) (begin : Front) (n : Option ℕ)
    → Reads name (mark_by_size n) (by_size name begin n) HeadAt
unfolding HeadAt
head_size name begin None = none_then name absent _ _ tt
head_size name begin (Some file) =
    either_then name (upto file 0) (nat_lt file 16) _ _ HeadAt (λ e. none_then name _ _ _ tt)
    (λ e. let long : 16 ≤ file = at_least file 16 e in
    bytes_then name (upto file 0) 0 8 (by_magic name begin file) HeadAt (omega arith, omega (arith, long))
    (λ front l. head_magic name begin file front long))

head_reads : (name : List ℕ) (begin : Front) → Reads name unasked (heading name begin) HeadAt
unfolding heading
head_reads name begin = size_then name (by_size name begin) HeadAt (head_size name begin)

-- the text was read
TextAt : Result Opened TableFault → Mark → Type 0
TextAt (Err e) t = ⊤
TextAt (Ok o) t = (t ≡ upto o.file (12 + length o.text)) × (16 + length o.text ≤ o.file)

text_kept : (name : List ℕ) (file count : ℕ) (text : List ℕ) (read : Result RuleLines RulesFault)
    → length text ≡ count → 16 + count ≤ file
    → Reads name (upto file (12 + count)) (kept_as file text read) TextAt
unfolding TextAt
text_kept name file count text (Err e) long fits = none_then name _ _ _ tt
text_kept name file count text (Ok rules) long fits =
    memory_then name _ _ _ (none_then name _ _ _
    (ap (λ n. upto file (12 + n)) (sym long), omega (arith, long, fits)))

text_reads : (name : List ℕ) (begin : Front) → Reads name unasked (texting name begin) TextAt
unfolding texting reading HeadAt TextAt
text_reads name begin =
    ok_then name unasked (heading name begin) (by_head name) HeadAt TextAt (head_reads name begin)
    (λ h t r. subst (λ x. Reads name x (by_head name h) TextAt) (sym r.0)
    (bytes_then name (upto h.file 12) 12 h.text _ TextAt (omega arith, (let f = r.1 in omega (arith, f)))
    (λ l long. either_then name _ (may_want_memory l) _ _ TextAt
    (λ e. memory_then name _ _ _ (text_kept name h.file h.text l (rules_of l) long r.1))
    (λ e. text_kept name h.file h.text l (rules_of l) long r.1))))
    (λ e t r. tt)

Any : {A : Type 0} → A → Mark → Type 0
Any r t = ⊤

open_rules : (format : Format) (name : List ℕ) (o : Opened) (read : Result RuleLines RulesFault)
    → 16 + length o.text ≤ o.file
    → Reads name (upto o.file (12 + length o.text)) (by_rules format name o read) Any
unfolding sizing Any
open_rules format name o (Err fault) fits = none_then name _ _ _ tt
open_rules format name o (Ok rules) fits =
    memory_then name _ _ _
    (ok_then name (upto o.file (12 + length o.text)) (sizing name o (format.size rules)) _ Any Any
    (number_then name (upto o.file (12 + length o.text)) (12 + length o.text) _ _
    (omega arith, (omega (arith, fits))) (λ kept. none_then name _ _ _ tt))
    (λ u t r. memory_then name _ _ _ (none_then name _ _ _ tt)) (λ e t r. tt))

pub open_tidy : (format : Format) (name : List ℕ) → Tidy (λ x. unasked) (opening format name)
unfolding opening TextAt Any
open_tidy format name =
    tidy_one name (opening format name) Any
    (ok_then name unasked (texting name (front_of format)) (by_text format name) TextAt Any
    (text_reads name (front_of format))
    (λ o t r. subst (λ x. Reads name x (by_text format name o) Any) (sym r.0)
    (open_rules format name o (format.read o.text) r.1))
    (λ e t r. tt))
