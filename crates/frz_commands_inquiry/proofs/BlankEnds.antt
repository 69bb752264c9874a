-- How many blanks end a line, counted from its end on.
use Rattle.std.proofs.Common.{◌≡◌, sym, ap, ◌∙◌, ℕ, ◌+◌, ◌-◌, ◌≤◌, ◌<◌, true, false, List, take, length, get_or, arith}
use Rattle.std.specs.List.{suffix_len}
use Rattle.std.proofs.Math.Seq.{take-length}
use Rattle.std.proofs.lemmas.List.Sums.{suffix_len-take_no, suffix_len-take_yes}
use Rattle.frz_words.specs.Words.{is_blank}

-- the bytes from this place on are blanks
abbrev pub BlankFrom : List ℕ → ℕ → Type 0
BlankFrom line kept = suffix_len is_blank line ≡ (length line - kept) + suffix_len is_blank (take kept line)

pub all_kept : (line : List ℕ) → BlankFrom line (length line)
all_kept line =
    sym (ap (suffix_len is_blank) (take-length line)) ∙ omega arith

pub blank_more : (line : List ℕ) (kept : ℕ) → kept ≤ length line → 0 < kept
    → is_blank (get_or line (kept - 1) 0) ≡ true → BlankFrom line kept
    → BlankFrom line (kept - 1)
blank_more line kept within some blank h =
    let more = suffix_len-take_yes is_blank line kept 0 some within blank in
    omega (arith, more, h, within, some)

pub no_blank : (line : List ℕ) (kept : ℕ) → kept ≤ length line → 0 < kept
    → is_blank (get_or line (kept - 1) 0) ≡ false → BlankFrom line kept
    → length line - suffix_len is_blank line ≡ kept
no_blank line kept within some other h =
    let none = suffix_len-take_no is_blank line kept 0 some within other in
    omega (arith, none, h, within)

none_before : (line : List ℕ) (kept : ℕ) → kept ≤ 0 → suffix_len is_blank (take kept line) ≡ 0
none_before line kept none =
    ap (λ n. suffix_len is_blank (take n line)) (let zero : kept ≡ 0 = omega (arith, none) in zero)

pub all_blank : (line : List ℕ) (kept : ℕ) → kept ≤ 0 → BlankFrom line kept
    → length line - suffix_len is_blank line ≡ kept
all_blank line kept none h =
    let before = none_before line kept none in
    omega (arith, h, none, before)
