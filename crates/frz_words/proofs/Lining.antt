-- The lines of a text, one after the other.
use Rattle.std.proofs.Common.{◌≡◌, ℕ, suc, ◌+◌, ◌<◌, ◌≤◌, Bool, true, false, cond, List, [], ◌∷◌, length, refl, ap, ◌∙◌, arith}
use Rattle.std.specs.List.{AllByRecursion}
use Rattle.frz_words.specs.Parts.{with_first, split}
use Rattle.frz_words.specs.Lines.{lines, is_line_feed, without_empty_end, numbered}
use Rattle.frz_words.proofs.Splitting.{HasPart, split_some}

pub lines_none : (text : List ℕ) → length text ≤ 0 → lines text ≡ []
lines_none [] l = refl
lines_none (b ∷ bs) l = absurd (omega arith)

pub lines_last : (text : List ℕ) → 0 < length text → split is_line_feed text ≡ text ∷ [] →
    lines text ≡ text ∷ lines []
lines_last [] l e = absurd (omega arith)
lines_last (b ∷ bs) l e = ap without_empty_end e

ends_after : (line : List ℕ) (others : List (List ℕ)) → HasPart others →
    without_empty_end (line ∷ others) ≡ line ∷ without_empty_end others
ends_after line [] h = absurd h
ends_after [] (next ∷ others) h = refl
ends_after (b ∷ bs) (next ∷ others) h = refl

pub lines_next : (text line rest : List ℕ) →
    split is_line_feed text ≡ line ∷ split is_line_feed rest → lines text ≡ line ∷ lines rest
lines_next text line rest e =
    ap without_empty_end e
    ∙ ends_after line (split is_line_feed rest) (split_some is_line_feed rest)

pub ruleset lining = (lines_none, lines_last, lines_next)

-- all parts have at most n bytes
abbrev AreShort : ℕ → List (List ℕ) → Type 0
AreShort n parts = AllByRecursion (λ part. length part ≤ n) parts

short_in_longer : (n : ℕ) (parts : List (List ℕ)) → AreShort n parts → AreShort (suc n) parts
short_in_longer n [] h = tt
short_in_longer n (part ∷ parts) h = let l = h.0 in (omega arith, short_in_longer n parts h.1)

first_short : (b n : ℕ) (parts : List (List ℕ)) → AreShort n parts →
    AreShort (suc n) (with_first b parts)
first_short b n [] h = (omega arith, tt)
first_short b n (part ∷ parts) h = let l = h.0 in (omega arith, short_in_longer n parts h.1)

chosen_short : (c : Bool) (b n : ℕ) (parts : List (List ℕ)) → AreShort n parts →
    AreShort (suc n) (cond c ([] ∷ parts) (with_first b parts))
chosen_short true b n parts h = (omega arith, short_in_longer n parts h)
chosen_short false b n parts h = first_short b n parts h

split_short : (p : ℕ → Bool) (text : List ℕ) → AreShort (length text) (split p text)
split_short p [] = (omega arith, tt)
split_short p (b ∷ bs) = chosen_short (p b) b (length bs) (split p bs) (split_short p bs)

ended_short : (n : ℕ) (parts : List (List ℕ)) → AreShort n parts →
    AreShort n (without_empty_end parts)
ended_short n [] h = tt
ended_short n ([] ∷ []) h = tt
ended_short n ((b ∷ bs) ∷ []) h = h
ended_short n ([] ∷ next ∷ others) h = (h.0, ended_short n (next ∷ others) h.1)
ended_short n ((b ∷ bs) ∷ next ∷ others) h = (h.0, ended_short n (next ∷ others) h.1)

numbered_short : (n k : ℕ) (parts : List (List ℕ)) → AreShort n parts →
    AllByRecursion (λ l. length l.1 ≤ n) (numbered k parts)
numbered_short n k [] h = tt
numbered_short n k (part ∷ parts) h = (h.0, numbered_short n (k + 1) parts h.1)

-- no line is longer than its text
pub lines_short : (text : List ℕ) →
    AllByRecursion (λ l. length l.1 ≤ length text) (numbered 1 (lines text))
lines_short text =
    numbered_short (length text) 1 (lines text)
    (ended_short (length text) (split is_line_feed text) (split_short is_line_feed text))
