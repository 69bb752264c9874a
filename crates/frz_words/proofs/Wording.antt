-- The first word of a line, and the words after it.
use Rattle.std.proofs.Common.{◌≡◌, ℕ, suc, ◌+◌, ◌<◌, ◌≤◌, Bool, true, false, cond, List, [], ◌∷◌, length, take, drop, None, Some, refl, sym, ap, subst, ◌∙◌, arith}
use Rattle.std.specs.Prelude.{not, IsTrue}
use Rattle.std.specs.List.{position, position_or_len}
use Rattle.std.proofs.lemmas.List.{drop_all}
use Rattle.frz_words.specs.Parts.{with_first, split}
use Rattle.frz_words.specs.Words.{words, is_blank, begins_word, word_at}
use Rattle.frz_words.proofs.Splitting.{absent, present, from_place, from_place_drop, split_absent, split_present}

-- how many blanks stand in front
abbrev blanks : List ℕ → ℕ
blanks line = position_or_len (λ b. not (is_blank b)) line

-- a blank in front leaves the words as they are
blank_first : (b : ℕ) (bs : List ℕ) → is_blank b ≡ true → words (b ∷ bs) ≡ words bs
unfolding words
blank_first b bs e = rw e refl

skip_case : (c : Bool) (b : ℕ) (bs : List ℕ) → is_blank b ≡ c →
    words (drop (blanks bs) bs) ≡ words bs →
    words (drop (cond (not (not c)) (1 + blanks bs) 0) (b ∷ bs)) ≡ words (b ∷ bs)
skip_case true b bs e h =
    let more : suc (blanks bs) ≡ 1 + blanks bs = omega arith in
    subst (λ n. words (drop n (b ∷ bs)) ≡ words (b ∷ bs)) more (h ∙ sym (blank_first b bs e))
skip_case false b bs e h = refl

words_skip : (line : List ℕ) → words (drop (blanks line) line) ≡ words line
words_skip [] = refl
words_skip (b ∷ bs) = skip_case (is_blank b) b bs refl (words_skip bs)

no_words : words [] ≡ []
unfolding words
no_words = refl

begins_case : (c : Bool) (b : ℕ) (bs : List ℕ) → is_blank b ≡ c →
    cond (not (not c)) (1 + blanks bs) 0 < length (b ∷ bs) →
    (blanks bs < length bs → IsTrue (begins_word (drop (blanks bs) bs))) →
    IsTrue (begins_word (drop (cond (not (not c)) (1 + blanks bs) 0) (b ∷ bs)))
begins_case true b bs e l h =
    let more : suc (blanks bs) ≡ 1 + blanks bs = omega arith in
    subst (λ n. IsTrue (begins_word (drop n (b ∷ bs)))) more (h (omega arith))
begins_case false b bs e l h = rw e refl

begins_skip : (line : List ℕ) → blanks line < length line →
    IsTrue (begins_word (drop (blanks line) line))
begins_skip [] l = absurd (omega arith)
begins_skip (b ∷ bs) l = begins_case (is_blank b) b bs refl l (begins_skip bs)

-- no byte of a word
pub words_absent : (line : List ℕ) → None ≡ position (λ b. not (is_blank b)) line → words line ≡ []
words_absent line h =
    let all : drop (blanks line) line ≡ [] = drop_all (blanks line) line
    (absent (λ b. not (is_blank b)) line h) in
    sym (words_skip line) ∙ ap words all ∙ no_words

-- the first byte of a word
pub words_start : (line : List ℕ) (i : ℕ) → Some i ≡ position (λ b. not (is_blank b)) line →
    words line ≡ words (from_place i line)
words_start line i h =
    rw from_place_drop
    (subst (λ n. words line ≡ words (drop n line)) (present (λ b. not (is_blank b)) line i h).0
    (sym (words_skip line)))

pub begins_start : (line : List ℕ) (i : ℕ) → Some i ≡ position (λ b. not (is_blank b)) line →
    IsTrue (begins_word (from_place i line))
begins_start line i h =
    let f = present (λ b. not (is_blank b)) line i h in
    rw from_place_drop (subst (λ n. IsTrue (begins_word (drop n line))) f.0 (begins_skip line f.1))

-- a part with a byte in front is not empty
never_empty : (b : ℕ) (parts others : List (List ℕ)) → with_first b parts ≡ [] ∷ others → ⊥
never_empty b [] others e = cc
never_empty b (part ∷ parts) others e = cc

not_blank : (c : Bool) (b : ℕ) (parts others : List (List ℕ)) → IsTrue (not c) →
    cond c ([] ∷ parts) (with_first b parts) ≡ [] ∷ others → ⊥
not_blank true b parts others h e = absurd cc
not_blank false b parts others h e = never_empty b parts others e

-- the first part is the first word
words_cut : (line word rest : List ℕ) → IsTrue (begins_word line) →
    split is_blank line ≡ word ∷ split is_blank rest → words line ≡ word ∷ words rest
unfolding words
words_cut [] word rest h e = absurd cc
words_cut (b ∷ bs) [] rest h e =
    absurd (not_blank (is_blank b) b (split is_blank bs) (split is_blank rest) h e)
words_cut (b ∷ bs) (c ∷ cs) rest h e = rw e refl

words_whole : (line : List ℕ) → IsTrue (begins_word line) → split is_blank line ≡ line ∷ [] →
    words line ≡ line ∷ words []
unfolding words
words_whole [] h e = absurd cc
words_whole (b ∷ bs) h e = rw e refl

pub word_last : (line : List ℕ) → IsTrue (begins_word line) → None ≡ position is_blank line →
    words line ≡ line ∷ words []
word_last line h e = words_whole line h (split_absent is_blank line e)

pub word_next : (line : List ℕ) (i : ℕ) → IsTrue (begins_word line) →
    Some i ≡ position is_blank line → words line ≡ take i line ∷ words (from_place (i + 1) line)
word_next line i h e =
    words_cut line (take i line) (from_place (i + 1) line) h (split_present is_blank line i e)

pub start_within : (line : List ℕ) (i : ℕ) → Some i ≡ position (λ b. not (is_blank b)) line →
    i < length line
start_within line i h =
    let f = present (λ b. not (is_blank b)) line i h in let l = f.1 in let e = f.0 in omega arith

pub end_within : (line : List ℕ) (i : ℕ) → Some i ≡ position is_blank line → i < length line
end_within line i h = let f = present is_blank line i h in let l = f.1 in let e = f.0 in omega arith

pub some_bytes : (line : List ℕ) → IsTrue (begins_word line) → 0 < length line
some_bytes [] h = absurd cc
some_bytes (b ∷ bs) h = omega arith

pub ruleset wording = (
  words_absent,
  words_start,
  begins_start,
  word_last,
  word_next,
  start_within,
  end_within,
  some_bytes,
)

pub word_at_zero : (ws : List (List ℕ)) (k : ℕ) → k ≤ 0 → word_at ws k ≡ None
word_at_zero [] k h = refl
word_at_zero (w ∷ ws) k h = let e : k ≡ 0 = omega arith in rw e refl
