-- That an accepted rules text is not a table file.
use Rattle.std.proofs.Common.{◌≡◌, refl, sym, ap, ◌∙◌, ℕ, List, [], ◌∷◌, Bool, true, false, Some, Result, Ok, Err, length, take, ◌<◌, ◌≤◌, lt-ltb, le-ltb, cond, if◌then◌else◌}
use Rattle.std.proofs.lemmas.Slice.Eq.{bytes_eq-Decides}
use Rattle.std.specs.Prelude.{codes, nat_lt}
use Rattle.std.specs.Str.{bytes_eq}
use Rattle.std.specs.List.{filter}
use Rattle.frz_words.specs.Lines.{is_line_feed, lines, numbered, without_empty_end}
use Rattle.frz_words.specs.Parts.{split, with_first}
use Rattle.frz_words.specs.Words.{has_bytes, is_blank, words}
use Rattle.frz_rules.specs.declared.fault.RulesCause.TheVariants.{Header}
use Rattle.frz_rules.specs.declared.fault.RulesFault.{RulesFault}
use Rattle.frz_rules.specs.declared.fault.TheConstants.{LONGEST_TEXT}
use Rattle.frz_rules.specs.Text.{after_header, is_header, is_skipped, rules_of, significant, too_long}
use Rattle.frz_sets.specs.Views.{RuleLines}
use Rattle.frz_table.specs.declared.fault.TableFault.{TableFault}
use Rattle.frz_table.specs.declared.fault.TableFault.TheVariants.{Magic, Truncated}
use Rattle.frz_table.specs.declared.kind.FileKind.TheVariants.{Plain}
use Rattle.frz_table.specs.Opening.{Contents, opened, table_format, with_length, with_magic}

-- where a text begins with an F (byte 70), which is no separator, its first part begins with that F
first_part : (parts : List (List ℕ)) → (part : List ℕ) × (others : List (List ℕ))
    × (with_first 70 parts ≡ (70 ∷ part) ∷ others)
first_part [] = ([], [], refl)
first_part (part ∷ others) = (part, others, refl)

-- where a text begins with an F, its first line begins with that F
first_line : (text : List ℕ) → (line : List ℕ) × (others : List (List ℕ))
    × (lines (70 ∷ text) ≡ (70 ∷ line) ∷ others)
first_line text =
    let first = first_part (split is_line_feed text) in
    let rest = kept first.0 first.1 in
    (first.0, rest.0, ap without_empty_end first.2 ∙ rest.1)
  where
    kept : (line : List ℕ) (others : List (List ℕ)) → (more : List (List ℕ))
        × (without_empty_end ((70 ∷ line) ∷ others) ≡ (70 ∷ line) ∷ more)
    kept line [] = ([], refl)
    kept line (next ∷ others) = (without_empty_end (next ∷ others), refl)

-- where a line begins with an F, its first word begins with that F
first_word : (line : List ℕ) → (word : List ℕ) × (others : List (List ℕ))
    × (words (70 ∷ line) ≡ (70 ∷ word) ∷ others)
unfolding words
first_word line =
    let first = first_part (split is_blank line) in
    (first.0, filter has_bytes first.1, ap (filter has_bytes) first.2)

-- a line whose first word begins with an F is no header
no_header : (word : List ℕ) (others : List (List ℕ)) → is_header ((70 ∷ word) ∷ others) ≡ false
no_header word [] = refl
no_header word (next ∷ []) = refl
no_header word (next ∷ after ∷ others) = refl

-- so a text with such a first line is refused
by_word : (line word : List ℕ) (others : List (List ℕ)) (after : List (ℕ × List ℕ))
    → words (70 ∷ line) ≡ (70 ∷ word) ∷ others
    → (fault : RulesFault) × (after_header (significant ((1, 70 ∷ line) ∷ after)) ≡ Err fault)
by_word line word others after e =
    let read : List (List ℕ) → Result RuleLines RulesFault = λ ws. after_header
    (if is_skipped ws then significant after else (1, ws) ∷ significant after) in
    let fault : RulesFault = record { line = 1; cause = Header } in
    let refused : (b : Bool) (go_on : Result RuleLines RulesFault) → b ≡ false
    → cond b go_on (Err fault) ≡ Err fault = λ b go_on f. ap (λ x. cond x go_on (Err fault)) f in
    (fault, ap read e ∙ refused (is_header ((70 ∷ word) ∷ others)) _ (no_header word others))

by_length : {A : Type 0} (long : Bool) (read : Result RuleLines RulesFault) (fault : RulesFault)
    (rules : RuleLines) → read ≡ Err fault → cond long too_long read ≡ Ok rules → A
by_length true read fault rules e f = cc
by_length false read fault rules e f = let no : Err fault ≡ Ok rules = sym e ∙ f in cc

-- no text that begins with an F is accepted
pub not_accepted : {A : Type 0} (text : List ℕ) (rules : RuleLines)
    → rules_of (70 ∷ text) ≡ Ok rules → A
unfolding rules_of
not_accepted text rules read =
    let line = first_line text in
    let word = first_word line.0 in
    let due = by_word line.0 word.0 word.1 (numbered 2 line.1) word.2 in
    by_length (nat_lt LONGEST_TEXT (length (70 ∷ text)))
    (after_header (significant (numbered 1 (lines (70 ∷ text))))) due.0 rules
    (ap (λ (l : List (List ℕ)). after_header (significant (numbered 1 l))) line.2 ∙ due.1) read

-- a table begins with an F
other_magic : (text : List ℕ) → bytes_eq (take 8 text) (codes "FREEZER2") ≡ true
    → (rest : List ℕ) × (text ≡ 70 ∷ rest)
other_magic [] e =
    let none : [] ≡ codes "FREEZER2" = (bytes_eq-Decides [] (codes "FREEZER2")).0 e in cc
other_magic (b ∷ bs) e =
    let same : b ∷ take 7 bs ≡ codes "FREEZER2" =
    (bytes_eq-Decides (take 8 (b ∷ bs)) (codes "FREEZER2")).0 e in
    let is : b ≡ 70 = cc in
    (bs, ap (λ (x : ℕ). x ∷ bs) is)

by_test : (short : Bool) (a b : Result Contents TableFault) → short ≡ true → cond short a b ≡ a
by_test short a b e = ap (λ t. cond t a b) e

pub by_other : (short : Bool) (a b : Result Contents TableFault) → short ≡ false
    → cond short a b ≡ b
by_other short a b e = ap (λ t. cond t a b) e

-- a text that is accepted is refused as a table: it is too short for one
pub too_short : (text : List ℕ) → length text < 16
    → opened (table_format Plain) (Some text) ≡ Err (Truncated (length text) 16)
unfolding opened
too_short text e =
    by_test (nat_lt (length text) 16) (Err (Truncated (length text) 16))
    (with_magic (table_format Plain) text) (lt-ltb (length text) 16 e)

-- or it does not begin as one
pub begins_otherwise : (text : List ℕ) (rules : RuleLines) → rules_of text ≡ Ok rules
    → 16 ≤ length text → opened (table_format Plain) (Some text) ≡ Err Magic
unfolding opened
begins_otherwise text rules read e =
    by_other (nat_lt (length text) 16) (Err (Truncated (length text) 16))
    (with_magic (table_format Plain) text) (le-ltb (length text) 16 e)
    ∙ by_magic (bytes_eq (take 8 text) (codes "FREEZER2")) refl
  where
    by_magic : (b : Bool) → bytes_eq (take 8 text) (codes "FREEZER2") ≡ b
        → cond b (with_length (table_format Plain) text) (Err Magic) ≡ Err Magic
    by_magic true f =
        let begins = other_magic text f in
        not_accepted begins.0 rules (sym (ap rules_of begins.1) ∙ read)
    by_magic false f = refl
