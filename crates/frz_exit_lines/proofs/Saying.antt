-- What the exit lines of an accepted text say is what its rules have.
use Rattle.std.proofs.Common.{◌≡◌, ℕ, ◌+◌, ◌<◌, Bool, true, false, cond, List, [], ◌∷◌, ◌++◌, length, Option, None, Some, Result, Ok, Err, refl, sym, ap, ◌∙◌, append_assoc, arith}
use Rattle.std.specs.Prelude.{map, find, codes, nat_le, nat_lt, ◌||◌, ◌&&◌, ◌==◌, slice_get, option_and_then}
use Rattle.std.specs.List.{AllByRecursion}
use Rattle.std.specs.Option.{option_map}
use Rattle.std.proofs.lemmas.List.{append-nil, map-append, length-map}
use Rattle.std.proofs.lemmas.Option.{slice_get-map}
use Rattle.std.proofs.lemmas.Bool.{eq-eqb, ne_eqb}
use Rattle.std.proofs.lemmas.Slice.Eq.{bytes_eq-Decides}
use Rattle.frz_words.specs.Lines.{lines, numbered}
use Rattle.frz_words.specs.Words.{words}
use Rattle.frz_sets.specs.declared.forbid.Forbid.{Forbid}
use Rattle.frz_sets.specs.Views.{GroupLine, ExitLine, RuleLines}
use Rattle.frz_rules.specs.declared.fault.RulesCause.{RulesCause}
use Rattle.frz_rules.specs.declared.fault.RulesCause.TheVariants as causes
use Rattle.frz_rules.specs.declared.fault.RulesFault.{RulesFault}
use Rattle.frz_sets.specs.declared.limits.TheConstants.{MOST_CONDS, MOST_EXITS, MOST_FORBIDS}
use Rattle.frz_rules.specs.declared.fault.TheConstants.{LONGEST_TEXT}
use Rattle.frz_rules.specs.Causes.{cause_of_group}
use Rattle.frz_rules.specs.Classes.{is}
use Rattle.frz_rules.specs.Lines.{group_of, forbid_of, exit_of}
use Rattle.frz_rules.specs.Text.{◌>>=◌, add_group, add_forbid, add_exit, after_header, at_line, begins_hash, is_header, is_skipped, line_of, lines_of, no_rules, rules_of, significant, too_long, unless, whole, with_line}
use Rattle.frz_exit_lines.specs.Numbers.{begins_exit, exit_numbers, exit_numbers_of}
use Rattle.frz_exit_lines.specs.Saying.{exit_said, exit_on_line}

same_word : (w text : List ℕ) → is text w ≡ true → w ≡ text
same_word w text e = (bytes_eq-Decides w text).0 e

-- what a line adds to what is said
abbrev said_by : List (List ℕ) → List (Option ExitLine)
said_by ws = cond (begins_exit ws) (exit_said ws ∷ []) []

-- what the exit lines among these say, one after the other
abbrev said_in : List (ℕ × List ℕ) → List (Option ExitLine)
said_in [] = []
said_in (l ∷ ls) = said_by (words l.1) ++ said_in ls

-- rules s have the exits of r, and then what is said
abbrev Adds : RuleLines → RuleLines → List (Option ExitLine) → Type 0
Adds r s said = map Some s.exits ≡ map Some r.exits ++ said

adds_none : (r s : RuleLines) → s.exits ≡ r.exits → Adds r s []
adds_none r s e = ap (map Some) e ∙ sym (append-nil (map Some r.exits))

group_adds : (r s : RuleLines) (line : List (List ℕ)) (o : Option GroupLine) →
    with_line add_group r line o ≡ Ok s → Adds r s []
group_adds r s line None h = absurd cc
group_adds r s line (Some g) h = by_cause (cause_of_group r.groups g) h
  where
    by_cause : (c : Option RulesCause) →
        unless c (record { groups = r.groups ++ g ∷ []; forbids = r.forbids; exits = r.exits })
        ≡ Ok s → Adds r s []
    by_cause None k = adds_none r s (cc)
    by_cause (Some c) k = absurd cc

forbid_adds : (r s : RuleLines) (line : List (List ℕ)) (o : Option Forbid) →
    with_line add_forbid r line o ≡ Ok s → Adds r s []
forbid_adds r s line None h = absurd cc
forbid_adds r s line (Some f) h = by_many (nat_le MOST_FORBIDS (length r.forbids)) h
  where
    by_many : (b : Bool) → cond b (Err causes.TooManyLines)
        (Ok (record { groups = r.groups; forbids = r.forbids ++ f ∷ []; exits = r.exits })) ≡ Ok s →
        Adds r s []
    by_many true k = absurd cc
    by_many false k = adds_none r s (cc)

exit_adds : (r s : RuleLines) (line : List (List ℕ)) (o : Option ExitLine) →
    with_line add_exit r line o ≡ Ok s → Adds r s (o ∷ [])
exit_adds r s line None h = absurd cc
exit_adds r s line (Some e) h =
    by_many (nat_le MOST_EXITS (length r.exits) || nat_lt MOST_CONDS (length e.conds)) h
  where
    by_many : (b : Bool) → cond b (Err causes.TooManyLines)
        (Ok (record { groups = r.groups; forbids = r.forbids; exits = r.exits ++ e ∷ [] })) ≡ Ok s →
        Adds r s (Some e ∷ [])
    by_many true k = absurd cc
    by_many false k =
        let more : s.exits ≡ r.exits ++ e ∷ [] = cc in
        ap (map Some) more ∙ map-append Some r.exits (e ∷ [])

-- a line adds what it says
line_adds : (r s : RuleLines) (ws : List (List ℕ)) → is_skipped ws ≡ false → line_of r ws ≡ Ok s →
    Adds r s (said_by ws)
unfolding line_of
line_adds r s [] k h = absurd cc
line_adds r s (w ∷ ws) k h =
    by_word (is (codes "group") w) (is (codes "forbid") w) (is (codes "exit") w) refl refl refl h
  where
    by_word : (a b c : Bool) → is (codes "group") w ≡ a → is (codes "forbid") w ≡ b →
        is (codes "exit") w ≡ c →
        cond a (with_line add_group r (w ∷ ws) (group_of ws))
        (cond b (with_line add_forbid r (w ∷ ws) (forbid_of ws))
        (cond c (with_line add_exit r (w ∷ ws) (exit_of ws)) (Err causes.UnknownLine))) ≡ Ok s →
        Adds r s (said_by (w ∷ ws))
    by_word true b c g f e k =
        rw (ap (is (codes "exit")) (same_word w (codes "group") g))
        (group_adds r s (w ∷ ws) (group_of ws) k)
    by_word false true c g f e k =
        rw (ap (is (codes "exit")) (same_word w (codes "forbid") f))
        (forbid_adds r s (w ∷ ws) (forbid_of ws) k)
    by_word false false true g f e k = rw e (exit_adds r s (w ∷ ws) (exit_of ws) k)
    by_word false false false g f e k = absurd cc

-- a line that is skipped says nothing
skipped_says : (ws : List (List ℕ)) → is_skipped ws ≡ true → said_by ws ≡ []
skipped_says [] k = refl
skipped_says (w ∷ ws) k = by_exit (is (codes "exit") w) refl
  where
    by_exit : (b : Bool) → is (codes "exit") w ≡ b → said_by (w ∷ ws) ≡ []
    by_exit true e =
        let not_hash : begins_hash w ≡ false = ap begins_hash (same_word w (codes "exit") e) in
        absurd cc
    by_exit false e = rw e refl

-- nor does the header
header_says : (ws : List (List ℕ)) → is_header ws ≡ true → said_by ws ≡ []
header_says [] h = absurd cc
header_says (a ∷ []) h = absurd cc
header_says (a ∷ b ∷ c ∷ ws) h = absurd cc
header_says (a ∷ b ∷ []) h = by_name (is (codes "freezer") a) refl h
  where
    by_name : (n : Bool) → is (codes "freezer") a ≡ n → (n && is (codes "1") b) ≡ true →
        said_by (a ∷ b ∷ []) ≡ []
    by_name true e k = rw (ap (is (codes "exit")) (same_word a (codes "freezer") e)) refl
    by_name false e k = absurd cc

-- lines that are read one after the other add what each of them says
lines_add : (ls : List (ℕ × List ℕ)) (r s : RuleLines) → lines_of r (significant ls) ≡ Ok s →
    Adds r s (said_in ls)
lines_add [] r s h = adds_none r s (cc)
lines_add (l ∷ ls) r s h = by_skipped (lines_add ls) (is_skipped (words l.1)) refl
  where
    by_read : ((t u : RuleLines) → lines_of t (significant ls) ≡ Ok u → Adds t u (said_in ls)) →
        (o : Result RuleLines RulesCause) → line_of r (words l.1) ≡ o →
        is_skipped (words l.1) ≡ false →
        (at_line l.0 o >>= λ t. lines_of t (significant ls)) ≡ Ok s →
        Adds r s (said_in (l ∷ ls))
    by_read more (Err c) e k g = absurd cc
    by_read more (Ok t) e k g =
        more t s g ∙ ap (λ xs. xs ++ said_in ls) (line_adds r t (words l.1) k e)
        ∙ append_assoc (map Some r.exits) (said_by (words l.1)) (said_in ls)

    by_skipped : ((t u : RuleLines) → lines_of t (significant ls) ≡ Ok u → Adds t u (said_in ls)) →
        (b : Bool) → is_skipped (words l.1) ≡ b → Adds r s (said_in (l ∷ ls))
    by_skipped more true k =
        more r s (rw k at h)
        ∙ ap (λ xs. map Some r.exits ++ (xs ++ said_in ls)) (sym (skipped_says (words l.1) k))
    by_skipped more false k = by_read more (line_of r (words l.1)) refl k (rw k at h)

by_whole : (a c : Bool) (x y : RulesFault) (r s : RuleLines) →
    cond a (Err x) (cond c (Err y) (Ok r)) ≡ Ok s → s ≡ r
by_whole true c x y r s h = absurd cc
by_whole false true x y r s h = absurd cc
by_whole false false x y r s h = cc

whole_same : (r s : RuleLines) → whole r ≡ Ok s → s ≡ r
whole_same r s h = search by_whole

-- a text says what its rules have
text_says : (ls : List (ℕ × List ℕ)) (s : RuleLines) → after_header (significant ls) ≡ Ok s →
    map Some s.exits ≡ said_in ls
text_says [] s h = absurd cc
text_says (l ∷ ls) s h = by_skipped (text_says ls s) (is_skipped (words l.1)) refl
  where
    by_lines : (o : Result RuleLines RulesFault) → lines_of no_rules (significant ls) ≡ o →
        (o >>= whole) ≡ Ok s → map Some s.exits ≡ said_in ls
    by_lines (Err f) e g = absurd cc
    by_lines (Ok r) e g =
        ap (λ t. map Some t.exits) (whole_same r s g) ∙ lines_add ls no_rules r e

    by_header : (b : Bool) → is_header (words l.1) ≡ b → is_skipped (words l.1) ≡ false →
        map Some s.exits ≡ said_in (l ∷ ls)
    by_header false e k = let g = rw (k, e) at h in absurd cc
    by_header true e k =
        by_lines (lines_of no_rules (significant ls)) refl (rw (k, e) at h)
        ∙ ap (λ xs. xs ++ said_in ls) (sym (header_says (words l.1) e))

    by_skipped : (after_header (significant ls) ≡ Ok s → map Some s.exits ≡ said_in ls) →
        (b : Bool) → is_skipped (words l.1) ≡ b → map Some s.exits ≡ said_in (l ∷ ls)
    by_skipped more true k =
        more (rw k at h) ∙ ap (λ xs. xs ++ said_in ls) (sym (skipped_says (words l.1) k))
    by_skipped more false k = by_header (is_header (words l.1)) refl k

-- what the line with this number says, among these
abbrev said_at : List (ℕ × List ℕ) → ℕ → Option ExitLine
said_at ls n = option_and_then (λ l. exit_said (words l.1)) (find (λ l. l.0 == n) ls)

same_behind : (m : ℕ) (x : List ℕ) (ls : List (ℕ × List ℕ)) (ns : List ℕ) →
    AllByRecursion (λ n. m < n) ns → map (said_at ((m, x) ∷ ls)) ns ≡ map (said_at ls) ns
same_behind m x ls [] a = refl
same_behind m x ls (n ∷ ns) a =
    let less = a.0 in
    let other : (m == n) ≡ false = ne_eqb m n (λ e. omega arith) in
    rw (other, same_behind m x ls ns a.1) refl

numbers_above : (k m : ℕ) (ls : List (List ℕ)) → k < m →
    AllByRecursion (λ n. k < n) (exit_numbers (numbered m ls))
numbers_above k m [] l = tt
numbers_above k m (x ∷ ls) l =
    by_exit (begins_exit (words x)) refl (numbers_above k (m + 1) ls (omega arith))
  where
    by_exit : (b : Bool) → begins_exit (words x) ≡ b →
        AllByRecursion (λ n. k < n) (exit_numbers (numbered (m + 1) ls)) →
        AllByRecursion (λ n. k < n) (exit_numbers (numbered m (x ∷ ls)))
    by_exit true e behind = rw e (l, behind)
    by_exit false e behind = rw e behind

-- the lines of these numbers say what the exit lines say, in the same order
numbers_say : (m : ℕ) (ls : List (List ℕ)) →
    map (said_at (numbered m ls)) (exit_numbers (numbered m ls)) ≡ said_in (numbered m ls)
numbers_say m [] = refl
numbers_say m (x ∷ ls) =
    by_exit (begins_exit (words x)) refl
    (same_behind m x (numbered (m + 1) ls) (exit_numbers (numbered (m + 1) ls))
    (numbers_above m (m + 1) ls (omega arith))
    ∙ numbers_say (m + 1) ls)
  where
    by_exit : (b : Bool) → begins_exit (words x) ≡ b →
        map (said_at ((m, x) ∷ numbered (m + 1) ls)) (exit_numbers (numbered (m + 1) ls))
        ≡ said_in (numbered (m + 1) ls) →
        map (said_at (numbered m (x ∷ ls))) (exit_numbers (numbered m (x ∷ ls)))
        ≡ said_in (numbered m (x ∷ ls))
    by_exit true e behind =
        rw (e, eq-eqb m m refl) (ap (λ os. exit_said (words x) ∷ os) behind)
    by_exit false e behind = rw e behind

by_length : (b : Bool) (s t : Result RuleLines RulesFault) (r : RuleLines) (f : RulesFault) →
    s ≡ Err f → cond b s t ≡ Ok r → t ≡ Ok r
by_length true s t r f e h = absurd cc
by_length false s t r f e h = h

-- so the lines of the exit numbers say what the rules have
pub lines_say : (text : List ℕ) (rules : RuleLines) → rules_of text ≡ Ok rules →
    map (exit_on_line text) (exit_numbers_of text) ≡ map Some rules.exits
unfolding rules_of exit_numbers_of exit_on_line
lines_say text rules h =
    numbers_say 1 (lines text)
    ∙ sym (text_says (numbered 1 (lines text)) rules (by_length (nat_lt LONGEST_TEXT (length text)) too_long
    (after_header (significant (numbered 1 (lines text)))) rules
    (record { line = 0; cause = causes.TooLong }) refl h))

pub as_many_lines : (text : List ℕ) (rules : RuleLines) → rules_of text ≡ Ok rules →
    length (exit_numbers_of text) ≡ length rules.exits
as_many_lines text rules h =
    sym (length-map (exit_numbers_of text) (exit_on_line text))
    ∙ ap length (lines_say text rules h) ∙ length-map rules.exits Some

by_place : (said : Option ExitLine) (there : Option ExitLine) → Some said ≡ option_map Some there →
    said ≡ there
by_place said None e = absurd cc
by_place said (Some x) e = cc

pub said_there : (text : List ℕ) (rules : RuleLines) → rules_of text ≡ Ok rules → (k n : ℕ) →
    slice_get (exit_numbers_of text) k ≡ Some n → exit_on_line text n ≡ slice_get rules.exits k
said_there text rules h k n e =
    by_place (exit_on_line text n) (slice_get rules.exits k)
    (sym (ap (option_map (exit_on_line text)) e)
    ∙ sym (slice_get-map (exit_on_line text) (exit_numbers_of text) k)
    ∙ ap (λ xs. slice_get xs k) (lines_say text rules h)
    ∙ slice_get-map Some rules.exits k)
