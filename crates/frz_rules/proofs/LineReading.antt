-- A line that is read word by word gives what the line says, or its place.
use Rattle.std.proofs.Common.{◌≡◌, ℕ, ◌+◌, ◌-◌, true, false, List, [], ◌∷◌, length, Option, None, Some, Result, Ok, Err, refl, sym, ap, ◌∙◌, arith}
use Rattle.std.specs.Prelude.{is_some, codes, option_map}
use Rattle.frz_rules.specs.declared.fault.RulesCause.{RulesCause}
use Rattle.frz_rules.specs.declared.fault.RulesCause.TheVariants as causes
use Rattle.frz_sets.specs.Views.{RuleLines}
use Rattle.frz_rules.specs.Classes.{is}
use Rattle.frz_rules.specs.Lines.{group_of, forbid_of, exit_of}
use Rattle.frz_rules.specs.Grammar.{Form, fits, reach, line_form, group_form, forbid_form, exit_form}
use Rattle.frz_rules.specs.Text.{add_group, add_forbid, add_exit, with_line, line_of}
use Rattle.frz_rules.specs.Reading.{read_to, read_group, read_exit, group_words, forbid_words, exit_words}
use Rattle.frz_rules.proofs.Agreeing.{Agrees, equal_words, group_agrees, forbid_agrees, exit_agrees}
use Rattle.frz_rules.proofs.Saying.{ok_of, group_said, forbid_said, exit_said}

-- a line is read to what it says, or to its place, where its first word begins lines of the form
reads : {A B : Type 0} (h : A → B) (add : RuleLines → B → Result RuleLines RulesCause) (f : Form)
    (text : List ℕ) (a : Result A (List (List ℕ))) (said : Option B) (r : RuleLines)
    (line : List (List ℕ)) (w : List ℕ) (ws : List (List ℕ)) → line ≡ w ∷ ws → is text w ≡ true
    → reach line_form (text ∷ ws) ≡ 1 + reach f ws → Agrees f ws a → said ≡ option_map h (ok_of a)
    → line_of r (w ∷ ws) ≡ with_line add r (w ∷ ws) said
    → read_to (λ r x. add r (h x)) r (length line) a ≡ line_of r line
reads h add f text (Ok x) said r line w ws s e behind agrees says gives =
    sym (ap (line_of r) s ∙ gives ∙ ap (with_line add r (w ∷ ws)) says)
reads h add f text (Err rest) said r line w ws s e behind agrees says gives =
    let l = agrees.1 in
    let n = ap length s in
    let front = ap (λ v. reach line_form (v ∷ ws)) (equal_words w text e) ∙ behind in
    let same : length line - length rest + 1 ≡ reach line_form (w ∷ ws) + 1 = omega
    (arith, n, front) in
    ap (λ n. let failed : Result RuleLines RulesCause = Err (causes.Word n) in failed) same
    ∙ sym (ap (line_of r) s ∙ gives ∙ ap (with_line add r (w ∷ ws)) says)

same_option : {A : Type 0} (o : Option A) → o ≡ option_map (λ x. x) o
same_option None = refl
same_option (Some x) = refl

forbid_says : (ws : List (List ℕ)) → forbid_of ws ≡ option_map (λ f. f) (ok_of (forbid_words ws))
forbid_says ws = forbid_said ws ∙ same_option (ok_of (forbid_words ws))

pub group_reads : (r : RuleLines) (line : List (List ℕ)) (w : List ℕ) (ws : List (List ℕ)) →
    line ≡ w ∷ ws → is (codes "group") w ≡ true →
    read_to (λ r g. add_group r (read_group g)) r (length line) (group_words ws) ≡ line_of r line
unfolding line_of line_form
group_reads r line w ws s e =
    reads read_group add_group group_form (codes "group") (group_words ws) (group_of ws) r line w ws
    s e (omega arith) (group_agrees ws) (group_said ws) (rw e refl)

pub forbid_reads : (r : RuleLines) (line : List (List ℕ)) (w : List ℕ) (ws : List (List ℕ)) →
    line ≡ w ∷ ws → is (codes "group") w ≡ false → is (codes "forbid") w ≡ true →
    read_to add_forbid r (length line) (forbid_words ws) ≡ line_of r line
unfolding line_of line_form
forbid_reads r line w ws s g e =
    reads (λ f. f) add_forbid forbid_form (codes "forbid") (forbid_words ws) (forbid_of ws) r line w
    ws s e (omega arith) (forbid_agrees ws) (forbid_says ws) (rw (g, e) refl)

pub exit_reads : (r : RuleLines) (line : List (List ℕ)) (w : List ℕ) (ws : List (List ℕ)) →
    line ≡ w ∷ ws → is (codes "group") w ≡ false → is (codes "forbid") w ≡ false →
    is (codes "exit") w ≡ true →
    read_to (λ r e. add_exit r (read_exit e)) r (length line) (exit_words ws) ≡ line_of r line
unfolding line_of line_form
exit_reads r line w ws s g f e =
    reads read_exit add_exit exit_form (codes "exit") (exit_words ws) (exit_of ws) r line w ws s e
    (omega arith) (exit_agrees ws) (exit_said ws) (rw (g, f, e) refl)

pub unknown_reads : (r : RuleLines) (line : List (List ℕ)) (w : List ℕ) (ws : List (List ℕ)) →
    line ≡ w ∷ ws → is (codes "group") w ≡ false → is (codes "forbid") w ≡ false →
    is (codes "exit") w ≡ false → line_of r line ≡ Err causes.UnknownLine
unfolding line_of
unknown_reads r line w ws s g f e = ap (line_of r) s ∙ rw (g, f, e) refl

pub nothing_reads : (r : RuleLines) (line : List (List ℕ)) → line ≡ [] → line_of r line ≡ Ok r
unfolding line_of
nothing_reads r line s = ap (line_of r) s

-- a line has its form exactly where it says something
form_case : {A B : Type 0} (h : A → B) (f : Form) (ws : List (List ℕ))
    (a : Result A (List (List ℕ))) → Agrees f ws a → fits f ws ≡ is_some (option_map h (ok_of a))
form_case h f ws (Ok x) agrees = agrees
form_case h f ws (Err rest) agrees = agrees.0

pub group_fits : (ws : List (List ℕ)) → fits group_form ws ≡ is_some (group_of ws)
group_fits ws =
    form_case read_group group_form ws (group_words ws) (group_agrees ws)
    ∙ ap is_some (sym (group_said ws))

pub forbid_fits : (ws : List (List ℕ)) → fits forbid_form ws ≡ is_some (forbid_of ws)
forbid_fits ws =
    form_case (λ f. f) forbid_form ws (forbid_words ws) (forbid_agrees ws)
    ∙ ap is_some (sym (forbid_says ws))

pub exit_fits : (ws : List (List ℕ)) → fits exit_form ws ≡ is_some (exit_of ws)
exit_fits ws =
    form_case read_exit exit_form ws (exit_words ws) (exit_agrees ws)
    ∙ ap is_some (sym (exit_said ws))
