-- A line that was read begins with a known word.
use Rattle.std.proofs.Common.{◌≡◌, ℕ, Bool, true, false, cond, ◌||◌, ◌⊎◌, inl, inr, List, [], ◌∷◌, Result, Ok, Err, refl, sym, ap, ◌∙◌}
use Rattle.std.specs.Prelude.{codes, nat_le, ◌≤◌, length}
use Rattle.std.proofs.lemmas.Bool.{and_from, le-leb}
use Rattle.frz_words.specs.Lines.{lines, numbered}
use Rattle.frz_rules.specs.declared.fault.RulesCause.{RulesCause}
use Rattle.frz_rules.specs.declared.fault.RulesCause.TheVariants as causes
use Rattle.frz_sets.specs.Views.{RuleLines}
use Rattle.frz_rules.specs.Classes.{is}
use Rattle.frz_rules.specs.Lines.{group_of, forbid_of, exit_of}
use Rattle.frz_rules.specs.Text.{add_group, add_forbid, add_exit, begins_known, first_known, has_known_line, is_header, is_skipped, line_of, may_want_memory, significant, with_line}

some_known : (a b c : Bool) (g f e : Result RuleLines RulesCause) (s : RuleLines) →
    cond a g (cond b f (cond c e (Err causes.UnknownLine))) ≡ Ok s → (a || (b || c)) ≡ true
some_known true b c g f e s h = refl
some_known false true c g f e s h = refl
some_known false false true g f e s h = refl
some_known false false false g f e s h = absurd cc

pub line_known : (r s : RuleLines) (ws : List (List ℕ)) → is_skipped ws ≡ false →
    line_of r ws ≡ Ok s →
    begins_known ws ≡ true
unfolding line_of
line_known r s [] k h = absurd cc
line_known r s (w ∷ ws) k h =
    some_known (is (codes "group") w) (is (codes "forbid") w) (is (codes "exit") w)
    (with_line add_group r (w ∷ ws) (group_of ws)) (with_line add_forbid r (w ∷ ws) (forbid_of ws))
    (with_line add_exit r (w ∷ ws) (exit_of ws)) s h

-- so the first of all lines does, once one was read
pub first_is_known : (all lines rest : List (ℕ × List (List ℕ))) (n : ℕ) (ws : List (List ℕ)) →
    (lines ≡ all) ⊎ (first_known all ≡ true) → lines ≡ (n, ws) ∷ rest → begins_known ws ≡ true →
    first_known all ≡ true
first_is_known all lines rest n ws (inl e) f k = ap first_known (sym e ∙ f) ∙ k
first_is_known all lines rest n ws (inr h) f k = h

-- where a text is short, its header right, and the first line behind it known, memory may be wanted
pub wants : (text : List ℕ) (n : ℕ) (ws : List (List ℕ)) (behind : List (ℕ × List (List ℕ))) →
    length text ≤ 65536 → significant (numbered 1 (lines text)) ≡ (n, ws) ∷ behind →
    is_header ws ≡ true →
    first_known behind ≡ true → may_want_memory text ≡ true
unfolding may_want_memory
wants text n ws behind short e h k =
    and_from (nat_le (length text) 65536) (has_known_line (significant (numbered 1 (lines text))))
    (le-leb (length text) 65536 short)
    (ap has_known_line e ∙ and_from (is_header ws) (first_known behind) h k)
