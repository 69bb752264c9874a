-- The words of a kept code are those of the bound for which it stands.
use Rattle.std.proofs.Common.{◌≡◌, ◌+◌, ◌*◌, ◌-◌, ◌/◌, ◌==◌, ℕ, List, ◌++◌, Bool, true, false, refl, ap, ◌∙◌, if◌then◌else◌, codes, arith}
use Rattle.std.specs.Prelude.{decimal}
use Rattle.std.proofs.lemmas.Bool.Decides.{nat_tests}
use Rattle.frz_arena.specs.declared.bound.Bound.{Bound}
use Rattle.frz_arena.specs.declared.bound.Bound.TheVariants.{Wins, Holds, Fails}
use Rattle.frz_arena.specs.Codes.{code_of, is_win}
use Rattle.frz_arena.proofs.Lemmas.{win_of}
use Rattle.frz_bound_lines.specs.BoundLines.{bound_text, kept_words}

-- the words by the tests of the code
words_by : Bool → Bool → ℕ → List ℕ
words_by one win plies =
    if one then codes " holds"
    else (if win then codes " wins within " ++ decimal plies else codes " none")

by_tests : (one win : Bool) (plies : ℕ) (a b : Bool) (n : ℕ) → one ≡ a → win ≡ b → plies ≡ n →
    words_by one win plies ≡ words_by a b n
by_tests one win plies a b n e f g =
    ap (λ t. words_by t win plies) e ∙ ap (λ t. words_by a t plies) f ∙ ap (words_by a b) g

words_are : (c : ℕ) → kept_words c ≡ words_by (c == 1) (is_win c) ((c - 2) / 2)
unfolding words_by
words_are c = refl

wins_said : (n : ℕ) → words_by false true n ≡ bound_text (Wins n)
unfolding words_by
wins_said n = refl

none_said : (m n : ℕ) → words_by false false n ≡ bound_text (Fails m)
unfolding words_by
none_said m n = refl

more_than_one : (n : ℕ) → (2 + 2 * n == 1) ≡ false
more_than_one n = grind (arith, nat_tests)

win_plies : (n : ℕ) → (2 + 2 * n - 2) / 2 ≡ n
win_plies n = omega arith

far_from_one : (m : ℕ) → (3 + 2 * m == 1) ≡ false
far_from_one m = grind (arith, nat_tests)

no_win_code : (m : ℕ) → is_win (3 + 2 * m) ≡ false
no_win_code m = grind (arith, nat_tests)

pub kept_bound : (b : Bound) → kept_words (code_of b) ≡ bound_text b
kept_bound (Wins n) =
    words_are (2 + 2 * n) ∙ by_tests _ _ _ false true n (more_than_one n) (win_of n) (win_plies n)
    ∙ wins_said n
kept_bound Holds = refl
kept_bound (Fails m) =
    words_are (3 + 2 * m) ∙ by_tests _ _ _ false false _ (far_from_one m) (no_win_code m) refl
    ∙ none_said m ((3 + 2 * m - 2) / 2)
