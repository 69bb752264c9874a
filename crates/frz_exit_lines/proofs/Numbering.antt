-- The numbers gathered so far, and those of the lines that are left.
use Rattle.std.proofs.Common.{◌≡◌, ℕ, Bool, true, false, cond, List, [], ◌∷◌, ◌++◌, refl, sym, ap, ◌∙◌, append_assoc}
use Rattle.std.proofs.lemmas.List.{append-nil}
use Rattle.frz_words.specs.Words.{words}
use Rattle.frz_exit_lines.specs.Numbers.{begins_exit, exit_numbers}

by_test : (b : Bool) (n : ℕ) (line : List ℕ) (ls : List (ℕ × List ℕ)) (found : List ℕ) →
    begins_exit (words line) ≡ b →
    found ++ exit_numbers ((n, line) ∷ ls) ≡ (found ++ cond b (n ∷ []) []) ++ exit_numbers ls
by_test true n line ls found e = rw e (sym (append_assoc found (n ∷ []) (exit_numbers ls)))
by_test false n line ls found e = rw e (ap (λ xs. xs ++ exit_numbers ls) (sym (append-nil found)))

pub counted : (n : ℕ) (line : List ℕ) (ls all : List (ℕ × List ℕ)) (found : List ℕ) →
    all ≡ (n, line) ∷ ls → begins_exit (words line) ≡ true →
    (found ++ n ∷ []) ++ exit_numbers ls ≡ found ++ exit_numbers all
counted n line ls all found a e =
    sym (ap (λ xs. found ++ exit_numbers xs) a ∙ by_test true n line ls found e)

pub passed_over : (n : ℕ) (line : List ℕ) (ls all : List (ℕ × List ℕ)) (found : List ℕ) →
    all ≡ (n, line) ∷ ls → begins_exit (words line) ≡ false →
    found ++ exit_numbers ls ≡ found ++ exit_numbers all
passed_over n line ls all found a e =
    sym (ap (λ xs. found ++ exit_numbers xs) a
    ∙ rw e refl)

pub ruleset numbering = (counted, passed_over, append-nil)
