-- Reading words of a class to the end, as a loop does.
use Rattle.std.proofs.Common.{◌≡◌, ℕ, List, [], ◌∷◌, ◌++◌, Option, None, Some, Result, Ok, Err, refl, sym, ap, ◌∙◌, append_assoc}
use Rattle.frz_rules.specs.Text.{◌>>=◌}
use Rattle.frz_rules.specs.Reading.{each_of, more_of}

-- the values so far, and those of the rest
abbrev pub with_values : {A : Type 0} → List A → Result (List A) (List (List ℕ)) →
    Result (List A) (List (List ℕ))
with_values xs (Ok ys) = Ok (xs ++ ys)
with_values xs (Err e) = Err e

values_join : {A : Type 0} (xs : List A) (x : A) (r : Result (List A) (List (List ℕ)))
    → with_values xs (r >>= λ ys. Ok (x ∷ ys)) ≡ with_values (xs ++ x ∷ []) r
values_join xs x (Ok ys) = ap Ok (sym (append_assoc xs (x ∷ []) ys))
values_join xs x (Err e) = refl

pub many_start : {A : Type 0} (r : Result (List A) (List (List ℕ))) → with_values [] r ≡ r
many_start (Ok ys) = refl
many_start (Err e) = refl

pub many_next : {A : Type 0} (class : List ℕ → Option A) (xs : List A) (x : A) (w : List ℕ)
    (ws : List (List ℕ)) → Some x ≡ class w → with_values xs (each_of class (w ∷ ws)) ≡ with_values
    (xs ++ x ∷ []) (each_of class ws)
many_next class xs x w ws e =
    ap (λ o. with_values xs (more_of o w ws (each_of class ws))) (sym e)
    ∙ values_join xs x (each_of class ws)

pub many_stop : {A : Type 0} (class : List ℕ → Option A) (xs : List A) (w : List ℕ)
    (ws : List (List ℕ)) → None ≡ class w → with_values xs (each_of class (w ∷ ws)) ≡ Err (w ∷ ws)
many_stop class xs w ws e = ap (λ o. with_values xs (more_of o w ws (each_of class ws))) (sym e)

pub ruleset manying = (many_start, many_next, many_stop)
