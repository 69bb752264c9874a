-- The numbers of a census add up to that of the exits.
use Rattle.std.proofs.Common.{◌≡◌, refl, sym, ap, ◌∙◌, ℕ, zero, suc, ◌+◌, ◌≤◌, List, [], ◌∷◌, ◌++◌, length, take, get_or, Bool, true, false, cond, if◌then◌else◌, Some, arith}
use Rattle.std.specs.Option.{unwrap_or}
use Rattle.std.specs.Prelude.{sum_by}
use Rattle.std.proofs.lemmas.List.Sums.{sum_by-cons}
use Rattle.std.specs.Map.{lookup}
use Rattle.std.specs.Str.{bytes_eq}
use Rattle.std.proofs.lemmas.List.{take_all, take_more}
use Rattle.indexmap.specs.IndexMap.{insert_entry}
use Rattle.frz_report.specs.Census.{census, times}
use Rattle.frz_report.proofs.Censuses.{Class}
use Rattle.frz_report.proofs.Entries.{census_more, times_looked_up}

abbrev pub sum_of : List (Class × ℕ) → ℕ
sum_of es = sum_by (λ e. e.1) es

sum_swapped : (s v old : ℕ) → v + s + old ≡ old + s + v
sum_swapped s v old = omega arith

sum_moved : (put old s first v : ℕ) → put + old ≡ s + v → first + put + old ≡ first + s + v
sum_moved put old s first v h = omega arith

-- a value that is put takes the place of the old one
sum_put : (es : List (Class × ℕ)) (x : Class) (v : ℕ)
    → sum_of (insert_entry bytes_eq es x v) + unwrap_or (lookup (bytes_eq x) es) 0 ≡ sum_of es + v
sum_put [] x v = omega arith
sum_put (e ∷ es) x v =
    put_here_or_later (bytes_eq x e.0) (sum_put es x v)
    ∙ sym (ap (λ (n : ℕ). n + v) (sum_by-cons (λ (y : Class × ℕ). y.1) e es))
  where
    put_here_or_later : (b : Bool)
        → sum_of (insert_entry bytes_eq es x v) + unwrap_or (lookup (bytes_eq x) es) 0
        ≡ sum_of es + v
        → sum_of (if b then (e.0, v) ∷ es else e ∷ insert_entry bytes_eq es x v) + unwrap_or
        (cond b (Some e.1) (lookup (bytes_eq x) es)) 0 ≡ e.1 + sum_of es + v
    put_here_or_later true h =
        ap (λ (n : ℕ). n + e.1) (sum_by-cons (λ (y : Class × ℕ). y.1) (e.0, v) es)
        ∙ sum_swapped (sum_of es) v e.1
    put_here_or_later false h =
        ap (λ (n : ℕ). n + unwrap_or (lookup (bytes_eq x) es) 0)
        (sum_by-cons (λ (y : Class × ℕ). y.1) e (insert_entry bytes_eq es x v))
        ∙ sum_moved (sum_of (insert_entry bytes_eq es x v)) (unwrap_or (lookup (bytes_eq x) es) 0)
        (sum_of es) e.1 v h

sum_more : (cs : List Class) (x : Class) → sum_of (census (cs ++ x ∷ [])) ≡ sum_of (census cs) + 1
sum_more cs x =
    let put : sum_of (insert_entry bytes_eq (census cs) x (times cs x + 1)) + unwrap_or
    (lookup (bytes_eq x) (census cs)) 0 ≡ sum_of (census cs) + (times cs x + 1) =
    sum_put (census cs) x (times cs x + 1) in
    let old : unwrap_or (lookup (bytes_eq x) (census cs)) 0 ≡ times cs x = times_looked_up cs x in
    let new : sum_of (insert_entry bytes_eq (census cs) x (times cs x + 1)) ≡ sum_of
    (census (cs ++ x ∷ [])) = ap sum_of (census_more cs x) in
    omega arith

front_sum : (cs : List Class) (n : ℕ) → n ≤ length cs → sum_of (census (take n cs)) ≡ n
front_sum cs zero h = refl
front_sum cs (suc n) h =
    let before : sum_of (census (take n cs)) ≡ n = front_sum cs n (omega arith) in
    let more : take (n + 1) cs ≡ take n cs ++ get_or cs n [] ∷ [] = take_more cs n []
    (omega arith) in
    let one : n + 1 ≡ suc n = omega arith in
    ap (λ (k : ℕ). sum_of (census (take k cs))) (sym one)
    ∙ ap (λ (l : List Class). sum_of (census l)) more ∙ sum_more (take n cs) (get_or cs n [])
    ∙ omega arith

-- all of them together
pub census_sum : (cs : List Class) → sum_of (census cs) ≡ length cs
census_sum cs = sym (ap (λ (l : List Class). sum_of (census l))
    (take_all (length cs) cs (omega arith))) ∙ front_sum cs (length cs) (omega arith)
