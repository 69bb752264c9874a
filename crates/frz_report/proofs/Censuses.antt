-- One more class in a census.
use Rattle.std.proofs.Common.{◌≡◌, refl, sym, ap, subst, ◌∙◌, ℕ, ◌+◌, List, [], ◌∷◌, ◌++◌, filter, Bool, true, false, not, cond, ◌||◌, append-nil, arith}
use Rattle.std.specs.List.{AllByRecursion, IsDistinct, list_any}
use Rattle.std.specs.Str.{bytes_eq}
use Rattle.std.proofs.lemmas.Bool.{or_right}
use Rattle.std.proofs.lemmas.List.Elements.{filter-append}
use Rattle.std.proofs.lemmas.Slice.Eq.{bytes_eq-Decides}
use Rattle.std.proofs.lemmas.List.Sums.{sum_by-cons, sum_by_push}
use Rattle.frz_report.specs.Census.{firsts, firsts_by, times}

abbrev pub Class : Type 0
Class = List ℕ

-- equal classes are the same
pub same_class : (c d : Class) → bytes_eq c d ≡ true → c ≡ d
same_class c d e = (bytes_eq-Decides c d).0 e

pub class_itself : (c : Class) → bytes_eq c c ≡ true
class_itself c = (bytes_eq-Decides c c).1 refl

-- a class that differs from another differs from those equal to it
pub equality_is_symmetric : (c d : Class) (b : Bool) → bytes_eq c d ≡ b → bytes_eq d c ≡ b
equality_is_symmetric c d true e = subst (λ (x : Class). bytes_eq x c ≡ true) (same_class c d e)
    (class_itself c)
equality_is_symmetric c d false e = differs_turned_round (bytes_eq d c) refl
  where
    differs_turned_round : (b : Bool) → bytes_eq d c ≡ b → bytes_eq d c ≡ false
    differs_turned_round false h = h
    differs_turned_round true h =
        let no : false ≡ true = sym e ∙ ap (bytes_eq c) (same_class d c h) ∙ class_itself c in cc

abbrev pub others : Class → Class → Bool
others c d = not (bytes_eq c d)

-- a class that is not c is looked for in vain, or found, alike where those equal to c are left out
any_others : (x c : Class) (ks : List Class) → bytes_eq x c ≡ false
    → list_any (bytes_eq x) (filter (others c) ks) ≡ list_any (bytes_eq x) ks
any_others x c [] apart = refl
any_others x c (d ∷ ks) apart = any_kept_or_left (bytes_eq c d) refl (any_others x c ks apart)
  where
    any_kept_or_left : (b : Bool) → bytes_eq c d ≡ b
        → list_any (bytes_eq x) (filter (others c) ks) ≡ list_any (bytes_eq x) ks
        → list_any (bytes_eq x)
        (cond (not (bytes_eq c d)) (d ∷ filter (others c) ks) (filter (others c) ks))
        ≡ (bytes_eq x d || list_any (bytes_eq x) ks)
    any_kept_or_left true e rest =
        let off : bytes_eq x d ≡ false = subst (λ (z : Class). bytes_eq x z ≡ false)
        (same_class c d e) apart in
        ap (λ (b : Bool). list_any (bytes_eq x)
        (cond (not b) (d ∷ filter (others c) ks) (filter (others c) ks))) e ∙ rest
        ∙ sym (ap (λ (b : Bool). b || list_any (bytes_eq x) ks) off)
    any_kept_or_left false e rest =
        ap (λ (b : Bool). list_any (bytes_eq x)
        (cond (not b) (d ∷ filter (others c) ks) (filter (others c) ks))) e
        ∙ ap (λ (b : Bool). bytes_eq x d || b) rest

-- a class is among the first ones exactly where it is met
pub any_firsts : (x : Class) (cs : List Class) → list_any (bytes_eq x) (firsts cs) ≡ list_any
    (bytes_eq x) cs
any_firsts x [] = refl
any_firsts x (c ∷ cs) = any_first_or_later (bytes_eq x c) refl (any_firsts x cs)
  where
    any_first_or_later : (b : Bool) → bytes_eq x c ≡ b
        → list_any (bytes_eq x) (firsts cs) ≡ list_any (bytes_eq x) cs
        → (bytes_eq x c || list_any (bytes_eq x) (filter (others c) (firsts cs)))
        ≡ (bytes_eq x c || list_any (bytes_eq x) cs)
    any_first_or_later true e rest =
        ap (λ (b : Bool). b || list_any (bytes_eq x) (filter (others c) (firsts cs))) e
        ∙ sym (ap (λ (b : Bool). b || list_any (bytes_eq x) cs) e)
    any_first_or_later false e rest =
        ap (λ (b : Bool). bytes_eq x c || b) (any_others x c (firsts cs) e ∙ rest)

abbrev pub Differs : Class → List Class → Type 0
Differs c = AllByRecursion (λ d. bytes_eq c d ≡ false)

-- nothing that is left is equal to what was left out
differs_others : (c : Class) (ks : List Class) → Differs c (filter (others c) ks)
differs_others c [] = tt
differs_others c (d ∷ ks) = differs_kept_or_left (bytes_eq c d) refl (differs_others c ks)
  where
    differs_kept_or_left : (b : Bool) → bytes_eq c d ≡ b → Differs c (filter (others c) ks)
        → Differs c (cond (not (bytes_eq c d)) (d ∷ filter (others c) ks) (filter (others c) ks))
    differs_kept_or_left true e rest = subst
        (λ (b : Bool). Differs c (cond (not b) (d ∷ filter (others c) ks) (filter (others c) ks)))
        (sym e) rest
    differs_kept_or_left false e rest = subst
        (λ (b : Bool). Differs c (cond (not b) (d ∷ filter (others c) ks) (filter (others c) ks)))
        (sym e) (e, rest)

still_differs : (p : Class → Bool) (c : Class) (ks : List Class) → Differs c ks
    → Differs c (filter p ks)
still_differs p c [] h = tt
still_differs p c (d ∷ ks) h = differs_kept_or_left (p d) (still_differs p c ks h.1)
  where
    differs_kept_or_left : (b : Bool) → Differs c (filter p ks)
        → Differs c (cond b (d ∷ filter p ks) (filter p ks))
    differs_kept_or_left true rest = (h.0, rest)
    differs_kept_or_left false rest = rest

still_distinct : (p : Class → Bool) (ks : List Class) → IsDistinct bytes_eq ks
    → IsDistinct bytes_eq (filter p ks)
unfolding IsDistinct
still_distinct p [] h = tt
still_distinct p (d ∷ ks) h = distinct_kept_or_left (p d) (still_distinct p ks h.1)
  where
    distinct_kept_or_left : (b : Bool) → IsDistinct bytes_eq (filter p ks)
        → IsDistinct bytes_eq (cond b (d ∷ filter p ks) (filter p ks))
    distinct_kept_or_left true rest = (still_differs p d ks h.0, rest)
    distinct_kept_or_left false rest = rest

-- each class stands once
pub firsts_distinct : (cs : List Class) → IsDistinct bytes_eq (firsts cs)
unfolding IsDistinct
firsts_distinct [] = tt
firsts_distinct (c ∷ cs) =
    (differs_others c (firsts cs), still_distinct (others c) (firsts cs) (firsts_distinct cs))

-- one of a class that was met leaves the first ones, and another goes last
module _ {X : Type 0} (class : X → Class) where
  abbrev apart : X → X → Bool
  apart x y = not (bytes_eq (class x) (class y))

  abbrev same : X → X → Bool
  same x y = bytes_eq (class x) (class y)

  pub firsts_by_more : (xs : List X) (x : X)
      → firsts_by class (xs ++ x ∷ []) ≡ cond (list_any (same x) xs) (firsts_by class xs)
      (firsts_by class xs ++ x ∷ [])
  firsts_by_more [] x = refl
  firsts_by_more (c ∷ cs) x = by_met (list_any (same x) cs) refl (firsts_by_more cs x)
    where
      goes : Bool → Type 0
      goes met = (c ∷ filter (apart c) (firsts_by class (cs ++ x ∷ []))) ≡ cond met
          (c ∷ filter (apart c) (firsts_by class cs))
          ((c ∷ filter (apart c) (firsts_by class cs)) ++ x ∷ [])

      whole : List X → List X
      whole ks = c ∷ filter (apart c) ks

      by_first : (b : Bool) → same x c ≡ b
          → firsts_by class (cs ++ x ∷ []) ≡ firsts_by class cs ++ x ∷ [] → goes (b || false)
      by_first true e h =
          let alike : same c x ≡ true = equality_is_symmetric (class x) (class c) true e in
          ap whole h
          ∙ ap (λ (l : List X). c ∷ l)
          (filter-append (apart c) (firsts_by class cs) (x ∷ [])
          ∙ ap (λ (b : Bool). filter (apart c) (firsts_by class cs) ++ cond (not b) (x ∷ []) [])
          alike
          ∙ append-nil (filter (apart c) (firsts_by class cs)))
      by_first false e h =
          let other : same c x ≡ false = equality_is_symmetric (class x) (class c) false e in
          ap whole h
          ∙ ap (λ (l : List X). c ∷ l)
          (filter-append (apart c) (firsts_by class cs) (x ∷ [])
          ∙ ap (λ (b : Bool). filter (apart c) (firsts_by class cs) ++ cond (not b) (x ∷ []) [])
          other)

      by_met : (met : Bool) → list_any (same x) cs ≡ met
          → firsts_by class (cs ++ x ∷ []) ≡ cond (list_any (same x) cs) (firsts_by class cs)
          (firsts_by class cs ++ x ∷ [])
          → goes (same x c || list_any (same x) cs)
      by_met true e h =
          let stays : firsts_by class (cs ++ x ∷ []) ≡ firsts_by class cs = h
          ∙ ap (λ (b : Bool). cond b (firsts_by class cs) (firsts_by class cs ++ x ∷ [])) e in
          let met : (same x c || list_any (same x) cs) ≡ true = or_right (same x c)
          (list_any (same x) cs) e in
          subst goes (sym met) (ap whole stays)
      by_met false e h =
          let grows : firsts_by class (cs ++ x ∷ []) ≡ firsts_by class cs ++ x ∷ [] = h
          ∙ ap (λ (b : Bool). cond b (firsts_by class cs) (firsts_by class cs ++ x ∷ [])) e in
          let met : (same x c || list_any (same x) cs) ≡ (same x c || false) =
          ap (λ (b : Bool). same x c || b) e in
          subst goes (sym met) (by_first (same x c) refl grows)

pub firsts_more : (cs : List Class) (x : Class)
    → firsts (cs ++ x ∷ []) ≡ cond (list_any (bytes_eq x) cs) (firsts cs) (firsts cs ++ x ∷ [])
firsts_more cs x = firsts_by_more (λ c. c) cs x

abbrev pub once : Bool → ℕ
once b = cond b 1 0

-- the class occurs once more than before
pub times_more : (cs : List Class) (x c : Class)
    → times (cs ++ x ∷ []) c ≡ times cs c + once (bytes_eq c x)
times_more cs x c = sum_by_push (λ (d : Class). cond (bytes_eq c d) 1 0) cs x

-- a class that is not met occurs no time
pub times_none : (cs : List Class) (c : Class) → list_any (bytes_eq c) cs ≡ false → times cs c ≡ 0
times_none [] c h = refl
times_none (d ∷ cs) c h = sum_by-cons (λ (e : Class). cond (bytes_eq c e) 1 0) d cs
    ∙ none_here_or_later (bytes_eq c d) h (times_none cs c)
  where
    none_here_or_later : (b : Bool) → (b || list_any (bytes_eq c) cs) ≡ false
        → (list_any (bytes_eq c) cs ≡ false → times cs c ≡ 0) → cond b 1 0 + times cs c ≡ 0
    none_here_or_later true h rest = cc
    none_here_or_later false h rest = let none : times cs c ≡ 0 = rest h in omega (arith, none)
