-- That the elements of a list have exactly one order by rank.
use Rattle.std.proofs.Common.{◌≡◌, ℕ, zero, suc, ◌<◌, ◌≤◌, Bool, true, false, cond, List, [], ◌∷◌, length, get_or, filter, ltb, refl, sym, ap, subst, ◌∙◌, arith, inl, inr, suc-le-suc, zero-le}
use Rattle.std.proofs.lemmas.Bool.{cond-true, cond-false, cases_Bool, ltb-true, ltb-false}
use Rattle.std.proofs.lemmas.Bool.Decides.{nat_tests}
use Rattle.std.proofs.lemmas.List.Sorted.{IsPermutation-cons, IsPermutation-refl, IsPermutation-swap, IsPermutation-trans}
use Rattle.std.specs.List.Sorted.{IsNonDecreasingBy, IsPermutation, ties}
use Rattle.std.specs.Ordering.{is_lt, nat_cmp}
use Rattle.frz_commands_atlas.specs.InOrder as orders
use Rattle.frz_commands_atlas.specs.Ranked.{IsRanked}

ties_at : (m n : ℕ) → (ties (λ x y. is_lt (nat_cmp x y)) m n ≡ true → m ≡ n)
    × (m ≡ n → ties (λ x y. is_lt (nat_cmp x y)) m n ≡ true)
ties_at m n = (λ h. grind (arith, nat_tests), λ h. grind (arith, nat_tests))

module _ {X : Type 0} (rank : X → ℕ) where
  abbrev same_rank : X → X → Bool
  same_rank = ties (λ x y. is_lt (nat_cmp (rank x) (rank y)))

  one_rank : (x y : X) → same_rank x y ≡ true → rank x ≡ rank y
  one_rank x y = (ties_at (rank x) (rank y)).0

  equal_ranks_tie : (x y : X) → rank x ≡ rank y → same_rank x y ≡ true
  equal_ranks_tie x y = (ties_at (rank x) (rank y)).1

  passing_is_kept : (p : X → Bool) (y : X) (ys : List X) → p y ≡ true
      → filter p (y ∷ ys) ≡ y ∷ filter p ys
  passing_is_kept p y ys h = cond-true _ _ _ h

  failing_is_dropped : (p : X → Bool) (y : X) (ys : List X) → p y ≡ false
      → filter p (y ∷ ys) ≡ filter p ys
  failing_is_dropped p y ys h = cond-false _ _ _ h

  -- each rank is at least n
  abbrev AreAtLeast : ℕ → List X → Type 0
  AreAtLeast n [] = Unit {0}
  AreAtLeast n (y ∷ ys) = (n ≤ rank y) × AreAtLeast n ys

  abbrev Rises : List X → Type 0
  Rises [] = Unit {0}
  Rises (y ∷ ys) = AreAtLeast (rank y) ys × Rises ys

  less_too : (n m : ℕ) (ys : List X) → n ≤ m → AreAtLeast m ys → AreAtLeast n ys
  less_too n m [] le h = tt
  less_too n m (y ∷ ys) le h = let first = h.0 in (omega arith, less_too n m ys le h.1)

  all_at_least : (n : ℕ) (ys : List X) (d : X)
      → ((j : ℕ) → j < length ys → n ≤ rank (get_or ys j d)) → AreAtLeast n ys
  all_at_least n [] d h = tt
  all_at_least n (y ∷ ys) d h =
      (h zero (suc-le-suc zero-le), all_at_least n ys d (λ j lt. h (suc j) (suc-le-suc lt)))

  at_least : (n : ℕ) (ys : List X) (d : X) (j : ℕ) → AreAtLeast n ys → j < length ys
      → n ≤ rank (get_or ys j d)
  at_least n [] d j h lt = absurd (omega arith)
  at_least n (y ∷ ys) d zero h lt = h.0
  at_least n (y ∷ ys) d (suc j) h lt = at_least n ys d j h.1 (omega arith)

  non_decreasing_rises : (ys : List X) → IsNonDecreasingBy rank ys → Rises ys
  non_decreasing_rises [] h = tt
  non_decreasing_rises (y ∷ ys) h = (
    all_at_least (rank y) ys y (λ j lt. h zero (suc j) y zero-le (suc-le-suc lt)),
    non_decreasing_rises ys (λ i j d le lt. h (suc i) (suc j) d (suc-le-suc le) (suc-le-suc lt)),
  )

  rising_is_non_decreasing : (ys : List X) → Rises ys → IsNonDecreasingBy rank ys
  rising_is_non_decreasing [] h i j d le lt = absurd (omega arith)
  rising_is_non_decreasing (y ∷ ys) h zero zero d le lt = omega arith
  rising_is_non_decreasing (y ∷ ys) h zero (suc j) d le lt = at_least (rank y) ys d j h.0
      (omega arith)
  rising_is_non_decreasing (y ∷ ys) h (suc i) zero d le lt = absurd (omega arith)
  rising_is_non_decreasing (y ∷ ys) h (suc i) (suc j) d le lt = rising_is_non_decreasing ys h.1 i j
      d (omega arith) (omega arith)

  -- the rank of x occurs among them
  rank_found_at_least : (n : ℕ) (x : X) (ys : List X) (w : X) (ws : List X) → AreAtLeast n ys
      → filter (same_rank x) ys ≡ w ∷ ws → n ≤ rank x
  rank_found_at_least n x [] w ws h e = cc
  rank_found_at_least n x (y ∷ ys) w ws h e =
      elim (cases_Bool (same_rank x y)) [
        | inl with ↦ omega (arith, h.0, one_rank x y with)
        | inr without ↦ rank_found_at_least n x ys w ws h.1
            (sym (failing_is_dropped (same_rank x) y ys without) ∙ e)
      ]

  -- two rising lists that hold the same elements of each rank, in the same order, are one
  one_rising : (ys zs : List X) → Rises ys → Rises zs
      → ((x : X) → filter (same_rank x) ys ≡ filter (same_rank x) zs) → ys ≡ zs
  one_rising [] [] left right same = refl
  one_rising [] (z ∷ zs) left right same =
      let clash = same z ∙ passing_is_kept (same_rank z) z zs (equal_ranks_tie z z refl) in cc
  one_rising (y ∷ ys) [] left right same =
      let clash = sym (same y) ∙ passing_is_kept (same_rank y) y ys (equal_ranks_tie y y refl) in cc
  one_rising (y ∷ ys) (z ∷ zs) left right same =
      let at_y = passing_is_kept (same_rank y) y ys (equal_ranks_tie y y refl) in
      let at_z = passing_is_kept (same_rank z) z zs (equal_ranks_tie z z refl) in
      let up = rank_found_at_least (rank z) y (z ∷ zs) y _ (omega arith, right.0)
      (sym (same y) ∙ at_y) in
      let down = rank_found_at_least (rank y) z (y ∷ ys) z _ (omega arith, left.0)
      (same z ∙ at_z) in
      let heads = sym at_y ∙ same y ∙ passing_is_kept (same_rank y) z zs
      (equal_ranks_tie y z (omega arith)) in
      let head : y ≡ z = cc in
      let tails : (x : X) → filter (same_rank x) ys ≡ filter (same_rank x) zs = λ x.
      elim (cases_Bool (same_rank x y)) [
        | inl with ↦
            let both = sym (passing_is_kept (same_rank x) y ys with) ∙ same x
            ∙ passing_is_kept (same_rank x) z zs (ap (same_rank x) (sym head) ∙ with) in cc
        | inr without ↦
            sym (failing_is_dropped (same_rank x) y ys without) ∙ same x
            ∙ failing_is_dropped (same_rank x) z zs (ap (same_rank x) (sym head) ∙ without)
      ] in
      ap (λ (x : X). x ∷ ys) head ∙ ap (λ (l : List X). z ∷ l) (one_rising ys zs left.1 right.1 tails)

  pub one_order : (xs ys zs : List X) → IsRanked rank xs ys → IsRanked rank xs zs → ys ≡ zs
  one_order xs ys zs h k =
      one_rising ys zs (non_decreasing_rises ys h.rising) (non_decreasing_rises zs k.rising)
      (λ x. h.level x ∙ sym (k.level x))

  abbrev put_in : X → List X → List X
  put_in = orders.put_in rank

  abbrev in_order : List X → List X
  in_order = orders.in_order rank

  put_behind_lower : (x y : X) (ys : List X) → ltb (rank y) (rank x) ≡ true
      → put_in x (y ∷ ys) ≡ y ∷ put_in x ys
  put_behind_lower x y ys h = cond-true _ _ _ h

  put_before_others : (x y : X) (ys : List X) → ltb (rank y) (rank x) ≡ false
      → put_in x (y ∷ ys) ≡ x ∷ y ∷ ys
  put_before_others x y ys h = cond-false _ _ _ h

  put_level : (x c : X) (ds : List X)
      → filter (same_rank x) (put_in c ds) ≡ filter (same_rank x) (c ∷ ds)
  put_level x c [] = refl
  put_level x c (d ∷ ds) =
      let p = same_rank x in
      elim (cases_Bool (ltb (rank d) (rank c))) [
        | inr stay ↦ ap (filter p) (put_before_others c d ds stay)
        | inl pass ↦
            ap (filter p) (put_behind_lower c d ds pass)
            ∙ elim (cases_Bool (p d)) [
              | inr without ↦
                  failing_is_dropped p d (put_in c ds) without ∙ put_level x c ds
                  ∙ ap (λ (l : List X). cond (p c) (c ∷ l) l)
                  (sym (failing_is_dropped p d ds without))
              | inl with ↦
                  elim (cases_Bool (p c)) [
                    | inl both ↦ absurd (omega (
                      arith,
                      ltb-true (rank d) (rank c) pass,
                      one_rank x c both,
                      one_rank x d with,
                    ))
                    | inr only ↦
                        passing_is_kept p d (put_in c ds) with
                        ∙ ap (λ (l : List X). d ∷ l)
                        (put_level x c ds ∙ failing_is_dropped p c ds only)
                        ∙ sym (failing_is_dropped p c (d ∷ ds) only ∙ passing_is_kept p d ds with)
                  ]
            ]
      ]

  all_level : (x : X) (xs : List X) → filter (same_rank x) (in_order xs) ≡ filter (same_rank x) xs
  all_level x [] = refl
  all_level x (c ∷ cs) =
      put_level x c (in_order cs)
      ∙ ap (λ (l : List X). cond (same_rank x c) (c ∷ l) l) (all_level x cs)

  put_at_least : (n : ℕ) (x : X) (ys : List X) → n ≤ rank x → AreAtLeast n ys
      → AreAtLeast n (put_in x ys)
  put_at_least n x [] low h = (low, tt)
  put_at_least n x (y ∷ ys) low h =
      elim (cases_Bool (ltb (rank y) (rank x))) [
        | inl pass ↦ subst (λ (l : List X). AreAtLeast n l) (sym (put_behind_lower x y ys pass))
            (h.0, put_at_least n x ys low h.1)
        | inr stay ↦ subst (λ (l : List X). AreAtLeast n l) (sym (put_before_others x y ys stay))
            (low, h)
      ]

  put_rises : (x : X) (ys : List X) → Rises ys → Rises (put_in x ys)
  put_rises x [] h = (tt, tt)
  put_rises x (y ∷ ys) h =
      elim (cases_Bool (ltb (rank y) (rank x))) [
        | inl pass ↦
            let low = ltb-true (rank y) (rank x) pass in
            subst (λ (l : List X). Rises l) (sym (put_behind_lower x y ys pass))
            (put_at_least (rank y) x ys (omega arith) h.0, put_rises x ys h.1)
        | inr stay ↦
            let low = ltb-false (rank y) (rank x) stay in
            subst (λ (l : List X). Rises l) (sym (put_before_others x y ys stay))
            ((low, less_too (rank x) (rank y) ys low h.0), h)
      ]

  all_rises : (xs : List X) → Rises (in_order xs)
  all_rises [] = tt
  all_rises (x ∷ xs) = put_rises x (in_order xs) (all_rises xs)

  put_same : (x : X) (ys : List X) → IsPermutation (x ∷ ys) (put_in x ys)
  put_same x [] = IsPermutation-refl (x ∷ [])
  put_same x (y ∷ ys) =
      elim (cases_Bool (ltb (rank y) (rank x))) [
        | inl pass ↦
            subst (λ (l : List X). IsPermutation (x ∷ y ∷ ys) l)
            (sym (put_behind_lower x y ys pass))
            (IsPermutation-trans (x ∷ y ∷ ys) (y ∷ x ∷ ys) (y ∷ put_in x ys)
            (IsPermutation-swap (x ∷ y ∷ ys) (y ∷ x ∷ ys) 0 1 (omega arith) (omega arith) refl)
            (IsPermutation-cons y (x ∷ ys) (put_in x ys) (put_same x ys)))
        | inr stay ↦
            subst (λ (l : List X). IsPermutation (x ∷ y ∷ ys) l)
            (sym (put_before_others x y ys stay))
            (IsPermutation-refl (x ∷ y ∷ ys))
      ]

  order_is_permutation : (xs : List X) → IsPermutation xs (in_order xs)
  order_is_permutation [] = IsPermutation-refl []
  order_is_permutation (x ∷ xs) =
      IsPermutation-trans (x ∷ xs) (x ∷ in_order xs) (put_in x (in_order xs))
      (IsPermutation-cons x xs (in_order xs) (order_is_permutation xs)) (put_same x (in_order xs))

  pub in_order_is_ranked : (xs : List X) → IsRanked rank xs (in_order xs)
  in_order_is_ranked xs = record {
    same = order_is_permutation xs;
    rising = rising_is_non_decreasing (in_order xs) (all_rises xs);
    level = λ x. all_level x xs;
  }

  -- there is one
  pub some_order : (xs : List X) → (ranked : List X) × IsRanked rank xs ranked
  some_order xs = (in_order xs, in_order_is_ranked xs)
