-- The list of legal moves is in move order, and has exactly the legal moves.
use Rattle.std.proofs.Common.{◌≡◌, ℕ, ◌+◌, ◌<◌, ◌≤◌, List, [], ◌∷◌, ◌++◌, refl, ap, sym, ◌∙◌, subst, Bool, true, false, cond, filter, arith, Option, None, Some, suc, zero, ◌⊎◌, inl, inr, length, get_or}
use Rattle.std.proofs.lemmas.Bool.Decides.{eqb_tells}
use Rattle.std.specs.Prelude.{Contains}
use Rattle.std.specs.List.{flat_map, range_with_len, AllByRecursion}
use Rattle.std.specs.List.Sorted.{IsStrictlySortedBy}
use Rattle.std.specs.Ordering.{nat_cmp, ordering_then}
use Rattle.std.specs.declared.cmp.Ordering.{Ordering}
use Rattle.std.specs.declared.cmp.Ordering.TheVariants.{Less, Equal}
use Rattle.std.specs.Cmp.{nat_cmp_is}
use Rattle.std.proofs.lemmas.List.Kept.{IsStrictlySortedBy-filter}
use Rattle.std.proofs.lemmas.List.Elements.{Contains-append_right, All-from_recursion, All-contains}
use Rattle.frz_board.specs.Boards.{Board}
use Rattle.frz_board.specs.Moving.{Step, is_promotion, IsStep, promotion_number, step_cmp}
use Rattle.frz_board.specs.Squares.{squares}
use Rattle.frz_fide.specs.Legal.{is_legal}
use Rattle.frz_fide.specs.Listing.{steps_between, every_step, legal_moves_of}
use Rattle.frz_board.specs.declared.man.Kind.{Kind}
use Rattle.frz_board.specs.declared.man.Kind.TheVariants.{King, Queen, Rook, Bishop, Knight, Pawn}

All_weaker : {X : Type 0} (P Q : X → Type 0) → ((x : X) → P x → Q x) → (xs : List X) →
    AllByRecursion P xs → AllByRecursion Q xs
All_weaker P Q h [] a = tt
All_weaker P Q h (x ∷ xs) a = (h x a.0, All_weaker P Q h xs a.1)

All_append : {X : Type 0} (P : X → Type 0) (xs ys : List X) → AllByRecursion P xs →
    AllByRecursion P ys → AllByRecursion P (xs ++ ys)
All_append P [] ys a b = b
All_append P (x ∷ xs) ys a b = (a.0, All_append P xs ys a.1 b)

sorted_append : {X : Type 0} (c : X → X → Ordering) (xs ys : List X) → IsStrictlySortedBy c xs →
    IsStrictlySortedBy c ys → AllByRecursion (λ x. AllByRecursion (λ y. c x y ≡ Less) ys) xs →
    IsStrictlySortedBy c (xs ++ ys)
unfolding IsStrictlySortedBy
sorted_append c [] ys s t a = t
sorted_append c (x ∷ xs) ys s t a =
    (All_append (λ y. c x y ≡ Less) xs ys s.0 a.0, sorted_append c xs ys s.1 t a.1)

module _ {X : Type 0} (c : X → X → Ordering) (f : ℕ → List X) (Q : ℕ → X → Type 0)
    (pieces : (a : ℕ) → IsStrictlySortedBy c (f a)) (mine : (a : ℕ) → AllByRecursion (Q a) (f a))
    (below : (i j : ℕ) (x y : X) → i < j → Q i x → Q j y → c x y ≡ Less) where
  later : (b a n : ℕ) → b < a →
      AllByRecursion (λ y. (j : ℕ) × (b < j) × Q j y) (flat_map f (range_with_len a n))
  later b a zero h = tt
  later b a (suc n) h =
      All_append (λ y. (j : ℕ) × (b < j) × Q j y) (f a) (flat_map f (range_with_len (a + 1) n))
      (All_weaker (Q a) (λ y. (j : ℕ) × (b < j) × Q j y) (λ y q. (a, h, q)) (f a) (mine a))
      (later b (a + 1) n (omega arith))

  sorted_flat : (a n : ℕ) → IsStrictlySortedBy c (flat_map f (range_with_len a n))
  unfolding IsStrictlySortedBy
  sorted_flat a zero = tt
  sorted_flat a (suc n) =
      sorted_append c (f a) (flat_map f (range_with_len (a + 1) n)) (pieces a)
      (sorted_flat (a + 1) n)
      (All_weaker (Q a)
      (λ x. AllByRecursion (λ y. c x y ≡ Less) (flat_map f (range_with_len (a + 1) n)))
      (λ x q. All_weaker (λ y. (j : ℕ) × (a < j) × Q j y) (λ y. c x y ≡ Less)
      (λ y w. below a w.0 x y w.1 q w.2) (flat_map f (range_with_len (a + 1) n))
      (later a (a + 1) n (omega arith)))
      (f a) (mine a))

All_flat : {X : Type 0} (P : X → Type 0) (f : ℕ → List X) → ((a : ℕ) → AllByRecursion P (f a)) →
    (xs : List ℕ) → AllByRecursion P (flat_map f xs)
All_flat P f h [] = tt
All_flat P f h (x ∷ xs) = All_append P (f x) (flat_map f xs) (h x) (All_flat P f h xs)

same_number : (n : ℕ) → nat_cmp n n ≡ Equal
same_number n = sym (nat_cmp_is n n Equal refl)

less_number : (m n : ℕ) → m < n → nat_cmp m n ≡ Less
less_number m n h = sym (nat_cmp_is m n Less h)

-- the steps from one square to another are in move order
between_sorted : (a b : ℕ) → IsStrictlySortedBy step_cmp (steps_between a b)
unfolding IsStrictlySortedBy
between_sorted a b =
    let tie = λ (o : Ordering). ap (λ r. ordering_then r (ordering_then (nat_cmp b b) o))
    (same_number a) ∙ ap (λ r. ordering_then r o) (same_number b) in (
      (tie Less, (tie Less, (tie Less, (tie Less, tt)))),
      (
        (tie Less, (tie Less, (tie Less, tt))),
        ((tie Less, (tie Less, tt)), ((tie Less, tt), (tt, tt))),
      ),
    )

from_and_to : (a b : ℕ) → AllByRecursion (λ m. (m.from ≡ a) × (m.to ≡ b)) (steps_between a b)
from_and_to a b = ((refl, refl), ((refl, refl), ((refl, refl), ((refl, refl), ((refl, refl), tt)))))

to_below : (a i j : ℕ) (x y : Step) → i < j → ((x.from ≡ a) × (x.to ≡ i)) →
    ((y.from ≡ a) × (y.to ≡ j)) → step_cmp x y ≡ Less
to_below a i j x y h q r =
    let from : nat_cmp x.from y.from ≡ Equal = ap (λ k. nat_cmp k y.from) (q.0 ∙ sym r.0)
    ∙ same_number y.from in
    let to : nat_cmp x.to y.to ≡ Less = less_number x.to y.to (omega arith) in
    ap (λ o. ordering_then o
    (ordering_then (nat_cmp x.to y.to)
    (nat_cmp (promotion_number x.promo) (promotion_number y.promo)))) from
    ∙ ap (λ o. ordering_then o (nat_cmp (promotion_number x.promo) (promotion_number y.promo))) to

from_below : (i j : ℕ) (x y : Step) → i < j → x.from ≡ i → y.from ≡ j → step_cmp x y ≡ Less
from_below i j x y h q r =
    ap (λ o. ordering_then o
    (ordering_then (nat_cmp x.to y.to)
    (nat_cmp (promotion_number x.promo) (promotion_number y.promo))))
    (less_number x.from y.from (omega arith))

pub every_sorted : IsStrictlySortedBy step_cmp every_step
unfolding every_step squares
every_sorted =
    sorted_flat step_cmp (λ a. flat_map (λ b. steps_between a b) squares) (λ a m. m.from ≡ a)
    (λ a. sorted_flat step_cmp (λ b. steps_between a b) (λ b m. (m.from ≡ a) × (m.to ≡ b))
    (λ b. between_sorted a b) (λ b. from_and_to a b) (to_below a) 0 64)
    (λ a. All_flat (λ m. m.from ≡ a) (λ b. steps_between a b)
    (λ b. All_weaker (λ m. (m.from ≡ a) × (m.to ≡ b)) (λ m. m.from ≡ a) (λ m q. q.0)
    (steps_between a b) (from_and_to a b)) squares)
    from_below 0 64

pub sorted : (p : Board) → IsStrictlySortedBy step_cmp (legal_moves_of p)
sorted p = IsStrictlySortedBy-filter step_cmp (is_legal p) every_step every_sorted

-- membership by recursion
abbrev IsIn : {X : Type 0} → List X → X → Type 0
IsIn [] x = ⊥
IsIn (y ∷ xs) x = (y ≡ x) ⊎ IsIn xs x

in_left : {X : Type 0} (xs ys : List X) (x : X) → IsIn xs x → IsIn (xs ++ ys) x
in_left [] ys x h = absurd h
in_left (y ∷ xs) ys x (inl h) = inl h
in_left (y ∷ xs) ys x (inr h) = inr (in_left xs ys x h)

in_right : {X : Type 0} (xs ys : List X) (x : X) → IsIn ys x → IsIn (xs ++ ys) x
in_right [] ys x h = h
in_right (y ∷ xs) ys x h = inr (in_right xs ys x h)

in_flat : {X : Type 0} (f : ℕ → List X) (a : ℕ) (x : X) → IsIn (f a) x → (bs : List ℕ) → IsIn bs a →
    IsIn (flat_map f bs) x
in_flat f a x h [] w = absurd w
in_flat f a x h (b ∷ bs) (inl w) =
    in_left (f b) (flat_map f bs) x (subst (λ k. IsIn (f k) x) (sym w) h)
in_flat f a x h (b ∷ bs) (inr w) = in_right (f b) (flat_map f bs) x (in_flat f a x h bs w)

kept_by : {X : Type 0} (b : Bool) (xs : List X) (y x : X) → b ≡ true → y ≡ x →
    IsIn (cond b (y ∷ xs) xs) x
kept_by true xs y x h e = inl e
kept_by false xs y x h e = cc

kept_in : {X : Type 0} (b : Bool) (xs : List X) (y x : X) → IsIn xs x → IsIn (cond b (y ∷ xs) xs) x
kept_in true xs y x h = inr h
kept_in false xs y x h = h

in_filter : {X : Type 0} (t : X → Bool) (x : X) → t x ≡ true → (xs : List X) → IsIn xs x →
    IsIn (filter t xs) x
in_filter t x e [] h = absurd h
in_filter t x e (y ∷ xs) (inl h) = kept_by (t y) (filter t xs) y x (ap t h ∙ e) h
in_filter t x e (y ∷ xs) (inr h) = kept_in (t y) (filter t xs) y x (in_filter t x e xs h)

contained : {X : Type 0} (xs : List X) (x : X) → IsIn xs x → Contains xs x
contained [] x h = absurd h
contained (y ∷ xs) x (inl h) = (0, omega arith, h)
contained (y ∷ xs) x (inr h) = Contains-append_right (y ∷ []) xs x (contained xs x h)

in_range : (k a n : ℕ) → a ≤ k → k < a + n → IsIn (range_with_len a n) k
in_range k a zero h l = absurd (omega arith)
in_range k a (suc n) h l =
    elim (eqb_tells a k) [
      | inl w ↦ inl w.1
      | inr w ↦ inr (in_range k (a + 1) n (let ne = w.1 in omega arith) (omega arith))
    ]

in_squares : (k : ℕ) → k < 64 → IsIn squares k
unfolding squares
in_squares k h = in_range k 0 64 (omega arith) (omega arith)

in_between : (a b : ℕ) (k : Option Kind) → is_promotion k ≡ true →
    IsIn (steps_between a b) (record { from = a; to = b; promo = k })
in_between a b None h = inl refl
in_between a b (Some King) h = cc
in_between a b (Some Queen) h = inr (inl refl)
in_between a b (Some Rook) h = inr (inr (inl refl))
in_between a b (Some Bishop) h = inr (inr (inr (inl refl)))
in_between a b (Some Knight) h = inr (inr (inr (inr (inl refl))))
in_between a b (Some Pawn) h = cc

pub listed : (p : Board) (m : Step) → IsStep m → is_legal p m ≡ true → Contains (legal_moves_of p) m
unfolding every_step
listed p m s h =
    contained (legal_moves_of p) m (in_filter (is_legal p) m h every_step
    (in_flat (λ a. flat_map (λ b. steps_between a b) squares) m.from m
    (in_flat (λ b. steps_between m.from b) m.to m (in_between m.from m.to m.promo s.promo) squares
    (in_squares m.to s.to)) squares (in_squares m.from s.from)))

filter_head : {X : Type 0} (t : X → Bool) (P : X → Type 0) (x : X) (ys : List X) → P x →
    AllByRecursion (λ y. P y × (t y ≡ true)) ys → (b : Bool) → t x ≡ b →
    AllByRecursion (λ y. P y × (t y ≡ true)) (cond b (x ∷ ys) ys)
filter_head t P x ys h a true e = ((h, e), a)
filter_head t P x ys h a false e = a

small_range : (a n : ℕ) → a + n ≤ 64 → AllByRecursion (λ k. k < 64) (range_with_len a n)
small_range a zero h = tt
small_range a (suc n) h = (omega arith, small_range (a + 1) n (omega arith))

All_filter : {X : Type 0} (t : X → Bool) (P : X → Type 0) (xs : List X) → AllByRecursion P xs →
    AllByRecursion (λ x. P x × (t x ≡ true)) (filter t xs)
All_filter t P [] a = tt
All_filter t P (x ∷ xs) a = filter_head t P x (filter t xs) a.0 (All_filter t P xs a.1) (t x) refl

squares_small : AllByRecursion (λ k. k < 64) squares
unfolding squares
squares_small = small_range 0 64 (omega arith)

All_flat_in : {X : Type 0} (P : X → Type 0) (Q : ℕ → Type 0) (f : ℕ → List X) →
    ((a : ℕ) → Q a → AllByRecursion P (f a)) → (xs : List ℕ) → AllByRecursion Q xs →
    AllByRecursion P (flat_map f xs)
All_flat_in P Q f h [] q = tt
All_flat_in P Q f h (x ∷ xs) q =
    All_append P (f x) (flat_map f xs) (h x q.0) (All_flat_in P Q f h xs q.1)

every_step_is : AllByRecursion IsStep every_step
unfolding every_step
every_step_is =
    All_flat_in IsStep (λ k. k < 64) (λ a. flat_map (λ b. steps_between a b) squares)
    (λ a la. All_flat_in IsStep (λ k. k < 64) (λ b. steps_between a b)
    (λ b lb. let step = λ (k : Option Kind) (w : is_promotion k ≡ true).
    (let r : IsStep (record { from = a; to = b; promo = k }) =
    record { from = la; to = lb; promo = w } in r) in (
      step None refl,
      (
        step (Some Queen) refl,
        (step (Some Rook) refl, (step (Some Bishop) refl, (step (Some Knight) refl, tt))),
      ),
    ))
    squares squares_small)
    squares squares_small

pub only_legal : (p : Board) (m : Step) → Contains (legal_moves_of p) m →
    IsStep m × (is_legal p m ≡ true)
only_legal p m h =
    All-contains (λ x. IsStep x × (is_legal p x ≡ true)) (legal_moves_of p) m
    (All-from_recursion (λ x. IsStep x × (is_legal p x ≡ true)) (legal_moves_of p)
    (All_filter (is_legal p) IsStep every_step every_step_is)) h

-- a move of the list is legal
pub legal_at : (p : Board) (moves : List Step) (i : ℕ) (m : Step) → moves ≡ legal_moves_of p →
    i < length moves → m ≡ get_or moves i m → is_legal p m ≡ true
legal_at p moves i m all here is =
    (only_legal p m (subst (λ (xs : List Step). Contains xs m) all (i, here, sym is))).1
