-- Elements of lists, and tests of them.
use Rattle.std.proofs.Common.{◌≡◌, ◌≤◌, ◌<◌, ◌+◌, ℕ, zero, suc, inl, inr, Bool, true, false, ◌||◌, List, [], ◌∷◌, map, refl, sym, subst, ap, ◌∙◌, arith}
use Rattle.std.specs.List.{Contains, AllByRecursion, list_any, list_all, range_with_len}
use Rattle.std.proofs.lemmas.Bool.{cases_Bool, cases_lt, and_parts}
use Rattle.frz_arena.proofs.Lemmas.{none_in_empty, first_in, later_in, in_cases}

pub or_first : (b c : Bool) → b ≡ true → (b || c) ≡ true
or_first true c e = refl
or_first false c e = absurd (cc)

pub or_second : (b c : Bool) → c ≡ true → (b || c) ≡ true
or_second true c e = refl
or_second false c e = e

pub mapped_there : {X Y : Type 0} (f : X → Y) (xs : List X) (x : X) → Contains xs x →
    Contains (map f xs) (f x)
mapped_there f [] x h = absurd (none_in_empty x h)
mapped_there f (y ∷ xs) x h =
    elim (in_cases y xs x h) [
      | inl e ↦ subst (λ z. Contains (map f (y ∷ xs)) (f z)) e (first_in (f y) (map f xs))
      | inr i ↦ later_in (f y) (map f xs) (f x) (mapped_there f xs x i)
    ]

pub number_in : (a n i : ℕ) → a ≤ i → i < a + n → Contains (range_with_len a n) i
number_in a zero i h l = absurd (omega arith)
number_in a (suc n) i h l =
    elim (cases_lt a i) [
      | inl less ↦ later_in a (range_with_len (a + 1) n) i
          (number_in (a + 1) n i (omega arith) (omega arith))
      | inr least ↦ (let e : a ≡ i = omega arith in
          subst (λ z. Contains (range_with_len a (suc n)) z) e
          (first_in a (range_with_len (a + 1) n)))
    ]

pub some_in : {X : Type 0} (f : X → Bool) (xs : List X) → list_any f xs ≡ true →
    (x : X) × Contains xs x × (f x ≡ true)
some_in f [] h = absurd (cc)
some_in f (x ∷ xs) h =
    elim (cases_Bool (f x)) [
      | inl e ↦ (x, first_in x xs, e)
      | inr e ↦ (let w = some_in f xs (ap (λ b. b || list_any f xs) (sym e) ∙ h) in
          (w.0, later_in x xs w.0 w.1, w.2))
    ]

pub any_in : {X : Type 0} (f : X → Bool) (xs : List X) (x : X) → Contains xs x → f x ≡ true →
    list_any f xs ≡ true
any_in f [] x h e = absurd (none_in_empty x h)
any_in f (y ∷ xs) x h e =
    elim (in_cases y xs x h) [
      | inl same ↦ or_first (f y) (list_any f xs) (ap f same ∙ e)
      | inr i ↦ or_second (f y) (list_any f xs) (any_in f xs x i e)
    ]

-- each element passes a test that all pass
pub all_pass : (t : ℕ → Bool) (xs : List ℕ) (s : ℕ) → Contains xs s → list_all t xs ≡ true
    → t s ≡ true
all_pass t [] s i h = absurd (none_in_empty s i)
all_pass t (y ∷ xs) s i h =
    let both = and_parts (t y) (list_all t xs) h in
    elim (in_cases y xs s i) [
      | inl same ↦ ap t (sym same) ∙ both.0
      | inr j ↦ all_pass t xs s j both.1
    ]

pub all_in : {X : Type 0} (P : X → Type 0) (xs : List X) → AllByRecursion P xs → (x : X) →
    Contains xs x → P x
all_in P [] h x i = absurd (none_in_empty x i)
all_in P (y ∷ xs) h x i =
    elim (in_cases y xs x i) [
      | inl same ↦ subst P same h.0
      | inr j ↦ all_in P xs h.1 x j
    ]

pub all_by : {X : Type 0} (P : X → Type 0) (xs : List X) → ((x : X) → Contains xs x → P x) →
    AllByRecursion P xs
all_by P [] h = tt
all_by P (x ∷ xs) h = (h x (first_in x xs), all_by P xs (λ y i. h y (later_in x xs y i)))
