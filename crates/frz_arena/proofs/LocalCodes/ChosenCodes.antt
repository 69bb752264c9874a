-- What the chosen code says of the codes that it was chosen from.
use Rattle.std.proofs.Common.{◌≡◌, ◌≤◌, ◌+◌, ◌*◌, ◌-◌, ◌/◌, ℕ, ◌⊎◌, inl, inr, Bool, true, false, List, [], ◌∷◌, refl, sym, subst, arith, min, max, ap, ◌∙◌}
use Rattle.std.specs.List.{Contains, list_any, list_all, filter}
use Rattle.std.proofs.lemmas.Bool.{cases_lt, and_parts, cases_Bool}
use Rattle.std.proofs.lemmas.Bool.Decides.{nat_tests}
use Rattle.std.proofs.lemmas.List.Folds.{list_any_at}
use Rattle.frz_arena.specs.Codes.{is_win, is_failure}
use Rattle.frz_arena.specs.LocalCodes.{least, greatest, chosen_code}
use Rattle.frz_arena.proofs.Lists.Members.{none_in_empty, first_in, later_in, in_cases}

pub cases_le : (a b : ℕ) → (min a b ≡ a) ⊎ (min a b ≡ b)
cases_le a b = elim (cases_lt a b) [ inl h ↦ inl (omega arith) | inr h ↦ inr (omega arith) ]

cases_max : (a b : ℕ) → (max a b ≡ a) ⊎ (max a b ≡ b)
cases_max a b = elim (cases_lt a b) [ inl h ↦ inr (omega arith) | inr h ↦ inl (omega arith) ]

pub win_and_failure : (c : ℕ) → is_win c ≡ true → is_failure c ≡ true → ⊥
win_and_failure c w f = grind (arith, nat_tests)

pub win_plies : (c : ℕ) → is_win c ≡ true → (n : ℕ) × (c ≡ 2 + 2 * n)
win_plies c w = ((c - 2) / 2, grind (arith, nat_tests))

pub win_more : (c : ℕ) → is_win c ≡ true → is_win (c + 2) ≡ true
win_more c w = grind (arith, nat_tests)

pub failure_more : (c : ℕ) → is_failure c ≡ true → is_failure (c + 2) ≡ true
failure_more c w = grind (arith, nat_tests)

pub win_of : (n : ℕ) → is_win (2 + 2 * n) ≡ true
win_of n = grind (arith, nat_tests)

pub win_above : (c : ℕ) → is_win c ≡ true → 2 ≤ c
win_above c w = grind (arith, nat_tests)

pub failure_above : (c : ℕ) → is_failure c ≡ true → 3 ≤ c
failure_above c w = grind (arith, nat_tests)

pub kept_in : {X : Type 0} (test : X → Bool) (xs : List X) (x : X) → Contains xs x → test x ≡ true →
    Contains (filter test xs) x
kept_in test [] x h t = absurd (none_in_empty x h)
kept_in test (y ∷ xs) x h t =
    elim (cases_Bool (test y)) [
      | inl kept ↦ (rw kept
          (elim (in_cases y xs x h) [
            | inl e ↦ subst (λ z. Contains (y ∷ filter test xs) z) e (first_in y (filter test xs))
            | inr i ↦ later_in y (filter test xs) x (kept_in test xs x i t)
          ]))
      | inr gone ↦ (rw gone
          (elim (in_cases y xs x h) [ inl e ↦ absurd (cc) | inr i ↦ kept_in test xs x i t ]))
    ]

pub from_kept : {X : Type 0} (test : X → Bool) (xs : List X) (x : X) → Contains (filter test xs) x →
    Contains xs x × (test x ≡ true)
from_kept test [] x h = absurd (none_in_empty x h)
from_kept test (y ∷ xs) x h =
    elim (cases_Bool (test y)) [
      | inl kept ↦ (let k = rw kept at h in
          elim (in_cases y (filter test xs) x k) [
            | inl e ↦ (
              subst (λ z. Contains (y ∷ xs) z) e (first_in y xs),
              subst (λ z. test z ≡ true) e kept,
            )
            | inr i ↦ (let r : Contains xs x × (test x ≡ true) = from_kept test xs x i in
                (later_in y xs x r.0, r.1))
          ])
      | inr gone ↦ (let k = rw gone at h in let r : Contains xs x
          × (test x ≡ true) = from_kept test xs x k in (later_in y xs x r.0, r.1))
    ]

-- the least of some codes is one of them, and none is less
pub least_in : (c : ℕ) (cs : List ℕ) → Contains (c ∷ cs) (least (c ∷ cs))
least_in c [] = first_in c []
least_in c (d ∷ cs) =
    elim (cases_le c (least (d ∷ cs))) [
      | inl e ↦ subst (λ z. Contains (c ∷ d ∷ cs) z) (sym e) (first_in c (d ∷ cs))
      | inr e ↦
          subst (λ z. Contains (c ∷ d ∷ cs) z) (sym e)
          (later_in c (d ∷ cs) (least (d ∷ cs)) (least_in d cs))
    ]

pub least_below : (cs : List ℕ) (x : ℕ) → Contains cs x → least cs ≤ x
least_below [] x h = absurd (none_in_empty x h)
least_below (c ∷ []) x h =
    elim (in_cases c [] x h) [ inl e ↦ omega arith | inr i ↦ absurd (none_in_empty x i) ]
least_below (c ∷ d ∷ cs) x h =
    elim (in_cases c (d ∷ cs) x h)
    [ inl e ↦ omega arith | inr i ↦ (let k = least_below (d ∷ cs) x i in omega arith) ]

pub greatest_above : (cs : List ℕ) (x : ℕ) → Contains cs x → x ≤ greatest cs
greatest_above [] x h = absurd (none_in_empty x h)
greatest_above (c ∷ cs) x h =
    elim (in_cases c cs x h)
    [ inl e ↦ omega arith | inr i ↦ (let k = greatest_above cs x i in omega arith) ]

-- what bounds each code bounds the greatest, which is one of them
pub greatest_below : (cs : List ℕ) (m : ℕ) → ((x : ℕ) → Contains cs x → x ≤ m) → greatest cs ≤ m
greatest_below [] m h = omega arith
greatest_below (c ∷ cs) m h =
    let a : c ≤ m = h c (first_in c cs) in
    let b : greatest cs ≤ m = greatest_below cs m (λ x i. h x (later_in c cs x i)) in
    omega arith

pub greatest_in : (c : ℕ) (cs : List ℕ) → Contains (c ∷ cs) (greatest (c ∷ cs))
greatest_in c [] =
    let e : max c 0 ≡ c = omega arith in subst (λ z. Contains (c ∷ []) z) (sym e) (first_in c [])
greatest_in c (d ∷ cs) =
    elim (cases_max c (greatest (d ∷ cs))) [
      | inl e ↦ subst (λ z. Contains (c ∷ d ∷ cs) z) (sym e) (first_in c (d ∷ cs))
      | inr e ↦
          subst (λ z. Contains (c ∷ d ∷ cs) z) (sym e)
          (later_in c (d ∷ cs) (greatest (d ∷ cs)) (greatest_in d cs))
    ]

pub any_from : {X : Type 0} (test : X → Bool) (xs : List X) (x : X) → Contains xs x →
    test x ≡ true → list_any test xs ≡ true
any_from test xs x (i, l, e) t = list_any_at test xs i x l (ap test e ∙ t)

pub none_from : {X : Type 0} (test : X → Bool) (xs : List X) → list_any test xs ≡ false → (x : X) →
    Contains xs x → test x ≡ false
none_from test xs f x h =
    elim (cases_Bool (test x))
    [ inl t ↦ (let k = any_from test xs x h t in absurd (cc)) | inr g ↦ g ]

pub all_from : {X : Type 0} (test : X → Bool) (xs : List X) →
    ((x : X) → Contains xs x → test x ≡ true) → list_all test xs ≡ true
all_from test [] h = refl
all_from test (y ∷ xs) h =
    let k : list_all test xs ≡ true = all_from test xs (λ x i. h x (later_in y xs x i)) in
    rw (h y (first_in y xs)) k

pub each_of : {X : Type 0} (test : X → Bool) (xs : List X) → list_all test xs ≡ true → (x : X) →
    Contains xs x → test x ≡ true
each_of test [] a x h = absurd (none_in_empty x h)
each_of test (y ∷ xs) a x h =
    let k = and_parts (test y) (list_all test xs) a in
    elim (in_cases y xs x h) [ inl e ↦ cc | inr i ↦ each_of test xs k.1 x i ]

-- two kinds of code
pub record Kinds (sought shunned : ℕ → Bool) : Type 0 where
  pub apart : (c : ℕ) → sought c ≡ true → shunned c ≡ true → ⊥
  pub sought_more : (c : ℕ) → sought c ≡ true → sought (c + 2) ≡ true
  pub shunned_more : (c : ℕ) → shunned c ≡ true → shunned (c + 2) ≡ true
  pub one_sought : sought 1 ≡ true → ⊥
  pub one_shunned : shunned 1 ≡ true → ⊥

pub wins_first : Kinds is_win is_failure
wins_first = record {
  apart = win_and_failure;
  sought_more = win_more;
  shunned_more = failure_more;
  one_sought = λ h. cc;
  one_shunned = λ h. cc;
}

pub failures_first : Kinds is_failure is_win
failures_first = record {
  apart = λ c f w. win_and_failure c w f;
  sought_more = failure_more;
  shunned_more = win_more;
  one_sought = λ h. cc;
  one_shunned = λ h. cc;
}

least_kept : (cs : List ℕ) (x : ℕ) → Contains cs x → Contains cs (least cs)
least_kept [] x h = absurd (none_in_empty x h)
least_kept (c ∷ cs) x h = least_in c cs

pub some_from : {X : Type 0} (test : X → Bool) (xs : List X) → list_any test xs ≡ true →
    (x : X) × Contains xs x × (test x ≡ true)
some_from test [] h = absurd (cc)
some_from test (y ∷ xs) h =
    elim (cases_Bool (test y)) [
      | inl t ↦ (y, first_in y xs, t)
      | inr g ↦ (let k = rw g at h in let r = some_from test xs k in
          (r.0, later_in y xs r.0 r.1, r.2))
    ]

-- the least sought one is among the codes
pub least_sought : (sought : ℕ → Bool) (cs : List ℕ) → list_any sought cs ≡ true →
    Contains cs (least (filter sought cs)) × (sought (least (filter sought cs)) ≡ true)
least_sought sought cs h =
    let r = some_from sought cs h in
    from_kept sought cs (least (filter sought cs))
    (least_kept (filter sought cs) r.0 (kept_in sought cs r.0 r.1 r.2))

-- a chosen code that is sought comes from a sought one
pub chosen_sought : {sought shunned : ℕ → Bool} → Kinds sought shunned → (c : ℕ) (cs : List ℕ) →
    sought (chosen_code sought shunned (c ∷ cs)) ≡ true →
    (w : ℕ) × Contains (c ∷ cs) w × (sought w ≡ true)
    × (chosen_code sought shunned (c ∷ cs) ≡ w + 2)
chosen_sought {sought} {shunned} k c cs h =
    elim (cases_Bool (list_any sought (c ∷ cs))) [
      | inl t ↦ (let l = least_sought sought (c ∷ cs) t in
          (least (filter sought (c ∷ cs)), l.0, l.1, rw t refl))
      | inr f ↦ elim (cases_Bool (list_all shunned (c ∷ cs))) [
        | inl a ↦ absurd (
            let g = k.shunned_more (greatest (c ∷ cs))
            (each_of shunned (c ∷ cs) a (greatest (c ∷ cs)) (greatest_in c cs)) in
            let e : chosen_code sought shunned (c ∷ cs) ≡ greatest (c ∷ cs) + 2 = rw (f, a) refl in
            k.apart (greatest (c ∷ cs) + 2) (subst (λ z. sought z ≡ true) e h) g)
        | inr b ↦ absurd (
            let e : chosen_code sought shunned (c ∷ cs) ≡ 1 = rw (f, b) refl in
            k.one_sought (subst (λ z. sought z ≡ true) e h))
      ]
    ]

-- a sought code bounds the chosen one
pub chosen_least : {sought shunned : ℕ → Bool} → Kinds sought shunned → (cs : List ℕ) (w : ℕ) →
    Contains cs w → sought w ≡ true →
    (sought (chosen_code sought shunned cs) ≡ true) × (chosen_code sought shunned cs ≤ w + 2)
chosen_least {sought} {shunned} k cs w h t =
    let a : list_any sought cs ≡ true = any_from sought cs w h t in
    let l = least_sought sought cs a in
    let e : chosen_code sought shunned cs ≡ least (filter sought cs) + 2 = rw a refl in
    let b = least_below (filter sought cs) w (kept_in sought cs w h t) in (
      subst (λ z. sought z ≡ true) (sym e) (k.sought_more (least (filter sought cs)) l.1),
      omega arith,
    )

-- a chosen code that is shunned bounds each code, and each is shunned
pub chosen_shunned : {sought shunned : ℕ → Bool} → Kinds sought shunned → (cs : List ℕ) →
    shunned (chosen_code sought shunned cs) ≡ true → (x : ℕ) → Contains cs x →
    (shunned x ≡ true) × (x + 2 ≤ chosen_code sought shunned cs)
chosen_shunned {sought} {shunned} k cs h x i =
    elim (cases_Bool (list_any sought cs)) [
      | inl t ↦ absurd (
          let l = least_sought sought cs t in
          let e : chosen_code sought shunned cs ≡ least (filter sought cs) + 2 = rw t refl in
          k.apart (least (filter sought cs) + 2) (k.sought_more (least (filter sought cs)) l.1)
          (subst (λ z. shunned z ≡ true) e h))
      | inr f ↦ elim (cases_Bool (list_all shunned cs)) [
        | inl a ↦ (
            let e : chosen_code sought shunned cs ≡ greatest cs + 2 = rw (f, a) refl in
            let g = greatest_above cs x i in
            (each_of shunned cs a x i, omega arith))
        | inr b ↦ absurd (
            let e : chosen_code sought shunned cs ≡ 1 = rw (f, b) refl in
            k.one_shunned (subst (λ z. shunned z ≡ true) e h))
      ]
    ]

-- where each code is shunned and at most m, so is the chosen one, but for its step
pub chosen_all : {sought shunned : ℕ → Bool} → Kinds sought shunned →
    (c : ℕ) (cs : List ℕ) (m : ℕ) → ((x : ℕ) → Contains (c ∷ cs) x → (shunned x ≡ true) × (x ≤ m)) →
    (shunned (chosen_code sought shunned (c ∷ cs)) ≡ true)
    × (chosen_code sought shunned (c ∷ cs) ≤ m + 2)
chosen_all {sought} {shunned} k c cs m h =
    let a : list_all shunned (c ∷ cs) ≡ true = all_from shunned (c ∷ cs) (λ x i. (h x i).0) in
    let g = greatest_below (c ∷ cs) m (λ x i. (h x i).1) in
    elim (cases_Bool (list_any sought (c ∷ cs))) [
      | inl t ↦ absurd (let r = some_from sought (c ∷ cs) t in k.apart r.0 r.2 (h r.0 r.1).0)
      | inr f ↦ (
          let e : chosen_code sought shunned (c ∷ cs) ≡ greatest (c ∷ cs) + 2 = rw (f, a) refl in (
            subst (λ z. shunned z ≡ true) (sym e)
                (k.shunned_more (greatest (c ∷ cs)) (h (greatest (c ∷ cs)) (greatest_in c cs)).0),
            omega arith,
          ))
    ]

-- a chosen code that is shunned is that of the greatest
pub chosen_greatest : {sought shunned : ℕ → Bool} → Kinds sought shunned → (c : ℕ) (cs : List ℕ) →
    shunned (chosen_code sought shunned (c ∷ cs)) ≡ true →
    (w : ℕ) × Contains (c ∷ cs) w × (chosen_code sought shunned (c ∷ cs) ≡ w + 2)
chosen_greatest {sought} {shunned} k c cs h =
    elim (cases_Bool (list_any sought (c ∷ cs))) [
      | inl t ↦ absurd (
          let l = least_sought sought (c ∷ cs) t in
          let e : chosen_code sought shunned (c ∷ cs) ≡ least (filter sought (c ∷ cs)) + 2 =
          rw t refl in
          k.apart (least (filter sought (c ∷ cs)) + 2)
          (k.sought_more (least (filter sought (c ∷ cs))) l.1) (subst (λ z. shunned z ≡ true) e h))
      | inr f ↦ elim (cases_Bool (list_all shunned (c ∷ cs))) [
        | inl a ↦ (greatest (c ∷ cs), greatest_in c cs, rw (f, a) refl)
        | inr b ↦ absurd (
            let e : chosen_code sought shunned (c ∷ cs) ≡ 1 = rw (f, b) refl in
            k.one_shunned (subst (λ z. shunned z ≡ true) e h))
      ]
    ]

-- the least sought code is the chosen one, but for its step
pub chosen_is_least : {sought shunned : ℕ → Bool} → Kinds sought shunned → (cs : List ℕ) (w : ℕ) →
    Contains cs w → sought w ≡ true → ((x : ℕ) → Contains cs x → sought x ≡ true → w ≤ x) →
    chosen_code sought shunned cs ≡ w + 2
chosen_is_least {sought} {shunned} k cs w h t least_one =
    let a : list_any sought cs ≡ true = any_from sought cs w h t in
    let l = least_sought sought cs a in
    let e : chosen_code sought shunned cs ≡ least (filter sought cs) + 2 = rw a refl in
    let above = least_one (least (filter sought cs)) l.0 l.1 in
    let below = least_below (filter sought cs) w (kept_in sought cs w h t) in
    omega arith

-- where each code is shunned, so is the greatest
pub chosen_is_greatest : {sought shunned : ℕ → Bool} → Kinds sought shunned →
    (cs : List ℕ) (w : ℕ) → Contains cs w →
    ((x : ℕ) → Contains cs x → (shunned x ≡ true) × (x ≤ w)) → chosen_code sought shunned cs ≡ w + 2
chosen_is_greatest {sought} {shunned} k cs w i h =
    let a : list_all shunned cs ≡ true = all_from shunned cs (λ x j. (h x j).0) in
    let below = greatest_below cs w (λ x j. (h x j).1) in
    let above = greatest_above cs w i in
    elim (cases_Bool (list_any sought cs)) [
      | inl t ↦ absurd (let r = some_from sought cs t in k.apart r.0 r.2 (h r.0 r.1).0)
      | inr f ↦ (let e : chosen_code sought shunned cs ≡ greatest cs + 2 = rw (f, a) refl in
          omega arith)
    ]

-- where no code is sought and some is not shunned, the chosen code is 1, a hold
pub chosen_is_hold : (sought shunned : ℕ → Bool) (cs : List ℕ) (w : ℕ) → Contains cs w →
    shunned w ≡ false → ((x : ℕ) → Contains cs x → sought x ≡ false) →
    chosen_code sought shunned cs ≡ 1
chosen_is_hold sought shunned cs w i s none =
    elim (cases_Bool (list_any sought cs)) [
      | inl t ↦ absurd (let r = some_from sought cs t in let f = none r.0 r.1 in let y = r.2 in cc)
      | inr f ↦ elim (cases_Bool (list_all shunned cs)) [
        | inl a ↦ absurd (let t = each_of shunned cs a w i in cc)
        | inr b ↦ rw (f, b) refl
      ]
    ]
