-- The plies of every bound are at most the size, and the greatest lag.
use Rattle.std.proofs.Common.{◌≡◌, ◌≢◌, ◌≤◌, ◌<◌, ◌+◌, ◌*◌, ℕ, zero, suc, inl, inr, Bool, true, false, List, [], ◌∷◌, length, refl, sym, subst, ap, ◌∙◌, arith}
use Rattle.std.specs.Prelude.{eqb}
use Rattle.std.specs.List.{Contains, list_any, list_all, filter, IsDistinct, AllByRecursion}
use Rattle.std.proofs.lemmas.Bool.{cases_lt, cases_Bool}
use Rattle.std.proofs.lemmas.Bool.Decides.{nat_tests}
use Rattle.std.proofs.lemmas.Map.Keys.{IsDistinct-cons}
use Rattle.std.proofs.lemmas.Map.Steps.{length-le_from_distinct_below}
use Rattle.frz_board.specs.declared.man.Colour.{Colour}
use Rattle.frz_arena.specs.declared.class.Class.{Class}
use Rattle.frz_arena.specs.declared.class.Class.TheVariants.{Good, Safe, Bad}
use Rattle.frz_board.specs.Men.{other_of}
use Rattle.frz_arena.specs.declared.arm.Arm.{Arm}
use Rattle.frz_arena.specs.declared.arm.Next.{Next}
use Rattle.frz_arena.specs.declared.arm.Next.TheVariants.{Inside, Outside}
use Rattle.frz_arena.specs.Arena.{Arena, IsArm, IsLawful}
use Rattle.frz_arena.specs.Plies.{LagsWithin}
use Rattle.frz_arena.specs.Codes.{is_win, is_failure, exit_code}
use Rattle.frz_arena.specs.LocalCodes.{free_codes, all_codes, least, greatest, chosen_code, own_code, other_code, next_code, local_code, MeetsEquations}
use Rattle.frz_arena.specs.Names.{IsNumbered}
use Rattle.frz_arena.proofs.Lists.Members.{none_in_empty, first_in, later_in, in_cases}
use Rattle.frz_arena.proofs.LocalCodes.ChosenCodes.{least_sought, greatest_in, some_from}
use Rattle.frz_arena.proofs.LocalCodes.PlyCodes.{broken, mated, mates, stale, moves, waits, node_is, at_broken, at_mated, at_mates, at_stale, at_own, at_other, free_of_code, arm_of_code, some_arm, code_among_all}

-- a chosen code above 1 is 2 more than one of the codes
chosen_step : (sought shunned : ℕ → Bool) (c : ℕ) (cs : List ℕ) →
    1 < chosen_code sought shunned (c ∷ cs) →
    (w : ℕ) × Contains (c ∷ cs) w × (chosen_code sought shunned (c ∷ cs) ≡ w + 2)
chosen_step sought shunned c cs h =
    elim (cases_Bool (list_any sought (c ∷ cs))) [
      | inl t ↦ (least (filter sought (c ∷ cs)), (least_sought sought (c ∷ cs) t).0, rw t refl)
      | inr f ↦ elim (cases_Bool (list_all shunned (c ∷ cs))) [
        | inl a ↦ (greatest (c ∷ cs), greatest_in c cs, rw (f, a) refl)
        | inr b ↦ absurd (let e : chosen_code sought shunned (c ∷ cs) ≡ 1 = rw (f, b) refl in
            omega arith)
      ]
    ]

own_step : (cs : List ℕ) → 3 < own_code cs → (w : ℕ) × Contains cs w × (own_code cs ≡ w + 2)
own_step [] h = absurd (omega arith)
own_step (c ∷ cs) h = chosen_step is_win is_failure c cs (omega arith)

other_step : (cs : List ℕ) (x : ℕ) → Contains cs x → 3 < other_code cs →
    (w : ℕ) × Contains cs w × (other_code cs ≡ w + 2)
other_step [] x i h = absurd (none_in_empty x i)
other_step (c ∷ cs) x i h = chosen_step is_failure is_win c cs (omega arith)

-- a local code above 3 is 2 more than the code of an arm
pub local_step : {M N V : Type 0} (arena : Arena M N V) → IsLawful arena →
    (side : Colour) (entry : N → ℕ) (p : N) → 3 < local_code arena side entry p →
    (a : Arm M N V) × IsArm arena p a
    × (local_code arena side entry p ≡ next_code arena side entry a.next + 2)
local_step {M} {N} {V} arena law side entry p h =
    elim (node_is side (arena.node p)) [
      | broken e ↦ absurd (let k = at_broken arena side entry p e in omega arith)
      | mated e ↦ absurd (let k = at_mated arena side entry p e in omega arith)
      | mates e ↦ absurd (let k = at_mates arena side entry p e in omega arith)
      | stale mover e ↦ absurd (let k = at_stale arena side entry p mover e in omega arith)
      | moves e ↦ (
          let k = at_own arena side entry p e in
          let s = own_step (free_codes arena side entry p) (omega arith) in
          let a = free_of_code arena side entry p s.0 s.1 in
          (a.0, a.1, k ∙ (s.2 ∙ ap (λ z. z + 2) (sym a.3))))
      | waits e ↦ (
          let k = at_other arena side entry p e in
          let b = some_arm arena law p (other_of side) e in
          let s = other_step (all_codes arena side entry p) (next_code arena side entry b.0.next)
          (code_among_all arena side entry p b.0 b.1) (omega arith) in
          let a = arm_of_code arena side entry p s.0 s.1 in
          (a.0, a.1, k ∙ (s.2 ∙ ap (λ z. z + 2) (sym a.2))))
    ]

exit_below : (most lag : ℕ) (c : Class) → (c ≡ Good → lag ≤ most) → exit_code c lag ≤ 3 + 2 * most
exit_below most lag Good h = let k = h refl in omega arith
exit_below most lag Safe h = omega arith
exit_below most lag Bad h = omega arith

-- where an arm's code is greater than that of an exit, it leads to a position
inside_step : {M N V : Type 0} (arena : Arena M N V) (side : Colour) (entry : N → ℕ) (most : ℕ)
    (x : Next N V) → ((v : V) → x ≡ Outside v → arena.class v side ≡ Good → arena.lag v ≤ most)
    → 3 + 2 * most < next_code arena side entry x → (q : N)
    × (entry q ≡ next_code arena side entry x)
inside_step arena side entry most (Inside q) lags h = (q, refl)
inside_step arena side entry most (Outside v) lags h =
    absurd (let k = exit_below most (arena.lag v) (arena.class v side) (lags v refl) in omega arith)

differ_by_test : (p x : ℕ) → p ≢ x → eqb p x ≡ false
differ_by_test p x h = grind (arith, nat_tests)

equal_by_test : (q x : ℕ) → eqb q x ≡ true → q ≡ x
equal_by_test q x t = grind (arith, nat_tests)

pub among : (xs : List ℕ) (q : ℕ) → list_any (eqb q) xs ≡ true → Contains xs q
among xs q t =
    let r = some_from (eqb q) xs t in let e : q ≡ r.0 = equal_by_test q r.0 r.2 in
    subst (λ z. Contains xs z) (sym e) r.1

pub apart : (p : ℕ) (xs : List ℕ) → ((x : ℕ) → Contains xs x → p ≢ x) →
    AllByRecursion (λ y. eqb p y ≡ false) xs
apart p [] h = tt
apart p (x ∷ xs) h =
    (differ_by_test p x (h x (first_in x xs)), apart p xs (λ y i. h y (later_in x xs y i)))

pub one_distinct : (p : ℕ) → IsDistinct eqb (p ∷ [])
unfolding IsDistinct
one_distinct p = (tt, tt)

-- positions with codes in steps of 2
pub record Chain {M V : Type 0} (arena : Arena M ℕ V) (size : ℕ) (entry : ℕ → ℕ)
    (p k : ℕ) : Type 0 where
  pub nodes : List ℕ
  pub many : length nodes ≡ suc k
  pub distinct : IsDistinct eqb nodes
  pub below : (x : ℕ) → Contains nodes x → (x < size) × (entry x ≤ entry p)

in_size : {M V : Type 0} (arena : Arena M ℕ V) (size : ℕ) → IsNumbered arena size →
    (side : Colour) (entry : ℕ → ℕ) → MeetsEquations arena side entry → (p : ℕ) → 0 < entry p →
    p < size
in_size arena size numbered side entry eqs p h =
    elim (cases_lt p size) [
      | inl l ↦ l
      | inr l ↦ absurd (let e = eqs p ∙ at_broken arena side entry p (numbered.past p l) in
          omega arith)
    ]

pub chain : {M V : Type 0} (arena : Arena M ℕ V) → IsLawful arena → (size : ℕ) →
    IsNumbered arena size → (side : Colour) (most : ℕ) → LagsWithin arena side most →
    (entry : ℕ → ℕ) → MeetsEquations arena side entry → (k p : ℕ) → 4 + 2 * most + 2 * k ≤ entry p →
    Chain arena size entry p k
chain arena law size numbered side most lags entry eqs zero p h =
    record {
      nodes = p ∷ [];
      many = refl;
      distinct = one_distinct p;
      below = λ x i. elim (in_cases p [] x i) [
        | inl e ↦ (
          subst (λ z. z < size) e
              (in_size arena size numbered side entry eqs p (omega arith)),
          subst (λ z. entry z ≤ entry p) e (omega arith),
        )
        | inr j ↦ absurd (none_in_empty x j)
      ];
    }
chain {M} {V} arena law size numbered side most lags entry eqs (suc k) p h =
    let e = eqs p in
    let a = local_step arena law side entry p (omega arith) in
    let q = inside_step arena side entry most a.0.next (λ v. lags p a.0 v a.1) (omega arith) in
    let l : entry p ≡ entry q.0 + 2 = omega arith in
    let c = chain arena law size numbered side most lags entry eqs k q.0 (omega arith) in
    let new : (x : ℕ) → Contains c.nodes x
    → p ≢ x = λ x i f. (let b = (c.below x i).1 in let g : entry p ≡ entry x = ap entry f in
    omega arith) in
    record {
      nodes = p ∷ c.nodes;
      many = ap suc {x = length c.nodes} {y = suc k} c.many;
      distinct = IsDistinct-cons eqb p c.nodes (apart p c.nodes new) c.distinct;
      below = λ x i. elim (in_cases p c.nodes x i) [
        | inl f ↦ (
          subst (λ z. z < size) f (in_size arena size numbered side entry eqs p (omega arith)),
          subst (λ z. entry z ≤ entry p) f (omega arith),
        )
        | inr j ↦ (let b = c.below x j in (b.0, omega (arith, b.1)))
      ];
    }

pub entries_small : {M V : Type 0} (arena : Arena M ℕ V) → IsLawful arena → (size : ℕ) →
    IsNumbered arena size → (side : Colour) (most : ℕ) → LagsWithin arena side most →
    (entry : ℕ → ℕ) → MeetsEquations arena side entry → (p : ℕ) → entry p ≤ 3 + 2 * (size + most)
entries_small arena law size numbered side most lags entry eqs p =
    elim (cases_lt (3 + 2 * (size + most)) (entry p)) [
      | inl h ↦ absurd (
          let c = chain arena law size numbered side most lags entry eqs size p (omega arith) in
          let l = length-le_from_distinct_below c.nodes size c.distinct
          (λ q t. (c.below q (among c.nodes q t)).0) in
          let m = c.many in
          omega arith)
      | inr h ↦ h
    ]
