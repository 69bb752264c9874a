-- Which arms a player finds where the code is the local one.
use Rattle.std.proofs.Common.{◌≡◌, ◌≤◌, ◌+◌, ℕ, inl, inr, Bool, true, false, List, [], ◌∷◌, refl, sym, subst, ap, ◌∙◌, arith}
use Rattle.std.specs.List.{Contains, list_any, list_all, filter}
use Rattle.std.proofs.lemmas.Bool.Decides.{nat_tests}
use Rattle.std.proofs.lemmas.Bool.{cases_Bool}
use Rattle.frz_board.specs.declared.man.Colour.{Colour}
use Rattle.frz_board.specs.Men.{other_of}
use Rattle.frz_arena.specs.declared.node.Node.TheVariants.{Going}
use Rattle.frz_arena.specs.declared.arm.Arm.{Arm}
use Rattle.frz_arena.specs.Arena.{Arena, IsArm, IsLawful}
use Rattle.frz_arena.specs.Codes.{is_win, is_failure}
use Rattle.frz_arena.specs.LocalCodes.{free_codes, all_codes, least, greatest, chosen_code, own_code, other_code, next_code, local_code}
use Rattle.frz_arena.proofs.Lists.Members.{none_in_empty, first_in, later_in}
use Rattle.frz_arena.proofs.LocalCodes.ChosenCodes.{none_from, failures_first, chosen_greatest}
use Rattle.frz_arena.proofs.LocalCodes.PlyCodes.{at_own, at_other, own_win, other_win, code_among_all, free_of_code, arm_of_code, some_arm}

neither : (x : ℕ) → is_win x ≡ false → is_failure x ≡ false → x ≤ 1
neither x w f = grind (arith, nat_tests)

-- where not all pass, some one does not
some_not : {X : Type 0} (test : X → Bool) (xs : List X) → list_all test xs ≡ false →
    (x : X) × Contains xs x × (test x ≡ false)
some_not test [] h = absurd (cc)
some_not test (y ∷ xs) h =
    elim (cases_Bool (test y)) [
      | inl t ↦ (let k = rw t at h in let r = some_not test xs k in
          (r.0, later_in y xs r.0 r.1, r.2))
      | inr f ↦ (y, first_in y xs, f)
    ]

-- the chosen code is 1 where no code is sought, and some is not shunned
chosen_one : (sought shunned : ℕ → Bool) (cs : List ℕ) → chosen_code sought shunned cs ≡ 1 →
    (x : ℕ) × Contains cs x × (sought x ≡ false) × (shunned x ≡ false)
chosen_one sought shunned cs h =
    elim (cases_Bool (list_any sought cs)) [
      | inl t ↦ absurd (let e : chosen_code sought shunned cs ≡ least (filter sought cs) + 2 =
          rw t refl in omega arith)
      | inr f ↦ elim (cases_Bool (list_all shunned cs)) [
        | inl a ↦ absurd (let e : chosen_code sought shunned cs ≡ greatest cs + 2 =
            rw (f, a) refl in omega arith)
        | inr b ↦ (let r = some_not shunned cs b in (r.0, r.1, none_from sought cs f r.0 r.1, r.2))
      ]
    ]

own_one : (cs : List ℕ) → own_code cs ≡ 1 → (x : ℕ) × Contains cs x × (x ≤ 1)
own_one [] h = absurd (omega arith)
own_one (c ∷ cs) h =
    let r = chosen_one is_win is_failure (c ∷ cs) h in (r.0, r.1, neither r.0 r.2 r.3)

-- where all codes are wins, the greatest is the longest
other_longest : (cs : List ℕ) (x : ℕ) → Contains cs x → is_win (other_code cs) ≡ true →
    (w : ℕ) × Contains cs w × (other_code cs ≡ w + 2)
other_longest [] x i h = absurd (none_in_empty x i)
other_longest (c ∷ cs) x i h = chosen_greatest failures_first c cs h

-- the mover's free arm that keeps a win
pub own_win_arm : {M N V : Type 0} (arena : Arena M N V) (side : Colour) (entry : N → ℕ) (p : N) →
    arena.node p ≡ Going side → is_win (local_code arena side entry p) ≡ true →
    (a : Arm M N V) × IsArm arena p a × (a.free ≡ true)
    × (next_code arena side entry a.next + 2 ≡ local_code arena side entry p)
own_win_arm arena side entry p e w =
    let f = at_own arena side entry p e in
    let s = own_win (free_codes arena side entry p) (subst (λ z. is_win z ≡ true) f w) in
    let a = free_of_code arena side entry p s.0 s.1 in
    (a.0, a.1, a.2, ap (λ z. z + 2) a.3 ∙ (sym s.3 ∙ sym f))

-- each arm of the other side keeps it
pub other_win_arms : {M N V : Type 0} (arena : Arena M N V) (side : Colour) (entry : N → ℕ) (p : N)
    → arena.node p ≡ Going (other_of side) → is_win (local_code arena side entry p) ≡ true
    → (a : Arm M N V) → IsArm arena p a → (is_win (next_code arena side entry a.next) ≡ true)
    × (next_code arena side entry a.next + 2 ≤ local_code arena side entry p)
other_win_arms arena side entry p e w a i =
    let f = at_other arena side entry p e in
    let s = other_win (all_codes arena side entry p) (subst (λ z. is_win z ≡ true) f w)
    (next_code arena side entry a.next) (code_among_all arena side entry p a i) in
    (s.0, omega (arith, s.1))

-- the mover's free arm that keeps a hold
pub own_hold_arm : {M N V : Type 0} (arena : Arena M N V) (side : Colour) (entry : N → ℕ) (p : N) →
    arena.node p ≡ Going side → local_code arena side entry p ≡ 1 →
    (a : Arm M N V) × IsArm arena p a × (a.free ≡ true) × (next_code arena side entry a.next ≤ 1)
own_hold_arm arena side entry p e h =
    let f = at_own arena side entry p e in
    let s = own_one (free_codes arena side entry p) (sym f ∙ h) in
    let a = free_of_code arena side entry p s.0 s.1 in
    (a.0, a.1, a.2, (let k = a.3 in let l = s.2 in omega arith))

-- no arm of the other side loses it
pub other_hold_arms : {M N V : Type 0} (arena : Arena M N V) (side : Colour) (entry : N → ℕ) (p : N)
    → arena.node p ≡ Going (other_of side) → local_code arena side entry p ≡ 1 → (a : Arm M N V)
    → IsArm arena p a → is_failure (next_code arena side entry a.next) ≡ false
other_hold_arms arena side entry p e h a i =
    let f : other_code (all_codes arena side entry p) ≡ 1 = sym (at_other arena side entry p e)
    ∙ h in
    elim (cases_Bool (list_any is_failure (all_codes arena side entry p))) [
      | inl t ↦ absurd (let k : other_code (all_codes arena side entry p) ≡ least
          (filter is_failure (all_codes arena side entry p)) + 2 = rw t refl in omega arith)
      | inr g ↦
          none_from is_failure (all_codes arena side entry p) g (next_code arena side entry a.next)
          (code_among_all arena side entry p a i)
    ]

-- a move of the opponent that takes as many plies as the win
pub other_win_arm : {M N V : Type 0} (arena : Arena M N V) → IsLawful arena →
    (side : Colour) (entry : N → ℕ) (p : N) → arena.node p ≡ Going (other_of side) →
    is_win (local_code arena side entry p) ≡ true →
    (a : Arm M N V) × IsArm arena p a
    × (next_code arena side entry a.next + 2 ≡ local_code arena side entry p)
other_win_arm arena law side entry p e w =
    let f = at_other arena side entry p e in
    let b = some_arm arena law p (other_of side) e in
    let s = other_longest (all_codes arena side entry p) (next_code arena side entry b.0.next)
    (code_among_all arena side entry p b.0 b.1) (subst (λ z. is_win z ≡ true) f w) in
    let a = arm_of_code arena side entry p s.0 s.1 in
    (a.0, a.1, ap (λ z. z + 2) a.2 ∙ (sym s.2 ∙ sym f))

-- a move of the opponent that keeps the hold
pub other_hold_arm : {M N V : Type 0} (arena : Arena M N V) (side : Colour) (entry : N → ℕ) (p : N)
    → arena.node p ≡ Going (other_of side) → local_code arena side entry p ≡ 1 → (a : Arm M N V)
    × IsArm arena p a × (next_code arena side entry a.next ≤ 1)
other_hold_arm arena side entry p e h =
    let f = at_other arena side entry p e in
    let s = chosen_one is_failure is_win (all_codes arena side entry p) (sym f ∙ h) in
    let a = arm_of_code arena side entry p s.0 s.1 in
    (a.0, a.1, (let k = a.2 in let l = neither s.0 s.3 s.2 in omega arith))
