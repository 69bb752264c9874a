-- The arm that the codes ask for: where it is, and what it keeps.
use Rattle.std.proofs.Common.{◌≡◌, ◌≤◌, ◌+◌, ◌-◌, ◌==◌, ◌&&◌, ◌||◌, not, ℕ, ◌⊎◌, inl, inr, Bool, true, false, List, Some, refl, sym, subst, ap, ◌∙◌, arith}
use Rattle.std.specs.Prelude.{slice_get}
use Rattle.std.specs.List.{Contains}
use Rattle.std.proofs.lemmas.Bool.Decides.{nat_tests}
use Rattle.std.proofs.lemmas.Bool.{cases_Bool, eq-eqb, eqb-true}
use Rattle.frz_board.specs.declared.man.Colour.{Colour}
use Rattle.frz_board.specs.declared.man.Colour.TheVariants.{White, Black}
use Rattle.frz_board.specs.Men.{other_of, same_colour}
use Rattle.frz_arena.specs.declared.node.Node.TheVariants.{Going}
use Rattle.frz_arena.specs.declared.arm.Arm.{Arm}
use Rattle.frz_arena.specs.Arena.{Arena, IsArm, IsLawful}
use Rattle.frz_arena.specs.Codes.{is_win, is_failure}
use Rattle.frz_arena.specs.LocalCodes.{free_codes, arm_code, local_code}
use Rattle.frz_arena.specs.Chosen.{IsFound, is_candidate, IsChosen}
use Rattle.frz_arena.proofs.Lists.Members.{passes_or_none}
use Rattle.frz_arena.proofs.LocalCodes.ChosenCodes.{win_above, win_and_failure}
use Rattle.frz_arena.proofs.Lists.FirstOnes.{at_in, first_there}
use Rattle.frz_arena.proofs.Plies.NextPlies.{own_win_arm, own_hold_arm, other_win_arms, other_win_arm, other_hold_arms, other_hold_arm}
use Rattle.frz_arena.proofs.LocalCodes.PlyCodes.{at_own, own_win}
use Rattle.frz_arena.proofs.LocalCodes.OnePly.{broken_of_code}
use Rattle.frz_arena.proofs.LocalCodes.UniqueCodes.{code_is, none, hold, win, failure, as_win, as_failure}

pub data MoverIs (side mover : Colour) : Type 0 where
  itself : mover ≡ side → same_colour mover side ≡ true → MoverIs side mover
  another : mover ≡ other_of side → same_colour mover side ≡ false → MoverIs side mover

pub mover_is : (side mover : Colour) → MoverIs side mover
mover_is White White = itself refl refl
mover_is White Black = another refl refl
mover_is Black White = another refl refl
mover_is Black Black = itself refl refl

candidate_by : (own free same : Bool) → (own ≡ true → free ≡ true) → same ≡ true →
    ((not own || free) && same) ≡ true
candidate_by true free same f e = rw (f refl) e
candidate_by false free same f e = e

by_candidate : (own free same : Bool) → ((not own || free) && same) ≡ true →
    (own ≡ true → free ≡ true) × (same ≡ true)
by_candidate true true same h = (λ e. refl, h)
by_candidate true false same h = absurd (cc)
by_candidate false free same h = (λ e. absurd (cc), h)

pub is_one : {M N V : Type 0} (arena : Arena M N V) (side : Colour) (entry : N → ℕ) (mover : Colour)
    (code : ℕ) (a : Arm M N V) → (same_colour mover side ≡ true → a.free ≡ true)
    → arm_code arena side entry a ≡ code → is_candidate arena side entry mover code a ≡ true
is_one arena side entry mover code a f e =
    candidate_by (same_colour mover side) a.free (arm_code arena side entry a == code) f
    (eq-eqb (arm_code arena side entry a) code e)

pub as_one : {M N V : Type 0} (arena : Arena M N V) (side : Colour) (entry : N → ℕ) (mover : Colour)
    (code : ℕ) (a : Arm M N V) → is_candidate arena side entry mover code a ≡ true
    → (same_colour mover side ≡ true → a.free ≡ true) × (arm_code arena side entry a ≡ code)
as_one arena side entry mover code a h =
    let r = by_candidate (same_colour mover side) a.free (arm_code arena side entry a == code) h in
    (r.0, eqb-true (arm_code arena side entry a) code r.1)

-- where some element has the code, one is found
pub found_win : {X : Type 0} (with_code : ℕ → X → Bool) (c : ℕ) (xs : List X) (x : X) →
    Contains xs x → with_code (c - 2) x ≡ true → (i : ℕ) × (y : X) × IsFound with_code true c xs i y
found_win with_code c xs x h t = first_there (with_code (c - 2)) xs x h t

pub found_hold : {X : Type 0} (with_code : ℕ → X → Bool) (c : ℕ) (xs : List X) (x : X) →
    Contains xs x → (with_code 1 x ≡ true) ⊎ (with_code 0 x ≡ true) →
    (i : ℕ) × (y : X) × IsFound with_code false c xs i y
found_hold with_code c xs x h (inl t) =
    let r = first_there (with_code 1) xs x h t in (r.0, r.1, inl r.2)
found_hold {X} with_code c xs x h (inr t) =
    elim (passes_or_none (with_code 1) xs) [
      | inl r ↦ (let f = first_there (with_code 1) xs r.0 r.1 r.2 in (f.0, f.1, inl f.2))
      | inr never ↦ (
          let f = first_there (with_code 0) xs x h t in
          let each : (y : X) → Contains xs y
          → with_code 1 y ≡ false =
          λ y i. elim (cases_Bool (with_code 1 y))
          [ inl g ↦ absurd (never y i g) | inr g ↦ g ] in
          (f.0, f.1, inr (each, f.2)))
    ]

free_of : (own free : Bool) → own ≡ false → own ≡ true → free ≡ true
free_of own free f t = absurd (cc)

-- an arm that keeps a win, and one that keeps a hold
win_arm : {M N V : Type 0} (arena : Arena M N V) → IsLawful arena →
    (side : Colour) (entry : N → ℕ) (mover : Colour) (p : N) → arena.node p ≡ Going mover →
    is_win (local_code arena side entry p) ≡ true →
    (a : Arm M N V) × IsArm arena p a × (same_colour mover side ≡ true → a.free ≡ true)
    × (arm_code arena side entry a + 2 ≡ local_code arena side entry p)
win_arm arena law side entry mover p e w =
    elim (mover_is side mover) [
      | itself m s ↦ (let r = own_win_arm arena side entry p (e ∙ ap Going m) w in
          (r.0, r.1, λ _. r.2, r.3))
      | another m s ↦ (let r = other_win_arm arena law side entry p (e ∙ ap Going m) w in
          (r.0, r.1, free_of (same_colour mover side) r.0.free s, r.2))
    ]

hold_arm : {M N V : Type 0} (arena : Arena M N V) (side : Colour) (entry : N → ℕ) (mover : Colour)
    (p : N) → arena.node p ≡ Going mover → local_code arena side entry p ≡ 1 → (a : Arm M N V)
    × IsArm arena p a × (same_colour mover side ≡ true → a.free ≡ true)
    × (arm_code arena side entry a ≤ 1)
hold_arm arena side entry mover p e h =
    elim (mover_is side mover) [
      | itself m s ↦ (let r = own_hold_arm arena side entry p (e ∙ ap Going m) h in
          (r.0, r.1, λ _. r.2, r.3))
      | another m s ↦ (let r = other_hold_arm arena side entry p (e ∙ ap Going m) h in
          (r.0, r.1, free_of (same_colour mover side) r.0.free s, r.2))
    ]

not_win : (c : ℕ) → c ≡ 1 → is_win c ≡ false
not_win c e = rw e refl

zero_or_one : (c : ℕ) → c ≤ 1 → (c ≡ 1) ⊎ (c ≡ 0)
zero_or_one c l =
    elim (cases_Bool (c == 1)) [
      | inl t ↦ inl (eqb-true c 1 t)
      | inr f ↦ inr (elim (code_is c) [
        | none e ↦ e
        | hold e ↦ absurd (let t = eq-eqb c 1 e in cc)
        | win n e ↦ absurd (omega (arith, e, l))
        | failure n e ↦ absurd (omega (arith, e, l))
      ])
    ]

-- where the kept code is the local one, a win or a hold, there is an arm that the code asks for
pub chosen_there : {M N V : Type 0} (arena : Arena M N V) → IsLawful arena →
    (side : Colour) (entry : N → ℕ) (mover : Colour) (p : N) → arena.node p ≡ Going mover →
    entry p ≡ local_code arena side entry p → (is_win (entry p) ≡ true) ⊎ (entry p ≡ 1) →
    (i : ℕ) × (a : Arm M N V) × IsChosen arena side entry mover p i a
chosen_there arena law side entry mover p e k (inl w) =
    let r = win_arm arena law side entry mover p e (subst (λ c. is_win c ≡ true) k w) in
    let c : arm_code arena side entry r.0 ≡ entry p - 2 = (let h = r.3 in omega arith) in
    let f = found_win (is_candidate arena side entry mover) (entry p) (arena.arms p) r.0 r.1
    (is_one arena side entry mover (entry p - 2) r.0 r.2 c) in
    (f.0, f.1, rw w f.2)
chosen_there arena law side entry mover p e k (inr h) =
    let r = hold_arm arena side entry mover p e (sym k ∙ h) in
    let o = zero_or_one (arm_code arena side entry r.0) r.3 in
    let f = found_hold (is_candidate arena side entry mover) (entry p) (arena.arms p) r.0 r.1
    (elim o [
      | inl c ↦ inl (is_one arena side entry mover 1 r.0 r.2 c)
      | inr c ↦ inr (is_one arena side entry mover 0 r.0 r.2 c)
    ]) in
    (f.0, f.1, rw (not_win (entry p) h) f.2)

-- what was found is at its place
pub found_at : {X : Type 0} (with_code : ℕ → X → Bool) (won : Bool) (c : ℕ) (xs : List X) (i : ℕ)
    (x : X) → IsFound with_code won c xs i x → slice_get xs i ≡ Some x
found_at with_code true c xs i x f = f.here
found_at with_code false c xs i x (inl f) = f.here
found_at with_code false c xs i x (inr f) = f.1.here

pub chosen_is_at : {M N V : Type 0} (arena : Arena M N V) (side : Colour) (entry : N → ℕ)
    (mover : Colour) (p : N) (i : ℕ) (a : Arm M N V) → IsChosen arena side entry mover p i a
    → slice_get (arena.arms p) i ≡ Some a
chosen_is_at arena side entry mover p i a f =
    found_at (is_candidate arena side entry mover) (is_win (entry p)) (entry p) (arena.arms p) i a f

found_code : {X : Type 0} (with_code : ℕ → X → Bool) (won : Bool) (c : ℕ) (xs : List X) (i : ℕ)
    (x : X) → IsFound with_code won c xs i x → (d : ℕ) × (with_code d x ≡ true)
    × (won ≡ true → d ≡ c - 2) × (won ≡ false → d ≤ 1)
found_code with_code true c xs i x f = (c - 2, f.passes, λ e. refl, λ e. absurd (cc))
found_code with_code false c xs i x (inl f) = (1, f.passes, λ e. absurd (cc), λ e. omega arith)
found_code with_code false c xs i x (inr f) = (0, f.1.passes, λ e. absurd (cc), λ e. omega arith)

pub chosen_free : {M N V : Type 0} (arena : Arena M N V) (side : Colour) (entry : N → ℕ)
    (mover : Colour) (p : N) (i : ℕ) (a : Arm M N V) → IsChosen arena side entry mover p i a
    → same_colour mover side ≡ true → a.free ≡ true
chosen_free arena side entry mover p i a f t =
    let r = found_code (is_candidate arena side entry mover) (is_win (entry p)) (entry p)
    (arena.arms p) i a f in
    (as_one arena side entry mover r.0 a r.1).0 t

pub chosen_hold : {M N V : Type 0} (arena : Arena M N V) (side : Colour) (entry : N → ℕ)
    (mover : Colour) (p : N) (i : ℕ) (a : Arm M N V) → IsChosen arena side entry mover p i a
    → entry p ≡ 1 → arm_code arena side entry a ≤ 1
chosen_hold arena side entry mover p i a f h =
    let r = found_code (is_candidate arena side entry mover) (is_win (entry p)) (entry p)
    (arena.arms p) i a f in
    let e = (as_one arena side entry mover r.0 a r.1).1 in
    let l = r.3 (not_win (entry p) h) in
    omega (arith, e, l)

-- where the side is to move, the local code of a win is more than that of a mate
four_own : {M N V : Type 0} (arena : Arena M N V) (side : Colour) (entry : N → ℕ) (p : N) →
    arena.node p ≡ Going side → is_win (local_code arena side entry p) ≡ true →
    4 ≤ local_code arena side entry p
four_own arena side entry p e w =
    let f = at_own arena side entry p e in
    let s = own_win (free_codes arena side entry p) (subst (λ z. is_win z ≡ true) f w) in
    let l = win_above s.0 s.2 in
    let g = s.3 in
    omega (arith, f, l, g)

win_less : (c : ℕ) → is_win c ≡ true → 4 ≤ c → is_win (c - 2) ≡ true
win_less c w l = grind (arith, nat_tests)

-- an arm that the code of a win asks for keeps it
pub chosen_win : {M N V : Type 0} (arena : Arena M N V) (side : Colour) (entry : N → ℕ)
    (mover : Colour) (p : N) (i : ℕ) (a : Arm M N V) → IsChosen arena side entry mover p i a
    → arena.node p ≡ Going mover → entry p ≡ local_code arena side entry p → is_win (entry p) ≡ true
    → (is_win (arm_code arena side entry a) ≡ true) × (arm_code arena side entry a + 2 ≡ entry p)
chosen_win arena side entry mover p i a f e k w =
    let r = found_code (is_candidate arena side entry mover) (is_win (entry p)) (entry p)
    (arena.arms p) i a f in
    let c : arm_code arena side entry a ≡ entry p - 2 = (as_one arena side entry mover r.0 a r.1).1
    ∙ r.2 w in
    let v = subst (λ c. is_win c ≡ true) k w in
    elim (mover_is side mover) [
      | itself m s ↦ (
          let l = four_own arena side entry p (e ∙ ap Going m) v in
          let o : 4 ≤ entry p = omega (arith, l, k) in
          (subst (λ z. is_win z ≡ true) (sym c) (win_less (entry p) w o), omega (arith, c, o)))
      | another m s ↦ (
          let g = other_win_arms arena side entry p (e ∙ ap Going m) v a
          (at_in (arena.arms p) i a (chosen_is_at arena side entry mover p i a f)) in
          (g.0, (let h = g.1 in omega (arith, c, h, k))))
    ]

-- whatever arm the opponent takes, a win stays one, and a hold does not become a failure
pub any_win : {M N V : Type 0} (arena : Arena M N V) (side : Colour) (entry : N → ℕ) (p : N) (i : ℕ)
    (a : Arm M N V) → slice_get (arena.arms p) i ≡ Some a → arena.node p ≡ Going (other_of side)
    → entry p ≡ local_code arena side entry p → is_win (entry p) ≡ true
    → (is_win (arm_code arena side entry a) ≡ true) × (arm_code arena side entry a + 2 ≤ entry p)
any_win arena side entry p i a at e k w =
    let g = other_win_arms arena side entry p e (subst (λ c. is_win c ≡ true) k w) a
    (at_in (arena.arms p) i a at) in
    (g.0, (let h = g.1 in omega (arith, h, k)))

pub any_hold : {M N V : Type 0} (arena : Arena M N V) (side : Colour) (entry : N → ℕ) (p : N)
    (i : ℕ) (a : Arm M N V) → slice_get (arena.arms p) i ≡ Some a
    → arena.node p ≡ Going (other_of side) → entry p ≡ local_code arena side entry p → entry p ≡ 1
    → is_failure (arm_code arena side entry a) ≡ false
any_hold arena side entry p i a at e k h =
    other_hold_arms arena side entry p e (sym k ∙ h) a (at_in (arena.arms p) i a at)

-- a position that goes on with a code that is local and no failure has a win or a hold
pub win_or_hold : {M N V : Type 0} (arena : Arena M N V) (side : Colour) (entry : N → ℕ)
    (mover : Colour) (p : N) → arena.node p ≡ Going mover → entry p ≡ local_code arena side entry p
    → is_failure (entry p) ≡ false → (is_win (entry p) ≡ true) ⊎ (entry p ≡ 1)
win_or_hold arena side entry mover p e k f =
    elim (code_is (entry p)) [
      | none z ↦ absurd (let b = broken_of_code arena side entry p (sym k ∙ z) in cc)
      | hold h ↦ inr h
      | win n h ↦ inl (as_win (entry p) n h).0
      | failure n h ↦ absurd (let t = (as_failure (entry p) n h).0 in cc)
    ]

pub small_is_no_failure : (c : ℕ) → c ≤ 1 → is_failure c ≡ false
small_is_no_failure c l = grind (arith, nat_tests)

pub win_is_no_failure : (c : ℕ) → is_win c ≡ true → is_failure c ≡ false
win_is_no_failure c w =
    elim (cases_Bool (is_failure c)) [ inl t ↦ absurd (win_and_failure c w t) | inr f ↦ f ]
