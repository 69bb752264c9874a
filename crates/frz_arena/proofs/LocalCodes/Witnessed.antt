-- A local code by the moves that decide it.
use Rattle.std.proofs.Common.{◌≡◌, ◌≤◌, ◌+◌, ℕ, true, false, List, [], ◌∷◌, subst, sym, ap, ◌∙◌, refl}
use Rattle.std.specs.List.{Contains}
use Rattle.frz_board.specs.declared.man.Colour.{Colour}
use Rattle.frz_board.specs.Men.{other_of}
use Rattle.frz_arena.specs.declared.node.Node.TheVariants.{Going}
use Rattle.frz_arena.specs.declared.arm.Arm.{Arm}
use Rattle.frz_arena.specs.Arena.{Arena, IsArm}
use Rattle.frz_arena.specs.Codes.{is_win, is_failure}
use Rattle.frz_arena.specs.LocalCodes.{free_codes, all_codes, next_code, own_code, chosen_code, local_code}
use Rattle.frz_arena.proofs.Lists.Members.{none_in_empty}
use Rattle.frz_arena.proofs.LocalCodes.ChosenCodes.{wins_first, failures_first, chosen_is_least, chosen_is_greatest, chosen_is_hold}
use Rattle.frz_arena.proofs.LocalCodes.PlyCodes.{at_own, at_other, code_among_free, code_among_all, free_of_code, arm_of_code}
use Rattle.frz_arena.proofs.LocalCodes.OnePly.{empty_list}

-- where there is a free move, the side chooses among some codes
own_some : (cs : List ℕ) (w : ℕ) → Contains cs w → own_code cs ≡ chosen_code is_win is_failure cs
own_some [] w i = absurd (none_in_empty w i)
own_some (c ∷ cs) w i = refl

pub own_win_is : {M N V : Type 0} (arena : Arena M N V) (side : Colour) (entry : N → ℕ) (p : N) →
    arena.node p ≡ Going side
    → (a : Arm M N V) → IsArm arena p a → a.free ≡ true
    → is_win (next_code arena side entry a.next) ≡ true
    → ((b : Arm M N V) → IsArm arena p b → b.free ≡ true
    → is_win (next_code arena side entry b.next) ≡ true
    → next_code arena side entry a.next ≤ next_code arena side entry b.next)
    → local_code arena side entry p ≡ next_code arena side entry a.next + 2
own_win_is arena side entry p e a i t w least_one =
    let cs = free_codes arena side entry p in
    let x = next_code arena side entry a.next in
    let j = code_among_free arena side entry p a i t in
    at_own arena side entry p e ∙ (own_some cs x j ∙ chosen_is_least wins_first cs x j w
    (λ y k s. (let b = free_of_code arena side entry p y k in
    subst (λ z. x ≤ z) b.3 (least_one b.0 b.1 b.2 (subst (λ z. is_win z ≡ true) (sym b.3) s)))))

pub own_failure_is : {M N V : Type 0} (arena : Arena M N V) (side : Colour) (entry : N → ℕ) (p : N)
    → arena.node p ≡ Going side
    → (a : Arm M N V) → IsArm arena p a → a.free ≡ true
    → ((b : Arm M N V) → IsArm arena p b → b.free ≡ true
    → (is_failure (next_code arena side entry b.next) ≡ true)
    × (next_code arena side entry b.next ≤ next_code arena side entry a.next))
    → local_code arena side entry p ≡ next_code arena side entry a.next + 2
own_failure_is arena side entry p e a i t each =
    let cs = free_codes arena side entry p in
    let x = next_code arena side entry a.next in
    let j = code_among_free arena side entry p a i t in
    at_own arena side entry p e ∙ (own_some cs x j ∙ chosen_is_greatest wins_first cs x j
    (λ y k. (let b = free_of_code arena side entry p y k in
    subst (λ z. (is_failure z ≡ true) × (z ≤ x)) b.3 (each b.0 b.1 b.2))))

pub own_hold_is : {M N V : Type 0} (arena : Arena M N V) (side : Colour) (entry : N → ℕ) (p : N) →
    arena.node p ≡ Going side
    → (a : Arm M N V) → IsArm arena p a → a.free ≡ true
    → is_failure (next_code arena side entry a.next) ≡ false
    → ((b : Arm M N V) → IsArm arena p b → b.free ≡ true
    → is_win (next_code arena side entry b.next) ≡ false)
    → local_code arena side entry p ≡ 1
own_hold_is arena side entry p e a i t h none =
    let cs = free_codes arena side entry p in
    let x = next_code arena side entry a.next in
    let j = code_among_free arena side entry p a i t in
    at_own arena side entry p e ∙ (own_some cs x j ∙ chosen_is_hold is_win is_failure cs x j h
    (λ y k. (let b = free_of_code arena side entry p y k in subst (λ z. is_win z ≡ false) b.3
    (none b.0 b.1 b.2))))

pub own_none_is : {M N V : Type 0} (arena : Arena M N V) (side : Colour) (entry : N → ℕ) (p : N) →
    arena.node p ≡ Going side
    → ((a : Arm M N V) → IsArm arena p a → a.free ≡ true → ⊥) → local_code arena side entry p ≡ 3
own_none_is arena side entry p e none =
    let empty = empty_list (free_codes arena side entry p)
    (λ x k. (let b = free_of_code arena side entry p x k in none b.0 b.1 b.2)) in
    at_own arena side entry p e ∙ ap own_code empty

pub other_failure_is : {M N V : Type 0} (arena : Arena M N V) (side : Colour) (entry : N → ℕ)
    (p : N) → arena.node p ≡ Going (other_of side)
    → (a : Arm M N V) → IsArm arena p a → is_failure (next_code arena side entry a.next) ≡ true
    → ((b : Arm M N V) → IsArm arena p b → is_failure (next_code arena side entry b.next) ≡ true
    → next_code arena side entry a.next ≤ next_code arena side entry b.next)
    → local_code arena side entry p ≡ next_code arena side entry a.next + 2
other_failure_is arena side entry p e a i w least_one =
    let cs = all_codes arena side entry p in
    let x = next_code arena side entry a.next in
    at_other arena side entry p e
    ∙ chosen_is_least failures_first cs x (code_among_all arena side entry p a i) w
    (λ y k s. (let b = arm_of_code arena side entry p y k in
    subst (λ z. x ≤ z) b.2 (least_one b.0 b.1 (subst (λ z. is_failure z ≡ true) (sym b.2) s))))

pub other_win_is : {M N V : Type 0} (arena : Arena M N V) (side : Colour) (entry : N → ℕ) (p : N) →
    arena.node p ≡ Going (other_of side)
    → (a : Arm M N V) → IsArm arena p a
    → ((b : Arm M N V) → IsArm arena p b → (is_win (next_code arena side entry b.next) ≡ true)
    × (next_code arena side entry b.next ≤ next_code arena side entry a.next))
    → local_code arena side entry p ≡ next_code arena side entry a.next + 2
other_win_is arena side entry p e a i each =
    let cs = all_codes arena side entry p in
    let x = next_code arena side entry a.next in
    at_other arena side entry p e
    ∙ chosen_is_greatest failures_first cs x (code_among_all arena side entry p a i)
    (λ y k. (let b = arm_of_code arena side entry p y k in
    subst (λ z. (is_win z ≡ true) × (z ≤ x)) b.2 (each b.0 b.1)))

pub other_hold_is : {M N V : Type 0} (arena : Arena M N V) (side : Colour) (entry : N → ℕ) (p : N) →
    arena.node p ≡ Going (other_of side)
    → (a : Arm M N V) → IsArm arena p a → is_win (next_code arena side entry a.next) ≡ false
    → ((b : Arm M N V) → IsArm arena p b → is_failure (next_code arena side entry b.next) ≡ false)
    → local_code arena side entry p ≡ 1
other_hold_is arena side entry p e a i h none =
    let cs = all_codes arena side entry p in
    let x = next_code arena side entry a.next in
    at_other arena side entry p e
    ∙ chosen_is_hold is_failure is_win cs x (code_among_all arena side entry p a i) h
    (λ y k. (let b = arm_of_code arena side entry p y k in subst (λ z. is_failure z ≡ false) b.2
    (none b.0 b.1)))
