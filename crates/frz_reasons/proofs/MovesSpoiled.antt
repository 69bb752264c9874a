-- What a local code that is a failure says of the moves, by the laws of local codes.
use Rattle.std.proofs.Common.{◌≡◌, ◌≢◌, ◌≤◌, ◌+◌, ◌&&◌, not, ℕ, ◌⊎◌, inl, inr, Bool, true, false, List, [], ◌∷◌, refl, sym, subst, ap, ◌∙◌, slice_index, arith, if◌then◌else◌}
use Rattle.std.specs.Bool.{⊤}
use Rattle.std.specs.List.{Contains}
use Rattle.std.proofs.lemmas.Bool.{cases_lt}
use Rattle.frz_board.specs.declared.man.Colour.{Colour}
use Rattle.frz_board.specs.Men.{other_of, same_colour}
use Rattle.frz_board.specs.Moving.{Step}
use Rattle.frz_sets.specs.declared.exit.Value.{Value}
use Rattle.frz_arena.specs.declared.arm.Arm.{Arm}
use Rattle.frz_arena.specs.declared.node.Node.{Node}
use Rattle.frz_arena.specs.declared.node.Node.TheVariants.{Broken, Mate, Stalemate, Going}
use Rattle.frz_arena.specs.Arena.{Arena, IsArm, IsLawful}
use Rattle.frz_arena.specs.Codes.{is_win, is_failure}
use Rattle.frz_arena.specs.LocalCodes.{local_code}
use Rattle.frz_arena.proofs.Lemmas.{first_in, at_broken}
use Rattle.frz_reasons.specs.LocalEntries.{Agrees}
use Rattle.frz_reasons.specs.FailuresTell.{FailsAt, code_behind, mated, renounced, moves, waits}
use Rattle.frz_reasons.proofs.Best.{IsOrder, IsBest, best_of}
use Rattle.frz_reasons.proofs.Codes.{and_true_of_both, both_true_of_and, hold_no_failure, mover_is_either_side, not_true_is_false, other_side, same_side, win_itself_no_failure, win_no_failure}

module _ (arena : Arena Step ℕ Value) (side : Colour) (codes : List ℕ) (number : ℕ) where
  -- the code of an arm, and the local code
  abbrev behind : Arm Step ℕ Value → ℕ
  behind a = code_behind arena side codes a

  abbrev given : ℕ
  given = local_code arena side (λ k. slice_index codes k) number

  -- the laws of local codes, at this number
  pub record Laws : Type 0 where
    pub own_win : arena.node number ≡ Going side → (a : Arm Step ℕ Value) →
        IsArm arena number a → a.free ≡ true → is_win (behind a) ≡ true →
        ((b : Arm Step ℕ Value) → IsArm arena number b → b.free ≡ true →
        is_win (behind b) ≡ true → behind a ≤ behind b) → given ≡ behind a + 2
    pub own_failure : arena.node number ≡ Going side → (a : Arm Step ℕ Value) →
        IsArm arena number a → a.free ≡ true →
        ((b : Arm Step ℕ Value) → IsArm arena number b → b.free ≡ true →
        (is_failure (behind b) ≡ true) × (behind b ≤ behind a)) → given ≡ behind a + 2
    pub own_hold : arena.node number ≡ Going side → (a : Arm Step ℕ Value) →
        IsArm arena number a → a.free ≡ true → is_failure (behind a) ≡ false →
        ((b : Arm Step ℕ Value) → IsArm arena number b → b.free ≡ true →
        is_win (behind b) ≡ false) → given ≡ 1
    pub own_none : arena.node number ≡ Going side →
        ((a : Arm Step ℕ Value) → IsArm arena number a → a.free ≡ true → ⊥) → given ≡ 3
    pub other_failure : arena.node number ≡ Going (other_of side) → (a : Arm Step ℕ Value) →
        IsArm arena number a → is_failure (behind a) ≡ true →
        ((b : Arm Step ℕ Value) → IsArm arena number b → is_failure (behind b) ≡ true →
        behind a ≤ behind b) → given ≡ behind a + 2
    pub other_win : arena.node number ≡ Going (other_of side) → (a : Arm Step ℕ Value) →
        IsArm arena number a →
        ((b : Arm Step ℕ Value) → IsArm arena number b →
        (is_win (behind b) ≡ true) × (behind b ≤ behind a)) → given ≡ behind a + 2
    pub other_hold : arena.node number ≡ Going (other_of side) → (a : Arm Step ℕ Value) →
        IsArm arena number a → is_win (behind a) ≡ false →
        ((b : Arm Step ℕ Value) → IsArm arena number b → is_failure (behind b) ≡ false) →
        given ≡ 1

  -- the arms by their codes: the least first, the greatest first, or in no order
  least_first_is_order : IsOrder (λ (a b : Arm Step ℕ Value). behind a ≤ behind b)
  least_first_is_order = record {
    total = λ a b. elim (cases_lt (behind a) (behind b))
        [ inl l ↦ inl (omega (arith, l)) | inr l ↦ inr (omega (arith, l)) ];
    trans = λ a b c h k. omega (arith, h, k);
  }

  greatest_first_is_order : IsOrder (λ (a b : Arm Step ℕ Value). behind b ≤ behind a)
  greatest_first_is_order = record {
    total = λ a b. elim (cases_lt (behind a) (behind b))
        [ inl l ↦ inr (omega (arith, l)) | inr l ↦ inl (omega (arith, l)) ];
    trans = λ a b c h k. omega (arith, h, k);
  }

  indifference_is_order : IsOrder (λ (a b : Arm Step ℕ Value). ⊤)
  indifference_is_order = record { total = λ a b. inl tt; trans = λ a b c h k. tt }

  false_of : (x : Bool) → (x ≡ true → ⊥) → x ≡ false
  false_of true h = absurd (h refl)
  false_of false h = refl

  never_false_is_true : (x : Bool) → (not x ≡ true → ⊥) → x ≡ true
  never_false_is_true true h = refl
  never_false_is_true false h = absurd (h refl)

  module _ (laws : Laws) (failing : is_failure (slice_index codes number) ≡ true)
      (agrees : Agrees arena side codes number) where
    given_code_fails : is_failure given ≡ true
    given_code_fails = subst (λ c. is_failure c ≡ true) agrees failing

    -- no free arm wins and each fails
    own_by : arena.node number ≡ Going side →
        ((b : Arm Step ℕ Value) → IsArm arena number b → b.free ≡ true →
        is_failure (behind b) ≡ true) →
        ((a : Arm Step ℕ Value)
        × IsBest (λ b. b.free) (λ a b. behind b ≤ behind a) (arena.arms number) a)
        ⊎ ((b : Arm Step ℕ Value) → IsArm arena number b → b.free ≡ true → ⊥) →
        FailsAt arena side codes number
    own_by n each (inl r) =
        let all : (b : Arm Step ℕ Value) → IsArm arena number b → b.free ≡ true →
        (is_failure (behind b) ≡ true) × (behind b ≤ behind r.0) =
        λ b i t. (each b i t, r.1.best b i t) in
        let law = laws.own_failure n r.0 r.1.there r.1.passes all in
        moves n r.0 r.1.there r.1.passes (sym (agrees ∙ law)) all
    own_by n each (inr none) = renounced n (agrees ∙ laws.own_none n none) none

    fails_at_own_move : arena.node number ≡ Going side → FailsAt arena side codes number
    fails_at_own_move n =
        elim (best_of (λ (a : Arm Step ℕ Value). a.free && is_win (behind a))
        (λ a b. behind a ≤ behind b) least_first_is_order (arena.arms number)) [
          | inl r ↦ absurd (
              let t = both_true_of_and r.0.free (is_win (behind r.0)) r.1.passes in
              win_no_failure given (behind r.0) t.1
              (laws.own_win n r.0 r.1.there t.0 t.1
              (λ b i u w. r.1.best b i (and_true_of_both b.free (is_win (behind b)) u w)))
              given_code_fails)
          | inr no_win ↦ elim (best_of
              (λ (a : Arm Step ℕ Value). a.free && not (is_failure (behind a)))
              (λ a b. ⊤) indifference_is_order (arena.arms number)) [
                | inl r ↦ absurd (
                    let t = both_true_of_and r.0.free (not (is_failure (behind r.0))) r.1.passes in
                    hold_no_failure given
                    (laws.own_hold n r.0 r.1.there t.0
                    (not_true_is_false (is_failure (behind r.0)) t.1)
                    (λ b i u. false_of (is_win (behind b))
                    (λ w. no_win b i (and_true_of_both b.free (is_win (behind b)) u w))))
                    given_code_fails)
                | inr no_hold ↦ own_by n
                    (λ b i u. never_false_is_true (is_failure (behind b))
                    (λ h. no_hold b i (and_true_of_both b.free (not (is_failure (behind b))) u h)))
                    (best_of (λ (a : Arm Step ℕ Value). a.free) (λ a b. behind b ≤ behind a)
                    greatest_first_is_order
                    (arena.arms number))
              ]
        ]

    some_arm_there : (arms : List (Arm Step ℕ Value)) → arms ≢ [] →
        (a : Arm Step ℕ Value) × Contains arms a
    some_arm_there [] h = absurd (h refl)
    some_arm_there (a ∷ arms) h = (a, first_in a arms)

    fails_at_other_move : IsLawful arena → arena.node number ≡ Going (other_of side) →
        FailsAt arena side codes number
    fails_at_other_move law n =
        elim (best_of (λ (a : Arm Step ℕ Value). is_failure (behind a))
        (λ a b. behind a ≤ behind b) least_first_is_order (arena.arms number)) [
          | inl r ↦ waits n r.0 r.1.there r.1.passes
              (sym (agrees ∙ laws.other_failure n r.0 r.1.there r.1.passes r.1.best)) r.1.best
          | inr no_failure ↦ elim (best_of
              (λ (a : Arm Step ℕ Value). not (is_win (behind a)))
              (λ a b. ⊤) indifference_is_order (arena.arms number)) [
                | inl r ↦ absurd (hold_no_failure given
                    (laws.other_hold n r.0 r.1.there
                    (not_true_is_false (is_win (behind r.0)) r.1.passes)
                    (λ b i. false_of (is_failure (behind b)) (λ w. no_failure b i w)))
                    given_code_fails)
                | inr no_hold ↦ elim (best_of
                    (λ (a : Arm Step ℕ Value). true) (λ a b. behind b ≤ behind a)
                    greatest_first_is_order
                    (arena.arms number)) [
                      | inl r ↦ absurd (
                          let each : (b : Arm Step ℕ Value) → IsArm arena number b →
                          is_win (behind b) ≡ true =
                          λ b i. never_false_is_true (is_win (behind b)) (λ h. no_hold b i h) in
                          win_no_failure given (behind r.0) (each r.0 r.1.there)
                          (laws.other_win n r.0 r.1.there (λ b i. (each b i, r.1.best b i refl)))
                          given_code_fails)
                      | inr none ↦ absurd (
                          let some = some_arm_there (arena.arms number)
                          (law.goes_on number (other_of side) n) in
                          none some.0 some.1 refl)
                    ]
              ]
        ]

    code_at_mate : (mover : Colour) → arena.node number ≡ Mate mover →
        given ≡ (if same_colour mover side then 3 else 2)
    code_at_mate mover e = rw e refl

    fails_at_mate : (mover : Colour) → arena.node number ≡ Mate mover
        → FailsAt arena side codes number
    fails_at_mate mover e =
        elim (mover_is_either_side side mover) [
          | inl m ↦ mated (e ∙ ap Mate m) (agrees ∙ code_at_mate mover e
              ∙ ap (λ (b : Bool). if b then 3 else 2)
              (ap (λ c. same_colour c side) m ∙ same_side side))
          | inr m ↦ absurd (
              let two : given ≡ 2 = code_at_mate mover e
              ∙ ap (λ (b : Bool). if b then 3 else 2)
              (ap (λ c. same_colour c side) m ∙ other_side side) in
              win_itself_no_failure given (subst (λ c. is_win c ≡ true) (sym two) refl)
              given_code_fails)
        ]

    pub fails_by : IsLawful arena → (node : Node) → arena.node number ≡ node →
        FailsAt arena side codes number
    fails_by law Broken e = absurd (
        let none = at_broken arena side (λ k. slice_index codes k) number e in
        let broken : is_failure 0 ≡ true = subst (λ c. is_failure c ≡ true) none given_code_fails in
        cc)
    fails_by law (Mate mover) e = fails_at_mate mover e
    fails_by law (Stalemate mover) e =
        absurd (hold_no_failure given (rw e refl) given_code_fails)
    fails_by law (Going mover) e =
        elim (mover_is_either_side side mover) [
          | inl m ↦ fails_at_own_move (e ∙ ap Going m)
          | inr m ↦ fails_at_other_move law (e ∙ ap Going m)
        ]
