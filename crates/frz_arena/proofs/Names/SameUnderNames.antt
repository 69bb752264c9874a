-- Wins and failures do not depend on the names of the positions.
use Rattle.std.proofs.Common.{◌≡◌, ◌≤◌, ◌<◌, ◌↔◌, ◌⊎◌, ℕ, zero, suc, inl, inr, true, sym, subst, ◌∙◌}
use Rattle.std.specs.List.{Contains}
use Rattle.frz_board.specs.declared.man.Colour.{Colour}
use Rattle.frz_board.specs.Men.{other_of}
use Rattle.frz_arena.specs.declared.node.Node.{Node}
use Rattle.frz_arena.specs.declared.node.Node.TheVariants.{Mate, Going}
use Rattle.frz_arena.specs.declared.bound.Bound.{Bound}
use Rattle.frz_arena.specs.declared.bound.Bound.TheVariants.{Wins, Holds, Fails}
use Rattle.frz_arena.specs.Bounds.{IsBound}
use Rattle.frz_arena.specs.declared.arm.Arm.{Arm}
use Rattle.frz_arena.specs.declared.arm.Next.{Next}
use Rattle.frz_arena.specs.declared.arm.Next.TheVariants.{Inside, Outside}
use Rattle.frz_arena.specs.Arena.{Arena, IsArm}
use Rattle.frz_arena.specs.Plies.{LeadsTo, IsGoodExit, IsBadExit, SomeArm, EachArm, SomeFree, EachFree, WinsWithin, FailsWithin}
use Rattle.frz_arena.specs.Names.{named_next, named, IsNaming}
use Rattle.frz_arena.proofs.LocalCodes.PlyCodes.{mapped_in, from_mapped}

-- what is said of where arms lead, on both sides
Alike : {A B V : Type 0} → (A → B) → (Next A V → Type 0) → (Next B V → Type 0) → Type 0
Alike {A} {B} {V} name P R = (x : Next A V) → P x ↔ R (named_next name x)

-- statements that are alike on both sides stay alike when joined by or, or by and
either_alike : {P Q R S : Type 0} → (P ↔ R) → (Q ↔ S) → (P ⊎ Q) ↔ (R ⊎ S)
either_alike h k = (
  elim [ inl p ↦ inl (h.0 p) | inr q ↦ inr (k.0 q) ],
  elim [ inl r ↦ inl (h.1 r) | inr s ↦ inr (k.1 s) ],
)

both_alike : {P Q R S : Type 0} → (P ↔ R) → (P → (Q ↔ S)) → (P × Q) ↔ (R × S)
both_alike h k = (
  λ w. (h.0 w.0, (k w.0).0 w.1),
  λ w. (let p = h.1 w.0 in (p, (k p).1 w.1)),
)

all_alike : {P Q T R S U : Type 0} → (P ↔ R) → (P → (Q ↔ S)) → (P → (T ↔ U)) →
    (P × Q × T) ↔ (R × S × U)
all_alike h k l = (
  λ w. (h.0 w.0, (k w.0).0 w.1, (l w.0).0 w.2),
  λ w. (let p = h.1 w.0 in (p, (k p).1 w.1, (l p).1 w.2)),
)

-- the least number of what is alike is alike
least_alike : {P R : ℕ → Type 0} → ((n : ℕ) → P n ↔ R n) → (n : ℕ) →
    (P n × ((k : ℕ) → k < n → P k → ⊥)) ↔ (R n × ((k : ℕ) → k < n → R k → ⊥))
least_alike h n =
    both_alike (h n) (λ _. (λ none k l r. none k l ((h k).1 r), λ none k l p. none k l ((h k).0 p)))

never_alike : {P R : ℕ → Type 0} → ((n : ℕ) → P n ↔ R n) →
    ((n : ℕ) → P n → ⊥) ↔ ((n : ℕ) → R n → ⊥)
never_alike h = (λ none n r. none n ((h n).1 r), λ none n p. none n ((h n).0 p))

module _ {M A B V : Type 0} (name : A → B) (first : Arena M A V) (second : Arena M B V)
    (same : IsNaming name first second) where
  node_there : (p : A) (k : Node) → (first.node p ≡ k) ↔ (second.node (name p) ≡ k)
  node_there p k = (λ e. same.node p ∙ e, λ e. sym (same.node p) ∙ e)

  good_alike : (side : Colour) (n : ℕ) →
      ((q : A) → WinsWithin first side n q ↔ WinsWithin second side n (name q)) →
      Alike name (LeadsTo (WinsWithin first side n) (IsGoodExit first side n))
      (LeadsTo (WinsWithin second side n) (IsGoodExit second side n))
  unfolding Alike
  good_alike side n ih (Inside q) = ih q
  good_alike side n ih (Outside v) = (
    λ h. (same.class v side ∙ h.0, subst (λ z. z ≤ n) (sym (same.lag v)) h.1),
    λ h. (sym (same.class v side) ∙ h.0, subst (λ z. z ≤ n) (same.lag v) h.1),
  )

  bad_alike : (side : Colour) (n : ℕ) →
      ((q : A) → FailsWithin first side n q ↔ FailsWithin second side n (name q)) →
      Alike name (LeadsTo (FailsWithin first side n) (IsBadExit first side))
      (LeadsTo (FailsWithin second side n) (IsBadExit second side))
  unfolding Alike
  bad_alike side n ih (Inside q) = ih q
  bad_alike side n ih (Outside v) =
      (λ h. same.class v side ∙ h, λ h. sym (same.class v side) ∙ h)

  -- the arms of a named position
  arm_there : (p : A) (mover : Colour) → first.node p ≡ Going mover →
      (a : Arm M A V) → IsArm first p a → IsArm second (name p) (named name a)
  arm_there p mover e a h =
      subst (λ xs. Contains xs (named name a)) (sym (same.arms p mover e))
      (mapped_in (named name) (first.arms p) a h)

  arm_back : (p : A) (mover : Colour) → first.node p ≡ Going mover →
      (b : Arm M B V) → IsArm second (name p) b →
      (a : Arm M A V) × IsArm first p a × (named name a ≡ b)
  arm_back p mover e b h =
      from_mapped (named name) (first.arms p) b
      (subst (λ xs. Contains xs b) (same.arms p mover e) h)

  module _ (P : Next A V → Type 0) (R : Next B V → Type 0) (k : Alike name P R) (p : A)
      (mover : Colour) (e : first.node p ≡ Going mover) where
    some_there : SomeArm first p P ↔ SomeArm second (name p) R
    unfolding Alike
    some_there = (
      λ h. (named name h.0, arm_there p mover e h.0 h.1, (k h.0.next).0 h.2),
      λ h. (let a = arm_back p mover e h.0 h.1 in
          (a.0, a.1, (k a.0.next).1 (subst (λ z. R z.next) (sym a.2) h.2))),
    )

    each_there : EachArm first p P ↔ EachArm second (name p) R
    unfolding Alike
    each_there = (
      λ h b i. (let a = arm_back p mover e b i in
          subst (λ z. R z.next) a.2 ((k a.0.next).0 (h a.0 a.1))),
      λ h a i. (k a.next).1 (h (named name a) (arm_there p mover e a i)),
    )

    some_free_there : SomeFree first p P ↔ SomeFree second (name p) R
    unfolding Alike
    some_free_there = (
      λ h. (named name h.0, arm_there p mover e h.0 h.1, h.2, (k h.0.next).0 h.3),
      λ h. (let a = arm_back p mover e h.0 h.1 in (
        a.0,
        a.1,
        subst (λ z. z.free ≡ true) (sym a.2) h.2,
        (k a.0.next).1 (subst (λ z. R z.next) (sym a.2) h.3),
      )),
    )

    each_free_there : EachFree first p P ↔ EachFree second (name p) R
    unfolding Alike
    each_free_there = (
      λ h b i t. (let a = arm_back p mover e b i in
          subst (λ z. R z.next) a.2
          ((k a.0.next).0 (h a.0 a.1 (subst (λ z. z.free ≡ true) (sym a.2) t)))),
      λ h a i t. (k a.next).1 (h (named name a) (arm_there p mover e a i) t),
    )

  pub same_wins : (side : Colour) (n : ℕ) (p : A) →
      WinsWithin first side n p ↔ WinsWithin second side n (name p)
  same_wins side zero p = node_there p (Mate (other_of side))
  same_wins side (suc n) p =
      let P = LeadsTo (WinsWithin first side n) (IsGoodExit first side n) in
      let R = LeadsTo (WinsWithin second side n) (IsGoodExit second side n) in
      let k = good_alike side n (same_wins side n) in
      either_alike (same_wins side n p)
      (either_alike (both_alike (node_there p (Going side)) (some_free_there P R k p side))
      (all_alike (node_there p (Going (other_of side))) (some_there P R k p (other_of side))
      (each_there P R k p (other_of side))))

  pub same_fails : (side : Colour) (n : ℕ) (p : A) →
      FailsWithin first side n p ↔ FailsWithin second side n (name p)
  unfolding Alike
  same_fails side zero p =
      either_alike (node_there p (Mate side))
      (both_alike (node_there p (Going side))
      (each_free_there (λ _. ⊥) (λ _. ⊥) (λ _. (λ h. h, λ h. h)) p side))
  same_fails side (suc n) p =
      let P = LeadsTo (FailsWithin first side n) (IsBadExit first side) in
      let R = LeadsTo (FailsWithin second side n) (IsBadExit second side) in
      let k = bad_alike side n (same_fails side n) in
      either_alike (same_fails side n p)
      (either_alike
      (both_alike (node_there p (Going (other_of side))) (some_there P R k p (other_of side)))
      (all_alike (node_there p (Going side)) (some_free_there P R k p side)
      (each_free_there P R k p side)))

  -- a bound is the same under other names
  pub same_bounds : (side : Colour) (p : A) (b : Bound) →
      IsBound first side p b ↔ IsBound second side (name p) b
  same_bounds side p (Wins n) = least_alike (λ k. same_wins side k p) n
  same_bounds side p Holds =
      both_alike (never_alike (λ n. same_wins side n p))
      (λ _. never_alike (λ n. same_fails side n p))
  same_bounds side p (Fails n) = least_alike (λ k. same_fails side k p) n
