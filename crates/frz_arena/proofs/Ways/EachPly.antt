-- What holds of each ply of a way.
use Rattle.std.proofs.Common.{◌≡◌, ◌==◌, ◌&&◌, ℕ, zero, suc, ◌⊎◌, inl, inr, Bool, true, false, List, [], ◌∷◌, sym, subst}
use Rattle.std.specs.List.{Contains}
use Rattle.frz_board.specs.declared.man.Colour.{Colour}
use Rattle.frz_arena.specs.declared.node.Node.TheVariants.{Going}
use Rattle.frz_arena.specs.declared.arm.Next.{Next}
use Rattle.frz_arena.specs.declared.arm.Next.TheVariants.{Inside, Outside}
use Rattle.frz_arena.specs.Codes.{is_win, is_failure}
use Rattle.frz_arena.specs.LocalCodes.{arm_code, next_code, local_code}
use Rattle.frz_arena.specs.Plies.{LeadsTo}
use Rattle.frz_arena.specs.WayEnds.{End, Exit}
use Rattle.frz_arena.specs.Ways.{Player, Ply, IsPlyOf, IsWay}
use Rattle.frz_arena.proofs.Lists.Members.{none_in_empty, in_cases}
use Rattle.frz_arena.proofs.Ways.FoundArms.{win_or_hold, win_is_no_failure}
use Rattle.frz_arena.proofs.Ways.Stages.{IsSound}
use Rattle.frz_arena.proofs.Ways.WayParts.{moving, ply_of}

second_false : (b : Bool) (k : ℕ) → k ≡ 0 → ((k == 0) && b) ≡ false → b ≡ false
second_false b zero e h = h
second_false b (suc k) e h = absurd (cc)

-- where a ply is due, a position that does not fail, or where a way starts, has a win or a hold
pub stands_due : {M N V S R : Type 0} (player : Player M N V S R) (k : ℕ) (p : N) (mover : Colour)
    → IsSound player k p → player.arena.node p ≡ Going mover
    → (k ≡ 0) ⊎ (is_failure (player.entry p) ≡ false)
    → (is_win (player.entry p) ≡ true) ⊎ (player.entry p ≡ 1)
stands_due player k p mover sound goes start =
    win_or_hold player.arena player.side player.entry mover p goes sound.agrees
    (elim start [
      | inl z ↦ second_false (is_failure (player.entry p)) k z sound.starts
      | inr f ↦ f
    ])

-- the first ply of a way whose start does not fail
pub first_ply : {M N V S R : Type 0} (player : Player M N V S R) (k : ℕ) (s t : S) (p : N)
    (x : Ply M N V) (xs : List (Ply M N V)) (e : End N V R)
    → (k ≡ 0) ⊎ (is_failure (player.entry p) ≡ false) → IsWay player k s p (x ∷ xs) e t
    → IsPlyOf player x
first_ply player k s t p x xs e start w =
    let m = moving player k p x.mover w.1 in
    let from = sym w.0 in
    let agrees : player.entry x.from ≡ local_code player.arena player.side player.entry x.from =
    subst (λ q. player.entry q ≡ local_code player.arena player.side player.entry q) from
    m.0.agrees in
    let goes : player.arena.node x.from ≡ Going x.mover = subst
    (λ q. player.arena.node q ≡ Going x.mover) from m.1 in
    let stands = subst (λ q. (is_win (player.entry q) ≡ true) ⊎ (player.entry q ≡ 1)) from
    (stands_due player k p x.mover m.0 m.1 start) in
    ply_of player s w.2.0 x agrees goes stands w.2.1

pub never_fails : {M N V S R : Type 0} (player : Player M N V S R) (x : Ply M N V) →
    IsPlyOf player x → is_failure (arm_code player.arena player.side player.entry x.arm) ≡ false
never_fails player x h =
    elim (h.stands) [
      | inl w ↦ win_is_no_failure
          (arm_code player.arena player.side player.entry x.arm) (h.win w).0
      | inr o ↦ h.hold o
    ]

each_after : {M N V S R : Type 0} (player : Player M N V S R) (k : ℕ) (s t : S)
    (xs : List (Ply M N V)) (e : End N V R)
    → ((p : N) → is_failure (player.entry p) ≡ false → IsWay player k s p xs e t → (x : Ply M N V)
    → Contains xs x → IsPlyOf player x) → (y : Next N V)
    → is_failure (next_code player.arena player.side player.entry y) ≡ false
    → LeadsTo (λ q. IsWay player k s q xs e t) (λ v. (xs ≡ []) × (e ≡ Exit v) × (t ≡ s)) y
    → (x : Ply M N V) → Contains xs x → IsPlyOf player x
each_after player k s t xs e ih (Inside q) f w x i = ih q f w x i
each_after player k s t xs e ih (Outside v) f w x i =
    absurd (none_in_empty x (subst (λ ys. Contains ys x) w.0 i))

pub each_ply : {M N V S R : Type 0} (player : Player M N V S R) (k : ℕ) (s t : S) (p : N)
    (xs : List (Ply M N V)) (e : End N V R) → (k ≡ 0) ⊎ (is_failure (player.entry p) ≡ false)
    → IsWay player k s p xs e t → (x : Ply M N V) → Contains xs x → IsPlyOf player x
each_ply player k s t p [] e start w x i = absurd (none_in_empty x i)
each_ply player k s t p (y ∷ xs) e start w x i =
    let f = first_ply player k s t p y xs e start w in
    elim (in_cases y xs x i) [
      | inl z ↦ subst (λ q. IsPlyOf player q) z f
      | inr j ↦
          each_after player (suc k) w.2.0 t xs e
          (λ q g v. each_ply player (suc k) w.2.0 t q xs e (inr g) v) y.arm.next
          (never_fails player y f) w.2.2 x j
    ]
