-- Where one more ply changes nothing, no further ply does.
use Rattle.std.proofs.Common.{◌≡◌, ◌≤◌, ℕ, zero, suc, inl, inr, refl, arith}
use Rattle.frz_board.specs.declared.man.Colour.{Colour}
use Rattle.frz_arena.specs.declared.class.Class.TheVariants.{Good}
use Rattle.frz_arena.specs.declared.arm.Arm.{Arm}
use Rattle.frz_arena.specs.declared.arm.Next.{Next}
use Rattle.frz_arena.specs.declared.arm.Next.TheVariants.{Inside, Outside}
use Rattle.frz_arena.specs.Arena.{Arena, IsArm}
use Rattle.frz_arena.specs.Plies.{LeadsTo, IsGoodExit, IsBadExit, MovesToGood, MovesToBad, WinsWithin, FailsWithin, LagsWithin}
use Rattle.frz_arena.proofs.Plies.Opposed.{wins_later, fails_at_once}

-- a position that moves to where P holds moves to where R holds, if each of its arms with P has R
pub moves_better : {M N V : Type 0} (arena : Arena M N V) (side : Colour) (P R : Next N V → Type 0)
    (p : N) → ((a : Arm M N V) → IsArm arena p a → P a.next → R a.next) → MovesToGood arena side P p
    → MovesToGood arena side R p
moves_better arena side P R p f (inl w) = inl (w.0, (w.1.0, w.1.1, w.1.2, f w.1.0 w.1.1 w.1.3))
moves_better arena side P R p f (inr w) =
    inr (w.0, (w.1.0, w.1.1, f w.1.0 w.1.1 w.1.2), λ a i. f a i (w.2 a i))

pub moves_worse : {M N V : Type 0} (arena : Arena M N V) (side : Colour) (P R : Next N V → Type 0) →
    ((x : Next N V) → P x → R x) → (p : N) → MovesToBad arena side P p → MovesToBad arena side R p
moves_worse arena side P R f p (inl w) = inl (w.0, (w.1.0, w.1.1, f w.1.0.next w.1.2))
moves_worse arena side P R f p (inr w) =
    inr (w.0, (w.1.0, w.1.1, w.1.2, f w.1.0.next w.1.3), λ a i t. f a.next (w.2 a i t))

good_still : {M N V : Type 0} (arena : Arena M N V) (side : Colour) (n k : ℕ) →
    ((q : N) → WinsWithin arena side n q → WinsWithin arena side k q) → (x : Next N V) →
    ((v : V) → x ≡ Outside v → arena.class v side ≡ Good → arena.lag v ≤ k) →
    LeadsTo (WinsWithin arena side n) (IsGoodExit arena side n) x →
    LeadsTo (WinsWithin arena side k) (IsGoodExit arena side k) x
good_still arena side n k f (Inside q) lags h = f q h
good_still arena side n k f (Outside v) lags h = (h.0, lags v refl h.0)

bad_still : {M N V : Type 0} (arena : Arena M N V) (side : Colour) (n k : ℕ) →
    ((q : N) → FailsWithin arena side n q → FailsWithin arena side k q) → (x : Next N V) →
    LeadsTo (FailsWithin arena side n) (IsBadExit arena side) x →
    LeadsTo (FailsWithin arena side k) (IsBadExit arena side) x
bad_still arena side n k f (Inside q) h = f q h
bad_still arena side n k f (Outside v) h = h

pub wins_stay : {M N V : Type 0} (arena : Arena M N V) (side : Colour) (k : ℕ) →
    LagsWithin arena side k →
    ((p : N) → WinsWithin arena side (suc k) p → WinsWithin arena side k p) → (n : ℕ) (p : N) →
    WinsWithin arena side n p → WinsWithin arena side k p
wins_stay arena side k lags still zero p w = wins_later arena side zero k p (omega arith) w
wins_stay arena side k lags still (suc n) p (inl w) = wins_stay arena side k lags still n p w
wins_stay arena side k lags still (suc n) p (inr m) =
    still p (inr (moves_better arena side _ _ p
    (λ a i. good_still arena side n k (wins_stay arena side k lags still n) a.next
    (λ v. lags p a v i)) m))

pub fails_stay : {M N V : Type 0} (arena : Arena M N V) (side : Colour) (k : ℕ) →
    ((p : N) → FailsWithin arena side (suc k) p → FailsWithin arena side k p) → (n : ℕ) (p : N) →
    FailsWithin arena side n p → FailsWithin arena side k p
fails_stay arena side k still zero p f = fails_at_once arena side k p f
fails_stay arena side k still (suc n) p (inl f) = fails_stay arena side k still n p f
fails_stay arena side k still (suc n) p (inr m) =
    still p (inr (moves_worse arena side _ _
    (bad_still arena side n k (fails_stay arena side k still n)) p m))
