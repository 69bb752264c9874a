-- A side never wins and fails at one position.
use Rattle.std.proofs.Common.{◌≡◌, ℕ, zero, suc, inl, inr}
use Rattle.frz_board.specs.declared.man.Colour.{Colour}
use Rattle.frz_board.specs.Men.{other_of}
use Rattle.frz_arena.specs.declared.node.Node.TheVariants.{Mate}
use Rattle.frz_arena.specs.declared.arm.Next.{Next}
use Rattle.frz_arena.specs.declared.arm.Next.TheVariants.{Inside, Outside}
use Rattle.frz_arena.specs.Arena.{Arena}
use Rattle.frz_arena.specs.Plies.{LeadsTo, IsGoodExit, IsBadExit, MovesToGood, WinsWithin, FailsWithin}
use Rattle.frz_arena.proofs.Plies.NodeKinds.{mate_or_going, one_mate, one_mover, good_or_bad}

-- an arm is not good and bad
pub not_good_and_bad : {M N V : Type 0} (arena : Arena M N V) (side : Colour) (P Q : N → Type 0)
    (n : ℕ) → ((q : N) → P q → Q q → ⊥) → (x : Next N V) → LeadsTo P (IsGoodExit arena side n) x
    → LeadsTo Q (IsBadExit arena side) x → ⊥
not_good_and_bad arena side P Q n none (Inside q) g b = none q g b
not_good_and_bad arena side P Q n none (Outside v) g b = good_or_bad g.0 b

-- what is mated does not move to what is bad
pub mated_is_not_lost : {M N V : Type 0} (arena : Arena M N V) (side : Colour) (m : ℕ) (p : N) →
    arena.node p ≡ Mate (other_of side) → FailsWithin arena side m p → ⊥
mated_is_not_lost arena side zero p w (inl f) = one_mate side f w
mated_is_not_lost arena side zero p w (inr f) = mate_or_going (other_of side) side w f.0
mated_is_not_lost arena side (suc m) p w (inl f) = mated_is_not_lost arena side m p w f
mated_is_not_lost arena side (suc m) p w (inr (inl f)) =
    mate_or_going (other_of side) (other_of side) w f.0
mated_is_not_lost arena side (suc m) p w (inr (inr f)) = mate_or_going (other_of side) side w f.0

-- what moves to what is good does not fail, if what wins in fewer plies does not
pub mover_is_not_lost : {M N V : Type 0} (arena : Arena M N V) (side : Colour) (n : ℕ) →
    ((m : ℕ) (q : N) → WinsWithin arena side n q → FailsWithin arena side m q → ⊥) →
    (m : ℕ) (p : N) →
    MovesToGood arena side (LeadsTo (WinsWithin arena side n) (IsGoodExit arena side n)) p →
    FailsWithin arena side m p → ⊥
mover_is_not_lost arena side n ih zero p (inl w) (inl f) = mate_or_going side side f w.0
mover_is_not_lost arena side n ih zero p (inr w) (inl f) = mate_or_going side (other_of side) f w.0
mover_is_not_lost arena side n ih zero p (inl w) (inr f) = f.1 w.1.0 w.1.1 w.1.2
mover_is_not_lost arena side n ih zero p (inr w) (inr f) = one_mover side f.0 w.0
mover_is_not_lost arena side n ih (suc m) p w (inl f) = mover_is_not_lost arena side n ih m p w f
mover_is_not_lost arena side n ih (suc m) p (inl w) (inr (inl f)) = one_mover side w.0 f.0
mover_is_not_lost arena side n ih (suc m) p (inr w) (inr (inl f)) =
    not_good_and_bad arena side (WinsWithin arena side n) (FailsWithin arena side m) n
    (ih m) f.1.0.next (w.2 f.1.0 f.1.1) f.1.2
mover_is_not_lost arena side n ih (suc m) p (inl w) (inr (inr f)) =
    not_good_and_bad arena side (WinsWithin arena side n) (FailsWithin arena side m) n
    (ih m) w.1.0.next w.1.3 (f.2 w.1.0 w.1.1 w.1.2)
mover_is_not_lost arena side n ih (suc m) p (inr w) (inr (inr f)) = one_mover side f.0 w.0

pub never_both : {M N V : Type 0} (arena : Arena M N V) (side : Colour) (n m : ℕ) (p : N) →
    WinsWithin arena side n p → FailsWithin arena side m p → ⊥
never_both arena side zero m p w f = mated_is_not_lost arena side m p w f
never_both arena side (suc n) m p (inl w) f = never_both arena side n m p w f
never_both arena side (suc n) m p (inr w) f =
    mover_is_not_lost arena side n (never_both arena side n) m p w f
