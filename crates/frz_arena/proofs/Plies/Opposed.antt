-- Where one side wins, the other fails.
use Rattle.std.proofs.Common.{◌≤◌, ℕ, zero, suc, inl, inr, sym, ap, ◌∙◌}
use Rattle.frz_board.specs.declared.man.Colour.{Colour}
use Rattle.frz_board.specs.Men.{other_of}
use Rattle.frz_board.proofs.Lemmas.{other_other}
use Rattle.frz_arena.specs.declared.node.Node.TheVariants.{Going}
use Rattle.frz_arena.specs.declared.arm.Arm.{Arm}
use Rattle.frz_arena.specs.declared.arm.Next.{Next}
use Rattle.frz_arena.specs.declared.arm.Next.TheVariants.{Inside, Outside}
use Rattle.frz_arena.specs.Arena.{Arena, IsArm, IsLawful}
use Rattle.frz_arena.specs.Plies.{LeadsTo, IsGoodExit, IsBadExit, IsLost, WinsWithin, FailsWithin}
use Rattle.frz_arena.proofs.Plies.Later.{later}
use Rattle.frz_arena.proofs.Lists.Members.{passes_or_none}

-- a win within n plies is one within k more
pub wins_later : {M N V : Type 0} (arena : Arena M N V) (side : Colour) (n k : ℕ) (p : N) → n ≤ k →
    WinsWithin arena side n p → WinsWithin arena side k p
wins_later arena side n k p h w = later (λ i. WinsWithin arena side i p) (λ _ v. inl v) n k h w

pub fails_later : {M N V : Type 0} (arena : Arena M N V) (side : Colour) (n k : ℕ) (p : N) → n ≤ k →
    FailsWithin arena side n p → FailsWithin arena side k p
fails_later arena side n k p h f = later (λ i. FailsWithin arena side i p) (λ _ v. inl v) n k h f

pub fails_at_once : {M N V : Type 0} (arena : Arena M N V) (side : Colour) (n : ℕ) (p : N) →
    IsLost arena side p → FailsWithin arena side n p
fails_at_once arena side zero p f = f
fails_at_once arena side (suc n) p f = inl (fails_at_once arena side n p f)

pub good_is_bad : {M N V : Type 0} (arena : Arena M N V) → IsLawful arena →
    (side : Colour) (n : ℕ) →
    ((q : N) → WinsWithin arena side n q → FailsWithin arena (other_of side) n q) → (x : Next N V) →
    LeadsTo (WinsWithin arena side n) (IsGoodExit arena side n) x →
    LeadsTo (FailsWithin arena (other_of side) n) (IsBadExit arena (other_of side)) x
good_is_bad arena law side n ih (Inside q) w = ih q w
good_is_bad arena law side n ih (Outside v) w = law.opposed v side w.0

pub wins_gives_fails : {M N V : Type 0} (arena : Arena M N V) → IsLawful arena →
    (side : Colour) (n : ℕ) (p : N) → WinsWithin arena side n p →
    FailsWithin arena (other_of side) n p
wins_gives_fails arena law side zero p w = inl w
wins_gives_fails arena law side (suc n) p (inl w) = inl (wins_gives_fails arena law side n p w)
wins_gives_fails arena law side (suc n) p (inr (inl w)) =
    inr (inl (
      w.0 ∙ ap Going (sym (other_other side)),
      (
        w.1.0,
        w.1.1,
        good_is_bad arena law side n (wins_gives_fails arena law side n) w.1.0.next
            w.1.3,
      ),
    ))
wins_gives_fails {M} {N} {V} arena law side (suc n) p (inr (inr w)) =
    let bad : (a : Arm M N V) → IsArm arena p a → LeadsTo (FailsWithin arena (other_of side) n)
    (IsBadExit arena (other_of side)) a.next =
    λ a h. good_is_bad arena law side n (wins_gives_fails arena law side n) a.next (w.2 a h) in
    elim (passes_or_none (λ (a : Arm M N V). a.free) (arena.arms p)) [
      | inl f ↦ inr (inr (w.0, (f.0, f.1, f.2, bad f.0 f.1), λ a h _. bad a h))
      | inr none ↦ inl (fails_at_once arena (other_of side) n p (inr (w.0, none)))
    ]
