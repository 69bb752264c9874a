-- A way from code 0 ends at once, as wrong.
use Rattle.std.proofs.Common.{◌≡◌, ℕ, inl, inr, List, [], ◌∷◌, refl, sym, ◌∙◌, arith}
use Rattle.frz_arena.specs.LocalCodes.{local_code}
use Rattle.frz_board.specs.declared.man.Colour.{Colour}
use Rattle.frz_arena.specs.WayEnds.{End, Wrong}
use Rattle.frz_arena.specs.Ways.{Player, Ply, Moves, stage, IsWay}
use Rattle.frz_arena.proofs.LocalCodes.ChosenCodes.{failure_above}
use Rattle.frz_arena.proofs.LocalCodes.OnePly.{broken_of_code}
use Rattle.frz_arena.proofs.Ways.KeptWays.{mate_code}
use Rattle.frz_arena.proofs.LocalCodes.PlyCodes.{at_stale}
use Rattle.frz_arena.proofs.Ways.Stages as stages
use Rattle.frz_arena.proofs.Ways.Stages.{stage_is}
use Rattle.frz_arena.proofs.Ways.WayParts.{moving, cut_is}

-- no ply is due there
none_due : {M N V S R : Type 0} (player : Player M N V S R) (k : ℕ) (p : N) (mover : Colour) →
    player.entry p ≡ 0 → stage player k p ≡ Moves mover → ⊥
none_due player k p mover z o =
    let m = moving player k p mover o in
    let b = broken_of_code player.arena player.side player.entry p (sym m.0.agrees ∙ z) in
    let g = m.1 in
    cc

with_zero : {N V R : Type 0} (e : End N V R) (p : N) (kept given : ℕ) → kept ≡ 0 →
    e ≡ Wrong p kept given → e ≡ Wrong p 0 given
with_zero e p kept given z f = cc

pub zero_way : {M N V S R : Type 0} (player : Player M N V S R) (k : ℕ) (s t : S) (p : N)
    (xs : List (Ply M N V)) (e : End N V R) → player.entry p ≡ 0 → IsWay player k s p xs e t
    → (xs ≡ []) × ((given : ℕ) × (e ≡ Wrong p 0 given))
zero_way player k s t p [] e z (inl h) =
    let o = h.0 in
    elim (stage_is player k p) [
      | stages.wrong n f ↦ (
        refl,
        (
          local_code player.arena player.side player.entry p,
          with_zero e p (player.entry p)
              (local_code player.arena player.side player.entry p) z (cc),
        ),
      )
      | stages.fails a f g ↦ absurd
          (let l = failure_above (player.entry p) f in omega (arith, l, z))
      | stages.broken d b f ↦ (refl, (0, with_zero e p (player.entry p) 0 z (cc)))
      | stages.mated d m b f ↦ absurd
          (elim (mate_code player p m d.agrees b) [
            | inl three ↦ omega (arith, three, z)
            | inr two ↦ (let l = two.1 in omega (arith, l, z))
          ])
      | stages.stale d m b f ↦ absurd
          (let l = d.agrees ∙ at_stale player.arena player.side player.entry p m b in
          omega (arith, l, z))
      | stages.cut d m b u f ↦ absurd
          (let l = (cut_is player.opponent k (player.entry p) u).0 in omega (arith, l, z))
      | stages.moves d m b u f ↦ absurd (cc)
    ]
zero_way player k s t p [] e z (inr h) = absurd (none_due player k p h.0 z h.1)
zero_way player k s t p (x ∷ xs) e z h = absurd (none_due player k p x.mover z h.1)
