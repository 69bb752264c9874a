-- What is due at a position of a way, by cases.
use Rattle.std.proofs.Common.{◌≡◌, ◌==◌, ◌&&◌, ℕ, inl, inr, true, false, refl}
use Rattle.std.proofs.lemmas.Bool.{cases_Bool, and_parts, eq-eqb, eqb-true}
use Rattle.frz_board.specs.declared.man.Colour.{Colour}
use Rattle.frz_arena.specs.declared.node.Node.{Node}
use Rattle.frz_arena.specs.declared.node.Node.TheVariants.{Broken, Mate, Stalemate, Going}
use Rattle.frz_arena.specs.Codes.{is_failure}
use Rattle.frz_arena.specs.LocalCodes.{local_code}
use Rattle.frz_arena.specs.WayEnds.{End, Wrong, NoBound, Mated, Stalemated, Cut}
use Rattle.frz_arena.specs.Ways.{Player, Stage, Over, Moves, is_cut, stage_of, stage}

-- the kept code is the local one, and a start does not fail
pub record IsSound {M N V S R : Type 0} (player : Player M N V S R) (plies : ℕ)
    (p : N) : Type 0 where
  pub agrees : player.entry p ≡ local_code player.arena player.side player.entry p
  pub starts : ((plies == 0) && is_failure (player.entry p)) ≡ false

pub data StageIs {M N V S R : Type 0} (player : Player M N V S R) (plies : ℕ) (p : N)
    (x : Stage N V R) : Type 0 where
  wrong : (player.entry p ≡ local_code player.arena player.side player.entry p → ⊥) →
      x ≡ Over (Wrong p (player.entry p) (local_code player.arena player.side player.entry p)) →
      StageIs player plies p x
  fails : player.entry p ≡ local_code player.arena player.side player.entry p →
      is_failure (player.entry p) ≡ true → x ≡ Over NoBound → StageIs player plies p x
  broken : IsSound player plies p → player.arena.node p ≡ Broken →
      x ≡ Over (Wrong p (player.entry p) 0) → StageIs player plies p x
  mated : IsSound player plies p → (mover : Colour) → player.arena.node p ≡ Mate mover →
      x ≡ Over (Mated mover) → StageIs player plies p x
  stale : IsSound player plies p → (mover : Colour) → player.arena.node p ≡ Stalemate mover →
      x ≡ Over (Stalemated mover) → StageIs player plies p x
  cut : IsSound player plies p → (mover : Colour) → player.arena.node p ≡ Going mover →
      is_cut player.opponent plies (player.entry p) ≡ true → x ≡ Over Cut → StageIs player plies p x
  moves : IsSound player plies p → (mover : Colour) → player.arena.node p ≡ Going mover →
      is_cut player.opponent plies (player.entry p) ≡ false → x ≡ Moves mover →
      StageIs player plies p x

stage_of_is : {M N V S R : Type 0} (player : Player M N V S R) (plies : ℕ) (p : N) →
    IsSound player plies p → (node : Node) → player.arena.node p ≡ node →
    StageIs player plies p (stage_of player plies p node)
stage_of_is player plies p sound Broken e = broken sound e refl
stage_of_is player plies p sound (Mate mover) e = mated sound mover e refl
stage_of_is player plies p sound (Stalemate mover) e = stale sound mover e refl
stage_of_is player plies p sound (Going mover) e =
    elim (cases_Bool (is_cut player.opponent plies (player.entry p))) [
      | inl t ↦ cut sound mover e t (rw t refl)
      | inr f ↦ moves sound mover e f (rw f refl)
    ]

pub stage_is : {M N V S R : Type 0} (player : Player M N V S R) (plies : ℕ) (p : N) →
    StageIs player plies p (stage player plies p)
stage_is player plies p =
    elim (cases_Bool (player.entry p == local_code player.arena player.side player.entry p)) [
      | inr f ↦ wrong (λ e.
          (let t = eq-eqb (player.entry p) (local_code player.arena player.side player.entry p)
          e in cc)) (rw f refl)
      | inl t ↦ (let e = eqb-true (player.entry p)
          (local_code player.arena player.side player.entry p) t in
          elim (cases_Bool ((plies == 0) && is_failure (player.entry p))) [
            | inl s ↦
                fails e (and_parts (plies == 0) (is_failure (player.entry p)) s).1 (rw (t, s) refl)
            | inr n ↦
                rw (t, n) (stage_of_is player plies p (record { agrees = e; starts = n })
                (player.arena.node p) refl)
          ])
    ]

-- a way is over there, or a ply is due
pub data OverOrDue {M N V S R : Type 0} (player : Player M N V S R) (plies : ℕ)
    (p : N) : Type 0 where
  over : (end : End N V R) → stage player plies p ≡ Over end → OverOrDue player plies p
  due : IsSound player plies p → (mover : Colour) → player.arena.node p ≡ Going mover →
      is_cut player.opponent plies (player.entry p) ≡ false →
      stage player plies p ≡ Moves mover → OverOrDue player plies p

pub over_or_due : {M N V S R : Type 0} (player : Player M N V S R) (plies : ℕ) (p : N) →
    OverOrDue player plies p
over_or_due player plies p =
    elim (stage_is player plies p) [
      | wrong n e ↦ over _ e
      | fails a f e ↦ over _ e
      | broken d b e ↦ over _ e
      | mated d m b e ↦ over _ e
      | stale d m b e ↦ over _ e
      | cut d m b t e ↦ over _ e
      | moves d m b t e ↦ due d m b t e
    ]
