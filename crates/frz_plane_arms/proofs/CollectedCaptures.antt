-- Captures of a king, collected square by square.
use Rattle.std.proofs.Common.{◌≡◌, ℕ, ◌+◌, ◌<◌, ◌≤◌, true, Some, List, [], ◌∷◌, ◌++◌, length, subst, arith, inl, inr}
use Rattle.std.specs.List.{slice_get}
use Rattle.std.proofs.lemmas.Bool.{cases_eq}
use Rattle.frz_board.specs.Boards.{Board, holds}
use Rattle.frz_board.specs.Men.{other_of}
use Rattle.frz_sets.specs.Views.{GroupLine}
use Rattle.frz_pair_moves.specs.Moves.{entered}
use Rattle.frz_plane_arms.specs.Arms.{MakesMember}
use Rattle.frz_plane_arms.specs.Inner.{AreKingArms, HasKingArm, HasNoCapture, IsKingArm}
use Rattle.frz_plane_arms.specs.declared.taking.KingArm.{KingArm}
use Rattle.frz_plane_arms.proofs.CollectedArms.{kept, last, old_or_last}

-- the arms of the squares below n
pub record AreKingArmsBelow (gs : List GroupLine) (p : Board) (arms : List KingArm) (n : ℕ) : Type 0 where
  pub each : (k : ℕ) (arm : KingArm) → slice_get arms k ≡ Some arm → IsKingArm gs p arm
  pub all : (s a b : ℕ) → s < n → holds p (other_of p.turn) s ≡ true →
      MakesMember gs (entered p s) a b → HasKingArm arms s

module _ (gs : List GroupLine) (p : Board) where
  pub none_below : AreKingArmsBelow gs p [] 0
  none_below = record {
    each = λ k arm h. absurd cc;
    all = λ s a b l held made. absurd (omega arith);
  }

  -- no capture on square n makes a position of the set
  pub passed_over : (arms : List KingArm) (n : ℕ) → AreKingArmsBelow gs p arms n →
      HasNoCapture gs p n → AreKingArmsBelow gs p arms (n + 1)
  passed_over arms n h none = record { each = h.each; all = all }
    where
      all : (s a b : ℕ) → s < n + 1 → holds p (other_of p.turn) s ≡ true →
          MakesMember gs (entered p s) a b → HasKingArm arms s
      all s a b l held made =
          elim (cases_eq s n) [
            | inl e ↦ absurd (none
                (subst (λ (x : ℕ). holds p (other_of p.turn) x ≡ true) e held) a b
                (subst (λ (x : ℕ). MakesMember gs (entered p x) a b) e made))
            | inr ne ↦ h.all s a b (omega arith) held made
          ]

  -- the arm of square n
  pub one_more : (arms : List KingArm) (arm : KingArm) (n : ℕ) → AreKingArmsBelow gs p arms n →
      IsKingArm gs p arm → arm.square ≡ n → AreKingArmsBelow gs p (arms ++ arm ∷ []) (n + 1)
  one_more arms arm n h is square = record { each = each; all = all }
    where
      each : (j : ℕ) (x : KingArm) → slice_get (arms ++ arm ∷ []) j ≡ Some x → IsKingArm gs p x
      each j x there =
          elim (old_or_last arms arm x j there) [
            | inl old ↦ h.each j x old
            | inr e ↦ subst (IsKingArm gs p) e is
          ]

      all : (s a b : ℕ) → s < n + 1 → holds p (other_of p.turn) s ≡ true →
          MakesMember gs (entered p s) a b → HasKingArm (arms ++ arm ∷ []) s
      all s a b l held made =
          elim (cases_eq s n) [
            | inl e ↦ record {
              place = length arms;
              arm = arm;
              there = last arms arm;
              square = cc;
            }
            | inr ne ↦ (let old = h.all s a b (omega arith) held made in
                record {
                  place = old.place;
                  arm = old.arm;
                  there = kept arms arm old.arm old.place old.there;
                  square = old.square;
                })
          ]

  -- no square is left
  pub all_there : (arms : List KingArm) (n : ℕ) → AreKingArmsBelow gs p arms n → 64 ≤ n →
      AreKingArms gs p arms
  all_there arms n h end = record {
    each = h.each;
    all = λ s a b l held made. h.all s a b (omega arith) held made;
  }
