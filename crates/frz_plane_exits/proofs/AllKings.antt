-- The exits of the king of the side to move, square by square.
use Rattle.std.proofs.Common.{◌≡◌, ℕ, ◌+◌, ◌<◌, Bool, List, ◌⊎◌, subst, arith, inl, inr}
use Rattle.std.proofs.lemmas.Bool.{cases_lt}
use Rattle.frz_board.specs.Boards.{Board}
use Rattle.frz_sets.specs.declared.exit.Value.{Value}
use Rattle.frz_sets.specs.Views.{RuleLines}
use Rattle.frz_plane_exits.specs.Adding.{Adds, KingLeaves, LeavesBy}
use Rattle.frz_plane_exits.specs.declared.exit_plane.ExitPlane.{ExitPlane}
use Rattle.frz_plane_exits.specs.declared.mover.Mover.TheVariants.{King}
use Rattle.frz_plane_exits.proofs.Joining.{both, alike, nothing}

module _ (r : RuleLines) (value : Board → Value) (p : Board) where
  -- his step to a square below n leaves the set
  pub record KingBelow (n : ℕ) (v : Value) (f : Bool) (a b : ℕ) : Type 0 where
    pub square : ℕ
    pub low : square < n
    pub leaves : LeavesBy r value p (King square) v f a b

  pub no_king : (xs : List ExitPlane) → Adds xs xs (KingBelow 0)
  no_king xs = nothing (KingBelow 0) xs (λ v f a b la lb h. let low = h.low in omega arith)

  before_or_this : (n : ℕ) (v : Value) (f : Bool) (a b : ℕ) → a < 64 → b < 64 →
      KingBelow (n + 1) v f a b → KingBelow n v f a b ⊎ LeavesBy r value p (King n) v f a b
  before_or_this n v f a b la lb h =
      let below = h.low in
      elim (cases_lt h.square n) [
        | inl low ↦ inl (record { square = h.square; low = low; leaves = h.leaves })
        | inr high ↦ (let e : h.square ≡ n = omega arith in
            inr (subst (λ (i : ℕ). LeavesBy r value p (King i) v f a b) e h.leaves))
      ]

  pub one_king : (n : ℕ) (xs ys zs : List ExitPlane) → Adds xs ys (KingBelow n) →
      Adds ys zs (LeavesBy r value p (King n)) → Adds xs zs (KingBelow (n + 1))
  one_king n xs ys zs g h =
      both (KingBelow n) (LeavesBy r value p (King n)) (KingBelow (n + 1)) xs ys zs g h
      (λ v f a b la lb w. let low = w.low in
      record { square = w.square; low = omega arith; leaves = w.leaves })
      (λ v f a b la lb w. record { square = n; low = omega arith; leaves = w })
      (before_or_this n)

  pub all_kings : (n : ℕ) (xs ys : List ExitPlane) → n ≡ 64 → Adds xs ys (KingBelow n) →
      Adds xs ys (KingLeaves r value p)
  all_kings n xs ys e h =
      alike (KingBelow n) (KingLeaves r value p) xs ys h
      (λ v f a b la lb w. let low = w.low in
      record { square = w.square; on_board = omega arith; leaves = w.leaves })
      (λ v f a b la lb w. let low = w.on_board in
      record { square = w.square; low = omega arith; leaves = w.leaves })
