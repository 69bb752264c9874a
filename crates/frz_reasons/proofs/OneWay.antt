-- From a failure there is exactly one failing way.
use Rattle.std.proofs.Common.{◌≡◌, ◌≢◌, ◌≤◌, ◌+◌, ℕ, zero, suc, true, List, [], ◌∷◌, refl, sym, subst, ap, ◌∙◌, slice_index, arith}
use Rattle.frz_board.specs.declared.man.Colour.{Colour}
use Rattle.frz_board.specs.Moving.{Step}
use Rattle.frz_sets.specs.declared.exit.Value.{Value}
use Rattle.frz_arena.specs.declared.arm.Arm.{Arm}
use Rattle.frz_arena.specs.declared.arm.Next.{Next}
use Rattle.frz_arena.specs.declared.arm.Next.TheVariants.{Inside, Outside}
use Rattle.frz_arena.specs.declared.node.Node.TheVariants.{Mate, Going}
use Rattle.frz_arena.specs.Arena.{Arena, IsArm}
use Rattle.frz_arena.specs.Codes.{is_failure}
use Rattle.frz_arena.specs.LocalCodes.{next_code}
use Rattle.frz_reasons.specs.declared.reason.Reason.{Reason}
use Rattle.frz_reasons.specs.declared.reason.Reason.TheVariants.{Wrong, Mated, Renounced, Left}
use Rattle.frz_reasons.specs.LocalEntries.{Agrees, wrong_at}
use Rattle.frz_reasons.specs.FailingWays.{IsPlayedAt, FailsFrom, wrong, mated, renounced, leaves, goes_on}
use Rattle.frz_reasons.specs.FailuresTell.{FailsAt, code_behind}
use Rattle.frz_reasons.proofs.Codes.{failure_least}
use Rattle.frz_reasons.proofs.MovePlayed.{one_played, played_arm, played_free, PlaysOn, plays_on, ComesOf, is_wrong, is_mated, is_renounced, is_played, comes_of}

module _ (arena : Arena Step ℕ Value) (side : Colour) (codes : List ℕ) where
  -- the way whose moves and reason are these
  pub record Way (number : ℕ) : Type 0 where
    pub arms : List (Arm Step ℕ Value)
    pub reason : Reason
    pub way : FailsFrom arena side codes number arms reason

  -- the way behind a move that is played
  pub record Behind (number : ℕ) (a : Arm Step ℕ Value) : Type 0 where
    pub rest : List (Arm Step ℕ Value)
    pub reason : Reason
    pub way : FailsFrom arena side codes number (a ∷ rest) reason

  way_after : (number : ℕ) (a : Arm Step ℕ Value) → IsPlayedAt arena side codes number a
      → PlaysOn arena side codes number a
      → ((q : ℕ) → slice_index codes q + 2 ≡ slice_index codes number
      → is_failure (slice_index codes q) ≡ true → Way q)
      → (next : Next ℕ Value) → a.next ≡ next → Behind number a
  way_after number a p on later (Inside q) e =
      let code : code_behind arena side codes a ≡ slice_index codes q =
      ap (next_code arena side (λ k. slice_index codes k)) e in
      let rest = later q (ap (λ k. k + 2) (sym code) ∙ on.less)
      (subst (λ k. is_failure k ≡ true) code on.failing) in
      record { rest = rest.arms; reason = rest.reason; way = goes_on a q p e rest.way }
  way_after number a p on later (Outside v) e =
      record { rest = []; reason = Left number a.mv v; way = leaves a v p e }

  module _ (tells : (n : ℕ) → is_failure (slice_index codes n) ≡ true →
      Agrees arena side codes n → FailsAt arena side codes n) where
    way_by : (number : ℕ) → ComesOf arena side codes number
        → ((q : ℕ) → slice_index codes q + 2 ≡ slice_index codes number
        → is_failure (slice_index codes q) ≡ true → Way q) → Way number
    way_by number (is_wrong d) later =
        record { arms = []; reason = Wrong (wrong_at arena side codes number); way = wrong d }
    way_by number (is_mated agrees n) later =
        record { arms = []; reason = Mated; way = mated agrees n }
    way_by number (is_renounced agrees n none) later =
        record { arms = []; reason = Renounced; way = renounced agrees n none }
    way_by number (is_played a p on) later =
        let behind = way_after number a p on later a.next refl in
        record { arms = a ∷ behind.rest; reason = behind.reason; way = behind.way }

    way_within : (most number : ℕ) → slice_index codes number ≤ most
        → is_failure (slice_index codes number) ≡ true → Way number
    way_within zero number few failing =
        absurd (let l = failure_least (slice_index codes number) failing in omega arith)
    way_within (suc most) number few failing =
        way_by number (comes_of arena side codes tells number failing)
        (λ q less f. way_within most q (omega (arith, less)) f)

    pub way_there : (number : ℕ) → is_failure (slice_index codes number) ≡ true → Way number
    way_there number failing =
        way_within (slice_index codes number) number (omega arith) failing

    pub way_behind : (number : ℕ) → is_failure (slice_index codes number) ≡ true
        → (a : Arm Step ℕ Value) → IsPlayedAt arena side codes number a → Behind number a
    way_behind number failing a p =
        way_after number a p
        (plays_on arena side codes number (tells number failing p.agrees) a p)
        (λ q less f. way_there q f) a.next refl

  mated_stays : (number : ℕ) (a : Arm Step ℕ Value) → arena.node number ≡ Mate side
      → IsPlayedAt arena side codes number a → ⊥
  mated_stays number a n p = let turn = p.turn in let e = sym n ∙ turn in cc

  renounced_stays : (number : ℕ) (a : Arm Step ℕ Value) → arena.node number ≡ Going side
      → ((b : Arm Step ℕ Value) → IsArm arena number b → b.free ≢ true)
      → IsPlayedAt arena side codes number a → ⊥
  renounced_stays number a n none p =
      none a (played_arm arena side codes number a p) (played_free arena side codes number a p n)

  mated_going : (number : ℕ) → arena.node number ≡ Mate side → arena.node number ≡ Going side → ⊥
  mated_going number m g = let e = sym m ∙ g in cc

  same_value : (number : ℕ) (a b : Arm Step ℕ Value) (v w : Value) → a ≡ b → a.next ≡ Outside v →
      b.next ≡ Outside w → Left number a.mv v ≡ Left number b.mv w
  same_value number a b v w e f g =
      let h : Outside v ≡ Outside w = sym f ∙ (ap (λ (x : Arm Step ℕ Value). x.next) e ∙ g) in
      let k : v ≡ w = cc in
      let m : a.mv ≡ b.mv = ap (λ (x : Arm Step ℕ Value). x.mv) e in
      cc

  never_in_and_out : (a b : Arm Step ℕ Value) (q : ℕ) (v : Value) → a ≡ b → a.next ≡ Inside q →
      b.next ≡ Outside v → ⊥
  never_in_and_out a b q v e f g =
      let h : Inside q ≡ Outside v = sym f ∙ (ap (λ (x : Arm Step ℕ Value). x.next) e ∙ g) in cc

  same_place : (a b : Arm Step ℕ Value) (q r : ℕ) → a ≡ b → a.next ≡ Inside q →
      b.next ≡ Inside r → q ≡ r
  same_place a b q r e f g =
      let h : Inside q ≡ Inside r = sym f ∙ (ap (λ (x : Arm Step ℕ Value). x.next) e ∙ g) in cc

  pub one_way : (i : ℕ) (xs ys : List (Arm Step ℕ Value)) (e f : Reason)
      → FailsFrom arena side codes i xs e → FailsFrom arena side codes i ys f
      → (xs ≡ ys) × (e ≡ f)
  one_way i xs ys e f (wrong d) (wrong c) = (refl, refl)
  one_way i xs ys e f (wrong d) (mated c n) = absurd (d c)
  one_way i xs ys e f (wrong d) (renounced c n none) = absurd (d c)
  one_way i xs ys e f (wrong d) (leaves b w q out) = absurd (d q.agrees)
  one_way i xs ys e f (wrong d) (goes_on b r q on rest) = absurd (d q.agrees)
  one_way i xs ys e f (mated c n) (wrong d) = absurd (d c)
  one_way i xs ys e f (mated c n) (mated d m) = (refl, refl)
  one_way i xs ys e f (mated c n) (renounced d m none) = absurd (mated_going i n m)
  one_way i xs ys e f (mated c n) (leaves b w q out) = absurd (mated_stays i b n q)
  one_way i xs ys e f (mated c n) (goes_on b r q on rest) = absurd (mated_stays i b n q)
  one_way i xs ys e f (renounced c n none) (wrong d) = absurd (d c)
  one_way i xs ys e f (renounced c n none) (mated d m) = absurd (mated_going i m n)
  one_way i xs ys e f (renounced c n none) (renounced d m nothing) = (refl, refl)
  one_way i xs ys e f (renounced c n none) (leaves b w q out) =
      absurd (renounced_stays i b n none q)
  one_way i xs ys e f (renounced c n none) (goes_on b r q on rest) =
      absurd (renounced_stays i b n none q)
  one_way i xs ys e f (leaves a v p out) (wrong d) = absurd (d p.agrees)
  one_way i xs ys e f (leaves a v p out) (mated c n) = absurd (mated_stays i a n p)
  one_way i xs ys e f (leaves a v p out) (renounced c n none) =
      absurd (renounced_stays i a n none p)
  one_way i xs ys e f (leaves a v p out) (leaves b w q left) =
      let same = one_played arena side codes i a b p q in
      (ap (λ (x : Arm Step ℕ Value). x ∷ []) same, same_value i a b v w same out left)
  one_way i xs ys e f (leaves a v p out) (goes_on b r q on rest) =
      absurd (never_in_and_out b a r v (one_played arena side codes i b a q p) on out)
  one_way i xs ys e f (goes_on a k p on rest) (wrong d) = absurd (d p.agrees)
  one_way i xs ys e f (goes_on a k p on rest) (mated c n) = absurd (mated_stays i a n p)
  one_way i xs ys e f (goes_on a k p on rest) (renounced c n none) =
      absurd (renounced_stays i a n none p)
  one_way i xs ys e f (goes_on a k p on rest) (leaves b w q out) =
      absurd (never_in_and_out a b k w (one_played arena side codes i a b p q) on out)
  one_way i xs ys e f (goes_on {arms = more} a k p on rest) (goes_on {arms = others} b r q gone left) =
      let same = one_played arena side codes i a b p q in
      let at = same_place a b k r same on gone in
      let go = one_way r more others e f
      (subst (λ n. FailsFrom arena side codes n more e) at rest) left in
      let first = same in
      let behind = go.0 in
      (cc, go.1)
