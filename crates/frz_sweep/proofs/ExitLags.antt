-- The lags of the exits of a number.
use Rattle.std.proofs.Common.{◌≡◌, ◌≤◌, ℕ, List, refl, sym, subst, ap, ◌∙◌, arith}
use Rattle.std.specs.List.{All, Contains}
use Rattle.std.proofs.lemmas.List.Elements.{All-contains, All-contains_itself}
use Rattle.frz_board.specs.declared.man.Colour.{Colour}
use Rattle.frz_board.specs.Moving.{Step}
use Rattle.frz_sets.specs.declared.exit.Value.{Value}
use Rattle.frz_arena.specs.declared.arm.Arm.{Arm}
use Rattle.frz_arena.specs.declared.arm.Next.{Next}
use Rattle.frz_arena.specs.declared.arm.Next.TheVariants.{Inside, Outside}
use Rattle.frz_arena.specs.declared.class.Class.{Class}
use Rattle.frz_arena.specs.declared.class.Class.TheVariants.{Good}
use Rattle.frz_arena.specs.Arena.{Arena}
use Rattle.frz_exits.specs.Values.{class_of, lag_of}
use Rattle.frz_graph.specs.Finite.{IsFinite}
use Rattle.frz_sweep.specs.Winning.{HasSmallLag, HasWinAfter, IsWinningLag, LagsAt, WinsAfter, WinsIn}

-- a greater lag will do
pub wins_in_more : (side : Colour) (a b : ℕ) (x : Next ℕ Value) → a ≤ b → WinsIn side a x →
    WinsIn side b x
wins_in_more side a b (Inside q) l w = tt
wins_in_more side a b (Outside v) l w = λ good. (let h = w good in omega arith)

small_lag : (x : Next ℕ Value) → ((v : Value) → x ≡ Outside v → lag_of v ≤ 1000) → HasSmallLag x
small_lag (Inside q) small = tt
small_lag (Outside v) small = small v refl

-- the exits of a number of a finite arena have small lags
pub small_lags : (arena : Arena Step ℕ Value) (size : ℕ) → IsFinite arena size →
    (i : ℕ) (arms : List (Arm Step ℕ Value)) → arms ≡ arena.arms i →
    All (λ a. HasSmallLag a.next) arms
small_lags arena size finite i arms same =
    subst (λ (z : List (Arm Step ℕ Value)). All (λ a. HasSmallLag a.next) z) (sym same)
    (λ k d l. small_lag _ (λ v e. finite.lags i v _ (All-contains_itself (arena.arms i) k d l) e))

lag_of_exit : (side : Colour) (most : ℕ) (x : Next ℕ Value) (v : Value) → x ≡ Outside v →
    WinsIn side most x → class_of v side ≡ Good → lag_of v ≤ most
lag_of_exit side most x v e w = subst (WinsIn side most) e w

-- the greatest lag among the moves of a number
pub lags_at : (arena : Arena Step ℕ Value) (size : ℕ) → IsFinite arena size →
    (side : Colour) (i most : ℕ) (arms : List (Arm Step ℕ Value)) → arms ≡ arena.arms i →
    All (λ a. WinsIn side most a.next) arms → LagsAt arena side i most
lags_at arena size finite side i most arms same wins a v among leads good =
    let listed = subst (λ (z : List (Arm Step ℕ Value)). Contains z a) (sym same) among in
    let win = All-contains (λ (b : Arm Step ℕ Value). WinsIn side most b.next) arms a wins listed in
    subst (λ (lag : Value → ℕ). lag v ≤ most) (sym finite.lag)
    (lag_of_exit side most a.next v leads win
    (ap (λ (class : Value → Colour → Class). class v side) (sym finite.class) ∙ good))

exit_of_win : (arena : Arena Step ℕ Value) (size : ℕ) → IsFinite arena size →
    (side : Colour) (lag : ℕ) (x : Next ℕ Value) → WinsAfter side lag x →
    (v : Value) × (x ≡ Outside v) × (arena.class v side ≡ Good) × (arena.lag v ≡ lag)
exit_of_win arena size finite side lag (Inside q) wins = absurd wins
exit_of_win arena size finite side lag (Outside v) (good, is) = (
  v,
  refl,
  ap (λ (class : Value → Colour → Class). class v side) finite.class ∙ good,
  ap (λ (lags : Value → ℕ). lags v) finite.lag ∙ is,
)

-- a winning lag among the moves of a number
pub winning_lag : (arena : Arena Step ℕ Value) (size : ℕ) → IsFinite arena size →
    (side : Colour) (i lag : ℕ) (arms : List (Arm Step ℕ Value)) → arms ≡ arena.arms i →
    HasWinAfter side lag arms → IsWinningLag arena side lag
winning_lag arena size finite side i lag arms same (a, listed, wins) =
    let (v, leads, good, is) = exit_of_win arena size finite side lag a.next wins in
    (i, a, v, subst (λ (z : List (Arm Step ℕ Value)). Contains z a) same listed, leads, good, is)
