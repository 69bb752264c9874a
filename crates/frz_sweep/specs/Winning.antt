-- The lags of the exits one move away that win for a side.
use Rattle.std.specs.Prelude.{◌≡◌, ◌≤◌, ℕ, List, Contains, ⊤}
use Rattle.frz_board.specs.declared.man.Colour.{Colour}
use Rattle.frz_sets.specs.declared.exit.Value.{Value}
use Rattle.frz_arena.specs.declared.arm.Arm.{Arm}
use Rattle.frz_arena.specs.declared.arm.Next.{Next}
use Rattle.frz_arena.specs.declared.arm.Next.TheVariants.{Outside}
use Rattle.frz_arena.specs.declared.class.Class.TheVariants.{Good}
use Rattle.frz_arena.specs.Arena.{Arena, IsArm}
use Rattle.frz_arena.specs.Plies.{LeadsTo}
use Rattle.frz_exits.specs.Values.{class_of, lag_of}

-- a number inside, or an exit of a lag of at most 1,000
abbrev pub HasSmallLag : Next ℕ Value → Type 0
HasSmallLag = LeadsTo (λ q. ⊤) (λ v. lag_of v ≤ 1000)

-- the lag of an exit that wins for the side is at most this
abbrev pub WinsIn : Colour → ℕ → Next ℕ Value → Type 0
WinsIn side most = LeadsTo (λ q. ⊤) (λ v. class_of v side ≡ Good → lag_of v ≤ most)

-- an exit that wins for the side, with this lag
abbrev pub WinsAfter : Colour → ℕ → Next ℕ Value → Type 0
WinsAfter side lag = LeadsTo (λ q. ⊥) (λ v. (class_of v side ≡ Good) × (lag_of v ≡ lag))

-- some of these moves lead to such an exit
abbrev pub HasWinAfter : {M : Type 0} → Colour → ℕ → List (Arm M ℕ Value) → Type 0
HasWinAfter {M} side lag arms =
    (a : Arm M ℕ Value) × Contains arms a × WinsAfter side lag a.next

-- some exit of the arena that wins for the side has this lag
abbrev pub IsWinningLag : {M V : Type 0} → Arena M ℕ V → Colour → ℕ → Type 0
IsWinningLag {M} {V} arena side lag =
    (p : ℕ) × (a : Arm M ℕ V) × (v : V) × IsArm arena p a × (a.next ≡ Outside v) ×
    (arena.class v side ≡ Good) × (arena.lag v ≡ lag)

-- the lags of the exits of a number that win for the side are at most this
abbrev pub LagsAt : {M V : Type 0} → Arena M ℕ V → Colour → ℕ → ℕ → Type 0
LagsAt {M} {V} arena side i most =
    (a : Arm M ℕ V) (v : V) → IsArm arena i a → a.next ≡ Outside v →
    arena.class v side ≡ Good → arena.lag v ≤ most
