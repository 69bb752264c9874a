-- Within how many plies a side wins, and within how many it fails.
use Rattle.std.specs.Prelude.{◌≡◌, ◌≤◌, ℕ, zero, suc, ◌⊎◌, true}
use Rattle.frz_board.specs.declared.man.Colour.{Colour}
use Rattle.frz_board.specs.Men.{other_of}
use Rattle.frz_arena.specs.declared.class.Class.TheVariants.{Good, Bad}
use Rattle.frz_arena.specs.declared.node.Node.TheVariants.{Mate, Going}
use Rattle.frz_arena.specs.declared.arm.Arm.{Arm}
use Rattle.frz_arena.specs.declared.arm.Next.{Next}
use Rattle.frz_arena.specs.declared.arm.Next.TheVariants.{Inside, Outside}
use Rattle.frz_arena.specs.Arena.{Arena, IsArm}

-- the move leads to a position that satisfies P, or out of the graph to a value that satisfies Q
abbrev pub LeadsTo : {N V : Type 0} → (N → Type 0) → (V → Type 0) → Next N V → Type 0
LeadsTo P Q (Inside q) = P q
LeadsTo P Q (Outside v) = Q v

-- an exit that wins for the side, within n plies by its lag
abbrev pub IsGoodExit : {M N V : Type 0} → Arena M N V → Colour → ℕ → V → Type 0
IsGoodExit arena side n v = (arena.class v side ≡ Good) × (arena.lag v ≤ n)

-- an exit that is bad for the side, whatever its lag
abbrev pub IsBadExit : {M N V : Type 0} → Arena M N V → Colour → V → Type 0
IsBadExit arena side v = arena.class v side ≡ Bad

-- some free move of the position leads to where P holds
abbrev pub SomeFree : {M N V : Type 0} → Arena M N V → N → (Next N V → Type 0) → Type 0
SomeFree {M} {N} {V} arena p P = (a : Arm M N V) × IsArm arena p a × (a.free ≡ true) × P a.next

-- each free move of the position leads to where P holds
abbrev pub EachFree : {M N V : Type 0} → Arena M N V → N → (Next N V → Type 0) → Type 0
EachFree {M} {N} {V} arena p P = (a : Arm M N V) → IsArm arena p a → a.free ≡ true → P a.next

-- some move of the position, free or not, leads to where P holds
abbrev pub SomeArm : {M N V : Type 0} → Arena M N V → N → (Next N V → Type 0) → Type 0
SomeArm {M} {N} {V} arena p P = (a : Arm M N V) × IsArm arena p a × P a.next

-- each move of the position, free or not, leads to where P holds
abbrev pub EachArm : {M N V : Type 0} → Arena M N V → N → (Next N V → Type 0) → Type 0
EachArm {M} {N} {V} arena p P = (a : Arm M N V) → IsArm arena p a → P a.next

-- the side is to move and has a free move to what is good, or its opponent is to move, has a move,
-- and each of his moves leads to what is good
abbrev pub MovesToGood : {M N V : Type 0} → Arena M N V → Colour → (Next N V → Type 0) → N → Type 0
MovesToGood arena side IsGood p =
    ((arena.node p ≡ Going side) × SomeFree arena p IsGood)
    ⊎ ((arena.node p ≡ Going (other_of side)) × SomeArm arena p IsGood × EachArm arena p IsGood)

-- the opponent is to move and has a move to what is bad, or the side is to move, has a free move,
-- and each of its free moves leads to what is bad
abbrev pub MovesToBad : {M N V : Type 0} → Arena M N V → Colour → (Next N V → Type 0) → N → Type 0
MovesToBad arena side IsBad p =
    ((arena.node p ≡ Going (other_of side)) × SomeArm arena p IsBad)
    ⊎ ((arena.node p ≡ Going side) × SomeFree arena p IsBad × EachFree arena p IsBad)

-- the side wins within n plies: the opponent is mated, or the
-- next ply leads to what is good within one ply less
abbrev pub WinsWithin : {M N V : Type 0} → Arena M N V → Colour → ℕ → N → Type 0
WinsWithin arena side zero p = arena.node p ≡ Mate (other_of side)
WinsWithin arena side (suc n) p =
    WinsWithin arena side n p
    ⊎ MovesToGood arena side (LeadsTo (WinsWithin arena side n) (IsGoodExit arena side n)) p

-- the side is mated, or it is to move and none of its moves is free
abbrev pub IsLost : {M N V : Type 0} → Arena M N V → Colour → N → Type 0
IsLost {M} {N} {V} arena side p =
    (arena.node p ≡ Mate side)
    ⊎ ((arena.node p ≡ Going side) × ((a : Arm M N V) → IsArm arena p a → a.free ≡ true → ⊥))

-- the side fails within n plies: it is lost, or the next ply
-- leads to what is bad within one ply less
abbrev pub FailsWithin : {M N V : Type 0} → Arena M N V → Colour → ℕ → N → Type 0
FailsWithin arena side zero p = IsLost arena side p
FailsWithin arena side (suc n) p =
    FailsWithin arena side n p
    ⊎ MovesToBad arena side (LeadsTo (FailsWithin arena side n) (IsBadExit arena side)) p

-- the lags of the exits that win for the side are at most this many plies
abbrev pub LagsWithin : {M N V : Type 0} → Arena M N V → Colour → ℕ → Type 0
LagsWithin {M} {N} {V} arena side most =
    (p : N) (a : Arm M N V) (v : V) → IsArm arena p a → a.next ≡ Outside v →
    arena.class v side ≡ Good → arena.lag v ≤ most
