-- A game over numbers as the solver sees it.
use Rattle.std.specs.Prelude.{◌≡◌, ◌≢◌, ℕ, zero, suc, ◌+◌, ◌^◌, ◌<◌, ◌≤◌, ◌⊎◌, Bool, true, false, cond, min, List, [], ◌∷◌}
use Rattle.frz_board.specs.declared.man.Colour.{Colour}
use Rattle.frz_board.specs.Men.{same_colour}
use Rattle.frz_board.specs.Moving.{Step}
use Rattle.frz_sets.specs.declared.exit.Value.{Value}
use Rattle.frz_arena.specs.declared.arm.Next.TheVariants.{Inside, Outside}
use Rattle.frz_arena.specs.declared.node.Node.{Node}
use Rattle.frz_arena.specs.declared.node.Node.TheVariants.{Broken, Mate, Stalemate, Going}
use Rattle.frz_arena.specs.Arena.{Arena}
use Rattle.frz_exits.specs.Values.{lag_of}
use Rattle.frz_retro.specs.Graphs.{Arm, Next}
use Rattle.frz_unmove.specs.declared.preds.Pred.{Pred}

-- an arena and its size, the count of its numbers
pub record Shape : Type 0 where
  pub arena : Arena Step ℕ Value
  pub size : ℕ

abbrev pub shape_of : Arena Step ℕ Value → ℕ → Shape
shape_of arena size = record { arena = arena; size = size }

-- x is an item of the list
abbrev pub In : {A : Type 0} → A → List A → Type 0
In x [] = ⊥
In x (y ∷ ys) = (y ≡ x) ⊎ In x ys

-- R holds of each two items at different places, the earlier one first
abbrev pub Apart : {A : Type 0} → (A → A → Type 0) → List A → Type 0
Apart R [] = Unit {0}
Apart {A} R (x ∷ xs) = ((y : A) → In y xs → R x y) × Apart R xs

-- the two arms do not both lead to one number
abbrev pub Differ : Arm → Arm → Type 0
Differ a b = (q : ℕ) → a.next ≡ Inside q → b.next ≡ Inside q → ⊥

-- the lag of an exit is at most 1000 plies; a number inside the set has none
abbrev pub AreShort : Next → Type 0
AreShort (Inside q) = Unit {0}
AreShort (Outside v) = lag_of v ≤ 1000

-- what the solver needs of a graph
pub record IsGraph (B : Shape) : Type 0 where
  pub few : B.size ≤ 2 ^ 27
  pub others : (i : ℕ) (a : Arm) → In a (B.arena.arms i) → (c : Colour) × (B.arena.node i ≡ Going c)
  pub apart : (i : ℕ) → Apart Differ (B.arena.arms i)
  pub lags : (i : ℕ) (a : Arm) → In a (B.arena.arms i) → AreShort a.next

-- number p.number has an arm with the move p.mv that leads to number q
pub record Leads (B : Shape) (p : Pred) (q : ℕ) : Type 0 where
  pub arm : Arm
  pub there : In arm (B.arena.arms p.number)
  pub move : arm.mv ≡ p.mv
  pub inside : arm.next ≡ Inside q

-- the predecessors of q, each number once and with its move
pub record ArePreds (B : Shape) (q : ℕ) (pairs : List Pred) : Type 0 where
  pub sound : (p : Pred) → In p pairs → (p.number < B.size) × Leads B p q
  pub whole : (i : ℕ) (a : Arm) → In a (B.arena.arms i) → a.next ≡ Inside q →
      In (record { number = i; mv = a.mv }) pairs
  pub once : Apart (λ p r. p.number ≢ r.number) pairs

-- whether an arm counts: only a free one where the side moves (true), every one where its opponent
-- does
abbrev pub counts_for : Bool → Arm → Bool
counts_for true a = a.free
counts_for false a = true

-- how many arms pass the test p
abbrev pub how_many : (Arm → Bool) → List Arm → ℕ
how_many p [] = 0
how_many p (a ∷ arms) = cond (p a) 1 0 + how_many p arms

-- the lesser of two codes, where a second code of 0 stands for none
abbrev pub lesser : ℕ → ℕ → ℕ
lesser c zero = c
lesser c (suc d) = min c (suc d)

-- the code of a broken number, a mate or a stalemate, and 1 where the game goes on
abbrev pub end_code : Colour → Node → ℕ
end_code side Broken = 0
end_code side (Mate c) = cond (same_colour c side) 3 2
end_code side (Stalemate c) = 1
end_code side (Going c) = 1
