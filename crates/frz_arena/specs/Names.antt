-- An arena with other names for its positions, such as their numbers.
use Rattle.std.specs.Prelude.{◌≡◌, ◌≢◌, ◌≤◌, ◌<◌, ℕ, List, [], map, Option, Some, None}
use Rattle.frz_board.specs.declared.man.Colour.{Colour}
use Rattle.frz_arena.specs.declared.node.Node.{Node}
use Rattle.frz_arena.specs.declared.node.Node.TheVariants.{Broken, Going}
use Rattle.frz_arena.specs.declared.arm.Arm.{Arm}
use Rattle.frz_arena.specs.declared.arm.Next.{Next}
use Rattle.frz_arena.specs.declared.arm.Next.TheVariants.{Inside, Outside}
use Rattle.frz_arena.specs.Arena.{Arena}

-- where the arm leads, with the position renamed
abbrev pub named_next : {A B V : Type 0} → (A → B) → Next A V → Next B V
named_next name (Inside q) = Inside (name q)
named_next name (Outside v) = Outside v

-- the arm with its position renamed
abbrev pub named : {M A B V : Type 0} → (A → B) → Arm M A V → Arm M B V
named name a = record { mv = a.mv; free = a.free; next = named_next name a.next }

-- the second arena is the first one with other names
pub record IsNaming {M A B V : Type 0}
    (name : A → B) (first : Arena M A V) (second : Arena M B V) : Type 0 where
  pub node : (p : A) → second.node (name p) ≡ first.node p
  pub arms : (p : A) (mover : Colour) → first.node p ≡ Going mover →
      second.arms (name p) ≡ map (named name) (first.arms p)
  pub class : (v : V) (side : Colour) → second.class v side ≡ first.class v side
  pub lag : (v : V) → second.lag v ≡ first.lag v

-- dense numbers: how many there are, the number of a position, and the position of a number
pub record Numbering (N : Type 0) : Type 0 where
  pub size : ℕ
  pub number : N → Option ℕ
  pub at : ℕ → Option N

-- number and at are inverse to each other, each number is below the size, and exactly the positions
-- that are not broken have one
pub record IsNumbering {M N V : Type 0} (numbers : Numbering N) (arena : Arena M N V) : Type 0 where
  pub at_number : (p : N) (i : ℕ) → numbers.number p ≡ Some i → numbers.at i ≡ Some p
  pub number_at : (p : N) (i : ℕ) → numbers.at i ≡ Some p → numbers.number p ≡ Some i
  pub in_size : (p : N) (i : ℕ) → numbers.number p ≡ Some i → i < numbers.size
  pub missing : (p : N) → numbers.number p ≡ None → arena.node p ≡ Broken
  pub there : (p : N) (i : ℕ) → numbers.number p ≡ Some i → arena.node p ≢ Broken

-- the number of a position, and the size where it has none
abbrev pub name_by : ℕ → Option ℕ → ℕ
name_by size None = size
name_by size (Some i) = i

abbrev pub name_in : {N : Type 0} → Numbering N → N → ℕ
name_in numbers p = name_by numbers.size (numbers.number p)

-- a number without a position is broken, and has no moves
abbrev pub node_at : {M N V : Type 0} → Arena M N V → Option N → Node
node_at arena None = Broken
node_at arena (Some p) = arena.node p

abbrev pub arms_at : {M N V : Type 0} → Arena M N V → (N → ℕ) → Option N → List (Arm M ℕ V)
arms_at arena name None = []
arms_at arena name (Some p) = map (named name) (arena.arms p)

-- the arena of the numbers
abbrev pub numbers_of : {M N V : Type 0} → Numbering N → Arena M N V → Arena M ℕ V
numbers_of numbers arena = record {
  node = λ i. node_at arena (numbers.at i);
  arms = λ i. arms_at arena (name_in numbers) (numbers.at i);
  class = arena.class;
  lag = arena.lag;
}

-- all numbers from the size on are broken
pub record IsNumbered {M V : Type 0} (arena : Arena M ℕ V) (size : ℕ) : Type 0 where
  pub past : (i : ℕ) → size ≤ i → arena.node i ≡ Broken
