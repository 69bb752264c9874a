-- The local code: what the codes one ply on give a position.
use Rattle.std.specs.Prelude.{◌≡◌, ◌+◌, ℕ, Bool, true, false, min, max, if◌then◌else◌, List, [], ◌∷◌, map, filter}
use Rattle.std.specs.List.{list_any, list_all}
use Rattle.frz_board.specs.declared.man.Colour.{Colour}
use Rattle.frz_board.specs.Men.{same_colour}
use Rattle.frz_arena.specs.declared.node.Node.{Node}
use Rattle.frz_arena.specs.declared.node.Node.TheVariants.{Broken, Mate, Stalemate, Going}
use Rattle.frz_arena.specs.declared.arm.Arm.{Arm}
use Rattle.frz_arena.specs.declared.arm.Next.{Next}
use Rattle.frz_arena.specs.declared.arm.Next.TheVariants.{Inside, Outside}
use Rattle.frz_arena.specs.Arena.{Arena}
use Rattle.frz_arena.specs.Codes.{is_win, is_failure, exit_code}

-- the least of some codes, and 0 where there is none
abbrev pub least : List ℕ → ℕ
least [] = 0
least (c ∷ []) = c
least (c ∷ d ∷ cs) = min c (least (d ∷ cs))

-- the greatest of some codes, and 0 where there is none
abbrev pub greatest : List ℕ → ℕ
greatest [] = 0
greatest (c ∷ cs) = max c (greatest cs)

-- the code that the choice of a mover gives, who seeks one kind of code and shuns the other: the
-- least sought code with a ply (2) more; else 1 where some code is not shunned; else the greatest
-- code with a ply more
abbrev pub chosen_code : (sought shunned : ℕ → Bool) → List ℕ → ℕ
chosen_code sought shunned cs =
    if list_any sought cs then least (filter sought cs) + 2
    else (if list_all shunned cs then greatest cs + 2 else 1)

-- the code where the side is to move, by the codes of its free moves: 3, a failure at once, with
-- none
abbrev pub own_code : List ℕ → ℕ
own_code [] = 3
own_code (c ∷ cs) = chosen_code is_win is_failure (c ∷ cs)

-- the code where the opponent is to move, by the codes of all his moves
abbrev pub other_code : List ℕ → ℕ
other_code cs = chosen_code is_failure is_win cs

-- the code at a turn: the side's own, or its opponent's
abbrev pub turn_code : (own : Bool) → List ℕ → ℕ
turn_code true = own_code
turn_code false = other_code

-- the local code at each kind of position: free are the codes of the free moves, all those of all
-- moves
abbrev pub node_code : Colour → Node → (free all : List ℕ) → ℕ
node_code side Broken free all = 0
node_code side (Mate mover) free all = if same_colour mover side then 3 else 2
node_code side (Stalemate mover) free all = 1
node_code side (Going mover) free all =
    if same_colour mover side then own_code free else other_code all

-- the code of where a move leads, by the entries of the positions and the codes of the values
abbrev pub code_by : {N V : Type 0} → (N → ℕ) → (V → ℕ) → Next N V → ℕ
code_by entry code (Inside q) = entry q
code_by entry code (Outside v) = code v

-- the code of where a move leads, for the side: the entry of a position, or the code of an exit
abbrev pub next_code : {M N V : Type 0} → Arena M N V → Colour → (N → ℕ) → Next N V → ℕ
next_code arena side entry = code_by entry (λ v. exit_code (arena.class v side) (arena.lag v))

-- the code of an arm: that of where it leads
abbrev pub arm_code : {M N V : Type 0} → Arena M N V → Colour → (N → ℕ) → Arm M N V → ℕ
arm_code arena side entry a = next_code arena side entry a.next

abbrev pub codes_of : {M N V : Type 0} → Arena M N V → Colour → (N → ℕ) → List (Arm M N V) → List ℕ
codes_of arena side entry arms = map (arm_code arena side entry) arms

-- the codes of the free moves, and of all moves
abbrev pub free_codes : {M N V : Type 0} → Arena M N V → Colour → (N → ℕ) → N → List ℕ
free_codes arena side entry p = codes_of arena side entry (filter (λ a. a.free) (arena.arms p))

abbrev pub all_codes : {M N V : Type 0} → Arena M N V → Colour → (N → ℕ) → N → List ℕ
all_codes arena side entry p = codes_of arena side entry (arena.arms p)

-- the local code of p, which the entries one ply on give it
abbrev pub local_code : {M N V : Type 0} → Arena M N V → Colour → (N → ℕ) → N → ℕ
local_code arena side entry p =
    node_code side (arena.node p) (free_codes arena side entry p) (all_codes arena side entry p)

-- the entry of each position is its local code
abbrev pub MeetsEquations : {M N V : Type 0} → Arena M N V → Colour → (N → ℕ) → Type 0
MeetsEquations {M} {N} arena side entry = (p : N) → entry p ≡ local_code arena side entry p
