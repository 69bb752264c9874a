-- Open exits: the moves out of a set to positions whose value is unknown, each with its class.
use Rattle.std.specs.Prelude.{ℕ, Bool, true, false, ◌==◌, List, [], map, filter, count_by, replicate, flat_map, Option, Some, None}
use Rattle.std.specs.List.{range_with_len}
use Rattle.frz_board.specs.Boards.{Board}
use Rattle.frz_board.specs.Moving.{Step}
use Rattle.frz_fide.specs.Legal.{after}
use Rattle.frz_fen.specs.Writing.{letter_of}
use Rattle.frz_sets.specs.declared.exit.Value.{Value}
use Rattle.frz_sets.specs.declared.exit.Value.TheVariants.{Unknown}
use Rattle.frz_sets.specs.Sets.{size_of}
use Rattle.frz_sets.specs.Views.{RuleLines}
use Rattle.frz_arena.specs.declared.arm.Arm.{Arm}
use Rattle.frz_arena.specs.declared.arm.Next.{Next}
use Rattle.frz_arena.specs.declared.arm.Next.TheVariants.{Outside}
use Rattle.frz_index.specs.Membership.{position_at}
use Rattle.frz_game.specs.Games.{graph_by}

-- the move leads out of the set, to a position of no known value
abbrev pub is_open : Next ℕ Value → Bool
is_open (Outside Unknown) = true
is_open next = false

-- the letter of a man, as often as such men stand
abbrev pub letters_in : List ℕ → (cell : ℕ) → List ℕ
letters_in cells cell = replicate (count_by (λ c. c == cell) cells) (letter_of cell)

-- the class of a position: the letters KQRBNPkqrbnp in this order, each as often as such men stand
abbrev pub class_of : Board → List ℕ
class_of p = flat_map (letters_in p.cells) (range_with_len 1 12)

-- what is seen of the positions after those moves that are open exits, free or not, in their order
abbrev pub seen_after : {X : Type 0} → (Board → X) → Board → List (Arm Step ℕ Value) → List X
seen_after see p arms = map (λ a. see (after p a.mv)) (filter (λ a. is_open a.next) arms)

abbrev pub seen_on : {X : Type 0} → (Board → X) → List (Arm Step ℕ Value) → Option Board → List X
seen_on see arms None = []
seen_on see arms (Some p) = seen_after see p arms

-- what is seen after the open exits at a number, in move order
abbrev pub seen_at : {X : Type 0} → (Board → X) → RuleLines → (Board → Value) → ℕ → List X
seen_at see rules value i =
    seen_on see ((graph_by rules value).arms i) (position_at rules.groups i)

-- what is seen after the open exits at the numbers below n, by number
abbrev pub seen_below : {X : Type 0} → (Board → X) → RuleLines → (Board → Value) → ℕ → List X
seen_below see rules value n = flat_map (seen_at see rules value) (range_with_len 0 n)

-- the positions after the open exits among these moves of a position
abbrev pub positions_after : Board → List (Arm Step ℕ Value) → List Board
positions_after = seen_after (λ q. q)

-- the positions after the open exits at the numbers below n
abbrev pub positions_below : RuleLines → (Board → Value) → ℕ → List Board
positions_below = seen_below (λ q. q)

-- the positions after all open exits, by number and there in move order
abbrev pub positions_of : RuleLines → (Board → Value) → List Board
positions_of rules value = positions_below rules value (size_of rules.groups)

-- the classes after the open exits among these moves of a position
abbrev pub classes_after : Board → List (Arm Step ℕ Value) → List (List ℕ)
classes_after = seen_after class_of

abbrev pub classes_on : List (Arm Step ℕ Value) → Option Board → List (List ℕ)
classes_on = seen_on class_of

-- the classes of the open exits at a number, in move order
abbrev pub exits_at : RuleLines → (Board → Value) → ℕ → List (List ℕ)
exits_at = seen_at class_of

-- the classes of the open exits at the numbers below n, by number
abbrev pub exits_below : RuleLines → (Board → Value) → ℕ → List (List ℕ)
exits_below = seen_below class_of

-- the classes of all open exits
abbrev pub exits_of : RuleLines → (Board → Value) → List (List ℕ)
exits_of rules value = exits_below rules value (size_of rules.groups)
