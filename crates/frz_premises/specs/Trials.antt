-- What is known of each exit line by the exits that were looked at so far.
use Rattle.std.specs.Prelude.{◌≡◌, ◌<◌, ℕ, Bool, true, false, List, [], ◌∷◌, length, map, filter, find, None, slice_index_or}
use Rattle.frz_board.specs.Boards.{Board}
use Rattle.frz_sets.specs.Views.{ExitLine, RuleLines}
use Rattle.frz_backs.specs.Links.{Link}
use Rattle.frz_arena.specs.declared.arm.Arm.{Arm}
use Rattle.frz_arena.specs.declared.arm.Next.{Next}
use Rattle.frz_arena.specs.declared.arm.Next.TheVariants.{Inside, Outside}
use Rattle.frz_board.specs.Moving.{Step}
use Rattle.frz_fide.specs.Legal.{after}
use Rattle.frz_sets.specs.declared.exit.Value.{Value}
use Rattle.frz_premises.specs.declared.trial.Trial.{Trial}
use Rattle.frz_premises.specs.Bases.{asked_of}
use Rattle.frz_premises.specs.Deciding.{decided_by}
use Rattle.frz_premises.specs.Saying.{none_says, says_at_each}

abbrev pub is_some_there : List Board → Bool
is_some_there [] = false
is_some_there (q ∷ qs) = true

-- what the tables said of a line at the exits where the men do not show its value: the first where
-- none said as much and, as long as there is none, which tables said as much at each
pub record IsHeard (links : List Link) (line : ExitLine) (qs : List Board) (trial : Trial) : Type 0
  where
    pub need : trial.need ≡ find (none_says links line.value) qs
    pub says : trial.need ≡ None → trial.says.items ≡ map (says_at_each line.value qs) links

-- what is known of a line by the exits that it has decided so far
pub record IsTried (links : List Link) (line : ExitLine) (qs : List Board) (trial : Trial) : Type 0
  where
    pub value : trial.value ≡ line.value
    pub has_exits : trial.has_exits ≡ is_some_there qs
    pub is_asked : trial.is_asked ≡ is_some_there (asked_of line.value qs)
    pub many : length trial.says.items ≡ length links
    pub heard : IsHeard links line (asked_of line.value qs) trial

-- what is known of all lines, by these exits
pub record AreTried (leans : Bool) (rules : RuleLines) (links : List Link) (qs : List Board)
    (trials : List Trial) : Type 0 where
  pub many : length trials ≡ length rules.exits
  pub each : (k : ℕ) (line : ExitLine) (trial : Trial) → k < length trials →
      IsTried links (slice_index_or rules.exits k line)
      (decided_by leans rules links k qs) (slice_index_or trials k trial)

-- the move leads out of the set
abbrev pub is_outside : Next ℕ Value → Bool
is_outside (Inside i) = false
is_outside (Outside v) = true

-- the positions after those of these moves that lead out of the set, in their order
abbrev pub boards_after : Board → List (Arm Step ℕ Value) → List Board
boards_after p arms = map (λ a. after p a.mv) (filter (λ a. is_outside a.next) arms)
