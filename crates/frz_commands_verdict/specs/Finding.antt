-- What is found of a position by checked tables, by what the names may hold.
use Rattle.std.specs.Prelude.{◌≡◌, ◌≤◌, ◌+◌, ◌*◌, ◌++◌, ◌∷◌, [], ℕ, true, false, List, map, sum_by, Option, Some, None}
use Rattle.frz_board.specs.Boards.{Board}
use Rattle.frz_game.specs.Numbers.{is_member}
use Rattle.frz_store.specs.Told.{StoreTold}
use Rattle.frz_backs.specs.Links.{Link}
use Rattle.frz_atlas.specs.Behind.{AreJudged, TableBytes, link_of}
use Rattle.frz_atlas.specs.Costs.{bytes_of, calls_of, steps_of}
use Rattle.frz_atlas.specs.Held.{MayHoldAll, all_held}
use Rattle.frz_atlas.specs.Opening.{IsOneRefused}
use Rattle.frz_atlas.specs.declared.fault.AtlasFault.{AtlasFault}
use Rattle.frz_commands_premises.specs.PremiseLines.{TextLink, behind_lines, links_in, text_link_of}
use Rattle.frz_commands_verdict.specs.declared.finding.Told.{Told}
use Rattle.frz_commands_verdict.specs.Verdicts.{verdict_at}

-- the names of the tables that are checked, in this order: the BACKs, and then TABLE over all of them
abbrev pub names_over : (table : List ℕ) (behind : List (List ℕ)) → List (List ℕ)
names_over table behind = behind ++ table ∷ []

-- no more is spent than opening and checking the tables costs, and one more step for each of their
-- numbers
pub record WithinFinding (helds : List (Option (List ℕ))) (old new : StoreTold)
    (steps_before steps_now : ℕ) : Type 0 where
  pub steps : steps_now ≤ steps_before + 2 * sum_by steps_of helds
  pub asked : new.asked ≤ old.asked + sum_by bytes_of helds
  pub calls : new.calls ≤ old.calls + sum_by calls_of helds

-- nothing is told of a position outside the set of the table, and else the verdict on it, and the
-- lines of all texts
abbrev pub IsTold : (own : Link) → List TextLink → Board → Option Told → Type 0
IsTold own texts p None = is_member own.rules.groups p ≡ false
IsTold own texts p (Some told) =
    (is_member own.rules.groups p ≡ true)
    × (told.verdict ≡ verdict_at (links_in texts) own p)
    × (told.lines.items ≡ behind_lines [] texts)

-- the names may hold tables that are exact, each over those before it, and this is told of the
-- position by the last of them
pub record FindsVerdict (table : List ℕ) (behind : List (List ℕ)) (p : Board)
    (old new : StoreTold) (steps_before steps_now : ℕ) (told : Option Told) : Type 0 where
  pub before : List TableBytes
  pub own : TableBytes
  pub may_all : MayHoldAll old.files (names_over table behind) (all_held (before ++ own ∷ []))
  pub exact : AreJudged (before ++ own ∷ [])
  pub tells : IsTold (link_of own) (map text_link_of (before ++ own ∷ [])) p told
  pub within : WithinFinding (all_held (before ++ own ∷ [])) old new steps_before steps_now

-- what one of the names may hold is refused for this reason, and those before it may hold exact
-- tables; nothing is said where the store failed or memory ran out
pub record RefusesOne (table : List ℕ) (behind : List (List ℕ)) (old new : StoreTold)
    (steps_before steps_now : ℕ) (fault : AtlasFault) : Type 0 where
  pub helds : List (Option (List ℕ))
  pub may_all : MayHoldAll old.files (names_over table behind) helds
  pub refuses : IsOneRefused helds fault
  pub within : WithinFinding helds old new steps_before steps_now
