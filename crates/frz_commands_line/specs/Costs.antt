-- What `line` and `play` may cost: what opening the table costs and, at a position of its set, what
-- the plies of the line or session cost.
use Rattle.std.specs.Prelude.{◌+◌, ◌*◌, ℕ, List, length, Some, Option, MatchBool, Result, Ok, Err}
use Rattle.frz_board.specs.Boards.{Board}
use Rattle.frz_exits.specs.Books.{value_by}
use Rattle.frz_game.specs.Games.{graph_by}
use Rattle.frz_game.specs.Numbers.{is_member}
use Rattle.frz_table.specs.declared.fault.TableFault.{TableFault}
use Rattle.frz_table.specs.declared.kind.FileKind.TheVariants.{Plain}
use Rattle.frz_table.specs.Opening.{Contents, opened, opening_calls, table_format}
use Rattle.frz_table.specs.Possible.{held_text}
use Rattle.frz_answer.specs.World.{Spent}
use Rattle.frz_answer.specs.Jobs.{Costs, WithinCosts}
use Rattle.frz_ways.specs.Costs.{reads_at}

-- the costs of opening alone: no step
abbrev pub opening_costs : (calls asked : ℕ) → Costs
opening_costs calls asked = record { steps = Some 0; calls = Some calls; asked = Some asked }

-- the costs of playing after opening. The code of the start takes one call of the store. Each
-- number that the line or session comes to takes one step, and one call for each move there that
-- stays in the set. Each of these calls asks for four bytes
abbrev pub playing_costs : Contents → (numbers : List ℕ) → (calls asked : ℕ) → Costs
playing_costs contents numbers calls asked = record {
  steps = Some (length numbers);
  calls = Some (calls + (1 + reads_at (graph_by contents.rules (value_by contents.rules)) numbers));
  asked = Some (asked + 4
      * (1 + reads_at (graph_by contents.rules (value_by contents.rules)) numbers));
}

-- what may be spent with an open table: `comes` says which numbers the line or session from the
-- position comes to. A position outside the set costs only the opening
abbrev pub CostsIn : Contents → Board → (comes : List ℕ → Type 0) → (calls asked : ℕ) → Spent
    → Spent → Type 0
CostsIn contents p comes calls asked before now = MatchBool (is_member contents.rules.groups p)
    ((numbers : List ℕ) → comes numbers
    → WithinCosts (playing_costs contents numbers calls asked) before now)
    (WithinCosts (opening_costs calls asked) before now)

-- what may be spent, by how the file opens
abbrev pub CostsBy : Result Contents TableFault → Board → (comes : Contents → List ℕ → Type 0) →
    (calls asked : ℕ) → Spent → Spent → Type 0
CostsBy (Ok contents) p comes calls asked before now =
    CostsIn contents p (comes contents) calls asked before now
CostsBy (Err fault) p comes calls asked before now =
    WithinCosts (opening_costs calls asked) before now

-- what may be spent by what the name holds: to open it, the store is asked for 16 bytes and the
-- text
abbrev pub CostsAt : Option (List ℕ) → Board → (comes : Contents → List ℕ → Type 0) → Spent → Spent
    → Type 0
CostsAt held p comes before now =
    CostsBy (opened (table_format Plain) held) p comes (opening_calls (table_format Plain) held)
    (16 + length (held_text held)) before now
