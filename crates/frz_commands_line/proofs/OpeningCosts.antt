-- What `line` and `play` spend, by whether the table opens and whether the position is in its set.
use Rattle.std.proofs.Common.{◌≡◌, sym, subst, ◌∙◌, ℕ, ◌+◌, ◌≤◌, Bool, true, false, List, length, Option, Some, None, Result, Ok, Err, arith}
use Rattle.std.specs.Prelude.{MatchBool}
use Rattle.frz_board.specs.Boards.{Board}
use Rattle.frz_exits.specs.Books.{value_by}
use Rattle.frz_game.specs.Games.{graph_by}
use Rattle.frz_game.specs.Numbers.{is_member}
use Rattle.frz_index.specs.Members.{Member}
use Rattle.frz_index.proofs.Lemmas.{of_member}
use Rattle.frz_table.specs.declared.fault.TableFault.{TableFault}
use Rattle.frz_table.specs.declared.fault.TableFault.TheVariants.{Missing}
use Rattle.frz_table.specs.declared.kind.FileKind.TheVariants.{Plain}
use Rattle.frz_table.specs.Opening.{Contents, opened, opening_calls, table_format}
use Rattle.frz_table.specs.Possible.{held_text}
use Rattle.frz_table.proofs.Lemmas.{opened_calls, opened_missing}
use Rattle.frz_answer.specs.World.{Spent}
use Rattle.frz_answer.specs.Jobs.{WithinCosts}
use Rattle.frz_ways.specs.Costs.{SpendsAt}
use Rattle.frz_commands_line.specs.Costs.{opening_costs, playing_costs, CostsIn, CostsBy, CostsAt}
use Rattle.frz_commands_line.proofs.KnownLine.{not_member}

module _ (contents : Contents) (p : Board) (comes : List ℕ → Type 0) where
  -- by whether the position is in the set
  abbrev CostsWhere : Bool → (calls asked : ℕ) → Spent → Spent → Type 0
  CostsWhere b calls asked before now = MatchBool b
      ((numbers : List ℕ) → comes numbers
      → WithinCosts (playing_costs contents numbers calls asked) before now)
      (WithinCosts (opening_costs calls asked) before now)

  -- what the way spends, where the position is in the set
  pub costs_inside : (before now : Spent) → Member contents.rules.groups p
      → ((numbers : List ℕ) → comes numbers
      → SpendsAt (graph_by contents.rules (value_by contents.rules)) 1 numbers before now)
      → CostsIn contents p comes 0 0 before now
  costs_inside before now inside spends =
      subst (λ b. CostsWhere b 0 0 before now) (sym (of_member contents.rules.groups p inside))
      (λ numbers it.
      let steps = (spends numbers it).stepped in
      let calls = (spends numbers it).called in
      let asked = (spends numbers it).asked in
      record { steps = steps; calls = omega (arith, calls); asked = omega (arith, asked) })

  -- nothing, where it is not
  pub costs_nothing : (now : Spent) → (Member contents.rules.groups p → ⊥)
      → CostsIn contents p comes 0 0 now now
  costs_nothing now none =
      subst (λ b. CostsWhere b 0 0 now now) (sym (not_member contents.rules.groups p none))
      (record { steps = omega arith; calls = omega arith; asked = omega arith })

  module _ (calls asked : ℕ) (old mid : Spent) (steps : mid.steps ≡ old.steps)
      (few : mid.calls ≤ old.calls + calls) (bytes : mid.asked ≤ old.asked + asked) where
    -- behind what opening spends
    behind_by : (new : Spent) (b : Bool) → CostsWhere b 0 0 mid new
        → CostsWhere b calls asked old new
    behind_by new true costs = λ numbers it.
        let s = (costs numbers it).steps in
        let c = (costs numbers it).calls in
        let a = (costs numbers it).asked in
        record {
          steps = omega (arith, steps, s);
          calls = omega (arith, few, c);
          asked = omega (arith, bytes, a);
        }
    behind_by new false costs =
        let s = costs.steps in
        let c = costs.calls in
        let a = costs.asked in
        record {
          steps = omega (arith, steps, s);
          calls = omega (arith, few, c);
          asked = omega (arith, bytes, a);
        }

    pub behind_opening : (new : Spent) → CostsIn contents p comes 0 0 mid new
        → CostsIn contents p comes calls asked old new
    behind_opening new costs = behind_by new (is_member contents.rules.groups p) costs

    -- opening alone
    alone_by : (b : Bool) → CostsWhere b calls asked old mid
    alone_by true = λ numbers it.
        record {
          steps = omega (arith, steps);
          calls = omega (arith, few);
          asked = omega (arith, bytes);
        }
    alone_by false = record {
      steps = omega (arith, steps);
      calls = omega (arith, few);
      asked = omega (arith, bytes);
    }

    pub opening_alone : CostsIn contents p comes calls asked old mid
    opening_alone = alone_by (is_member contents.rules.groups p)

-- opening alone is within the costs
pub opening_within : (x : Result Contents TableFault) (p : Board)
    (comes : Contents → List ℕ → Type 0) (calls asked : ℕ) (old new : Spent) → new.steps ≡ old.steps
    → new.calls ≤ old.calls + calls
    → new.asked ≤ old.asked + asked → CostsBy x p comes calls asked old new
opening_within (Ok contents) p comes calls asked old new steps few bytes =
    opening_alone contents p (comes contents) calls asked old new steps few bytes
opening_within (Err fault) p comes calls asked old new steps few bytes =
    record {
      steps = omega (arith, steps);
      calls = omega (arith, few);
      asked = omega (arith, bytes);
    }

-- five calls open what opens
pub opened_by_five : (held : Option (List ℕ)) (contents : Contents)
    → opened (table_format Plain) held ≡ Ok contents → opening_calls (table_format Plain) held ≡ 5
opened_by_five None contents e =
    (let no : Err Missing ≡ Ok contents = sym (opened_missing (table_format Plain)) ∙ e in cc)
opened_by_five (Some bytes) contents e = opened_calls (table_format Plain) bytes contents e

-- opening and playing are within the costs
pub playing_within : (held : Option (List ℕ)) (contents : Contents) (p : Board)
    (comes : Contents → List ℕ → Type 0) (old mid new : Spent)
    → opened (table_format Plain) held ≡ Ok contents
    → mid.steps ≡ old.steps → mid.calls ≤ old.calls + 5
    → mid.asked ≤ old.asked + (16 + length (held_text held))
    → CostsIn contents p (comes contents) 0 0 mid new
    → CostsAt held p comes old new
playing_within held contents p comes old mid new e steps few bytes costs =
    let five = opened_by_five held contents e in
    let calls : mid.calls ≤ old.calls + opening_calls (table_format Plain) held = omega
    (arith, five, few) in
    subst (λ (x : Result Contents TableFault). CostsBy x p comes
    (opening_calls (table_format Plain) held) (16 + length (held_text held)) old new) (sym e)
    (behind_opening contents p (comes contents) (opening_calls (table_format Plain) held)
    (16 + length (held_text held)) old mid steps calls bytes new costs)
