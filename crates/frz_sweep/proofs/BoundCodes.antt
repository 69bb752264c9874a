-- Codes of the bounds at all numbers are the table.
use Rattle.std.proofs.Common.{◌≡◌, ℕ, List, length, slice_index}
use Rattle.frz_board.specs.declared.man.Colour.{Colour}
use Rattle.frz_board.specs.Boards.{Board}
use Rattle.frz_sets.specs.declared.exit.Value.{Value}
use Rattle.frz_sets.specs.Sets.{size_of}
use Rattle.frz_sets.specs.Views.{RuleLines}
use Rattle.frz_arena.specs.Bounds.{IsCodeAt}
use Rattle.frz_arena.proofs.Lemmas.{bounds_are_codes, codes_meet}
use Rattle.frz_game.specs.Games.{graph_by}
use Rattle.frz_game.specs.Bounds.{IsTableOf}
use Rattle.frz_game.proofs.Lemmas.{exact_table}
use Rattle.frz_game.proofs.Lemmas.{graph_lawful}

pub table_of_codes : (rules : RuleLines) (value : Board → Value) (side : Colour) (codes : List ℕ) →
    length codes ≡ size_of rules.groups →
    ((i : ℕ) → IsCodeAt (graph_by rules value) side i (slice_index codes i))
    → IsTableOf rules value side codes
table_of_codes rules value side codes many at =
    let entry : ℕ → ℕ = λ k. slice_index codes k in
    exact_table rules value side codes (record {
      many = many;
      local = λ i l. codes_meet (graph_by rules value) (graph_lawful rules value) side entry
          (bounds_are_codes (graph_by rules value) side entry at) i;
    })
