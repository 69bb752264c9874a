use Rattle.std.proofs.Common.{◌≡◌, ◌≤◌, length}
use Rattle.frz_combinations.specs.Combinations.{unrank}
use Rattle.frz_index.specs.Candidates.{put_men}
use Rattle.frz_index.specs.FreeSquares.{are_free}
use Rattle.frz_index.proofs.placing.put_ranked.Given as goal

abbrev pub invariant-loop-left : goal.invariant-loop-left
invariant-loop-left l = record {
  within : l.end ≤ length l.states;
  few : l.left ≤ 16;
  small : l.rest ≤ l.rank;
  rest : record l.p { cells = put_men l.colour l.states (unrank l.end l.left l.rest) l.p.cells }
      ≡ record l.fn.p {
        cells = put_men l.colour l.states (unrank (length l.states) l.count l.rank)
            l.fn.p.cells;
      };
  free : are_free l.colour l.states (unrank l.end l.left l.rest) l.p.cells
      ≡ are_free l.colour l.states (unrank (length l.states) l.count l.rank) l.fn.p.cells;
}

abbrev pub decreases-loop-left : goal.decreases-loop-left
decreases-loop-left l = l.left
