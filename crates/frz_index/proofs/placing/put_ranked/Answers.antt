use Rattle.std.proofs.Common.{◌≡◌, ◌-◌, arith, ◌∙◌, sym, ap, refl, slice_set, get_or, List, ◌∷◌, ℕ}
use Rattle.std.specs.Prelude.{◌&&◌}
use Rattle.std.specs.List.{slice_get}
use Rattle.frz_combinations.specs.Binomials.{choose}
use Rattle.frz_combinations.specs.Combinations.{unrank}
use Rattle.frz_index.proofs.GroupDigits.{free_read, put_read}
use Rattle.frz_index.proofs.LastPlaces.{unrank_next}
use Rattle.frz_board.specs.Boards.{Board}
use Rattle.frz_index.specs.Candidates.{put_man, put_men}
use Rattle.frz_index.specs.FreeSquares.{are_free, is_free}
use Rattle.frz_index.proofs.placing.put_ranked.Goals as goal
use Rattle.frz_index.proofs.placing.put_ranked.Goals.{After-is_empty}

-- the square of the place is empty exactly if the board says so
free_at : (c : After-is_empty) → is_free (slice_get c.args.states.now c.last_place-end.result)
    c.loop-left.p.cells ≡ c.is_empty.result
free_at c =
    let place = c.last_place-end.result in
    free_read c.args.states.now place c.loop-left.p.cells c.index-states-end-in-loop-left.result
    (get_or c.args.states.now place c.index-states-end-in-loop-left.result).1
    (omega (arith, c.loop-left.invariant.within, c.last_place-end.ensures.below))
    c.index-states-end-in-loop-left.is refl
    ∙ sym c.is_empty.ensures

pub loop-left-preserved : goal.loop-left-preserved
loop-left-preserved c =
    let place = c.last_place-end.result in
    let ways : c.binomial-rest.result ≡ choose place c.loop-left.left = omega (
      arith,
      c.binomial-rest.ensures,
      c.last_place-end.ensures.fits,
      c.loop-left.invariant.small,
      c.requires.small,
    ) in
    let cells = c.loop-left.p.cells in
    let square = (get_or c.args.states.now place c.index-states-end-in-loop-left.result).1 in
    let put : slice_set cells square c.cell_of.result ≡ put_man c.args.colour
    (slice_get c.args.states.now place) cells =
    put_read c.args.colour c.args.states.now place cells c.index-states-end.result
    c.index-states-end-in-loop-left.result square c.cell_of.result
    (omega (arith, c.loop-left.invariant.within, c.last_place-end.ensures.below))
    c.index-states-end.is c.index-states-end-in-loop-left.is c.cell_of.ensures.cell refl in
    let others = unrank place (c.loop-left.left - 1)
    (c.loop-left.rest - choose place c.loop-left.left) in
    let next : unrank c.loop-left.end c.loop-left.left c.loop-left.rest ≡ place ∷ others =
    unrank_next c.loop-left.end c.loop-left.left c.loop-left.rest place c.loop-left-test.true
    c.last_place-end.ensures.below c.last_place-end.ensures.fits
    c.last_place-end.ensures.greatest in
    let left : put_men c.args.colour c.args.states.now
    (unrank place (c.loop-left.left - 1) (c.loop-left.rest - c.binomial-rest.result))
    (slice_set cells square c.cell_of.result) ≡ put_men c.args.colour c.args.states.now
    (unrank c.loop-left.end c.loop-left.left c.loop-left.rest) cells =
    ap (λ x. put_men c.args.colour c.args.states.now
    (unrank place (c.loop-left.left - 1) (c.loop-left.rest - x))
    (slice_set cells square c.cell_of.result)) ways
    ∙ ap (put_men c.args.colour c.args.states.now others) put
    ∙ sym (ap (λ ks. put_men c.args.colour c.args.states.now ks cells) next) in
    record {
      within = omega (arith, c.loop-left.invariant.within, c.last_place-end.ensures.below);
      few = omega (arith, c.loop-left.invariant.few);
      small = omega (arith, c.loop-left.invariant.small);
      rest =
          ap (λ (b : Board). record b {
            cells = put_men c.args.colour c.args.states.now
                (unrank place (c.loop-left.left - 1) (c.loop-left.rest - c.binomial-rest.result))
                b.cells;
          }) c.set.ensures
          ∙ ap (λ (xs : List ℕ). record c.loop-left.p { cells = xs }) left
          ∙ c.loop-left.invariant.rest;
      free =
          ap (λ (b : Board). are_free c.args.colour c.args.states.now
          (unrank place (c.loop-left.left - 1) (c.loop-left.rest - c.binomial-rest.result))
          b.cells) c.set.ensures
          ∙ ap (λ x. are_free c.args.colour c.args.states.now
          (unrank place (c.loop-left.left - 1) (c.loop-left.rest - x))
          (slice_set cells square c.cell_of.result)) ways
          ∙ ap (are_free c.args.colour c.args.states.now others) put
          ∙ sym (ap (λ b. b && are_free c.args.colour c.args.states.now others
          (put_man c.args.colour (slice_get c.args.states.now place) cells))
          (free_at (goal.at.loop-left-preserved c).After-is_empty ∙ c.if-not-is_empty.false))
          ∙ sym (ap (λ ks. are_free c.args.colour c.args.states.now ks cells) next)
          ∙ c.loop-left.invariant.free;
    }

-- where a man finds his square taken, not all are free
pub returns-then-not-is_empty-clause-free : goal.returns-then-not-is_empty-clause-free
returns-then-not-is_empty-clause-free c =
    let place = c.last_place-end.result in
    let cells = c.loop-left.p.cells in
    let others = unrank place (c.loop-left.left - 1)
    (c.loop-left.rest - choose place c.loop-left.left) in
    sym (ap (λ b. b && are_free c.args.colour c.args.states.now others
    (put_man c.args.colour (slice_get c.args.states.now place) cells))
    (free_at (goal.at.returns-then-not-is_empty-clause-free c).After-is_empty
    ∙ c.if-not-is_empty.true))
    ∙ sym (ap (λ ks. are_free c.args.colour c.args.states.now ks cells)
    (unrank_next c.loop-left.end c.loop-left.left c.loop-left.rest place c.loop-left-test.true
    c.last_place-end.ensures.below c.last_place-end.ensures.fits
    c.last_place-end.ensures.greatest))
    ∙ c.loop-left.invariant.free
