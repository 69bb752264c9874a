use Rattle.std.proofs.Common.{◌≡◌, ◌∷◌, [], List, ℕ, length, true, refl, ap, sym, ◌∙◌, arith, get_or}
use Rattle.std.specs.Prelude.{◌&&◌}
use Rattle.frz_combinations.specs.Combinations.{unrank}
use Rattle.frz_index.specs.Candidates.{put_men}
use Rattle.frz_index.specs.FreeSquares.{are_free}
use Rattle.frz_index.proofs.GroupDigits.{free_read, put_read}
use Rattle.frz_index.proofs.LastPlaces.{one_place}
use Rattle.frz_index.proofs.placing.put_one.Goals as goal
use Rattle.frz_index.proofs.placing.put_one.Goals.{After-is_empty}

place_is : (c : After-is_empty) →
    unrank (length c.args.states.now) 1 c.args.rank ≡ c.min-place.result ∷ []
place_is c =
    one_place (length c.args.states.now) c.args.rank c.min-place.result c.requires.some
    c.min-place.ensures

-- the man finds his square empty exactly if the board says so
free_is : (c : After-is_empty) →
    are_free c.args.colour c.args.states.now (unrank (length c.args.states.now) 1 c.args.rank)
    c.args.p.now.cells ≡ (c.is_empty.result && true)
free_is c =
    let states = c.args.states.now in
    let place = c.min-place.result in
    let cells = c.args.p.now.cells in
    let read = c.index-states-place-2.result in
    ap (λ ks. are_free c.args.colour states ks cells) (place_is c)
    ∙ ap (λ b. b && true)
    (free_read states place cells read (get_or states place read).1
    (omega (arith, c.requires.some, c.min-place.ensures)) c.index-states-place-2.is refl
    ∙ sym c.is_empty.ensures)

pub returns-then-not-is_empty-clause-free : goal.returns-then-not-is_empty-clause-free
returns-then-not-is_empty-clause-free c =
    sym (free_is (goal.at.returns-then-not-is_empty-clause-free c).After-is_empty
    ∙ ap (λ b. b && true) c.if-not-is_empty.true)

pub returns-clause-free : goal.returns-clause-free
returns-clause-free c =
    sym (free_is (goal.at.returns-clause-free c).After-is_empty
    ∙ ap (λ b. b && true) c.if-not-is_empty.false)

pub returns-clause-put : goal.returns-clause-put
returns-clause-put c =
    let states = c.args.states.now in
    let place = c.min-place.result in
    let cells = c.args.p.now.cells in
    let read = c.index-states-place-2.result in
    λ _. c.set.ensures
    ∙ ap (λ (xs : List ℕ). record c.args.p.now { cells = xs })
    (put_read c.args.colour states place cells c.index-states-place.result read
    (get_or states place read).1 c.cell_of.result
    (omega (arith, c.requires.some, c.min-place.ensures)) c.index-states-place.is
    c.index-states-place-2.is c.cell_of.ensures.cell refl
    ∙ sym (ap (λ ks. put_men c.args.colour states ks cells)
    (place_is (goal.at.returns-clause-put c).After-is_empty)))
