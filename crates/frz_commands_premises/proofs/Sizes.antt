-- How many numbers the tables before a place have.
use Rattle.std.proofs.Common.{◌≡◌, ◌+◌, ◌<◌, ◌≤◌, ◌∷◌, ◌++◌, ◌∙◌, [], ℕ, List, ap, arith, get_or, length, sym, take}
use Rattle.std.specs.Prelude.{sum_by}
use Rattle.std.proofs.lemmas.List.{take_more}
use Rattle.std.proofs.lemmas.List.Sums.{sum_by-append, sum_by-cons, sum_by-take-le}
use Rattle.frz_sets.specs.Sets.{size_of}
use Rattle.frz_atlas.specs.BackTable.{BackTable}

abbrev pub back_size : BackTable → ℕ
back_size back = size_of back.table.rules.groups

-- those of one table more
pub sizes_more : (backs : List BackTable) (place : ℕ) (back : BackTable) → place < length backs →
    back ≡ get_or backs place back →
    sum_by back_size (take (place + 1) backs) ≡ sum_by back_size (take place backs) + back_size back
sizes_more backs place back within is =
    let one = sum_by-cons back_size back [] in
    let both = ap (sum_by back_size)
    (take_more backs place back within
    ∙ ap (λ (b : BackTable). take place backs ++ b ∷ []) (sym is))
    ∙ sum_by-append back_size (take place backs) (back ∷ []) in
    omega (arith, one, both)

-- all have no fewer
pub sizes_before : (backs : List BackTable) (place : ℕ) →
    sum_by back_size (take place backs) ≤ sum_by back_size backs
sizes_before backs place = sum_by-take-le back_size backs place

pub sizes_here : (backs : List BackTable) (place : ℕ) (back : BackTable) → place < length backs →
    back ≡ get_or backs place back →
    sum_by back_size (take place backs) + back_size back ≤ sum_by back_size backs
sizes_here backs place back within is =
    let more = sizes_more backs place back within is in
    let all = sizes_before backs (place + 1) in omega (arith, more, all)
