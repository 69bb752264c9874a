use Rattle.std.proofs.Common.{◌≡◌, ◌∙◌, ◌≤◌, ◌<◌, ◌-◌, ◌+◌, ◌∷◌, [], ap, sym, refl, ℕ, suc, List, None, length, map, get_or, take, drop, arith}
use Rattle.std.proofs.lemmas.List.{take_rest}
use Rattle.frz_board.specs.Boards.{Board}
use Rattle.frz_atlas.specs.BackTable.{BackTable}
use Rattle.frz_atlas.specs.Codes.{codes_of}
use Rattle.frz_atlas.specs.FileOn.{loaded_back}
use Rattle.frz_commands_atlas.specs.FirstBack.{first_found, found_or}
use Rattle.frz_commands_atlas.proofs.first_back.+first_found.Goals as goal

none_found : (place : ℕ) (backs : List BackTable) (q : Board) → length backs < 1
    → first_found place (map loaded_back backs) q ≡ None
unfolding first_found
none_found place [] q few = refl
none_found place (back ∷ backs) q few = absurd (omega arith)

-- the first of the tables is asked, and then the others
first_asked : (place : ℕ) (backs : List BackTable) (back : BackTable) (q : Board)
    → 1 ≤ length backs → back ≡ get_or backs 0 back
    → found_or place (first_found (place + 1)
    (map loaded_back (take (length backs - 1) (drop 1 backs))) q) (codes_of (loaded_back back) q)
    ≡ first_found place (map loaded_back backs) q
unfolding first_found
first_asked place [] back q some is = absurd (omega arith)
first_asked place (first ∷ backs) back q some is =
    ap (λ (l : List BackTable). found_or place (first_found (place + 1) (map loaded_back l) q)
    (codes_of (loaded_back back) q)) (take_rest (first ∷ backs) 1)
    ∙ (ap (λ n. found_or place (first_found n (map loaded_back backs) q)
    (codes_of (loaded_back back) q)) (let next : place + 1 ≡ suc place = omega arith in next)
    ∙ ap (λ (b : BackTable). found_or place (first_found (suc place) (map loaded_back backs) q)
    (codes_of (loaded_back b) q)) is)

pub returns-in-empty-clause-found : goal.returns-in-empty-clause-found
returns-in-empty-clause-found t c =
    sym (none_found c.args.place c.args.backs.now c.args.q.now c.in-empty.len_below)

pub returns-in-Some-clause-found : goal.returns-in-Some-clause-found
returns-in-Some-clause-found t c =
    let first = first_asked c.args.place c.args.backs.now c.back-item.result c.args.q.now
    c.in-len1-up.len_at_least c.back-item.is in
    let found = sym c.codes_on.ensures ∙ c.in-Some.is in
    let rest = first_found (c.args.place + 1)
    (map loaded_back (take (length c.args.backs.now - 1) (drop 1 c.args.backs.now)))
    c.args.q.now in
    sym (ap (found_or c.args.place rest) found) ∙ first

pub returns-in-None-clause-found : goal.returns-in-None-clause-found
returns-in-None-clause-found t c =
    let first = first_asked c.args.place c.args.backs.now c.back-item.result c.args.q.now
    c.in-len1-up.len_at_least c.back-item.is in
    let found = sym c.codes_on.ensures ∙ c.in-None.is in
    let rest = first_found (c.args.place + 1)
    (map loaded_back (take (length c.args.backs.now - 1) (drop 1 c.args.backs.now)))
    c.args.q.now in
    c.first_found.ensures.found ∙ (sym (ap (found_or c.args.place rest) found) ∙ first)
