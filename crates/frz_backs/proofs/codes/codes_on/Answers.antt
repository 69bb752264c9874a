use Rattle.std.proofs.Common.{◌≡◌, ◌∙◌, ℕ, List, Option, Some, None, ap, ap₂, slice_index, length, arith}
use Rattle.std.proofs.lemmas.List.{get_or_read_under}
use Rattle.frz_board.specs.Boards.{Board}
use Rattle.frz_sets.specs.Views.{GroupLine}
use Rattle.frz_index.specs.Membership.{number_of}
use Rattle.frz_backs.specs.FileOn.{loaded_back}
use Rattle.frz_chain.proofs.Lemmas.{number_below}
use Rattle.frz_backs.specs.Codes.{codes_at}
use Rattle.frz_backs.proofs.codes.codes_on.Goals as goal

-- what the set answers is what the groups of the table give
by_groups : (q : Board) (o : Option ℕ) (set groups : List GroupLine) → o ≡ number_of set q
    → set ≡ groups → o ≡ number_of groups q
by_groups q o set groups e same = e ∙ ap (λ gs. number_of gs q) same

pub index-requires : goal.index-requires
index-requires c =
    let back = c.args.back.now in
    let has = by_groups c.args.q.now (Some c.in-Some.i) c.set.result.now back.table.rules.groups
    c.in-Some.ensures.function c.set.ensures in
    let below = number_below back.table.rules.groups c.args.q.now c.in-Some.i has in
    let white = back.white_many in
    let black = back.black_many in
    omega (arith, below, white, black)

pub index-requires-in-Some : goal.index-requires-in-Some
index-requires-in-Some c =
    let back = c.args.back.now in
    let has = by_groups c.args.q.now (Some c.in-Some.i) c.set.result.now back.table.rules.groups
    c.in-Some.ensures.function c.set.ensures in
    let below = number_below back.table.rules.groups c.args.q.now c.in-Some.i has in
    let white = back.white_many in
    let black = back.black_many in
    omega (arith, below, white, black)

pub returns-in-Some : goal.returns-in-Some
returns-in-Some c =
    let back = c.args.back.now in
    let i = c.in-Some.i in
    let q = c.args.q.now in
    let has = by_groups q (Some i) c.set.result.now back.table.rules.groups
    c.in-Some.ensures.function c.set.ensures in
    let below = number_below back.table.rules.groups q i has in
    let white_many = back.white_many in
    let black_many = back.black_many in
    let white : c.index.result.now ≡ slice_index back.white.items i =
    get_or_read_under back.white.items i (length back.white.items) c.index.result.now 0
    c.index.ensures
    (omega (arith, below, white_many))
    (omega arith) in
    let black : c.index-in-Some.result.now ≡ slice_index back.black.items i =
    get_or_read_under back.black.items i (length back.black.items) c.index-in-Some.result.now 0
    c.index-in-Some.ensures
    (omega (arith, below, black_many))
    (omega arith) in
    ap₂ (λ (w b : ℕ). Some (w, b)) white black ∙ ap (codes_at (loaded_back back)) has

pub returns-in-None : goal.returns-in-None
returns-in-None c =
    let back = c.args.back.now in
    let lacks = by_groups c.args.q.now None c.set.result.now back.table.rules.groups
    c.in-None.ensures.function c.set.ensures in
    ap (codes_at (loaded_back back)) lacks
