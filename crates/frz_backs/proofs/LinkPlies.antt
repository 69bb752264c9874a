-- The plies in which a win over several tables mates.
use Rattle.std.proofs.Common.{◌≤◌, ◌+◌, max, ℕ, List, [], ◌∷◌, ◌++◌, true, All, sym, subst, arith}
use Rattle.std.proofs.lemmas.List.{append_assoc, append-nil}
use Rattle.std.proofs.lemmas.List.Elements.{All-nil, All-push, All-weaker}
use Rattle.frz_board.specs.declared.man.Colour.{Colour}
use Rattle.frz_sets.specs.Views.{RuleLines}
use Rattle.frz_arena.specs.Chess.{mate_alone}
use Rattle.frz_arena.proofs.Lemmas.{forces_later}
use Rattle.frz_chain.specs.Games.{chess}
use Rattle.frz_chain.specs.Books as chain
use Rattle.frz_chain.proofs.Lemmas.{forced_later, win_forced}
use Rattle.frz_backs.specs.Books.{Back}
use Rattle.frz_backs.specs.LinkPlies.{AreWithinPlies, MatesOver, MatesThrough, longest_over, plies_behind}
use Rattle.frz_backs.specs.Links.{AreExact, AreExactOver, AreTrueLinesOver, Link, backs_of, value_over}
use Rattle.frz_backs.specs.Values.{atlas_value}
use Rattle.frz_backs.proofs.TablePlies.{TellsWithin, counted_forced, exits_forced, plain, table_within}
use Rattle.frz_backs.proofs.TrueTables.{AllTellTrue, link_true, none_tells, tables_true}

pub mates_within : (rules : RuleLines) (links : List Link) → AreExact links → (side : Colour) →
    MatesOver rules links side
mates_within rules links exact side lines own count numbered n p bound =
    let backs = backs_of links in
    forces_later chess mate_alone side (n + 0) n p (omega arith)
    (win_forced rules (atlas_value rules backs) side 0
    (counted_forced rules backs side own numbered (tables_true links exact lines) count)
    n p bound)

-- what is told within some plies is also told within more
table_later : (side : Colour) (few many : ℕ) → few ≤ many → (back : Back) →
    TellsWithin side few back → TellsWithin side many back
table_later side few many le back told q =
    forced_later side few many le q (chain.back_value (plain back) q) (told q)

-- table by table
each_within : (side : Colour) (before : List Back) (longest : ℕ) (links : List Link)
    (most : Link → ℕ) → AllTellTrue before → All (TellsWithin side longest) before →
    AreExactOver before links → AreTrueLinesOver before links →
    AreWithinPlies before links side most →
    All (TellsWithin side (longest_over side before longest links most)) (before ++ backs_of links)
unfolding AreExactOver AreTrueLinesOver AreWithinPlies longest_over
each_within side before longest [] most told within exact own few =
    subst (All (TellsWithin side longest)) (sym (append-nil before)) within
each_within side before longest (link ∷ links) most told within exact own few =
    let more = plies_behind side link.leans before longest in
    let here = most link + more in
    let next = max longest here in
    let tells : TellsWithin side (more + most link) link.back =
    table_within link.rules (value_over link.leans link.rules before) link.back exact.0 side more
    (exits_forced link.leans link.rules before side longest told within own.0 few.1)
    (most link)
    few.0 in
    subst (All (TellsWithin side (longest_over side (before ++ (link.back ∷ [])) next links most)))
    (append_assoc before (link.back ∷ []) (backs_of links))
    (each_within side (before ++ (link.back ∷ [])) next links most
    (link_true link before exact.0 told own.0)
    (All-push (TellsWithin side next) before link.back
    (All-weaker (TellsWithin side longest) (TellsWithin side next)
    (table_later side longest next (omega arith)) before within)
    (table_later side (more + most link) next (omega arith) link.back tells))
    exact.1 own.1 few.2)

pub mates_through : (rules : RuleLines) (links : List Link) → AreExact links → (side : Colour) →
    MatesThrough rules links side
mates_through rules links exact side lines own numbered most few n p bound =
    let backs = backs_of links in
    let longest = longest_over side [] 0 links most in
    win_forced rules (atlas_value rules backs) side (plies_behind side true backs longest)
    (exits_forced true rules backs side longest (tables_true links exact lines)
    (each_within side [] 0 links most none_tells (All-nil (TellsWithin side 0)) exact lines few)
    own numbered)
    n p bound
