use Rattle.std.proofs.Common.{◌≡◌, ◌∙◌, ◌<◌, Bool, List, Some, map, sym, ap, length, get_or, arith}
use Rattle.std.proofs.lemmas.List.{length-map}
use Rattle.frz_sets.specs.Views.{ExitLine, RuleLines}
use Rattle.frz_board.specs.Boards.{Board}
use Rattle.frz_backs.specs.BackTable.{BackTable}
use Rattle.frz_backs.specs.Books.{Back}
use Rattle.frz_backs.specs.FileOn.{loaded_back}
use Rattle.frz_backs.specs.Lines.{line_over}
use Rattle.frz_backs.specs.Links.{backs_of}
use Rattle.frz_backs.proofs.Lemmas.{loaded_backs}
use Rattle.frz_premises.specs.Deciding.{decided_by}
use Rattle.frz_backs.specs.Loaded.{link_loaded}
use Rattle.frz_premises.proofs.Trying.{none_decides, one_decides, place_below}
use Rattle.frz_premises.proofs.walk.note.Goals as goal
use Rattle.frz_premises.proofs.walk.note.Goals.{In-Some}

-- the tables as they were loaded, and with their rules
by_links : (leans : Bool) (rules : RuleLines) (backs : List BackTable) (q : Board) →
    line_over leans rules (map loaded_back backs) q
    ≡ line_over leans rules (backs_of (map link_loaded backs)) q
by_links leans rules backs q =
    ap (λ (bs : List Back). line_over leans rules bs q) (sym (loaded_backs backs))

-- the line that decides the exit
at : (c : In-Some) → Some c.in-Some.i
    ≡ line_over c.args.leans c.args.rules.now (backs_of (map link_loaded c.args.backs.now)) c.args.q.now
at c =
    c.in-Some.ensures ∙ by_links c.args.leans c.args.rules.now c.args.backs.now c.args.q.now

below : (c : In-Some) → (line : ExitLine) × (c.in-Some.i < length c.args.rules.now.exits)
below c =
    place_below c.args.leans c.args.rules.now (map link_loaded c.args.backs.now) c.args.q.now
    c.in-Some.i (at c)

pub offset_bounds-trials-i : goal.offset_bounds-trials-i
offset_bounds-trials-i c =
    let low = (below (goal.at.offset_bounds-trials-i c).In-Some).1 in
    let few = c.requires.sound.lines.few_exits in
    omega (arith, low, few)

pub bounds-trials-i : goal.bounds-trials-i
bounds-trials-i c =
    let low = (below (goal.at.bounds-trials-i c).In-Some).1 in
    let many = c.requires.tried.1.many in
    omega (arith, low, many)

pub note-requires-clause-many : goal.note-requires-clause-many
note-requires-clause-many c =
    let line = below (goal.at.note-requires-clause-many c).In-Some in
    let low = line.1 in
    let tried = c.requires.tried.1 in
    let many = tried.many in
    (tried.each c.in-Some.i line.0 c.index-trials-i.result (omega (arith, low, many))).many
    ∙ length-map c.args.backs.now link_loaded

pub returns-in-Some : goal.returns-in-Some
returns-in-Some c qs tried =
    let d = (goal.at.returns-in-Some c).In-Some in
    let rules = c.args.rules.now in
    let links = map link_loaded c.args.backs.now in
    let q = c.args.q.now in
    let i = c.in-Some.i in
    let low = (below d).1 in
    let many = tried.many in
    one_decides c.args.leans rules links qs q c.args.trials.now tried i (at d) c.note.new.self
    (λ line.
    (let was = tried.each i line c.index-trials-i.result (omega (arith, low, many)) in
    c.note.ensures (get_or rules.exits i line) (decided_by c.args.leans rules links i qs) was))

pub returns-in_default : goal.returns-in_default
returns-in_default c qs tried =
    let none = sym c.in_default.is ∙ c.line_over.ensures
    ∙ by_links c.args.leans c.args.rules.now c.args.backs.now c.args.q.now in
    none_decides c.args.leans c.args.rules.now (map link_loaded c.args.backs.now) qs c.args.q.now
    c.args.trials.now tried none
