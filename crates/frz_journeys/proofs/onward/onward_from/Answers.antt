use Rattle.std.proofs.Common.{◌≡◌, map, Ok, Option, subst, sym}
use Rattle.std.specs.Prelude.{MatchOption, None}
use Rattle.frz_board.specs.Boards.{Board}
use Rattle.frz_backs.specs.Loaded.{link_loaded}
use Rattle.frz_ways.specs.declared.way_end.Finish.{Finish}
use Rattle.frz_journeys.specs.Onward.{Finds, GoesOnward, LeftLegally}
use Rattle.frz_journeys.specs.Tables.{next_of}
use Rattle.frz_journeys.proofs.onward.onward_from.Goals as goal

pub position_behind-requires : goal.position_behind-requires
position_behind-requires c =
    subst (λ (f : Finish). LeftLegally c.args.table.now.table.rules.groups (Ok f)) c.in-Left.is
    c.requires

pub returns-in-Left : goal.returns-in-Left
returns-in-Left c =
    let table = c.args.table.now in
    let before = c.args.before.now in
    let entry = c.next_table.result in
    subst (λ (f : Finish). GoesOnward table before (Ok f) entry) (sym c.in-Left.is)
    (subst (λ (o : Option Board). MatchOption o (entry ≡ None)
    (λ q. Finds before q (next_of (map link_loaded before) (link_loaded table) q) entry))
    (sym c.position_behind.ensures.position) c.next_table.ensures)
