use Rattle.std.proofs.Common.{◌≡◌, map}
use Rattle.frz_backs.specs.Loaded.{link_loaded}
use Rattle.frz_journeys.specs.Tables.{first_from}
use Rattle.frz_journeys.proofs.Finding.{first_loaded}
use Rattle.frz_journeys.proofs.onward.first_holding.Given as goal

-- no table before this one has the position
abbrev pub invariant-loop-place : goal.invariant-loop-place
invariant-loop-place l =
    first_from 0 (map link_loaded l.tables) l.q ≡ first_loaded l.place l.tables l.q
