-- The tables of a journey as they were loaded are those in the files.
use Rattle.std.proofs.Common.{subst, ℕ, List, map}
use Rattle.frz_board.specs.Boards.{Board}
use Rattle.frz_store.specs.Told.{StoreTold}
use Rattle.frz_table.specs.Opening.{contents_of}
use Rattle.frz_journeys.specs.Links.{Link}
use Rattle.frz_journeys.specs.Loaded.{link_loaded}
use Rattle.frz_atlas_prelude.specs.Behind.{link_of}
use Rattle.frz_atlas_prelude.specs.Reading.{LoadsAtlas}
use Rattle.frz_atlas_prelude.specs.LoadedAtlas.{LoadedAtlas}
use Rattle.frz_ways.specs.declared.opponent.Player.{Player}
use Rattle.frz_journeys.specs.declared.place.Arrival.{Arrival}
use Rattle.frz_journeys.specs.Playing.{TellsJourney}
use Rattle.frz_commands_journeys.specs.JourneyOf.{own_table}

module _ {table : List ℕ} {behind : List (List ℕ)} {old new : StoreTold} (given : LoadedAtlas)
    (l : LoadsAtlas table behind old new given) where
  pub told_by_files : (player : Player) (p : Board) (whole took text : List ℕ) (arrival : Arrival)
      (before now : ℕ)
      → TellsJourney player.opponent player.side (map link_loaded given.backs.items)
      (link_loaded given.table) p whole took text arrival before now
      → TellsJourney player.opponent player.side (map link_of l.tables)
      (own_table (contents_of given.table.table) l.bytes) p whole took text arrival before now
  told_by_files player p whole took text arrival before now tells =
      subst (λ (own : Link). TellsJourney player.opponent player.side (map link_of l.tables) own p
      whole took text arrival before now) l.keeps
      (subst (λ (links : List Link). TellsJourney player.opponent player.side links
      (link_loaded given.table) p whole took text arrival before now) l.all_keep tells)
