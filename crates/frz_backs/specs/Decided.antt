-- Where the exit lines and the tables behind them together decide the game outside the set.
use Rattle.std.specs.Prelude.{◌≡◌, ◌⊎◌, true, List, Any}
use Rattle.frz_board.specs.Boards.{Board}
use Rattle.frz_board.specs.declared.man.Colour.TheVariants.{White, Black}
use Rattle.frz_sets.specs.declared.exit.Value.TheVariants.{Unknown}
use Rattle.frz_sets.specs.Views.{RuleLines}
use Rattle.frz_index.specs.Members.{Member}
use Rattle.frz_arena.specs.Exits.{IsExit}
use Rattle.frz_chain.specs.ExactTables.{HasExactOutcomes, is_decided}
use Rattle.frz_chain.specs.Games.{game_of}
use Rattle.frz_backs.specs.Links.{Link, backs_of}
use Rattle.frz_backs.specs.Values.{atlas_value, own_value}

-- the outcomes of both sides in a table are those of chess
abbrev pub HasBothOutcomes : Link → Type 0
HasBothOutcomes link =
    HasExactOutcomes link.rules White link.back.white
    × HasExactOutcomes link.rules Black link.back.black

-- the position is in the set of one of the tables
abbrev pub IsBehind : List Link → Board → Type 0
IsBehind links q = Any (λ link. Member link.rules.groups q) links

-- at each position one legal move outside the set, an exit line says who wins or that the game is
-- drawn; or no exit line says anything, and the position is in the set of one of the tables
abbrev pub AreLinesOrTables : RuleLines → List Link → Type 0
AreLinesOrTables rules links =
    (q : Board) → IsExit (game_of rules (atlas_value rules (backs_of links))) q →
    (is_decided (own_value rules (backs_of links) q) ≡ true)
    ⊎ ((own_value rules (backs_of links) q ≡ Unknown) × IsBehind links q)
