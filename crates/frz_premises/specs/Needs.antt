-- An exit at which a line needs belief.
use Rattle.std.specs.Prelude.{◌≡◌, ◌<◌, ℕ, Bool, true, false, List, ⊤}
use Rattle.std.specs.List.{list_any}
use Rattle.frz_board.specs.Boards.{Board}
use Rattle.frz_fide.specs.Valid.{IsValid}
use Rattle.frz_sets.specs.declared.exit.Value.{Value}
use Rattle.frz_sets.specs.Views.{ExitLine, RuleLines}
use Rattle.frz_arena.specs.Exits.{IsExit}
use Rattle.frz_game.specs.Games.{game_of}
use Rattle.frz_backs.specs.Links.{Link}
use Rattle.frz_premises.specs.declared.basis.Basis.{Basis}
use Rattle.frz_premises.specs.declared.basis.Basis.TheVariants.{AsksNothing, ByMen, ByTable, ByTables, Believed}
use Rattle.frz_exits.specs.Values.{is_unknown}
use Rattle.frz_premises.specs.Deciding.{decides}
use Rattle.frz_premises.specs.Men.{men_show}
use Rattle.frz_premises.specs.Saying.{says_as_much}

-- the position is one legal move outside the set, and the line decides it; neither the men there nor
-- a table show what the line says of it
pub record NeedsBelief (leans : Bool) (rules : RuleLines) (value : Board → Value)
    (links : List Link) (i : ℕ) (line : ExitLine) (q : Board) : Type 0 where
  pub is_exit : IsExit (game_of rules value) q
  pub decided : decides leans rules links i q ≡ true
  pub known : is_unknown line.value ≡ false
  pub asked : men_show line.value q ≡ false
  pub none : list_any (λ link. says_as_much line.value link q) links ≡ false

-- what is told of a line can be named, where there are so many tables: the table that proves it is
-- one of them, and the exit that needs belief is a valid position
abbrev pub IsTellable : (tables : ℕ) → Basis → Type 0
IsTellable tables AsksNothing = ⊤
IsTellable tables ByMen = ⊤
IsTellable tables (ByTable k) = k < tables
IsTellable tables ByTables = ⊤
IsTellable tables (Believed q) = IsValid q
