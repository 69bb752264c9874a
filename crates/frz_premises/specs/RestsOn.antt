-- What each word on an exit line says of it.
use Rattle.std.specs.Prelude.{◌≡◌, ◌⊎◌, ℕ, Bool, true, List, Some, slice_get}
use Rattle.std.specs.List.{list_any}
use Rattle.frz_board.specs.Boards.{Board}
use Rattle.frz_sets.specs.Views.{ExitLine, RuleLines}
use Rattle.frz_arena.specs.Exits.{IsExit}
use Rattle.frz_exits.specs.Books.{value_by}
use Rattle.frz_exits.specs.Values.{is_unknown}
use Rattle.frz_game.specs.Games.{game_of}
use Rattle.frz_backs.specs.Links.{Link}
use Rattle.frz_premises.specs.declared.basis.Basis.{Basis}
use Rattle.frz_premises.specs.declared.basis.Basis.TheVariants.{AsksNothing, ByMen, ByTable, ByTables, Believed}
use Rattle.frz_premises.specs.Deciding.{decides}
use Rattle.frz_premises.specs.Men.{men_show}
use Rattle.frz_premises.specs.Needs.{NeedsBelief}
use Rattle.frz_premises.specs.Saying.{says_as_much}

-- the position is one legal move outside the set, and the line at this place decides it
pub record IsDecided (leans : Bool) (rules : RuleLines) (links : List Link) (i : ℕ) (q : Board) :
    Type 0 where
  pub is_exit : IsExit (game_of rules (value_by rules)) q
  pub decided : decides leans rules links i q ≡ true

-- what the line at this place of rules rests on, with these tables
pub data RestsOn (leans : Bool) (rules : RuleLines) (links : List Link) (i : ℕ)
    (line : ExitLine) : Basis → Type 0 where
  -- it decides no exit, or its value is unknown
  asks_nothing : ((q : Board) → IsDecided leans rules links i q → is_unknown line.value ≡ true) →
      RestsOn leans rules links i line AsksNothing
  -- at each exit that it decides the men show its value
  by_men : ((q : Board) → IsDecided leans rules links i q → men_show line.value q ≡ true) →
      RestsOn leans rules links i line ByMen
  -- at each exit that it decides the men show its value, or the table at place k says as much
  by_table : (k : ℕ) (link : Link) → slice_get links k ≡ Some link →
      ((q : Board) → IsDecided leans rules links i q →
      (men_show line.value q ≡ true) ⊎ (says_as_much line.value link q ≡ true)) →
      RestsOn leans rules links i line (ByTable k)
  -- at each exit that it decides the men show its value, or some table says as much
  by_tables : ((q : Board) → IsDecided leans rules links i q → (men_show line.value q ≡ true)
      ⊎ (list_any (λ link. says_as_much line.value link q) links ≡ true)) →
      RestsOn leans rules links i line ByTables
  -- the position needs belief: the line decides it, and neither the men nor a table show its value
  believed : (q : Board) → NeedsBelief leans rules (value_by rules) links i line q →
      RestsOn leans rules links i line (Believed q)
