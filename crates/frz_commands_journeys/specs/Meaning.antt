-- What the answers of `line` and `play` mean.
use Rattle.std.specs.Prelude.{◌≡◌, ◌⊎◌, ℕ, ◌+◌, ◌≤◌, List, [], length, map, slice_index, Result, Ok, Err, codes}
use Rattle.frz_board.specs.Boards.{Board}
use Rattle.frz_board.specs.declared.man.Colour.{Colour}
use Rattle.frz_sets.specs.declared.exit.Value.{Value}
use Rattle.frz_index.specs.Members.{Member, Num}
use Rattle.frz_store.specs.Files.{Files}
use Rattle.frz_table.specs.Opening.{Contents}
use Rattle.frz_check.specs.Kept.{kept_codes}
use Rattle.frz_check.specs.KeptTables.{KeepsBound, KeepsTables}
use Rattle.frz_arena.specs.declared.bound.Bound.TheVariants.{Wins, Holds}
use Rattle.frz_arena.specs.Codes.{code_of}
use Rattle.frz_game.specs.Values.{AreTrueExits}
use Rattle.frz_game.specs.declared.wrong.Wrong.{Wrong as WrongEntry}
use Rattle.frz_journeys.specs.Links.{AreExact, AreTrueLines, Link, backs_of, own_over, value_over}
use Rattle.frz_atlas_prelude.specs.Behind.{TableBytes, leans, link_of}
use Rattle.frz_atlas_prelude.specs.Loading.{opened_all}
use Rattle.frz_answer.specs.declared.status.Status.{Status}
use Rattle.frz_answer.specs.declared.status.Status.TheVariants.{Success, Wrong, Table, Outside, Missing, Limit}
use Rattle.frz_answer.specs.Answers.{Answer}
use Rattle.frz_atlas_prelude.specs.OwnFiles.{OpensAsOwn}
use Rattle.frz_atlas_prelude.specs.TableRefusals.{TellsRefusal}
use Rattle.frz_ways.specs.declared.end.LineFault.TheVariants as faults
use Rattle.frz_ways.specs.declared.opponent.Opponent.TheVariants as opponents
use Rattle.frz_ways.specs.declared.opponent.Player.{Player}
use Rattle.frz_ways.specs.declared.session_end.PlayFault.{PlayFault}
use Rattle.frz_ways.specs.declared.session_end.PlayFault.TheVariants as plays
use Rattle.frz_ways.specs.declared.session_end.PlayLimit.{PlayLimit}
use Rattle.frz_ways.specs.declared.way_end.WayEnd.{WayEnd}
use Rattle.frz_ways.specs.Reading.{Input}
use Rattle.frz_journeys.specs.declared.place.Place.{Place}
use Rattle.frz_journeys.specs.Arrivals.{Arrives}
use Rattle.frz_journeys.specs.Journeys.{Stage}
use Rattle.frz_journeys.specs.JourneyGames.{AreLegalFrom, AtEach, AtLast, IsGameBy, moves_of}
use Rattle.frz_journeys.specs.KeptBounds.{IsHeldAt, IsWonAt}
use Rattle.frz_commands_journeys.specs.JourneyOf.{IsJourneyBy, own_table, played_text}

-- TABLE and each of the BACKs open as their own kinds
pub record Opens (table : List ℕ) (behind : List (List ℕ)) (files : Files) : Type 0 where
  pub bytes : List ℕ
  pub contents : Contents
  pub open_file : OpensAsOwn table files bytes contents
  pub tables : List TableBytes
  pub all_open : opened_all (map files behind) ≡ Ok tables

-- the position is in TABLE's set, and these are the stages of the player's journey from it by the
-- codes in the files. The journey is a game of chess: each move is legal where it is played. At each
-- stage the side plays no move that it renounces in the text of that table. No table has two stages
pub record HasJourney (player : Player) (table : List ℕ) (behind : List (List ℕ)) (p : Board)
    (files : Files) (heard : List ℕ) : Type 0 where
  pub files_open : Opens table behind files
  pub inside : Member files_open.contents.rules.groups p
  pub stages : List Stage
  pub left : Input
  pub journey : IsJourneyBy player p files_open.contents files_open.bytes files_open.tables heard
      stages left
  pub legal : AreLegalFrom p (moves_of stages)
  pub games : AtEach (IsGameBy player.side) (map link_of files_open.tables)
      (own_table files_open.contents files_open.bytes) stages
  pub few : length stages ≤ 1 + length files_open.tables

module _ {player : Player} {table : List ℕ} {behind : List (List ℕ)} {p : Board} {files : Files}
    {heard : List ℕ} where
  -- the code of the start in TABLE, for the side
  abbrev pub start_code : HasJourney player table behind p files heard → ℕ
  start_code has =
      slice_index (kept_codes has.files_open.contents has.files_open.bytes player.side)
      (Num has.files_open.contents.rules.groups p)

  -- P holds of the last stage, with its table
  abbrev pub EndsAs : (Link → Stage → Type 0) → HasJourney player table behind p files heard → Type 0
  EndsAs P has =
      AtLast P (map link_of has.files_open.tables)
      (own_table has.files_open.contents has.files_open.bytes) has.stages

  -- the values of the exits of TABLE: by its exit lines and, where it leans on the BACKs, by the
  -- first of them whose set holds the position where the lines say nothing
  abbrev pub value_behind : HasJourney player table behind p files heard → Board → Value
  value_behind has =
      value_over (leans has.files_open.bytes) has.files_open.contents.rules
      (backs_of (map link_of has.files_open.tables))

  -- the codes in TABLE are its tables over the BACKs
  abbrev pub KeepsItsTables : HasJourney player table behind p files heard → Type 0
  KeepsItsTables has =
      KeepsTables (value_behind has) has.files_open.contents has.files_open.bytes

  -- the journey arrives with this answer, and the text is that of its stages with this answer
  pub record ArrivesSo (has : HasJourney player table behind p files heard) (text : List ℕ)
      (answer : Result WayEnd PlayFault) : Type 0 where
    pub place : Place
    pub arrives : Arrives player.side has.stages place answer
    pub told : text ≡ played_text player has.stages place answer

-- the journey is told to its end, or a line from a hold to the first position that comes again at
-- its table. From a win it is played to the mate of the opponent, or to where an exit line of the
-- last table says that the side wins, unless the input ends it. From a hold the side is not mated,
-- and no exit is bad for it. Where the codes in TABLE are its tables over the BACKs, the code of the
-- start is that of the bound, which says of chess what Means states, under the premise that the exits
-- are true. They are true where the BACKs are exact, each over those before it, and the exit lines of
-- all texts are true
pub record TellsJourney (player : Player) (table : List ℕ) (behind : List (List ℕ)) (p : Board)
    (files : Files) (heard text : List ℕ) : Type 0 where
  pub has : HasJourney player table behind p files heard
  pub last : WayEnd
  pub arrives : ArrivesSo has text (Ok last)
  pub win : (n : ℕ) → start_code has ≡ code_of (Wins n) → EndsAs (IsWonAt player.side) has
  pub hold : start_code has ≡ code_of Holds → EndsAs (IsHeldAt player.side) has
  pub where_exact : KeepsItsTables has →
      KeepsBound has.files_open.contents.rules (value_behind has) player.side p (start_code has)
  pub true_exits : AreExact (map link_of has.files_open.tables) →
      AreTrueExits has.files_open.contents.rules (own_over (leans has.files_open.bytes)
      has.files_open.contents.rules (backs_of (map link_of has.files_open.tables))) →
      AreTrueLines (map link_of has.files_open.tables) →
      AreTrueExits has.files_open.contents.rules (value_behind has)

-- a code on the journey's way is not the local one, which does not happen where the BACKs are
-- exact, each over those before it, and TABLE over all of them
pub record TellsWrong (player : Player) (table : List ℕ) (behind : List (List ℕ)) (p : Board)
    (files : Files) (heard text : List ℕ) : Type 0 where
  pub has : HasJourney player table behind p files heard
  pub wrong : WrongEntry
  pub arrives : ArrivesSo has text (Err (plays.Line (faults.Wrong wrong)))
  pub not_exact : AreExact (map link_of has.files_open.tables) → KeepsItsTables has → ⊥

-- the start fails: the side has neither a win nor a hold there
pub record TellsNoBound (player : Player) (table : List ℕ) (behind : List (List ℕ)) (p : Board)
    (files : Files) (heard text : List ℕ) : Type 0 where
  pub has : HasJourney player table behind p files heard
  pub arrives : ArrivesSo has text (Err (plays.Line faults.NoBound))
  pub no_win : (n : ℕ) → start_code has ≡ code_of (Wins n) → ⊥
  pub no_hold : start_code has ≡ code_of Holds → ⊥

-- the input has come to a limit, which only a session meets
pub record TellsLimit (player : Player) (table : List ℕ) (behind : List (List ℕ)) (p : Board)
    (files : Files) (heard text : List ℕ) : Type 0 where
  pub has : HasJourney player table behind p files heard
  pub limit : PlayLimit
  pub arrives : ArrivesSo has text (Err (plays.Limit limit))
  pub session : player.opponent ≡ opponents.Input

-- the files open, and the position is not in TABLE's set
pub record TellsOutside (table : List ℕ) (behind : List (List ℕ)) (p : Board) (files : Files)
    (text : List ℕ) : Type 0 where
  pub files_open : Opens table behind files
  pub outside : Member files_open.contents.rules.groups p → ⊥
  pub told : text ≡ codes "outside\n"

-- what an answer says, by its status
abbrev pub MeansStatus : Player → List ℕ → List (List ℕ) → Board → Files → (heard : List ℕ) →
    Answer → Status → Type 0
MeansStatus player table behind p files heard a Success =
    TellsJourney player table behind p files heard a.text
MeansStatus player table behind p files heard a Wrong =
    TellsWrong player table behind p files heard a.text
MeansStatus player table behind p files heard a Limit =
    TellsLimit player table behind p files heard a.text
MeansStatus player table behind p files heard a Outside =
    TellsOutside table behind p files a.text
    ⊎ TellsNoBound player table behind p files heard a.text
MeansStatus player table behind p files heard a Table = TellsRefusal table behind files a
MeansStatus player table behind p files heard a Missing = TellsRefusal table behind files a
MeansStatus player table behind p files heard a status = ⊥

-- the player of a line, and that of a session
abbrev pub line_player : Colour → Player
line_player side = record { side = side; opponent = opponents.Codes }

abbrev pub session_player : Colour → Player
session_player side = record { side = side; opponent = opponents.Input }

-- what an answer of `line` means: it changes no file and takes no input, and each status has its
-- cause
pub record MeansLine (table : List ℕ) (behind : List (List ℕ)) (side : Colour) (p : Board)
    (files : Files) (a : Answer) : Type 0 where
  pub same : a.files ≡ files
  pub untaken : a.taken ≡ 0
  pub says : MeansStatus (line_player side) table behind p files [] a a.status

-- what an answer of `play` means: it changes no file, it takes no more input than there is, and
-- each status has its cause
pub record MeansPlay (table : List ℕ) (behind : List (List ℕ)) (side : Colour) (p : Board)
    (files : Files) (input : List ℕ) (a : Answer) : Type 0 where
  pub same : a.files ≡ files
  pub few : a.taken ≤ length input
  pub says : MeansStatus (session_player side) table behind p files input a a.status
