-- What `line TABLE FEN SIDE BACK ..` and `play TABLE FEN SIDE BACK ..` are to do.
use Rattle.std.specs.Prelude.{ℕ, List, [], ◌∷◌, map, true}
use Rattle.frz_board.specs.Boards.{Board}
use Rattle.frz_board.specs.declared.man.Colour.{Colour}
use Rattle.frz_fen.specs.Reading.{fen_of}
use Rattle.frz_store.specs.Files.{Files}
use Rattle.frz_answer.specs.declared.status.Status.{Status}
use Rattle.frz_answer.specs.declared.status.Status.TheVariants.{Success, Wrong, Table, Outside, Missing, Limit}
use Rattle.frz_answer.specs.Answers.{Answer}
use Rattle.frz_answer.specs.Jobs.{Job, Once, plain}
use Rattle.frz_prelude.specs.Positions.{on_position}
use Rattle.frz_atlas_prelude.specs.Asked.{AskedNames, asked_words}
use Rattle.frz_commands_line.specs.Sides.{on_side, side_of}
use Rattle.frz_commands_line.specs.WayJobs.{takes_input}
use Rattle.frz_ways.specs.declared.opponent.Opponent.{Opponent}
use Rattle.frz_ways.specs.declared.opponent.Opponent.TheVariants as opponents
use Rattle.frz_ways.specs.declared.opponent.Player.{Player}
use Rattle.frz_commands_journeys.specs.Costs.{CostsAt}
use Rattle.frz_commands_journeys.specs.JourneyOf.{heard_by, IsPlayedAt}
use Rattle.frz_commands_journeys.specs.Meaning.{MeansLine, MeansPlay}

-- only a session meets the limits of its input
abbrev pub statuses_of : Opponent → List Status
statuses_of opponents.Codes = Success ∷ Wrong ∷ Table ∷ Outside ∷ Missing ∷ []
statuses_of opponents.Input = Success ∷ Wrong ∷ Table ∷ Outside ∷ Missing ∷ Limit ∷ []

abbrev pub MeansAs : Opponent → Colour → List ℕ → List (List ℕ) → Board → Files → (input : List ℕ) →
    Answer → Type 0
MeansAs opponents.Codes side table behind p files input a = MeansLine table behind side p files a
MeansAs opponents.Input side table behind p files input a =
    MeansPlay table behind side p files input a

-- the journey by names no two of which are the same; its lines are written as they are played
abbrev pub journeying_at : Player → List ℕ → List (List ℕ) → Board → Job
journeying_at player table behind p =
    record (plain (statuses_of player.opponent) (λ files input a. IsPlayedAt player table behind p
    (heard_by player.opponent input) files a)) {
      means = λ files input a. MeansAs player.opponent player.side table behind p files input a;
      needs = record {
        store = true;
        reads = Once;
        input = takes_input player.opponent;
        memory = true;
      };
      speaks = true;
      costs = λ files input a. CostsAt player p (files table) (map files behind)
          (heard_by player.opponent input);
    }

-- the journey of the side that the word SIDE names, from the position of the word FEN. SIDE is
-- refused first
abbrev pub journeying_for : Opponent → List ℕ → List (List ℕ) → (fen side : List ℕ) → Job
journeying_for opponent table behind fen side =
    on_side (λ x. on_position
    (journeying_at (record { side = x; opponent = opponent }) table behind) (fen_of fen))
    (side_of side)

-- the journey by the names that words give
abbrev pub journeying_named : Opponent → AskedNames → Job
journeying_named opponent names =
    journeying_for opponent names.table names.behind names.fen names.side

abbrev pub journey_words : Opponent → List (List ℕ) → Job
journey_words opponent words = asked_words 0 (journeying_named opponent) words

-- line TABLE FEN SIDE BACK ..
abbrev pub line_words : List (List ℕ) → Job
line_words words = journey_words opponents.Codes words

-- play TABLE FEN SIDE BACK ..
abbrev pub play_words : List (List ℕ) → Job
play_words words = journey_words opponents.Input words
