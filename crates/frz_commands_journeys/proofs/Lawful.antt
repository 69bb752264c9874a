-- That `line` and `play` have one answer, which means what it is to mean.
use Rattle.std.proofs.Common.{ℕ, List, [], arith}
use Rattle.frz_board.specs.Boards.{Board}
use Rattle.frz_board.specs.declared.man.Colour.{Colour}
use Rattle.frz_fen.specs.Reading.{fen_of}
use Rattle.frz_store.specs.Files.{Files}
use Rattle.frz_answer.specs.Answers.{Answer}
use Rattle.frz_answer.specs.Lawful.{IsLawful}
use Rattle.frz_prelude.specs.Positions.{on_position}
use Rattle.frz_prelude.proofs.Lemmas.{fen_lawful}
use Rattle.frz_atlas_prelude.proofs.Lemmas.{asked_lawful}
use Rattle.frz_commands_line.specs.Sides.{side_of}
use Rattle.frz_commands_line.proofs.Lemmas.{side_lawful}
use Rattle.frz_ways.specs.declared.opponent.Opponent.{Opponent}
use Rattle.frz_ways.specs.declared.opponent.Opponent.TheVariants.{Codes, Input}
use Rattle.frz_ways.specs.declared.opponent.Player.{Player}
use Rattle.frz_commands_journeys.specs.JourneyOf.{IsPlayedAt, heard_by}
use Rattle.frz_commands_journeys.specs.Journeying.{MeansAs, journey_words, journeying_at, journeying_for, journeying_named}
use Rattle.frz_commands_journeys.proofs.Means.{JourneyLaws, means_at}
use Rattle.frz_commands_journeys.proofs.JourneyEnds.{JourneyThere}
use Rattle.frz_commands_journeys.proofs.Some.{JourneyAlone, one_at}

abbrev player_of : Opponent → Colour → Player
player_of opponent side = record { side = side; opponent = opponent }

means_as : JourneyLaws → (opponent : Opponent) (side : Colour) (table : List ℕ)
    (behind : List (List ℕ)) (p : Board) (files : Files) (input : List ℕ) (a : Answer)
    → IsPlayedAt (player_of opponent side) table behind p (heard_by opponent input) files a
    → MeansAs opponent side table behind p files input a
means_as laws Codes side table behind p files input a h =
    let so = means_at laws (player_of Codes side) table behind p files [] a h in
    let few = so.few in
    record { same = so.same; untaken = omega (arith, few); says = so.says }
means_as laws Input side table behind p files input a h =
    let so = means_at laws (player_of Input side) table behind p files input a h in
    record { same = so.same; few = so.few; says = so.says }

module _ (there : JourneyThere) (alone : JourneyAlone) (laws : JourneyLaws) (opponent : Opponent)
  where
    at_lawful : (side : Colour) (table : List ℕ) (behind : List (List ℕ)) (p : Board)
        → IsLawful (journeying_at (player_of opponent side) table behind p)
    at_lawful side table behind p = record {
      one = λ files input. one_at there (player_of opponent side) table behind p
          (heard_by opponent input) files alone;
      means = λ files input a are h. means_as laws opponent side table behind p files input a h;
    }

    for_lawful : (table : List ℕ) (behind : List (List ℕ)) (fen side : List ℕ)
        → IsLawful (journeying_for opponent table behind fen side)
    for_lawful table behind fen side =
        side_lawful (λ x. on_position (journeying_at (player_of opponent x) table behind)
        (fen_of fen)) (side_of side)
        (λ x. fen_lawful (journeying_at (player_of opponent x) table behind) (fen_of fen)
        (λ p read. at_lawful x table behind p))

    pub journey_lawful : (words : List (List ℕ)) → IsLawful (journey_words opponent words)
    journey_lawful words =
        asked_lawful 0 (journeying_named opponent)
        (λ names. for_lawful names.table names.behind names.fen names.side) words
