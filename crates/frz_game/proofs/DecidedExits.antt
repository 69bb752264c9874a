-- Values that say who wins, or that the game is drawn.
use Rattle.std.proofs.Common.{◌≡◌, ℕ, true, List, refl, ap}
use Rattle.frz_board.specs.declared.man.Colour.{Colour}
use Rattle.frz_board.specs.declared.man.Colour.TheVariants.{White, Black}
use Rattle.frz_board.specs.Boards.{Board}
use Rattle.frz_board.specs.Men.{other_of}
use Rattle.frz_sets.specs.declared.exit.Value.{Value}
use Rattle.frz_sets.specs.declared.exit.Value.TheVariants.{WhiteWins, BlackWins, Draw, WhiteHolds, BlackHolds, Unknown, WhiteWinsIn, BlackWinsIn}
use Rattle.frz_sets.specs.Views.{RuleLines}
use Rattle.frz_arena.specs.declared.class.Class.TheVariants.{Good, Safe, Bad}
use Rattle.frz_arena.specs.WholeTruth.{IsDecided}
use Rattle.frz_arena.proofs.Lemmas.{decided_wins, decided_losses}
use Rattle.frz_graph.specs.Values.{class_of}
use Rattle.frz_game.specs.Bounds.{IsTableOf}
use Rattle.frz_game.specs.ExactTables.{HasNoForbid, is_decided, AreDecidedOutside, HasExactOutcomes}
use Rattle.frz_game.specs.Games.{game_of}
use Rattle.frz_game.specs.MenAlone.{IsDrawnOutside}
use Rattle.frz_game.specs.Values.{AreTrueExits}
use Rattle.frz_game.proofs.ExactTables.{exact_outcomes}
use Rattle.frz_game.proofs.TrueValues.{true_exits}

held_both : (v : Value) (side : Colour) → is_decided v ≡ true → class_of v side ≡ Safe →
    class_of v (other_of side) ≡ Safe
held_both Draw side d s = refl
held_both WhiteWins White d s = absurd (cc)
held_both WhiteWins Black d s = absurd (cc)
held_both BlackWins White d s = absurd (cc)
held_both BlackWins Black d s = absurd (cc)
held_both (WhiteWinsIn n) White d s = absurd (cc)
held_both (WhiteWinsIn n) Black d s = absurd (cc)
held_both (BlackWinsIn n) White d s = absurd (cc)
held_both (BlackWinsIn n) Black d s = absurd (cc)
held_both WhiteHolds side d s = absurd (cc)
held_both BlackHolds side d s = absurd (cc)
held_both Unknown side d s = absurd (cc)

lost_to : (v : Value) (side : Colour) → is_decided v ≡ true → class_of v side ≡ Bad →
    class_of v (other_of side) ≡ Good
lost_to Draw side d s = absurd (cc)
lost_to WhiteWins White d s = absurd (cc)
lost_to WhiteWins Black d s = refl
lost_to BlackWins White d s = refl
lost_to BlackWins Black d s = absurd (cc)
lost_to (WhiteWinsIn n) White d s = absurd (cc)
lost_to (WhiteWinsIn n) Black d s = refl
lost_to (BlackWinsIn n) White d s = refl
lost_to (BlackWinsIn n) Black d s = absurd (cc)
lost_to WhiteHolds side d s = absurd (cc)
lost_to BlackHolds side d s = absurd (cc)
lost_to Unknown side d s = absurd (cc)

pub decided_game : (rules : RuleLines) (value : Board → Value) → AreDecidedOutside rules value →
    IsDecided (game_of rules value)
decided_game rules value decided = record {
  safe = λ q x side s. held_both (value q) side (decided q x) s;
  bad = λ q x side s. lost_to (value q) side (decided q x) s;
}

pub exact_where_decided : (rules : RuleLines) (value : Board → Value) (side : Colour)
    (codes : List ℕ) → IsTableOf rules value side codes → HasNoForbid rules side →
    AreTrueExits rules value → AreDecidedOutside rules value → HasExactOutcomes rules side codes
exact_where_decided rules value side codes table none exits decided =
    let game = game_of rules value in
    let truth = true_exits rules value exits in
    let d = decided_game rules value decided in
    exact_outcomes rules value side codes table none (decided_wins game truth side d)
    (decided_losses game truth side d)

-- where each way out of the set is drawn by the men, each value decides the game
pub drawn_decided : (rules : RuleLines) (value : Board → Value) → IsDrawnOutside rules value →
    AreDecidedOutside rules value
drawn_decided rules value drawn q x = ap is_decided (drawn q x).0
