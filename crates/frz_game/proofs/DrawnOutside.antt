-- What is known of the exits where each of them is drawn by the men.
use Rattle.std.proofs.Common.{◌≡◌, ap, sym, subst}
use Rattle.frz_board.specs.declared.man.Colour.{Colour}
use Rattle.frz_board.specs.Boards.{Board}
use Rattle.frz_board.specs.Men.{other_of}
use Rattle.frz_sets.specs.declared.exit.Value.{Value}
use Rattle.frz_sets.specs.Views.{RuleLines}
use Rattle.frz_arena.specs.declared.class.Class.TheVariants.{Good, Safe}
use Rattle.frz_arena.specs.Chess.{NeverForcesMate}
use Rattle.frz_arena.specs.Exits.{IsExit}
use Rattle.frz_arena.specs.WholeTruth.{TrueHolds, WinsAreKnown, WinsAreCounted, LossesAreKnown, NoneIsBad}
use Rattle.frz_graph.specs.Values.{class_of}
use Rattle.frz_game.specs.Games.{chess, game_of}
use Rattle.frz_game.specs.MenAlone.{IsTrueByMen, IsDrawnOutside}
use Rattle.frz_game.specs.Values.{AreTrueExits}
use Rattle.frz_game.proofs.MenAlone.{exit_valid, dead_never, exits_by_men}

-- they are true
pub drawn_true : (rules : RuleLines) (value : Board → Value) → IsDrawnOutside rules value →
    AreTrueExits rules value
drawn_true rules value drawn =
    exits_by_men rules value (λ q x. subst (λ (v : Value). IsTrueByMen v q) (sym (drawn q x).0)
    (drawn q x).1)

module _ (rules : RuleLines) (value : Board → Value) (side : Colour)
    (drawn : IsDrawnOutside rules value) where
  class_there : (q : Board) → IsExit (game_of rules value) q → class_of (value q) side ≡ Safe
  class_there q x = ap (λ (v : Value). class_of v side) (drawn q x).0

  never_there : (q : Board) → IsExit (game_of rules value) q → (c : Colour) →
      NeverForcesMate chess c q
  never_there q x c = dead_never q (exit_valid rules value q x) (drawn q x).1 c

  not_good : (q : Board) → IsExit (game_of rules value) q → class_of (value q) side ≡ Good → ⊥
  not_good q x g = let s = class_there q x in cc

  pub not_bad : NoneIsBad (game_of rules value) side
  not_bad q x g = let s = class_there q x in cc

  pub holds_true : TrueHolds (game_of rules value) side
  holds_true q x f = absurd (never_there q x (other_of side) f.0 f.1)

  pub wins_counted : WinsAreCounted (game_of rules value) side
  wins_counted q x n =
      (λ g. absurd (not_good q x g.0), λ f. absurd (never_there q x side n f))

  pub wins_known : WinsAreKnown (game_of rules value) side
  wins_known q x = (
    λ g. absurd (not_good q x g),
    λ f. absurd (never_there q x side f.0 f.1),
  )

  pub losses_known : LossesAreKnown (game_of rules value) side
  losses_known q x = (
    λ g. absurd (not_bad q x g),
    λ f. absurd (never_there q x (other_of side) f.0 f.1),
  )
