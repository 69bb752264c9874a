-- Where the values outside are true and decide the game, what is won and lost there is known.
use Rattle.std.proofs.Common.{◌≡◌, refl, subst}
use Rattle.frz_board.specs.declared.man.Colour.{Colour}
use Rattle.frz_board.specs.Men.{other_of}
use Rattle.frz_board.proofs.Lemmas.{other_other}
use Rattle.frz_arena.specs.declared.class.Class.{Class}
use Rattle.frz_arena.specs.declared.class.Class.TheVariants.{Good, Safe, Bad}
use Rattle.frz_arena.specs.Chess.{NeverForcesMate}
use Rattle.frz_arena.specs.Exits.{IsExit, TrueExits}
use Rattle.frz_arena.specs.Games.{Game}
use Rattle.frz_arena.specs.WholeTruth.{CanForceMate, WinsAreKnown, WinsAreCounted, LossesAreKnown, NoneIsBad, IsDecided}
use Rattle.frz_arena.proofs.Forcing.OneForces.{one_forces}
use Rattle.frz_arena.proofs.Forcing.TrueWins.{true_win}

data Kinds (c : Class) : Type 0 where
  good : c ≡ Good → Kinds c
  safe : c ≡ Safe → Kinds c
  bad : c ≡ Bad → Kinds c

kinds : (c : Class) → Kinds c
kinds Good = good refl
kinds Safe = safe refl
kinds Bad = bad refl

module _ {P M V : Type 0} (game : Game P M V) (exits : TrueExits game) (side : Colour) where
  -- where the opponent wins or holds by a value, the side forces no mate
  won_by_other : (q : P) → IsExit game q → game.class (game.value q) (other_of side) ≡ Good →
      NeverForcesMate game.chess side q
  won_by_other q x g n f =
      let k = true_win game exits (other_of side) q x g in
      one_forces game.chess side n k.0 q f k.1

  held_by_other : (q : P) → IsExit game q → game.class (game.value q) (other_of side) ≡ Safe →
      NeverForcesMate game.chess side q
  held_by_other q x s =
      subst (λ (c : Colour). NeverForcesMate game.chess c q) (other_other side)
      ((exits q x).holds (other_of side) s)

  -- where by each value the opponent wins or holds, the side wins nothing outside
  module _ (opposed : (v : V) (c : Colour) → game.class v c ≡ Good
      → game.class v (other_of c) ≡ Bad) (none : NoneIsBad game (other_of side)) where
    never_there : (q : P) → IsExit game q → NeverForcesMate game.chess side q
    never_there q x =
        elim (kinds (game.class (game.value q) (other_of side))) [
          | good g ↦ won_by_other q x g
          | safe s ↦ held_by_other q x s
          | bad b ↦ absurd (none q x b)
        ]

    not_good : (q : P) → IsExit game q → game.class (game.value q) side ≡ Good → ⊥
    not_good q x g = none q x (opposed (game.value q) side g)

    pub none_won : WinsAreCounted game side
    none_won q x n = (
      λ g. absurd (not_good q x g.0),
      λ f. absurd (never_there q x n f),
    )

  module _ (decided : IsDecided game) where
    win_is_good : (q : P) → IsExit game q → CanForceMate game.chess side q →
        game.class (game.value q) side ≡ Good
    win_is_good q x f =
        elim (kinds (game.class (game.value q) side)) [
          | good g ↦ g
          | safe s ↦ absurd (held_by_other q x (decided.safe q x side s) f.0 f.1)
          | bad b ↦ absurd (won_by_other q x (decided.bad q x side b) f.0 f.1)
        ]

    pub decided_wins : WinsAreKnown game side
    decided_wins q x = (λ g. true_win game exits side q x g, λ f. win_is_good q x f)

    loss_is_bad : (q : P) → IsExit game q → CanForceMate game.chess (other_of side) q →
        game.class (game.value q) side ≡ Bad
    loss_is_bad q x f =
        elim (kinds (game.class (game.value q) side)) [
          | good g ↦ absurd (let k = true_win game exits side q x g in
              one_forces game.chess side k.0 f.0 q k.1 f.1)
          | safe s ↦ absurd ((exits q x).holds side s f.0 f.1)
          | bad b ↦ b
        ]

    pub decided_losses : LossesAreKnown game side
    decided_losses q x = (
      λ b. true_win game exits (other_of side) q x (decided.bad q x side b),
      λ f. loss_is_bad q x f,
    )
