-- The last ply of a game, and the position behind it.
use Rattle.std.proofs.Common.{◌≡◌, List, [], ◌∷◌, ◌++◌, Option, Some, None, refl, subst}
use Rattle.std.specs.Prelude.{MatchOption}
use Rattle.frz_board.specs.Boards.{Board}
use Rattle.frz_board.specs.declared.man.Colour.{Colour}
use Rattle.frz_fide.specs.Legal.{after}
use Rattle.frz_sets.specs.Views.{RuleLines}
use Rattle.frz_ways.specs.ChessGames.{IsGame, IsPlyFrom, after_plies}
use Rattle.frz_ways.specs.Ways.{WayPly}

one_behind_not_empty : (front : List WayPly) (x : WayPly) → front ++ x ∷ [] ≡ [] → ⊥
one_behind_not_empty [] x e = cc
one_behind_not_empty (y ∷ front) x e = cc

pub after_last_ply : (front : List WayPly) (p : Board) (x : WayPly)
    → after_plies p (front ++ x ∷ []) ≡ after (after_plies p front) x.arm.mv
after_last_ply [] p x = refl
after_last_ply (y ∷ front) p x = after_last_ply front (after p y.arm.mv) x

module _ (rules : RuleLines) (side : Colour) where
  game_last : (front : List WayPly) (p : Board) (x : WayPly)
      → IsGame rules side p (front ++ x ∷ [])
      → IsPlyFrom rules side (after_plies p front) x
  game_last [] p x game = game.0
  game_last (y ∷ front) p x game = game_last front (after p y.arm.mv) x game.1

  -- the start of a game with a last ply has a position, and the ply is played from the position
  -- behind those before it
  pub last_ply : (o : Option Board) (plies front : List WayPly) (x : WayPly)
      → plies ≡ front ++ x ∷ [] → MatchOption o (plies ≡ []) (λ p. IsGame rules side p plies)
      → (p : Board) × (o ≡ Some p) × IsPlyFrom rules side (after_plies p front) x
  last_ply None plies front x whole none =
      absurd (one_behind_not_empty front x (let e : front ++ x ∷ [] ≡ [] = cc in e))
  last_ply (Some p) plies front x whole game = (
    p,
    refl,
    game_last front p x (subst (λ (l : List WayPly). IsGame rules side p l) whole game),
  )
