-- The arena of a game is lawful.
use Rattle.std.proofs.Common.{◌≡◌, List, [], ◌∷◌, map, refl}
use Rattle.frz_board.specs.declared.man.Colour.{Colour}
use Rattle.frz_arena.specs.declared.class.Class.TheVariants.{Good, Bad}
use Rattle.frz_board.specs.Men.{other_of}
use Rattle.frz_arena.specs.Arena.{IsLawful}
use Rattle.frz_arena.specs.Games.{Game, arm_of, arena_of}
use Rattle.frz_arena.proofs.Forcing.WinsForced.{is_going}

pub map_empty : {X Y : Type 0} (f : X → Y) (xs : List X) → map f xs ≡ [] → xs ≡ []
map_empty f [] h = refl
map_empty f (x ∷ xs) h = absurd (cc)

-- the arena of a game is lawful, where no value is good for both
pub game_is_lawful : {P M V : Type 0} (game : Game P M V) →
    ((v : V) (side : Colour) → game.class v side ≡ Good → game.class v (other_of side) ≡ Bad) →
    IsLawful (arena_of game)
game_is_lawful game opposed = record {
  goes_on = λ p mover e h. (
      let g = is_going (game.member p) (game.chess.moves p) (game.chess.in_check p)
      (game.chess.turn p) mover e in
      g.1 (map_empty (arm_of game p) (game.chess.moves p) h));
  opposed = opposed;
}
