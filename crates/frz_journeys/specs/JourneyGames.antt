-- The game of chess that a journey is, and what holds of its stages.
use Rattle.std.specs.Prelude.{◌≡◌, true, List, [], ◌∷◌, ◌++◌, map, take, MatchOption, ⊤}
use Rattle.frz_board.specs.Boards.{Board}
use Rattle.frz_board.specs.Moving.{Step}
use Rattle.frz_board.specs.declared.man.Colour.{Colour}
use Rattle.frz_fide.specs.Legal.{after, is_legal}
use Rattle.frz_backs.specs.Links.{Link}
use Rattle.frz_ways.specs.ChessGames.{IsGame}
use Rattle.frz_journeys.specs.Journeys.{Stage, onward}

-- the moves of all these stages, in turn
abbrev pub moves_of : List Stage → List Step
moves_of [] = []
moves_of (stage ∷ stages) = map (λ x. x.arm.mv) stage.plies ++ moves_of stages

-- from this position on, each move is legal in the position to which those before it lead
abbrev pub AreLegalFrom : Board → List Step → Type 0
AreLegalFrom p [] = ⊤
AreLegalFrom p (move ∷ moves) = (is_legal p move ≡ true) × AreLegalFrom (after p move) moves

-- P holds of each stage, with its table
abbrev pub AtEach : (Link → Stage → Type 0) → List Link → Link → List Stage → Type 0
AtEach P before table [] = ⊤
AtEach P before table (stage ∷ stages) =
    P table stage × MatchOption (onward before table stage.start stage.plies stage.end) ⊤
    (λ next. AtEach P (take next.0 before) next.1 stages)

-- P holds of the last stage, with its table
abbrev pub AtLast : (Link → Stage → Type 0) → List Link → Link → List Stage → Type 0
AtLast P before table [] = ⊥
AtLast P before table (stage ∷ stages) =
    MatchOption (onward before table stage.start stage.plies stage.end) (P table stage)
    (λ next. AtLast P (take next.0 before) next.1 stages)

-- the plies of the stage are a game of chess, in which the side plays no move that it has renounced
-- in the rules of the table
abbrev pub IsGameBy : Colour → Link → Stage → Type 0
IsGameBy side table stage = IsGame table.rules side stage.start stage.plies
