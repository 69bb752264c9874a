-- The list of legal moves.
use Rattle.std.specs.Prelude.{ℕ, Option, None, Some, List, [], ◌∷◌, map, filter}
use Rattle.std.specs.List.{flat_map}
use Rattle.frz_board.specs.declared.man.Kind.{Kind}
use Rattle.frz_board.specs.declared.man.Kind.TheVariants.{Queen, Rook, Bishop, Knight}
use Rattle.frz_board.specs.Squares.{squares}
use Rattle.frz_board.specs.Boards.{Board}
use Rattle.frz_board.specs.Moving.{Step}
use Rattle.frz_fide.specs.Legal.{is_legal}

-- the promotions that a move may have, in order
abbrev pub promotions : List (Option Kind)
promotions = None ∷ Some Queen ∷ Some Rook ∷ Some Bishop ∷ Some Knight ∷ []

abbrev pub steps_between : ℕ → ℕ → List Step
steps_between a b = map (λ promo. record { from = a; to = b; promo = promo }) promotions

-- every step, by origin, then destination, then promotion
unfoldable pub every_step : List Step
every_step = flat_map (λ a. flat_map (λ b. steps_between a b) squares) squares

-- the legal moves, in that order
abbrev pub legal_moves_of : Board → List Step
legal_moves_of p = filter (is_legal p) every_step
