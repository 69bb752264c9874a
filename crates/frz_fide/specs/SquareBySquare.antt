-- The legal moves, square by square.
use Rattle.std.specs.Prelude.{ℕ, Some, List, [], ◌∷◌, filter}
use Rattle.std.specs.List.{flat_map}
use Rattle.frz_board.specs.declared.man.Kind.TheVariants.{Queen, Rook, Bishop, Knight}
use Rattle.frz_board.specs.Squares.{squares}
use Rattle.frz_board.specs.Boards.{Board}
use Rattle.frz_board.specs.Moving.{Step}
use Rattle.frz_fide.specs.Legal.{is_legal}
use Rattle.frz_fide.specs.Listing.{steps_between}

-- the legal moves from one square to another
unfoldable pub legal_between : Board → ℕ → ℕ → List Step
legal_between p a b = filter (is_legal p) (steps_between a b)

-- the legal moves from a square
unfoldable pub legal_from : Board → ℕ → List Step
legal_from p a = flat_map (λ b. legal_between p a b) squares

-- the legal moves from each square in turn
unfoldable pub legal_by_squares : Board → List Step
legal_by_squares p = flat_map (λ a. legal_from p a) squares

-- the legal moves from one square to another that promote a pawn
unfoldable pub chosen : Board → ℕ → ℕ → List Step
chosen p a b =
    filter (is_legal p)
    (record { from = a; to = b; promo = Some Queen }
    ∷ record { from = a; to = b; promo = Some Rook }
    ∷ record { from = a; to = b; promo = Some Bishop }
    ∷ record { from = a; to = b; promo = Some Knight } ∷ [])
