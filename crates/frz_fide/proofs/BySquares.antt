-- The moves square by square are the legal moves among all steps.
use Rattle.std.proofs.Common.{◌≡◌, sym, ◌∙◌, filter}
use Rattle.std.specs.List.{flat_map}
use Rattle.frz_board.specs.Boards.{Board}
use Rattle.frz_board.specs.Squares.{squares}
use Rattle.frz_fide.specs.Legal.{is_legal}
use Rattle.frz_fide.specs.Listing.{steps_between, every_step, legal_moves_of}
use Rattle.frz_fide.specs.SquareBySquare.{legal_between, legal_from, legal_by_squares}
use Rattle.frz_fide.proofs.FlatMaps.{filter-flat_map, flat_map-same}

pub by_squares : (p : Board) → legal_by_squares p ≡ legal_moves_of p
unfolding legal_by_squares legal_from legal_between every_step
by_squares p =
    sym (filter-flat_map (is_legal p) (λ a. flat_map (λ b. steps_between a b) squares) squares
    ∙ flat_map-same (λ a. filter (is_legal p) (flat_map (λ b. steps_between a b) squares))
    (λ a. flat_map (λ b. filter (is_legal p) (steps_between a b)) squares)
    (λ a. filter-flat_map (is_legal p) (λ b. steps_between a b) squares) squares)
