-- How a game ends where a side has no legal move.
use Rattle.std.specs.Prelude.{◌≡◌, ◌≢◌, true, false, []}
use Rattle.frz_board.specs.Boards.{Board}
use Rattle.frz_board.specs.Attacks.{is_in_check}
use Rattle.frz_fide.specs.Listing.{legal_moves_of}

-- no legal move, and the king is attacked (FIDE 5.1.1)
abbrev pub IsMate : Board → Type 0
IsMate p = (legal_moves_of p ≡ []) × (is_in_check p p.turn ≡ true)

-- no legal move, and the king is not attacked (FIDE 5.2.1)
abbrev pub IsStalemate : Board → Type 0
IsStalemate p = (legal_moves_of p ≡ []) × (is_in_check p p.turn ≡ false)

-- some move is legal
abbrev pub IsGoing : Board → Type 0
IsGoing p = legal_moves_of p ≢ []
