-- What a position is, by its ending.
use Rattle.std.proofs.Common.{◌≡◌, Bool, true, false, List, [], ◌∷◌, refl}
use Rattle.frz_board.specs.declared.man.Colour.{Colour}
use Rattle.frz_board.specs.Boards.{Board}
use Rattle.frz_board.specs.Moving.{Step}
use Rattle.frz_board.specs.Attacks.{is_in_check}
use Rattle.frz_fide.specs.Listing.{legal_moves_of}
use Rattle.frz_fide.specs.Ends.{IsMate, IsStalemate, IsGoing}
use Rattle.frz_arena.specs.declared.node.Node.TheVariants.{Broken, Mate, Stalemate, Going}
use Rattle.frz_arena.specs.Games.{node_by}
use Rattle.frz_arena.proofs.Lemmas.{mated_by, goes}

stale_by : (ms : List Step) (check : Bool) (turn : Colour) → ms ≡ [] → check ≡ false →
    node_by true ms check turn ≡ Stalemate turn
stale_by ms check turn h k = rw (h, k) refl

never_broken : (ms : List Step) (check : Bool) (turn : Colour) →
    node_by true ms check turn ≡ Broken → ⊥
never_broken (m ∷ ms) check turn e = cc
never_broken [] true turn e = cc
never_broken [] false turn e = cc

pub mate_is : (p : Board) → IsMate p →
    node_by true (legal_moves_of p) (is_in_check p p.turn) p.turn ≡ Mate p.turn
mate_is p h = mated_by true (legal_moves_of p) (is_in_check p p.turn) p.turn refl h.0 h.1

pub stalemate_is : (p : Board) → IsStalemate p →
    node_by true (legal_moves_of p) (is_in_check p p.turn) p.turn ≡ Stalemate p.turn
stalemate_is p h = stale_by (legal_moves_of p) (is_in_check p p.turn) p.turn h.0 h.1

pub going_is : (p : Board) → IsGoing p →
    node_by true (legal_moves_of p) (is_in_check p p.turn) p.turn ≡ Going p.turn
going_is p h = goes true (legal_moves_of p) (is_in_check p p.turn) p.turn refl h

pub node_is_there : (p : Board) →
    node_by true (legal_moves_of p) (is_in_check p p.turn) p.turn ≡ Broken → ⊥
node_is_there p e = never_broken (legal_moves_of p) (is_in_check p p.turn) p.turn e
