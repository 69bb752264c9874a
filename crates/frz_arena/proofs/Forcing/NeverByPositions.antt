-- Positions that no move leaves, and at none of which the opponent is mated.
use Rattle.std.specs.List.{Contains}
use Rattle.frz_board.specs.declared.man.Colour.{Colour}
use Rattle.frz_board.specs.Men.{other_of}
use Rattle.frz_arena.specs.Chess.{Chess, IsMated, NeverForcesMate, mated, at_goal, later, own_move, every_reply}
use Rattle.frz_arena.proofs.Exactness.ExactWins.{an_element}

pub never_by : {P M : Type 0} (chess : Chess P M) (side : Colour) (Here : P → Type 0) →
    ((p : P) (m : M) → Here p → Contains (chess.moves p) m → Here (chess.play p m)) →
    ((p : P) → Here p → IsMated chess (other_of side) p → ⊥) →
    (p : P) → Here p → NeverForcesMate chess side p
never_by chess side Here closed none p h n (mated k) = none p h k
never_by chess side Here closed none p h n (at_goal e) = cc
never_by chess side Here closed none p h n (later {n = k} f) =
    never_by chess side Here closed none p h k f
never_by chess side Here closed none p h n (own_move {n = k} m t i f) =
    never_by chess side Here closed none (chess.play p m) (closed p m h i) k f
never_by chess side Here closed none p h n (every_reply {n = k} t some each) =
    let m = an_element (chess.moves p) some in
    never_by chess side Here closed none (chess.play p m.0) (closed p m.0 h m.1) k (each m.0 m.1)
