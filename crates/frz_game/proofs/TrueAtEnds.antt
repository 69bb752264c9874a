-- What is true of values where the mover is mated or stalemated.
use Rattle.std.proofs.Common.{◌≡◌, ◌≢◌, ℕ, zero, false, [], refl, subst, arith}
use Rattle.std.specs.List.{Contains}
use Rattle.frz_board.specs.declared.man.Colour.{Colour}
use Rattle.frz_board.specs.declared.man.Colour.TheVariants.{White, Black}
use Rattle.frz_board.specs.Attacks.{is_in_check}
use Rattle.frz_board.specs.Boards.{Board}
use Rattle.frz_board.specs.Men.{other_of}
use Rattle.frz_fide.specs.Listing.{legal_moves_of}
use Rattle.frz_sets.specs.declared.exit.Value.{Value}
use Rattle.frz_sets.specs.declared.exit.Value.TheVariants.{WhiteWins, BlackWins, Draw, WhiteHolds, BlackHolds, Unknown, WhiteWinsIn, BlackWinsIn}
use Rattle.frz_arena.specs.declared.class.Class.TheVariants.{Good}
use Rattle.frz_arena.specs.Chess.{IsMated, mated, ForcesMate, NeverForcesMate, mate_alone}
use Rattle.frz_arena.proofs.Lemmas.{forces_later, never_by, none_in_empty}
use Rattle.frz_graph.specs.Values.{class_of}
use Rattle.frz_game.specs.Games.{chess}
use Rattle.frz_game.specs.Values.{IsTrueValue}

mated_in : (q : Board) (side : Colour) → IsMated chess (other_of side) q → (n : ℕ) →
    ForcesMate chess side n q
mated_in q side over n = forces_later chess mate_alone side zero n q (omega arith) (mated over)

pub true_at_mate : (q : Board) (side : Colour) → IsMated chess (other_of side) q → (v : Value) →
    class_of v side ≡ Good → IsTrueValue v q
true_at_mate q White mate WhiteWins good = (0, mated_in q White mate 0)
true_at_mate q White mate (WhiteWinsIn n) good = mated_in q White mate n
true_at_mate q White mate BlackWins good = absurd (cc)
true_at_mate q White mate (BlackWinsIn n) good = absurd (cc)
true_at_mate q White mate WhiteHolds good = absurd (cc)
true_at_mate q White mate BlackHolds good = absurd (cc)
true_at_mate q White mate Draw good = absurd (cc)
true_at_mate q White mate Unknown good = absurd (cc)
true_at_mate q Black mate BlackWins good = (0, mated_in q Black mate 0)
true_at_mate q Black mate (BlackWinsIn n) good = mated_in q Black mate n
true_at_mate q Black mate WhiteWins good = absurd (cc)
true_at_mate q Black mate (WhiteWinsIn n) good = absurd (cc)
true_at_mate q Black mate WhiteHolds good = absurd (cc)
true_at_mate q Black mate BlackHolds good = absurd (cc)
true_at_mate q Black mate Draw good = absurd (cc)
true_at_mate q Black mate Unknown good = absurd (cc)

-- from a stalemate nobody forces mate
stalemate_never : (q : Board) → legal_moves_of q ≡ [] → is_in_check q q.turn ≡ false →
    (side : Colour) → NeverForcesMate chess side q
stalemate_never q none quiet side =
    never_by chess side (λ p. (legal_moves_of p ≡ []) × (is_in_check p p.turn ≡ false))
    (λ p m h i. absurd (none_in_empty m (subst (λ ms. Contains ms m) h.0 i)))
    (λ p h mate. (let attacked = mate.attacked in let safe = h.1 in cc))
    q (none, quiet)

pub true_at_stalemate : (q : Board) → legal_moves_of q ≡ [] → is_in_check q q.turn ≡ false →
    (v : Value) → ((side : Colour) → class_of v side ≢ Good) → IsTrueValue v q
true_at_stalemate q none quiet WhiteWins h = absurd (h White refl)
true_at_stalemate q none quiet (WhiteWinsIn n) h = absurd (h White refl)
true_at_stalemate q none quiet BlackWins h = absurd (h Black refl)
true_at_stalemate q none quiet (BlackWinsIn n) h = absurd (h Black refl)
true_at_stalemate q none quiet WhiteHolds h = stalemate_never q none quiet Black
true_at_stalemate q none quiet BlackHolds h = stalemate_never q none quiet White
true_at_stalemate q none quiet Draw h =
    (stalemate_never q none quiet Black, stalemate_never q none quiet White)
true_at_stalemate q none quiet Unknown h = tt
