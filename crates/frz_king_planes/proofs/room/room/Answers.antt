use Rattle.std.proofs.Common.{◌≡◌, ◌∙◌, ap, sym, true, false}
use Rattle.frz_board.specs.Men.{other_of}
use Rattle.frz_board.specs.EnPassant.{ahead, is_passing_rank}
use Rattle.frz_squares.specs.SquareSets.{has_square}
use Rattle.frz_king_planes.proofs.Rooms.{no_target, passed_out, unpassed}
use Rattle.frz_king_planes.proofs.room.room.Goals as goal

pub returns-in-Some : goal.returns-in-Some
returns-in-Some c s l =
    let p = c.args.p.now in
    let t = c.in-Some.target in
    let rank : is_passing_rank (other_of p.turn) t ≡ true =
    ap (λ d. is_passing_rank (other_of d) t) (sym c.turn-turn.ensures)
    ∙ ap (λ d. is_passing_rank d t) (sym c.other.ensures.other)
    ∙ sym c.is_passing_rank.ensures.rank ∙ c.if-is_passing_rank.true in
    passed_out p s t c.ahead.result (has_square c.empty_squares-empty.result s)
    (has_square c.replaced.result s) (has_square c.replaced-in-Some.result s)
    (sym c.ep.ensures ∙ c.in-Some.is) rank
    (c.ahead.ensures ∙ ap (λ d. ahead d t) c.turn-turn.ensures)
    (c.empty_squares-empty.ensures s l) (c.replaced.ensures s l) (c.replaced-in-Some.ensures s l)

pub returns-in_default : goal.returns-in_default
returns-in_default c s l =
    let p = c.args.p.now in
    let t = c.in-Some.target in
    let rank : is_passing_rank (other_of p.turn) t ≡ false =
    ap (λ d. is_passing_rank (other_of d) t) (sym c.turn-turn.ensures)
    ∙ ap (λ d. is_passing_rank d t) (sym c.other.ensures.other)
    ∙ sym c.is_passing_rank.ensures.rank ∙ c.if-is_passing_rank.false in
    c.empty_squares-empty.ensures s l ∙ unpassed p s t (sym c.ep.ensures ∙ c.in-Some.is) rank

pub returns-in_default-2 : goal.returns-in_default-2
returns-in_default-2 c s l =
    c.empty_squares-empty.ensures s l ∙ no_target c.args.p.now s (sym c.ep.ensures ∙ c.in_default.is)
