use Rattle.std.proofs.Common.{◌≡◌, ◌+◌, ◌<◌, ◌^◌, ◌∙◌, ap, sym, subst, arith, if◌then◌else◌}
use Rattle.frz_squares.specs.SquareSets.{bits_below, set_of}
use Rattle.frz_squares.proofs.Lemmas.{bits_below-next, bits_below-small}
use Rattle.frz_index.specs.Kept.{is_known}
use Rattle.frz_index.proofs.plan.known_on.Goals as goal

pub with_square-word-requires : goal.with_square-word-requires
with_square-word-requires c =
    let n = c.loop-square.square in
    subst (λ s. c.loop-square.word < 2 ^ s) (sym c.at.ensures)
    (subst (λ word. word < 2 ^ n) (sym c.loop-square.invariant)
    (bits_below-small (is_known c.args.groups.now c.args.cell) n))

pub loop-square-preserved : goal.loop-square-preserved
loop-square-preserved c =
    let known = is_known c.args.groups.now c.args.cell in
    let n = c.loop-square.square in
    c.with_square-word.ensures
    ∙ ap (λ word. word + (if c.known.result then 2 ^ c.at.result else 0)) c.loop-square.invariant
    ∙ ap (λ s. bits_below known n + (if c.known.result then 2 ^ s else 0)) c.at.ensures
    ∙ ap (λ b. bits_below known n + (if b then 2 ^ n else 0)) c.known.ensures
    ∙ sym (bits_below-next known n)

pub returns : goal.returns
unfolding set_of
returns c =
    let all : c.loop-square.square ≡ 64 = omega arith in
    c.loop-square.invariant ∙ ap (bits_below (is_known c.args.groups.now c.args.cell)) all
