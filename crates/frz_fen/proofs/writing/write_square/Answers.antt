use Rattle.std.proofs.Common.{◌<◌, ◌≤◌, ◌∙◌, ◌∷◌, [], ◌++◌, ap, sym, arith}
use Rattle.frz_fen.specs.Writing.{gap_text, rank_text}
use Rattle.frz_fen.proofs.RankTexts.{gap_and_man}
use Rattle.frz_fen.proofs.writing.write_square.Goals as goal

pub returns-clause-text : goal.returns-clause-text
returns-clause-text c cells =
    let few : c.args.gap ≤ 8 = omega arith in
    let man : 0 < c.args.cell = omega arith in
    let fits : c.args.cell < 13 = omega arith in
    gap_and_man c.args.text.now.bytes c.args.gap c.args.cell cells few man fits
    ∙ ap (λ xs. xs ++ rank_text cells)
    (ap (λ k. (c.args.text.now.bytes ++ gap_text c.args.gap) ++ k ∷ [])
    (sym c.cell_letter.ensures.letter)
    ∙ ap (λ xs. xs ++ c.cell_letter.result ∷ []) (sym c.write_gap.ensures.text)
    ∙ sym c.push.ensures.text)
