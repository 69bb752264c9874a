use Rattle.std.proofs.Common.{◌≡◌, refl, ℕ, ◌≤◌, List, [], ◌∷◌, ◌++◌, length, arith, codes, rules}
use Rattle.frz_answer.proofs.Lemmas.{failed_first, gave_up, wrote_next}
use Rattle.frz_commands_atlas.specs.Checking.{over_text, sizes_text}
use Rattle.frz_commands_atlas.proofs.verdict_lines.write_over.Goals as goal

over_some : (sizes : List ℕ) → 1 ≤ length sizes → over_text sizes ≡ codes " over" ++ sizes_text sizes
over_some [] h = absurd (omega arith)
over_some (size ∷ sizes) h = refl

pub returns-in_err-write_piece : goal.returns-in_err-write_piece
returns-in_err-write_piece g c =
    let some : 1 ≤ length c.args.sizes.now = search rules in
    rw (over_some c.args.sizes.now some)
    (gave_up c.from_residual.ensures.0 (failed_first _ c.in_err-write_piece.ensures.failed))

pub returns : goal.returns
returns g c =
    let some : 1 ≤ length c.args.sizes.now = search rules in
    rw (over_some c.args.sizes.now some)
    (wrote_next c.in_ok-write_piece.ensures.ok c.write_sizes.ensures)
