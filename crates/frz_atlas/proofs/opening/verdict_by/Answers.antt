use Rattle.frz_plane_tables.proofs.Lemmas.{moved_lists}
use Rattle.frz_atlas.proofs.opening.verdict_by.Goals as goal

pub returns-clause-verdict : goal.returns-clause-verdict
returns-clause-verdict g c =
    moved_lists c.rules.result.now c.args.back.now.table.rules
    (g.B.ExitBook.value_at c.args.book.now) c.args.back.now.white.items
    c.args.back.now.black.items c.as_slice.result.now c.as_slice-2.result.now
    c.judge.result c.rules.ensures.rules c.as_slice.ensures.value
    c.as_slice-2.ensures.value c.judge.ensures.verdict
