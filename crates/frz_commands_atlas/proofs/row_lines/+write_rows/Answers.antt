use Rattle.std.proofs.Common.{◌≡◌, sym, ap, ◌∙◌, ◌≤◌, ◌-◌, List, [], ◌∷◌, ◌++◌, Option, length, map, get_or, take, drop, arith}
use Rattle.std.proofs.lemmas.List.{take_rest}
use Rattle.frz_board.specs.Boards.{Board}
use Rattle.frz_atlas.specs.FileOn.{loaded_back}
use Rattle.frz_answer.proofs.Lemmas.{failed_first, gave_up, wrote_next}
use Rattle.frz_commands_atlas.specs.declared.rows.Row.{Row}
use Rattle.frz_commands_atlas.specs.FirstBack.{Found, found_behind}
use Rattle.frz_commands_atlas.specs.RowLines.{row_line, rows_text}
use Rattle.frz_commands_atlas.proofs.row_lines.+write_rows.Goals as goal

-- the line of the first row, and those of the others
first_row : (found : Board → Option Found) (p : Board) (rows : List Row) (row : Row)
    → 1 ≤ length rows → row ≡ get_or rows 0 row
    → rows_text found p rows
    ≡ row_line found p row ++ rows_text found p (take (length rows - 1) (drop 1 rows))
first_row found p [] row h is = absurd (omega arith)
first_row found p (first ∷ rows) row h is =
    ap (λ (l : List Row). row_line found p first ++ rows_text found p l)
    (sym (take_rest (first ∷ rows) 1))
    ∙ ap (λ (r : Row). row_line found p r
    ++ rows_text found p (take (length (first ∷ rows) - 1) (drop 1 (first ∷ rows)))) (sym is)

pub returns-in_err-write_row-in-len1-up-clause-wrote :
    goal.returns-in_err-write_row-in-len1-up-clause-wrote
returns-in_err-write_row-in-len1-up-clause-wrote g t c =
    let own = c.args.behind.now in
    rw (first_row (found_behind own.leans own.rules.now (map loaded_back own.backs.now))
    c.args.p.now c.args.rows.now c.row-item.result c.in-len1-up.len_at_least
    c.row-item.is)
    (gave_up c.from_residual.ensures.0
    (failed_first _ c.in_err-write_row-in-len1-up.ensures.wrote.failed))

pub returns-in_ok-write_row-in-len1-up-clause-wrote :
    goal.returns-in_ok-write_row-in-len1-up-clause-wrote
returns-in_ok-write_row-in-len1-up-clause-wrote g t c =
    let own = c.args.behind.now in
    rw (first_row (found_behind own.leans own.rules.now (map loaded_back own.backs.now))
    c.args.p.now c.args.rows.now c.row-item.result c.in-len1-up.len_at_least
    c.row-item.is)
    (wrote_next c.in_ok-write_row-in-len1-up.ensures.wrote.ok c.write_rows.ensures.wrote)
