use Rattle.std.proofs.Common.{◌≡◌, refl, ◌∙◌, ap, sym, ℕ, List, ◌++◌, append_assoc, codes}
use Rattle.frz_answer.proofs.Lemmas.{failed_before, gave_up, wrote_behind}
use Rattle.frz_prelude.proofs.reply.write_moved.Goals as goal

-- two lines, one behind the other
both_lines : (x y text fen : List ℕ) → x ≡ text → y ≡ fen
    → (x ++ codes "\n") ++ (y ++ codes "\n") ≡ text ++ codes "\n" ++ fen ++ codes "\n"
both_lines x y text fen e h = ap (λ (l : List ℕ). (l ++ codes "\n") ++ (y ++ codes "\n")) e
    ∙ ap (λ (l : List ℕ). (text ++ codes "\n") ++ (l ++ codes "\n")) h
    ∙ sym (append_assoc (text ++ codes "\n") fen (codes "\n"))

pub returns-in_err-write_line : goal.returns-in_err-write_line
returns-in_err-write_line g c =
    let text = c.as_bytes.ensures.value ∙ c.deref.ensures.0 ∙ c.move_text.ensures in
    gave_up c.from_residual.ensures.0
    (failed_before _ (c.args.fen.now.bytes ++ codes "\n") _ _ _
    c.in_err-write_line.ensures.failed (both_lines _ _ _ _ text refl))

pub returns : goal.returns
returns g c =
    let text = c.as_bytes.ensures.value ∙ c.deref.ensures.0 ∙ c.move_text.ensures in
    let fen = c.as_bytes-2.ensures.value ∙ c.deref-2.ensures.0 in
    wrote_behind _ _ _ _ _ _ c.in_ok-write_line.ensures.ok (both_lines _ _ _ _ text fen) _
    c.write_line-2.ensures
