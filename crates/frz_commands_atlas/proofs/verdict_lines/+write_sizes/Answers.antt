use Rattle.std.proofs.Common.{◌≡◌, sym, ap, ℕ, ◌≤◌, ◌-◌, List, [], ◌∷◌, ◌++◌, length, get_or, take, drop, arith, codes}
use Rattle.std.proofs.lemmas.List.{take_rest}
use Rattle.std.specs.Prelude.{decimal}
use Rattle.frz_answer.proofs.Lemmas.{failed_first, gave_up, wrote_next}
use Rattle.frz_commands_atlas.specs.Checking.{sizes_text}
use Rattle.frz_commands_atlas.proofs.verdict_lines.+write_sizes.Goals as goal

-- the text of the first size, and that of the others
first_size : (sizes : List ℕ) → 1 ≤ length sizes
    → sizes_text sizes ≡ (codes " " ++ decimal (get_or sizes 0 0))
    ++ sizes_text (take (length sizes - 1) (drop 1 sizes))
first_size [] h = absurd (omega arith)
first_size (size ∷ sizes) h =
    ap (λ (l : List ℕ). (codes " " ++ decimal size) ++ sizes_text l)
    (sym (take_rest (size ∷ sizes) 1))

pub returns-in_err-write_numbered-in-len1-up : goal.returns-in_err-write_numbered-in-len1-up
returns-in_err-write_numbered-in-len1-up g t c =
    rw (first_size _ c.in-len1-up.len_at_least)
    (gave_up c.from_residual.ensures.0
    (failed_first _ c.in_err-write_numbered-in-len1-up.ensures.failed))

pub returns-in_ok-write_numbered-in-len1-up : goal.returns-in_ok-write_numbered-in-len1-up
returns-in_ok-write_numbered-in-len1-up g t c =
    rw (first_size _ c.in-len1-up.len_at_least)
    (wrote_next c.in_ok-write_numbered-in-len1-up.ensures.ok c.write_sizes.ensures)
