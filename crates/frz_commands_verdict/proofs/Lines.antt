-- The text of the first line, and that of the others.
use Rattle.std.proofs.Common.{◌≡◌, ◌≤◌, ◌-◌, ◌++◌, ◌∷◌, ◌∙◌, [], ℕ, List, ap, arith, drop, get_or, length, sym, take}
use Rattle.std.proofs.lemmas.List.{take_rest}
use Rattle.frz_commands_premises.specs.declared.line.Line.{Line}
use Rattle.frz_commands_verdict.specs.Texts.{belief_text, beliefs_text, place_after}

pub first_belief : (own place : ℕ) (lines : List Line) (line : Line) → 1 ≤ length lines
    → line ≡ get_or lines 0 line
    → beliefs_text own place lines ≡ belief_text own place line
    ++ beliefs_text own (place_after place line) (take (length lines - 1) (drop 1 lines))
first_belief own place [] line some is = absurd (omega arith)
first_belief own place (first ∷ lines) line some is =
    ap (λ (l : List Line). belief_text own place first
    ++ beliefs_text own (place_after place first) l) (sym (take_rest (first ∷ lines) 1))
    ∙ ap (λ (x : Line). belief_text own place x ++ beliefs_text own (place_after place x)
    (take (length (first ∷ lines) - 1) (drop 1 (first ∷ lines)))) (sym is)
