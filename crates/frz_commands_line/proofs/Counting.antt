-- That the text of a line says something.
use Rattle.std.proofs.Common.{◌≡◌, refl, ℕ, ◌+◌, ◌≤◌, ◌==◌, List, [], ◌∷◌, ◌++◌, cond, arith}
use Rattle.std.specs.Prelude.{codes, count_by, decimal}
use Rattle.std.proofs.lemmas.List.Sums.{sum_by-append}
use Rattle.frz_board.specs.declared.man.Colour.{Colour}
use Rattle.frz_game.specs.declared.wrong.Wrong.{Wrong as WrongEntry}
use Rattle.frz_arena.specs.WayEnds.{Wrong, NoBound, Mated, Stalemated, Exit, Cut, Stopped}
use Rattle.frz_prelude.specs.WrongLines.{place_text, codes_text, wrong_line}
use Rattle.frz_ways.specs.declared.end.LineEnd.{LineEnd}
use Rattle.frz_ways.specs.declared.end.LineEnd.TheVariants as ends
use Rattle.frz_ways.specs.Ends.{told, IsUnfinished}
use Rattle.frz_ways.specs.Lines.{LinePly, EndOfLine}
use Rattle.frz_ways.specs.Texts.{value_text, plies_text, end_line, last_line, start_line, line_text}
use Rattle.frz_commands_line.specs.LineEnds.{naming_line}
use Rattle.frz_commands_line.specs.LineOf.{told_text}

-- how many lines a text has
abbrev lines_in : List ℕ → ℕ
lines_in text = count_by (λ b. b == 10) text

-- of two texts
lines_more : (xs ys : List ℕ) → lines_in (xs ++ ys) ≡ lines_in xs + lines_in ys
lines_more xs ys = sum_by-append (λ b. cond (b == 10) 1 0) xs ys

line_there : (xs : List ℕ) → 1 ≤ lines_in (xs ++ codes "\n")
line_there xs = let more = lines_more xs (codes "\n") in omega (arith, more)

-- a text with a line behind another
lines_behind : (xs ys : List ℕ) → 1 ≤ lines_in ys → 1 ≤ lines_in (xs ++ ys)
lines_behind xs ys one = let more = lines_more xs ys in omega (arith, more, one)

end_there : (end : LineEnd) → 1 ≤ lines_in (end_line end)
end_there ends.Mate = line_there (codes "mate")
end_there ends.Stalemate = line_there (codes "stalemate")
end_there (ends.Exit v) =
    lines_behind (codes "exit ") (value_text v ++ codes "\n") (line_there (value_text v))
end_there ends.Cut = line_there (codes "cut")

wrong_there : (w : WrongEntry) → 1 ≤ lines_in (wrong_line w)
wrong_there w =
    lines_behind (place_text w) (codes_text w)
    (line_there (codes " kept " ++ decimal w.kept ++ (codes " given " ++ decimal w.given)))

-- the end has a line, its own or the one that names it
closing_has_lines : (side : Colour) (end : EndOfLine)
    → 1 ≤ lines_in (last_line (told side end)) + lines_in
    (naming_line (told side end))
closing_has_lines side (Wrong at kept given) =
    let one = wrong_there (record { side = side; number = at.1; kept = kept; given = given }) in
    omega (arith, one)
closing_has_lines side NoBound = let one = line_there (codes "no bound") in omega (arith, one)
closing_has_lines side (Mated mover) = let one = end_there ends.Mate in omega (arith, one)
closing_has_lines side (Stalemated mover) = let one = end_there ends.Stalemate in omega (arith, one)
closing_has_lines side (Exit v) = let one = end_there (ends.Exit v) in omega (arith, one)
closing_has_lines side Cut = let one = end_there ends.Cut in omega (arith, one)
closing_has_lines side (Stopped reason) = elim reason [ ]

not_nil : (xs : List ℕ) → 1 ≤ lines_in xs → xs ≡ [] → ⊥
not_nil [] one e = omega (arith, one)
not_nil (x ∷ xs) one e = cc

-- where two texts together are empty, each of them is empty
pub no_left : (xs ys : List ℕ) → xs ++ ys ≡ [] → xs ≡ []
no_left [] ys e = refl
no_left (x ∷ xs) ys e = cc

pub no_right : (xs ys : List ℕ) → xs ++ ys ≡ [] → ys ≡ []
no_right [] ys e = e
no_right (x ∷ xs) ys e = cc

-- something is left to say of a line that the store stopped
pub unfinished_said : (side : Colour) (end : EndOfLine) (rest : List ℕ)
    → IsUnfinished (told side end) rest → rest ++ naming_line (told side end) ≡ [] → ⊥
unfinished_said side (Wrong at kept given) rest left e =
    let w : WrongEntry = record { side = side; number = at.1; kept = kept; given = given } in
    not_nil (wrong_line w) (wrong_there w) (no_right rest (wrong_line w) e)
unfinished_said side NoBound rest left e =
    not_nil (codes "no bound\n") (line_there (codes "no bound"))
    (no_right rest (codes "no bound\n") e)
unfinished_said side (Mated mover) rest left e = left (no_left rest [] e)
unfinished_said side (Stalemated mover) rest left e = left (no_left rest [] e)
unfinished_said side (Exit v) rest left e = left (no_left rest [] e)
unfinished_said side Cut rest left e = left (no_left rest [] e)
unfinished_said side (Stopped reason) rest left e = elim reason [ ]

-- the text of a line says something
pub told_said : (side : Colour) (code : ℕ) (plies : List LinePly) (end : EndOfLine)
    → told_text side code plies (told side end) ≡ [] → ⊥
told_said side code plies end =
    let answer = told side end in
    let first = start_line side code plies answer in
    let closes = closing_has_lines side end in
    let last = lines_more (plies_text plies) (last_line answer) in
    let line = lines_more first (plies_text plies ++ last_line answer) in
    let all = lines_more (line_text side code plies answer) (naming_line answer) in
    not_nil (told_text side code plies answer) (omega (arith, closes, last, line, all))
