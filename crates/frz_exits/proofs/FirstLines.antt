-- The first line that holds, line by line.
use Rattle.std.proofs.Common.{◌≡◌, ◌<◌, ◌+◌, ℕ, zero, suc, true, false, List, [], ◌∷◌, length, get_or, drop, refl, arith, add-one, ◌≤◌}
use Rattle.frz_board.specs.Boards.{Board}
use Rattle.frz_sets.specs.declared.exit.Value.TheVariants.{Unknown}
use Rattle.frz_sets.specs.Views.{ExitLine}
use Rattle.frz_exits.specs.Conditions.{conditions_hold}
use Rattle.frz_exits.specs.Books.{first_value}

-- a line that holds gives the value
pub line_holds : (lines : List ExitLine) (i : ℕ) (q : Board) (line : ExitLine) → i < length lines →
    line ≡ get_or lines i line → conditions_hold q line.conds ≡ true →
    first_value (drop i lines) q ≡ line.value
line_holds [] i q line l e h = absurd (omega arith)
line_holds (x ∷ lines) zero q line l e h = rw (← e) (rw h refl)
line_holds (x ∷ lines) (suc i) q line l e h = line_holds lines i q line (omega arith) e h

passed_over : (lines : List ExitLine) (i : ℕ) (q : Board) (line : ExitLine) → i < length lines →
    line ≡ get_or lines i line → conditions_hold q line.conds ≡ false →
    first_value (drop i lines) q ≡ first_value (drop (suc i) lines) q
passed_over [] i q line l e h = absurd (omega arith)
passed_over (x ∷ lines) zero q line l e h = rw (← e) (rw h refl)
passed_over (x ∷ lines) (suc i) q line l e h = passed_over lines i q line (omega arith) e h

-- one that does not hold is passed over
pub line_fails : (lines : List ExitLine) (i : ℕ) (q : Board) (line : ExitLine) → i < length lines →
    line ≡ get_or lines i line → conditions_hold q line.conds ≡ false →
    first_value (drop i lines) q ≡ first_value (drop (i + 1) lines) q
line_fails lines i q line l e h = rw add-one (passed_over lines i q line l e h)

-- past the last line the value is unknown
pub none_left : (lines : List ExitLine) (i : ℕ) (q : Board) → length lines ≤ i →
    first_value (drop i lines) q ≡ Unknown
none_left [] zero q l = refl
none_left [] (suc i) q l = refl
none_left (x ∷ lines) zero q l = absurd (omega arith)
none_left (x ∷ lines) (suc i) q l = none_left lines i q (omega arith)
