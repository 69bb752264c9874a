-- What holds of the value that two codes tell, by the five pairs that tell something.
use Rattle.std.proofs.Common.{◌≡◌, refl, ℕ, Bool, true, false, ◌&&◌, ◌==◌, if◌then◌else◌}
use Rattle.std.proofs.lemmas.Bool.{and_parts, eqb-true}
use Rattle.frz_board.specs.declared.man.Colour.{Colour}
use Rattle.frz_board.specs.declared.man.Colour.TheVariants.{White, Black}
use Rattle.frz_arena.specs.declared.class.Class.TheVariants.{Good}
use Rattle.frz_arena.specs.Codes.{is_win, is_failure}
use Rattle.frz_exits.specs.Values.{class_of}
use Rattle.frz_sets.specs.declared.exit.Value.{Value}
use Rattle.frz_sets.specs.declared.exit.Value.TheVariants.{WhiteWins, BlackWins, Draw, WhiteHolds, BlackHolds, Unknown}
use Rattle.std.specs.Prelude.{slice_index, Some}
use Rattle.frz_chain.specs.Books.{Back, told_at}
use Rattle.frz_chain.specs.ChainPlies.{back_codes}
use Rattle.frz_chain.specs.PairValues.{pair_value}

-- the value of a test, or the rest
either_holds : (P : Value → Type 0) (v rest : Value) (test : Bool) → (test ≡ true → P v) → P rest
    → P (if test then v else rest)
either_holds P v rest true h k = h refl
either_holds P v rest false h k = k

pub holds_of_pair_value : (P : Value → Type 0) (white black : ℕ)
    → (is_win white ≡ true → P WhiteWins) → (is_win black ≡ true → P BlackWins)
    → (white ≡ 1 → black ≡ 1 → P Draw) → (white ≡ 1 → P WhiteHolds) → (black ≡ 1 → P BlackHolds)
    → P Unknown
    → P (pair_value white black)
holds_of_pair_value P white black white_wins black_wins draw white_holds black_holds unknown =
    let fifth : Value = if is_failure white && (black == 1) then BlackHolds else Unknown in
    let fourth : Value = if (white == 1) && is_failure black then WhiteHolds else fifth in
    let third : Value = if (white == 1) && (black == 1) then Draw else fourth in
    let second : Value = if is_failure white && is_win black then BlackWins else third in
    either_holds P WhiteWins second (is_win white && is_failure black)
    (λ e. white_wins (and_parts (is_win white) (is_failure black) e).0)
    (either_holds P BlackWins third (is_failure white && is_win black)
    (λ e. black_wins (and_parts (is_failure white) (is_win black) e).1)
    (either_holds P Draw fourth ((white == 1) && (black == 1))
    (λ e. draw (eqb-true white 1 (and_parts (white == 1) (black == 1) e).0)
    (eqb-true black 1 (and_parts (white == 1) (black == 1) e).1))
    (either_holds P WhiteHolds fifth ((white == 1) && is_failure black)
    (λ e. white_holds (eqb-true white 1 (and_parts (white == 1) (is_failure black) e).0))
    (either_holds P BlackHolds Unknown (is_failure white && (black == 1))
    (λ e. black_holds (eqb-true black 1 (and_parts (is_failure white) (black == 1) e).1))
    unknown))))

-- where the two codes at a number tell that a side wins, its code is a win
pub win_told : (back : Back) (side : Colour) (i : ℕ) → class_of (told_at back (Some i)) side ≡ Good
    → is_win (slice_index (back_codes back side) i) ≡ true
win_told back White i =
    let white = slice_index back.white i in
    holds_of_pair_value (λ (v : Value). class_of v White ≡ Good → is_win white ≡ true) white
    (slice_index back.black i) (λ win good. win) (λ w good. absurd (cc)) (λ w b good. absurd (cc))
    (λ w good. absurd (cc)) (λ b good. absurd (cc)) (λ good. absurd (cc))
win_told back Black i =
    let black = slice_index back.black i in
    holds_of_pair_value (λ (v : Value). class_of v Black ≡ Good → is_win black ≡ true)
    (slice_index back.white i) black (λ w good. absurd (cc)) (λ win good. win)
    (λ w b good. absurd (cc)) (λ w good. absurd (cc)) (λ b good. absurd (cc))
    (λ good. absurd (cc))
