-- The values told by several tables have small lags.
use Rattle.std.proofs.Common.{◌≡◌, ◌≤◌, ◌<◌, zero, suc, inl, inr, ℕ, List, [], ◌∷◌, Bool, true, false, not, ◌||◌, Option, Some, None, get_or, length, refl, arith, nat_le}
use Rattle.std.specs.Prelude.{slice_index, if◌then◌else◌}
use Rattle.std.specs.List.{list_all}
use Rattle.std.proofs.lemmas.Bool.{and_parts, cases_Bool, leb-true}
use Rattle.std.proofs.lemmas.List.Folds.{list_all_at}
use Rattle.frz_board.specs.Boards.{Board}
use Rattle.frz_board.specs.declared.man.Colour.{Colour}
use Rattle.frz_board.specs.declared.man.Colour.TheVariants.{White, Black}
use Rattle.frz_sets.specs.declared.exit.Value.{Value}
use Rattle.frz_sets.specs.declared.exit.Value.TheVariants.{WhiteWins, BlackWins, Unknown, WhiteWinsIn, BlackWinsIn}
use Rattle.frz_sets.specs.Views.{RuleLines}
use Rattle.frz_sets.specs.Sound.{IsSound}
use Rattle.frz_arena.specs.Codes.{is_win}
use Rattle.frz_exits.specs.Values.{lag_of}
use Rattle.frz_exits.proofs.Lemmas.{small_values}
use Rattle.frz_chain.specs.SmallLags.{HasSmallLags}
use Rattle.frz_index.specs.Membership.{number_of}
use Rattle.frz_chain.proofs.Lemmas.{holds_of_pair_value}
use Rattle.frz_backs.specs.declared.counts.Counts.{Counts}
use Rattle.frz_backs.specs.Books.{Back, back_codes}
use Rattle.frz_backs.specs.Counts.{count_for, counts_for, counts_of, counts_side, is_short, lines_count}
use Rattle.frz_backs.specs.Links.{value_over}
use Rattle.frz_backs.specs.Values.{atlas_value, first_value, plies_in, told_in, told_or, with_plies}
use Rattle.frz_backs.proofs.FirstValue.{first_of, holds_of_atlas_value}
use Rattle.frz_backs.proofs.OwnLines.{own_small}

-- what holds of each element holds of one of them
pub all_at : {X : Type 0} (p : X → Bool) (xs : List X) (i : ℕ) (d : X) → i < length xs →
    list_all p xs ≡ true → p (get_or xs i d) ≡ true
all_at p xs i d l e =
    elim (cases_Bool (p (get_or xs i d))) [
      | inl t ↦ t
      | inr f ↦ absurd (let no = list_all_at p xs i d l f in cc)
    ]

short_at : (codes : List ℕ) (i : ℕ) → list_all is_short codes ≡ true →
    is_short (slice_index codes i) ≡ true
short_at [] zero e = refl
short_at [] (suc i) e = refl
short_at (c ∷ codes) zero e = (and_parts (is_short c) (list_all is_short codes) e).0
short_at (c ∷ codes) (suc i) e =
    short_at codes i (and_parts (is_short c) (list_all is_short codes) e).1

-- the parts of a count
pub counted_lines : (side : Colour) (back : Back) → counts_for side back ≡ true →
    lines_count side back.exits ≡ true
unfolding counts_for
counted_lines side back e =
    (and_parts (lines_count side back.exits) (list_all is_short (back_codes back side)) e).0

counted_codes : (side : Colour) (back : Back) → counts_for side back ≡ true →
    list_all is_short (back_codes back side) ≡ true
unfolding counts_for
counted_codes side back e =
    (and_parts (lines_count side back.exits) (list_all is_short (back_codes back side)) e).1

either_short : (win few : Bool) → win ≡ true → (not win || few) ≡ true → few ≡ true
either_short true few w e = e
either_short false few w e = absurd (cc)

few_plies : (code : ℕ) → is_win code ≡ true → is_short code ≡ true → plies_in code ≤ 1000
few_plies code win short =
    let few = leb-true code 2002 (either_short (is_win code) (nat_le code 2002) win short) in
    omega (arith, few)

white_small : (test : Bool) (code : ℕ) → is_win code ≡ true →
    (test ≡ true → is_short code ≡ true) →
    lag_of (if test then WhiteWinsIn (plies_in code) else WhiteWins) ≤ 1000
white_small true code win short = few_plies code win (short refl)
white_small false code win short = omega arith

black_small : (test : Bool) (code : ℕ) → is_win code ≡ true →
    (test ≡ true → is_short code ≡ true) →
    lag_of (if test then BlackWinsIn (plies_in code) else BlackWins) ≤ 1000
black_small true code win short = few_plies code win (short refl)
black_small false code win short = omega arith

-- where the wins that are told with their plies are short, so are the lags
abbrev pub AreShort : Counts → Back → Type 0
AreShort counts back =
    (side : Colour) → counts_side counts side ≡ true → counts_for side back ≡ true

told_small : (counts : Counts) (back : Back) → AreShort counts back → (i : ℕ) →
    lag_of (told_in counts back i) ≤ 1000
told_small counts back short i =
    let white = slice_index back.white i in
    let black = slice_index back.black i in
    holds_of_pair_value (λ (v : Value). lag_of (with_plies counts white black v) ≤ 1000) white black
    (λ win. white_small counts.white white win
    (λ e. short_at back.white i (counted_codes White back (short White e))))
    (λ win. black_small counts.black black win
    (λ e. short_at back.black i (counted_codes Black back (short Black e))))
    (λ _ _. omega arith) (λ _. omega arith) (λ _. omega arith) (omega arith)

table_small : (counts : Counts) (back : Back) → AreShort counts back → (o : Option ℕ) →
    lag_of (told_or counts back Unknown o) ≤ 1000
table_small counts back short None = omega arith
table_small counts back short (Some i) = told_small counts back short i

-- whose wins count in all tables, by sides
pub counted_side : (backs : List Back) (side : Colour) → counts_side (counts_of backs) side ≡ true →
    count_for side backs ≡ true
counted_side backs White e = e
counted_side backs Black e = e

pub side_counted : (backs : List Back) (side : Colour) → count_for side backs ≡ true →
    counts_side (counts_of backs) side ≡ true
side_counted backs White e = e
side_counted backs Black e = e

pub first_small : (backs : List Back) (q : Board) →
    lag_of (first_value (counts_of backs) Unknown backs q) ≤ 1000
first_small backs q =
    first_of (λ (v : Value). lag_of v ≤ 1000) (counts_of backs) Unknown backs q (omega arith)
    (λ k back l. (
    let b = get_or backs k back in
    table_small (counts_of backs) b
    (λ side e. all_at (counts_for side) backs k back l (counted_side backs side e))
    (number_of b.groups q)))

pub atlas_small : (rules : RuleLines) (backs : List Back) → IsSound rules
    → HasSmallLags (atlas_value rules backs)
atlas_small rules backs sound q valid =
    holds_of_atlas_value (λ (v : Value). lag_of v ≤ 1000) rules backs q
    (own_small rules backs sound q)
    (first_small backs q)

-- with the tables behind the lines or without
pub over_small : (leans : Bool) (rules : RuleLines) (before : List Back) → IsSound rules
    → HasSmallLags (value_over leans rules before)
over_small true rules before sound q valid = atlas_small rules before sound q valid
over_small false rules before sound q valid = small_values rules sound q
