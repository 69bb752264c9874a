-- Wins over several tables that tell their plies.
use Rattle.std.proofs.Common.{◌≡◌, refl, ℕ, Bool, true, false, List, Option, Some, None, get_or}
use Rattle.std.specs.Prelude.{slice_index, if◌then◌else◌}
use Rattle.frz_board.specs.Boards.{Board}
use Rattle.frz_board.specs.declared.man.Colour.{Colour}
use Rattle.frz_board.specs.declared.man.Colour.TheVariants.{White, Black}
use Rattle.frz_sets.specs.declared.exit.Value.{Value}
use Rattle.frz_sets.specs.declared.exit.Value.TheVariants.{WhiteWins, BlackWins, WhiteHolds, BlackHolds, Unknown, WhiteWinsIn, BlackWinsIn}
use Rattle.frz_sets.specs.Views.{RuleLines}
use Rattle.frz_arena.specs.declared.class.Class.TheVariants.{Good}
use Rattle.frz_arena.specs.Exits.{AllNumbered, IsExit}
use Rattle.frz_exits.specs.Values.{class_of, is_numbered}
use Rattle.frz_chain.specs.Games.{game_of}
use Rattle.frz_index.specs.Membership.{number_of}
use Rattle.frz_chain.proofs.Lemmas.{holds_of_pair_value}
use Rattle.frz_backs.specs.declared.counts.Counts.{Counts}
use Rattle.frz_backs.specs.Books.{Back}
use Rattle.frz_backs.specs.Counts.{count_for, counts_of, counts_side, lines_count}
use Rattle.frz_backs.specs.LinkPlies.{OwnWinsNumbered}
use Rattle.frz_backs.specs.Links.{value_over}
use Rattle.frz_backs.specs.Values.{atlas_value, first_value, own_value, plies_in, told_in, told_or, with_plies}
use Rattle.frz_backs.proofs.FirstValue.{first_of, holds_of_atlas_value}
use Rattle.frz_backs.proofs.OwnLines.{lines_numbered, own_numbered}
use Rattle.frz_backs.proofs.SmallLags.{side_counted}

-- an exit by one book is one by another
pub same_exit : (rules : RuleLines) (value other : Board → Value) (q : Board) →
    IsExit (game_of rules value) q → IsExit (game_of rules other) q
same_exit rules value other q x = record {
  from = x.from;
  move = x.move;
  begins = x.begins;
  legal = x.legal;
  ends = x.ends;
  outside = x.outside;
}

abbrev pub IsNumbered : Colour → Value → Type 0
IsNumbered side v = class_of v side ≡ Good → is_numbered v ≡ true

white_numbered : (test : Bool) (side : Colour) (n : ℕ) → (side ≡ White → test ≡ true) →
    IsNumbered side (if test then WhiteWinsIn n else WhiteWins)
white_numbered true side n counted good = refl
white_numbered false White n counted good = absurd (let e = counted refl in cc)
white_numbered false Black n counted good = absurd (cc)

black_numbered : (test : Bool) (side : Colour) (n : ℕ) → (side ≡ Black → test ≡ true) →
    IsNumbered side (if test then BlackWinsIn n else BlackWins)
black_numbered true side n counted good = refl
black_numbered false Black n counted good = absurd (let e = counted refl in cc)
black_numbered false White n counted good = absurd (cc)

white_there : (counts : Counts) (side : Colour) → counts_side counts side ≡ true → side ≡ White →
    counts.white ≡ true
white_there counts White e s = e
white_there counts Black e s = absurd (cc)

black_there : (counts : Counts) (side : Colour) → counts_side counts side ≡ true → side ≡ Black →
    counts.black ≡ true
black_there counts Black e s = e
black_there counts White e s = absurd (cc)

told_numbered : (counts : Counts) (side : Colour) → counts_side counts side ≡ true → (back : Back)
    (i : ℕ) → IsNumbered side (told_in counts back i)
told_numbered counts side e back i =
    let white = slice_index back.white i in
    let black = slice_index back.black i in
    holds_of_pair_value (λ (v : Value). IsNumbered side (with_plies counts white black v)) white
    black
    (λ win. white_numbered counts.white side (plies_in white) (white_there counts side e))
    (λ win. black_numbered counts.black side (plies_in black) (black_there counts side e))
    (λ w b good. absurd (cc)) (λ w. white_holds side) (λ b. black_holds side)
    (λ good. absurd (cc))
  where
    white_holds : (s : Colour) → IsNumbered s WhiteHolds
    white_holds White good = absurd (cc)
    white_holds Black good = absurd (cc)

    black_holds : (s : Colour) → IsNumbered s BlackHolds
    black_holds White good = absurd (cc)
    black_holds Black good = absurd (cc)

table_numbered : (counts : Counts) (side : Colour) → counts_side counts side ≡ true → (back : Back)
    (o : Option ℕ) → IsNumbered side (told_or counts back Unknown o)
table_numbered counts side e back None good = absurd (cc)
table_numbered counts side e back (Some i) good = told_numbered counts side e back i good

-- the side's wins that the tables tell give their plies, where they count in all
first_numbered : (backs : List Back) (side : Colour) → count_for side backs ≡ true →
    (q : Board) → IsNumbered side (first_value (counts_of backs) Unknown backs q)
first_numbered backs side e q =
    first_of (IsNumbered side) (counts_of backs) Unknown backs q (λ good. absurd (cc))
    (λ k back l. (
    let b = get_or backs k back in
    table_numbered (counts_of backs) side (side_counted backs side e) b
    (number_of b.groups q)))

pub atlas_numbered : (rules : RuleLines) (backs : List Back) (side : Colour) →
    count_for side backs ≡ true → OwnWinsNumbered rules backs side →
    AllNumbered (game_of rules (atlas_value rules backs)) side
atlas_numbered rules backs side e own q x =
    holds_of_atlas_value (IsNumbered side) rules backs q
    (own q (same_exit rules (atlas_value rules backs) (own_value rules backs) q x))
    (first_numbered backs side e q)

-- so each win of a table gives its plies, over the tables before it or by its lines alone
pub over_numbered : (leans : Bool) (rules : RuleLines) (before : List Back) (side : Colour) →
    count_for side before ≡ true → lines_count side rules.exits ≡ true →
    AllNumbered (game_of rules (value_over leans rules before)) side
over_numbered true rules before side e lines q x =
    atlas_numbered rules before side e (own_numbered rules before side lines) q x
over_numbered false rules before side e lines q x = lines_numbered rules side lines q
