-- What holds of what a table tells at its number of a position.
use Rattle.std.proofs.Common.{sym, ◌≡◌, refl, ap, ◌∙◌, ℕ, List, Bool, true, false, Some, None}
use Rattle.std.specs.Prelude.{if◌then◌else◌}
use Rattle.frz_board.specs.Boards.{Board}
use Rattle.frz_sets.specs.declared.exit.Value.{Value}
use Rattle.frz_sets.specs.declared.exit.Value.TheVariants.{WhiteWins, BlackWins, Draw, WhiteHolds, BlackHolds, Unknown, WhiteWinsIn, BlackWinsIn}
use Rattle.frz_sets.specs.Views.{GroupLine, RuleLines}
use Rattle.frz_index.specs.Members.{Member, Num}
use Rattle.frz_index.specs.Membership.{is_member, number_of}
use Rattle.frz_index.proofs.Lemmas.{member_of, number_missing, number_there, of_member}
use Rattle.frz_board.specs.declared.man.Colour.{Colour}
use Rattle.frz_board.specs.declared.man.Colour.TheVariants.{White, Black}
use Rattle.frz_exits.specs.Values.{class_of}
use Rattle.frz_chain.specs.ExactTables.{is_decided}
use Rattle.frz_chain.specs.Books.{or_else}
use Rattle.frz_backs.specs.declared.counts.Counts.{Counts}
use Rattle.frz_backs.specs.Books.{Back}
use Rattle.frz_backs.specs.Values.{back_value, told_in, with_plies}

pub or_unknown : (v : Value) → or_else v Unknown ≡ v
or_unknown WhiteWins = refl
or_unknown BlackWins = refl
or_unknown Draw = refl
or_unknown WhiteHolds = refl
or_unknown BlackHolds = refl
or_unknown Unknown = refl
or_unknown (WhiteWinsIn n) = refl
or_unknown (BlackWinsIn n) = refl

-- a table with the set of these rules
module _ (rules : RuleLines) (back : Back) (same : back.groups ≡ rules.groups) (q : Board) where
  -- has a number for a position of the set
  pub number_inside : Member rules.groups q → number_of back.groups q ≡ Some (Num rules.groups q)
  number_inside member =
      ap (λ (g : List GroupLine). number_of g q) same
      ∙ number_there rules.groups q (of_member rules.groups q member)

  -- and none for another
  pub number_outside : is_member rules.groups q ≡ false → number_of back.groups q ≡ None
  number_outside e =
      ap (λ (g : List GroupLine). number_of g q) same ∙ number_missing rules.groups q e

  -- so what holds of the value by the codes at the number, and of an unknown value, holds of what
  -- it tells
  pub holds_of_back_value : (P : Value → Type 0) (counts : Counts) → P Unknown
      → (Member rules.groups q → P (told_in counts back (Num rules.groups q)))
      → P (back_value counts back q)
  holds_of_back_value P counts unknown inside = by_test (is_member rules.groups q) refl
    where
      by_test : (member : Bool) → is_member rules.groups q ≡ member → P (back_value counts back q)
      by_test true e =
          let member = member_of rules.groups q e in
          rw (number_inside member) (inside member)
      by_test false e = rw (number_outside e) unknown

-- plies do not change whether a value decides the game
counted_decides : (P : Value → Type 0) (test : Bool) (some counted : Value) → P some → P counted
    → P (if test then counted else some)
counted_decides P true some counted h k = k
counted_decides P false some counted h k = h

-- what holds of a value and, where it is a win, of that win with any plies
pub holds_with_plies : (P : Value → Type 0) (counts : Counts) (white black : ℕ) (v : Value) → P v →
    (v ≡ WhiteWins → (n : ℕ) → P (WhiteWinsIn n)) → (v ≡ BlackWins → (n : ℕ) → P (BlackWinsIn n)) →
    P (with_plies counts white black v)
holds_with_plies P counts white black WhiteWins h w b =
    counted_decides P counts.white WhiteWins _ h (w refl _)
holds_with_plies P counts white black BlackWins h w b =
    counted_decides P counts.black BlackWins _ h (b refl _)
holds_with_plies P counts white black Draw h w b = h
holds_with_plies P counts white black WhiteHolds h w b = h
holds_with_plies P counts white black BlackHolds h w b = h
holds_with_plies P counts white black Unknown h w b = h
holds_with_plies P counts white black (WhiteWinsIn n) h w b = h
holds_with_plies P counts white black (BlackWinsIn n) h w b = h

pub still_decided : (counts : Counts) (white black : ℕ) (v : Value) → is_decided v ≡ true →
    is_decided (with_plies counts white black v) ≡ true
still_decided counts white black v d =
    holds_with_plies (λ (u : Value). is_decided u ≡ true) counts white black v d (λ e n. refl)
    (λ e n. refl)

pub white_class : (side : Colour) (n : ℕ) →
    class_of (WhiteWinsIn n) side ≡ class_of WhiteWins side
white_class White n = refl
white_class Black n = refl

pub black_class : (side : Colour) (n : ℕ) →
    class_of (BlackWinsIn n) side ≡ class_of BlackWins side
black_class White n = refl
black_class Black n = refl

-- nor whom it favours
pub told_class : (counts : Counts) (white black : ℕ) (v : Value) (side : Colour) →
    class_of (with_plies counts white black v) side ≡ class_of v side
told_class counts white black v side =
    holds_with_plies (λ (u : Value). class_of u side ≡ class_of v side) counts white black v refl
    (λ e n. white_class side n ∙ ap (λ (u : Value). class_of u side) (sym e))
    (λ e n. black_class side n ∙ ap (λ (u : Value). class_of u side) (sym e))
