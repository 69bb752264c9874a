-- What holds of what a table tells, and of the first of two values.
use Rattle.std.proofs.Common.{◌≡◌, ◌<◌, refl, sym, ap, subst, ◌∙◌, ℕ, List, Bool, true, false, Option, Some, None}
use Rattle.frz_board.specs.Boards.{Board}
use Rattle.frz_sets.specs.declared.exit.Value.{Value}
use Rattle.frz_sets.specs.declared.exit.Value.TheVariants.{WhiteWins, BlackWins, Draw, WhiteHolds, BlackHolds, Unknown, WhiteWinsIn, BlackWinsIn}
use Rattle.frz_sets.specs.Sets.{size_of}
use Rattle.frz_sets.specs.Views.{GroupLine, RuleLines}
use Rattle.frz_index.specs.Members.{Member, Num}
use Rattle.frz_index.specs.Membership.{is_member, number_of}
use Rattle.frz_index.proofs.Lemmas.{Num_below, member_of, number_missing, number_tells, number_there, of_member}
use Rattle.frz_chain.specs.Books.{Back, back_value, or_else, told_at}

-- what holds of the first value, and of the second where the first is unknown
pub holds_of_either_value : (P : Value → Type 0) (first second : Value) → P first → P second
    → P (or_else first second)
holds_of_either_value P WhiteWins second h k = h
holds_of_either_value P BlackWins second h k = h
holds_of_either_value P Draw second h k = h
holds_of_either_value P WhiteHolds second h k = h
holds_of_either_value P BlackHolds second h k = h
holds_of_either_value P Unknown second h k = k
holds_of_either_value P (WhiteWinsIn n) second h k = h
holds_of_either_value P (BlackWinsIn n) second h k = h

-- the number of a position is below the size
pub number_below : (groups : List GroupLine) (q : Board) (i : ℕ) → Some i ≡ number_of groups q
    → i < size_of groups
number_below groups q i e =
    let known = number_tells groups q i (sym e) in
    subst (λ (n : ℕ). n < size_of groups) known.1 (Num_below groups q (member_of groups q known.0))

-- a back table with the set of these rules
module _ (rules : RuleLines) (back : Back) (same : back.groups ≡ rules.groups) (q : Board) where
  -- has a number for a position of the set
  pub number_inside : Member rules.groups q → number_of back.groups q ≡ Some (Num rules.groups q)
  number_inside member =
      ap (λ (g : List GroupLine). number_of g q) same
      ∙ number_there rules.groups q (of_member rules.groups q member)

  -- and none for another
  pub number_outside : is_member rules.groups q ≡ false → number_of back.groups q ≡ None
  number_outside e =
      ap (λ (g : List GroupLine). number_of g q) same ∙ number_missing rules.groups q e

  -- so what holds of the value by the codes at the number, and of an unknown value, holds of what
  -- it tells
  pub holds_of_back_value : (P : Value → Type 0) → P Unknown
      → (Member rules.groups q → P (told_at back (Some (Num rules.groups q))))
      → P (back_value back q)
  holds_of_back_value P unknown inside = by_test (is_member rules.groups q) refl
    where
      by_test : (member : Bool) → is_member rules.groups q ≡ member → P (back_value back q)
      by_test true e =
          let member = member_of rules.groups q e in
          subst (λ (o : Option ℕ). P (told_at back o)) (sym (number_inside member)) (inside member)
      by_test false e =
          subst (λ (o : Option ℕ). P (told_at back o)) (sym (number_outside e)) unknown
