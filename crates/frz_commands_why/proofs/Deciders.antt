-- What is told to have decided the value of a position did so.
use Rattle.std.proofs.Common.{◌≡◌, ℕ, zero, suc, ◌+◌, ◌<◌, Bool, true, false, cond, List, [], ◌∷◌, length, Option, None, Some, Ok, refl, sym, ap, subst, ◌∙◌, arith}
use Rattle.std.specs.Prelude.{if◌then◌else◌, slice_get, option_and_then}
use Rattle.std.specs.List.{position_from}
use Rattle.std.proofs.lemmas.Option.{slice_get_within}
use Rattle.frz_board.specs.Boards.{Board}
use Rattle.frz_sets.specs.declared.exit.Value.{Value}
use Rattle.frz_sets.specs.declared.exit.Value.TheVariants.{WhiteWins, BlackWins, Draw, WhiteHolds, BlackHolds, Unknown, WhiteWinsIn, BlackWinsIn}
use Rattle.frz_sets.specs.Views.{ExitLine, RuleLines}
use Rattle.frz_exits.specs.Books.{value_by}
use Rattle.frz_index.specs.Membership.{is_member}
use Rattle.frz_index.proofs.Lemmas.{number_missing, number_there}
use Rattle.frz_rules.specs.Text.{rules_of}
use Rattle.frz_backs.specs.Books.{or_else}
use Rattle.frz_backs.specs.declared.counts.Counts.{Counts}
use Rattle.frz_backs.specs.Behind.{value_behind}
use Rattle.frz_backs.specs.Books.{Back}
use Rattle.frz_backs.specs.Counts.{counts_of}
use Rattle.frz_backs.specs.Lines.{line_over}
use Rattle.frz_backs.specs.Links.{own_over, value_over}
use Rattle.frz_backs.specs.Values.{atlas_value, back_value, first_value, is_behind, own_value, told_or}
use Rattle.frz_backs.proofs.Lemmas.{front_tells, line_gives, no_line_gives, none_tell, or_unknown, own_or_told}
use Rattle.frz_exit_lines.specs.Numbers.{exit_numbers_of}
use Rattle.frz_exit_lines.specs.Saying.{exit_on_line}
use Rattle.frz_exit_lines.proofs.Lemmas.{as_many_lines, said_there}
use Rattle.frz_exits.specs.Values.{is_unknown}
use Rattle.frz_commands_why.specs.Deciders.{asked_back, back_at, decider_by, decider_of, number_at}
use Rattle.frz_commands_why.specs.Decides.{Decides, line, behind, none}

unknown_is : (v : Value) → is_unknown v ≡ true → v ≡ Unknown
unknown_is WhiteWins e = absurd cc
unknown_is BlackWins e = absurd cc
unknown_is Draw e = absurd cc
unknown_is WhiteHolds e = absurd cc
unknown_is BlackHolds e = absurd cc
unknown_is Unknown e = refl
unknown_is (WhiteWinsIn n) e = absurd cc
unknown_is (BlackWinsIn n) e = absurd cc

-- the first table whose set holds the position tells the value
pub record Holds (counts : Counts) (rest : Value) (backs : List Back) (q : Board) (from k : ℕ) : Type 0 where
  pub place : ℕ
  pub back : Back
  pub at : k ≡ from + place
  pub there : slice_get backs place ≡ Some back
  pub gives : first_value counts rest backs q ≡ back_value counts back q

holds_first : (counts : Counts) (rest : Value) (backs : List Back) (q : Board) (from k : ℕ) →
    position_from (λ b. is_member b.groups q) from backs ≡ Some k →
    Holds counts rest backs q from k
holds_first counts rest [] q from k e = absurd cc
holds_first counts rest (b ∷ backs) q from k e =
    by_test (is_member b.groups q) refl e (holds_first counts rest backs q (from + 1) k)
  where
    by_test : (t : Bool) → is_member b.groups q ≡ t →
        cond t (Some from) (position_from (λ x. is_member x.groups q) (from + 1) backs) ≡ Some k →
        (position_from (λ x. is_member x.groups q) (from + 1) backs ≡ Some k →
        Holds counts rest backs q (from + 1) k) → Holds counts rest (b ∷ backs) q from k
    by_test true t h more =
        let number = number_there b.groups q t in
        record {
          place = 0;
          back = b;
          at = let same : from ≡ k = cc in omega arith;
          there = refl;
          gives = front_tells counts rest b backs q
              ∙ ap (told_or counts b (first_value counts rest backs q)) number
              ∙ sym (ap (told_or counts b Unknown) number);
        }
    by_test false t h more =
        let later = more h in
        record {
          place = suc later.place;
          back = later.back;
          at = let is = later.at in omega arith;
          there = later.there;
          gives = front_tells counts rest b backs q
              ∙ ap (told_or counts b (first_value counts rest backs q)) (number_missing b.groups q t)
              ∙ later.gives;
        }

held_in_none : (counts : Counts) (rest : Value) (backs : List Back) (q : Board) (from : ℕ) →
    position_from (λ b. is_member b.groups q) from backs ≡ None →
    first_value counts rest backs q ≡ rest
held_in_none counts rest [] q from e = none_tell counts rest q
held_in_none counts rest (b ∷ backs) q from e =
    by_test (is_member b.groups q) refl e (held_in_none counts rest backs q (from + 1))
  where
    by_test : (t : Bool) → is_member b.groups q ≡ t →
        cond t (Some from) (position_from (λ x. is_member x.groups q) (from + 1) backs) ≡ None →
        (position_from (λ x. is_member x.groups q) (from + 1) backs ≡ None →
        first_value counts rest backs q ≡ rest) → first_value counts rest (b ∷ backs) q ≡ rest
    by_test true t h more = absurd cc
    by_test false t h more =
        front_tells counts rest b backs q
        ∙ ap (told_or counts b (first_value counts rest backs q)) (number_missing b.groups q t)
        ∙ more h

place_has_element : {A : Type 0} (xs : List A) (k : ℕ) → k < length xs
    → (x : A) × (slice_get xs k ≡ Some x)
place_has_element [] k l = absurd (omega arith)
place_has_element (x ∷ xs) zero l = (x, refl)
place_has_element (x ∷ xs) (suc k) l = place_has_element xs k (omega arith)

-- a value that says something counts, whatever stands behind it
first_counts : (v w : Value) → is_unknown v ≡ false → or_else v w ≡ v
first_counts WhiteWins w e = refl
first_counts BlackWins w e = refl
first_counts Draw w e = refl
first_counts WhiteHolds w e = refl
first_counts BlackHolds w e = refl
first_counts Unknown w e = absurd cc
first_counts (WhiteWinsIn n) w e = refl
first_counts (BlackWinsIn n) w e = refl

module _ (text : List ℕ) (rules : RuleLines) (accepted : rules_of text ≡ Ok rules)
    (leans : Bool) (backs : List Back) (q : Board) where
  abbrev numbers : List ℕ
  numbers = exit_numbers_of text

  abbrev value : Value
  value = value_over leans rules backs q

  abbrev own : Value
  own = own_over leans rules backs q

  -- the line that gives the value stands under its number
  pub record Numbered (k : ℕ) : Type 0 where
    pub fits : ExitLine
    pub number : ℕ
    pub there : slice_get rules.exits k ≡ Some fits
    pub numbered : slice_get numbers k ≡ Some number
    pub says : exit_on_line text number ≡ Some fits
    pub gives : own ≡ fits.value

  deciding_line_is_numbered : (k : ℕ) → line_over leans rules backs q ≡ Some k → Numbered k
  deciding_line_is_numbered k e =
      let given = line_gives leans rules backs q k e in
      let many = as_many_lines text rules accepted in
      let below = slice_get_within rules.exits k given.0 given.1.there in
      let n = place_has_element numbers k (omega arith) in
      record {
        fits = given.0;
        number = n.0;
        there = given.1.there;
        numbered = n.1;
        says = said_there text rules accepted k n.0 n.1 ∙ given.1.there;
        gives = given.1.value;
      }

  -- the number that is told, where a line gives the value
  number_told : (k : ℕ) (e : line_over leans rules backs q ≡ Some k) →
      number_at numbers (line_over leans rules backs q)
      ≡ Some (deciding_line_is_numbered k e).number
  number_told k e = ap (option_and_then (slice_get numbers)) e
      ∙ (deciding_line_is_numbered k e).numbered

  abbrev Told : Option ℕ → Option ℕ → Type 0
  Told back number = Decides leans text rules backs q value (decider_by back number)

  -- no table is asked, or none holds the position
  pub by_line : (l : Option ℕ) → line_over leans rules backs q ≡ l → value ≡ own →
      asked_back leans rules backs q ≡ None →
      Told None (number_at numbers (line_over leans rules backs q))
  by_line (Some k) e same silent =
      let n = deciding_line_is_numbered k e in
      subst (Told None) (sym (number_told k e))
      (line k n.number n.fits e n.there n.says (same ∙ n.gives) silent)
  by_line None e same silent =
      subst (Told None) (sym (ap (option_and_then (slice_get numbers)) e))
      (none e silent (same ∙ no_line_gives leans rules backs q e))

module _ (text : List ℕ) (rules : RuleLines) (accepted : rules_of text ≡ Ok rules)
    (backs : List Back) (q : Board) where
  abbrev counts : Counts
  counts = counts_of backs

  abbrev TableTold : Option ℕ → Type 0
  TableTold back =
      Decides true text rules backs q (atlas_value rules backs q)
      (decider_by back (number_at (exit_numbers_of text) (line_over true rules backs q)))

  -- the lines before the tables say nothing
  by_back : (b : Option ℕ) → back_at backs q ≡ b → is_unknown (value_by rules q) ≡ true →
      TableTold b
  by_back (Some k) e silent =
      let unknown = unknown_is (value_by rules q) silent in
      let h = holds_first counts (value_behind rules q) backs q 0 k e in
      let at : k ≡ h.place = let is = h.at in omega arith in
      behind k h.back unknown e (ap (slice_get backs) at ∙ h.there)
      (ap (λ v. or_else v (first_value counts (value_behind rules q) backs q)) unknown ∙ h.gives)
  by_back None e silent =
      by_line text rules accepted true backs q (line_over true rules backs q) refl
      (own_or_told rules backs q
      ∙ ap (or_else (own_value rules backs q)) (held_in_none counts Unknown backs q 0 e)
      ∙ or_unknown (own_value rules backs q))
      (ap (λ (b : Bool). cond b (back_at backs q) None) silent ∙ e)

  by_value : (u : Bool) → is_unknown (value_by rules q) ≡ u → TableTold (cond u (back_at backs q) None)
  by_value true e = by_back (back_at backs q) refl e
  by_value false e =
      let first = first_value counts (value_behind rules q) backs q in
      let rest : Value = if is_behind backs q then Unknown else value_behind rules q in
      by_line text rules accepted true backs q (line_over true rules backs q) refl
      (first_counts (value_by rules q) first e ∙ sym (first_counts (value_by rules q) rest e))
      (ap (λ (b : Bool). cond b (back_at backs q) None) e)

pub decider_decides : (text : List ℕ) (rules : RuleLines) → rules_of text ≡ Ok rules →
    (leans : Bool) (backs : List Back) (q : Board) →
    Decides leans text rules backs q (value_over leans rules backs q)
    (decider_of leans (exit_numbers_of text) rules backs q)
unfolding decider_of
decider_decides text rules accepted true backs q =
    by_value text rules accepted backs q (is_unknown (value_by rules q)) refl
decider_decides text rules accepted false backs q =
    by_line text rules accepted false backs q (line_over false rules backs q) refl refl refl
