-- The line that gives a value of the text's own lines.
use Rattle.std.proofs.Common.{◌≡◌, ◌+◌, zero, suc, ℕ, inl, inr, Bool, true, false, not, ◌&&◌, ◌||◌, List, [], ◌∷◌, drop, Option, Some, None, refl, sym, ap, subst, ◌∙◌, arith}
use Rattle.std.specs.Prelude.{◌<◌, is_some, length, map, slice_get, if◌then◌else◌}
use Rattle.std.specs.List.{list_any, position_from}
use Rattle.std.proofs.lemmas.Option.{slice_get_within}
use Rattle.std.proofs.lemmas.Bool.{and_parts, cases_Bool, not-true}
use Rattle.frz_board.specs.Boards.{Board}
use Rattle.frz_sets.specs.declared.exit.Value.{Value}
use Rattle.frz_sets.specs.declared.exit.Value.TheVariants.{WhiteWins, BlackWins, Draw, WhiteHolds, BlackHolds, Unknown, WhiteWinsIn, BlackWinsIn}
use Rattle.frz_sets.specs.Views.{ExitLine, GroupLine, RuleLines}
use Rattle.frz_index.specs.Membership.{is_member, number_of}
use Rattle.frz_index.proofs.Lemmas.{number_missing, number_there}
use Rattle.frz_chain.specs.declared.back.BackTable.{BackTable}
use Rattle.frz_backs.specs.FileOn.{loaded_back}
use Rattle.frz_exits.specs.Books.{first_value, value_by}
use Rattle.frz_exits.specs.Fitting.{line_at}
use Rattle.frz_exits.specs.Values.{is_unknown}
use Rattle.frz_exits.proofs.Lemmas.{first_fits, none_fits}
use Rattle.frz_chain.specs.Books.{or_else}
use Rattle.frz_backs.specs.Behind.{ends_lines, lines_behind, lines_past, value_behind}
use Rattle.frz_backs.specs.Books.{Back}
use Rattle.frz_backs.specs.Lines.{first_place, is_asked_behind, line_behind, line_over, place_from, place_past}
use Rattle.frz_backs.specs.Links.{own_over}
use Rattle.frz_backs.specs.Values.{is_behind, own_value}

pub some_number : (groups : List GroupLine) (q : Board) →
    is_some (number_of groups q) ≡ is_member groups q
some_number groups q =
    elim (cases_Bool (is_member groups q)) [
      | inl t ↦ rw t (rw (number_there groups q t) refl)
      | inr f ↦ rw f (rw (number_missing groups q f) refl)
    ]

pub behind_loaded : (backs : List BackTable) (q : Board) →
    list_any (λ back. is_member back.table.rules.groups q) backs
    ≡ is_behind (map loaded_back backs) q
unfolding is_behind
behind_loaded [] q = refl
behind_loaded (back ∷ backs) q =
    ap (λ (rest : Bool). is_member back.table.rules.groups q || rest) (behind_loaded backs q)

-- a line that fits stands in the list
pub place_below : (lines : List ExitLine) (q : Board) (k : ℕ) → Some k ≡ line_at lines q →
    k < length lines
place_below lines q k e =
    let first = first_fits lines q k (sym e) in
    slice_get_within lines k first.0 first.1.there

-- the line stands at the place, and gives the value
pub record GivesValue (lines : List ExitLine) (v : Value) (i : ℕ) (line : ExitLine) : Type 0 where
  pub there : slice_get lines i ≡ Some line
  pub value : v ≡ line.value

pub get_dropped : {X : Type 0} (xs : List X) (n j : ℕ) → slice_get (drop n xs) j ≡ slice_get xs (n + j)
get_dropped [] zero j = refl
get_dropped [] (suc n) j = refl
get_dropped (x ∷ xs) zero j =
    let e : j ≡ 0 + j = omega arith in ap (λ (k : ℕ). slice_get (x ∷ xs) k) e
get_dropped (x ∷ xs) (suc n) j =
    let e : suc (n + j) ≡ suc n + j = omega arith in
    get_dropped xs n j ∙ ap (λ (k : ℕ). slice_get (x ∷ xs) k) e

fits_at : (lines : List ExitLine) (q : Board) (k : ℕ) → line_at lines q ≡ Some k →
    (line : ExitLine) × GivesValue lines (first_value lines q) k line
fits_at lines q k e =
    let first = first_fits lines q k e in
    (first.0, record { there = first.1.there; value = first.1.value })

module _ (lines : List ExitLine) (q : Board) where
  from_place : (end : ℕ) (o : Option ℕ) → line_at (drop (end + 1) lines) q ≡ o → (k : ℕ) →
      place_from (end + 1) o ≡ Some k →
      (line : ExitLine) × GivesValue lines (first_value (drop (end + 1) lines) q) k line
  from_place end None e k h = absurd (cc)
  from_place end (Some j) e k h =
      let first = first_fits (drop (end + 1) lines) q j e in
      let place : end + 1 + j ≡ k = cc in (
        first.0,
        record {
          there = subst (λ (n : ℕ). slice_get lines n ≡ Some first.0) place
              (sym (get_dropped lines (end + 1) j) ∙ first.1.there);
          value = first.1.value;
        },
      )

  no_place : (end : ℕ) (o : Option ℕ) → line_at (drop (end + 1) lines) q ≡ o →
      place_from (end + 1) o ≡ None → first_value (drop (end + 1) lines) q ≡ Unknown
  no_place end None e h = none_fits (drop (end + 1) lines) q e
  no_place end (Some j) e h = absurd (cc)

  past_gives : (end : Option ℕ) (k : ℕ) → place_past end lines q ≡ Some k →
      (line : ExitLine) × GivesValue lines (first_value (lines_past end lines) q) k line
  past_gives None k h = absurd (cc)
  past_gives (Some e) k h = from_place e (line_at (drop (e + 1) lines) q) refl k h

  past_silent : (end : Option ℕ) → place_past end lines q ≡ None →
      first_value (lines_past end lines) q ≡ Unknown
  past_silent None h = refl
  past_silent (Some e) h = no_place e (line_at (drop (e + 1) lines) q) refl h

behind_gives : (rules : RuleLines) (q : Board) (k : ℕ) → line_behind rules q ≡ Some k →
    (line : ExitLine) × GivesValue rules.exits (value_behind rules q) k line
unfolding lines_behind
behind_gives rules q k h =
    past_gives rules.exits q (position_from ends_lines 0 rules.exits) k h

behind_silent : (rules : RuleLines) (q : Board) → line_behind rules q ≡ None →
    value_behind rules q ≡ Unknown
unfolding lines_behind
behind_silent rules q h = past_silent rules.exits q (position_from ends_lines 0 rules.exits) h

is_unknown_value : (v : Value) → is_unknown v ≡ true → v ≡ Unknown
is_unknown_value Unknown e = refl
is_unknown_value WhiteWins e = absurd (cc)
is_unknown_value BlackWins e = absurd (cc)
is_unknown_value Draw e = absurd (cc)
is_unknown_value WhiteHolds e = absurd (cc)
is_unknown_value BlackHolds e = absurd (cc)
is_unknown_value (WhiteWinsIn n) e = absurd (cc)
is_unknown_value (BlackWinsIn n) e = absurd (cc)

unasked : (v behind : Value) (there : Bool) → (is_unknown v && not there) ≡ false →
    or_else v (if there then Unknown else behind) ≡ v
unasked Unknown behind true e = refl
unasked Unknown behind false e = absurd (cc)
unasked WhiteWins behind there e = refl
unasked BlackWins behind there e = refl
unasked Draw behind there e = refl
unasked WhiteHolds behind there e = refl
unasked BlackHolds behind there e = refl
unasked (WhiteWinsIn n) behind there e = refl
unasked (BlackWinsIn n) behind there e = refl

module _ (rules : RuleLines) (backs : List Back) (q : Board) where
  own_asked : is_asked_behind rules backs q ≡ true →
      (value_by rules q ≡ Unknown) × (own_value rules backs q ≡ value_behind rules q)
  own_asked e =
      let parts = and_parts (is_unknown (value_by rules q)) (not (is_behind backs q)) e in
      let unknown = is_unknown_value (value_by rules q) parts.0 in
      let none = not-true (is_behind backs q) parts.1 in
      (unknown, rw (unknown, none) refl)

  by_places : (behind : Option ℕ) → line_behind rules q ≡ behind →
      is_asked_behind rules backs q ≡ true → (k : ℕ) →
      first_place behind (line_at rules.exits q) ≡ Some k →
      (line : ExitLine) × GivesValue rules.exits (own_value rules backs q) k line
  by_places (Some i) e asked k h =
      let same : i ≡ k = cc in
      let given = behind_gives rules q k (e ∙ h) in
      (given.0, record { there = given.1.there; value = (own_asked asked).1 ∙ given.1.value })
  by_places None e asked k h =
      let own = own_asked asked in
      let given = fits_at rules.exits q k h in (
        given.0,
        record {
          there = given.1.there;
          value = own.1 ∙ (behind_silent rules q e ∙ (sym own.0 ∙ given.1.value));
        },
      )

  own_gives : (asked : Bool) → is_asked_behind rules backs q ≡ asked → (k : ℕ) →
      (if asked then first_place (line_behind rules q) (line_at rules.exits q)
      else line_at rules.exits q) ≡ Some k →
      (line : ExitLine) × GivesValue rules.exits (own_value rules backs q) k line
  own_gives true e k h = by_places (line_behind rules q) refl e k h
  own_gives false e k h =
      let given = fits_at rules.exits q k h in (
        given.0,
        record {
          there = given.1.there;
          value =
              unasked (value_by rules q) (value_behind rules q) (is_behind backs q) e
              ∙ given.1.value;
        },
      )

  none_first : (behind : Option ℕ) → line_behind rules q ≡ behind →
      is_asked_behind rules backs q ≡ true →
      first_place behind (line_at rules.exits q) ≡ None → own_value rules backs q ≡ Unknown
  none_first (Some i) e asked h = absurd (cc)
  none_first None e asked h = (own_asked asked).1 ∙ behind_silent rules q e

  own_silent : (asked : Bool) → is_asked_behind rules backs q ≡ asked →
      (if asked then first_place (line_behind rules q) (line_at rules.exits q)
      else line_at rules.exits q) ≡ None → own_value rules backs q ≡ Unknown
  own_silent true e h = none_first (line_behind rules q) refl e h
  own_silent false e h =
      unasked (value_by rules q) (value_behind rules q) (is_behind backs q) e
      ∙ none_fits rules.exits q h

-- the line that gives the value, and none where the lines say nothing
pub line_gives : (leans : Bool) (rules : RuleLines) (backs : List Back) (q : Board) (k : ℕ) →
    line_over leans rules backs q ≡ Some k →
    (line : ExitLine) × GivesValue rules.exits (own_over leans rules backs q) k line
line_gives true rules backs q k h =
    own_gives rules backs q (is_asked_behind rules backs q) refl k h
line_gives false rules backs q k h = fits_at rules.exits q k h

pub no_line_gives : (leans : Bool) (rules : RuleLines) (backs : List Back) (q : Board) →
    line_over leans rules backs q ≡ None → own_over leans rules backs q ≡ Unknown
no_line_gives true rules backs q h =
    own_silent rules backs q (is_asked_behind rules backs q) refl h
no_line_gives false rules backs q h = none_fits rules.exits q h
