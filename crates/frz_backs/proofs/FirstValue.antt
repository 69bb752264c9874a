-- What the first table whose set holds the position tells of it.
use Rattle.std.proofs.Common.{◌≡◌, ◌<◌, ◌≤◌, ◌+◌, ℕ, inl, inr, List, [], ◌∷◌, All, Option, Some, None, length, get_or, drop, map, refl, ap, sym, subst, ◌∙◌}
use Rattle.std.specs.Prelude.{if◌then◌else◌}
use Rattle.std.proofs.lemmas.Bool.{cases_Bool}
use Rattle.std.proofs.lemmas.List.{at_drop_more, at_drop_all}
use Rattle.std.proofs.lemmas.List.Elements.{All-head, All-tail}
use Rattle.frz_board.specs.Boards.{Board}
use Rattle.frz_sets.specs.declared.exit.Value.{Value}
use Rattle.frz_sets.specs.declared.exit.Value.TheVariants.{WhiteWins, BlackWins, Draw, WhiteHolds, BlackHolds, Unknown, WhiteWinsIn, BlackWinsIn}
use Rattle.frz_sets.specs.Views.{RuleLines}
use Rattle.frz_exits.specs.Books.{value_by}
use Rattle.frz_index.specs.Membership.{is_member, number_of}
use Rattle.frz_index.proofs.Lemmas.{number_missing, number_there}
use Rattle.frz_chain.specs.Books.{or_else}
use Rattle.frz_chain.specs.declared.back.BackTable.{BackTable}
use Rattle.frz_chain.proofs.Lemmas.{holds_of_either_value}
use Rattle.frz_backs.specs.declared.counts.Counts.{Counts}
use Rattle.frz_backs.specs.Behind.{value_behind}
use Rattle.frz_backs.specs.Books.{Back}
use Rattle.frz_backs.specs.Codes.{codes_at, codes_of}
use Rattle.frz_backs.specs.Counts.{counts_of}
use Rattle.frz_backs.specs.FileOn.{loaded_back}
use Rattle.frz_backs.specs.Values.{atlas_value, back_value, first_value, is_behind, own_value, pair_told, told_or}
use Rattle.frz_backs.proofs.Told.{or_unknown}

-- what holds of all that one table tells and of what the rest tell
told_or_of : (P : Value → Type 0) (counts : Counts) (back : Back) (rest : Value) (o : Option ℕ) →
    P (told_or counts back Unknown o) → P rest → P (told_or counts back rest o)
told_or_of P counts back rest None told r = r
told_or_of P counts back rest (Some i) told r = told

-- what holds of the rest's value and of what each table tells holds of what the first tells
pub first_of : (P : Value → Type 0) (counts : Counts) (rest : Value) (backs : List Back)
    (q : Board) → P rest → All (λ back. P (back_value counts back q)) backs →
    P (first_value counts rest backs q)
unfolding first_value
first_of P counts rest [] q r told = r
first_of P counts rest (back ∷ backs) q r told =
    told_or_of P counts back (first_value counts rest backs q) (number_of back.groups q)
    (All-head (λ (b : Back). P (back_value counts b q)) back backs told)
    (first_of P counts rest backs q r
    (All-tail (λ (b : Back). P (back_value counts b q)) back backs told))

-- where there is no table, nothing is told
pub none_tell : (counts : Counts) (rest : Value) (q : Board) → first_value counts rest [] q ≡ rest
unfolding first_value
none_tell counts rest q = refl

-- the table in front has the position, or the rest tell its value
pub front_tells : (counts : Counts) (rest : Value) (back : Back) (backs : List Back) (q : Board) →
    first_value counts rest (back ∷ backs) q
    ≡ told_or counts back (first_value counts rest backs q) (number_of back.groups q)
unfolding first_value
front_tells counts rest back backs q = refl

-- what the tables tell, and the rest's value where none has the position
pub asked_behind : (counts : Counts) (rest : Value) (backs : List Back) (q : Board) →
    first_value counts rest backs q
    ≡ or_else (if is_behind backs q then Unknown else rest) (first_value counts Unknown backs q)
unfolding first_value is_behind
asked_behind counts rest [] q = sym (or_unknown rest)
asked_behind counts rest (back ∷ backs) q =
    elim (cases_Bool (is_member back.groups q)) [
      | inl t ↦ rw t (rw (number_there back.groups q t) refl)
      | inr f ↦ rw f (rw (number_missing back.groups q f) (asked_behind counts rest backs q))
    ]

or_else_twice : (v a b c : Value) → b ≡ or_else a c → or_else v b ≡ or_else (or_else v a) c
or_else_twice WhiteWins a b c e = refl
or_else_twice BlackWins a b c e = refl
or_else_twice Draw a b c e = refl
or_else_twice WhiteHolds a b c e = refl
or_else_twice BlackHolds a b c e = refl
or_else_twice Unknown a b c e = e
or_else_twice (WhiteWinsIn n) a b c e = refl
or_else_twice (BlackWinsIn n) a b c e = refl

-- the value is that of the text's own lines and, where they say nothing, what the tables tell
pub own_or_told : (rules : RuleLines) (backs : List Back) (q : Board) →
    atlas_value rules backs q
    ≡ or_else (own_value rules backs q) (first_value (counts_of backs) Unknown backs q)
own_or_told rules backs q =
    or_else_twice (value_by rules q) (if is_behind backs q then Unknown else value_behind rules q)
    (first_value (counts_of backs) (value_behind rules q) backs q)
    (first_value (counts_of backs) Unknown backs q)
    (asked_behind (counts_of backs) (value_behind rules q) backs q)

-- so what holds of both holds of the value
pub holds_of_atlas_value : (P : Value → Type 0) (rules : RuleLines) (backs : List Back)
    (q : Board) → P (own_value rules backs q) →
    P (first_value (counts_of backs) Unknown backs q) → P (atlas_value rules backs q)
holds_of_atlas_value P rules backs q own told =
    subst P (sym (own_or_told rules backs q))
    (holds_of_either_value P (own_value rules backs q)
    (first_value (counts_of backs) Unknown backs q) own told)

pub lines_alone : (rules : RuleLines) (q : Board) →
    atlas_value rules [] q ≡ or_else (value_by rules q) (value_behind rules q)
lines_alone rules q =
    ap (or_else (value_by rules q)) (none_tell (counts_of []) (value_behind rules q) q)

-- from a place on in the list of the tables that were loaded
abbrev pub told_from : Counts → Value → ℕ → List BackTable → Board → Value
told_from counts rest i backs q = first_value counts rest (map loaded_back (drop i backs)) q

-- the value by the two codes of the table, and the rest's value where it has none
abbrev pair_or : Counts → Value → Option (ℕ × ℕ) → Value
pair_or counts rest None = rest
pair_or counts rest (Some (white, black)) = pair_told counts white black

told_by_codes : (counts : Counts) (back : Back) (rest : Value) (o : Option ℕ) →
    told_or counts back rest o ≡ pair_or counts rest (codes_at back o)
told_by_codes counts back rest None = refl
told_by_codes counts back rest (Some i) = refl

module _ (counts : Counts) (rest : Value) (backs : List BackTable) (i : ℕ) (q : Board) where
  table_there : (back : BackTable) → i < length backs → back ≡ get_or backs i back →
      told_from counts rest i backs q
      ≡ told_or counts (loaded_back back) (told_from counts rest (i + 1) backs q)
      (number_of back.table.rules.groups q)
  table_there back l e =
      at_drop_more (λ bs. first_value counts rest (map loaded_back bs) q) backs i back l
      ∙ (ap (λ b. first_value counts rest (map loaded_back (b ∷ drop (i + 1) backs)) q) (sym e)
      ∙ front_tells counts rest (loaded_back back) (map loaded_back (drop (i + 1) backs)) q)

  codes_there : (back : BackTable) → i < length backs → back ≡ get_or backs i back →
      (codes : Option (ℕ × ℕ)) → codes ≡ codes_of (loaded_back back) q →
      told_from counts rest i backs q
      ≡ pair_or counts (told_from counts rest (i + 1) backs q) codes
  codes_there back l e codes known =
      table_there back l e
      ∙ (told_by_codes counts (loaded_back back) (told_from counts rest (i + 1) backs q)
      (number_of back.table.rules.groups q)
      ∙ ap (pair_or counts (told_from counts rest (i + 1) backs q)) (sym known))

  -- a table whose set holds the position tells its value
  pub table_has : (back : BackTable) → i < length backs → back ≡ get_or backs i back →
      (white black : ℕ) → Some (white, black) ≡ codes_of (loaded_back back) q →
      told_from counts rest i backs q ≡ pair_told counts white black
  table_has back l e white black has = codes_there back l e (Some (white, black)) has

  -- a table whose set does not hold the position is passed over
  pub table_lacks : (back : BackTable) → i < length backs → back ≡ get_or backs i back →
      None ≡ codes_of (loaded_back back) q →
      told_from counts rest i backs q ≡ told_from counts rest (i + 1) backs q
  table_lacks back l e lacks = codes_there back l e None lacks

  -- past the last table the rest's value is left
  pub none_left : length backs ≤ i → told_from counts rest i backs q ≡ rest
  none_left l =
      at_drop_all (λ bs. first_value counts rest (map loaded_back bs) q) backs i l
      ∙ none_tell counts rest q
