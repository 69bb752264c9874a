-- What the tables behind tell of a position, by the first whose set holds it.
use Rattle.std.proofs.Common.{◌≡◌, ◌+◌, ◌*◌, ℕ, suc, true, false, List, [], ◌∷◌, Bool, Option, None, Some, inl, inr, refl, sym, subst, ap, ◌∙◌, arith}
use Rattle.std.specs.Prelude.{if◌then◌else◌, slice_index}
use Rattle.std.proofs.lemmas.Bool.{cases_Bool}
use Rattle.std.proofs.lemmas.Bool.Decides.{nat_tests}
use Rattle.std.proofs.lemmas.List.Elements.{All-head, All-tail}
use Rattle.frz_board.specs.Boards.{Board}
use Rattle.frz_board.specs.declared.man.Colour.{Colour}
use Rattle.frz_board.specs.declared.man.Colour.TheVariants.{White, Black}
use Rattle.frz_sets.specs.declared.exit.Value.{Value}
use Rattle.frz_sets.specs.declared.exit.Value.TheVariants.{WhiteWins, BlackWins, Draw, WhiteHolds, BlackHolds, Unknown, WhiteWinsIn, BlackWinsIn}
use Rattle.frz_arena.specs.declared.class.Class.TheVariants.{Good, Safe}
use Rattle.frz_arena.specs.Codes.{is_win}
use Rattle.frz_arena.proofs.Lemmas.{code_is, none, hold, win, failure}
use Rattle.frz_exits.specs.Books.{value_by}
use Rattle.frz_exits.specs.Values.{class_of}
use Rattle.frz_index.specs.Members.{Num}
use Rattle.frz_index.specs.Membership.{is_member, number_of}
use Rattle.frz_index.proofs.Lemmas.{number_missing, number_there}
use Rattle.frz_chain.specs.Books.{Back as Codes, back_with, or_else, told_at}
use Rattle.frz_chain.specs.PairValues.{pair_value}
use Rattle.frz_chain.specs.ChainPlies.{back_codes}
use Rattle.frz_chain.proofs.Lemmas.{holds_of_pair_value, win_told}
use Rattle.frz_backs.specs.Links.{Link, backs_of, value_over}
use Rattle.frz_backs.specs.declared.counts.Counts.{Counts}
use Rattle.frz_backs.specs.Behind.{value_behind}
use Rattle.frz_backs.specs.Counts.{counts_of}
use Rattle.frz_backs.specs.Values.{first_value, told_in, told_or}
use Rattle.frz_backs.proofs.Lemmas.{front_tells, none_tell, told_class}
use Rattle.frz_journeys.specs.KeptBounds.{HaveOwnSets, LinesGive}
use Rattle.frz_journeys.specs.Tables.{codes_of, first_from, leant_on, next_of, where_unknown}
use Rattle.frz_journeys.proofs.NextTables.{GoesOnAt}

-- the table in front tells of the position, or the rest do
front_has : (counts : Counts) (rest : Value) (table : Link) (tables : List Link) (q : Board)
    → table.back.groups ≡ table.rules.groups → is_member table.rules.groups q ≡ true
    → first_value counts rest (backs_of (table ∷ tables)) q
    ≡ told_in counts table.back (Num table.rules.groups q)
front_has counts rest table tables q own inside =
    front_tells counts rest table.back (backs_of tables) q
    ∙ ap (told_or counts table.back (first_value counts rest (backs_of tables) q))
    (ap (λ gs. number_of gs q) own ∙ number_there table.rules.groups q inside)

front_lacks : (counts : Counts) (rest : Value) (table : Link) (tables : List Link) (q : Board)
    → table.back.groups ≡ table.rules.groups → is_member table.rules.groups q ≡ false
    → first_value counts rest (backs_of (table ∷ tables)) q
    ≡ first_value counts rest (backs_of tables) q
front_lacks counts rest table tables q own outside =
    front_tells counts rest table.back (backs_of tables) q
    ∙ ap (told_or counts table.back (first_value counts rest (backs_of tables) q))
    (ap (λ gs. number_of gs q) own ∙ number_missing table.rules.groups q outside)

abbrev chosen : Bool → ℕ → Link → List Link → Board → Option (ℕ × Link)
chosen b place table tables q = if b then Some (place, table) else first_from (suc place) tables q

first_by : (place : ℕ) (table : Link) (tables : List Link) (q : Board)
    → first_from place (table ∷ tables) q
    ≡ chosen (is_member table.rules.groups q) place table tables q
unfolding first_from
first_by place table tables q = refl

own_sets : (table : Link) (tables : List Link) → HaveOwnSets (table ∷ tables)
    → (table.back.groups ≡ table.rules.groups) × HaveOwnSets tables
own_sets table tables own = (
  All-head (λ (t : Link). t.back.groups ≡ t.rules.groups) table tables own,
  All-tail (λ (t : Link). t.back.groups ≡ t.rules.groups) table tables own,
)

-- the first table whose set holds the position tells its value
pub first_tells : (counts : Counts) (rest : Value) (place : ℕ) (tables : List Link) (q : Board)
    (next : ℕ × Link) → HaveOwnSets tables → first_from place tables q ≡ Some next
    → first_value counts rest (backs_of tables) q
    ≡ told_in counts next.1.back (Num next.1.rules.groups q)
unfolding first_from
first_tells counts rest place [] q next own e = absurd (cc)
first_tells counts rest place (table ∷ tables) q next own e =
    let each = own_sets table tables own in
    elim (cases_Bool (is_member table.rules.groups q)) [
      | inl t ↦ (
          let here : chosen true place table tables q ≡ Some next =
          subst (λ (b : Bool). chosen b place table tables q ≡ Some next) t e in
          let same : table ≡ next.1 = (let pair : (place, table) ≡ next = cc in
          ap (λ (n : ℕ × Link). n.1) pair) in
          front_has counts rest table tables q each.0 t
          ∙ ap (λ (l : Link). told_in counts l.back (Num l.rules.groups q)) same)
      | inr f ↦ (
          let later : chosen false place table tables q ≡ Some next =
          subst (λ (b : Bool). chosen b place table tables q ≡ Some next) f e in
          front_lacks counts rest table tables q each.0 f
          ∙ first_tells counts rest (suc place) tables q next each.1 later)
    ]

-- where no set holds it, the rest's value is left
pub first_silent : (counts : Counts) (rest : Value) (place : ℕ) (tables : List Link) (q : Board)
    → HaveOwnSets tables → first_from place tables q ≡ None
    → first_value counts rest (backs_of tables) q ≡ rest
unfolding first_from
first_silent counts rest place [] q own e = none_tell counts rest q
first_silent counts rest place (table ∷ tables) q own e =
    let each = own_sets table tables own in
    elim (cases_Bool (is_member table.rules.groups q)) [
      | inl t ↦ absurd (
          let here : chosen true place table tables q ≡ None =
          subst (λ (b : Bool). chosen b place table tables q ≡ None) t e in cc)
      | inr f ↦ (
          let later : chosen false place table tables q ≡ None =
          subst (λ (b : Bool). chosen b place table tables q ≡ None) f e in
          front_lacks counts rest table tables q each.0 f
          ∙ first_silent counts rest (suc place) tables q each.1 later)
    ]

-- the value of an exit behind which no table goes on is that of an exit line
lines_or : (table : Link) (leans : table.leans ≡ true) (before : List Link) (q : Board) (v value : Value)
    → value_by table.rules q ≡ value → HaveOwnSets before
    → v ≡ or_else value
    (first_value (counts_of (backs_of before)) (value_behind table.rules q) (backs_of before) q)
    → where_unknown value (first_from 0 before q) ≡ None → LinesGive table q v
lines_or table leans before q v WhiteWins e own is gone = inl (e ∙ sym is)
lines_or table leans before q v BlackWins e own is gone = inl (e ∙ sym is)
lines_or table leans before q v Draw e own is gone = inl (e ∙ sym is)
lines_or table leans before q v WhiteHolds e own is gone = inl (e ∙ sym is)
lines_or table leans before q v BlackHolds e own is gone = inl (e ∙ sym is)
lines_or table leans before q v Unknown e own is gone =
    inr (
      leans,
      e,
      sym (is ∙ first_silent (counts_of (backs_of before))
          (value_behind table.rules q) 0 before q own gone),
    )
lines_or table leans before q v (WhiteWinsIn n) e own is gone = inl (e ∙ sym is)
lines_or table leans before q v (BlackWinsIn n) e own is gone = inl (e ∙ sym is)

by_leaning : (before : List Link) (table : Link) (q : Board) (v : Value) (leans : Bool)
    → table.leans ≡ leans → HaveOwnSets before
    → v ≡ value_over leans table.rules (backs_of before) q
    → where_unknown (value_by table.rules q) (first_from 0 (leant_on leans before) q) ≡ None
    → LinesGive table q v
by_leaning before table q v true e own is gone =
    lines_or table e before q v (value_by table.rules q) refl own is gone
by_leaning before table q v false e own is gone = inl (sym is)

pub by_lines : (before : List Link) (table : Link) (q : Board) (v : Value) → HaveOwnSets before
    → v ≡ value_over table.leans table.rules (backs_of before) q → next_of before table q ≡ None
    → LinesGive table q v
by_lines before table q v own is gone =
    by_leaning before table q v table.leans refl own is gone

-- the value of an exit from which a table goes on is what this one tells
pub by_table : (before : List Link) (table : Link) (q : Board) (v : Value) (next : ℕ × Link)
    → HaveOwnSets before → v ≡ value_over table.leans table.rules (backs_of before) q
    → GoesOnAt before table q next
    → v ≡ told_in (counts_of (backs_of before)) next.1.back (Num next.1.rules.groups q)
by_table before table q v next own is on =
    let counts = counts_of (backs_of before) in
    let rest = value_behind table.rules q in
    is ∙ ap (λ (b : Bool). value_over b table.rules (backs_of before) q) on.leans
    ∙ ap (λ (w : Value). or_else w (first_value counts rest (backs_of before) q)) on.silent
    ∙ first_tells counts rest 0 before q next own on.first

-- where a table tells that a side wins, its code is a win, and where it tells that the side holds
-- and no more, it is a hold
win_is : (c : ℕ) → is_win c ≡ true → (n : ℕ) × (c ≡ 2 + 2 * n)
win_is c w = elim (code_is c) [
  | none e ↦ absurd (let no : is_win 0 ≡ true = subst (λ k. is_win k ≡ true) e w in cc)
  | hold e ↦ absurd (let no : is_win 1 ≡ true = subst (λ k. is_win k ≡ true) e w in cc)
  | win n e ↦ (n, e)
  | failure n e ↦ absurd (grind (arith, nat_tests))
]

-- the same codes as a table of a chain
abbrev chained : Link → Codes
chained table = back_with table.back.groups table.back.white table.back.black

chained_codes : (side : Colour) (table : Link) → back_codes (chained table) side ≡ codes_of side table
chained_codes White table = refl
chained_codes Black table = refl

class_told : (counts : Counts) (side : Colour) (table : Link) (i : ℕ) →
    class_of (told_in counts table.back i) side ≡ class_of (told_at (chained table) (Some i)) side
class_told counts side table i =
    let white = slice_index table.back.white i in
    let black = slice_index table.back.black i in
    told_class counts white black (pair_value white black) side

pub good_wins : (counts : Counts) (side : Colour) (table : Link) (i : ℕ)
    → class_of (told_in counts table.back i) side ≡ Good
    → (n : ℕ) × (slice_index (codes_of side table) i ≡ 2 + 2 * n)
good_wins counts side table i good =
    win_is (slice_index (codes_of side table) i)
    (subst (λ (cs : List ℕ). is_win (slice_index cs i) ≡ true) (chained_codes side table)
    (win_told (chained table) side i (sym (class_told counts side table i) ∙ good)))

holds_alone : (side : Colour) (table : Link) (i : ℕ)
    → class_of (told_at (chained table) (Some i)) side ≡ Safe
    → slice_index (codes_of side table) i ≡ 1
holds_alone White table i =
    let white = slice_index table.back.white i in
    holds_of_pair_value (λ (v : Value). class_of v White ≡ Safe → white ≡ 1) white
    (slice_index table.back.black i) (λ w safe. absurd (cc)) (λ w safe. absurd (cc))
    (λ w b safe. w) (λ w safe. w) (λ b safe. absurd (cc)) (λ safe. absurd (cc))
holds_alone Black table i =
    let black = slice_index table.back.black i in
    holds_of_pair_value (λ (v : Value). class_of v Black ≡ Safe → black ≡ 1)
    (slice_index table.back.white i) black (λ w safe. absurd (cc)) (λ w safe. absurd (cc))
    (λ w b safe. b) (λ w safe. absurd (cc)) (λ b safe. b) (λ safe. absurd (cc))

pub safe_holds : (counts : Counts) (side : Colour) (table : Link) (i : ℕ)
    → class_of (told_in counts table.back i) side ≡ Safe
    → slice_index (codes_of side table) i ≡ 1
safe_holds counts side table i safe =
    holds_alone side table i (sym (class_told counts side table i) ∙ safe)
