-- The table that goes on: where it stands, and that no exit line and no table before it has the
-- position.
use Rattle.std.proofs.Common.{◌≡◌, ◌<◌, ◌+◌, ℕ, suc, true, false, List, [], ◌∷◌, Bool, Option, Some, length, inl, inr, refl, sym, subst, ap, arith}
use Rattle.std.specs.Prelude.{slice_get, if◌then◌else◌}
use Rattle.std.proofs.lemmas.Bool.{cases_Bool}
use Rattle.std.proofs.lemmas.Option.{slice_get_within}
use Rattle.frz_board.specs.Boards.{Board}
use Rattle.frz_sets.specs.declared.exit.Value.{Value}
use Rattle.frz_sets.specs.declared.exit.Value.TheVariants.{WhiteWins, BlackWins, Draw, WhiteHolds, BlackHolds, Unknown, WhiteWinsIn, BlackWinsIn}
use Rattle.frz_arena.specs.WayEnds.{Wrong, NoBound, Mated, Stalemated, Exit, Cut, Stopped}
use Rattle.frz_exits.specs.Books.{value_by}
use Rattle.frz_index.specs.Members.{Member}
use Rattle.frz_index.specs.Membership.{is_member}
use Rattle.frz_index.proofs.Lemmas.{member_of}
use Rattle.frz_backs.specs.Links.{Link}
use Rattle.frz_ways.specs.ChessGames.{after_plies}
use Rattle.frz_ways.specs.Ways.{WayPly, EndOfWay}
use Rattle.frz_journeys.specs.Journeys.{onward}
use Rattle.frz_journeys.specs.Tables.{first_from, leant_on, next_of, where_unknown}

-- the table is at its place among these, and its set holds the position
pub record IsAmong (place : ℕ) (tables : List Link) (q : Board) (next : ℕ × Link) : Type 0 where
  pub index : ℕ
  pub at : next.0 ≡ place + index
  pub there : slice_get tables index ≡ Some next.1
  pub holds : Member next.1.rules.groups q

pub first_among : (place : ℕ) (tables : List Link) (q : Board) (next : ℕ × Link)
    → first_from place tables q ≡ Some next → IsAmong place tables q next
unfolding first_from
first_among place [] q next e = absurd (cc)
first_among place (table ∷ tables) q next e =
    elim (cases_Bool (is_member table.rules.groups q)) [
      | inl t ↦ (
          let here : (if true then Some (place, table) else first_from (suc place) tables q)
          ≡ Some next = subst (λ (b : Bool). (if b then Some (place, table)
          else first_from (suc place) tables q) ≡ Some next) t e in
          let same : next ≡ (place, table) = cc in
          record {
            index = 0;
            at = (let k : next.0 ≡ place = ap (λ (n : ℕ × Link). n.0) same in omega (arith, k));
            there = ap (λ (n : ℕ × Link). Some n.1) (sym same);
            holds = subst (λ (n : ℕ × Link). Member n.1.rules.groups q) (sym same)
                (member_of table.rules.groups q t);
          })
      | inr f ↦ (
          let rest : (if false then Some (place, table) else first_from (suc place) tables q)
          ≡ Some next = subst (λ (b : Bool). (if b then Some (place, table)
          else first_from (suc place) tables q) ≡ Some next) f e in
          let r = first_among (suc place) tables q next rest in
          record {
            index = suc r.index;
            at = (let k = r.at in omega (arith, k));
            there = r.there;
            holds = r.holds;
          })
    ]

-- the exit lines say nothing, and the table is the first that holds the position
pub behind_lines : {A : Type 0} (v : Value) (found : Option A) (next : A)
    → where_unknown v found ≡ Some next → (v ≡ Unknown) × (found ≡ Some next)
behind_lines WhiteWins found next e = absurd (cc)
behind_lines BlackWins found next e = absurd (cc)
behind_lines Draw found next e = absurd (cc)
behind_lines WhiteHolds found next e = absurd (cc)
behind_lines BlackHolds found next e = absurd (cc)
behind_lines Unknown found next e = (refl, e)
behind_lines (WhiteWinsIn n) found next e = absurd (cc)
behind_lines (BlackWinsIn n) found next e = absurd (cc)

-- only a table that leans has others to go on
pub only_leaning_goes_on : (leans : Bool) (before : List Link) (q : Board) (next : ℕ × Link)
    → first_from 0 (leant_on leans before) q ≡ Some next
    → (leans ≡ true) × (first_from 0 before q ≡ Some next)
unfolding first_from
only_leaning_goes_on true before q next e = (refl, e)
only_leaning_goes_on false before q next e = absurd (cc)

-- what the table is that goes on from a position
pub record GoesOnAt (before : List Link) (table : Link) (q : Board) (next : ℕ × Link) : Type 0 where
  pub silent : value_by table.rules q ≡ Unknown
  pub leans : table.leans ≡ true
  pub first : first_from 0 before q ≡ Some next
  pub within : next.0 < length before
  pub there : slice_get before next.0 ≡ Some next.1
  pub holds : Member next.1.rules.groups q

pub goes_on_at : (before : List Link) (table : Link) (q : Board) (next : ℕ × Link)
    → next_of before table q ≡ Some next → GoesOnAt before table q next
goes_on_at before table q next e =
    let b = behind_lines (value_by table.rules q) (first_from 0 (leant_on table.leans before) q) next
    e in
    let l = only_leaning_goes_on table.leans before q next b.1 in
    let a = first_among 0 before q next l.1 in
    let same : next.0 ≡ a.index = (let k = a.at in omega (arith, k)) in
    let there : slice_get before next.0 ≡ Some next.1 =
    subst (λ i. slice_get before i ≡ Some next.1) (sym same) a.there in
    record {
      silent = b.0;
      leans = l.0;
      first = l.1;
      within = slice_get_within before next.0 next.1 there;
      there = there;
      holds = a.holds;
    }

-- behind the plies of a stage that another follows
pub record IsOnward (before : List Link) (table : Link) (start : Board) (plies : List WayPly)
    (end : EndOfWay) (next : ℕ × Link) : Type 0 where
  pub value : Value
  pub out : end ≡ Exit value
  pub at : GoesOnAt before table (after_plies start plies) next

pub is_onward : (before : List Link) (table : Link) (start : Board) (plies : List WayPly)
    (end : EndOfWay) (next : ℕ × Link) → onward before table start plies end ≡ Some next
    → IsOnward before table start plies end next
is_onward before table start plies (Exit v) next e = record {
  value = v;
  out = refl;
  at = goes_on_at before table (after_plies start plies) next e;
}
is_onward before table start plies (Wrong at kept given) next e = absurd (cc)
is_onward before table start plies NoBound next e = absurd (cc)
is_onward before table start plies (Mated mover) next e = absurd (cc)
is_onward before table start plies (Stalemated mover) next e = absurd (cc)
is_onward before table start plies Cut next e = absurd (cc)
is_onward before table start plies (Stopped halt) next e = absurd (cc)
