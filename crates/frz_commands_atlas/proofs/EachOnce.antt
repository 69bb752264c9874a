-- That each call of `each` has one answer.
use Rattle.std.proofs.Common.{◌≡◌, refl, sym, ap, ◌∙◌, ℕ, List, [], ◌∷◌, ◌++◌, length, Bool, true, false, Option, Result, Ok, Err, arith, codes}
use Rattle.std.specs.Prelude.{MatchBool, MatchResult, map}
use Rattle.frz_board.specs.Boards.{Board}
use Rattle.frz_board.specs.Attacks.{is_in_check}
use Rattle.frz_board.specs.Moving.{Step}
use Rattle.frz_fide.specs.Legal.{after}
use Rattle.frz_fide.specs.Listing.{legal_moves_of}
use Rattle.frz_san.specs.Notation.{san_of}
use Rattle.frz_game.specs.Numbers.{is_member}
use Rattle.frz_store.specs.Files.{Files, bytes_at}
use Rattle.frz_table.specs.declared.fault.TableFault.{TableFault}
use Rattle.frz_table.specs.Opening.{Contents}
use Rattle.frz_atlas.specs.Behind.{TableBytes}
use Rattle.frz_atlas.specs.Loading.{opened_all, opened_own}
use Rattle.frz_atlas.specs.declared.fault.BackFault.TheVariants.{Refused as RefusedBack}
use Rattle.frz_answer.specs.Answers.{Answer, SomeAnswer}
use Rattle.frz_answer.specs.Lawful.{HasOneAnswer}
use Rattle.frz_answer.proofs.Lemmas.{behind_said}
use Rattle.frz_prelude.specs.declared.refused.Refused.{Refused}
use Rattle.frz_prelude.specs.declared.refused.Refused.TheVariants as refusals
use Rattle.frz_prelude.proofs.Lemmas.{refusal_said}
use Rattle.frz_atlas_prelude.proofs.Lemmas.{back_line_not_empty}
use Rattle.frz_commands_atlas.specs.declared.rows.Row.{Row}
use Rattle.frz_commands_atlas.specs.Each.{IsEachAt, IsEachBy, IsEachOver, answer_by, found_over}
use Rattle.frz_commands_atlas.specs.FirstBack.{Found}
use Rattle.frz_commands_atlas.specs.MoveRows.{rows_in}
use Rattle.frz_commands_atlas.specs.Ranked.{IsRanked, rank_for}
use Rattle.frz_commands_atlas.specs.Reporting.{value_behind}
use Rattle.frz_commands_atlas.specs.RowLines.{each_by, freedom_text, reached_text, row_line, rows_text}
use Rattle.frz_commands_atlas.proofs.MovesBehind.{many_rows}
use Rattle.frz_commands_atlas.proofs.OneOrder.{one_order, some_order}

abbrev Given : Type 0
Given = Result (List Row) Refused

abbrev Opened : Type 0
Opened = Result (List TableBytes) (ℕ × TableFault)

-- the rows of an open table over these, by whether the position is in its set
module _ (contents : Contents) (bytes : List ℕ) (tables : List TableBytes) (p : Board) where
  abbrev rows_there : List Row
  rows_there = rows_in contents bytes (value_behind contents bytes tables) p

  abbrev pub ByTest : Bool → Given → Type 0
  ByTest inside given = MatchBool inside
      (MatchResult given (IsRanked (rank_for p.turn) rows_there) (λ why. ⊥))
      (given ≡ Err refusals.Outside)

  some_given_in_set : (inside : Bool) → (given : Given) × ByTest inside given
  some_given_in_set true =
      let one = some_order (rank_for p.turn) rows_there in (Ok one.0, one.1)
  some_given_in_set false = (Err refusals.Outside, refl)

  one_given_in_set : (inside : Bool) (given other : Given) → ByTest inside given
      → ByTest inside other
      → other ≡ given
  one_given_in_set true (Ok rows) (Ok more) h k =
      ap (λ (l : List Row). Ok l) (one_order (rank_for p.turn) rows_there more rows k h)
  one_given_in_set true (Err why) other h k = absurd h
  one_given_in_set true (Ok rows) (Err why) h k = absurd k
  one_given_in_set false given other h k = k ∙ sym h

-- a text is not empty whose front is not
front_said : (xs ys : List ℕ) → (xs ≡ [] → ⊥) → xs ++ ys ≡ [] → ⊥
front_said [] ys said e = said refl
front_said (x ∷ xs) ys said e = cc

module _ (p : Board) (files : Files) where
  -- an answer tells something
  said_by : (found : Board → Option Found) (moves : List Step) (check : Bool) (rows : List Row)
      → length rows ≡ length moves → each_by moves check (rows_text found p rows) ≡ [] → ⊥
  said_by found [] true rows many e = cc
  said_by found [] false rows many e = cc
  said_by found (m ∷ ms) check [] many e = omega (arith, many)
  said_by found (m ∷ ms) check (row ∷ rows) many e =
      front_said (row_line found p row) (rows_text found p rows)
      (behind_said (san_of p row.arm.mv) _
      (behind_said
      (reached_text (found (after p row.arm.mv)) row.arm.next row.white row.black) _
      (behind_said (freedom_text row.arm.free) (codes "\n") (λ none. cc)))) e

  module _ (contents : Contents) (bytes : List ℕ) (tables : List TableBytes) where
    abbrev found : Board → Option Found
    found = found_over contents bytes tables

    inside_said : (inside : Bool) (given : Given) → ByTest contents bytes tables p inside given
        → (answer_by found p given files).text ≡ [] → ⊥
    inside_said true (Ok rows) h =
        said_by found (legal_moves_of p) (is_in_check p p.turn) rows
        (many_rows contents.rules (value_behind contents bytes tables) p _ _ (rank_for p.turn) rows
        h)
    inside_said true (Err why) h = absurd h
    inside_said false given h = λ e.
        refusal_said refusals.Outside
        (ap (λ (g : Given). (answer_by found p g files).text) (sym h) ∙ e)

    some_over : SomeAnswer (IsEachOver contents bytes tables p files)
    some_over =
        let inside = is_member contents.rules.groups p in
        let some = some_given_in_set contents bytes tables p inside in
        record {
          a = answer_by found p some.0 files;
          answer = record { given = some.0; rows = some.1; told = refl };
          text = inside_said inside some.0 some.1;
        }

    one_over : (a b : Answer) → IsEachOver contents bytes tables p files a
        → IsEachOver contents bytes tables p files b → b ≡ a
    one_over a b h k =
        k.told
        ∙ ap (λ (g : Given). answer_by found p g files)
        (one_given_in_set contents bytes tables p (is_member contents.rules.groups p) h.given
        k.given h.rows k.rows)
        ∙ sym h.told

  some_by : (x : Result Contents TableFault) (bytes : List ℕ) (y : Opened)
      → SomeAnswer (IsEachBy x bytes y p files)
  some_by (Ok contents) bytes (Ok tables) = some_over contents bytes tables
  some_by (Ok contents) bytes (Err refused) = record {
    a = _;
    answer = refl;
    text = back_line_not_empty refused.0 (RefusedBack refused.1);
  }
  some_by (Err fault) bytes y = record {
    a = _;
    answer = refl;
    text = refusal_said (refusals.Table fault);
  }

  one_by : (x : Result Contents TableFault) (bytes : List ℕ) (y : Opened) (a b : Answer)
      → IsEachBy x bytes y p files a → IsEachBy x bytes y p files b → b ≡ a
  one_by (Ok contents) bytes (Ok tables) a b h k = one_over contents bytes tables a b h k
  one_by (Ok contents) bytes (Err refused) a b h k = k ∙ sym h
  one_by (Err fault) bytes y a b h k = k ∙ sym h

  pub some_each : (table : List ℕ) (behind : List (List ℕ))
      → SomeAnswer (IsEachAt table behind p files)
  some_each table behind =
      some_by (opened_own (files table)) (bytes_at files table) (opened_all (map files behind))

  pub one_each : (table : List ℕ) (behind : List (List ℕ))
      → HasOneAnswer (IsEachAt table behind p files)
  one_each table behind =
      let some = some_each table behind in (
        some.a,
        some.answer,
        λ b h. one_by (opened_own (files table)) (bytes_at files table)
            (opened_all (map files behind)) some.a b some.answer h,
      )
