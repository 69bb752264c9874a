-- How `verdict` ends, by what was found of the tables.
use Rattle.std.proofs.Common.{◌≡◌, ◌≤◌, ◌++◌, ◌∷◌, [], ℕ, List, Bool, true, false, arith, length, map, refl, subst, sym, Option, Some, None, Err, Ok}
use Rattle.std.proofs.lemmas.List.{length-append}
use Rattle.frz_board.specs.Boards.{Board}
use Rattle.frz_game.specs.Numbers.{is_member}
use Rattle.frz_store.specs.Files.{Files}
use Rattle.frz_store.specs.Told.{StoreTold, SourceTold, SinkTold, StoreQuiet}
use Rattle.frz_answer.specs.declared.end.End.{End}
use Rattle.frz_answer.specs.declared.status.Status.TheVariants.{Success}
use Rattle.frz_answer.specs.Answers.{says}
use Rattle.frz_answer.specs.Ends.{Ran, Said}
use Rattle.frz_answer.specs.Jobs.{Job, WithinCosts}
use Rattle.frz_answer.specs.Statuses.{OneOf}
use Rattle.frz_answer.specs.World.{World, world, Agrees, Quiet, spent}
use Rattle.frz_answer.proofs.Lemmas.{Begun, Found, fine_store, quiet_both, said}
use Rattle.frz_prelude.specs.Refusals.{refusal_line, status_of}
use Rattle.frz_prelude.specs.declared.refused.Refused.TheVariants as refusals
use Rattle.frz_prelude.proofs.Lemmas.{found_where, table_own}
use Rattle.frz_atlas.specs.Behind.{IsRefusedAt, TableBytes, link_of}
use Rattle.frz_atlas.specs.Causes.{HasAtlasCause}
use Rattle.frz_atlas.specs.Held.{all_held}
use Rattle.frz_atlas.specs.Opening.{IsOneRefused}
use Rattle.frz_atlas.specs.declared.fault.AtlasFault.{AtlasFault}
use Rattle.frz_atlas.specs.declared.fault.AtlasFault.TheVariants.{Rules, Table, Back, Failed, NoMemory}
use Rattle.frz_atlas.specs.declared.fault.BackFault.{BackFault}
use Rattle.frz_atlas.specs.declared.fault.BackFault.TheVariants.{Refused, Wrong}
use Rattle.frz_atlas_prelude.specs.BackLines.{back_status}
use Rattle.frz_atlas_prelude.specs.Names.{has_twice}
use Rattle.frz_atlas_prelude.proofs.Lemmas.{as_many_as_names, ended_at, judged_exact, place_below}
use Rattle.frz_commands_premises.specs.declared.line.Line.{Line}
use Rattle.frz_commands_premises.specs.PremiseLines.{behind_lines, text_link_of, links_in}
use Rattle.frz_commands_verdict.specs.declared.finding.Told.{Told}
use Rattle.frz_commands_verdict.specs.declared.verdict.Verdict.{Verdict}
use Rattle.frz_commands_verdict.specs.Answers.{answer_over, found, refused, verdict_costs}
use Rattle.frz_commands_verdict.specs.Ending.{EndsVerdict, IsPlaceUpTo}
use Rattle.frz_commands_verdict.specs.Finding.{FindsVerdict, RefusesOne, WithinFinding, names_over}
use Rattle.frz_commands_verdict.specs.Texts.{verdict_text}
use Rattle.frz_commands_verdict.specs.Verdicting.{verdict_on}
use Rattle.frz_commands_verdict.specs.Verdicts.{verdict_at}
use Rattle.frz_commands_verdict.proofs.NamesHold.{NamesHold, names_hold}
use Rattle.frz_commands_verdict.proofs.Once.{by_member, some_verdict}

-- each end has a status of `verdict`
own_back : (fault : BackFault) (table : List ℕ) (behind : List (List ℕ)) (p : Board)
    → OneOf (back_status fault) (verdict_on table behind p).statuses
own_back (Refused fault) table behind p =
    table_own fault (verdict_on table behind p).statuses refl refl
own_back (Wrong wrong) table behind p = refl

module _ (table : List ℕ) (behind : List (List ℕ)) (apart : has_twice (table ∷ behind) ≡ false)
    (p : Board) (old new : StoreTold) (before now : ℕ) (quiet : StoreQuiet old new)
    (later : before ≤ now) (input : SourceTold) (out after : SinkTold) (end : End) where
  abbrev job : Job
  job = verdict_on table behind p

  abbrev start : World
  start = world old input out before

  abbrev mid : World
  mid = world new input out now

  quiet_so : Quiet start mid
  quiet_so = quiet_both old new input out before now quiet later

  spent_within_costs : (helds : List (Option (List ℕ))) (h : NamesHold old.files table behind helds)
      → WithinFinding helds old new before now
      → WithinCosts (verdict_costs (map h.files (names_over table behind))) (spent start) (spent mid)
  spent_within_costs helds h within =
      subst (λ (l : List (Option (List ℕ))). WithinCosts (verdict_costs l) (spent start) (spent mid))
      (sym h.hold)
      (record { steps = within.steps; calls = within.calls; asked = within.asked })

  abbrev at_files : (helds : List (Option (List ℕ))) (h : NamesHold old.files table behind helds)
      (files : Files) (left : List ℕ) → Agrees start files left → Found job files left start
  at_files helds h files left agrees =
      found_where job h.files files left start (λ e. cc) h.agrees agrees

  -- the tables are exact
  module _ (told : Option Told) (f : FindsVerdict table behind p old new before now told)
      (cause : HasAtlasCause {T = Option Told} (Ok told) old new) where
    abbrev tables : List TableBytes
    tables = f.before ++ f.own ∷ []

    abbrev h : NamesHold old.files table behind (all_held tables)
    h = names_hold old.files table behind apart (all_held tables) f.may_all

    abbrev verdict_there : Verdict
    verdict_there = verdict_at (links_in (map text_link_of tables)) (link_of f.own) p

    ends_with : (b : Bool) → is_member f.own.contents.rules.groups p ≡ b
        → Said (by_member b p verdict_there (length behind)
        (behind_lines [] (map text_link_of tables)) h.files).status
        (by_member b p verdict_there (length behind)
        (behind_lines [] (map text_link_of tables)) h.files).text end out after
        → Ran job end start (world new input after now)
    ends_with b inside wrote =
        said job _ _ end start mid after quiet_so (fine_store old new input out before now cause)
        (own_status b) wrote
        (λ files left agrees. record {
          found = at_files (all_held tables) h files left agrees;
          answer = found (record {
            before = f.before;
            own = f.own;
            all = record { there = h.hold; exact = judged_exact [] tables f.exact };
            told = by_test b inside;
          });
          costs = spent_within_costs (all_held tables) h f.within;
        })
      where
        own_status : (x : Bool) → OneOf (by_member x p verdict_there (length behind)
            (behind_lines [] (map text_link_of tables)) h.files).status job.statuses
        own_status true = refl
        own_status false = refl

        by_test : (x : Bool) → is_member f.own.contents.rules.groups p ≡ x
            → says (by_member x p verdict_there (length behind)
            (behind_lines [] (map text_link_of tables)) h.files).status
            (by_member x p verdict_there (length behind)
            (behind_lines [] (map text_link_of tables)) h.files).text h.files
            ≡ answer_over (link_of f.own) (map text_link_of tables) (length behind) p h.files
        by_test true e = rw e refl
        by_test false e = rw e refl

  -- nothing is told outside the set
  pub outside_is_told : (f : FindsVerdict table behind p old new before now None)
      → HasAtlasCause {T = Option Told} (Ok None) old new
      → Said (status_of refusals.Outside) (refusal_line refusals.Outside) end out after
      → Ran job end start (world new input after now)
  outside_is_told f cause wrote = ends_with None f cause false f.tells wrote

  pub verdict_is_told : (told : Told) (f : FindsVerdict table behind p old new before now (Some told))
      → HasAtlasCause {T = Option Told} (Ok (Some told)) old new
      → Said Success (verdict_text p told.verdict (length behind) told.lines.items) end out after
      → Ran job end start (world new input after now)
  verdict_is_told told f cause wrote =
      ends_with (Some told) f cause true f.tells.0
      (subst (λ (v : Verdict). Said Success (verdict_text p v (length behind)
      (behind_lines [] (map text_link_of (f.before ++ f.own ∷ [])))) end out after) f.tells.1
      (subst (λ (l : List Line). Said Success (verdict_text p told.verdict (length behind) l) end out
      after) f.tells.2 wrote))

  -- a table is refused, or something could not be read
  module _ (fault : AtlasFault) (r : RefusesOne table behind old new before now fault) where
    abbrev held_so : NamesHold old.files table behind r.helds
    held_so = names_hold old.files table behind apart r.helds r.may_all

    refusal_begun : (files : Files) (left : List ℕ) → Agrees start files left
        → Begun job files left start mid
    refusal_begun files left agrees = record {
      found = at_files r.helds held_so files left agrees;
      some = some_verdict table behind p held_so.files;
      costs = spent_within_costs r.helds held_so r.within;
    }

    by_fault : (f : AtlasFault) → IsOneRefused r.helds f
        → HasAtlasCause {T = Option Told} (Err f) old new
        → EndsVerdict (length behind) f end out after
        → Ran job end start (world new input after now)
    by_fault (Rules f) h cause ends = absurd h
    by_fault (Table f) h cause ends = absurd h
    by_fault (Back place f) is_refused cause ends =
        said job _ _ end start mid after quiet_so (fine_store old new input out before now cause)
        (own_back f table behind p) ends
        (λ files left agrees. record {
          found = at_files r.helds held_so files left agrees;
          answer = refused (record {
            place = place;
            fault = f;
            refused = subst (λ (l : List (Option (List ℕ))). IsRefusedAt [] l place f)
                (sym held_so.hold) is_refused;
            told = refl;
          });
          costs = spent_within_costs r.helds held_so r.within;
        })
    by_fault Failed h cause ends =
        ended_at job end start mid after quiet_so Failed (refl, cause) ends refusal_begun
    by_fault NoMemory h cause ends =
        ended_at job end start mid after quiet_so NoMemory refl ends refusal_begun

    pub refused_so : HasAtlasCause {T = Option Told} (Err fault) old new
        → EndsVerdict (length behind) fault end out after
        → Ran job end start (world new input after now)
    refused_so cause ends = by_fault fault r.refuses cause ends

-- the place that is told is that of TABLE at most
pub place_up_to : (table : List ℕ) (behind : List (List ℕ)) (old new : StoreTold)
    (before now : ℕ) (fault : AtlasFault) → RefusesOne table behind old new before now fault
    → IsPlaceUpTo (length behind) fault
place_up_to table behind old new before now fault r = by_fault fault r.refuses
  where
    by_fault : (f : AtlasFault) → IsOneRefused r.helds f → IsPlaceUpTo (length behind) f
    by_fault (Rules f) h = tt
    by_fault (Table f) h = tt
    by_fault (Back place f) h =
        let below = place_below [] r.helds place f h in
        let many = as_many_as_names old.files (names_over table behind) r.helds r.may_all in
        let names = length-append behind (table ∷ []) in
        omega (arith, below, many, names)
    by_fault Failed h = tt
    by_fault NoMemory h = tt
