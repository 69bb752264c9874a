-- How a command ends whose tables were refused, or could not be read.
use Rattle.std.proofs.Common.{◌≡◌, refl, sym, subst, ℕ, ◌≤◌, List, [], ◌∷◌, map, Bool, true, false, Option, Result, Ok, Err, arith}
use Rattle.std.specs.Prelude.{MatchBool}
use Rattle.std.specs.Option.{unwrap_or}
use Rattle.frz_board.specs.Boards.{Board}
use Rattle.frz_index.specs.Membership.{is_member}
use Rattle.frz_store.specs.Files.{Files}
use Rattle.frz_store.specs.Told.{StoreTold, SourceTold, SinkTold, StoreQuiet}
use Rattle.frz_table.specs.declared.fault.TableFault.{TableFault}
use Rattle.frz_table.specs.Opening.{Contents, opened, own_format}
use Rattle.frz_atlas_prelude.specs.Behind.{TableBytes}
use Rattle.frz_atlas_prelude.specs.Causes.{HasAtlasCause}
use Rattle.frz_atlas_prelude.specs.Loading.{opened_all, opened_own}
use Rattle.frz_atlas_prelude.specs.Reading.{IsUnopened, RefusesToRead}
use Rattle.frz_atlas_prelude.specs.AtlasFault.{AtlasFault}
use Rattle.frz_atlas_prelude.specs.AtlasFault.TheVariants.{Rules, Table, Back as BackAt, Failed, NoMemory}
use Rattle.frz_atlas_prelude.specs.BackFault.TheVariants.{Refused, Wrong}
use Rattle.frz_atlas_prelude.specs.LoadedAtlas.{LoadedAtlas}
use Rattle.frz_answer.specs.declared.end.End.{End}
use Rattle.frz_answer.specs.declared.status.Status.TheVariants as statuses
use Rattle.frz_answer.specs.Answers.{Answer, says}
use Rattle.frz_answer.specs.Ends.{Ran}
use Rattle.frz_answer.specs.Jobs.{Job, WithinCosts}
use Rattle.frz_answer.specs.Statuses.{OneOf}
use Rattle.frz_answer.specs.World.{World, world, Agrees, spent}
use Rattle.frz_answer.proofs.Lemmas.{Begun, fine_store, quiet_both}
use Rattle.frz_prelude.specs.Refusals.{table_status}
use Rattle.frz_prelude.specs.TableCauses.{table_line}
use Rattle.frz_prelude.proofs.Lemmas.{found_where, table_own}
use Rattle.frz_atlas_prelude.specs.BackLines.{back_line}
use Rattle.frz_atlas_prelude.specs.Ending.{EndsAt}
use Rattle.frz_atlas_prelude.specs.Names.{has_twice}
use Rattle.frz_atlas_prelude.proofs.Lemmas.{AnswersAt, Holds, MayEndAt, apart_names_hold, ended_at}
use Rattle.frz_ways.specs.declared.opponent.Opponent.{Opponent}
use Rattle.frz_ways.specs.declared.opponent.Opponent.TheVariants.{Codes, Input}
use Rattle.frz_ways.specs.declared.opponent.Player.{Player}
use Rattle.frz_ways.specs.Reading.{Input as Reading}
use Rattle.frz_journeys.specs.Journeys.{Stage}
use Rattle.frz_journeys.specs.Playing.{turns_in}
use Rattle.frz_commands_journeys.specs.Costs.{CostsAt, StepsBy, journey_costs}
use Rattle.frz_commands_journeys.specs.JourneyOf.{IsJourneyBy, IsPlayedAt, IsPlayedBy, heard_by}
use Rattle.frz_commands_journeys.specs.Journeying.{journeying_at, statuses_of}
use Rattle.frz_commands_journeys.proofs.JourneyEnds.{JourneyThere}
use Rattle.frz_commands_journeys.proofs.Some.{some_at}

own_missing : (o : Opponent) → OneOf statuses.Missing (statuses_of o)
own_missing Codes = refl
own_missing Input = refl

own_table : (o : Opponent) → OneOf statuses.Table (statuses_of o)
own_table Codes = refl
own_table Input = refl

-- without a step the costs are kept, however the files open
no_steps : (within : ℕ → Type 0) → ((steps : ℕ) → within steps) → (player : Player) (p : Board)
    (x : Result Contents TableFault) (bytes : List ℕ)
    (y : Result (List TableBytes) (ℕ × TableFault)) (heard : List ℕ)
    → StepsBy within player p x bytes y heard
no_steps within all player p (Ok contents) bytes (Ok tables) heard =
    by_test (is_member contents.rules.groups p)
  where
    by_test : (b : Bool) → MatchBool b ((stages : List Stage) (left : Reading)
        → IsJourneyBy player p contents bytes tables heard stages left → within (turns_in stages))
        (within 0)
    by_test true = λ stages left j. all (turns_in stages)
    by_test false = all 0
no_steps within all player p (Ok contents) bytes (Err refused) heard = all 0
no_steps within all player p (Err fault) bytes y heard = all 0

module _ (there : JourneyThere) (player : Player) (table : List ℕ) (behind : List (List ℕ))
    (p : Board) (apart : has_twice (table ∷ behind) ≡ false) (old new : StoreTold)
    (before now : ℕ) (quiet : StoreQuiet old new) (later : before ≤ now) (steps : now ≤ before)
    (input : SourceTold) (out : SinkTold) (fault : AtlasFault)
    (r : RefusesToRead table behind old new fault) where
  abbrev job : Job
  job = journeying_at player table behind p

  abbrev start : World
  start = world old input out before

  abbrev mid : World
  mid = world new input out now

  abbrev h : Holds old.files table behind r.held r.helds
  h = apart_names_hold old.files table behind apart r.held r.helds r.may r.may_all

  abbrev files : Files
  files = h.all.files

  costs_no_steps : (heard : List ℕ)
      → CostsAt player p (files table) (map files behind) heard (spent start) (spent mid)
  costs_no_steps heard =
      no_steps (λ n. WithinCosts (journey_costs (files table) (map files behind) n) (spent start)
      (spent mid))
      (λ n. subst (λ (o : Option (List ℕ)). WithinCosts (journey_costs o (map files behind) n)
      (spent start) (spent mid)) (sym h.here)
      (subst (λ (q : List (Option (List ℕ))). WithinCosts (journey_costs r.held q n) (spent start)
      (spent mid)) (sym h.others)
      (record {
        steps = omega (arith, steps);
        calls = r.within.calls;
        asked = r.within.asked;
      })))
      player p (opened own_format (files table)) (unwrap_or (files table) [])
      (opened_all (map files behind)) heard

  -- the answer by what the names hold
  by_held : (x : Result Contents TableFault) (y : Result (List TableBytes) (ℕ × TableFault))
      → opened own_format r.held ≡ x → opened_all r.helds ≡ y → (heard : List ℕ)
      (a : Answer) → IsPlayedBy player p x (unwrap_or r.held []) y heard files a
      → IsPlayedAt player table behind p heard files a
  by_held x y opens are heard a is =
      subst (λ (o : Option (List ℕ)). IsPlayedBy player p (opened own_format o)
      (unwrap_or o []) (opened_all (map files behind)) heard files a) (sym h.here)
      (subst (λ (z : Result Contents TableFault). IsPlayedBy player p z (unwrap_or r.held [])
      (opened_all (map files behind)) heard files a) (sym opens)
      (subst (λ (q : List (Option (List ℕ))). IsPlayedBy player p x (unwrap_or r.held [])
      (opened_all q) heard files a) (sym h.others)
      (subst (λ (z : Result (List TableBytes) (ℕ × TableFault)). IsPlayedBy player p x
      (unwrap_or r.held []) z heard files a) (sym are) is)))

  some_beginning : (m : Files) (left : List ℕ) → Agrees start m left → Begun job m left start mid
  some_beginning m left agrees = record {
    found = found_where job files m left start (λ e. cc) h.all.agrees agrees;
    some = some_at there player table behind p (heard_by player.opponent left) files;
    costs = costs_no_steps (heard_by player.opponent left);
  }

  may_end : (f : AtlasFault) → IsUnopened opened_own r.held r.helds f
      → HasAtlasCause {T = LoadedAtlas} (Err f) old new → MayEndAt job f start mid
  may_end (Rules f) refused cause = absurd refused
  may_end (Table f) refused cause = (
    table_own f job.statuses (own_missing player.opponent) (own_table player.opponent),
    fine_store old new input out before now cause,
  )
  may_end (BackAt place (Refused f)) refused cause = (
    table_own f job.statuses (own_missing player.opponent) (own_table player.opponent),
    fine_store old new input out before now cause,
  )
  may_end (BackAt place (Wrong wrong)) refused cause = absurd refused
  may_end Failed refused cause = (refl, cause)
  may_end NoMemory refused cause = refl

  answers_at : (f : AtlasFault) → IsUnopened opened_own r.held r.helds f → (m : Files)
      (left : List ℕ) → Agrees start m left → AnswersAt job f m left start mid
  answers_at (Rules f) refused m left agrees = absurd refused
  answers_at (Table f) refused m left agrees = record {
    found = found_where job files m left start (λ e. cc) h.all.agrees agrees;
    answer = by_held (Err f) (opened_all r.helds) refused refl (heard_by player.opponent left)
        (says (table_status f) (table_line f) files) refl;
    costs = costs_no_steps (heard_by player.opponent left);
  }
  answers_at (BackAt place (Refused f)) refused m left agrees = record {
    found = found_where job files m left start (λ e. cc) h.all.agrees agrees;
    answer = by_held (Ok refused.0.0) (Err (place, f)) refused.0.1 refused.1
        (heard_by player.opponent left)
        (says (table_status f) (back_line place (Refused f)) files) refl;
    costs = costs_no_steps (heard_by player.opponent left);
  }
  answers_at (BackAt place (Wrong wrong)) refused m left agrees = absurd refused
  answers_at Failed refused m left agrees = some_beginning m left agrees
  answers_at NoMemory refused m left agrees = some_beginning m left agrees

  pub unread_ran : (end : End) (after : SinkTold)
      → HasAtlasCause {T = LoadedAtlas} (Err fault) old new → EndsAt fault end out after
      → Ran job end start (world new input after now)
  unread_ran end after cause ends =
      ended_at job end start mid after (quiet_both old new input out before now quiet later) fault
      (may_end fault r.refuses cause) ends
      (λ m left agrees. answers_at fault r.refuses m left agrees)
