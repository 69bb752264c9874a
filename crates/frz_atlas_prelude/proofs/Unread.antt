-- How a command ends whose table, or one of those behind it, was refused or could not be read, where
-- none is checked.
use Rattle.std.proofs.Common.{◌≡◌, refl, sym, subst, ℕ, ◌≤◌, List, [], ◌∷◌, map, Option, Result, Ok, Err, false, IsTrue}
use Rattle.std.specs.Option.{unwrap_or}
use Rattle.frz_store.specs.Files.{Files}
use Rattle.frz_store.specs.Told.{StoreTold, SourceTold, SinkTold, StoreQuiet}
use Rattle.frz_table.specs.declared.fault.TableFault.{TableFault}
use Rattle.frz_table.specs.Opening.{Contents}
use Rattle.frz_atlas.specs.Causes.{HasAtlasCause}
use Rattle.frz_atlas.specs.Behind.{TableBytes}
use Rattle.frz_atlas.specs.Loading.{opened_all, opened_own}
use Rattle.frz_atlas.specs.Reading.{IsUnopened, RefusesToRead}
use Rattle.frz_atlas.specs.declared.fault.AtlasFault.{AtlasFault}
use Rattle.frz_atlas.specs.declared.fault.AtlasFault.TheVariants.{Rules, Table, Back, Failed, NoMemory}
use Rattle.frz_atlas.specs.declared.fault.BackFault.TheVariants.{Refused, Wrong}
use Rattle.frz_atlas.specs.declared.reading.LoadedAtlas.{LoadedAtlas}
use Rattle.frz_answer.specs.declared.end.End.{End}
use Rattle.frz_answer.specs.declared.status.Status.TheVariants as statuses
use Rattle.frz_answer.specs.declared.status.Status.{Status}
use Rattle.frz_answer.specs.Answers.{Answer, SomeAnswer, says}
use Rattle.frz_answer.specs.Ends.{Ran}
use Rattle.frz_answer.specs.Jobs.{Costs, Job, Never, WithinCosts}
use Rattle.frz_answer.specs.Statuses.{OneOf}
use Rattle.frz_answer.specs.World.{Spent, World, world, Agrees, spent}
use Rattle.frz_answer.proofs.Lemmas.{Begun, Found, SaysAll, fine_store, quiet_both}
use Rattle.frz_prelude.proofs.Lemmas.{found_where, table_own}
use Rattle.frz_atlas_prelude.specs.Ending.{EndsAt}
use Rattle.frz_atlas_prelude.specs.Names.{has_twice}
use Rattle.frz_atlas_prelude.specs.Over.{IsAnswerOver, IsOverTable, Over}
use Rattle.frz_atlas_prelude.proofs.FaultEnds.{AnswersAt, MayEndAt, ended_at}
use Rattle.frz_atlas_prelude.proofs.HeldTable.{Holds, apart_names_hold}
use Rattle.frz_atlas_prelude.proofs.Over.{over_held, some_over}

-- what is spent by what the names hold is spent by the files
pub within_held : (costs : Option (List ℕ) → List (Option (List ℕ)) → Costs)
    (held there : Option (List ℕ)) (helds others : List (Option (List ℕ))) → there ≡ held
    → others ≡ helds → (before now : Spent) → WithinCosts (costs held helds) before now
    → WithinCosts (costs there others) before now
within_held costs held there helds others here are before now within =
    subst (λ (o : Option (List ℕ)). WithinCosts (costs o others) before now) (sym here)
    (subst (λ (l : List (Option (List ℕ))). WithinCosts (costs held l) before now) (sym are) within)

-- a job that opens a table and those behind it answers over them
pub record OpensTables (job : Job) (table : List ℕ) (behind : List (List ℕ))
    (over : Files → List ℕ → Over) : Type 0 where
  pub reads : job.needs.reads ≡ Never → ⊥
  pub store : IsTrue job.needs.store
  pub memory : IsTrue job.needs.memory
  pub missing : OneOf statuses.Missing job.statuses
  pub refused : OneOf statuses.Table job.statuses
  pub gives : (m : Files) (left : List ℕ) (a : Answer)
      → IsAnswerOver (over m left) table behind m a → job.answers m left a
  pub some : (m : Files) (left : List ℕ) (contents : Contents) (bytes : List ℕ)
      (tables : List TableBytes) → SomeAnswer (over m left contents bytes tables)

module _ (job : Job) (table : List ℕ) (behind : List (List ℕ)) (over : Files → List ℕ → Over)
    (opens : OpensTables job table behind over) (apart : has_twice (table ∷ behind) ≡ false)
    (old new : StoreTold) (before now : ℕ) (quiet : StoreQuiet old new) (later : before ≤ now)
    (input : SourceTold) (out : SinkTold)
    (fault : AtlasFault) (r : RefusesToRead table behind old new fault) where
  abbrev start : World
  start = world old input out before

  abbrev mid : World
  mid = world new input out now

  abbrev h : Holds old.files table behind r.held r.helds
  h = apart_names_hold old.files table behind apart r.held r.helds r.may r.may_all

  abbrev files : Files
  files = h.all.files

  abbrev at_files : (m : Files) (left : List ℕ) → Agrees start m left → Found job m left start
  at_files m left agrees = found_where job files m left start opens.reads h.all.agrees agrees

  may_end : (f : AtlasFault) → IsUnopened opened_own r.held r.helds f
      → HasAtlasCause {T = LoadedAtlas} (Err f) old new → MayEndAt job f start mid
  may_end (Rules f) refused cause = absurd refused
  may_end (Table f) refused cause = (
    table_own f job.statuses opens.missing opens.refused,
    fine_store old new input out before now cause,
  )
  may_end (Back place (Refused f)) refused cause = (
    table_own f job.statuses opens.missing opens.refused,
    fine_store old new input out before now cause,
  )
  may_end (Back place (Wrong wrong)) refused cause = absurd refused
  may_end Failed refused cause = (opens.store, cause)
  may_end NoMemory refused cause = opens.memory

  -- it costs no more than reading them
  module _ (costs : (m : Files) (left : List ℕ) (a : Answer) → m table ≡ r.held
      → map m behind ≡ r.helds → job.costs m left a (spent start) (spent mid)) where
    begun : (m : Files) (left : List ℕ) → Agrees start m left → Begun job m left start mid
    begun m left agrees =
        let some = some_over (over files left) table behind files (opens.some files left) in
        record {
          found = at_files m left agrees;
          some = record {
            a = some.a;
            answer = opens.gives files left some.a some.answer;
            text = some.text;
          };
          costs = costs files left some.a h.here h.others;
        }

    -- the refusal is the answer by how they open
    refusal_said : (x : Result Contents TableFault) (y : Result (List TableBytes) (ℕ × TableFault))
        → opened_own r.held ≡ x → opened_all r.helds ≡ y → (status : Status) (line : List ℕ)
        → ((left : List ℕ) → IsOverTable (over files left) x (unwrap_or r.held []) y files
        (says status line files)) → (m : Files) (left : List ℕ) → Agrees start m left
        → SaysAll job status line m left start mid
    refusal_said x y own others status line is m left agrees = record {
      found = at_files m left agrees;
      answer = opens.gives files left _
          (over_held (over files left) table behind files r.held r.helds h.here h.others x y own
          others _ (is left));
      costs = costs files left _ h.here h.others;
    }

    answers_at : (f : AtlasFault) → IsUnopened opened_own r.held r.helds f → (m : Files)
        (left : List ℕ) → Agrees start m left → AnswersAt job f m left start mid
    answers_at (Rules f) refused m left agrees = absurd refused
    answers_at (Table f) refused m left agrees =
        refusal_said (Err f) (opened_all r.helds) refused refl _ _ (λ l. refl) m left agrees
    answers_at (Back place (Refused f)) refused m left agrees =
        refusal_said (Ok refused.0.0) (Err (place, f)) refused.0.1 refused.1 _ _ (λ l. refl) m left
        agrees
    answers_at (Back place (Wrong wrong)) refused m left agrees = absurd refused
    answers_at Failed refused m left agrees = begun m left agrees
    answers_at NoMemory refused m left agrees = begun m left agrees

    pub unread_ran : (end : End) (after : SinkTold)
        → HasAtlasCause {T = LoadedAtlas} (Err fault) old new → EndsAt fault end out after
        → Ran job end start (world new input after now)
    unread_ran end after cause ends =
        ended_at job end start mid after (quiet_both old new input out before now quiet later) fault
        (may_end fault r.refuses cause) ends
        (λ m left agrees. answers_at fault r.refuses m left agrees)
