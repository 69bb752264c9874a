-- How `each` ends, by what was opened of the tables and read of the moves.
use Rattle.std.proofs.Common.{◌≡◌, refl, sym, ap, subst, ◌∙◌, ℕ, ◌+◌, ◌*◌, ◌≤◌, List, [], ◌∷◌, length, map, Bool, true, false, Option, Some, Result, Ok, Err, arith}
use Rattle.std.specs.Prelude.{All, MatchBool}
use Rattle.std.specs.Option.{unwrap_or}
use Rattle.frz_board.specs.declared.man.Colour.TheVariants.{Black}
use Rattle.frz_board.specs.Boards.{Board}
use Rattle.frz_fide.specs.Legal.{is_legal}
use Rattle.frz_fide.specs.Listing.{legal_moves_of}
use Rattle.frz_sets.specs.declared.exit.Value.{Value}
use Rattle.frz_index.specs.Members.{Member}
use Rattle.frz_index.proofs.Lemmas.{member_of, of_member}
use Rattle.frz_game.specs.Numbers.{is_member}
use Rattle.frz_store.specs.Files.{Files}
use Rattle.frz_store.specs.Outside.{Rose}
use Rattle.frz_store.specs.Told.{SinkTold, SourceTold, StoreFine, StoreQuiet, StoreTold}
use Rattle.frz_table.specs.declared.fault.TableFault.{TableFault}
use Rattle.frz_table.specs.Opening.{Contents, contents_of}
use Rattle.frz_table.specs.Possible.{MayHold}
use Rattle.frz_table.specs.Tables.{Carries, Table}
use Rattle.frz_table.proofs.Lemmas.{fine_after}
use Rattle.frz_check.specs.Kept.{kept_codes}
use Rattle.frz_atlas.specs.BackTable.{BackTable}
use Rattle.frz_atlas.specs.Books.{Back}
use Rattle.frz_atlas.specs.FileOn.{loaded_back}
use Rattle.frz_atlas.specs.Links.{value_over}
use Rattle.frz_atlas.specs.Loaded.{leans_as, link_loaded}
use Rattle.frz_atlas.proofs.Lemmas.{loaded_backs}
use Rattle.frz_atlas.specs.Behind.{TableBytes, backs_in, leans}
use Rattle.frz_atlas.specs.Causes.{HasAtlasCause}
use Rattle.frz_atlas.specs.Held.{all_held}
use Rattle.frz_atlas.specs.Loading.{opened_all, opened_own}
use Rattle.frz_atlas.specs.Opening.{MayOpenOwn}
use Rattle.frz_atlas.specs.Reading.{IsUnopened}
use Rattle.frz_atlas.specs.declared.fault.AtlasFault.{AtlasFault}
use Rattle.frz_atlas.specs.declared.fault.AtlasFault.TheVariants as atlas
use Rattle.frz_atlas.specs.declared.fault.BackFault.TheVariants as one
use Rattle.frz_atlas.proofs.Lemmas.{kept_backs}
use Rattle.frz_answer.specs.declared.end.End.{End}
use Rattle.frz_answer.specs.declared.fault.Fault.TheVariants as faults
use Rattle.frz_answer.specs.declared.status.Status.TheVariants.{Success}
use Rattle.frz_answer.specs.Answers.{Answer}
use Rattle.frz_answer.specs.Ends.{Ran, Said}
use Rattle.frz_answer.specs.Jobs.{Job, WithinCosts}
use Rattle.frz_answer.specs.Statuses.{OneOf}
use Rattle.frz_answer.specs.World.{Agrees, World, spent, world}
use Rattle.frz_answer.proofs.Lemmas.{Begun, fine_store, quiet_both, said}
use Rattle.frz_prelude.specs.Refusals.{status_of}
use Rattle.frz_prelude.specs.Stops.{HasItsCause}
use Rattle.frz_prelude.specs.declared.refused.Refused.{Refused as Refusal}
use Rattle.frz_prelude.specs.declared.refused.Refused.TheVariants as refusals
use Rattle.frz_prelude.specs.declared.stop.Stop.{Stop}
use Rattle.frz_prelude.specs.declared.stop.Stop.TheVariants.{Refused, Fault}
use Rattle.frz_prelude.proofs.Lemmas.{StopsWith, found_where, table_own}
use Rattle.frz_atlas_prelude.specs.Ending.{EndsAt}
use Rattle.frz_atlas_prelude.specs.Names.{has_twice}
use Rattle.frz_atlas_prelude.proofs.Lemmas.{AnswersAt, Holds, MayEndAt, apart_names_hold, ended_at}
use Rattle.frz_commands_atlas.specs.declared.rows.Row.{Row}
use Rattle.frz_commands_atlas.specs.Each.{AreRowsIn, IsEachAt, IsEachBy, IsEachOver, OpensTables, ReadsIn, ReadsRows, RefusesTables, each_bytes, each_calls, each_costs, found_over, staying, staying_by, staying_in}
use Rattle.frz_commands_atlas.specs.EachMeans.{each_at}
use Rattle.frz_commands_atlas.specs.FirstBack.{Found, found_behind}
use Rattle.frz_commands_atlas.specs.MoveRows.{arms_of, row_by, rows_in}
use Rattle.frz_commands_atlas.specs.Ranked.{IsRanked, rank_for}
use Rattle.frz_commands_atlas.specs.Reporting.{value_behind}
use Rattle.frz_commands_atlas.specs.RowLines.{each_text}
use Rattle.frz_commands_atlas.proofs.EachOnce.{some_each}
use Rattle.frz_commands_atlas.proofs.MovesBehind.{legal_rows, many_rows}
use Rattle.frz_commands_atlas.proofs.ReadFile.{HoldsRead, holds_read}
use Rattle.frz_commands_atlas.proofs.TablesOpened.{text_long}

abbrev Opened : Type 0
Opened = Result (List TableBytes) (ℕ × TableFault)

-- the rows that were read are of legal moves, and as many
module _ (given : Table) (backs : List Back) (p : Board) (told : Option Files) (rows : List Row)
    (read : ReadsRows given backs p told rows) where
  pub legal_read : All (λ (row : Row). is_legal p row.arm.mv ≡ true) rows
  legal_read =
      legal_rows given.rules (value_over (leans_as given.kind) given.rules backs) p read.white
      read.black (rank_for p.turn) rows read.ranked

  pub many_read : length rows ≡ length (legal_moves_of p)
  many_read =
      many_rows given.rules (value_over (leans_as given.kind) given.rules backs) p read.white
      read.black (rank_for p.turn) rows read.ranked

-- a fault that stopped a call behind those that succeeded has its cause
pub stopped_later : (A : Type 0) (stop : Stop) (old mid new : StoreTold) → StoreFine old mid
    → HasItsCause {A = A} (Err stop) mid new → HasItsCause {A = A} (Err stop) old new
stopped_later A (Refused why) old mid new fine h = fine_after old mid new fine h
stopped_later A (Fault faults.Store) old mid new fine h =
    subst (λ (n : ℕ). Rose n new.faults) fine.faults h
stopped_later A (Fault faults.Input) old mid new fine h = h
stopped_later A (Fault faults.NoMemory) old mid new fine h = tt

-- the answer by what the names hold
module _ (table : List ℕ) (behind : List (List ℕ)) (p : Board) (files : Files)
    (held : Option (List ℕ)) (helds : List (Option (List ℕ))) (here : files table ≡ held)
    (others : map files behind ≡ helds) where
  answer_at : (a : Answer) (x : Result Contents TableFault) (y : Opened)
      → opened_own held ≡ x → opened_all helds ≡ y
      → IsEachBy x (unwrap_or held []) y p files a → IsEachAt table behind p files a
  answer_at a x y opens are h =
      subst (λ (o : Option (List ℕ)). IsEachBy (opened_own o) (unwrap_or o [])
      (opened_all (map files behind)) p files a) (sym here)
      (subst (λ (l : List (Option (List ℕ))). IsEachBy (opened_own held) (unwrap_or held [])
      (opened_all l) p files a) (sym others)
      (subst (λ (r : Result Contents TableFault). IsEachBy r (unwrap_or held []) (opened_all helds)
      p files a) (sym opens)
      (subst (λ (r : Opened). IsEachBy x (unwrap_or held []) r p files a) (sym are) h)))

-- a position outside is refused
outside_due : (contents : Contents) (bytes : List ℕ) (tables : List TableBytes) (p : Board)
    (why : Refusal) → (Member contents.rules.groups p → ⊥) → why ≡ refusals.Outside
    → AreRowsIn contents bytes tables p (Err why)
outside_due contents bytes tables p why none is = by_test (is_member contents.rules.groups p) refl
  where
    by_test : (b : Bool) → is_member contents.rules.groups p ≡ b
        → MatchBool b ⊥ (◌≡◌ {A = Result (List Row) Refusal} (Err why) (Err refusals.Outside))
    by_test true e = absurd (none (member_of contents.rules.groups p e))
    by_test false e = ap (λ (w : Refusal). Err w) is

module _ (table : List ℕ) (behind : List (List ℕ)) (apart : has_twice (table ∷ behind) ≡ false)
    (p : Board) (old new : StoreTold) (before now : ℕ) (quiet : StoreQuiet old new)
    (later : before ≤ now) (input : SourceTold) (out : SinkTold) where
  abbrev job : Job
  job = each_at table behind p

  abbrev start : World
  start = world old input out before

  abbrev mid : World
  mid = world new input out now

  spent_within_costs : (held : Option (List ℕ)) (helds : List (Option (List ℕ)))
      (h : Holds old.files table behind held helds)
      → new.asked ≤ old.asked + each_bytes held helds p
      → new.calls ≤ old.calls + each_calls held helds p
      → now ≤ before + (2 + length (legal_moves_of p))
      → WithinCosts (each_costs (h.all.files table) (map h.all.files behind) p) (spent start)
      (spent mid)
  spent_within_costs held helds h asked calls steps =
      subst (λ (x : Option (List ℕ)). WithinCosts (each_costs x (map h.all.files behind) p)
      (spent start) (spent mid)) (sym h.here)
      (subst (λ (l : List (Option (List ℕ))). WithinCosts (each_costs held l p) (spent start)
      (spent mid)) (sym h.others)
      (record { steps = steps; calls = calls; asked = asked }))

  -- the tables were opened
  module _ (given : Table) (backs : List BackTable) (then : StoreTold)
      (o : OpensTables table behind old then given backs)
      (asked : new.asked ≤ then.asked + 8 * staying_in (contents_of given) p)
      (calls : new.calls ≤ then.calls + 2 * staying_in (contents_of given) p)
      (steps : now ≤ before + (2 + length (legal_moves_of p))) where
    abbrev contents : Contents
    contents = contents_of given

    abbrev loaded : List Back
    loaded = map loaded_back backs

    -- by bytes that open so
    module _ (bytes : List ℕ) (may : MayHold old.files table (Some bytes))
        (opens : opened_own (Some bytes) ≡ Ok contents) where
      abbrev h : Holds old.files table behind (Some bytes) (all_held o.tables)
      h = apart_names_hold old.files table behind apart (Some bytes) (all_held o.tables) may
          o.may_all

      opened_within_costs : WithinCosts
          (each_costs (h.all.files table) (map h.all.files behind) p) (spent start) (spent mid)
      opened_within_costs =
          let text = text_long contents bytes opens in
          let stay : staying (Some bytes) p ≡ staying_in contents p =
          ap (λ (x : Result Contents TableFault). staying_by x p) opens in
          let first_asked = o.asked in
          let first_calls = o.calls in
          spent_within_costs (Some bytes) (all_held o.tables) h
          (omega (arith, asked, first_asked, text, stay)) (omega (arith, calls, first_calls, stay))
          steps

      says_so : (a : Answer) → IsEachOver contents bytes o.tables p h.all.files a
          → IsEachAt table behind p h.all.files a
      says_so a over =
          answer_at table behind p h.all.files (Some bytes) (all_held o.tables) h.here h.others a
          (Ok contents) (Ok o.tables) opens o.all_open over

      opened_begun : (files : Files) (left : List ℕ) → Agrees start files left
          → Begun job files left start mid
      opened_begun files left agrees = record {
        found = found_where job h.all.files files left start (λ e. cc) h.all.agrees agrees;
        some = some_each p h.all.files table behind;
        costs = opened_within_costs;
      }

      stopped_so : (stop : Stop) → ReadsIn given loaded p old.files (Err stop)
          → (files : Files) (left : List ℕ) → Agrees start files left
          → StopsWith job stop files left start mid
      stopped_so (Refused why) read files left agrees = record {
        found = found_where job h.all.files files left start (λ e. cc) h.all.agrees agrees;
        answer = says_so _ (record {
          given = Err why;
          rows = outside_due contents bytes o.tables p why read.0 read.1;
          told = refl;
        });
        costs = opened_within_costs;
      }
      stopped_so (Fault fault) read files left agrees = opened_begun files left agrees

    -- no rows were read
    pub stopped_each : (stop : Stop) → ReadsIn given loaded p old.files (Err stop)
        → (files : Files) (left : List ℕ) → Agrees start files left
        → StopsWith job stop files left start mid
    stopped_each stop read files left agrees =
        stopped_so o.opens.bytes o.opens.may o.opens.opens stop read files left agrees

    -- its status is one of those of `each`
    pub own_stop : (stop : Stop) → ReadsIn given loaded p old.files (Err stop)
        → (why : Refusal) → stop ≡ Refused why → OneOf (status_of why) job.statuses
    own_stop (Refused other) read why is =
        let same : refusals.Outside ≡ why = cc (read.1, is) in
        subst (λ (w : Refusal). OneOf (status_of w) job.statuses) same refl
    own_stop (Fault fault) read why is = absurd (cc)

    -- rows were read
    module _ (carries : Carries old.files given) (rows : List Row)
        (read : ReadsRows given loaded p old.files rows) where
      abbrev kept : HoldsRead old.files given read.white read.black
      kept = holds_read old.files given read.white read.black
          (subst (λ (n : List ℕ). MayOpenOwn old.files n contents) (sym o.named) o.opens) o.kind
          carries read.white_read read.black_read

      there : MayHold old.files table (Some kept.bytes)
      there = subst (λ (n : List ℕ). MayHold old.files n (Some kept.bytes)) o.named kept.may

      same_backs : loaded ≡ backs_in o.tables
      same_backs = sym (loaded_backs backs) ∙ kept_backs (map link_loaded backs) o.tables o.all_keep

      same_value : value_over (leans_as given.kind) given.rules loaded
          ≡ value_behind contents kept.bytes o.tables
      same_value =
          ap (λ (b : Bool). value_over b given.rules loaded) (sym kept.leaning)
          ∙ ap (value_over (leans kept.bytes) given.rules) same_backs

      same_found : found_behind (leans_as given.kind) given.rules loaded
          ≡ found_over contents kept.bytes o.tables
      same_found =
          ap (λ (b : Bool). found_behind b given.rules loaded) (sym kept.leaning)
          ∙ ap (found_behind (leans kept.bytes) given.rules) same_backs

      abbrev ranks : (white black : List ℕ) → (Board → Value) → Type 0
      ranks white black value = IsRanked (rank_for p.turn)
          (map (row_by white black) (arms_of given.rules value p)) rows

      ranked : IsRanked (rank_for p.turn)
          (rows_in contents kept.bytes (value_behind contents kept.bytes o.tables) p) rows
      ranked =
          subst (λ (w : List ℕ). ranks w (kept_codes contents kept.bytes Black)
          (value_behind contents kept.bytes o.tables)) (sym kept.white_is)
          (subst (λ (b : List ℕ). ranks read.white b (value_behind contents kept.bytes o.tables))
          (sym kept.black_is)
          (subst (λ (v : Board → Value). ranks read.white read.black v) same_value read.ranked))

      due : AreRowsIn contents kept.bytes o.tables p (Ok rows)
      due =
          subst (λ (b : Bool). MatchBool b (IsRanked (rank_for p.turn)
          (rows_in contents kept.bytes (value_behind contents kept.bytes o.tables) p) rows)
          (◌≡◌ {A = Result (List Row) Refusal} (Ok rows) (Err refusals.Outside)))
          (sym (of_member contents.rules.groups p read.inside)) ranked

      pub each_is_told : (end : End) (after : SinkTold) → StoreFine old new
          → Said Success
          (each_text (found_behind (leans_as given.kind) given.rules loaded) p rows) end out after
          → Ran job end start (world new input after now)
      each_is_told end after fine ends =
          said job Success (each_text (found_over contents kept.bytes o.tables) p rows) end start
          mid after (quiet_both old new input out before now quiet later)
          (fine_store old new input out before now fine) refl
          (subst (λ (f : Board → Option Found). Said Success (each_text f p rows) end out after)
          same_found ends)
          (λ files left agrees. record {
            found = found_where job (h kept.bytes there kept.opens).all.files files left start
                (λ e. cc) (h kept.bytes there kept.opens).all.agrees agrees;
            answer = says_so kept.bytes there kept.opens _
                (record { given = Ok rows; rows = due; told = refl });
            costs = opened_within_costs kept.bytes there kept.opens;
          })

  -- something is refused, or could not be read
  module _ (fault : AtlasFault) (r : RefusesTables table behind old new fault)
      (steps : now ≤ before) where
    abbrev k : Holds old.files table behind r.held r.helds
    k = apart_names_hold old.files table behind apart r.held r.helds r.may r.may_all

    refused_within_costs : WithinCosts
        (each_costs (k.all.files table) (map k.all.files behind) p) (spent start) (spent mid)
    refused_within_costs =
        let asked = r.asked in
        let calls = r.calls in
        spent_within_costs r.held r.helds k (omega (arith, asked)) (omega (arith, calls))
        (omega (arith, steps))

    refusal_begun : (files : Files) (left : List ℕ) → Agrees start files left
        → Begun job files left start mid
    refusal_begun files left agrees = record {
      found = found_where job k.all.files files left start (λ e. cc) k.all.agrees agrees;
      some = some_each p k.all.files table behind;
      costs = refused_within_costs;
    }

    may_end : (f : AtlasFault) → IsUnopened opened_own r.held r.helds f
        → HasAtlasCause {T = ℕ} (Err f) old new → MayEndAt job f start mid
    may_end (atlas.Rules f) refused cause = absurd refused
    may_end (atlas.Table f) refused cause =
        (table_own f job.statuses refl refl, fine_store old new input out before now cause)
    may_end (atlas.Back place (one.Refused f)) refused cause =
        (table_own f job.statuses refl refl, fine_store old new input out before now cause)
    may_end (atlas.Back place (one.Wrong wrong)) refused cause = absurd refused
    may_end atlas.Failed refused cause = (refl, cause)
    may_end atlas.NoMemory refused cause = refl

    answers_at : (f : AtlasFault) → IsUnopened opened_own r.held r.helds f → (files : Files)
        (left : List ℕ) → Agrees start files left → AnswersAt job f files left start mid
    answers_at (atlas.Rules f) refused files left agrees = absurd refused
    answers_at (atlas.Table f) refused files left agrees = record {
      found = found_where job k.all.files files left start (λ e. cc) k.all.agrees agrees;
      answer = answer_at table behind p k.all.files r.held r.helds k.here k.others _ (Err f)
          (opened_all r.helds) refused refl refl;
      costs = refused_within_costs;
    }
    answers_at (atlas.Back place (one.Refused f)) refused files left agrees = record {
      found = found_where job k.all.files files left start (λ e. cc) k.all.agrees agrees;
      answer = answer_at table behind p k.all.files r.held r.helds k.here k.others _
          (Ok refused.0.0) (Err (place, f)) refused.0.1 refused.1 refl;
      costs = refused_within_costs;
    }
    answers_at (atlas.Back place (one.Wrong wrong)) refused files left agrees = absurd refused
    answers_at atlas.Failed refused files left agrees = refusal_begun files left agrees
    answers_at atlas.NoMemory refused files left agrees = refusal_begun files left agrees

    pub refused_so : (end : End) (after : SinkTold)
        → HasAtlasCause {T = ℕ} (Err fault) old new → EndsAt fault end out after
        → Ran job end start (world new input after now)
    refused_so end after cause ends =
        ended_at job end start mid after (quiet_both old new input out before now quiet later) fault
        (may_end fault r.refuses cause) ends
        (λ files left agrees. answers_at fault r.refuses files left agrees)
