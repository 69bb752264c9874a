-- How `line` and `play` end where the table file was opened, and where it was not.
use Rattle.std.proofs.Common.{◌≡◌, refl, sym, subst, ap, ◌∙◌, Option, Some, ℕ, ◌+◌, ◌≤◌, List, length, true, Result, Ok, Err, None}
use Rattle.std.specs.Prelude.{IfSome}
use Rattle.frz_board.specs.declared.man.Colour.{Colour}
use Rattle.frz_board.specs.Boards.{Board}
use Rattle.frz_store.specs.Files.{Files}
use Rattle.frz_store.specs.Told.{StoreTold, SourceTold, SinkTold, StoreQuiet, StoreFine}
use Rattle.frz_table.specs.declared.fault.TableFault.{TableFault}
use Rattle.frz_table.specs.declared.fault.TableFault.TheVariants.{Missing}
use Rattle.frz_table.specs.declared.kind.FileKind.TheVariants.{Plain}
use Rattle.frz_table.specs.Faults.{TableCauses}
use Rattle.frz_table.specs.Opening.{Contents, contents_of, opened, Refuses, table_format, opening_calls}
use Rattle.frz_table.specs.Possible.{MayOpen, MayRefuse, held_text}
use Rattle.frz_table.specs.Tables.{Table}
use Rattle.frz_table.proofs.Lemmas.{belongs, opened_missing, text_kept}
use Rattle.frz_answer.specs.declared.end.End.{End}
use Rattle.frz_answer.specs.Statuses.{subset}
use Rattle.frz_answer.specs.World.{World, world, spent, spent_by}
use Rattle.frz_answer.specs.Answers.{Answer, says}
use Rattle.frz_answer.specs.Jobs.{Job}
use Rattle.frz_answer.specs.Ends.{Ran}
use Rattle.frz_answer.proofs.Lemmas.{Found, fine_store, quiet_store, through}
use Rattle.frz_prelude.specs.Refusals.{status_of, refusal_line}
use Rattle.frz_prelude.specs.Stops.{EndsBy, stop_of_table}
use Rattle.frz_prelude.specs.declared.refused.Refused.TheVariants as refusals
use Rattle.frz_prelude.proofs.Lemmas.{Holding, ended, holding, may_stop, stop_own, stops_by, table_cause}
use Rattle.frz_ways.specs.declared.opponent.Opponent.{Opponent}
use Rattle.frz_ways.specs.declared.opponent.Opponent.TheVariants.{Codes, Input}
use Rattle.frz_commands_line.specs.Costs.{CostsIn}
use Rattle.frz_commands_line.specs.Later.{MayBeLater, OpensAtStart, from_opening, held_later}
use Rattle.frz_commands_line.specs.WayJobs.{way_at, way_in}
use Rattle.frz_commands_line.specs.WayOf.{IsToldBy, WayComes}
use Rattle.frz_commands_line.proofs.Later.{as_opened}
use Rattle.frz_commands_line.proofs.OpeningCosts.{opening_within, playing_within}
use Rattle.frz_commands_line.proofs.Stages.{is_later_part, once_is_not}
use Rattle.frz_commands_line.proofs.WayAnswered.{SomeTold, some_at}

-- the text of a file that opens is the one that it keeps
opened_text : (held : Option (List ℕ)) (contents : Contents)
    → opened (table_format Plain) held ≡ Ok contents → held_text held ≡ contents.text
opened_text None contents opens =
    (let no : Err Missing ≡ Ok contents = sym (opened_missing (table_format Plain)) ∙ opens in cc)
opened_text (Some bytes) contents opens =
    text_kept _ _ _ bytes (belongs (table_format Plain) bytes contents opens).file

-- what opened opens still, where nothing was written
pub opens_still : {told now : Option Files} {name : List ℕ} (table : Table) → now ≡ told
    → table.name ≡ name → MayOpen (table_format Plain) told name (contents_of table)
    → MayOpen (table_format Plain) now table.name (contents_of table)
opens_still table unwritten named may = rw (unwritten, named) may

-- the way by the table of this name
module _ (opponent : Opponent) (later : ℕ → Files) (name : List ℕ) (side : Colour) (p : Board) where
  abbrev by_file : Job
  by_file = way_at opponent later name side p

  abbrev by_table : Table → Job
  by_table table = way_in opponent later table side p

  all_own : (table : Table) → subset (by_table table).statuses by_file.statuses ≡ true
  all_own table = by_opponent opponent
    where
      by_opponent : (o : Opponent) → subset (way_in o later table side p).statuses
          (way_at o later name side p).statuses ≡ true
      by_opponent Codes = refl
      by_opponent Input = refl

  -- what is answered by how the file opens, and which numbers the way comes to
  abbrev By : (ℕ → Files) → List ℕ → Result Contents TableFault → Files → List ℕ → Answer → Type 0
  By held called x files input a =
      IsToldBy opponent x (held_later held called) side p files input a

  abbrev Comes : (ℕ → Files) → List ℕ → List ℕ → Contents → List ℕ → Type 0
  Comes held called input = WayComes opponent (held_later held called) side p input

  module _ {store now : StoreTold} {input : SourceTold} {out : SinkTold} {steps : ℕ}
      (quiet : StoreQuiet store now) where
    -- files that hold this under the name
    abbrev found_at : (held : Option (List ℕ)) (left : List ℕ) (free : Files)
        → IfSome input.left (λ told. told ≡ left)
        → (at : Holding store.files name held)
        → Found by_file free left (world store input out steps)
    found_at held left free source at = record {
      files = at.files;
      input = left;
      agrees = record { store = at.agrees; source = source };
      free = λ never. once_is_not never;
      untaken = λ _. refl;
    }

    -- the table was opened: what was done by it is what was to be done by its file
    pub opened_ran : (table : Table) {end : End} {new : World}
        → StoreFine store now → table.name ≡ name
        → MayBeLater store.files later → OpensAtStart later table
        → now.asked ≤ store.asked + (16 + length table.text)
        → now.calls ≤ store.calls + 5
        → Ran (by_table table) end (world now input out steps) new
        → Ran by_file end (world store input out steps) new
    opened_ran table {end} {new} fine named may start asked few ran =
        let old = world store input out steps in
        let at : Holding store.files name (later 0 name) =
        record { files = later 0; agrees = may 0; holds = refl } in
        let opens : opened (table_format Plain) (later 0 name) ≡ Ok (contents_of table) =
        subst (λ (q : List ℕ). opened (table_format Plain) (later 0 q) ≡ Ok (contents_of table))
        named start in
        through (by_table table) by_file old (world now input out steps) new
        (quiet_store store now input out steps quiet)
        (fine_store store now input out steps steps fine)
        (is_later_part by_file (by_table table).statuses (all_own table)) end
        (λ files left agrees. record {
          found = found_at (later 0 name) left files agrees.source at;
          answers = λ m i a fits free untaken answer.
              subst (λ (x : Result Contents TableFault). By (from_opening m later) name x m i a)
              (sym (ap (λ (f : Files). opened (table_format Plain) (f name)) (free refl) ∙ opens))
              (subst (λ (at : ℕ → Files). By at name (Ok (contents_of table)) m i a)
              (as_opened later m (free refl))
              (subst (λ (q : List ℕ). By later q (Ok (contents_of table)) m i a) named answer));
          costs = λ m i a fits free untaken answer costs.
              let holds : m name ≡ later 0 name = ap (λ (f : Files). f name) (free refl) in
              let text : held_text (m name) ≡ table.text = ap held_text holds
              ∙ opened_text (later 0 name) (contents_of table) opens in
              playing_within (m name) (contents_of table) p (Comes (from_opening m later) name i)
              (spent_by store steps) (spent_by now steps) (spent new)
              (ap (opened (table_format Plain)) holds ∙ opens) refl few
              (subst (λ (t : List ℕ). now.asked ≤ store.asked + (16 + length t)) (sym text) asked)
              (subst (λ (at : ℕ → Files). CostsIn (contents_of table) p
              (Comes at name i (contents_of table)) 0 0 (spent_by now steps) (spent new))
              (as_opened later m (free refl))
              (subst (λ (q : List ℕ). CostsIn (contents_of table) p
              (Comes later q i (contents_of table)) 0 0 (spent_by now steps) (spent new))
              named costs));
        })
        ran

    -- it was not: what the file is refused for is the answer, or a fault stopped the job before any
    pub refused_ran : {T : Type 0} (fault : TableFault) {end : End} {taken : SinkTold}
        → SomeTold opponent
        → TableCauses {T = T} store.faults now.faults store.wants now.wants (Err fault)
        → MayRefuse (table_format Plain) name store now fault
        → EndsBy (stop_of_table fault) end out taken
        → Ran by_file end (world store input out steps) (world now input taken steps)
    refused_ran {T} fault {end} {taken} some causes may ends =
        let old = world store input out steps in
        let new = world now input out steps in
        let at = holding store.files name may.held may.may in
        let files = at.files in
        let answer : Answer = says (status_of (refusals.Table fault))
        (refusal_line (refusals.Table fault)) files in
        ended by_file (stop_of_table fault) end old new taken
        (quiet_store store now input out steps quiet)
        (may_stop ℕ by_file (stop_of_table fault) store now input out steps steps refl refl
        (stop_own fault by_file.statuses refl refl)
        (table_cause T ℕ fault store now causes)) ends
        (λ free left agrees.
        let costs : (a : Answer) → by_file.costs files left a (spent old) (spent new) = λ a.
        opening_within (opened (table_format Plain) (files name)) p
        (Comes (from_opening files later) name left)
        (opening_calls (table_format Plain) (files name))
        (16 + length (held_text (files name))) (spent old) (spent new) refl
        (subst (λ (h : Option (List ℕ)). now.calls ≤ store.calls
        + opening_calls (table_format Plain) h) (sym at.holds) may.calls)
        (subst (λ (h : Option (List ℕ)). now.asked ≤ store.asked + (16 + length (held_text h)))
        (sym at.holds) may.asked) in
        let found = found_at may.held left free agrees.source at in
        let begun = some_at opponent some side p files left (from_opening files later) name in
        stops_by by_file free left old new (opened (table_format Plain) (files name)) fault
        (λ e. record {
          found = found;
          answer = subst
              (λ (x : Result Contents TableFault).
              By (from_opening files later) name x files left answer)
              (sym e) refl;
          costs = costs answer;
        })
        (record { found = found; some = begun; costs = costs begun.a })
        (subst (λ (h : Option (List ℕ)). Refuses (opened (table_format Plain) h) fault)
        (sym at.holds) may.refuses))
