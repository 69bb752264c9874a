-- How `migrate` goes on from a file that was opened and moved,
-- and how it ends where something stopped it.
use Rattle.std.proofs.Common.{◌≡◌, refl, sym, ap, subst, ◌∙◌, ℕ, ◌+◌, ◌*◌, ◌≤◌, List, [], length, Option, Some, Result, Ok, Err, arith}
use Rattle.std.specs.Option.{unwrap_or}
use Rattle.frz_sets.specs.Sets.{size_of}
use Rattle.frz_store.specs.Bytes.{MayBeHeld}
use Rattle.frz_store.specs.Files.{Files, put}
use Rattle.frz_store.specs.Told.{StoreTold}
use Rattle.frz_store.specs.Writes.{Written}
use Rattle.frz_store.specs.declared.outside.StoreFault.{StoreFault}
use Rattle.frz_table.specs.declared.fault.TableFault.{TableFault}
use Rattle.frz_table.specs.declared.fault.TableFault.TheVariants.{Failed}
use Rattle.frz_table.specs.declared.kind.FileKind.TheVariants.{Plain}
use Rattle.frz_table.specs.Layout.{file_of, magic_of, pieces_of}
use Rattle.frz_former.specs.OldFiles.{old_contents_of, old_format}
use Rattle.frz_table.specs.Opening.{Contents, opened, opening_calls}
use Rattle.frz_table.specs.Possible.{MayHold}
use Rattle.frz_build.specs.Building.{writing_calls}
use Rattle.frz_index.specs.OldNumbers.{old_size_of}
use Rattle.frz_answer.specs.declared.status.Status.TheVariants.{Success}
use Rattle.frz_answer.specs.Answers.{Answer, says}
use Rattle.frz_answer.specs.Jobs.{WithinCosts}
use Rattle.frz_answer.specs.World.{World, Agrees, spent}
use Rattle.frz_answer.proofs.Lemmas.{IsStage, SaysAll}
use Rattle.frz_prelude.specs.Refusals.{table_status}
use Rattle.frz_prelude.specs.Stops.{stop_of_table}
use Rattle.frz_prelude.specs.TableCauses.{table_line}
use Rattle.frz_prelude.proofs.Lemmas.{found_where, holding, stops_by, StopsWith}
use Rattle.frz_commands_table.specs.declared.moving.Moved.{Moved}
use Rattle.frz_commands_table.specs.Rewriting.{MovesFile, RefusesFormer, WithinFormer, former_size}
use Rattle.frz_prelude.specs.Replies.{migrated_line}
use Rattle.frz_commands_table.specs.Migrating.{IsMigratedAt, IsMigratedBy, moving_calls, migrating_costs, writing_new}
use Rattle.frz_commands_table.specs.MigrateMeans.{migrating_at}
use Rattle.frz_commands_table.proofs.MigratedOnce.{some_migrated_at}

-- the same bytes were written
pub written_as : {T : Type 0} (name text text' : List ℕ) (size size' : ℕ)
    (white white' black black' : List ℕ) (result : Result T StoreFault) (old new : StoreTold)
    → text ≡ text' → size ≡ size' → white ≡ white' → black ≡ black'
    → Written name (file_of (magic_of Plain) text size white black) result old new
    → Written name (file_of (magic_of Plain) text' size' white' black') result old new
written_as {T} name text text' size size' white white' black black' result old new t s w b written =
    let is : file_of (magic_of Plain) text size white black ≡ file_of (magic_of Plain) text' size'
    white' black' =
    ap (λ (x : List ℕ). file_of (magic_of Plain) x size white black) t
    ∙ ap (λ (n : ℕ). file_of (magic_of Plain) text' n white black) s
    ∙ ap (λ (l : List ℕ). file_of (magic_of Plain) text' size' l black) w
    ∙ ap (λ (l : List ℕ). file_of (magic_of Plain) text' size' white' l) b in
    subst (λ (l : List ℕ). Written name l result old new) is written

-- writing the new file is a stage
pub writes_stage : (text : List ℕ) (size : ℕ) (white black old new : List ℕ)
    → IsStage (writing_new text size white black new) (migrating_at old new)
writes_stage text size white black old new = record {
  statuses = refl;
  store = λ h. h;
  reads = λ e. refl;
  input = λ h. cc;
  memory = λ h. h;
  speaks = λ e. e;
  writes = refl;
}

-- what the name holds, and what that costs
pub record HoldsOld (old : List ℕ) (held : Option (List ℕ)) (before mid : StoreTold) : Type 0 where
  pub files : Files
  pub agrees : MayBeHeld before.files files
  pub holds : files old ≡ held
  pub within : WithinFormer held before mid

pub holds_old : (old : List ℕ) (held : Option (List ℕ)) (before mid : StoreTold)
    → MayHold before.files old held → WithinFormer held before mid
    → HoldsOld old held before mid
holds_old old held before mid may within =
    let at = holding before.files old held may in
    record { files = at.files; agrees = at.agrees; holds = at.holds; within = within }

module _ (old new : List ℕ) where
  -- the answer of what the name holds
  answer_of : (held : Option (List ℕ)) (x : Result Contents TableFault) (m : Files) (a : Answer)
      → m old ≡ held → opened old_format held ≡ x
      → IsMigratedBy x (unwrap_or held []) new m a → IsMigratedAt old new m a
  answer_of held x m a holds opens h =
      subst (λ (o : Option (List ℕ)). IsMigratedBy (opened old_format o) (unwrap_or o []) new m a)
      (sym holds)
      (subst (λ (r : Result Contents TableFault). IsMigratedBy r (unwrap_or held []) new m a)
      (sym opens) h)

  -- the file was moved, and the new one written
  pub moved_answer : (before mid : StoreTold) (moved : Moved) → (h : MovesFile old before mid moved)
      → (m : Files) (a : Answer) → m old ≡ Some h.bytes
      → a ≡ says Success (migrated_line (length moved.white.items))
      (put m new (file_of (magic_of Plain) moved.file.text (length moved.white.items)
      moved.white.items moved.black.items))
      → IsMigratedAt old new m a
  moved_answer before mid moved h m a holds told =
      let text : List ℕ = moved.file.text in
      let white : List ℕ = moved.white.items in
      let black : List ℕ = moved.black.items in
      let size : ℕ = size_of moved.file.rules.groups in
      let sized : length white ≡ size = h.white_moved.many in
      answer_of (Some h.bytes) (Ok (old_contents_of moved.file)) m a holds h.opens
      (record {
        new_bytes = file_of (magic_of Plain) text size white black;
        migrated = record {
          white = white;
          black = black;
          white_moved = h.white_moved;
          black_moved = h.black_moved;
          whole = refl;
        };
        told = told ∙ ap (λ (n : ℕ). says Success (migrated_line n)
            (put m new (file_of (magic_of Plain) text n white black))) sized;
      })

  -- what is spent in all
  costs_on : (held : Option (List ℕ)) (contents : Contents) (size : ℕ) (before mid now : World)
      → opened old_format held ≡ Ok contents
      → size ≡ size_of contents.rules.groups → WithinFormer held before.store mid.store
      → mid.steps ≡ before.steps
      → WithinCosts (record { steps = Some 0; calls = Some (writing_calls size); asked = Some 0 })
      (spent mid) (spent now) → WithinCosts (migrating_costs held) (spent before) (spent now)
  costs_on held contents size before mid now opens sized within same costs =
      let former : ℕ = former_size (opened old_format held) in
      let due : moving_calls (opened old_format held) ≡ 2 * pieces_of
      (old_size_of contents.rules.groups) + writing_calls (size_of contents.rules.groups) =
      ap moving_calls opens in
      let pieces : pieces_of former ≡ pieces_of (old_size_of contents.rules.groups) =
      ap (λ (x : Result Contents TableFault). pieces_of (former_size x)) opens in
      let calls : writing_calls size ≡ writing_calls (size_of contents.rules.groups) =
      ap writing_calls sized in
      record {
        steps = (let s = costs.steps in omega (arith, s, same));
        calls = in_all (moving_calls (opened old_format held)) (opening_calls old_format held)
            (pieces_of former) (pieces_of (old_size_of contents.rules.groups)) (writing_calls size)
            (writing_calls (size_of contents.rules.groups)) due pieces calls within.calls
            costs.calls;
        asked = (let a = within.asked in let b = costs.asked in omega (arith, a, b));
      }
    where
      in_all : (due first p q w v : ℕ) → due ≡ 2 * q + v → p ≡ q → w ≡ v
          → mid.store.calls ≤ before.store.calls + (first + 2 * p)
          → now.store.calls ≤ mid.store.calls + w
          → now.store.calls ≤ before.store.calls + (first + due)
      in_all due first p q w v e f g few more = omega (arith, e, f, g, few, more)

  pub costs_at : (m : Files) (bytes : List ℕ) (contents : Contents) (size : ℕ)
      (before mid now : World) → m old ≡ Some bytes
      → opened old_format (Some bytes) ≡ Ok contents → size ≡ size_of contents.rules.groups
      → WithinFormer (Some bytes) before.store mid.store
      → mid.steps ≡ before.steps
      → WithinCosts (record {
        steps = Some 0;
        calls = Some (writing_calls size);
        asked = Some 0;
      }) (spent mid) (spent now)
      → WithinCosts (migrating_costs (m old)) (spent before) (spent now)
  costs_at m bytes contents size before mid now holds opens sized within same costs =
      subst (λ (o : Option (List ℕ)). WithinCosts (migrating_costs o) (spent before) (spent now))
      (sym holds)
      (costs_on (Some bytes) contents size before mid now opens sized within same costs)

  -- what is spent where nothing is written
  refused_calls : (x : Result Contents TableFault) → 2 * pieces_of (former_size x) ≤ moving_calls x
  refused_calls (Ok contents) = more (2 * pieces_of (old_size_of contents.rules.groups))
      (writing_calls (size_of contents.rules.groups))
    where
      more : (a b : ℕ) → a ≤ a + b
      more a b = omega arith
  refused_calls (Err fault) = omega arith

  unwritten_costs : (held : Option (List ℕ)) (before mid : World)
      → WithinFormer held before.store mid.store → mid.steps ≡ before.steps
      → WithinCosts (migrating_costs held) (spent before) (spent mid)
  unwritten_costs held before mid within same =
      let few = refused_calls (opened old_format held) in
      record {
        steps = omega (arith, same);
        calls = enough (opening_calls old_format held)
            (2 * pieces_of (former_size (opened old_format held)))
            (moving_calls (opened old_format held)) few within.calls;
        asked = within.asked;
      }
    where
      enough : (first part whole : ℕ) → part ≤ whole
          → mid.store.calls ≤ before.store.calls + (first + part)
          → mid.store.calls ≤ before.store.calls + (first + whole)
      enough first part whole h few = omega (arith, h, few)

  module _ (files : Files) (input : List ℕ) (before mid : World)
      (agrees : Agrees before files input) (steps : mid.steps ≡ before.steps) where
    -- the table was refused
    refused_so : (fault : TableFault) → (h : RefusesFormer old before.store mid.store fault)
        → opened old_format h.held ≡ Err fault
        → SaysAll (migrating_at old new) (table_status fault) (table_line fault) files input before
        mid
    refused_so fault h e =
        let at = holds_old old h.held before.store mid.store h.may h.within in record {
          found = found_where (migrating_at old new) at.files files input before (λ e. cc) at.agrees
              agrees;
          answer = answer_of h.held (Err fault) at.files
              (says (table_status fault) (table_line fault) at.files) at.holds e refl;
          costs = subst (λ (o : Option (List ℕ)). WithinCosts (migrating_costs o) (spent before)
              (spent mid)) (sym at.holds) (unwritten_costs h.held before mid h.within steps);
        }

    begun_so : (fault : TableFault) → (h : RefusesFormer old before.store mid.store fault)
        → StopsWith (migrating_at old new) (stop_of_table Failed) files input before mid
    begun_so fault h =
        let at = holds_old old h.held before.store mid.store h.may h.within in record {
          found = found_where (migrating_at old new) at.files files input before (λ e. cc) at.agrees
              agrees;
          some = some_migrated_at old new at.files;
          costs = subst (λ (o : Option (List ℕ)). WithinCosts (migrating_costs o) (spent before)
              (spent mid)) (sym at.holds) (unwritten_costs h.held before mid h.within steps);
        }

    pub stopped_so : (fault : TableFault) → RefusesFormer old before.store mid.store fault
        → StopsWith (migrating_at old new) (stop_of_table fault) files input before mid
    stopped_so fault h =
        stops_by (migrating_at old new) files input before mid (opened old_format h.held) fault
        (refused_so fault h) (begun_so fault h) h.refuses
