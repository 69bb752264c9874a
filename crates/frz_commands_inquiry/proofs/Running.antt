-- How `ask` ends with tables that were loaded.
use Rattle.std.proofs.Common.{◌≡◌, ◌⊎◌, refl, sym, ap, subst, ◌∙◌, ℕ, ◌≤◌, List, [], ◌∷◌, ◌++◌, take, drop, length, map, true, false, Option, Some, None, Result, Ok, Err, inl, inr, arith, append_assoc}
use Rattle.std.specs.Prelude.{IfSome}
use Rattle.std.specs.Option.{option_map}
use Rattle.std.specs.Io.KnownBytes.{append_known}
use Rattle.std.proofs.lemmas.List.{take-append-drop}
use Rattle.std.proofs.lemmas.List.{append-nil, length-map}
use Rattle.frz_store.specs.Bytes.{MayBeHeld}
use Rattle.frz_store.specs.Files.{Files}
use Rattle.frz_store.specs.Told.{StoreTold, SourceTold, SinkTold, StoreFine, StoreQuiet}
use Rattle.frz_table.specs.Opening.{Contents, contents_of}
use Rattle.frz_atlas.specs.Books.{Back}
use Rattle.frz_atlas.specs.BackTable.{BackTable}
use Rattle.frz_atlas.specs.FileOn.{loaded_back}
use Rattle.frz_atlas.specs.Links.{Link}
use Rattle.frz_atlas.specs.Loaded.{link_loaded}
use Rattle.frz_atlas.proofs.Lemmas.{loaded_backs}
use Rattle.frz_atlas.specs.Behind.{TableBytes, backs_in, link_of}
use Rattle.frz_atlas.specs.Held.{all_held}
use Rattle.frz_atlas.specs.Reading.{LoadsAtlas}
use Rattle.frz_atlas.specs.declared.reading.LoadedAtlas.{LoadedAtlas}
use Rattle.frz_atlas.proofs.Lemmas.{kept_backs}
use Rattle.frz_answer.specs.declared.end.End.{End}
use Rattle.frz_answer.specs.declared.end.End.TheVariants.{Done, SinkFault, Stopped}
use Rattle.frz_answer.specs.declared.fault.Fault.TheVariants as faults
use Rattle.frz_answer.specs.Answers.{Answer, NoMore, held}
use Rattle.frz_answer.specs.Ends.{EndsInLines, Leaves, LeavesNoRoom, MayEnd, Ran}
use Rattle.frz_answer.specs.Jobs.{Job, WithinCosts}
use Rattle.frz_answer.specs.Statuses.{OneOf}
use Rattle.frz_answer.specs.Texts.{FailedWithin, TookText}
use Rattle.frz_answer.specs.World.{World, world, spent}
use Rattle.frz_answer.proofs.Lemmas.{failed_first, failed_next, took_next}
use Rattle.frz_atlas_prelude.specs.Names.{has_twice}
use Rattle.frz_atlas_prelude.specs.declared.names.TheConstants.{MOST_BACKS}
use Rattle.frz_atlas_prelude.proofs.Lemmas.{Holds, apart_names_hold, as_many_as_names, over_held, within_held}
use Rattle.frz_ways.proofs.Lemmas.{held_whole, some_rest}
use Rattle.frz_commands_inquiry.specs.declared.inquiring.Broken.{Broken}
use Rattle.frz_commands_inquiry.specs.declared.inquiring.Broken.TheVariants.{Input, Output}
use Rattle.frz_commands_inquiry.specs.declared.inquiring.Halt.{Halt}
use Rattle.frz_commands_inquiry.specs.declared.inquiring.Halt.TheVariants.{InputEnded, Lines, LineLength}
use Rattle.frz_commands_inquiry.specs.declared.inquiring.TheConstants.{MOST_LINES}
use Rattle.frz_commands_inquiry.specs.AskOf.{IsAskedAt, IsAskedOver, answer_of, asked_over}
use Rattle.frz_commands_inquiry.specs.Asking.{ask_costs, asking_at}
use Rattle.frz_commands_inquiry.specs.Ending.{EndsInquiry, RunsInquiry}
use Rattle.frz_commands_inquiry.specs.Inquired.{InputCause, Inquired, IsAnswered}
use Rattle.frz_commands_inquiry.specs.Inquiries.{Inquiry, halt_line, halt_status, inquiry}
use Rattle.frz_commands_inquiry.specs.Places.{reply_to}

own_halt : (halt : Halt) (table : List ℕ) (behind : List (List ℕ))
    → OneOf (halt_status halt) (asking_at table behind).statuses
own_halt InputEnded table behind = refl
own_halt Lines table behind = refl
own_halt LineLength table behind = refl

-- a line that ends a text is not empty, nor is a text that it ends
pub halt_said : (text : List ℕ) (halt : Halt) → text ++ halt_line halt ≡ [] → ⊥
halt_said [] InputEnded e = cc
halt_said [] Lines e = cc
halt_said [] LineLength e = cc
halt_said (b ∷ text) halt e = cc

files_told : (told : Option Files) (files : Files) → MayBeHeld told files
    → told ≡ option_map (λ _. files) told
files_told None files h = refl
files_told (Some m) files h = ap Some h

module _ (table : List ℕ) (behind : List (List ℕ)) (apart : has_twice (table ∷ behind) ≡ false)
    (old new : StoreTold) (steps : ℕ) (quiet : StoreQuiet old new) (fine : StoreFine old new)
    (given : LoadedAtlas) (l : LoadsAtlas table behind old new given)
    (source left : SourceTold) (out taken : SinkTold) where
  abbrev job : Job
  job = asking_at table behind

  abbrev start : World
  start = world old source out steps

  abbrev after : World
  after = world new left taken steps

  abbrev own : BackTable
  own = given.table

  abbrev backs : List BackTable
  backs = given.backs.items

  abbrev reply : List ℕ → List ℕ
  reply = reply_to (link_loaded own) (map loaded_back backs)

  abbrev contents : Contents
  contents = contents_of own.table

  abbrev h : Holds old.files table behind (Some l.bytes) (all_held l.tables)
  h = apart_names_hold old.files table behind apart (Some l.bytes) (all_held l.tables) l.may
      l.may_all

  abbrev files : Files
  files = h.all.files

  same_backs : map loaded_back backs ≡ backs_in l.tables
  same_backs = sym (loaded_backs backs) ∙ kept_backs (map link_loaded backs) l.tables l.all_keep

  -- the answer by the loaded tables is that by the files
  by_files : (input : List ℕ)
      → IsAskedAt table behind input files (answer_of (inquiry reply MOST_LINES input) files)
  by_files input =
      over_held (IsAskedOver input files) table behind files (Some l.bytes) (all_held l.tables)
      h.here h.others (Ok contents) (Ok l.tables) l.opens l.all_open _
      (ap (λ (b : List Back). asked_over (link_loaded own) b input files) same_backs
      ∙ ap (λ (k : Link). asked_over k (backs_in l.tables) input files) l.keeps)

  within : WithinCosts (ask_costs (files table) (map files behind)) (spent start) (spent after)
  within =
      within_held ask_costs (Some l.bytes) (files table) (all_held l.tables) (map files behind)
      h.here h.others (spent start) (spent after)
      (record { steps = omega arith; calls = l.within.calls; asked = l.within.asked })

  no_more : (a : Answer) (k : ℕ) → k ≤ a.taken → left.left ≡ option_map (drop k) source.left
      → NoMore a start after
  no_more a k few behind_them = record {
    files = λ name. inl (ap (λ (o : Option Files). held o name) quiet.unwritten.files);
    left = (k, few, behind_them);
  }

  room : (end : End) → LeavesNoRoom end old new
  room (Done status) = λ none. quiet.unwritten.room ∙ none
  room SinkFault = tt
  room (Stopped fault) = tt

  -- so much of the answer to this input was given
  ran_so : (end : End) (input : List ℕ) → IfSome source.left (λ told. told ≡ input)
      → source.faults ≤ left.faults → out.faults ≤ taken.faults → MayEnd job end start after
      → EndsInLines job.speaks end out taken
      → Leaves end (answer_of (inquiry reply MOST_LINES input) files) start after
      → Ran job end start after
  ran_so end input may fell rose ends lines leaves = record {
    later = record { store = quiet.later; input = fell; out = rose; steps = omega arith };
    may = ends;
    lines = lines;
    only = quiet.unwritten;
    unwritten = λ _. quiet.unwritten;
    room = room end;
    answered = λ m i agrees. record {
      files = files;
      input = input;
      agrees = record { store = h.all.agrees; source = may };
      free = λ e. cc;
      untaken = λ e. cc;
      a = answer_of (inquiry reply MOST_LINES input) files;
      answer = by_files input;
      leaves = leaves;
      costs = within;
    };
  }

  module _ (answered : Result Halt Broken) (mid : SinkTold)
      (q : Inquired reply answered source left out mid) where
    abbrev rest : (rest : List ℕ) × IfSome left.left (λ l. l ≡ rest)
        × (q.over ≡ true → rest ≡ [])
    rest = some_rest left (q.over ≡ true) q.ended

    abbrev input : List ℕ
    input = q.bytes ++ rest.0

    may_input : IfSome source.left (λ told. told ≡ input)
    may_input = held_whole q.bytes source left q.took rest.0 rest.1

    abbrev told : Inquiry
    told = inquiry reply MOST_LINES input

    abbrev a : Answer
    a = answer_of told files

    so_far : IsAnswered answered q.text q.bytes told
    so_far = q.told rest.0 rest.2

    -- the sink failed within the text of the answer
    cut_ran : left.faults ≡ source.faults → length q.bytes ≤ a.taken
        → FailedWithin a.text out taken → Ran job SinkFault start after
    cut_ran same few failed =
        let k = failed.taken.0 in
        ran_so SinkFault input may_input (omega (arith, same)) failed.later failed.rose tt
        (record {
          written = take k a.text;
          rest = drop k a.text;
          begins = take-append-drop k a.text;
          text = failed.taken.1;
          others = no_more a (length q.bytes) few q.took.behind;
        })

    -- the last line was written, or the sink failed within it
    halt_ran : (halt : Halt) → IsAnswered (Ok halt) q.text q.bytes told
        → TookText q.text out mid → left.faults ≡ source.faults → (end : End)
        → EndsInquiry (Ok halt) end mid taken → Ran job end start after
    halt_ran halt is wrote same end said = by_end said.says
      where
        text_is : q.text ++ halt_line halt ≡ a.text
        text_is = sym (ap (λ (i : Inquiry). i.text ++ halt_line i.halt) is)

        taken_is : length q.bytes ≡ a.taken
        taken_is = sym (ap (λ (i : Inquiry). i.taken) is)

        status_is : a.status ≡ halt_status halt
        status_is = ap (λ (i : Inquiry). halt_status i.halt) is

        by_end : ((end ≡ Done (halt_status halt)) × TookText (halt_line halt) mid taken)
            ⊎ ((end ≡ SinkFault) × FailedWithin (halt_line halt) mid taken)
            → Ran job end start after
        by_end (inl done) =
            let took : TookText a.text out taken = subst (λ (t : List ℕ). TookText t out taken)
            text_is (took_next wrote done.1) in
            let rose = took.faults in
            subst (λ (e : End). Ran job e start after) (sym done.0)
            (ran_so (Done (halt_status halt)) input may_input (omega (arith, same))
            (omega (arith, rose))
            (own_halt halt table behind, record { store = fine; input = same; out = rose }) tt (
              status_is,
              record {
                files = quiet.unwritten.files ∙ files_told old.files files h.all.agrees;
                left = q.took.behind ∙ ap (λ n. option_map (drop n) source.left) taken_is;
                text = took.taken;
              },
            ))
        by_end (inr failed) =
            subst (λ (e : End). Ran job e start after) (sym failed.0)
            (cut_ran same (omega (arith, taken_is))
            (subst (λ (t : List ℕ). FailedWithin t out taken) text_is
            (failed_next wrote failed.1)))

    -- a fault came within the replies
    rest_is : (more : List ℕ) → q.text ++ more ≡ told.text
        → q.text ++ (more ++ halt_line told.halt) ≡ a.text
    rest_is more is =
        sym (append_assoc q.text more (halt_line told.halt))
        ∙ ap (λ (t : List ℕ). t ++ halt_line told.halt) is

    input_ran : ((more : List ℕ) × (q.text ++ more ≡ told.text)) × (length q.bytes ≤ told.taken)
        → TookText q.text out taken → source.faults ≤ left.faults
        → MayEnd job (Stopped faults.Input) start after
        → Ran job (Stopped faults.Input) start after
    input_ran some wrote fell may =
        let rose = wrote.faults in
        let text : taken.taken ≡ append_known out.taken (q.text ++ []) =
        wrote.taken ∙ ap (append_known out.taken) (sym (append-nil q.text)) in
        ran_so (Stopped faults.Input) input may_input fell (omega (arith, rose)) may
        (record { lines = q.text; whole = q.lines; text = text }, λ e. cc)
        (record {
          lines = q.text;
          rest = some.0.0 ++ halt_line told.halt;
          whole = q.lines;
          begins = rest_is some.0.0 some.0.1;
          more = halt_said some.0.0 told.halt;
          text = text;
          others = no_more a (length q.bytes) some.1 q.took.behind;
        })

  by_answer : (answered : Result Halt Broken) (mid : SinkTold)
      (q : Inquired reply answered source left out mid) → InputCause answered source left
      → (end : End) → EndsInquiry answered end mid taken → Ran job end start after
  by_answer (Ok halt) mid q cause end ends =
      halt_ran (Ok halt) mid q halt (so_far (Ok halt) mid q) q.wrote cause end ends
  by_answer (Err Input) mid q cause end ends =
      subst (λ (e : End). Ran job e start after) (sym ends.0)
      (input_ran (Err Input) mid q (so_far (Err Input) mid q)
      (subst (λ (o : SinkTold). TookText q.text out o) (sym ends.1) q.wrote) cause.later
      (refl, cause.rose))
  by_answer (Err Output) mid q cause end ends =
      let some = so_far (Err Output) mid q in
      let whole = told (Err Output) mid q in
      subst (λ (e : End). Ran job e start after) (sym ends.0)
      (cut_ran (Err Output) mid q cause some.1
      (subst (λ (t : List ℕ). FailedWithin t out taken)
      (rest_is (Err Output) mid q some.0.0 some.0.1)
      (failed_first (some.0.0 ++ halt_line whole.halt)
      (subst (λ (o : SinkTold). FailedWithin q.text out o) (sym ends.1) q.wrote))))

  pub asked_ran : (end : End) → RunsInquiry reply end source left out taken
      → Ran job end start after
  asked_ran end r = by_answer r.answered r.mid r.inquired r.cause end r.ends

-- no more tables were loaded than are named
pub few_loaded : (table : List ℕ) (behind : List (List ℕ)) → length behind ≤ MOST_BACKS
    → (old new : StoreTold) (given : LoadedAtlas) → LoadsAtlas table behind old new given
    → (these : List BackTable) → these ≡ given.backs.items → length these ≤ MOST_BACKS
few_loaded table behind few old new given l these same =
    let many = as_many_as_names old.files behind (all_held l.tables) l.may_all in
    let held = length-map l.tables (λ (t : TableBytes). Some t.bytes) in
    let links = length-map l.tables link_of in
    let loaded = length-map given.backs.items link_loaded in
    let keep = ap (length {A = Link}) l.all_keep in
    let as_many = ap (length {A = BackTable}) same in
    omega (arith, few, many, held, links, loaded, keep, as_many)
