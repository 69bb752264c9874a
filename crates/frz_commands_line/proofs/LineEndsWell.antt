-- `line` ends well by an open table: it did its job, also where a fault stops it.
use Rattle.std.proofs.Common.{◌≡◌, ◌↔◌, refl, sym, ap, subst, ◌∙◌, ℕ, ◌≤◌, List, [], ◌++◌, Result, Ok, Err, arith, append_assoc, append-nil}
use Rattle.frz_board.specs.declared.man.Colour.{Colour}
use Rattle.frz_board.specs.Boards.{Board}
use Rattle.frz_index.specs.Members.{Member}
use Rattle.frz_store.specs.Files.{Files}
use Rattle.frz_store.specs.Told.{StoreTold, SourceTold, SinkTold, StoreQuiet, StoreFine}
use Rattle.frz_table.specs.Opening.{contents_of}
use Rattle.frz_table.specs.Tables.{Table}
use Rattle.frz_answer.specs.declared.fault.Fault.{Fault}
use Rattle.frz_answer.specs.declared.fault.Fault.TheVariants.{Store, NoMemory}
use Rattle.frz_answer.specs.declared.end.End.{End}
use Rattle.frz_answer.specs.declared.end.End.TheVariants.{Stopped, SinkFault}
use Rattle.frz_answer.specs.Statuses.{OneOf}
use Rattle.frz_answer.specs.Texts.{TookText, FailedWithin}
use Rattle.frz_answer.specs.World.{World, world, Quiet, Spent, spent, spent_by}
use Rattle.frz_answer.specs.Answers.{Answer, says, IsLines}
use Rattle.frz_answer.specs.Jobs.{Job}
use Rattle.frz_answer.specs.Ends.{MayMeet, Ran, Said}
use Rattle.frz_answer.proofs.Lemmas.{as_given, drop_none, fine_store, quiet_both, said, stopped}
use Rattle.frz_prelude.specs.Refusals.{status_of, refusal_line}
use Rattle.frz_prelude.specs.declared.refused.Refused.TheVariants as refusals
use Rattle.frz_ways.specs.declared.end.LineEnd.{LineEnd}
use Rattle.frz_ways.specs.declared.end.LineFault.{LineFault}
use Rattle.frz_ways.specs.declared.end.LineFault.TheVariants as faults
use Rattle.frz_ways.specs.declared.opponent.Opponent.TheVariants.{Codes}
use Rattle.frz_ways.specs.BestLine.{TellsLine}
use Rattle.frz_ways.specs.Ends.{told, IsUnfinished, Finishes}
use Rattle.frz_ways.specs.Faults.{StoreCause, WroteBy}
use Rattle.frz_ways.specs.Texts.{line_text}
use Rattle.frz_commands_line.specs.Later.{held_later}
use Rattle.frz_commands_line.specs.LineEnds.{end_status, naming_line, EndsLine}
use Rattle.frz_commands_line.specs.LineOf.{code_at, codes_later, LineComes, told_text, line_answer}
use Rattle.frz_commands_line.specs.WayJobs.{way_in}
use Rattle.frz_commands_line.proofs.Behind.{rest_after, behind_lines, cut_within, ended_as}
use Rattle.frz_commands_line.proofs.Counting.{unfinished_said}
use Rattle.frz_commands_line.proofs.OpeningCosts.{costs_inside, costs_nothing}
use Rattle.frz_commands_line.proofs.OutsideSet.{outside_ran}
use Rattle.frz_commands_line.proofs.KnownLine.{LineThere, LineSo, by_member, line_so}
use Rattle.frz_commands_line.proofs.WayAnswered.{answered_inside, answered_outside}

-- what was written of the line, by the codes that were read
abbrev pub Wrote : Table → (later : ℕ → Files) → Colour → Board → Result LineEnd LineFault
    → SinkTold → SinkTold → (before now : Spent) → Type 0
Wrote table later side p result old new before now =
    (text : List ℕ) × IsLines text × WroteBy result text old new
    × TellsLine table.rules side
    (codes_later (contents_of table) (held_later later table.name) side) p text result before now

module _ (there : LineThere) (later_files : ℕ → Files) (table : Table) (side : Colour) (p : Board)
    (store left : StoreTold)
    (input : SourceTold) (out mid taken : SinkTold) (before now : ℕ)
    (quiet : StoreQuiet store left) (later : before ≤ now) where
  abbrev job : Job
  job = way_in Codes later_files table side p

  abbrev old : World
  old = world store input out before

  abbrev between : World
  between = world store input mid before

  abbrev played : World
  played = world left input mid now

  -- nothing was written to the store, whatever the sink took before
  quiet_with : (sink : SinkTold) → Quiet (world store input sink before) (world left input sink now)
  quiet_with sink = quiet_both store left input sink before now quiet later

  abbrev held : ℕ → List ℕ
  held = held_later later_files table.name

  abbrev Line : List ℕ → Result LineEnd LineFault → Type 0
  Line text result = LineSo (contents_of table) held side p text result
      (spent_by store before) (spent_by left now)

  abbrev code_in : ℕ
  code_in = code_at (contents_of table) held side p

  -- the numbers of the line
  abbrev Comes : List ℕ → Type 0
  Comes numbers = LineComes held side p (contents_of table) numbers

  -- what was spent is within the costs of the line
  line_costs : (inside : Member table.rules.groups p) (text : List ℕ)
      (result : Result LineEnd LineFault) (m : Files) (i : List ℕ) (so : Line text result)
      (a : Answer)
      → job.costs m i a (spent old) (spent played)
  line_costs inside text result m i so a =
      costs_inside (contents_of table) p Comes (spent old) (spent played) inside so.costs

  -- an answer is this one of the line
  is_answer : (inside : Member table.rules.groups p) (text : List ℕ)
      (result : Result LineEnd LineFault) (m : Files) (i : List ℕ) (so : Line text result)
      (a : Answer)
      → a ≡ line_answer side code_in so.plies (told side so.end) m → job.answers m i a
  is_answer inside text result m i so a e =
      answered_inside Codes (contents_of table) held side p m i a inside
      (record { plies = so.plies; end = so.end; line = so.line; told = e })

  module _ (inside : Member table.rules.groups p) (text : List ℕ) (lines : IsLines text) where
    abbrev TellsIt : Result LineEnd LineFault → Type 0
    TellsIt result = TellsLine table.rules side (codes_later (contents_of table) held side) p text
        result (spent_by store before) (spent_by left now)

    so_in : (result : Result LineEnd LineFault) → TellsIt result → Line text result
    so_in result tells =
        line_so there (contents_of table) held side p text result (spent_by store before)
        (spent_by left now) inside tells

    -- the whole line was written, and its end is told
    all_told : (result : Result LineEnd LineFault) (end : End) → TellsIt result
        → TookText text out mid → StoreFine store left
        → OneOf (end_status result) (rest_after job text []).statuses
        → Said (end_status result) (naming_line result) end mid taken
        → ((answer : Result LineEnd LineFault) (rest : List ℕ) → Finishes result answer rest
        → (result ≡ answer) × (rest ≡ []))
        → Ran job end old (world left input taken now)
    all_told result end tells took fine own said_it whole =
        behind_lines job text end old mid (world left input taken now) took lines refl refl
        (said (rest_after job text []) (end_status result) (naming_line result) end between played
        taken
        (quiet_with mid) (fine_store store left input mid before now fine) own said_it
        (λ m i agrees.
        let so = so_in result tells in
        let ended = whole (told side so.end) so.rest so.finishes in
        let written : text ≡ line_text side code_in so.plies (told side so.end) =
        sym (append-nil text) ∙ ap (λ (l : List ℕ). text ++ l) (sym ended.1) ∙ so.whole in
        let texts : text ++ naming_line result ≡ told_text side code_in so.plies
        (told side so.end) =
        ap (λ (l : List ℕ). l ++ naming_line result) written
        ∙ ap (λ (r : Result LineEnd LineFault). line_text side code_in so.plies
        (told side so.end) ++ naming_line r) ended.0 in
        let same : says (end_status result) (text ++ naming_line result) m ≡ line_answer side
        code_in so.plies (told side so.end) m =
        ap (λ (l : List ℕ). says (end_status result) l m) texts
        ∙ ap (λ (r : Result LineEnd LineFault). says (end_status r)
        (told_text side code_in so.plies (told side so.end)) m) ended.0 in
        record {
          found = as_given (rest_after job text []) m i between agrees;
          answer = is_answer inside text result m i so
              (says (end_status result) (text ++ naming_line result) m) same;
          costs = line_costs inside text result m i so
              (says (end_status result) (text ++ naming_line result) m);
        }))

    -- the rest of the line's answer
    rest_answer : (result : Result LineEnd LineFault) (m : Files) (so : Line text result)
        → text ++ (so.rest ++ naming_line (told side so.end)) ≡ told_text side code_in so.plies
        (told side so.end)
    rest_answer result m so =
        sym (append_assoc text so.rest (naming_line (told side so.end)))
        ∙ ap (λ (l : List ℕ). l ++ naming_line (told side so.end)) so.whole

    -- the store stopped the line
    stopped_short : (result : Result LineEnd LineFault) (fault : Fault) → TellsIt result
        → TookText text out mid → MayMeet (rest_after job text []) fault between played
        → ((answer : Result LineEnd LineFault) (rest : List ℕ) → Finishes result answer rest
        → IsUnfinished answer rest)
        → Ran job (Stopped fault) old played
    stopped_short result fault tells took meets short =
        behind_lines job text (Stopped fault) old mid played took lines refl refl
        (stopped (rest_after job text []) fault between played (quiet_with mid) meets
        (λ m i agrees.
        let so = so_in result tells in
        let answer = told side so.end in
        let rest = so.rest ++ naming_line answer in
        let whole = rest_answer result m so in
        let a = says (end_status answer) rest m in
        let same : says (end_status answer) (text ++ rest) m ≡ line_answer side code_in so.plies
        answer m =
        ap (λ (l : List ℕ). says (end_status answer) l m) whole in
        record {
          found = as_given (rest_after job text []) m i between agrees;
          some = record {
            a = a;
            answer = is_answer inside text result m i so (says (end_status answer) (text ++ rest) m)
                same;
            text = unfinished_said side so.end so.rest (short answer so.rest so.finishes);
          };
          costs = line_costs inside text result m i so (says (end_status answer) (text ++ rest) m);
        }))

    -- the sink failed within the line
    cut_short : TellsIt (Err faults.Output) → FailedWithin text out mid
        → Ran job SinkFault old played
    cut_short tells failed =
        cut_within job text [] old (world left input out now) mid refl (quiet_with out).later
        quiet.unwritten (drop_none input.left) failed
        (λ m i agrees.
        let so = so_in (Err faults.Output) tells in
        let answer = told side so.end in
        let whole = rest_answer (Err faults.Output) m so in
        let a = line_answer side code_in so.plies answer m in
        record {
          found = as_given job m i old agrees;
          a = a;
          answer = is_answer inside text (Err faults.Output) m i so a refl;
          rest = so.rest ++ naming_line answer;
          begins = whole;
          few = omega arith;
          costs = line_costs inside text (Err faults.Output) m i so a;
        })

  -- the position is not in the set
  told_outside : (result : Result LineEnd LineFault) (end : End) → (Member table.rules.groups p → ⊥)
      → result ≡ Err faults.Outside → played ≡ old → EndsLine result end mid taken
      → Ran job end old (world left input taken now)
  told_outside result end none is same ends =
      outside_ran job old played end taken same refl
      (λ m i. answered_outside Codes (contents_of table) held side p m i
      (says (status_of refusals.Outside) (refusal_line refusals.Outside) m) none refl)
      (λ m i a. costs_nothing (contents_of table) p Comes (spent old) none)
      (subst (λ (r : Result LineEnd LineFault). EndsLine r end mid taken) is ends)

  -- the position is in the set: the line was played, and its end told
  told_inside : Member table.rules.groups p → (result : Result LineEnd LineFault) (end : End)
      → ((result ≡ Err faults.Outside) ↔ (Member table.rules.groups p → ⊥))
      → StoreCause result store left → EndsLine result end mid taken
      → Wrote table later_files side p result out mid (spent_by store before) (spent_by left now)
      → Ran job end old (world left input taken now)
  told_inside inside (Ok last) end outside cause ends wrote =
      all_told inside wrote.0 wrote.1 (Ok last) end wrote.3 wrote.2 cause refl ends
      (λ answer rest h. h)
  told_inside inside (Err faults.Outside) end outside cause ends wrote =
      absurd (outside.0 refl inside)
  told_inside inside (Err faults.NoBound) end outside cause ends wrote =
      all_told inside wrote.0 wrote.1 (Err faults.NoBound) end wrote.3 wrote.2 cause refl ends
      (λ answer rest h. h)
  told_inside inside (Err (faults.Wrong w)) end outside cause ends wrote =
      all_told inside wrote.0 wrote.1 (Err (faults.Wrong w)) end wrote.3 wrote.2 cause refl ends
      (λ answer rest h. h)
  told_inside inside (Err faults.Store) end outside cause ends wrote =
      ended_as job old played taken end (Stopped Store) ends
      (stopped_short inside wrote.0 wrote.1 (Err faults.Store) Store wrote.3 wrote.2 (refl, cause)
      (λ answer rest h. h))
  told_inside inside (Err faults.NoMemory) end outside cause ends wrote =
      ended_as job old played taken end (Stopped NoMemory) ends
      (stopped_short inside wrote.0 wrote.1 (Err faults.NoMemory) NoMemory wrote.3 wrote.2 refl
      (λ answer rest h. h))
  told_inside inside (Err faults.Output) end outside cause ends wrote =
      ended_as job old played taken end SinkFault ends
      (cut_short inside wrote.0 wrote.1 wrote.3 wrote.2)

  pub line_ran : (result : Result LineEnd LineFault) (end : End)
      → ((result ≡ Err faults.Outside) ↔ (Member table.rules.groups p → ⊥))
      → (result ≡ Err faults.Outside → played ≡ old)
      → StoreCause result store left → EndsLine result end mid taken
      → Wrote table later_files side p result out mid (spent_by store before) (spent_by left now)
      → Ran job end old (world left input taken now)
  line_ran result end outside untouched cause ends wrote =
      by_member table.rules.groups p
      (λ inside. told_inside inside result end outside cause ends wrote)
      (λ none. let is = outside.1 none in told_outside result end none is (untouched is) ends)
