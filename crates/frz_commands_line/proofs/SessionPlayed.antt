-- How `play` ends by an open table.
use Rattle.std.proofs.Common.{◌≡◌, ◌↔◌, refl, sym, ap, subst, ◌∙◌, ℕ, ◌+◌, ◌-◌, ◌≤◌, List, [], ◌++◌, length, Result, Ok, Err, IfSome, true, arith, append_assoc, append-nil, length-append}
use Rattle.frz_board.specs.declared.man.Colour.{Colour}
use Rattle.frz_board.specs.Boards.{Board}
use Rattle.frz_index.specs.Members.{Member}
use Rattle.frz_store.specs.Files.{Files}
use Rattle.frz_store.specs.Told.{StoreTold, SourceTold, SinkTold, StoreQuiet, StoreFine}
use Rattle.frz_table.specs.Opening.{contents_of}
use Rattle.frz_table.specs.Tables.{Table}
use Rattle.frz_answer.specs.declared.status.Status.{Status}
use Rattle.frz_answer.specs.declared.fault.Fault.{Fault}
use Rattle.frz_answer.specs.declared.fault.Fault.TheVariants as stops
use Rattle.frz_answer.specs.declared.end.End.{End}
use Rattle.frz_answer.specs.declared.end.End.TheVariants.{Stopped, SinkFault}
use Rattle.frz_answer.specs.Statuses.{OneOf}
use Rattle.frz_answer.specs.Texts.{TookText, FailedWithin}
use Rattle.frz_answer.specs.World.{World, world, Agrees, Spent, spent, spent_by}
use Rattle.frz_answer.specs.Answers.{Answer, says, behind, IsLines}
use Rattle.frz_answer.specs.Jobs.{Job}
use Rattle.frz_answer.specs.Ends.{MayMeet, Ran, Said}
use Rattle.frz_answer.proofs.Lemmas.{said, stopped}
use Rattle.frz_prelude.specs.Refusals.{status_of, refusal_line}
use Rattle.frz_prelude.specs.declared.refused.Refused.TheVariants as refusals
use Rattle.frz_ways.specs.declared.end.LineFault.TheVariants as faults
use Rattle.frz_ways.specs.declared.opponent.Opponent.TheVariants as opponents
use Rattle.frz_ways.specs.declared.session_end.PlayFault.{PlayFault}
use Rattle.frz_ways.specs.declared.session_end.PlayFault.TheVariants as plays
use Rattle.frz_ways.specs.declared.session_end.SessionEnd.{SessionEnd}
use Rattle.frz_ways.specs.SessionEnds.{Tells, StopsShort, Finishes}
use Rattle.frz_ways.specs.SessionFaults.{WroteBy, StoreCause, InputCause, TookBytes, MayHold}
use Rattle.frz_ways.specs.PlaySession.{TellsSession}
use Rattle.frz_ways.specs.Sessions.{EndOfSession}
use Rattle.frz_commands_line.specs.SessionEnds.{session_status, session_naming, EndsSession}
use Rattle.frz_commands_line.specs.Later.{held_later}
use Rattle.frz_commands_line.specs.LineOf.{code_at, codes_later}
use Rattle.frz_commands_line.specs.SessionOf.{SessionComes, played_text, session_answer, IsSessionBy}
use Rattle.frz_commands_line.specs.WayJobs.{way_in}
use Rattle.frz_game.specs.Games.{graph_by}
use Rattle.frz_exits.specs.Books.{value_by}
use Rattle.frz_index.specs.Members.{Num}
use Rattle.frz_ways.specs.Reading.{opened}
use Rattle.frz_commands_line.proofs.Behind.{Splits, after_lines, cut_within, ended_as, rest_after}
use Rattle.frz_commands_line.proofs.OpeningCosts.{costs_inside, costs_nothing}
use Rattle.frz_commands_line.proofs.OutsideSet.{outside_ran}
use Rattle.frz_commands_line.proofs.KnownLine.{by_member}
use Rattle.frz_commands_line.proofs.SessionSeen.{SessionThere, SessionSo, session_so}
use Rattle.frz_commands_line.proofs.WayAnswered.{answered_inside, answered_outside}
use Rattle.frz_commands_line.proofs.SessionTexts.{Answered, answered_at, never_cut}
use Rattle.frz_commands_line.proofs.InputTaken.{found_in, lines_came, never_both, quiet_then, rest_left, unfailed_source}

-- what was written of the session and taken of the input
abbrev pub Played : Table → (later : ℕ → Files) → Colour → Board → Result SessionEnd PlayFault
    → SourceTold
    → SourceTold → SinkTold → SinkTold → (before now : Spent) → Type 0
Played table later side p result source gone old new before now =
    (text : List ℕ) × (took : List ℕ) × IsLines text × WroteBy result text old new
    × TookBytes took source gone
    × ((whole : List ℕ) × MayHold source whole
    × TellsSession table.rules side
    (codes_later (contents_of table) (held_later later table.name) side) p whole took text result
    before now)

-- neither count of the input has fallen
input_later : (result : Result SessionEnd PlayFault) (source gone : SourceTold)
    → InputCause result source gone → source.faults ≤ gone.faults
input_later (Ok end) source gone cause = omega (arith, cause)
input_later (Err (plays.Line fault)) source gone cause = omega (arith, cause)
input_later (Err plays.Input) source gone cause = cause.later
input_later (Err (plays.Limit limit)) source gone cause = omega (arith, cause)

module _ (there : SessionThere) (later_files : ℕ → Files) (table : Table) (side : Colour)
    (p : Board) (store left : StoreTold)
    (source gone : SourceTold) (out mid taken : SinkTold) (before now : ℕ)
    (quiet : StoreQuiet store left) (later : before ≤ now) where
  abbrev job : Job
  job = way_in opponents.Input later_files table side p

  abbrev held : ℕ → List ℕ
  held = held_later later_files table.name

  abbrev old : World
  old = world store source out before

  abbrev between : World
  between = world store (unfailed_source source gone) mid before

  abbrev played : World
  played = world left gone mid now

  abbrev code_in : ℕ
  code_in = code_at (contents_of table) held side p

  module _ (inside : Member table.rules.groups p) (text took : List ℕ) (lines : IsLines text)
      (bytes : TookBytes took source gone) (fell : source.faults ≤ gone.faults) where
    abbrev Session : Result SessionEnd PlayFault → Type 0
    Session result = SessionSo (contents_of table) held side p text took result
        source (spent_by store before) (spent_by left now)

    abbrev TellsIt : Result SessionEnd PlayFault → Type 0
    TellsIt result =
        (whole : List ℕ) × MayHold source whole
        × TellsSession table.rules side (codes_later (contents_of table) held side) p
        whole took text
        result (spent_by store before) (spent_by left now)

    so_in : (result : Result SessionEnd PlayFault) → TellsIt result → Session result
    so_in result tells =
        session_so there (contents_of table) held side p text took result source
        (spent_by store before) (spent_by left now) inside tells

    abbrev rest_of : (result : Result SessionEnd PlayFault) (m : Files) → Session result → List ℕ
    rest_of result m so = so.of.unread ++ so.left.left

    split_in : (result : Result SessionEnd PlayFault) → TellsIt result → (m : Files) (i : List ℕ)
        → Agrees old m i → Splits job took m i old
    split_in result tells m i agrees =
        let so = so_in result tells in
        record {
          found = found_in job m i old so.input refl agrees.store so.may;
          rest = rest_of result m so;
          split = so.of.takes;
        }

    -- what was spent is within the costs of the session
    session_costs : (result : Result SessionEnd PlayFault) (m : Files) (so : Session result)
        (a : Answer) → job.costs m so.input a (spent old) (spent played)
    session_costs result m so a =
        costs_inside (contents_of table) p
        (SessionComes held side p so.input (contents_of table)) (spent old)
        (spent played) inside so.costs

    rest_costs : (result : Result SessionEnd PlayFault) (m : Files) (so : Session result)
        (a : Answer) → job.costs m (took ++ rest_of result m so) a (spent old) (spent played)
    rest_costs result m so a = subst (λ (i : List ℕ). job.costs m i a (spent old) (spent played))
        (sym so.of.takes) (session_costs result m so a)

    -- an answer is this one of the session
    is_answer : (result : Result SessionEnd PlayFault) (m : Files) (so : Session result)
        (answer : Result SessionEnd PlayFault) → Tells side so.end answer → (a : Answer)
        → a ≡ session_answer side code_in so.input so.plies so.end so.left answer m
        → job.answers m so.input a
    is_answer result m so answer tells a e =
        answered_inside opponents.Input (contents_of table) held side p m so.input a inside
        (record {
          plies = so.plies;
          end = so.end;
          left = so.left;
          session = so.session;
          answer = answer;
          tells = tells;
          told = e;
        })

    -- how many bytes the session takes
    many_taken : (result : Result SessionEnd PlayFault) (m : Files) (so : Session result)
        → length took + length so.of.unread ≡ length so.input - length so.left.left
    many_taken result m so =
        let all = ap length so.of.takes in
        let first = length-append took (so.of.unread ++ so.left.left) in
        let then = length-append so.of.unread so.left.left in
        omega (arith, all, first, then)

    abbrev this : Files → Status → List ℕ → ℕ → Answer
    this m status line many = record { status = status; text = line; files = m; taken = many }

    -- an answer behind what was written and taken is that of the session
    behind_it : (result : Result SessionEnd PlayFault) (m : Files) (so : Session result)
        (answer : Result SessionEnd PlayFault) → Tells side so.end answer
        → (line : List ℕ) (many : ℕ)
        → text ++ line ≡ played_text side code_in so.plies so.end answer
        → many ≡ length so.of.unread
        → job.answers m (took ++ rest_of result m so)
        (behind text (length took) (this m (session_status answer) line many))
    behind_it result m so answer tells line many texts unread =
        let whole = played_text side code_in so.plies so.end answer in
        let takes : length took + many ≡ length so.input - length so.left.left =
        ap (λ n. length took + n) unread ∙ many_taken result m so in
        let same : this m (session_status answer) (text ++ line) (length took + many)
        ≡ session_answer side code_in so.input so.plies so.end so.left answer m =
        ap (λ (l : List ℕ). this m (session_status answer) l (length took + many)) texts
        ∙ ap (λ n. this m (session_status answer) whole n) takes in
        subst (λ (i : List ℕ). job.answers m i
        (this m (session_status answer) (text ++ line) (length took + many))) (sym so.of.takes)
        (is_answer result m so answer tells
        (this m (session_status answer) (text ++ line) (length took + many)) same)

    left_told : (result : Result SessionEnd PlayFault) (m : Files) (so : Session result)
        → IfSome gone.left (λ told. told ≡ rest_of result m so)
    left_told result m so = rest_left took (rest_of result m so) so.input source.left gone.left
        so.of.takes bytes.behind so.may

    -- the whole session was written, and its end is told
    all_told : (result : Result SessionEnd PlayFault) (end : End) → TellsIt result
        → TookText text out mid → StoreFine store left → gone.faults ≡ source.faults
        → OneOf (session_status result) job.statuses
        → Said (session_status result) (session_naming result) end mid taken
        → ((final : EndOfSession) (rest unread : List ℕ) → Finishes result side final rest unread
        → Tells side final result × (rest ≡ []) × (unread ≡ []))
        → Ran job end old (world left gone taken now)
    all_told result end tells took_text fine unfailed own said_it whole =
        after_lines job text took end old between (world left gone taken now)
        (lines_came text took store source gone out mid before took_text bytes) lines refl refl
        (λ e. never_both true refl e) (λ m i agrees. split_in result tells m i agrees)
        (λ m i a costs. costs)
        (said (rest_after job text took) (session_status result) (session_naming result) end between
        played taken (quiet_then store left source gone mid before now quiet fell later)
        (record { store = fine; input = unfailed; out = refl }) own said_it
        (λ m i agrees.
        let so = so_in result tells in
        let ended = whole so.end so.of.rest so.of.unread so.of.finishes in
        let texts : text ++ session_naming result ≡ played_text side code_in so.plies so.end
        result =
        ap (λ (l : List ℕ). l ++ session_naming result)
        (sym (append-nil text) ∙ ap (λ (l : List ℕ). text ++ l) (sym ended.1) ∙ so.of.begins) in
        record {
          found = found_in (rest_after job text took) m i between (rest_of result m so) refl
              agrees.store (left_told result m so);
          answer = behind_it result m so result ended.0 (session_naming result) 0 texts
              (sym (ap length ended.2));
          costs = rest_costs result m so
              (this m (session_status result) (text ++ session_naming result) (length took + 0));
        }))

    -- what the session answers at its end
    answer_in : (result : Result SessionEnd PlayFault) (m : Files) (so : Session result)
        → Answered side so.end
    answer_in result m so =
        answered_at side so.end
        (λ cut. never_cut (graph_by table.rules (value_by table.rules)) side
        (codes_later (contents_of table) held side) 0 (opened so.input)
        (Num table.rules.groups p) so.plies so.left
        (subst (λ (e : EndOfSession). IsSessionBy (contents_of table) held side p
        so.input so.plies e so.left) cut so.session))

    rest_told : (result : Result SessionEnd PlayFault) (m : Files) (so : Session result)
        (answer : Result SessionEnd PlayFault)
        → text ++ (so.of.rest ++ session_naming answer) ≡ played_text side code_in so.plies
        so.end answer
    rest_told result m so answer =
        sym (append_assoc text so.of.rest (session_naming answer))
        ∙ ap (λ (l : List ℕ). l ++ session_naming answer) so.of.begins

    -- a fault of the store or of the input stopped the session
    stopped_short : (result : Result SessionEnd PlayFault) (fault : Fault) → TellsIt result
        → TookText text out mid → MayMeet job fault between played
        → ((final : EndOfSession) (rest unread : List ℕ) → Finishes result side final rest unread
        → StopsShort side final rest)
        → Ran job (Stopped fault) old played
    stopped_short result fault tells took_text meets short =
        after_lines job text took (Stopped fault) old between played
        (lines_came text took store source gone out mid before took_text bytes) lines refl refl
        (λ e. never_both true refl e) (λ m i agrees. split_in result tells m i agrees)
        (λ m i a costs. costs)
        (stopped (rest_after job text took) fault between played
        (quiet_then store left source gone mid before now quiet fell later)
        (meets_rest fault meets)
        (λ m i agrees.
        let so = so_in result tells in
        let final = answer_in result m so in
        let answer = final.answer in
        let line = so.of.rest ++ session_naming answer in
        let texts = rest_told result m so answer in
        record {
          found = found_in (rest_after job text took) m i between (rest_of result m so) refl
              agrees.store (left_told result m so);
          some = record {
            a = this m (session_status answer) line (length so.of.unread);
            answer = behind_it result m so answer final.tells line (length so.of.unread) texts refl;
            text = final.said so.of.rest (short so.end so.of.rest so.of.unread so.of.finishes);
          };
          costs = rest_costs result m so
              (this m (session_status answer) (text ++ line) (length took + length so.of.unread));
        }))
      where
        meets_rest : (f : Fault) → MayMeet job f between played
            → MayMeet (rest_after job text took) f between played
        meets_rest stops.Store h = h
        meets_rest stops.Input h = h
        meets_rest stops.NoMemory h = h

    -- the sink failed within the session
    cut_short : TellsIt (Err (plays.Line faults.Output)) → FailedWithin text out mid
        → Ran job SinkFault old played
    cut_short tells failed =
        cut_within job text took old (world left gone out now) mid refl
        (record { store = quiet.later; input = fell; out = omega arith; steps = later })
        quiet.unwritten bytes.behind failed
        (λ m i agrees.
        let result : Result SessionEnd PlayFault = Err (plays.Line faults.Output) in
        let so = so_in result tells in
        let final = answer_in result m so in
        let answer = final.answer in
        let a = session_answer side code_in so.input so.plies so.end so.left answer m in
        let many = many_taken result m so in
        record {
          found = found_in job m i old so.input refl agrees.store so.may;
          a = a;
          answer = is_answer result m so answer final.tells a refl;
          rest = so.of.rest ++ session_naming answer;
          begins = rest_told result m so answer;
          few = omega (arith, many);
          costs = session_costs result m so a;
        })

  -- the position is not in the set
  told_outside : (result : Result SessionEnd PlayFault) (end : End)
      → (Member table.rules.groups p → ⊥) → result ≡ Err (plays.Line faults.Outside)
      → played ≡ old → EndsSession result end mid taken
      → Ran job end old (world left gone taken now)
  told_outside result end none is same ends =
      outside_ran job old played end taken same refl
      (λ m i. answered_outside opponents.Input (contents_of table) held side p m i
      (says (status_of refusals.Outside) (refusal_line refusals.Outside) m) none refl)
      (λ m i a. costs_nothing (contents_of table) p
      (SessionComes held side p i (contents_of table)) (spent old) none)
      (subst (λ (r : Result SessionEnd PlayFault). EndsSession r end mid taken) is ends)

  -- the position is in the set: the session was played, and its end told
  told_inside : Member table.rules.groups p → (result : Result SessionEnd PlayFault) (end : End)
      → ((result ≡ Err (plays.Line faults.Outside)) ↔ (Member table.rules.groups p → ⊥))
      → StoreCause result store left → InputCause result source gone
      → EndsSession result end mid taken
      → Played table later_files side p result source gone out mid (spent_by store before)
      (spent_by left now) → Ran job end old (world left gone taken now)
  told_inside inside (Ok last) end outside cause input ends w =
      all_told inside w.0 w.1 w.2 w.4 (input_later (Ok last) source gone input) (Ok last) end w.5
      w.3 cause input refl ends (λ final rest unread h. h)
  told_inside inside (Err (plays.Limit limit)) end outside cause input ends w =
      all_told inside w.0 w.1 w.2 w.4 (input_later (Err (plays.Limit limit)) source gone input)
      (Err (plays.Limit limit)) end w.5 w.3 cause input refl ends (λ final rest unread h. h)
  told_inside inside (Err (plays.Line faults.NoBound)) end outside cause input ends w =
      all_told inside w.0 w.1 w.2 w.4
      (input_later (Err (plays.Line faults.NoBound)) source gone input)
      (Err (plays.Line faults.NoBound)) end w.5 w.3 cause input refl ends (λ final rest unread h. h)
  told_inside inside (Err (plays.Line (faults.Wrong x))) end outside cause input ends w =
      all_told inside w.0 w.1 w.2 w.4
      (input_later (Err (plays.Line (faults.Wrong x))) source gone input)
      (Err (plays.Line (faults.Wrong x))) end w.5 w.3 cause input refl ends
      (λ final rest unread h. h)
  told_inside inside (Err (plays.Line faults.Outside)) end outside cause input ends w =
      absurd (outside.0 refl inside)
  told_inside inside (Err (plays.Line faults.Store)) end outside cause input ends w =
      ended_as job old played taken end (Stopped stops.Store) ends
      (stopped_short inside w.0 w.1 w.2 w.4
      (input_later (Err (plays.Line faults.Store)) source gone input)
      (Err (plays.Line faults.Store)) stops.Store w.5 w.3 (refl, cause) (λ final rest unread h. h))
  told_inside inside (Err (plays.Line faults.NoMemory)) end outside cause input ends w =
      ended_as job old played taken end (Stopped stops.NoMemory) ends
      (stopped_short inside w.0 w.1 w.2 w.4
      (input_later (Err (plays.Line faults.NoMemory)) source gone input)
      (Err (plays.Line faults.NoMemory)) stops.NoMemory w.5 w.3 refl (λ final rest unread h. h))
  told_inside inside (Err plays.Input) end outside cause input ends w =
      ended_as job old played taken end (Stopped stops.Input) ends
      (stopped_short inside w.0 w.1 w.2 w.4 (input_later (Err plays.Input) source gone input)
      (Err plays.Input) stops.Input w.5 w.3 (refl, input.rose) (λ final rest unread h. h))
  told_inside inside (Err (plays.Line faults.Output)) end outside cause input ends w =
      ended_as job old played taken end SinkFault ends
      (cut_short inside w.0 w.1 w.2 w.4
      (input_later (Err (plays.Line faults.Output)) source gone input) w.5 w.3)

  pub session_ran : (result : Result SessionEnd PlayFault) (end : End)
      → ((result ≡ Err (plays.Line faults.Outside)) ↔ (Member table.rules.groups p → ⊥))
      → (result ≡ Err (plays.Line faults.Outside) → played ≡ old)
      → StoreCause result store left → InputCause result source gone
      → EndsSession result end mid taken
      → Played table later_files side p result source gone out mid (spent_by store before)
      (spent_by left now) → Ran job end old (world left gone taken now)
  session_ran result end outside untouched cause input ends w =
      by_member table.rules.groups p
      (λ inside. told_inside inside result end outside cause input ends w)
      (λ none. let is = outside.1 none in told_outside result end none is (untouched is) ends)
