-- How a command ends by tables that were loaded: its journey is told, or the position is outside.
use Rattle.std.proofs.Common.{◌≡◌, ◌↔◌, refl, sym, ap, subst, ◌∙◌, ℕ, ◌+◌, ◌-◌, ◌≤◌, List, [], ◌∷◌, ◌++◌, length, map, true, false, Option, Some, Result, Ok, Err, arith, append_assoc, append-nil, length-append}
use Rattle.std.specs.Prelude.{MatchBool}
use Rattle.std.specs.Option.{unwrap_or}
use Rattle.frz_board.specs.Boards.{Board}
use Rattle.frz_board.specs.declared.man.Colour.{Colour}
use Rattle.frz_index.specs.Members.{Member}
use Rattle.frz_index.proofs.Lemmas.{of_member}
use Rattle.frz_store.specs.Files.{Files}
use Rattle.frz_store.specs.Told.{StoreTold, SourceTold, SinkTold, StoreQuiet, StoreFine}
use Rattle.frz_table.specs.declared.fault.TableFault.{TableFault}
use Rattle.frz_table.specs.Opening.{Contents, contents_of, opened, own_format}
use Rattle.frz_journeys.specs.Links.{Link}
use Rattle.frz_atlas_prelude.specs.Behind.{TableBytes, link_of}
use Rattle.frz_atlas_prelude.specs.Held.{all_held}
use Rattle.frz_atlas_prelude.specs.Loading.{opened_all}
use Rattle.frz_atlas_prelude.specs.Reading.{LoadsAtlas}
use Rattle.frz_atlas_prelude.specs.LoadedAtlas.{LoadedAtlas}
use Rattle.frz_answer.specs.declared.status.Status.{Status}
use Rattle.frz_answer.specs.declared.status.Status.TheVariants as statuses
use Rattle.frz_answer.specs.declared.fault.Fault.TheVariants as stops
use Rattle.frz_answer.specs.declared.end.End.{End}
use Rattle.frz_answer.specs.declared.end.End.TheVariants.{Stopped, SinkFault}
use Rattle.frz_answer.specs.Statuses.{OneOf, subset}
use Rattle.frz_answer.specs.Texts.{TookText, FailedWithin}
use Rattle.frz_answer.specs.World.{World, world, Agrees, spent}
use Rattle.frz_answer.specs.Answers.{Answer, says, behind, IsLines}
use Rattle.frz_answer.specs.Jobs.{Job, WithinCosts}
use Rattle.frz_answer.specs.Ends.{Ran, Said}
use Rattle.frz_answer.proofs.Lemmas.{Found, fine_store, quiet_both, said, stopped}
use Rattle.frz_prelude.specs.Refusals.{status_of, refusal_line}
use Rattle.frz_prelude.specs.declared.refused.Refused.TheVariants as refusals
use Rattle.frz_prelude.proofs.Lemmas.{found_where}
use Rattle.frz_atlas_prelude.specs.Names.{has_twice}
use Rattle.frz_atlas_prelude.proofs.Lemmas.{Holds, apart_names_hold}
use Rattle.frz_ways.specs.declared.end.LineFault.TheVariants as faults
use Rattle.frz_ways.specs.declared.opponent.Opponent.{Opponent}
use Rattle.frz_ways.specs.declared.opponent.Opponent.TheVariants.{Codes, Input as Lines}
use Rattle.frz_ways.specs.declared.opponent.Player.{Player}
use Rattle.frz_ways.specs.declared.session_end.PlayFault.{PlayFault}
use Rattle.frz_ways.specs.declared.session_end.PlayFault.TheVariants as plays
use Rattle.frz_ways.specs.declared.way_end.WayEnd.{WayEnd}
use Rattle.frz_ways.specs.Reading.{Input, opened as first_input}
use Rattle.frz_ways.specs.SessionFaults.{InputFailed, WroteBy}
use Rattle.frz_ways.specs.WayEnds.{IsAnswerOf}
use Rattle.frz_journeys.specs.declared.place.Arrival.{Arrival}
use Rattle.frz_journeys.specs.declared.place.Place.{Place}
use Rattle.frz_journeys.specs.declared.place.Place.TheVariants.{Own}
use Rattle.frz_journeys.specs.Arrivals.{Arrives, Finishes, StopsShort}
use Rattle.frz_journeys.specs.Journeys.{IsJourney, Stage}
use Rattle.frz_journeys.specs.JourneyTexts.{journey_text}
use Rattle.frz_journeys.specs.Playing.{TellsJourney, turns_in}
use Rattle.frz_commands_line.proofs.Lemmas.{after_lines, by_member, cut_within, ended_as, lines_came, not_member, once_is_not, quiet_then, rest_after, unfailed_source}
use Rattle.frz_commands_journeys.specs.Costs.{CostsAt, StepsBy, journey_costs}
use Rattle.frz_commands_journeys.specs.Endings.{EndsJourney, answer_status, naming}
use Rattle.frz_commands_journeys.specs.JourneyOf.{IsJourneyBy, IsPlayed, IsPlayedAt, IsPlayedBy, IsPlayedOver, heard_by, journey_answer, own_table, played_text}
use Rattle.frz_commands_line.specs.WayJobs.{takes_input}
use Rattle.frz_commands_journeys.specs.Journeying.{journeying_at, statuses_of}
use Rattle.frz_commands_journeys.proofs.InputHeard.{Hears, chosen, heard_whole, may_rest, may_whole, none_taken, split_there, untaken_is_free}
use Rattle.frz_commands_journeys.proofs.Texts.{SomeArrival, arrival_of, fault_said, short_said, some_stages}

-- that there is a journey
abbrev pub JourneyThere : Type 0
JourneyThere = (opponent : Opponent) (side : Colour) (before : List Link) (table : Link)
    (place : Place) (start : Board) (input : Input) → (stages : List Stage) × (left : Input)
    × IsJourney opponent side before table place start input stages left

-- the job ends with statuses of its own
own_all : (o : Opponent) → subset (statuses_of o) (statuses_of o) ≡ true
own_all Codes = refl
own_all Lines = refl

own_success : (o : Opponent) → OneOf statuses.Success (statuses_of o)
own_success Codes = refl
own_success Lines = refl

own_wrong : (o : Opponent) → OneOf statuses.Wrong (statuses_of o)
own_wrong Codes = refl
own_wrong Lines = refl

own_outside : (o : Opponent) → OneOf statuses.Outside (statuses_of o)
own_outside Codes = refl
own_outside Lines = refl

own_limit : (o : Opponent) → o ≡ Lines → OneOf statuses.Limit (statuses_of o)
own_limit Codes e = cc
own_limit Lines e = refl

-- how much of a journey was played that stopped at this place with this answer
pub record PlayedSo (player : Player) (p : Board) (contents : Contents) (bytes : List ℕ)
    (tables : List TableBytes) (whole took text : List ℕ) (place : Place)
    (answer : Result WayEnd PlayFault) (before now : ℕ) : Type 0 where
  pub stages : List Stage
  pub left : Input
  pub journey : IsJourneyBy player p contents bytes tables whole stages left
  pub rest : List ℕ
  pub unread : List ℕ
  pub begins : text ++ rest ≡ journey_text player.opponent player.side stages
  pub takes : took ++ (unread ++ left.left) ≡ whole
  pub finishes : Finishes player.side stages place answer rest unread
  pub turns : (others : List Stage) (last : Input)
      → IsJourneyBy player p contents bytes tables whole others last
      → now ≤ before + turns_in others
  pub final : SomeArrival player.side stages

pub played_so : JourneyThere → (player : Player) (p : Board) (contents : Contents)
    (bytes : List ℕ) (tables : List TableBytes) (whole took text : List ℕ) (arrival : Arrival)
    (before now : ℕ) → Member contents.rules.groups p
    → TellsJourney player.opponent player.side (map link_of tables) (own_table contents bytes) p whole
    took text arrival before now
    → PlayedSo player p contents bytes tables whole took text arrival.place arrival.answer before now
played_so there player p contents bytes tables whole took text arrival before now inside tells =
    let links = map link_of tables in
    let own = own_table contents bytes in
    let j = there player.opponent player.side links own Own p (first_input whole) in
    let so = tells inside j.0 j.1 j.2 in
    record {
      stages = j.0;
      left = j.1;
      journey = j.2;
      rest = so.0.rest;
      unread = so.0.unread;
      begins = so.0.begins;
      takes = so.0.takes;
      finishes = so.0.finishes;
      turns = λ others last k. (tells inside others last k).1;
      final = arrival_of player.side j.0
          (some_stages player.opponent player.side links own Own p (first_input whole) j.0 j.1 j.2);
    }

module _ (player : Player) (table : List ℕ) (behind_it : List (List ℕ)) (p : Board)
    (apart : has_twice (table ∷ behind_it) ≡ false) (store left : StoreTold)
    (quiet : StoreQuiet store left) (fine : StoreFine store left) (given : LoadedAtlas)
    (l : LoadsAtlas table behind_it store left given) (source gone : SourceTold)
    (out mid taken : SinkTold) (before now : ℕ) (later : before ≤ now) where
  abbrev contents : Contents
  contents = contents_of given.table.table

  abbrev job : Job
  job = journeying_at player table behind_it p

  abbrev h : Holds store.files table behind_it (Some l.bytes) (all_held l.tables)
  h = apart_names_hold store.files table behind_it apart (Some l.bytes) (all_held l.tables) l.may
      l.may_all

  abbrev files : Files
  files = h.all.files

  abbrev old : World
  old = world store source out before

  abbrev between : World
  between = world store (unfailed_source source gone) mid before

  abbrev played : World
  played = world left gone mid now

  -- an answer by the tables is one by the files that hold them
  by_files : (heard : List ℕ) (a : Answer)
      → IsPlayedOver player p contents l.bytes (Ok l.tables) heard files a
      → IsPlayedAt player table behind_it p heard files a
  by_files heard a is =
      subst (λ (o : Option (List ℕ)). IsPlayedBy player p (opened own_format o)
      (unwrap_or o []) (opened_all (map files behind_it)) heard files a) (sym h.here)
      (subst (λ (x : Result Contents TableFault). IsPlayedBy player p x l.bytes
      (opened_all (map files behind_it)) heard files a) (sym l.opens)
      (subst (λ (q : List (Option (List ℕ))). IsPlayedOver player p contents l.bytes (opened_all q)
      heard files a) (sym h.others)
      (subst (λ (y : Result (List TableBytes) (ℕ × TableFault)). IsPlayedOver player p contents
      l.bytes y heard files a) (sym l.all_open) is)))

  -- and so are the costs
  abbrev Within : (steps : ℕ) → Type 0
  Within steps =
      WithinCosts (journey_costs (Some l.bytes) (all_held l.tables) steps) (spent old) (spent played)

  costs_by_files : (heard : List ℕ)
      → StepsBy Within player p (Ok contents) l.bytes (Ok l.tables) heard
      → CostsAt player p (files table) (map files behind_it) heard (spent old) (spent played)
  costs_by_files heard within =
      subst (λ (o : Option (List ℕ)). CostsAt player p o (map files behind_it) heard (spent old)
      (spent played)) (sym h.here)
      (subst (λ (q : List (Option (List ℕ))). CostsAt player p (Some l.bytes) q heard (spent old)
      (spent played)) (sym h.others)
      (subst (λ (x : Result Contents TableFault). StepsBy Within player p x l.bytes
      (opened_all (all_held l.tables)) heard) (sym l.opens)
      (subst (λ (y : Result (List TableBytes) (ℕ × TableFault)). StepsBy Within player p
      (Ok contents) l.bytes y heard) (sym l.all_open) within)))

  within_steps : (steps : ℕ) → now ≤ before + steps → Within steps
  within_steps steps few = record { steps = few; calls = l.within.calls; asked = l.within.asked }

  module _ (inside : Member contents.rules.groups p) (text took whole : List ℕ)
      (lines : IsLines text) where
    abbrev So : Place → Result WayEnd PlayFault → Type 0
    So place answer =
        PlayedSo player p contents l.bytes l.tables whole took text place answer before now

    abbrev HearsSo : Result WayEnd PlayFault → Type 0
    HearsSo answer = Hears player.opponent whole took answer source gone

    module _ {place : Place} {answer : Result WayEnd PlayFault} (so : So place answer)
        (heard : HearsSo answer) where
      abbrev left_over : List ℕ
      left_over = so.unread ++ so.left.left

      -- the costs of the journey
      costs_here : (input : List ℕ) → heard_by player.opponent input ≡ whole → (a : Answer)
          → job.costs files input a (spent old) (spent played)
      costs_here input is a =
          costs_by_files (heard_by player.opponent input)
          (subst (λ (heard_of : List ℕ). StepsBy Within player p (Ok contents) l.bytes
          (Ok l.tables) heard_of) (sym is)
          (subst (λ b. MatchBool b ((stages : List Stage) (last : Input)
          → IsJourneyBy player p contents l.bytes l.tables whole stages last
          → Within (turns_in stages)) (Within 0)) (sym (of_member contents.rules.groups p inside))
          (λ stages last j. within_steps (turns_in stages) (so.turns stages last j))))

      -- an answer is this one of the journey
      answer_here : (input : List ℕ) → heard_by player.opponent input ≡ whole
          → (at : Place) (last : Result WayEnd PlayFault)
          → Arrives player.side so.stages at last → (a : Answer)
          → a ≡ journey_answer player whole so.stages so.left at last files
          → job.answers files input a
      answer_here input is at last arrives a e =
          subst (λ (heard_of : List ℕ). IsPlayedAt player table behind_it p heard_of files a) (sym is)
          (by_files whole a
          (subst (λ b. MatchBool b (IsPlayed player p contents l.bytes l.tables whole files a)
          (a ≡ says (status_of refusals.Outside) (refusal_line refusals.Outside) files))
          (sym (of_member contents.rules.groups p inside))
          (record {
            stages = so.stages;
            left = so.left;
            journey = so.journey;
            place = at;
            answer = last;
            arrives = arrives;
            told = e;
          })))

      -- the whole is heard over the input that is chosen, and behind what was taken of it
      heard_first : (free : List ℕ)
          → heard_by player.opponent (chosen player.opponent whole free) ≡ whole
      heard_first free = heard_whole whole took left_over answer source gone player.opponent heard free

      split_here : (free : List ℕ)
          → took ++ chosen player.opponent left_over free ≡ chosen player.opponent whole free
      split_here free =
          split_there whole took left_over answer source gone player.opponent heard so.takes free

      heard_behind : (free : List ℕ)
          → heard_by player.opponent (took ++ chosen player.opponent left_over free) ≡ whole
      heard_behind free = ap (heard_by player.opponent) (split_here free) ∙ heard_first free

      abbrev found_first : (m : Files) (free : List ℕ) → Agrees old m free → Found job m free old
      found_first m free agrees = record {
        files = files;
        input = chosen player.opponent whole free;
        agrees = record {
          store = h.all.agrees;
          source = may_whole whole took left_over answer source gone player.opponent heard free
              agrees.source;
        };
        free = λ never. once_is_not never;
        untaken = untaken_is_free player.opponent whole free;
      }

      abbrev found_behind : (m : Files) (free : List ℕ) → Agrees between m free
          → Found (rest_after job text took) m free between
      found_behind m free agrees = record {
        files = files;
        input = chosen player.opponent left_over free;
        agrees = record {
          store = h.all.agrees;
          source = may_rest whole took left_over answer source gone player.opponent heard so.takes
              free agrees.source;
        };
        free = λ never. once_is_not never;
        untaken = untaken_is_free player.opponent left_over free;
      }

      many_taken : length took + length so.unread ≡ length whole - length so.left.left
      many_taken =
          let all = ap length so.takes in
          let first = length-append took (so.unread ++ so.left.left) in
          let then = length-append so.unread so.left.left in
          omega (arith, all, first, then)

      abbrev this : Status → List ℕ → ℕ → Answer
      this status line many =
          record { status = status; text = line; files = files; taken = many }

      -- an answer behind what was written and taken is that of the journey
      behind_here : (free : List ℕ) (at : Place) (last : Result WayEnd PlayFault)
          → Arrives player.side so.stages at last → (line : List ℕ) (many : ℕ)
          → text ++ line ≡ played_text player so.stages at last → many ≡ length so.unread
          → job.answers files (took ++ chosen player.opponent left_over free)
          (behind text (length took) (this (answer_status last) line many))
      behind_here free at last arrives line many texts unread =
          let takes : length took + many ≡ length whole - length so.left.left =
          ap (λ n. length took + n) unread ∙ many_taken in
          answer_here (took ++ chosen player.opponent left_over free) (heard_behind free) at last
          arrives (this (answer_status last) (text ++ line) (length took + many))
          (ap (λ (t : List ℕ). this (answer_status last) t (length took + many)) texts
          ∙ ap (λ n. this (answer_status last) (played_text player so.stages at last) n) takes)

      rest_told : (at : Place) (last : Result WayEnd PlayFault)
          → text ++ (so.rest ++ naming at last) ≡ played_text player so.stages at last
      rest_told at last =
          sym (append_assoc text so.rest (naming at last))
          ∙ ap (λ (t : List ℕ). t ++ naming at last) so.begins

      -- the stages were written, and then what the command says
      after_stages : (end : End) (new : World) → TookText text out mid
          → ((m : Files) (i : List ℕ) (a : Answer)
          → (rest_after job text took).costs m i a (spent between) (spent new)
          → job.costs m (took ++ i) (behind text (length took) a) (spent old) (spent new))
          → Ran (rest_after job text took) end between new → Ran job end old new
      after_stages end new wrote costs ran =
          after_lines job text took end old between new
          (lines_came text took store source gone out mid before wrote heard.bytes) lines refl
          (own_all player.opponent)
          (none_taken whole took left_over answer source gone player.opponent heard)
          (λ m free agrees. record {
            found = found_first m free agrees;
            rest = chosen player.opponent left_over free;
            split = split_here free;
          })
          costs ran

      -- all was written, and the end is told
      all_told : (end : End) → TookText text out mid → gone.faults ≡ source.faults
          → OneOf (answer_status answer) job.statuses
          → Said (answer_status answer) (naming place answer) end mid taken
          → Arrives player.side so.stages place answer × (so.rest ≡ []) × (so.unread ≡ [])
          → Ran job end old (world left gone taken now)
      all_told end wrote unfailed own said_it ended =
          after_stages end (world left gone taken now) wrote (λ m i a costs. costs)
          (said (rest_after job text took) (answer_status answer) (naming place answer) end between
          played taken
          (quiet_then store left source gone mid before now quiet (omega (arith, unfailed)) later)
          (record { store = fine; input = unfailed; out = refl }) own said_it
          (λ m free agrees.
          let texts : text ++ naming place answer ≡ played_text player so.stages place answer =
          ap (λ (t : List ℕ). t ++ naming place answer)
          (sym (append-nil text) ∙ ap (λ (t : List ℕ). text ++ t) (sym ended.1) ∙ so.begins) in
          record {
            found = found_behind m free agrees;
            answer = behind_here free place answer ended.0 (naming place answer) 0 texts
                (sym (ap length ended.2));
            costs = costs_here (took ++ chosen player.opponent left_over free) (heard_behind free)
                (this (answer_status answer) (text ++ naming place answer) (length took + 0));
          }))

      -- the input stopped the journey
      stopped_short : TookText text out mid → player.opponent ≡ Lines → InputFailed source gone
          → StopsShort player.side so.stages so.rest → Ran job (Stopped stops.Input) old played
      stopped_short wrote session failed short =
          after_stages (Stopped stops.Input) played wrote (λ m i a costs. costs)
          (stopped (rest_after job text took) stops.Input between played
          (quiet_then store left source gone mid before now quiet failed.later later)
          (ap takes_input session, failed.rose)
          (λ m free agrees.
          let at = so.final.place in
          let last = so.final.answer in
          let line = so.rest ++ naming at last in
          record {
            found = found_behind m free agrees;
            some = record {
              a = this (answer_status last) line (length so.unread);
              answer = behind_here free at last so.final.arrives line (length so.unread)
                  (rest_told at last) refl;
              text = short_said player.side so.stages at last so.rest so.final.arrives short;
            };
            costs = costs_here (took ++ chosen player.opponent left_over free) (heard_behind free)
                (this (answer_status last) (text ++ line) (length took + length so.unread));
          }))

      -- the sink failed within the journey
      cut_short : FailedWithin text out mid → source.faults ≤ gone.faults
          → Ran job SinkFault old played
      cut_short failed fell = cut_within job text took old (world left gone out now) mid refl
          (record { store = quiet.later; input = fell; out = omega arith; steps = later })
          quiet.unwritten heard.bytes.behind failed
          (λ m free agrees.
          let at = so.final.place in
          let last = so.final.answer in
          let a = journey_answer player whole so.stages so.left at last files in
          let many = many_taken in
          record {
            found = found_first m free agrees;
            a = a;
            answer = answer_here (chosen player.opponent whole free) (heard_first free) at last
                so.final.arrives a refl;
            rest = so.rest ++ naming at last;
            begins = rest_told at last;
            few = omega (arith, many);
            costs = costs_here (chosen player.opponent whole free) (heard_first free) a;
          })

  -- the position is not in the set: nothing but loading was done
  told_outside : (place : Place) (end : End) → (Member contents.rules.groups p → ⊥)
      → gone ≡ source → mid ≡ out → now ≡ before
      → EndsJourney place (Err (plays.Line faults.Outside)) end mid taken
      → Ran job end old (world left gone taken now)
  told_outside place end none input_is out_is steps_is ends =
      subst (λ (i : SourceTold). Ran job end old (world left i taken now)) (sym input_is)
      (said job (status_of refusals.Outside) (refusal_line refusals.Outside) end old
      (world left source out now) taken (quiet_both store left source out before now quiet later)
      (fine_store store left source out before now fine) (own_outside player.opponent)
      (subst (λ (o : SinkTold). Said (status_of refusals.Outside) (refusal_line refusals.Outside)
      end o taken) out_is ends)
      (λ m free agrees.
      let a = says (status_of refusals.Outside) (refusal_line refusals.Outside) files in
      let heard_of = heard_by player.opponent free in
      record {
        found = found_where job files m free old (λ e. cc) h.all.agrees agrees;
        answer = by_files heard_of a
            (subst (λ b. MatchBool b
            (IsPlayed player p contents l.bytes l.tables heard_of files a) (a ≡ a))
            (sym (not_member contents.rules.groups p none)) refl);
        costs = costs_by_files heard_of
            (subst (λ b. MatchBool b ((stages : List Stage) (last : Input)
            → IsJourneyBy player p contents l.bytes l.tables heard_of stages last
            → Within (turns_in stages)) (Within 0))
            (sym (not_member contents.rules.groups p none))
            (within_steps 0 (omega (arith, steps_is))));
      }))

  -- what was written and taken of a journey against what was heard
  module _ (inside : Member contents.rules.groups p) (text took whole : List ℕ)
      (lines : IsLines text) (place : Place) (end : End) where
    told_inside : (answer : Result WayEnd PlayFault) → IsAnswerOf answer player.opponent
        → Hears player.opponent whole took answer source gone
        → (answer ≡ Err (plays.Line faults.Outside) → ⊥)
        → EndsJourney place answer end mid taken → WroteBy answer text out mid
        → PlayedSo player p contents l.bytes l.tables whole took text place answer before now
        → Ran job end old (world left gone taken now)
    told_inside (Ok last) kind heard never ends wrote so =
        all_told inside text took whole lines so heard end wrote heard.cause
        (own_success player.opponent) ends so.finishes
    told_inside (Err (plays.Limit limit)) kind heard never ends wrote so =
        all_told inside text took whole lines so heard end wrote heard.cause
        (own_limit player.opponent kind) ends so.finishes
    told_inside (Err (plays.Line faults.NoBound)) kind heard never ends wrote so =
        all_told inside text took whole lines so heard end wrote heard.cause
        (own_outside player.opponent) ends so.finishes
    told_inside (Err (plays.Line (faults.Wrong w))) kind heard never ends wrote so =
        all_told inside text took whole lines so heard end wrote heard.cause
        (own_wrong player.opponent) ends so.finishes
    told_inside (Err (plays.Line faults.Outside)) kind heard never ends wrote so =
        absurd (never refl)
    told_inside (Err (plays.Line faults.Store)) kind heard never ends wrote so =
        absurd (fault_said player.side so.stages place (plays.Line faults.Store) so.finishes.0 refl)
    told_inside (Err (plays.Line faults.NoMemory)) kind heard never ends wrote so =
        absurd (fault_said player.side so.stages place (plays.Line faults.NoMemory) so.finishes.0
        refl)
    told_inside (Err plays.Input) kind heard never ends wrote so =
        ended_as job old played taken end (Stopped stops.Input) ends
        (stopped_short inside text took whole lines so heard wrote kind heard.cause so.finishes)
    told_inside (Err (plays.Line faults.Output)) kind heard never ends wrote so =
        let same = heard.cause in
        ended_as job old played taken end SinkFault ends
        (cut_short inside text took whole lines so heard wrote (omega (arith, same)))

  -- what a journey wrote and took of what was heard
  abbrev pub Wrote : Arrival → Type 0
  Wrote arrival =
      (text : List ℕ) × (took : List ℕ) × (whole : List ℕ) × IsLines text
      × WroteBy arrival.answer text out mid
      × Hears player.opponent whole took arrival.answer source gone
      × TellsJourney player.opponent player.side (map link_of l.tables) (own_table contents l.bytes) p
      whole took text arrival before now

  pub journey_ran : JourneyThere → (arrival : Arrival) (end : End)
      → ((arrival.answer ≡ Err (plays.Line faults.Outside)) ↔ (Member contents.rules.groups p → ⊥))
      → (arrival.answer ≡ Err (plays.Line faults.Outside)
      → (gone ≡ source) × (mid ≡ out) × (now ≡ before))
      → IsAnswerOf arrival.answer player.opponent
      → EndsJourney arrival.place arrival.answer end mid taken → Wrote arrival
      → Ran job end old (world left gone taken now)
  journey_ran there arrival end outside untouched kind ends w =
      by_member contents.rules.groups p
      (λ inside. told_inside inside w.0 w.1 w.2 w.3 arrival.place end arrival.answer kind w.5
      (λ e. outside.0 e inside) ends w.4
      (played_so there player p contents l.bytes l.tables w.2 w.1 w.0 arrival before now inside w.6))
      (λ none.
      let is = outside.1 none in
      let same = untouched is in
      told_outside arrival.place end none same.0 same.1 same.2
      (subst (λ (r : Result WayEnd PlayFault). EndsJourney arrival.place r end mid taken) is ends))
