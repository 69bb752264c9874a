-- A journey as far as it was played.
use Rattle.std.proofs.Common.{◌≡◌, ◌≤◌, ◌+◌, ◌++◌, ℕ, List, [], ◌∷◌, map, take, Option, Some, None, Result, Ok, Err, append_assoc, append-nil, length, sym, subst, ap, ◌∙◌, arith}
use Rattle.std.specs.Prelude.{MatchOption, slice_get, slice_index}
use Rattle.std.proofs.lemmas.List.{take-map}
use Rattle.std.proofs.lemmas.List.Sums.{sum_by-cons}
use Rattle.frz_board.specs.Boards.{Board}
use Rattle.frz_board.specs.Moving.{Step}
use Rattle.frz_board.specs.declared.man.Colour.{Colour}
use Rattle.frz_sets.specs.declared.exit.Value.{Value}
use Rattle.frz_arena.specs.declared.arm.Next.TheVariants.{Inside}
use Rattle.frz_index.specs.Members.{HasNumber}
use Rattle.frz_backs.specs.Links.{Link, backs_of, value_over}
use Rattle.frz_chain.specs.declared.back.BackTable.{BackTable}
use Rattle.frz_backs.specs.Loaded.{link_loaded}
use Rattle.frz_ways.specs.declared.end.LineFault.TheVariants as faults
use Rattle.frz_ways.specs.declared.hearing.Reader.{Reader}
use Rattle.frz_ways.specs.declared.opponent.Opponent.{Opponent}
use Rattle.frz_ways.specs.declared.session_end.PlayFault.{PlayFault}
use Rattle.frz_ways.specs.declared.session_end.PlayFault.TheVariants as plays
use Rattle.frz_ways.specs.declared.way_end.Finish.{Finish}
use Rattle.frz_ways.specs.declared.way_end.Finish.TheVariants.{Here, Left}
use Rattle.frz_ways.specs.declared.way_end.WayEnd.{WayEnd}
use Rattle.frz_ways.specs.ChessGames.{after_plies}
use Rattle.frz_ways.specs.Costs.{way_numbers}
use Rattle.frz_ways.specs.Hearing.{MayFollow, StaysEnded}
use Rattle.frz_ways.specs.PlayLoaded.{IsSettled}
use Rattle.frz_ways.specs.PlayWay.{LeftBy}
use Rattle.frz_ways.specs.Reading.{Input}
use Rattle.frz_ways.specs.Shown.{PlaysShown, WayShown, shown_text}
use Rattle.frz_ways.specs.WayEnds as ways
use Rattle.frz_ways.specs.WayEnds.{ended, told, IsFinishOf}
use Rattle.frz_ways.specs.Ways.{GoesOn}
use Rattle.frz_journeys.specs.declared.onward.Entry.{Entry}
use Rattle.frz_journeys.specs.declared.place.Arrival.{Arrival}
use Rattle.frz_journeys.specs.declared.place.Place.{Place}
use Rattle.frz_journeys.specs.declared.place.Place.TheVariants.{Behind}
use Rattle.frz_journeys.specs.Arrivals.{Finishes}
use Rattle.frz_journeys.specs.Journeys.{Stage, IsJourney, IsStage, onward}
use Rattle.frz_journeys.specs.JourneyTexts.{journey_text, place_line}
use Rattle.frz_journeys.specs.Onward.{Finds, GoesOnward, left_to}
use Rattle.frz_journeys.specs.Playing.{JourneyPlayed, PlaysJourney, numbers_of, turns_in}
use Rattle.frz_journeys.specs.Tables.{arena_over, codes_of, next_of}
use Rattle.frz_journeys.proofs.JourneyFinished.{IsNoExit, end_here, exit_before, finishes_alone, finishes_later, first_there, input_short, later_there, no_table}
use Rattle.frz_journeys.proofs.Fronts.{Follows, later_front}
use Rattle.frz_journeys.proofs.Leaving.{AreGames, left_behind}

follows_both : (old new : Reader) (bytes left : List ℕ) → StaysEnded old new bytes
    → MayFollow new left → MayFollow old (bytes ++ left)
follows_both old new bytes left stays may = λ e.
    let s = stays e in ap (λ (l : List ℕ). l ++ left) s.0 ∙ may s.1

-- the steps of a stage are among those of the journey
first_turns : (stage : Stage) (stages : List Stage) (before now : ℕ)
    → now ≤ before + numbers_of stage → now ≤ before + turns_in (stage ∷ stages)
first_turns stage stages before now few =
    let all = sum_by-cons numbers_of stage stages in omega (arith, few, all)

later_turns : (stage : Stage) (stages : List Stage) (before mid now : ℕ)
    → mid ≤ before + numbers_of stage → now ≤ mid + turns_in stages
    → now ≤ before + turns_in (stage ∷ stages)
later_turns stage stages before mid now few more =
    let all = sum_by-cons numbers_of stage stages in omega (arith, few, more, all)

-- the text of a stage behind the line of its place
text_begins : (place : Place) (stage : Stage) (text rest way more : List ℕ) → stage.place ≡ place
    → text ++ rest ≡ way
    → (place_line place ++ text) ++ (rest ++ more) ≡ (place_line stage.place ++ way) ++ more
text_begins place stage text rest way more at begins =
    append_assoc (place_line place) text (rest ++ more)
    ∙ ap (λ (l : List ℕ). place_line place ++ l) (sym (append_assoc text rest more))
    ∙ ap (λ (l : List ℕ). place_line place ++ (l ++ more)) begins
    ∙ sym (append_assoc (place_line place) way more)
    ∙ ap (λ (q : Place). (place_line q ++ way) ++ more) (sym at)

-- and before the text of what follows
text_goes : (place : Place) (stage : Stage) (text written rest way more : List ℕ)
    → stage.place ≡ place → text ≡ way → written ++ rest ≡ more
    → ((place_line place ++ text) ++ written) ++ rest ≡ (place_line stage.place ++ way) ++ more
text_goes place stage text written rest way more at whole begins =
    append_assoc (place_line place ++ text) written rest
    ∙ ap (λ (l : List ℕ). (place_line place ++ text) ++ l) begins
    ∙ ap (λ (l : List ℕ). (place_line place ++ l) ++ more) whole
    ∙ ap (λ (q : Place). (place_line q ++ way) ++ more) (sym at)

module _ (opponent : Opponent) (side : Colour) (before : List BackTable) (table : BackTable)
    (place : Place) (start : ℕ) (p : Board) (has : HasNumber table.table.rules.groups start p) where
  abbrev tables : List Link
  tables = map link_loaded before

  abbrev own : Link
  own = link_loaded table

  abbrev IsOwnStage : Input → Stage → Input → Type 0
  IsOwnStage = IsStage opponent side tables own place p

  abbrev PlaysFrom : (old new : Reader) → (bytes text : List ℕ) → Arrival → (steps now : ℕ) → Type 0
  PlaysFrom = PlaysJourney opponent side tables own place p

  -- the way that the stage is
  stage_way : (input : Input) (stage : Stage) (mid : Input) → IsOwnStage input stage mid
      → GoesOn (arena_over tables own) opponent side (λ k. codes_of side own) 0 input start
      stage.plies stage.end mid
  stage_way input stage mid is =
      subst (λ n. GoesOn (arena_over tables own) opponent side (λ k. codes_of side own) 0 input n
      stage.plies stage.end mid) (is.numbered ∙ has.number) is.way

  -- a way that was played at the table
  module _ (old new : Reader) (bytes text : List ℕ) (steps now : ℕ) where
    abbrev pub IsPlayedSo : Result Finish PlayFault → Type 0
    IsPlayedSo result =
        PlaysShown (arena_over tables own) opponent side (codes_of side own) start old new bytes text
        result steps now

    -- is the stage of each journey from there
    stage_played : (result : Result Finish PlayFault) → IsPlayedSo result → (left : List ℕ)
        → MayFollow new left → (stage : Stage) (mid : Input)
        → IsOwnStage (record { left = bytes ++ left; more = old.more }) stage mid
        → WayShown opponent side stage.code stage.number (bytes ++ left) bytes text (ended result)
        stage.plies stage.end mid
        × (now ≤ steps + numbers_of stage)
        × LeftBy result (record { left = left; more = new.more }) stage.plies stage.end mid
    stage_played result played left may stage mid is =
        let same : stage.number ≡ start = is.numbered ∙ has.number in
        let code : slice_index (codes_of side own) start ≡ stage.code =
        ap (slice_index (codes_of side own)) (sym same) ∙ sym is.kept in
        let h = played left may stage.plies stage.end mid
        (stage_way (record { left = bytes ++ left; more = old.more }) stage mid is) in (
          subst (λ n. WayShown opponent side stage.code n (bytes ++ left) bytes text (ended result)
              stage.plies stage.end mid) (sym same)
              (subst (λ c. WayShown opponent side c start (bytes ++ left) bytes text (ended result)
              stage.plies stage.end mid) code h.0),
          subst (λ n. now ≤ steps + length (way_numbers (Inside (0, n)) stage.plies)) (sym same) h.1,
          h.2,
        )

    -- what a journey has done that stopped in this stage
    abbrev IsTold : Result Finish PlayFault → (left : List ℕ) → List Stage → Input → Type 0
    IsTold result left stages last =
        JourneyPlayed opponent side (bytes ++ left) bytes (place_line place ++ text)
        (record { place = place; answer = ended result }) stages last
        × (now ≤ steps + turns_in stages)

    abbrev IsFollowed : Stage → Input → List Stage → Input → Type 0
    IsFollowed stage mid stages last =
        Follows opponent side tables stage p mid stages last
        (onward tables own p stage.plies stage.end)

    -- where no table goes on, the stage is the whole journey
    stage_is_whole_journey : (result : Result Finish PlayFault) → IsPlayedSo result
        → IsSettled (ended result)
        → (left : List ℕ) → MayFollow new left → (stage : Stage) (stages : List Stage)
        (last mid : Input) → IsOwnStage (record { left = bytes ++ left; more = old.more }) stage mid
        → IsFollowed stage mid stages last → onward tables own p stage.plies stage.end ≡ None
        → IsTold result left (stage ∷ stages) last
    stage_is_whole_journey result played settled left may stage stages last mid is follows none =
        let h = stage_played result played left may stage mid is in
        let w = h.0 in
        let way = shown_text opponent side stage.code stage.number stage.plies stage.end in
        let over : (stages ≡ []) × (last ≡ mid) =
        subst (λ (o : Option (ℕ × Link)). Follows opponent side tables stage p mid stages last o) none
        follows in (
          subst (λ (ss : List Stage). JourneyPlayed opponent side (bytes ++ left) bytes
              (place_line place ++ text) (record { place = place; answer = ended result })
              (stage ∷ ss) last) (sym over.0) (record {
                rest = w.rest;
                unread = w.unread;
                begins = ap (λ (l : List ℕ). (place_line place ++ text) ++ l)
                    (sym (append-nil w.rest))
                    ∙ text_begins place stage text w.rest way [] is.at w.begins;
                takes = subst (λ (v : Input). bytes ++ (w.unread ++ v.left) ≡ bytes ++ left)
                    (sym over.1) w.takes;
                finishes = finishes_alone side stage place (ended result) w.rest w.unread (sym is.at)
                    settled w.finishes;
                there = first_there (λ (s : Stage). s.place ≡ place) stage [] is.at;
              }),
          first_turns stage stages steps now h.1,
        )

    -- where a fault cut the stage short, whatever follows it
    stage_cut_short : (result : Result Finish PlayFault) → IsPlayedSo result → (left : List ℕ)
        → MayFollow new left → (stage : Stage) (stages : List Stage) (last mid : Input)
        → IsOwnStage (record { left = bytes ++ left; more = old.more }) stage mid
        → IsFollowed stage mid stages last
        → ((rest unread later : List ℕ) → ways.Finishes (ended result) (told side stage.end) rest unread
        → Finishes side (stage ∷ stages) place (ended result)
        (rest ++ journey_text opponent side stages) later)
        → IsTold result left (stage ∷ stages) last
    stage_cut_short result played left may stage stages last mid is follows finish =
        let h = stage_played result played left may stage mid is in
        let w = h.0 in
        let way = shown_text opponent side stage.code stage.number stage.plies stage.end in
        let front = later_front opponent side tables stage p mid stages last
        (onward tables own p stage.plies stage.end) follows in (
          record {
            rest = w.rest ++ journey_text opponent side stages;
            unread = w.unread ++ front.0;
            begins = text_begins place stage text w.rest way (journey_text opponent side stages) is.at
                w.begins;
            takes = ap (λ (l : List ℕ). bytes ++ l) (append_assoc w.unread front.0 last.left
                ∙ ap (λ (l : List ℕ). w.unread ++ l) front.1) ∙ w.takes;
            finishes = finish w.rest w.unread (w.unread ++ front.0) w.finishes;
            there = first_there (λ (s : Stage). s.place ≡ place) stage stages is.at;
          },
          first_turns stage stages steps now h.1,
        )

    -- a fault or an end within the set
    stage_ended_within_set : (result : Result Finish PlayFault) (answer : Result WayEnd PlayFault)
        → IsPlayedSo result → IsSettled (ended result) → IsNoExit answer
        → ((rest unread : List ℕ) (due : Result WayEnd PlayFault)
        → ways.Finishes (ended result) due rest unread → answer ≡ due) → (left : List ℕ)
        → MayFollow new left → (stage : Stage) (stages : List Stage) (last mid : Input)
        → IsOwnStage (record { left = bytes ++ left; more = old.more }) stage mid
        → IsFollowed stage mid stages last → IsTold result left (stage ∷ stages) last
    stage_ended_within_set result answer played settled other is_due left may stage stages last mid
        is follows =
        let w = (stage_played result played left may stage mid is).0 in
        stage_is_whole_journey result played settled left may stage stages last mid is follows
        (no_table tables own p stage.plies side stage.end answer
        (is_due w.rest w.unread (told side stage.end) w.finishes) other)

    module _ (games : AreGames table.table.rules
        (value_over (link_loaded table).leans table.table.rules (backs_of tables)) opponent side
        (codes_of side own) start) where
      -- the position to which the stage has led
      led_to : (number : ℕ) (move : Step) (v : Value) → IsPlayedSo (Ok (Left number move v))
          → (left : List ℕ) → MayFollow new left → (stage : Stage) (mid : Input)
          → IsOwnStage (record { left = bytes ++ left; more = old.more }) stage mid
          → left_to table.table.rules.groups (Ok (Left number move v))
          ≡ Some (after_plies p stage.plies)
      led_to number move v played left may stage mid is =
          left_behind table.table.rules
          (value_over (link_loaded table).leans table.table.rules (backs_of tables)) opponent side
          (codes_of side own) start p has number move v (record { left = left; more = new.more }) mid
          (record { left = bytes ++ left; more = old.more }) stage.plies stage.end games
          (stage_way (record { left = bytes ++ left; more = old.more }) stage mid is)
          (stage_played (Ok (Left number move v)) played left may stage mid is).2

      -- by how the stage finished, where no table goes on
      by_finish : (result : Result Finish PlayFault) → IsPlayedSo result → IsSettled result
          → IsFinishOf result opponent → GoesOnward table before result None → (left : List ℕ)
          → MayFollow new left → (stage : Stage) (stages : List Stage) (last mid : Input)
          → IsOwnStage (record { left = bytes ++ left; more = old.more }) stage mid
          → IsFollowed stage mid stages last → IsTold result left (stage ∷ stages) last
      by_finish (Ok (Here end)) played settled kind none left may stage stages last mid is follows =
          stage_ended_within_set (Ok (Here end)) (Ok end) played tt (end_here end opponent kind)
          (λ rest unread due h. h.0) left may stage stages last mid is follows
      by_finish (Ok (Left number move v)) played settled kind none left may stage stages last mid is
          follows =
          let h = stage_played (Ok (Left number move v)) played left may stage mid is in
          let found : next_of tables own (after_plies p stage.plies) ≡ None =
          subst (λ (o : Option Board). MatchOption o (◌≡◌ {A = Option Entry} None None)
          (λ q. Finds before q (next_of tables own q) None))
          (led_to number move v played left may stage mid is) none in
          stage_is_whole_journey (Ok (Left number move v)) played tt left may stage stages last mid
          is follows
          (ap (onward tables own p stage.plies) h.2.0 ∙ found)
      by_finish (Err plays.Input) played settled kind none left may stage stages last mid is follows =
          stage_cut_short (Err plays.Input) played left may stage stages last mid is follows
          (λ rest unread later h. input_short side stage stages rest
          (journey_text opponent side stages)
          (λ next others e. exit_before tables own p stage.plies side stage.end mid stages last _
          follows next others e) h)
      by_finish (Err (plays.Limit limit)) played settled kind none left may stage stages last mid is
          follows =
          stage_ended_within_set (Err (plays.Limit limit)) (Err (plays.Limit limit)) played tt tt
          (λ rest unread due h. h.0) left may stage stages last mid is follows
      by_finish (Err (plays.Line faults.Outside)) played settled kind none left may stage stages last mid
          is follows = absurd settled
      by_finish (Err (plays.Line faults.NoBound)) played settled kind none left may stage stages last mid
          is follows =
          stage_ended_within_set (Err (plays.Line faults.NoBound)) (Err (plays.Line faults.NoBound))
          played tt tt
          (λ rest unread due h. h.0) left may stage stages last mid is follows
      by_finish (Err (plays.Line (faults.Wrong w))) played settled kind none left may stage stages last
          mid is follows =
          stage_ended_within_set (Err (plays.Line (faults.Wrong w)))
          (Err (plays.Line (faults.Wrong w))) played tt tt
          (λ rest unread due h. h.0) left may stage stages last mid is follows
      by_finish (Err (plays.Line faults.Store)) played settled kind none left may stage stages last mid
          is follows = absurd settled
      by_finish (Err (plays.Line faults.NoMemory)) played settled kind none left may stage stages last
          mid is follows = absurd settled
      by_finish (Err (plays.Line faults.Output)) played settled kind none left may stage stages last mid
          is follows =
          stage_cut_short (Err (plays.Line faults.Output)) played left may stage stages last mid is
          follows
          (λ rest unread later h. tt)

      -- no table goes on behind the way
      pub ended_here : (result : Result Finish PlayFault) → IsPlayedSo result → IsSettled result
          → IsFinishOf result opponent → GoesOnward table before result None
          → PlaysFrom old new bytes (place_line place ++ text)
          (record { place = place; answer = ended result }) steps now
      ended_here result played settled kind none = λ left may stages last j.
          by_stages left may stages last j where
            by_stages : (left : List ℕ) → MayFollow new left → (stages : List Stage) (last : Input)
                → IsJourney opponent side tables own place p
                (record { left = bytes ++ left; more = old.more }) stages last
                → IsTold result left stages last
            by_stages left may [] last j = absurd j
            by_stages left may (stage ∷ stages) last j =
                by_finish result played settled kind none left may stage stages last j.0 j.1 j.2

      -- the table of the entry goes on
      module _ (number : ℕ) (move : Step) (v : Value)
          (played : IsPlayedSo (Ok (Left number move v))) (entry : Entry)
          (onwards : GoesOnward table before (Ok (Left number move v)) (Some entry))
          (next : BackTable) (there : slice_get before entry.place ≡ Some next) (later : Reader)
          (more written : List ℕ) (arrival : Arrival) (after : ℕ) (stays : StaysEnded new later more)
          (goes : (q : Board) → HasNumber next.table.rules.groups entry.number q
          → PlaysJourney opponent side (map link_loaded (take entry.place before)) (link_loaded next)
          (Behind entry.place) q new later more written arrival now after) where
        abbrev IsToldOn : (left : List ℕ) → List Stage → Input → Type 0
        IsToldOn left stages last =
            JourneyPlayed opponent side ((bytes ++ more) ++ left) (bytes ++ more)
            ((place_line place ++ text) ++ written) arrival stages last
            × (after ≤ steps + turns_in stages)

        -- what follows the stage, which was played on from what the input has left
        rest_played : (left : List ℕ) → MayFollow later left → (stage : Stage) (stages : List Stage)
            (last mid : Input)
            → IsOwnStage (record { left = bytes ++ (more ++ left); more = old.more }) stage mid
            → IsFollowed stage mid stages last
            → JourneyPlayed opponent side (more ++ left) more written arrival stages last
            × (after ≤ now + turns_in stages)
        rest_played left may stage stages last mid is follows =
            let front = follows_both new later more left stays may in
            let h = stage_played (Ok (Left number move v)) played (more ++ left) front stage mid is in
            let q = after_plies p stage.plies in
            let found : Finds before q (next_of tables own q) (Some entry) =
            subst (λ (o : Option Board). MatchOption o (◌≡◌ {A = Option Entry} (Some entry) None)
            (λ b. Finds before b (next_of tables own b) (Some entry)))
            (led_to number move v played (more ++ left) front stage mid is) onwards in
            let same : found.0 ≡ next = (let a = found.2.there in cc) in
            let due : onward tables own p stage.plies stage.end
            ≡ Some (entry.place, link_loaded next) =
            ap (onward tables own p stage.plies) h.2.0 ∙ found.1
            ∙ ap (λ (t : BackTable). Some (entry.place, link_loaded t)) same in
            let on : IsJourney opponent side (take entry.place tables) (link_loaded next)
            (Behind entry.place) q mid stages last =
            subst (λ (o : Option (ℕ × Link)). Follows opponent side tables stage p mid stages last o)
            due follows in
            let has_next : HasNumber next.table.rules.groups entry.number q =
            subst (λ (t : BackTable). HasNumber t.table.rules.groups entry.number q) same
            found.2.numbered in
            goes q has_next left may stages last
            (subst (λ (ts : List Link). IsJourney opponent side ts (link_loaded next)
            (Behind entry.place) q (record { left = more ++ left; more = new.more }) stages last)
            (take-map link_loaded entry.place before)
            (subst (λ (u : Input). IsJourney opponent side (take entry.place tables)
            (link_loaded next) (Behind entry.place) q u stages last) h.2.1 on))

        both_played : (left : List ℕ) → MayFollow later left → (stage : Stage)
            (stages : List Stage) (last mid : Input)
            → IsOwnStage (record { left = bytes ++ (more ++ left); more = old.more }) stage mid
            → IsFollowed stage mid stages last → IsToldOn left (stage ∷ stages) last
        both_played left may stage [] last mid is follows =
            absurd (let there = (rest_played left may stage [] last mid is follows).0.there.2 in
            omega (arith, there))
        both_played left may stage (second ∷ stages) last mid is follows =
            let front = follows_both new later more left stays may in
            let h = stage_played (Ok (Left number move v)) played (more ++ left) front stage mid is in
            let r = rest_played left may stage (second ∷ stages) last mid is follows in
            let way = shown_text opponent side stage.code stage.number stage.plies stage.end in
            let whole : text ≡ way =
            sym (append-nil text) ∙ ap (λ (l : List ℕ). text ++ l) (sym h.0.finishes.1)
            ∙ h.0.begins in (
              record {
                rest = r.0.rest;
                unread = r.0.unread;
                begins = text_goes place stage text written r.0.rest way
                    (journey_text opponent side (second ∷ stages)) is.at whole r.0.begins;
                takes = append_assoc bytes more (r.0.unread ++ last.left)
                    ∙ ap (λ (l : List ℕ). bytes ++ l) r.0.takes
                    ∙ sym (append_assoc bytes more left);
                finishes = finishes_later side stage second stages arrival.place arrival.answer
                    r.0.rest r.0.unread r.0.finishes;
                there = later_there (λ (s : Stage). s.place ≡ arrival.place) stage
                    (second ∷ stages) r.0.there;
              },
              later_turns stage (second ∷ stages) steps now after h.1 r.1,
            )

        pub journey_went_on : PlaysFrom old later (bytes ++ more)
            ((place_line place ++ text) ++ written)
            arrival steps after
        journey_went_on = λ left may stages last j. by_stages left may stages last
            (subst (λ (l : List ℕ). IsJourney opponent side tables own place p
            (record { left = l; more = old.more }) stages last) (append_assoc bytes more left) j)
          where
            by_stages : (left : List ℕ) → MayFollow later left → (stages : List Stage) (last : Input)
                → IsJourney opponent side tables own place p
                (record { left = bytes ++ (more ++ left); more = old.more }) stages last
                → IsToldOn left stages last
            by_stages left may [] last j = absurd j
            by_stages left may (stage ∷ stages) last j =
                both_played left may stage stages last j.0 j.1 j.2
