-- Where a journey arrives, and that its text says something.
use Rattle.std.proofs.Common.{◌≡◌, ◌++◌, ◌==◌, refl, sym, subst, ◌∙◌, ℕ, Bool, true, false, List, [], ◌∷◌, Option, Some, None, Result, Ok, Err, append_assoc, append-nil, if◌then◌else◌, take}
use Rattle.std.specs.Prelude.{codes}
use Rattle.frz_board.specs.Boards.{Board}
use Rattle.frz_board.specs.declared.man.Colour.{Colour}
use Rattle.frz_game.specs.declared.wrong.Wrong.{Wrong as WrongEntry}
use Rattle.frz_arena.specs.WayEnds.{Wrong, NoBound, Mated, Stalemated, Exit, Cut, Stopped}
use Rattle.frz_journeys.specs.Links.{Link}
use Rattle.frz_atlas_prelude.specs.BackFault.TheVariants as backs
use Rattle.frz_atlas_prelude.proofs.Lemmas.{back_line_not_empty}
use Rattle.frz_ways.specs.declared.end.LineFault.TheVariants as faults
use Rattle.frz_ways.specs.declared.hearing.Why.{Why}
use Rattle.frz_ways.specs.declared.hearing.Why.TheVariants.{Ended, Limit}
use Rattle.frz_ways.specs.declared.opponent.Opponent.{Opponent}
use Rattle.frz_ways.specs.declared.opponent.Opponent.TheVariants as opponents
use Rattle.frz_ways.specs.declared.opponent.Player.{Player}
use Rattle.frz_ways.specs.declared.session_end.PlayFault.{PlayFault}
use Rattle.frz_ways.specs.declared.session_end.PlayFault.TheVariants as plays
use Rattle.frz_ways.specs.declared.session_end.PlayLimit.{PlayLimit}
use Rattle.frz_ways.specs.declared.session_end.PlayLimit.TheVariants.{Lines, LineLength}
use Rattle.frz_ways.specs.declared.way_end.WayEnd.{WayEnd}
use Rattle.frz_arena.specs.declared.arm.Next.TheVariants.{Inside}
use Rattle.frz_bound_lines.specs.BoundLines.{kept_line}
use Rattle.frz_ways.specs.Costs.{way_numbers}
use Rattle.frz_ways.specs.Reading.{Input}
use Rattle.frz_ways.specs.Shown.{first_again, held_text, shown_text}
use Rattle.frz_ways.specs.SessionTexts.{end_text, refused_text, start_line, why_line}
use Rattle.frz_ways.specs.Texts.{exit_line}
use Rattle.frz_ways.specs.WayEnds.{told}
use Rattle.frz_ways.specs.WayTexts.{plies_text, way_text}
use Rattle.frz_ways.specs.Ways.{EndOfWay, WayPly}
use Rattle.frz_journeys.specs.declared.place.Place.{Place}
use Rattle.frz_journeys.specs.declared.place.Place.TheVariants.{Own, Behind}
use Rattle.frz_journeys.specs.Arrivals.{Arrives, StopsShort}
use Rattle.frz_journeys.specs.Journeys.{IsJourney, Stage}
use Rattle.frz_journeys.specs.JourneyTexts.{journey_text, place_line, stage_text}
use Rattle.frz_commands_line.proofs.Lemmas.{no_left, no_right}
use Rattle.frz_commands_journeys.specs.Endings.{naming, wrong_at}
use Rattle.frz_commands_journeys.specs.JourneyOf.{played_text}

-- a journey has a stage
pub some_stages : (opponent : Opponent) (side : Colour) (before : List Link) (table : Link)
    (place : Place) (start : Board) (input : Input) (stages : List Stage) (left : Input)
    → IsJourney opponent side before table place start input stages left → stages ≡ [] → ⊥
some_stages opponent side before table place start input [] left j e = j
some_stages opponent side before table place start input (stage ∷ stages) left j e = cc

-- where these stages arrive
pub record SomeArrival (side : Colour) (stages : List Stage) : Type 0 where
  pub place : Place
  pub answer : Result WayEnd PlayFault
  pub arrives : Arrives side stages place answer

pub arrival_of : (side : Colour) (stages : List Stage) → (stages ≡ [] → ⊥)
    → SomeArrival side stages
arrival_of side [] some = absurd (some refl)
arrival_of side (stage ∷ []) some =
    record { place = stage.place; answer = told side stage.end; arrives = (refl, refl) }
arrival_of side (stage ∷ next ∷ stages) some =
    let later = arrival_of side (next ∷ stages) (λ e. cc) in
    record { place = later.place; answer = later.answer; arrives = later.arrives }

pub one_arrival : (side : Colour) (stages : List Stage) (place other : Place)
    (answer last : Result WayEnd PlayFault) → Arrives side stages place answer
    → Arrives side stages other last → (place ≡ other) × (answer ≡ last)
one_arrival side [] place other answer last h k = absurd h
one_arrival side (stage ∷ []) place other answer last h k = (h.0 ∙ sym k.0, h.1 ∙ sym k.1)
one_arrival side (stage ∷ next ∷ stages) place other answer last h k =
    one_arrival side (next ∷ stages) place other answer last h k

-- the line that tells a wrong code says something
wrong_line_not_empty : (place : Place) (wrong : WrongEntry) → wrong_at place wrong ≡ [] → ⊥
wrong_line_not_empty Own wrong e = cc
wrong_line_not_empty (Behind place) wrong e = back_line_not_empty place (backs.Wrong wrong) e

limit_said : (place : Place) (limit : PlayLimit) → naming place (Err (plays.Limit limit)) ≡ [] → ⊥
limit_said place Lines e = cc
limit_said place LineLength e = cc

-- an end for which the journey itself writes nothing is named
abbrev NamedAs : Place → Result WayEnd PlayFault → Type 0
NamedAs place answer = naming place answer ≡ []

why_named : (side : Colour) (refused : ℕ) (why : Why) (place : Place) (fault : PlayFault)
    → Err fault ≡ told side (Stopped (record { refused = refused; why = why }))
    → NamedAs place (Err fault) → ⊥
why_named side refused Ended place fault e h = cc
why_named side refused (Limit limit) place fault e h =
    limit_said place limit (subst (NamedAs place) e h)

fault_named : (side : Colour) (end : EndOfWay) (place : Place) (fault : PlayFault)
    → Err fault ≡ told side end → NamedAs place (Err fault) → ⊥
fault_named side (Wrong at kept given) place fault e h =
    let w : WrongEntry = record { side = side; number = at.1; kept = kept; given = given } in
    wrong_line_not_empty place w (subst (NamedAs place) e h)
fault_named side NoBound place fault e h =
    let named : naming place (Err (plays.Line faults.NoBound)) ≡ [] = subst (NamedAs place) e h in cc
fault_named side (Mated mover) place fault e h = cc
fault_named side (Stalemated mover) place fault e h = cc
fault_named side (Exit v) place fault e h = cc
fault_named side Cut place fault e h = cc
fault_named side (Stopped halt) place fault e h =
    why_named side halt.refused halt.why place fault e h

-- a fault at which a journey arrives is named
pub fault_said : (side : Colour) (stages : List Stage) (place : Place) (fault : PlayFault)
    → Arrives side stages place (Err fault) → naming place (Err fault) ≡ [] → ⊥
fault_said side [] place fault h e = h
fault_said side (stage ∷ []) place fault h e = fault_named side stage.end place fault h.1 e
fault_said side (stage ∷ next ∷ stages) place fault h e =
    fault_said side (next ∷ stages) place fault h e

-- where the input stopped the journey, something is left to say
pub short_said : (side : Colour) (stages : List Stage) (place : Place)
    (answer : Result WayEnd PlayFault) (rest : List ℕ) → Arrives side stages place answer
    → StopsShort side stages rest → rest ++ naming place answer ≡ [] → ⊥
short_said side stages place (Ok end) rest arrives short e =
    short place end arrives (no_left rest [] e)
short_said side stages place (Err fault) rest arrives short e =
    fault_said side stages place fault arrives (no_right rest (naming place (Err fault)) e)

-- the end of a stage is told, or named
end_said : (side : Colour) (end : EndOfWay) (place : Place) (answer : Result WayEnd PlayFault)
    → answer ≡ told side end → end_text end ++ naming place answer ≡ [] → ⊥
end_said side end place (Err fault) e h =
    fault_named side end place fault e (no_right (end_text end) (naming place (Err fault)) h)
end_said side (Wrong at kept given) place (Ok last) e h = cc
end_said side NoBound place (Ok last) e h = cc
end_said side (Mated mover) place (Ok last) e h =
    let none = no_left (codes "mate\n") [] h in cc
end_said side (Stalemated mover) place (Ok last) e h =
    let none = no_left (codes "stalemate\n") [] h in cc
end_said side (Exit v) place (Ok last) e h = let none = no_left (exit_line v) [] h in cc
end_said side Cut place (Ok last) e h = let none = no_left (codes "cut\n") [] h in cc
end_said side (Stopped halt) place (Ok last) e h =
    by_why halt.why e (no_right (refused_text halt.refused) (why_line halt.why)
    (no_left (refused_text halt.refused ++ why_line halt.why) [] h))
  where
    by_why : (why : Why) → Ok last ≡ told side (Stopped (record { refused = halt.refused; why = why }))
        → why_line why ≡ [] → ⊥
    by_why Ended is none = cc
    by_why (Limit limit) is none = cc

-- the text of a way says something, with the line of its end, and so does what is shown of it
module _ (side : Colour) (plies : List WayPly) (end : EndOfWay) (place : Place)
    (answer : Result WayEnd PlayFault) (ends : answer ≡ told side end) where
  way_said : (opponent : Opponent) (code : ℕ)
      → way_text opponent side code plies end ++ naming place answer ≡ [] → ⊥
  way_said opponent code e =
      let first = start_line side code plies end in
      let moves = plies_text opponent side plies in
      let last = end_text end in
      let name = naming place answer in
      let rest_said : (moves ++ last) ++ name ≡ [] =
      no_right first ((moves ++ last) ++ name) (sym (append_assoc first (moves ++ last) name) ∙ e) in
      end_said side end place answer ends
      (no_right moves (last ++ name) (sym (append_assoc moves last name) ∙ rest_said))

  held_said : (again : Option ℕ)
      → held_text side plies end again ++ naming place answer ≡ [] → ⊥
  held_said None e = way_said opponents.Codes 1 e
  held_said (Some k) e =
      let last = codes "repetition\n" in
      let moves = plies_text opponents.Codes side (take k plies) in
      let none = no_right moves last (no_right (kept_line side 1) (moves ++ last)
      (no_left (kept_line side 1 ++ (moves ++ last)) (naming place answer) e)) in cc

  line_said : (code : ℕ) (again : Option ℕ) (held : Bool)
      → (if held then held_text side plies end again else way_text opponents.Codes side code plies end)
      ++ naming place answer ≡ [] → ⊥
  line_said code again true e = held_said again e
  line_said code again false e = way_said opponents.Codes code e

  shown_said : (opponent : Opponent) (code start : ℕ)
      → shown_text opponent side code start plies end ++ naming place answer ≡ [] → ⊥
  shown_said opponents.Input code start e = way_said opponents.Input code e
  shown_said opponents.Codes code start e =
      line_said code (first_again (way_numbers (Inside (0, start)) plies)) (code == 1) e

-- the text of a journey says something
pub journey_said : (player : Player) (stages : List Stage) (place : Place)
    (answer : Result WayEnd PlayFault) → Arrives player.side stages place answer
    → played_text player stages place answer ≡ [] → ⊥
journey_said player [] place answer arrives e = arrives
journey_said player (stage ∷ []) place answer arrives e =
    let opponent = player.opponent in
    let side = player.side in
    let line = place_line stage.place in
    let shown = shown_text opponent side stage.code stage.number stage.plies stage.end in
    let name = naming place answer in
    let stage_said : stage_text opponent side stage ++ name ≡ [] =
    subst (λ (l : List ℕ). l ++ name ≡ []) (append-nil (stage_text opponent side stage)) e in
    shown_said side stage.plies stage.end place answer arrives.1 opponent stage.code stage.number
    (no_right line (shown ++ name) (sym (append_assoc line shown name) ∙ stage_said))
journey_said player (stage ∷ next ∷ stages) place answer arrives e =
    let first = stage_text player.opponent player.side stage in
    let others = journey_text player.opponent player.side (next ∷ stages) in
    let name = naming place answer in
    journey_said player (next ∷ stages) place answer arrives
    (no_right first (others ++ name) (sym (append_assoc first others name) ∙ e))
