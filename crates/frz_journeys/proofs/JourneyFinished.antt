-- How a journey finishes whose way at one table finished so.
use Rattle.std.proofs.Common.{◌≡◌, ◌++◌, ℕ, suc, List, [], ◌∷◌, None, Result, Ok, Err, refl, sym, subst, arith}
use Rattle.std.specs.Prelude.{Any, MatchOption, ⊤}
use Rattle.frz_board.specs.Boards.{Board}
use Rattle.frz_board.specs.declared.man.Colour.{Colour}
use Rattle.frz_arena.specs.WayEnds.{Wrong, NoBound, Mated, Stalemated, Exit, Cut, Stopped}
use Rattle.frz_backs.specs.Links.{Link}
use Rattle.frz_ways.specs.declared.end.LineFault.TheVariants as faults
use Rattle.frz_ways.specs.declared.opponent.Opponent.{Opponent}
use Rattle.frz_ways.specs.declared.session_end.PlayFault.{PlayFault}
use Rattle.frz_ways.specs.declared.session_end.PlayFault.TheVariants as plays
use Rattle.frz_ways.specs.declared.way_end.WayEnd.{WayEnd}
use Rattle.frz_ways.specs.declared.way_end.WayEnd.TheVariants as ends
use Rattle.frz_ways.specs.PlayLoaded.{IsSettled}
use Rattle.frz_ways.specs.Reading.{Input}
use Rattle.frz_ways.specs.WayEnds as ways
use Rattle.frz_ways.specs.WayEnds.{told, IsEndHere}
use Rattle.frz_ways.specs.Ways.{WayPly, EndOfWay}
use Rattle.frz_journeys.specs.declared.place.Place.{Place}
use Rattle.frz_journeys.specs.Arrivals.{Arrives, Finishes, StopsShort}
use Rattle.frz_journeys.specs.Journeys.{Stage, onward}

-- an end other than an exit
abbrev pub IsNoExit : Result WayEnd PlayFault → Type 0
IsNoExit (Ok (ends.Exit v)) = ⊥
IsNoExit answer = ⊤

pub end_here : (end : WayEnd) (opponent : Opponent) → IsEndHere end opponent → IsNoExit (Ok end)
end_here ends.Mate opponent h = tt
end_here ends.Stalemate opponent h = tt
end_here (ends.Exit v) opponent h = h
end_here ends.Cut opponent h = tt
end_here ends.InputEnded opponent h = tt

-- behind such an end no table goes on
pub no_table : (before : List Link) (table : Link) (start : Board) (plies : List WayPly) (side : Colour)
    (end : EndOfWay) (answer : Result WayEnd PlayFault) → answer ≡ told side end → IsNoExit answer
    → onward before table start plies end ≡ None
no_table before table start plies side (Exit v) answer e other = absurd (subst IsNoExit e other)
no_table before table start plies side (Wrong at kept given) answer e other = refl
no_table before table start plies side NoBound answer e other = refl
no_table before table start plies side (Mated mover) answer e other = refl
no_table before table start plies side (Stalemated mover) answer e other = refl
no_table before table start plies side Cut answer e other = refl
no_table before table start plies side (Stopped halt) answer e other = refl

-- where a stage is followed by another, its end is an exit
pub exit_before : (before : List Link) (table : Link) (start : Board) (plies : List WayPly)
    (side : Colour) (end : EndOfWay) (mid : Input) (stages : List Stage) (last : Input)
    (P : ℕ × Link → Type 0)
    → MatchOption (onward before table start plies end) ((stages ≡ []) × (last ≡ mid)) P
    → (next : Stage) (others : List Stage) → stages ≡ next ∷ others
    → (answer : WayEnd) × (told side end ≡ Ok answer)
exit_before before table start plies side (Exit v) mid stages last P h next others e =
    (ends.Exit v, refl)
exit_before before table start plies side (Wrong at kept given) mid stages last P h next others e =
    absurd (let none = h.0 in cc)
exit_before before table start plies side NoBound mid stages last P h next others e =
    absurd (let none = h.0 in cc)
exit_before before table start plies side (Mated mover) mid stages last P h next others e =
    absurd (let none = h.0 in cc)
exit_before before table start plies side (Stalemated mover) mid stages last P h next others e =
    absurd (let none = h.0 in cc)
exit_before before table start plies side Cut mid stages last P h next others e =
    absurd (let none = h.0 in cc)
exit_before before table start plies side (Stopped halt) mid stages last P h next others e =
    absurd (let none = h.0 in cc)

arrives_alone : (side : Colour) (stage : Stage) (place : Place) (answer : Result WayEnd PlayFault)
    (rest unread : List ℕ) → place ≡ stage.place
    → (answer ≡ told side stage.end) × (rest ≡ []) × (unread ≡ [])
    → Arrives side (stage ∷ []) place answer × (rest ≡ []) × (unread ≡ [])
arrives_alone side stage place answer rest unread at h = ((at, h.0), h.1, h.2)

-- the stage is the last
pub finishes_alone : (side : Colour) (stage : Stage) (place : Place)
    (answer : Result WayEnd PlayFault) (rest unread : List ℕ) → place ≡ stage.place
    → IsSettled answer → ways.Finishes answer (told side stage.end) rest unread
    → Finishes side (stage ∷ []) place answer rest unread
finishes_alone side stage place (Ok end) rest unread at settled h =
    arrives_alone side stage place (Ok end) rest unread at h
finishes_alone side stage place (Err plays.Input) rest unread at settled h =
    λ q end arrives.
    subst (λ (r : Result WayEnd PlayFault). ways.IsUnfinished r rest) (sym arrives.1) h
finishes_alone side stage place (Err (plays.Limit limit)) rest unread at settled h =
    arrives_alone side stage place (Err (plays.Limit limit)) rest unread at h
finishes_alone side stage place (Err (plays.Line faults.Outside)) rest unread at settled h =
    arrives_alone side stage place (Err (plays.Line faults.Outside)) rest unread at h
finishes_alone side stage place (Err (plays.Line faults.NoBound)) rest unread at settled h =
    arrives_alone side stage place (Err (plays.Line faults.NoBound)) rest unread at h
finishes_alone side stage place (Err (plays.Line (faults.Wrong w))) rest unread at settled h =
    arrives_alone side stage place (Err (plays.Line (faults.Wrong w))) rest unread at h
finishes_alone side stage place (Err (plays.Line faults.Store)) rest unread at settled h =
    absurd settled
finishes_alone side stage place (Err (plays.Line faults.Output)) rest unread at settled h = tt
finishes_alone side stage place (Err (plays.Line faults.NoMemory)) rest unread at settled h =
    absurd settled

longer_not_empty : (rest more : List ℕ) → (rest ≡ [] → ⊥) → rest ++ more ≡ [] → ⊥
longer_not_empty [] more some e = some refl
longer_not_empty (b ∷ rest) more some e = cc

-- the input failed at a stage that others may follow
pub input_short : (side : Colour) (stage : Stage) (stages : List Stage) (rest more : List ℕ)
    → ((next : Stage) (others : List Stage) → stages ≡ next ∷ others
    → (end : WayEnd) × (told side stage.end ≡ Ok end))
    → ways.IsUnfinished (told side stage.end) rest → StopsShort side (stage ∷ stages) (rest ++ more)
input_short side stage [] rest more exit h = λ q end arrives.
    longer_not_empty rest more
    (subst (λ (r : Result WayEnd PlayFault). ways.IsUnfinished r rest) (sym arrives.1) h)
input_short side stage (next ∷ others) rest more exit h = λ q end arrives.
    let at = exit next others refl in
    longer_not_empty rest more
    (subst (λ (r : Result WayEnd PlayFault). ways.IsUnfinished r rest) at.1 h)

-- one stage before others
pub finishes_later : (side : Colour) (stage next : Stage) (stages : List Stage) (place : Place)
    (answer : Result WayEnd PlayFault) (rest unread : List ℕ)
    → Finishes side (next ∷ stages) place answer rest unread
    → Finishes side (stage ∷ next ∷ stages) place answer rest unread
finishes_later side stage next stages place (Ok end) rest unread h = h
finishes_later side stage next stages place (Err plays.Input) rest unread h = h
finishes_later side stage next stages place (Err (plays.Limit limit)) rest unread h = h
finishes_later side stage next stages place (Err (plays.Line faults.Outside)) rest unread h = h
finishes_later side stage next stages place (Err (plays.Line faults.NoBound)) rest unread h = h
finishes_later side stage next stages place (Err (plays.Line (faults.Wrong w))) rest unread h = h
finishes_later side stage next stages place (Err (plays.Line faults.Store)) rest unread h = h
finishes_later side stage next stages place (Err (plays.Line faults.Output)) rest unread h = h
finishes_later side stage next stages place (Err (plays.Line faults.NoMemory)) rest unread h = h

-- a stage is one of these
pub first_there : (P : Stage → Type 0) (stage : Stage) (stages : List Stage) → P stage
    → Any P (stage ∷ stages)
first_there P stage stages h = (0, stage, omega arith, refl, h)

pub later_there : (P : Stage → Type 0) (stage : Stage) (stages : List Stage) → Any P stages
    → Any P (stage ∷ stages)
later_there P stage stages h = (suc h.0, h.1, (let l = h.2 in omega (arith, l)), h.3, h.4)
