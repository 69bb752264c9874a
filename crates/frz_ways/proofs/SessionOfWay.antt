-- A session is the way by an input: its text and its answers are those of that way.
use Rattle.std.proofs.Common.{◌≡◌, ◌≢◌, ◌++◌, ℕ, List, [], ◌∷◌, Option, refl, sym, subst, ap, ◌∙◌, Result, Ok, Err}
use Rattle.std.specs.Prelude.{slice_index}
use Rattle.frz_board.specs.declared.man.Colour.{Colour}
use Rattle.frz_board.specs.Boards.{Board}
use Rattle.frz_sets.specs.Views.{RuleLines}
use Rattle.frz_store.specs.Told.{StoreTold, SourceTold, SinkTold}
use Rattle.frz_answer.specs.Answers.{IsLines}
use Rattle.frz_answer.specs.World.{Spent}
use Rattle.frz_arena.specs.WayEnds.{Wrong, NoBound, Mated, Stalemated, Exit, Cut, Stopped}
use Rattle.frz_index.specs.Members.{Num}
use Rattle.frz_ways.specs.declared.end.LineFault.TheVariants as faults
use Rattle.frz_ways.specs.declared.hearing.Why.{Why}
use Rattle.frz_ways.specs.declared.hearing.Why.TheVariants.{Ended, Limit}
use Rattle.frz_ways.specs.declared.opponent.Opponent.TheVariants as opponents
use Rattle.frz_ways.specs.declared.session_end.PlayFault.{PlayFault}
use Rattle.frz_ways.specs.declared.session_end.PlayFault.TheVariants as plays
use Rattle.frz_ways.specs.declared.session_end.SessionEnd.{SessionEnd}
use Rattle.frz_ways.specs.declared.session_end.SessionEnd.TheVariants as sessions
use Rattle.frz_ways.specs.declared.way_end.WayEnd.{WayEnd}
use Rattle.frz_ways.specs.declared.way_end.WayEnd.TheVariants as ends
use Rattle.frz_ways.specs.Kept.{MayRead}
use Rattle.frz_ways.specs.PlaySession.{TellsSession}
use Rattle.frz_ways.specs.PlayWay.{TellsWay}
use Rattle.frz_ways.specs.SessionEnds.{Finishes, StopsShort, Tells, why_told}
use Rattle.frz_ways.specs.SessionFaults.{InputCause, MayHold, StoreCause, TookBytes, WroteBy}
use Rattle.frz_ways.specs.SessionTexts.{end_text, ply_text, plies_text, session_text, start_line}
use Rattle.frz_ways.specs.WayEnds as way_ends
use Rattle.frz_ways.specs.WayEnds.{of_session, told_why}
use Rattle.frz_ways.specs.WayTexts as way_texts
use Rattle.frz_ways.specs.Ways.{EndOfWay, WayPly}
use Rattle.frz_ways.proofs.WayFinished.{same_cause, same_input}
use Rattle.frz_ways.proofs.WayStarts.{WroteWay}
use Rattle.frz_ways.proofs.TurnWritten.{same_wrote}

plies_are : (side : Colour) (plies : List WayPly)
    → way_texts.plies_text opponents.Input side plies ≡ plies_text side plies
plies_are side [] = refl
plies_are side (x ∷ plies) = ap (λ (l : List ℕ). ply_text side x ++ l) (plies_are side plies)

-- both texts agree
pub session_text_is : (side : Colour) (code : ℕ) (plies : List WayPly) (end : EndOfWay)
    → way_texts.way_text opponents.Input side code plies end ≡ session_text side code plies end
session_text_is side code plies end =
    ap (λ (l : List ℕ). start_line side code plies end ++ (l ++ end_text end)) (plies_are side
    plies)

-- the session's answer that gives this one of its way, where there is one
abbrev session_of : Result WayEnd PlayFault → Result SessionEnd PlayFault
session_of (Ok ends.Mate) = Ok sessions.Mate
session_of (Ok ends.Stalemate) = Ok sessions.Stalemate
session_of (Ok (ends.Exit v)) = Ok (sessions.Exit v)
session_of (Ok ends.Cut) = Err plays.Input
session_of (Ok ends.InputEnded) = Ok sessions.InputEnded
session_of (Err fault) = Err fault

session_back : (r : Result SessionEnd PlayFault) → session_of (of_session r) ≡ r
session_back (Ok sessions.Mate) = refl
session_back (Ok sessions.Stalemate) = refl
session_back (Ok (sessions.Exit v)) = refl
session_back (Ok sessions.InputEnded) = refl
session_back (Err fault) = refl

session_is : (r : Result SessionEnd PlayFault) (a : Result WayEnd PlayFault) → of_session r ≡ a
    → r ≡ session_of a
session_is r a e = sym (session_back r) ∙ ap session_of e

-- the position is outside to the session where it is to its way
pub outside_way : {answer : Result WayEnd PlayFault} {r : Result SessionEnd PlayFault}
    → answer ≡ of_session r → r ≡ Err (plays.Line faults.Outside)
    → answer ≡ Err (plays.Line faults.Outside)
outside_way is e = is ∙ ap of_session e

pub outside_session : {answer : Result WayEnd PlayFault} {r : Result SessionEnd PlayFault}
    → answer ≡ of_session r → answer ≡ Err (plays.Line faults.Outside)
    → r ≡ Err (plays.Line faults.Outside)
outside_session {r = r} is e = session_is r (Err (plays.Line faults.Outside)) (sym is ∙ e)

never_cut : (r : Result SessionEnd PlayFault) → of_session r ≡ Ok ends.Cut → ⊥
never_cut (Ok sessions.Mate) e = cc
never_cut (Ok sessions.Stalemate) e = cc
never_cut (Ok (sessions.Exit v)) e = cc
never_cut (Ok sessions.InputEnded) e = cc
never_cut (Err fault) e = cc

why_is : (why : Why) → session_of (told_why why) ≡ why_told why
why_is Ended = refl
why_is (Limit limit) = refl

tells_is : (r : Result SessionEnd PlayFault) (side : Colour) (end : EndOfWay)
    → of_session r ≡ way_ends.told side end → Tells side end r
tells_is r side (Wrong p kept given) e = session_is r _ e
tells_is r side NoBound e = session_is r _ e
tells_is r side (Mated mover) e = session_is r _ e
tells_is r side (Stalemated mover) e = session_is r _ e
tells_is r side (Exit v) e = session_is r _ e
tells_is r side Cut e = never_cut r e
tells_is r side (Stopped halt) e = session_is r _ e ∙ why_is halt.why

short_why : (why : Why) (rest : List ℕ) → way_ends.IsUnfinished (told_why why) rest
    → (last : SessionEnd) → Ok last ≡ why_told why → rest ≢ []
short_why Ended rest h last tells = h
short_why (Limit limit) rest h last tells = absurd (cc)

short_is : (side : Colour) (end : EndOfWay) (rest : List ℕ)
    → way_ends.IsUnfinished (way_ends.told side end) rest → StopsShort side end rest
short_is side (Wrong p kept given) rest h = λ last tells. absurd (cc)
short_is side NoBound rest h = λ last tells. absurd (cc)
short_is side (Mated mover) rest h = λ last tells. h
short_is side (Stalemated mover) rest h = λ last tells. h
short_is side (Exit v) rest h = λ last tells. h
short_is side Cut rest h = λ last tells. absurd tells
short_is side (Stopped halt) rest h = λ last tells. short_why halt.why rest h last tells

finishes_session : (r : Result SessionEnd PlayFault) (side : Colour) (end : EndOfWay)
    (rest unread : List ℕ)
    → way_ends.Finishes (of_session r) (way_ends.told side end) rest unread
    → Finishes r side end rest unread
finishes_session (Ok last) side end rest unread h = (tells_is (Ok last) side end h.0, h.1, h.2)
finishes_session (Err (plays.Line faults.Outside)) side end rest unread h =
    (tells_is _ side end h.0, h.1, h.2)
finishes_session (Err (plays.Line faults.NoBound)) side end rest unread h =
    (tells_is _ side end h.0, h.1, h.2)
finishes_session (Err (plays.Line (faults.Wrong w))) side end rest unread h =
    (tells_is _ side end h.0, h.1, h.2)
finishes_session (Err (plays.Line faults.Store)) side end rest unread h = short_is side end rest h
finishes_session (Err (plays.Line faults.NoMemory)) side end rest unread h =
    short_is side end rest h
finishes_session (Err (plays.Line faults.Output)) side end rest unread h = tt
finishes_session (Err plays.Input) side end rest unread h = short_is side end rest h
finishes_session (Err (plays.Limit limit)) side end rest unread h =
    (tells_is _ side end h.0, h.1, h.2)

wrote_session : (r : Result SessionEnd PlayFault) (text : List ℕ) (old new : SinkTold)
    → WroteBy (of_session r) text old new → WroteBy r text old new
wrote_session (Ok last) text old new w = w
wrote_session (Err fault) text old new w = same_wrote WayEnd SessionEnd fault text old new w

cause_by : (r : Result SessionEnd PlayFault) (old new : StoreTold)
    → StoreCause (of_session r) old new → StoreCause r old new
cause_by (Ok last) old new h = h
cause_by (Err fault) old new h =
    same_cause WayEnd SessionEnd fault old old new (record { faults = refl; wants = refl }) h

pub session_cause : {answer : Result WayEnd PlayFault} (r : Result SessionEnd PlayFault)
    (old new : StoreTold) → answer ≡ of_session r → StoreCause answer old new
    → StoreCause r old new
session_cause r old new is h =
    cause_by r old new (subst (λ (z : Result WayEnd PlayFault). StoreCause z old new) is h)

input_by : (r : Result SessionEnd PlayFault) (old new : SourceTold)
    → InputCause (of_session r) old new → InputCause r old new
input_by (Ok last) old new h = h
input_by (Err fault) old new h = same_input WayEnd SessionEnd fault old new h

pub session_input : {answer : Result WayEnd PlayFault} (r : Result SessionEnd PlayFault)
    (old new : SourceTold) → answer ≡ of_session r → InputCause answer old new
    → InputCause r old new
session_input r old new is h =
    input_by r old new (subst (λ (z : Result WayEnd PlayFault). InputCause z old new) is h)

tells_session : (rules : RuleLines) (side : Colour) (codes : ℕ → List ℕ) (p : Board)
    (whole bytes text : List ℕ) (r : Result SessionEnd PlayFault) (before now : Spent)
    → TellsWay opponents.Input rules side codes p whole bytes text (of_session r) before now
    → TellsSession rules side codes p whole bytes text r before now
tells_session rules side codes p whole bytes text r before now tells = λ member plies end left w.
    let g = tells member plies end left w in (
      record {
        rest = g.0.rest;
        unread = g.0.unread;
        begins = g.0.begins
            ∙ session_text_is side (slice_index (codes 0) (Num rules.groups p)) plies end;
        takes = g.0.takes;
        finishes = finishes_session r side end g.0.rest g.0.unread g.0.finishes;
      },
      g.1,
    )

-- what was written and taken of the session
pub session_told : (known : Option (List ℕ)) (size : ℕ) (rules : RuleLines) (side : Colour)
    (p : Board) {answer : Result WayEnd PlayFault} (r : Result SessionEnd PlayFault)
    (source left : SourceTold) (old new : SinkTold) (before now : Spent) → answer ≡ of_session r
    → WroteWay known size opponents.Input rules side p answer source left old new before now
    → (text bytes : List ℕ) × IsLines text × WroteBy r text old new × TookBytes bytes source left
    × ((read : ℕ → List ℕ) × ((k : ℕ) → MayRead known size (read k))
    × ((codes : ℕ → List ℕ) → ((k : ℕ) → codes k ≡ read k) → (whole : List ℕ)
    × MayHold source whole × TellsSession rules side codes p whole bytes text r before now))
session_told known size rules side p r source left old new before now is wrote =
    let w = subst
    (λ (z : Result WayEnd PlayFault). WroteWay known size opponents.Input rules side p z source left
    old new before now) is wrote in (
      w.0,
      w.1,
      w.2,
      wrote_session r w.0 old new w.3,
      w.4,
      (
        w.5.0,
        w.5.1,
        λ codes same.
            let t = w.5.2 codes same in
            (t.0, t.1, tells_session rules side codes p t.0 w.1 w.0 r before now t.2),
      ),
    )
