-- What a turn answers and never answers, and what it leaves of its input's end.
use Rattle.std.proofs.Common.{◌≡◌, ◌≤◌, inl, inr, ℕ, Bool, true, false, List, refl, sym, subst, ap, ◌∙◌, get_or, Result, Ok, Err, arith}
use Rattle.std.specs.Prelude.{codes}
use Rattle.std.specs.Result.{IsErrAnd}
use Rattle.frz_board.specs.declared.man.Colour.{Colour}
use Rattle.frz_board.specs.Men.{same_colour}
use Rattle.frz_board.specs.Moving.{Step}
use Rattle.frz_sets.specs.declared.exit.Value.{Value}
use Rattle.frz_store.specs.Told.{StoreTold, SourceTold, SinkTold, StoreFine}
use Rattle.frz_arena.specs.declared.arm.Arm.{Arm}
use Rattle.frz_arena.specs.declared.arm.Next.{Next}
use Rattle.frz_arena.specs.declared.arm.Next.TheVariants.{Inside, Outside}
use Rattle.frz_ways.specs.declared.due.Due.{Due}
use Rattle.frz_ways.specs.declared.due.Due.TheVariants as dues
use Rattle.frz_ways.specs.declared.end.LineFault.{LineFault}
use Rattle.frz_ways.specs.declared.end.LineFault.TheVariants as faults
use Rattle.frz_ways.specs.declared.opponent.Opponent.{Opponent}
use Rattle.frz_ways.specs.declared.opponent.Opponent.TheVariants as opponents
use Rattle.frz_ways.specs.declared.session_end.PlayFault.{PlayFault}
use Rattle.frz_ways.specs.declared.session_end.PlayFault.TheVariants as plays
use Rattle.frz_ways.specs.declared.hearing.Heard.{Heard}
use Rattle.frz_ways.specs.declared.hearing.Heard.TheVariants as heard
use Rattle.frz_ways.specs.declared.hearing.Reader.{Reader}
use Rattle.frz_ways.specs.declared.hearing.Why.TheVariants.{Ended, Limit}
use Rattle.frz_ways.specs.declared.playing.Cursor.{Cursor}
use Rattle.frz_ways.specs.declared.playing.Turn.{Turn}
use Rattle.frz_ways.specs.SessionFaults.{StoreCause}
use Rattle.frz_ways.specs.Hearing.{HasEnded, LeavesFewer, MayFail, Hears}
use Rattle.frz_ways.specs.PlayLoaded.{IsSettled}
use Rattle.frz_ways.specs.Turns.{turn_of, by_codes, own_word, Answers, PlaysAt, PlaysPly, AfterHeard, Unread, IsPlayed, IsTurnOf}
use Rattle.frz_ways.specs.WayEnds.{IsFaultOf}

pub settled_cause : (result : Result Turn PlayFault) (old new : StoreTold) → IsSettled result
    → StoreFine old new → StoreCause result old new
settled_cause (Ok turn) old new s fine = fine
settled_cause (Err plays.Input) old new s fine = fine
settled_cause (Err (plays.Limit l)) old new s fine = fine
settled_cause (Err (plays.Line faults.Outside)) old new s fine = absurd s
settled_cause (Err (plays.Line faults.NoBound)) old new s fine = fine
settled_cause (Err (plays.Line (faults.Wrong x))) old new s fine = fine
settled_cause (Err (plays.Line faults.Store)) old new s fine = absurd s
settled_cause (Err (plays.Line faults.Output)) old new s fine = fine
settled_cause (Err (plays.Line faults.NoMemory)) old new s fine = absurd s

pub settled_placed : (result : Result Turn PlayFault) → IsSettled result
    → result ≡ Err (plays.Line faults.Outside) → ⊥
settled_placed result s e = subst (λ (z : Result Turn PlayFault). IsSettled z) e s

settled_by : (a result : Result Turn PlayFault) → result ≡ a → IsSettled a → IsSettled result
settled_by a result e s = subst (λ (z : Result Turn PlayFault). IsSettled z) (sym e) s

answers_settled : (turn : Turn) (text : List ℕ) (result : Result Turn PlayFault)
    (old new : SinkTold) → Answers turn text result old new → IsSettled result
answers_settled turn text result old new (inl a) = settled_by (Ok turn) result a.0 tt
answers_settled turn text result old new (inr a) =
    settled_by (Err (plays.Line faults.Output)) result a.0 tt

fails_settled : (fault : PlayFault) → MayFail fault → IsSettled {T = Turn} (Err fault)
fails_settled fault (inl e) = subst (λ (f : PlayFault). IsSettled {T = Turn} (Err f)) (sym e) tt
fails_settled fault (inr e) = subst (λ (f : PlayFault). IsSettled {T = Turn} (Err f)) (sym e) tt

by_input : (o : Opponent) (own : Bool) → by_codes o own ≡ false → o ≡ opponents.Input
by_input opponents.Codes own e = absurd (cc)
by_input opponents.Input own e = refl

-- a fault of the store may stop any way
pub store_kind : (opponent : Opponent) (result : Result Turn PlayFault) (fault : LineFault)
    → IsErrAnd result (λ e. e ≡ plays.Line fault) → IsTurnOf result opponent
store_kind opponent (Ok turn) fault h = absurd h
store_kind opponent (Err e) fault h =
    subst (λ (f : PlayFault). IsFaultOf f opponent) (sym h) tt

module _ (opponent : Opponent) (side : Colour) (cursor : Cursor) (arms : List (Arm Step ℕ Value))
    (cs : List ℕ) (old new : Reader) (result : Result Turn PlayFault)
    (source left : SourceTold) where
  heard_settled : (heard_is : Result Heard PlayFault) (out between taken : SinkTold)
      → Hears arms old new heard_is source left out between
      → AfterHeard arms cs heard_is result between taken → IsSettled result
  heard_settled (Ok (heard.Reply place)) out between taken hears h =
      answers_settled _ _ result between taken h.2
  heard_settled (Ok (heard.Stop Ended)) out between taken hears h =
      answers_settled _ _ result between taken h
  heard_settled (Ok (heard.Stop (Limit l))) out between taken hears h =
      settled_by (Err (plays.Limit l)) result h.0 tt
  heard_settled (Err fault) out between taken hears h =
      settled_by (Err fault) result h.0 (fails_settled fault (hears.fails fault refl))

  ply_settled : (found own : Bool) (out taken : SinkTold)
      → PlaysPly found opponent own cursor arms cs old new result source left out taken
      → IsSettled result
  ply_settled true own out taken h = answers_settled _ _ result out taken h.1.3.2
  ply_settled false own out taken h = heard_settled h.heard out h.between taken h.hears h.after

  pub played_settled : (due : Due) (out taken : SinkTold)
      → IsPlayed opponent side cursor due arms cs old new result source left out taken → IsSettled
      result
  played_settled (dues.Wrong given) out taken h = settled_by _ result h.1.0 tt
  played_settled dues.NoBound out taken h = settled_by _ result h.1.0 tt
  played_settled (dues.Mate m) out taken h = answers_settled _ _ result out taken h.1
  played_settled (dues.Stalemate m) out taken h = answers_settled _ _ result out taken h.1
  played_settled dues.Cut out taken h = answers_settled _ _ result out taken h.1
  played_settled (dues.Ply m) out taken h =
      ply_settled (by_codes opponent (same_colour m side)) (same_colour m side) out taken h

  -- what was answered may be what a turn of this way answers
  answers_kind : (turn : Turn) (text : List ℕ) (out taken : SinkTold) → IsTurnOf (Ok turn) opponent
      → Answers turn text result out taken → IsTurnOf result opponent
  answers_kind turn text out taken kind (inl a) =
      subst (λ (z : Result Turn PlayFault). IsTurnOf z opponent) (sym a.0) kind
  answers_kind turn text out taken kind (inr a) =
      subst (λ (z : Result Turn PlayFault). IsTurnOf z opponent) (sym a.0) tt

  fault_kind : (fault : PlayFault) → IsFaultOf fault opponent → result ≡ Err fault
      → IsTurnOf result opponent
  fault_kind fault kind e = subst (λ (z : Result Turn PlayFault). IsTurnOf z opponent) (sym e) kind

  fails_kind : (fault : PlayFault) → opponent ≡ opponents.Input → MayFail fault
      → IsFaultOf fault opponent
  fails_kind fault by (inl e) = subst (λ (f : PlayFault). IsFaultOf f opponent) (sym e) by
  fails_kind fault by (inr e) = subst (λ (f : PlayFault). IsFaultOf f opponent) (sym e) tt

  moved_kind : (place : ℕ) (word : List ℕ) (out taken : SinkTold)
      → PlaysAt word place arms cs result out taken → IsTurnOf result opponent
  moved_kind place word out taken h = answers_kind _ _ out taken (next_kind h.0.next) h.2 where
    next_kind : (next : Next ℕ Value)
        → IsTurnOf (Ok (turn_of h.0.mv next (get_or cs place 0))) opponent
    next_kind (Inside n) = tt
    next_kind (Outside v) = tt

  heard_kind : opponent ≡ opponents.Input → (heard_is : Result Heard PlayFault)
      (out between taken : SinkTold) → Hears arms old new heard_is source left out between
      → AfterHeard arms cs heard_is result between taken → IsTurnOf result opponent
  heard_kind by (Ok (heard.Reply place)) out between taken hears h =
      moved_kind place (codes "reply ") between taken h
  heard_kind by (Ok (heard.Stop Ended)) out between taken hears h =
      answers_kind _ _ between taken by h
  heard_kind by (Ok (heard.Stop (Limit l))) out between taken hears h =
      fault_kind (plays.Limit l) by h.0
  heard_kind by (Err fault) out between taken hears h =
      fault_kind fault (fails_kind fault by (hears.fails fault refl)) h.0

  ply_kind : (found own : Bool) → (found ≡ false → opponent ≡ opponents.Input)
      → (out taken : SinkTold)
      → PlaysPly found opponent own cursor arms cs old new result source left out taken
      → IsTurnOf result opponent
  ply_kind true own by out taken h = moved_kind h.1.0 (own_word opponent) out taken h.1.3
  ply_kind false own by out taken h =
      heard_kind (by refl) h.heard out h.between taken h.hears h.after

  pub played_kind : (due : Due) → (due ≡ dues.Cut → opponent ≡ opponents.Codes)
      → (out taken : SinkTold)
      → IsPlayed opponent side cursor due arms cs old new result source left out taken
      → IsTurnOf result opponent
  played_kind (dues.Wrong given) cut out taken h = fault_kind _ tt h.1.0
  played_kind dues.NoBound cut out taken h = fault_kind _ tt h.1.0
  played_kind (dues.Mate m) cut out taken h = answers_kind _ _ out taken tt h.1
  played_kind (dues.Stalemate m) cut out taken h = answers_kind _ _ out taken tt h.1
  played_kind dues.Cut cut out taken h = answers_kind _ _ out taken (cut refl) h.1
  played_kind (dues.Ply m) cut out taken h =
      ply_kind (by_codes opponent (same_colour m side)) (same_colour m side)
      (by_input opponent (same_colour m side)) out taken h

  still_unread : Unread old new source left → (old.ended ≡ true → HasEnded source)
      → new.ended ≡ true → HasEnded left
  still_unread unread has e =
      subst HasEnded (sym unread.1) (has (sym (ap (λ (r : Reader). r.ended) unread.0) ∙ e))

  ply_ended : (found own : Bool) (out taken : SinkTold)
      → PlaysPly found opponent own cursor arms cs old new result source left out taken
      → (old.ended ≡ true → HasEnded source) → new.ended ≡ true → HasEnded left
  ply_ended true own out taken h has = still_unread h.0 has
  ply_ended false own out taken h has = h.hears.ended

  -- behind the end of the input nothing is left
  pub still_ended : (due : Due) (out taken : SinkTold)
      → IsPlayed opponent side cursor due arms cs old new result source left out taken
      → (old.ended ≡ true → HasEnded source) → new.ended ≡ true → HasEnded left
  still_ended (dues.Wrong given) out taken h has = still_unread h.0 has
  still_ended dues.NoBound out taken h has = still_unread h.0 has
  still_ended (dues.Mate m) out taken h has = still_unread h.0 has
  still_ended (dues.Stalemate m) out taken h has = still_unread h.0 has
  still_ended dues.Cut out taken h has = still_unread h.0 has
  still_ended (dues.Ply m) out taken h has =
      ply_ended (by_codes opponent (same_colour m side)) (same_colour m side) out taken h has

  heard_no_more : (heard_is : Result Heard PlayFault) → LeavesFewer heard_is old.more new.more
      → new.more ≤ old.more
  heard_no_more (Ok (heard.Reply place)) fewer = omega arith
  heard_no_more (Ok (heard.Stop why)) fewer = fewer
  heard_no_more (Err fault) fewer = fewer

  same_more : Unread old new source left → new.more ≤ old.more
  same_more unread = (let same = ap (λ (r : Reader). r.more) unread.0 in omega (arith, same))

  ply_no_more : (found own : Bool) (out taken : SinkTold)
      → PlaysPly found opponent own cursor arms cs old new result source left out taken
      → new.more ≤ old.more
  ply_no_more true own out taken h = same_more h.0
  ply_no_more false own out taken h = heard_no_more h.heard h.hears.fewer

  -- no more lines may be read than before
  pub still_no_more : (due : Due) (out taken : SinkTold)
      → IsPlayed opponent side cursor due arms cs old new result source left out taken
      → new.more ≤ old.more
  still_no_more (dues.Wrong given) out taken h = same_more h.0
  still_no_more dues.NoBound out taken h = same_more h.0
  still_no_more (dues.Mate m) out taken h = same_more h.0
  still_no_more (dues.Stalemate m) out taken h = same_more h.0
  still_no_more dues.Cut out taken h = same_more h.0
  still_no_more (dues.Ply m) out taken h =
      ply_no_more (by_codes opponent (same_colour m side)) (same_colour m side) out taken h
