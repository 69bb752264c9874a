-- What holds of the answer with which a way finished holds of the answer with its end.
use Rattle.std.proofs.Common.{◌≡◌, ℕ, List, Result, Ok, Err, sym, subst, ◌∙◌}
use Rattle.frz_store.specs.Outside.{Rose}
use Rattle.frz_store.specs.Told.{StoreTold, SourceTold, SinkTold, StoreFine}
use Rattle.frz_table.proofs.Lemmas.{fine_after}
use Rattle.frz_ways.specs.declared.end.LineFault.TheVariants as faults
use Rattle.frz_ways.specs.declared.opponent.Opponent.{Opponent}
use Rattle.frz_ways.specs.declared.session_end.PlayFault.{PlayFault}
use Rattle.frz_ways.specs.declared.session_end.PlayFault.TheVariants as plays
use Rattle.frz_ways.specs.declared.way_end.Finish.{Finish}
use Rattle.frz_ways.specs.declared.way_end.Finish.TheVariants.{Here, Left}
use Rattle.frz_ways.specs.declared.way_end.WayEnd.{WayEnd}
use Rattle.frz_ways.specs.declared.way_end.WayEnd.TheVariants as ends
use Rattle.frz_ways.specs.SessionFaults.{InputCause, StoreCause, WroteBy}
use Rattle.frz_ways.specs.WayEnds.{IsAnswerOf, IsFinishOf, ended}
use Rattle.frz_ways.proofs.TurnWritten.{same_wrote}

-- the same fault, whatever was to be answered, behind what went well
pub same_cause : (A B : Type 0) (fault : PlayFault) (old mid new : StoreTold) → StoreFine old mid
    → StoreCause {T = A} (Err fault) mid new → StoreCause {T = B} (Err fault) old new
same_cause A B plays.Input old mid new fine h = fine_after old mid new fine h
same_cause A B (plays.Limit l) old mid new fine h = fine_after old mid new fine h
same_cause A B (plays.Line faults.Outside) old mid new fine h = fine_after old mid new fine h
same_cause A B (plays.Line faults.NoBound) old mid new fine h = fine_after old mid new fine h
same_cause A B (plays.Line (faults.Wrong x)) old mid new fine h = fine_after old mid new fine h
same_cause A B (plays.Line faults.Store) old mid new fine h =
    subst (λ k. Rose k new.faults) fine.faults h
same_cause A B (plays.Line faults.Output) old mid new fine h = fine_after old mid new fine h
same_cause A B (plays.Line faults.NoMemory) old mid new fine h =
    subst (λ k. Rose k new.wants) fine.wants h

pub same_input : (A B : Type 0) (fault : PlayFault) (old new : SourceTold)
    → InputCause {T = A} (Err fault) old new → InputCause {T = B} (Err fault) old new
same_input A B plays.Input old new h = h
same_input A B (plays.Limit l) old new h = h
same_input A B (plays.Line fault) old new h = h

pub ended_wrote : (finish : Result Finish PlayFault) (text : List ℕ) (old new : SinkTold)
    → WroteBy finish text old new → WroteBy (ended finish) text old new
ended_wrote (Ok finish) text old new h = h
ended_wrote (Err fault) text old new h = same_wrote Finish WayEnd fault text old new h

ended_cause : (finish : Result Finish PlayFault) (old mid new : StoreTold) → StoreFine old mid
    → StoreCause finish mid new → StoreCause (ended finish) old new
ended_cause (Ok finish) old mid new fine h = fine_after old mid new fine h
ended_cause (Err fault) old mid new fine h = same_cause Finish WayEnd fault old mid new fine h

ended_input : (finish : Result Finish PlayFault) (old new : SourceTold)
    → InputCause finish old new → InputCause (ended finish) old new
ended_input (Ok finish) old new h = h
ended_input (Err fault) old new h = same_input Finish WayEnd fault old new h

ended_kind : (finish : Result Finish PlayFault) (opponent : Opponent)
    → IsFinishOf finish opponent → IsAnswerOf (ended finish) opponent
ended_kind (Ok (Here ends.Mate)) opponent h = h
ended_kind (Ok (Here ends.Stalemate)) opponent h = h
ended_kind (Ok (Here (ends.Exit v))) opponent h = absurd h
ended_kind (Ok (Here ends.Cut)) opponent h = h
ended_kind (Ok (Here ends.InputEnded)) opponent h = h
ended_kind (Ok (Left number move v)) opponent h = tt
ended_kind (Err fault) opponent h = h

fault_before : (finish : Result Finish PlayFault) (fault : PlayFault) → ended finish ≡ Err fault
    → finish ≡ Err fault
fault_before (Ok finish) fault e = absurd (cc)
fault_before (Err other) fault e = (cc)

-- the answer is that with the end of what finished so
module _ (finish : Result Finish PlayFault) {answer : Result WayEnd PlayFault}
    (is : answer ≡ ended finish) where
  pub answer_cause : (old mid new : StoreTold) → StoreFine old mid → StoreCause finish mid new
      → StoreCause answer old new
  answer_cause old mid new fine h =
      subst (λ (r : Result WayEnd PlayFault). StoreCause r old new) (sym is)
      (ended_cause finish old mid new fine h)

  pub answer_input : (old new : SourceTold) → InputCause finish old new → InputCause answer old new
  answer_input old new h =
      subst (λ (r : Result WayEnd PlayFault). InputCause r old new) (sym is)
      (ended_input finish old new h)

  pub answer_kind : (opponent : Opponent) → IsFinishOf finish opponent → IsAnswerOf answer opponent
  answer_kind opponent h =
      subst (λ (r : Result WayEnd PlayFault). IsAnswerOf r opponent) (sym is)
      (ended_kind finish opponent h)

  -- what was answered is a fault only where the way met it
  pub same_fault : (fault : PlayFault) → answer ≡ Err fault → finish ≡ Err fault
  same_fault fault e = fault_before finish fault (sym is ∙ e)
