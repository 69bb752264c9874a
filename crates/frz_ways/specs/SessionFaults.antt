-- The faults of a session, and what each leaves of the sink, the store and the input.
use Rattle.std.specs.Prelude.{◌≡◌, ◌≤◌, ℕ, List, length, take, drop, IfSome, Result, Err}
use Rattle.std.specs.Option.{option_map}
use Rattle.frz_store.specs.Outside.{Rose}
use Rattle.frz_store.specs.Told.{StoreTold, SourceTold, SinkTold, StoreFine}
use Rattle.frz_answer.specs.Texts.{TookText, FailedWithin}
use Rattle.frz_ways.specs.declared.end.LineFault.TheVariants as faults
use Rattle.frz_ways.specs.declared.session_end.PlayFault.{PlayFault}
use Rattle.frz_ways.specs.declared.session_end.PlayFault.TheVariants.{Line, Input}

-- the sink failed within the text, where that is the fault, and else took all of the text
abbrev pub WroteBy : {T : Type 0} → Result T PlayFault → List ℕ → SinkTold → SinkTold → Type 0
WroteBy (Err (Line faults.Output)) text old new = FailedWithin text old new
WroteBy result text old new = TookText text old new

-- a fault of the store has raised its count there; any other answer left both counts as they were
abbrev pub StoreCause : {T : Type 0} → Result T PlayFault → StoreTold → StoreTold → Type 0
StoreCause (Err (Line faults.Store)) old new = Rose old.faults new.faults
StoreCause (Err (Line faults.NoMemory)) old new = Rose old.wants new.wants
StoreCause result old new = StoreFine old new

-- the input's count of faults has risen
pub record InputFailed (old new : SourceTold) : Type 0 where
  pub later : old.faults ≤ new.faults
  pub rose : Rose old.faults new.faults

-- a fault of the input has raised its count; any other answer left it as it was
abbrev pub InputCause : {T : Type 0} → Result T PlayFault → SourceTold → SourceTold → Type 0
InputCause (Err Input) old new = InputFailed old new
InputCause result old new = new.faults ≡ old.faults

-- these bytes were taken from the front of what was left
pub record TookBytes (bytes : List ℕ) (old new : SourceTold) : Type 0 where
  pub front : IfSome old.left (λ left. take (length bytes) left ≡ bytes)
  pub behind : new.left ≡ option_map (drop (length bytes)) old.left

-- these bytes agree with what is known of the input
abbrev pub MayHold : SourceTold → List ℕ → Type 0
MayHold input bytes = IfSome input.left (λ told. told ≡ bytes)
