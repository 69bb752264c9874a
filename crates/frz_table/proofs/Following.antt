-- Calls of the store that follow others: both wrote nothing, or both succeeded.
use Rattle.std.proofs.Common.{◌∙◌}
use Rattle.frz_store.specs.Told.{StoreTold, StoreQuiet, StoreFine}
use Rattle.frz_store.proofs.Lemmas.{later_store}

pub quiet_after : (old mid new : StoreTold) → StoreQuiet old mid → StoreQuiet mid new
    → StoreQuiet old new
quiet_after old mid new h k = record {
  unwritten = record {
    files = k.unwritten.files ∙ h.unwritten.files;
    last = k.unwritten.last ∙ h.unwritten.last;
    room = k.unwritten.room ∙ h.unwritten.room;
  };
  later = later_store old mid new h.later k.later;
}

pub fine_after : (old mid new : StoreTold) → StoreFine old mid → StoreFine mid new
    → StoreFine old new
fine_after old mid new h k = record { faults = k.faults ∙ h.faults; wants = k.wants ∙ h.wants }
