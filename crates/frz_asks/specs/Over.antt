-- What a run says of files that agree with what the store tells: its result is what the calculation
-- gives over them, and its costs are within those that the calculation has there.
use Rattle.std.specs.Prelude.{◌≡◌, ◌⊎◌, ◌+◌, ◌≤◌, ⊤}
use Rattle.frz_asks.specs.Runs.{End, came, halted}
use Rattle.frz_asks.specs.Trees.{Asks, MayWant, bytes_over, calls_over, over}
use Rattle.frz_store.specs.Bytes.{MayBeHeld}
use Rattle.frz_store.specs.Files.{Files}
use Rattle.frz_store.specs.Outside.{Rose}
use Rattle.frz_store.specs.Told.{StoreTold}
use Rattle.frz_store.specs.declared.outside.StoreFault.TheVariants.{NoMemory}

abbrev pub GivesOver : {A : Type 0} → Files → Asks A → End A → Type 0
GivesOver m p (came a) = over m p ≡ a
GivesOver m p (halted h) = ⊤

-- where it was halted for memory, the store wanted it, or the calculation may
abbrev pub WantedOver : {A : Type 0} → Files → Asks A → End A → StoreTold → StoreTold → Type 0
WantedOver m p (halted NoMemory) old new = Rose old.wants new.wants ⊎ MayWant m p
WantedOver m p end old new = ⊤

pub record RanOver {A : Type 0} (p : Asks A) (end : End A) (old new : StoreTold) : Type 0 where
  pub m : Files
  pub held : MayBeHeld old.files m
  pub gives : GivesOver m p end
  pub calls : new.calls ≤ old.calls + calls_over m p
  pub asked : new.asked ≤ old.asked + bytes_over m p
  pub wants : WantedOver m p end old new
