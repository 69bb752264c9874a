-- Runs of reading a text, by what the reader of rules says.
use Rattle.std.proofs.Common.{◌≡◌, refl, sym, subst, Bool, true, false, cond, ℕ, List, Result, Err}
use Rattle.frz_asks.proofs.Lemmas.{memory_on, no_memory, run_none}
use Rattle.frz_asks.specs.Runs.{End, stop_end, Run}
use Rattle.frz_asks.specs.Trees.{Asks, with_memory}
use Rattle.frz_rules.specs.Text.{Fails, may_want_memory, rules_of}
use Rattle.frz_rules.specs.declared.fault.RulesError.{RulesError}
use Rattle.frz_rules.specs.declared.fault.RulesError.TheVariants as errors
use Rattle.frz_rules.specs.declared.fault.RulesFault.{RulesFault}
use Rattle.frz_sets.specs.Views.{RuleLines}
use Rattle.frz_store.specs.Told.{StoreTold}
use Rattle.frz_table.specs.Asking.{Opened, kept_as, reading}
use Rattle.frz_table.specs.Faults.{rules_fault, stop_of}
use Rattle.frz_table.specs.declared.fault.TableFault.{TableFault}
use Rattle.frz_table.specs.declared.fault.TableFault.TheVariants.{Rules}

either_on : {A : Type 0} {end : End A} {old new : StoreTold} (b : Bool) (p : Asks A) → Run p end old new
    → Run (cond b (with_memory p) p) end old new
either_on true p r = memory_on r
either_on false p r = r

-- the text was read so
pub read_as : (file : ℕ) (text : List ℕ) (read : Result RuleLines RulesFault)
    (end : End (Result Opened TableFault)) (old new : StoreTold) → rules_of text ≡ read
    → Run (kept_as file text read) end old new → Run (reading file text) end old new
unfolding reading
read_as file text read end old new is r =
    either_on (may_want_memory text) (kept_as file text (rules_of text))
    (subst (λ x. Run (kept_as file text x) end old new) (sym is) r)

wanted : (b : Bool) (p : Asks (Result Opened TableFault)) (store : StoreTold) → b ≡ true
    → Run (cond b (with_memory p) p) (stop_end {A = Opened} (stop_of (rules_fault errors.NoMemory))) store store
wanted true p store e = no_memory p store
wanted false p store e = absurd cc

-- or it was not
pub not_read : (file : ℕ) (text : List ℕ) (error : RulesError) (store : StoreTold)
    → Fails error (rules_of text) → (error ≡ errors.NoMemory → may_want_memory text ≡ true)
    → Run (reading file text) (stop_end {A = Opened} (stop_of (rules_fault error))) store store
unfolding reading
not_read file text (errors.Bad fault) store h k =
    read_as file text (Err fault) _ store store h (run_none (Err (Rules fault)) store)
not_read file text errors.NoMemory store h k =
    wanted (may_want_memory text) (kept_as file text (rules_of text)) store (k refl)
