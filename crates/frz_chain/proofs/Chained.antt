-- How a table over a back table is built.
use Rattle.std.proofs.Common.{◌≡◌, ◌≢◌, inl, inr, refl, sym, ap, subst, ℕ, ◌+◌, ◌*◌, ◌≤◌, true, List, Option, Some, Result, Ok, Err, arith}
use Rattle.frz_rules.specs.Text.{Fails, may_want_memory, rules_of}
use Rattle.frz_rules.specs.declared.fault.RulesError.{RulesError}
use Rattle.frz_rules.specs.declared.fault.RulesError.TheVariants as reading
use Rattle.frz_rules.specs.declared.fault.RulesFault.{RulesFault}
use Rattle.frz_sets.specs.Sets.{size_of}
use Rattle.frz_sets.specs.Sound.{IsSound}
use Rattle.frz_sets.specs.Views.{RuleLines}
use Rattle.frz_store.specs.Outside.{Rose}
use Rattle.frz_store.specs.Told.{StoreTold, StoreFine, StoreQuiet}
use Rattle.frz_store.specs.Writes.{Written}
use Rattle.frz_store.specs.declared.outside.StoreFault.{StoreFault}
use Rattle.frz_store.specs.declared.outside.StoreFault.TheVariants as store
use Rattle.frz_table.specs.declared.kind.FileKind.TheVariants.{Chained}
use Rattle.frz_table.specs.Layout.{magic_of}
use Rattle.frz_game.proofs.Lemmas.{table_there}
use Rattle.frz_build.specs.Kept.{WithinFile}
use Rattle.frz_build.specs.Building.{Builds, writing_calls}
use Rattle.frz_build.proofs.Lemmas.{builds_after, costs_added, costs_kept, file_there, quiet_same, still_held}
use Rattle.frz_chain.specs.Backs.{IsRefusedBack, OpensBack, RefusesBack}
use Rattle.frz_chain.specs.Books.{Back, chain_value}
use Rattle.frz_chain.specs.Causes.{HasChainCause, fault_of, rules_fault}
use Rattle.frz_chain.specs.Chains.{Chains, IsNotChained, RefusesToChain, WithinChaining, bytes_of_back, bytes_to_chain, calls_of_back, calls_to_chain, steps_of_back, steps_to_chain}
use Rattle.frz_chain.specs.ExactBacks.{if_exact}
use Rattle.frz_chain.specs.FileOn.{IsFileOn, back_of}
use Rattle.frz_chain.specs.declared.fault.ChainFault.{ChainFault}
use Rattle.frz_chain.specs.declared.fault.ChainFault.TheVariants as chain
use Rattle.frz_chain.proofs.Checked.{some_held}
use Rattle.frz_chain.proofs.ExactBacks.{all_if_exact, judged_exact}
use Rattle.frz_chain.proofs.SmallLags.{chain_small}

-- there is one file over the back table
pub file_on_there : (text : List ℕ) (rules : RuleLines) (back : Back) → IsSound rules
    → (bytes : List ℕ) × IsFileOn text rules back bytes
file_on_there text rules back sound =
    file_there rules (chain_value rules back)
    (table_there rules (chain_value rules back) (chain_small rules back sound)) (magic_of Chained)
    text

-- what was spent is within the costs where the text is accepted
within_chaining : (text : List ℕ) (rules : RuleLines) (held : Option (List ℕ))
    (old mid new : StoreTold) (steps_before steps_then steps_now : ℕ) → rules_of text ≡ Ok rules
    → WithinFile held old mid steps_before steps_then
    → steps_now ≤ steps_then + if_exact held (4 * size_of rules.groups) → new.asked ≤ mid.asked
    → new.calls ≤ mid.calls + if_exact held (writing_calls (size_of rules.groups))
    → WithinChaining text held old new steps_before steps_now
within_chaining text rules held old mid new steps_before steps_then steps_now accepted h steps asked
    calls =
    let size = size_of rules.groups in
    record {
      steps = costs_added steps_before steps_then steps_now (steps_of_back held)
          (if_exact held (4 * size)) _
          (ap (λ (x : Result RuleLines RulesFault). steps_to_chain x held) accepted) h.steps steps;
      asked = subst (λ (x : Result RuleLines RulesFault). new.asked ≤ old.asked + bytes_to_chain x held)
          (sym accepted) (costs_kept old.asked mid.asked new.asked (bytes_of_back held) h.asked asked);
      calls = costs_added old.calls mid.calls new.calls (calls_of_back held)
          (if_exact held (writing_calls size)) _
          (ap (λ (x : Result RuleLines RulesFault). calls_to_chain x held) accepted) h.calls calls;
    }

module _ (text back name : List ℕ) (rules : RuleLines) (accepted : rules_of text ≡ Ok rules)
    (loaded : Back) (old mid new : StoreTold) (steps_before steps_then steps_now : ℕ)
    (quiet : StoreQuiet old mid) (fine : StoreFine old mid)
    (opens : OpensBack back loaded old mid steps_before steps_then)
    (steps : steps_now ≤ steps_then + 4 * size_of rules.groups) (asked : new.asked ≡ mid.asked)
    (calls : new.calls ≤ mid.calls + writing_calls (size_of rules.groups)) where
  -- all was spent, since the back table is exact
  within_exact : WithinChaining text (Some opens.bytes) old new steps_before steps_now
  within_exact =
      let held : Option (List ℕ) = Some opens.bytes in
      let all : (n : ℕ) → n ≡ if_exact held n =
      λ n. sym (all_if_exact held (judged_exact opens.bytes opens.contents opens.judged) n) in
      let size = size_of rules.groups in
      within_chaining text rules held old mid new steps_before steps_then steps_now accepted
      opens.within (subst (λ (n : ℕ). steps_now ≤ steps_then + n) (all (4 * size)) steps)
      (omega (arith, asked))
      (subst (λ (n : ℕ). new.calls ≤ mid.calls + n) (all (writing_calls size)) calls)

  -- what was written since the back table was asked for is of the one file over it
  over_bytes : (result : Result ℕ StoreFault)
      → Builds (magic_of Chained) text rules (chain_value rules loaded) name result mid new
      → Builds (magic_of Chained) text rules (chain_value rules (back_of opens.contents opens.bytes))
      name result old new
  over_bytes result h =
      builds_after (magic_of Chained) text rules (chain_value rules loaded) _ name result old mid new
      (ap (chain_value rules) opens.keeps) quiet fine h

  pub built_over_back : name ≢ back → (size : ℕ) → size ≡ size_of rules.groups
      → Builds {T = ℕ} (magic_of Chained) text rules (chain_value rules loaded) name (Ok size) mid
      new → Chains text back name old new steps_before steps_now size
  built_over_back differs size sized built =
      let h = over_bytes (Ok size) built in record {
        rules = rules;
        accepted = accepted;
        back_bytes = opens.bytes;
        back_may = opens.may;
        back_are_bytes = opens.are_bytes;
        back_contents = opens.contents;
        back_judged = opens.judged;
        bytes = h.bytes;
        one_file = h.one_file;
        written = h.written.0;
        fine = h.written.1;
        back_after = still_held name back h.bytes (Some opens.bytes) differs old.files new.files
            h.written.0.files opens.may;
        sized = sized;
        within = within_exact;
      }

  not_written : (fault : StoreFault)
      → Builds {T = ℕ} (magic_of Chained) text rules
      (chain_value rules (back_of opens.contents opens.bytes)) name (Err fault) old new
      → IsNotChained text name (Some opens.bytes) old new (fault_of fault)
  not_written store.Failed h = (
    h.written.1,
    inr (record {
      rules = rules;
      accepted = accepted;
      back_bytes = opens.bytes;
      back_there = refl;
      back_contents = opens.contents;
      back_judged = opens.judged;
      bytes = h.bytes;
      one_file = h.one_file;
      part = h.written.0;
    }),
  )
  not_written store.NoMemory h = (inr (rules, accepted), h.written)

  pub not_chained : (fault : StoreFault)
      → Builds {T = ℕ} (magic_of Chained) text rules (chain_value rules loaded) name (Err fault) mid
      new
      → RefusesToChain text back name old new steps_before steps_now (fault_of fault)
  not_chained fault h = record {
    back_held = Some opens.bytes;
    back_may = opens.may;
    refuses = not_written fault (over_bytes (Err fault) h);
    within = within_exact;
  }

-- the cause of a failure in writing, and of none
pub write_cause : (name bytes : List ℕ) (fault : StoreFault) (old mid new : StoreTold)
    → StoreFine old mid → Written {T = ℕ} name bytes (Err fault) mid new
    → HasChainCause {T = ℕ} (Err (fault_of fault)) old new
write_cause name bytes store.Failed old mid new fine h =
    subst (λ (n : ℕ). Rose n new.faults) fine.faults h.1
write_cause name bytes store.NoMemory old mid new fine h = tt

-- the text was not read
pub not_read : (text back name : List ℕ) (old : StoreTold) (steps : ℕ) (fault : RulesError)
    → Fails fault (rules_of text)
    → (fault ≡ reading.NoMemory → may_want_memory text ≡ true)
    → RefusesToChain text back name old old steps steps (rules_fault fault)
not_read text back name old steps fault fails memory =
    let other = some_held old.files back in record {
      back_held = other.0;
      back_may = other.1;
      refuses = by_fault fault fails memory other.0;
      within = record { steps = omega arith; asked = omega arith; calls = omega arith };
    }
  where
    by_fault : (fault : RulesError) → Fails fault (rules_of text)
        → (fault ≡ reading.NoMemory → may_want_memory text ≡ true) → (held : Option (List ℕ))
        → IsNotChained text name held old old (rules_fault fault)
    by_fault (reading.Bad f) fails memory held = (fails, refl)
    by_fault reading.NoMemory fails memory held = (inl (memory refl), quiet_same old)

-- the back table was refused
module _ (text back name : List ℕ) (rules : RuleLines) (accepted : rules_of text ≡ Ok rules)
    (old new : StoreTold) (steps_before steps_now : ℕ) (quiet : StoreQuiet old new) where
  back_not_given : (held : Option (List ℕ)) (fault : ChainFault) → IsRefusedBack held fault
      → HasChainCause {T = ℕ} (Err fault) old new → IsNotChained text name held old new fault
  back_not_given held (chain.Back fault) h cause = ((rules, accepted), h, quiet)
  back_not_given held (chain.BackWrong wrong) h cause = ((rules, accepted), h, quiet)
  back_not_given held chain.Failed h cause = (cause, inl ((rules, accepted), quiet))
  back_not_given held chain.NoMemory h cause = (inr (rules, accepted), quiet)
  back_not_given held (chain.Rules fault) h cause = absurd h
  back_not_given held (chain.Table fault) h cause = absurd h

  pub no_back : (fault : ChainFault) → HasChainCause {T = ℕ} (Err fault) old new
      → RefusesBack back old new steps_before steps_now fault
      → RefusesToChain text back name old new steps_before steps_now fault
  no_back fault cause h = record {
    back_held = h.held;
    back_may = h.may;
    refuses = back_not_given h.held fault h.refuses cause;
    within =
        within_chaining text rules h.held old new new steps_before steps_now steps_now accepted
        h.within (omega arith) (omega arith) (omega arith);
  }
