-- How `chaincheck` ends.
use Rattle.std.proofs.Common.{◌≡◌, false, refl, sym, subst, ℕ, List, [], ◌∷◌, Option, Some}
use Rattle.std.specs.Str.{bytes_eq}
use Rattle.frz_store.specs.Files.{Files}
use Rattle.frz_table.specs.Possible.{MayHold}
use Rattle.frz_sets.specs.Sets.{size_of}
use Rattle.frz_check.specs.declared.verdict.Verdict.{Verdict}
use Rattle.frz_check.specs.declared.verdict.Verdict.TheVariants as verdict
use Rattle.frz_chain.specs.Chains.{ChecksChain, IsRefusedChain, RefusesChain, WithinBoth, judgement}
use Rattle.frz_chain.specs.FileOn.{back_of}
use Rattle.frz_chain.specs.declared.checking.ChainVerdict.{ChainVerdict}
use Rattle.frz_chain.specs.declared.fault.ChainFault.{ChainFault}
use Rattle.frz_chain.specs.declared.fault.ChainFault.TheVariants as chain
use Rattle.frz_answer.specs.declared.status.Status.TheVariants.{Success, Wrong, Table, Missing}
use Rattle.frz_answer.specs.Statuses.{OneOf}
use Rattle.frz_answer.specs.Jobs.{WithinCosts}
use Rattle.frz_answer.specs.World.{World, Agrees, spent}
use Rattle.frz_answer.proofs.Lemmas.{SaysAll}
use Rattle.frz_prelude.specs.Refusals.{refusal_line, status_of}
use Rattle.frz_prelude.specs.declared.refused.Refused.{Refused as Refusal}
use Rattle.frz_prelude.specs.declared.refused.Refused.TheVariants as refusals
use Rattle.frz_prelude.specs.declared.stop.Stop.TheVariants.{Refused}
use Rattle.frz_prelude.proofs.Lemmas.{StopsWith, found_where, table_own}
use Rattle.frz_commands_chain.specs.Checking.{IsRefusedPair, refused, judged, chain_status, chain_verdict_line, pair_costs}
use Rattle.frz_commands_chain.specs.CheckMeans.{checking_pair}
use Rattle.frz_commands_chain.specs.Stops.{stop_of_chain}
use Rattle.frz_commands_chain.proofs.BothHeld.{HoldBoth, hold_both}
use Rattle.frz_commands_chain.proofs.PairOnce.{some_pair}

-- the statuses of `chaincheck`
pub own_verdict : (v : Verdict) → OneOf (chain_status v) (Success ∷ Wrong ∷ Table ∷ Missing ∷ [])
own_verdict verdict.Exact = refl
own_verdict (verdict.Wrong wrong) = refl

pub own_refusal : (held back_held : Option (List ℕ)) (fault : ChainFault)
    → IsRefusedChain held back_held fault → (why : Refusal) → stop_of_chain fault ≡ Refused why
    → OneOf (status_of why) (Success ∷ Wrong ∷ Table ∷ Missing ∷ [])
own_refusal held back_held (chain.Rules fault) h why e = absurd h
own_refusal held back_held (chain.Table fault) h why e =
    let same : refusals.Table fault ≡ why = cc in
    subst (λ (w : Refusal). OneOf (status_of w) (Success ∷ Wrong ∷ Table ∷ Missing ∷ [])) same
    (table_own fault (Success ∷ Wrong ∷ Table ∷ Missing ∷ []) refl refl)
own_refusal held back_held (chain.Back fault) h why e =
    let same : refusals.Back fault ≡ why = cc in
    subst (λ (w : Refusal). OneOf (status_of w) (Success ∷ Wrong ∷ Table ∷ Missing ∷ [])) same
    (table_own fault (Success ∷ Wrong ∷ Table ∷ Missing ∷ []) refl refl)
own_refusal held back_held (chain.BackWrong wrong) h why e =
    let same : refusals.BackWrong wrong ≡ why = cc in
    subst (λ (w : Refusal). OneOf (status_of w) (Success ∷ Wrong ∷ Table ∷ Missing ∷ [])) same refl
own_refusal held back_held chain.Failed h why e = cc
own_refusal held back_held chain.NoMemory h why e = cc

-- what was spent is within the costs of what the names hold
within_pair : (table back : List ℕ) (m : Files) (held back_held : Option (List ℕ)) (old new : World)
    → m table ≡ held → m back ≡ back_held
    → WithinBoth held back_held old.store new.store old.steps new.steps
    → WithinCosts (pair_costs (m table) (m back)) (spent old) (spent new)
within_pair table back m held back_held old new e f h =
    subst (λ (x : Option (List ℕ)). WithinCosts (pair_costs x (m back)) (spent old) (spent new))
    (sym e)
    (subst (λ (x : Option (List ℕ)). WithinCosts (pair_costs held x) (spent old) (spent new))
    (sym f) (record { steps = h.steps; calls = h.calls; asked = h.asked }))

module _ (table back : List ℕ) (files : Files) (input : List ℕ) (old new : World)
    (differ : bytes_eq table back ≡ false) (agrees : Agrees old files input) where
  -- files in which the names hold what they may hold
  both_may_hold : (held back_held : Option (List ℕ)) → MayHold old.store.files table held
      → MayHold old.store.files back back_held
      → HoldBoth old.store.files table back held back_held
  both_may_hold held back_held may back_may =
      hold_both old.store.files table back held back_held differ may back_may

  -- the verdict was told
  pub judged_so : (v : ChainVerdict)
      → (h : ChecksChain table back old.store new.store old.steps new.steps v)
      → SaysAll (checking_pair table back) (chain_status (judgement v))
      (chain_verdict_line (size_of h.contents.rules.groups) (size_of h.back_contents.rules.groups)
      (judgement v)) files input old new
  judged_so v h =
      let at = both_may_hold (Some h.bytes) (Some h.back_bytes) h.may h.back_may in record {
        found = found_where (checking_pair table back) at.files files input old
            (λ e. cc) at.agrees agrees;
        answer =
            judged (judgement v)
            (record {
              bytes = h.bytes;
              there = at.first;
              contents = h.contents;
              opens = h.opens;
              behind = back_of h.back_contents h.back_bytes;
              back_there = record {
                bytes = h.back_bytes;
                there = at.second;
                contents = h.back_contents;
                judged = h.back_judged;
                keeps = refl;
              };
              judged = h.told.codes;
            })
            refl;
        costs = within_pair table back at.files (Some h.bytes) (Some h.back_bytes) old new at.first
            at.second h.within;
      }

  -- one of the tables was refused
  refused_so : (why : Refusal) (held back_held : Option (List ℕ))
      → MayHold old.store.files table held → MayHold old.store.files back back_held
      → IsRefusedPair held back_held why
      → WithinBoth held back_held old.store new.store old.steps new.steps
      → SaysAll (checking_pair table back) (status_of why) (refusal_line why) files input old new
  refused_so why held back_held may back_may h within =
      let at = both_may_hold held back_held may back_may in record {
        found = found_where (checking_pair table back) at.files files input old
            (λ e. cc) at.agrees agrees;
        answer =
            refused why
            (subst (λ (x : Option (List ℕ)). IsRefusedPair x (at.files back) why) (sym at.first)
            (subst (λ (x : Option (List ℕ)). IsRefusedPair held x why) (sym at.second) h))
            refl;
        costs = within_pair table back at.files held back_held old new at.first at.second within;
      }

  begun_so : (fault : ChainFault) → RefusesChain table back old.store new.store old.steps new.steps
      fault
      → StopsWith (checking_pair table back) (stop_of_chain chain.Failed) files input old new
  begun_so fault h =
      let at = both_may_hold h.held h.back_held h.may h.back_may in record {
        found = found_where (checking_pair table back) at.files files input old
            (λ e. cc) at.agrees agrees;
        some = some_pair table back at.files;
        costs = within_pair table back at.files h.held h.back_held old new at.first at.second
            h.within;
      }

  pub stopped_so : (fault : ChainFault)
      → RefusesChain table back old.store new.store old.steps new.steps fault
      → StopsWith (checking_pair table back) (stop_of_chain fault) files input old new
  stopped_so (chain.Rules fault) h = absurd h.refuses
  stopped_so (chain.Table fault) h =
      refused_so (refusals.Table fault) h.held h.back_held h.may h.back_may h.refuses h.within
  stopped_so (chain.Back fault) h =
      refused_so (refusals.Back fault) h.held h.back_held h.may h.back_may h.refuses h.within
  stopped_so (chain.BackWrong wrong) h =
      refused_so (refusals.BackWrong wrong) h.held h.back_held h.may h.back_may h.refuses h.within
  stopped_so chain.Failed h = begun_so chain.Failed h
  stopped_so chain.NoMemory h = begun_so chain.NoMemory h
