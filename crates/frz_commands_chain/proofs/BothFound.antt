-- What `chain` has read, under both names.
use Rattle.std.proofs.Common.{◌≡◌, false, sym, ap, subst, ◌∙◌, ℕ, ◌+◌, ◌≤◌, List, Option, Some, Result, Ok, Err, arith}
use Rattle.std.specs.Str.{bytes_eq}
use Rattle.frz_store.specs.Files.{Files}
use Rattle.frz_store.specs.Told.{StoreTold}
use Rattle.frz_table.specs.declared.fault.TableFault.{TableFault}
use Rattle.frz_table.specs.declared.kind.FileKind.TheVariants.{Plain}
use Rattle.frz_table.specs.Opening.{opened, table_format}
use Rattle.frz_table.specs.Possible.{MayHold}
use Rattle.frz_chain.specs.Backs.{HasWrong, IsRefusedBack, OpensBack, RefusesBack}
use Rattle.frz_chain.specs.Chains.{bytes_of_back, calls_of_back, steps_of_back}
use Rattle.frz_chain.specs.FileOn.{loaded_back}
use Rattle.frz_chain.specs.declared.fault.ChainFault.{ChainFault}
use Rattle.frz_chain.specs.declared.fault.ChainFault.TheVariants as chain
use Rattle.frz_check.specs.Kept.{WithinFile}
use Rattle.frz_prelude.specs.RulesFiles.{GivesText, IsTextRead, asked_of, or_fault, reads_of as rules_reads, rules_held}
use Rattle.frz_prelude.specs.declared.refused.Refused.TheVariants as refusals
use Rattle.frz_prelude.specs.declared.rules_at.RulesText.{RulesText}
use Rattle.frz_prelude.specs.declared.stop.Stop.{Stop}
use Rattle.frz_prelude.specs.declared.stop.Stop.TheVariants.{Refused, Fault}
use Rattle.frz_prelude.proofs.Lemmas.{of_rules}
use Rattle.frz_commands_chain.specs.Reading.{AreBothRead, GivesBoth, HasRules, IsRefusedBoth, StopsReading, if_accepted}
use Rattle.frz_commands_chain.specs.Stops.{stop_of_chain}
use Rattle.frz_commands_chain.specs.declared.reading.BothRead.{BothRead}
use Rattle.frz_commands_chain.proofs.BothHeld.{HoldBoth, agreed_at, hold_both}

-- the rules file was not read
rules_due : (held back_held : Option (List ℕ)) (stop : Stop) → GivesText held (Err stop)
    → GivesBoth held back_held (Err stop)
rules_due held back_held (Refused why) due =
    of_rules (λ w. rules_held held ≡ Err w → IsRefusedBoth held back_held w) held why due (λ e. e)
    (λ fault e. e) due
rules_due held back_held (Fault fault) due = tt

pub rules_stop : (held : Option (List ℕ)) (stop : Stop) → GivesText held (Err stop)
    → StopsReading stop
rules_stop held (Refused why) due =
    of_rules (λ w. StopsReading (Refused w)) held why due tt (λ fault. tt)
rules_stop held (Fault fault) due = tt

pub back_stop : (held : Option (List ℕ)) (fault : ChainFault) → IsRefusedBack held fault
    → StopsReading (stop_of_chain fault)
back_stop held (chain.Rules fault) h = absurd h
back_stop held (chain.Table fault) h = absurd h
back_stop held (chain.Back fault) h = tt
back_stop held (chain.BackWrong wrong) h = tt
back_stop held chain.Failed h = tt
back_stop held chain.NoMemory h = tt

pub not_read : (rules back : List ℕ) (stop : Stop) (old new : StoreTold) (steps : ℕ)
    → IsTextRead rules (Err stop) old new
    → AreBothRead rules back (Err stop) old new steps steps
not_read rules back stop old new steps read =
    let asked = read.asked in
    let calls = read.calls in record {
      files = read.files;
      agrees = read.agrees;
      due = rules_due (read.files rules) (read.files back) stop read.due;
      steps = omega arith;
      asked = omega (arith, asked);
      calls = omega (arith, calls);
    }

-- the rules file was read, and is to be the back table too
pub not_again : (rules : List ℕ) (read : RulesText) (fault : TableFault) (old new : StoreTold)
    (steps : ℕ) → IsTextRead rules (Ok read) old new
    → opened (table_format Plain) (Some read.text.items) ≡ Err fault
    → AreBothRead rules rules (Err (Refused (refusals.Back fault))) old new steps steps
not_again rules read fault old new steps there refused =
    let asked = there.asked in
    let calls = there.calls in record {
      files = there.files;
      agrees = there.agrees;
      due = (
        (read.rules, ap rules_held there.due.0 ∙ ap or_fault there.due.1),
        ap (opened (table_format Plain)) there.due.0 ∙ refused,
      );
      steps = omega arith;
      asked = omega (arith, asked);
      calls = omega (arith, calls);
    }

-- the rules file was read, and then the back table was looked for
module _ (rules back : List ℕ) (read : RulesText) (old mid new : StoreTold) (before now : ℕ)
    (there : IsTextRead rules (Ok read) old mid) (same : mid.files ≡ old.files)
    (differ : bytes_eq rules back ≡ false) where
  both_are_held : (back_held : Option (List ℕ)) → MayHold mid.files back back_held
      → HoldBoth old.files rules back (there.files rules) back_held
  both_are_held back_held may =
      hold_both old.files rules back (there.files rules) back_held differ
      (agreed_at old.files there.files rules there.agrees)
      (subst (λ (o : Option Files). MayHold o back back_held) same may)

  has_rules : (m : Files) → m rules ≡ there.files rules → HasRules (m rules)
  has_rules m e = (read.rules, ap rules_held (e ∙ there.due.0) ∙ ap or_fault there.due.1)

  both_read : (result : Result BothRead Stop) (back_held : Option (List ℕ))
      → MayHold mid.files back back_held → WithinFile back_held mid new before now
      → ((m : Files) → m rules ≡ there.files rules → m back ≡ back_held
      → GivesBoth (m rules) (m back) result) → AreBothRead rules back result old new before now
  both_read result back_held may within gives =
      let at = both_are_held back_held may in
      let asked : new.asked ≤ old.asked + (asked_of (there.files rules) + bytes_of_back back_held) =
      (let a = there.asked in let b = within.asked in omega (arith, a, b)) in
      let call : new.calls
      ≤ old.calls + (1 + rules_reads (there.files rules) + calls_of_back back_held) =
      (let a = there.calls in let b = within.calls in omega (arith, a, b)) in
      let accepted = (has_rules at.files at.first).1 in
      let all : (n : ℕ) → n ≡ if_accepted (rules_held (at.files rules)) n = λ n. sym
      (ap (λ x. if_accepted x n) accepted) in
      record {
        files = at.files;
        agrees = at.agrees;
        due = gives at.files at.first at.second;
        steps =
            subst (λ (n : ℕ). now ≤ before + n) (all (steps_of_back (at.files back)))
            (subst (λ (h : Option (List ℕ)). now ≤ before + steps_of_back h) (sym at.second)
            within.steps);
        asked =
            subst (λ (n : ℕ). new.asked ≤ old.asked + (asked_of (at.files rules) + n))
            (all (bytes_of_back (at.files back)))
            (subst (λ (h : Option (List ℕ)). new.asked
            ≤ old.asked + (asked_of h + bytes_of_back (at.files back))) (sym at.first)
            (subst (λ (h : Option (List ℕ)). new.asked
            ≤ old.asked + (asked_of (there.files rules) + bytes_of_back h)) (sym at.second) asked));
        calls =
            subst (λ (n : ℕ). new.calls ≤ old.calls + (1 + rules_reads (at.files rules) + n))
            (all (calls_of_back (at.files back)))
            (subst (λ (h : Option (List ℕ)). new.calls
            ≤ old.calls + (1 + rules_reads h + calls_of_back (at.files back))) (sym at.first)
            (subst (λ (h : Option (List ℕ)). new.calls
            ≤ old.calls + (1 + rules_reads (there.files rules) + calls_of_back h)) (sym at.second)
            call));
      }

  pub back_read : (both_is : BothRead) → both_is.read ≡ read
      → OpensBack back (loaded_back both_is.back) mid new before now
      → AreBothRead rules back (Ok both_is) old new before now
  back_read both_is e h =
      both_read (Ok both_is) (Some h.bytes) h.may h.within
      (λ m first second. (
        subst (λ (r : RulesText). GivesText (m rules) (Ok r)) (sym e)
            (first ∙ there.due.0, there.due.1),
        record {
          bytes = h.bytes;
          there = second;
          contents = h.contents;
          judged = h.judged;
          keeps = h.keeps;
        },
      ))

  pub back_refused : (fault : ChainFault) → RefusesBack back mid new before now fault
      → AreBothRead rules back (Err (stop_of_chain fault)) old new before now
  back_refused (chain.Rules fault) h = absurd h.refuses
  back_refused (chain.Table fault) h = absurd h.refuses
  back_refused (chain.Back fault) h =
      both_read (Err (stop_of_chain (chain.Back fault))) h.held h.may h.within
      (λ m first second. (has_rules m first, ap (opened (table_format Plain)) second ∙ h.refuses))
  back_refused (chain.BackWrong wrong) h =
      both_read (Err (stop_of_chain (chain.BackWrong wrong))) h.held h.may h.within
      (λ m first second.
      (has_rules m first, subst (λ (x : Option (List ℕ)). HasWrong x wrong) (sym second) h.refuses))
  back_refused chain.Failed h =
      both_read (Err (stop_of_chain chain.Failed)) h.held h.may h.within (λ m first second. tt)
  back_refused chain.NoMemory h =
      both_read (Err (stop_of_chain chain.NoMemory)) h.held h.may h.within (λ m first second. tt)
