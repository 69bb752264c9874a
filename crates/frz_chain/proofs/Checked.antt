-- What is found of a table over a back table, under the two names.
use Rattle.std.proofs.Common.{◌≡◌, refl, sym, ap, subst, ◌∙◌, ℕ, ◌+◌, ◌*◌, ◌≤◌, true, List, length, Option, None, Some, Result, Ok, Err, IfOk, IfErr, arith}
use Rattle.frz_sets.specs.Sets.{size_of}
use Rattle.frz_store.specs.Files.{Files}
use Rattle.frz_store.specs.Told.{StoreTold}
use Rattle.frz_table.specs.declared.fault.TableFault.{TableFault}
use Rattle.frz_table.specs.declared.fault.TableFault.TheVariants.{Missing, Magic, Other, Truncated, Extra, Rules, Size, Failed, NoMemory}
use Rattle.frz_table.specs.declared.kind.FileKind.{FileKind}
use Rattle.frz_table.specs.declared.kind.FileKind.TheVariants.{Chained}
use Rattle.frz_table.specs.Layout.{pieces_of}
use Rattle.frz_table.specs.Opening.{Contents, Refuses, contents_of, kept_text, opened, opening_calls, table_format}
use Rattle.frz_table.specs.Possible.{MayHold, MayOpen, MayRefuse}
use Rattle.frz_table.specs.Tables.{Table, table_size}
use Rattle.frz_build.proofs.Lemmas.{file_opens}
use Rattle.frz_table.proofs.Lemmas.{belongs, opened_calls, text_kept}
use Rattle.frz_build.specs.Kept.{ChecksTable, IsVerdictOn, WithinFile}
use Rattle.frz_chain.specs.Backs.{IsRefusedBack, OpensBack, RefusesBack}
use Rattle.frz_chain.specs.Books.{Back, chain_value}
use Rattle.frz_chain.specs.Causes.{IsOutsideFault, table_fault}
use Rattle.frz_chain.specs.ExactBacks.{if_exact, is_exact}
use Rattle.frz_chain.specs.Chains.{CarriesSizes, ChecksChain, IsRefusedChain, RefusesChain, WithinBoth, bytes_behind, bytes_of_back, calls_behind, calls_of_back, judgement, steps_behind, steps_of_back}
use Rattle.frz_chain.specs.FileOn.{back_of}
use Rattle.frz_chain.specs.declared.checking.ChainVerdict.{ChainVerdict}
use Rattle.frz_chain.specs.declared.fault.ChainFault.{ChainFault}
use Rattle.frz_chain.specs.declared.fault.ChainFault.TheVariants as chain
use Rattle.frz_chain.proofs.ExactBacks.{all_if_exact, judged_exact}

-- a file that is refused is refused as a table
file_refused : (held back_held : Option (List ℕ)) (fault : TableFault)
    → Refuses (opened (table_format Chained) held) fault
    → IsRefusedChain held back_held (table_fault fault)
file_refused held back_held Missing h = h
file_refused held back_held Magic h = h
file_refused held back_held (Other other) h = h
file_refused held back_held (Truncated length due) h = h
file_refused held back_held (Extra length due) h = h
file_refused held back_held (Rules fault) h = h
file_refused held back_held (Size kept due) h = h
file_refused held back_held Failed h = tt
file_refused held back_held NoMemory h = tt

-- a name may hold something
pub some_held : (files : Option Files) (name : List ℕ) → (held : Option (List ℕ))
    × MayHold files name held
some_held None name = (None, tt)
some_held (Some m) name = (m name, refl)

-- the table was not opened
pub not_opened : (table back : List ℕ) (old new : StoreTold) (steps : ℕ) (fault : TableFault)
    → MayRefuse (table_format Chained) table old new fault
    → RefusesChain table back old new steps steps (table_fault fault)
not_opened table back old new steps fault h =
    let other = some_held old.files back in record {
      held = h.held;
      may = h.may;
      back_held = other.0;
      back_may = other.1;
      refuses = file_refused h.held other.0 fault h.refuses;
      within = record {
        steps = omega arith;
        asked = (let a = h.asked in omega (arith, a));
        calls = (let a = h.calls in omega (arith, a));
      };
    }

-- what was spent is within the costs of both files, of which
-- the second half is for a back table that is exact
within_both : (bytes : List ℕ) (contents : Contents) (back_held : Option (List ℕ))
    (old mid then new : StoreTold) (steps_before steps_then steps_now : ℕ)
    → opened (table_format Chained) (Some bytes) ≡ Ok contents
    → mid.asked ≤ old.asked + (16 + length contents.text) → mid.calls ≤ old.calls + 5
    → WithinFile back_held mid then steps_before steps_then
    → new.asked ≤ then.asked + if_exact back_held (8 * size_of contents.rules.groups)
    → new.calls ≤ then.calls + if_exact back_held (2 * pieces_of (size_of contents.rules.groups))
    → steps_now ≤ steps_then + if_exact back_held (size_of contents.rules.groups)
    → WithinBoth (Some bytes) back_held old new steps_before steps_now
within_both bytes contents back_held old mid then new steps_before steps_then steps_now opens asked
    calls h more_asked more_calls steps =
    let file = belongs (table_format Chained) bytes contents opens in
    let text : length (kept_text bytes) ≡ length contents.text =
    ap (length {A = ℕ}) (text_kept _ contents.text (size_of contents.rules.groups) bytes
    file.file) in
    let size = size_of contents.rules.groups in
    record {
      steps = steps_both steps_before steps_then steps_now (steps_of_back back_held)
          (if_exact back_held size) _
          (ap (λ (x : Result Contents TableFault). steps_behind x back_held) opens) h.steps steps;
      asked = asked_both (length (kept_text bytes)) (bytes_of_back back_held)
          (if_exact back_held (8 * size)) _ text
          (ap (λ (x : Result Contents TableFault). bytes_behind x back_held) opens) asked h.asked
          more_asked;
      calls = calls_both (opening_calls (table_format Chained) (Some bytes))
          (calls_of_back back_held) (if_exact back_held (2 * pieces_of size)) _
          (opened_calls (table_format Chained) bytes contents opens)
          (ap (λ (x : Result Contents TableFault). calls_behind x back_held) opens) calls h.calls
          more_calls;
    }
  where
    steps_both : (start middle end back loads behind : ℕ) → behind ≡ back + loads
        → middle ≤ start + back → end ≤ middle + loads → end ≤ start + behind
    steps_both start middle end back loads behind is few more = omega (arith, is, few, more)

    asked_both : (text back loads behind : ℕ) → text ≡ length contents.text → behind ≡ back + loads
        → mid.asked ≤ old.asked + (16 + length contents.text)
        → then.asked ≤ mid.asked + back → new.asked ≤ then.asked + loads
        → new.asked ≤ old.asked + (16 + text + behind)
    asked_both text back loads behind same is first middle more =
        omega (arith, same, is, first, middle, more)

    calls_both : (opening back loads behind : ℕ) → opening ≡ 5 → behind ≡ back + loads
        → mid.calls ≤ old.calls + 5
        → then.calls ≤ mid.calls + back → new.calls ≤ then.calls + loads
        → new.calls ≤ old.calls + (opening + behind)
    calls_both opening back loads behind five is first middle more =
        omega (arith, five, is, first, middle, more)

-- the codes of the table were loaded over a back table that is exact
loaded_both : (bytes : List ℕ) (contents : Contents) (back_held : Option (List ℕ))
    (old mid then new : StoreTold) (steps_before steps_then steps_now : ℕ)
    → opened (table_format Chained) (Some bytes) ≡ Ok contents → is_exact back_held ≡ true
    → mid.asked ≤ old.asked + (16 + length contents.text) → mid.calls ≤ old.calls + 5
    → WithinFile back_held mid then steps_before steps_then
    → new.asked ≤ then.asked + 8 * size_of contents.rules.groups
    → new.calls ≤ then.calls + 2 * pieces_of (size_of contents.rules.groups)
    → steps_now ≤ steps_then + size_of contents.rules.groups
    → WithinBoth (Some bytes) back_held old new steps_before steps_now
loaded_both bytes contents back_held old mid then new steps_before steps_then steps_now opens exact
    asked calls h more_asked more_calls steps =
    let all : (n : ℕ) → n ≡ if_exact back_held n = λ n. sym (all_if_exact back_held exact n) in
    let size = size_of contents.rules.groups in
    within_both bytes contents back_held old mid then new steps_before steps_then steps_now opens
    asked calls h
    (subst (λ (n : ℕ). new.asked ≤ then.asked + n) (all (8 * size)) more_asked)
    (subst (λ (n : ℕ). new.calls ≤ then.calls + n) (all (2 * pieces_of size)) more_calls)
    (subst (λ (n : ℕ). steps_now ≤ steps_then + n) (all size) steps)

-- the table was opened, and the back table refused
refused_behind_opened : (bytes : List ℕ) (contents : Contents) (back_held : Option (List ℕ))
    (fault : ChainFault)
    → opened (table_format Chained) (Some bytes) ≡ Ok contents → IsRefusedBack back_held fault
    → IsRefusedChain (Some bytes) back_held fault
refused_behind_opened bytes contents back_held (chain.Back fault) opens h = ((contents, opens), h)
refused_behind_opened bytes contents back_held (chain.BackWrong wrong) opens h =
    ((contents, opens), h)
refused_behind_opened bytes contents back_held chain.Failed opens h = tt
refused_behind_opened bytes contents back_held chain.NoMemory opens h = tt
refused_behind_opened bytes contents back_held (chain.Rules fault) opens h = absurd h
refused_behind_opened bytes contents back_held (chain.Table fault) opens h = absurd h

pub back_refused : (table back : List ℕ) (contents : Contents) (old mid new : StoreTold)
    (steps_before steps_now : ℕ) (fault : ChainFault)
    → MayOpen (table_format Chained) old.files table contents → mid.files ≡ old.files
    → mid.asked ≤ old.asked + (16 + length contents.text) → mid.calls ≤ old.calls + 5
    → RefusesBack back mid new steps_before steps_now fault
    → RefusesChain table back old new steps_before steps_now fault
back_refused table back contents old mid new steps_before steps_now fault opens same asked calls h =
    record {
      held = Some opens.bytes;
      may = opens.may;
      back_held = h.held;
      back_may = subst (λ (o : Option Files). MayHold o back h.held) same h.may;
      refuses = refused_behind_opened opens.bytes contents h.held fault opens.opens h.refuses;
      within =
          within_both opens.bytes contents h.held old mid new new steps_before steps_now steps_now
          opens.opens asked calls h.within
          (omega arith) (omega arith) (omega arith);
    }

-- both were opened, and the codes of the table were not loaded
outside_refused : (held back_held : Option (List ℕ)) (fault : ChainFault) → IsOutsideFault fault
    → IsRefusedChain held back_held fault
outside_refused held back_held chain.Failed h = tt
outside_refused held back_held chain.NoMemory h = tt
outside_refused held back_held (chain.Rules fault) h = absurd h
outside_refused held back_held (chain.Table fault) h = absurd h
outside_refused held back_held (chain.Back fault) h = absurd h
outside_refused held back_held (chain.BackWrong wrong) h = absurd h

not_loaded : (table : Table) (name back : List ℕ) (loaded : Back) (old mid then new : StoreTold)
    (steps_before steps_then steps_now : ℕ) (fault : ChainFault)
    → MayOpen (table_format Chained) old.files name (contents_of table) → mid.files ≡ old.files
    → mid.asked ≤ old.asked + (16 + length table.text) → mid.calls ≤ old.calls + 5
    → OpensBack back loaded mid then steps_before steps_then
    → new.asked ≤ then.asked + 8 * table_size table
    → new.calls ≤ then.calls + 2 * pieces_of (table_size table)
    → steps_now ≤ steps_then + table_size table → IsOutsideFault fault
    → RefusesChain name back old new steps_before steps_now fault
not_loaded table name back loaded old mid then new steps_before steps_then steps_now fault opens
    same asked calls h more_asked more_calls steps outside = record {
      held = Some opens.bytes;
      may = opens.may;
      back_held = Some h.bytes;
      back_may = subst (λ (o : Option Files). MayHold o back (Some h.bytes)) same h.may;
      refuses = outside_refused (Some opens.bytes) (Some h.bytes) fault outside;
      within =
          loaded_both opens.bytes (contents_of table) (Some h.bytes) old mid
          then new steps_before steps_then steps_now opens.opens
          (judged_exact h.bytes h.contents h.judged) asked calls h.within more_asked more_calls
          steps;
    }

-- both were opened, and this is the verdict on the table
verdict_over_back : (table : Table) (name back : List ℕ) (loaded : Back) (back_size : ℕ)
    (old mid then new : StoreTold) (steps_before steps_then steps_now : ℕ) (v : ChainVerdict)
    → MayOpen (table_format Chained) old.files name (contents_of table) → mid.files ≡ old.files
    → then.files ≡ mid.files
    → table.kind ≡ Chained → table.name ≡ name
    → mid.asked ≤ old.asked + (16 + length table.text) → mid.calls ≤ old.calls + 5
    → (h : OpensBack back loaded mid then steps_before steps_then)
    → back_size ≡ size_of loaded.groups
    → new.asked ≤ then.asked + 8 * table_size table
    → new.calls ≤ then.calls + 2 * pieces_of (table_size table)
    → steps_now ≤ steps_then + table_size table
    → ChecksTable then.files table (chain_value table.rules loaded) (judgement v)
    → CarriesSizes v (table_size table) back_size
    → ChecksChain name back old new steps_before steps_now v
verdict_over_back table name back loaded back_size old mid then new steps_before steps_then
    steps_now v may
    same then_same kind named asked calls h back_sized more_asked more_calls steps told sizes =
    let contents : Contents = contents_of table in
    let read = (belongs (table_format Chained) may.bytes (contents_of table) may.opens).read in
    let there = file_opens Chained table name told.bytes old.files then.files (then_same ∙ same)
    kind named read told.may told.file in
    record {
      bytes = told.bytes;
      may = there.0;
      contents = contents;
      opens = there.1;
      back_bytes = h.bytes;
      back_may = subst (λ (o : Option Files). MayHold o back (Some h.bytes)) same h.may;
      back_are_bytes = h.are_bytes;
      back_contents = h.contents;
      back_judged = h.judged;
      told =
          subst (λ (k : FileKind). IsVerdictOn k
          (chain_value table.rules (back_of h.contents h.bytes)) contents told.bytes
          (judgement v)) kind
          (subst (λ (b : Back). IsVerdictOn table.kind (chain_value table.rules b) contents
          told.bytes (judgement v)) h.keeps told.told);
      sizes =
          subst (λ (n : ℕ). CarriesSizes v (table_size table) n)
          (back_sized ∙ ap (λ (b : Back). size_of b.groups) h.keeps) sizes;
      within =
          loaded_both told.bytes contents (Some h.bytes) old mid then new steps_before steps_then
          steps_now there.1
          (judged_exact h.bytes h.contents h.judged) asked calls h.within more_asked more_calls
          steps;
    }

-- what is told of both names: the verdict, or the refusal
pub record ToldOver (name back : List ℕ) (old new : StoreTold) (steps_before steps_now : ℕ)
    (result : Result ChainVerdict ChainFault) : Type 0 where
  pub checked : IfOk result (ChecksChain name back old new steps_before steps_now)
  pub refused : IfErr result (RefusesChain name back old new steps_before steps_now)

-- by what the check of the open table gave
module _ (table : Table) (name back : List ℕ) (loaded : Back) (old mid then new : StoreTold)
    (steps_before steps_then steps_now : ℕ)
    (may : MayOpen (table_format Chained) old.files name (contents_of table))
    (same : mid.files ≡ old.files)
    (asked : mid.asked ≤ old.asked + (16 + length table.text)) (calls : mid.calls ≤ old.calls + 5)
    (h : OpensBack back loaded mid then steps_before steps_then)
    (more_asked : new.asked ≤ then.asked + 8 * table_size table)
    (more_calls : new.calls ≤ then.calls + 2 * pieces_of (table_size table))
    (steps : steps_now ≤ steps_then + table_size table) where
  pub result_told : (result : Result ChainVerdict ChainFault) → then.files ≡ mid.files
      → table.kind ≡ Chained → table.name ≡ name
      → IfOk result (λ v. ChecksTable then.files table (chain_value table.rules loaded)
      (judgement v))
      → IfOk result (λ v. CarriesSizes v (table_size table) (size_of loaded.groups))
      → IfErr result IsOutsideFault
      → ToldOver name back old new steps_before steps_now result
  result_told (Ok v) then_same kind named told sizes outside = record {
    checked =
        verdict_over_back table name back loaded (size_of loaded.groups) old mid
        then new steps_before steps_then steps_now v may same then_same kind named asked calls h
        refl
        more_asked more_calls steps told sizes;
    refused = tt;
  }
  result_told (Err fault) then_same kind named told sizes outside = record {
    checked = tt;
    refused =
        not_loaded table name back loaded old mid then new steps_before steps_then steps_now fault
        may same asked calls h more_asked more_calls steps outside;
  }
