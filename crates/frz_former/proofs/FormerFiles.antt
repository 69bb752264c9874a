-- Opening files of the former format.
use Rattle.std.proofs.Common.{◌≡◌, refl, sym, ap, subst, ◌∙◌, ℕ, ◌≤◌, List, Bool, Option, Result, Ok, Err, IfOk, cond, arith}
use Rattle.std.proofs.lemmas.Bool.{le-ltb}
use Rattle.frz_combinations.specs.Binomials.{capped}
use Rattle.frz_sets.specs.Views.{RuleLines}
use Rattle.frz_index.specs.OldNumbers.{old_size_of}
use Rattle.frz_index.specs.declared.old.TheConstants.{MOST_OLD_NUMBERS}
use Rattle.frz_rules.specs.Text.{rules_of}
use Rattle.frz_rules.specs.declared.fault.RulesCause.TheVariants.{SetTooBig}
use Rattle.frz_rules.specs.declared.fault.RulesFault.{RulesFault}
use Rattle.frz_table.specs.Numbers.{AreBytes}
use Rattle.frz_former.specs.OldFiles.{CarriesOld, OldTable, limited, limited_read, old_format, old_magic, old_rules_of, old_table_size}
use Rattle.frz_store.specs.Files.{Files}
use Rattle.frz_table.specs.Steps.{Refines}
use Rattle.frz_table.specs.Tables.{Holds, IsTableFile}
use Rattle.frz_table.specs.declared.fault.TableFault.{TableFault}
use Rattle.frz_table.proofs.Lemmas.{IsHead, read_short, short_bytes}

-- a text whose rules have few numbers is read so
few_numbers : (rules : RuleLines) → old_size_of rules.groups ≤ MOST_OLD_NUMBERS
    → limited rules ≡ Ok rules
few_numbers rules few =
    let size : ℕ = old_size_of rules.groups in
    let fault : RulesFault = record { line = 0; cause = SetTooBig (capped size) } in
    ap (λ (b : Bool). cond b (Err fault) (Ok rules)) (le-ltb MOST_OLD_NUMBERS size few)

pub old_read : (text : List ℕ) (rules : RuleLines) (size : ℕ) → rules_of text ≡ Ok rules →
    size ≡ old_size_of rules.groups → size ≤ MOST_OLD_NUMBERS → old_rules_of text ≡ Ok rules
old_read text rules size read is few =
    ap limited_read read ∙ few_numbers rules (subst (λ n. n ≤ MOST_OLD_NUMBERS) is few)

-- and one whose rules have too many is refused
pub old_refused : (text : List ℕ) (rules : RuleLines) (fault : RulesFault) →
    rules_of text ≡ Ok rules →
    limited rules ≡ Err fault → old_rules_of text ≡ Err fault
old_refused text rules fault read is = ap limited_read read ∙ is

pub old_refines : Refines old_format
old_refines = record { refuses = λ text fault h. ap limited_read h }

-- a file of the former format can have this text and this size
pub old_head : (text : List ℕ) (rules : RuleLines) (size : ℕ) → rules_of text ≡ Ok rules
    → AreBytes text → size ≤ MOST_OLD_NUMBERS → IsHead old_magic text size
old_head text rules size read are few = record {
  eight = refl;
  magic_bytes = short_bytes old_magic refl;
  text_bytes = are;
  short = read_short text rules read;
  fits = omega (arith, few);
}

-- the file is the one of that name
pub carries_old : (name : List ℕ) (files : Option Files) (r : Result OldTable TableFault)
    → IfOk r (λ t. Holds files name (IsTableFile old_magic t.text (old_table_size t)))
    → IfOk r (λ t. t.name ≡ name) → IfOk r (CarriesOld files)
carries_old name files (Err f) h n = tt
carries_old name files (Ok t) h n =
    subst (λ (q : List ℕ). Holds files q (IsTableFile old_magic t.text (old_table_size t))) (sym n) h
