-- What a store that does not tell may hold under the name of a rules file.
use Rattle.std.proofs.Common.{◌≡◌, refl, sym, ap, subst, ◌∙◌, ℕ, zero, suc, ◌<◌, lit<, get_or, ◌≤◌, ◌+◌, List, length, replicate, Option, Some, None, Result, Ok, Err, true, if◌then◌else◌, le-ltb, lt-ltb, Bool, cond, arith}
use Rattle.std.proofs.lemmas.List.{length-replicate}
use Rattle.std.specs.Prelude.{IfSome, IfOk}
use Rattle.frz_store.specs.Bytes.{AreBytes, MayBeHeld}
use Rattle.frz_store.specs.Files.{Files, no_files, put}
use Rattle.frz_store.specs.declared.outside.StoreFault.{StoreFault}
use Rattle.frz_store.specs.declared.outside.StoreFault.TheVariants as refusal
use Rattle.frz_store.proofs.Lemmas.{put_bytes, put-same}
use Rattle.frz_table.specs.Possible.{MayHold}
use Rattle.frz_prelude.specs.declared.rules_file.RulesFile.{RulesFile}
use Rattle.frz_prelude.specs.declared.rules_file.RulesFile.TheVariants.{Missing, TooLong, Text}
use Rattle.frz_rules.specs.declared.fault.TheConstants.{LONGEST_TEXT}
use Rattle.frz_rules.specs.declared.fault.RulesFault.{RulesFault}
use Rattle.frz_rules.specs.Text.{rules_of}
use Rattle.frz_sets.specs.Views.{RuleLines}
use Rattle.frz_store.specs.Told.{StoreTold}
use Rattle.frz_prelude.specs.declared.refused.Refused.{Refused as Refusal}
use Rattle.frz_prelude.specs.declared.refused.Refused.TheVariants.{MissingRules, Rules}
use Rattle.frz_prelude.specs.declared.stop.Stop.{Stop}
use Rattle.frz_prelude.specs.declared.rules_file.TheConstants.{TOO_LONG}
use Rattle.frz_prelude.specs.declared.stop.Stop.TheVariants as stops
use Rattle.frz_prelude.specs.declared.rules_at.RulesText.{RulesText}
use Rattle.frz_prelude.specs.Stops.{Answers, stop_of_fault}
use Rattle.frz_prelude.specs.RulesFiles.{AreBytesOf, IsHeld, asked_of, asked_by, reads_of, reads_by, or_fault, rules_held, GivesText, IsTextRead}

-- files that may be held, where the name holds this
pub record Holding (told : Option Files) (name : List ℕ) (held : Option (List ℕ)) : Type 0 where
  pub files : Files
  pub agrees : MayBeHeld told files
  pub holds : files name ≡ held

pub holding : (told : Option Files) (name : List ℕ) (held : Option (List ℕ))
    → MayHold told name held → Holding told name held
holding (Some m) name held e = record { files = m; agrees = refl; holds = e }
holding None name None e = record { files = no_files; agrees = λ q. tt; holds = refl }
holding None name (Some bytes) are = record {
  files = put no_files name bytes;
  agrees = put_bytes no_files name bytes (λ q. tt) are;
  holds = put-same no_files name bytes;
}

-- what was found under the name, and what it may have cost
pub record SeesRules (told : Option Files) (name : List ℕ) (answer : Result RulesFile StoreFault)
    (before now calls_before calls_now : ℕ) : Type 0 where
  pub held : Option (List ℕ)
  pub there : MayHold told name held
  pub file : IfOk answer (IsHeld held)
  pub asked : now ≤ before + asked_of held
  pub calls : calls_now ≤ calls_before + (1 + reads_of held)

zeros : ℕ → List ℕ
zeros n = replicate n 0

many_zeros : (n : ℕ) → length (zeros n) ≡ n
unfolding zeros
many_zeros n = length-replicate n 0

zeros_are : (n i : ℕ) → get_or (replicate n 0) i 0 < 256
zeros_are zero i = lit< tt
zeros_are (suc n) zero = lit< tt
zeros_are (suc n) (suc i) = zeros_are n i

bytes_zeros : (n : ℕ) → AreBytes (zeros n)
unfolding zeros
bytes_zeros n = zeros_are n

-- all of a file that is not too long
asked_short : (bytes : List ℕ) → length bytes ≤ LONGEST_TEXT → asked_of (Some bytes) ≡ length bytes
asked_short bytes short =
    ap (λ b. if b then 0 else length bytes) (le-ltb LONGEST_TEXT (length bytes) short)

-- a file that is not too long is read
reads_short : (bytes : List ℕ) → length bytes ≤ LONGEST_TEXT → reads_of (Some bytes) ≡ 1
reads_short bytes short = ap (λ b. if b then 0 else 1) (le-ltb LONGEST_TEXT (length bytes) short)

pub sees_rules : (told : Option Files) (name : List ℕ) (answer : Result RulesFile StoreFault)
    (before now calls_before calls_now : ℕ)
    → IfOk answer (λ file. IfSome told (λ m. IsHeld (m name) file)) → IfOk answer AreBytesOf
    → IfSome told (λ m. now ≤ before + asked_of (m name))
    → IfOk answer (λ file. now ≤ before + asked_by file) → now ≤ before + LONGEST_TEXT
    → IfOk answer (λ file. asked_by file ≤ LONGEST_TEXT)
    → IfSome told (λ m. calls_now ≤ calls_before + (1 + reads_of (m name)))
    → IfOk answer (λ file. calls_now ≤ calls_before + (1 + reads_by file))
    → calls_now ≤ calls_before + 2
    → SeesRules told name answer before now calls_before calls_now
sees_rules (Some m) name (Ok file) before now calls_before calls_now held are asked by most short
    told_calls calls_by few =
    record { held = m name; there = refl; file = held; asked = asked; calls = told_calls }
sees_rules (Some m) name (Err fault) before now calls_before calls_now held are asked by most short
    told_calls calls_by few =
    record { held = m name; there = refl; file = tt; asked = asked; calls = told_calls }
sees_rules None name (Err fault) before now calls_before calls_now held are asked by most short
    told_calls calls_by few =
    let all : List ℕ = zeros LONGEST_TEXT in
    let many : length all ≡ LONGEST_TEXT = many_zeros LONGEST_TEXT in
    let exact : asked_of (Some all) ≡ length all = asked_short all (omega (arith, many)) in
    record {
      held = Some all;
      there = bytes_zeros LONGEST_TEXT;
      file = tt;
      asked = omega (arith, most, exact, many);
      calls = omega (arith, few, reads_short all (omega (arith, many)));
    }
sees_rules None name (Ok Missing) before now calls_before calls_now held are asked by most short
    told_calls calls_by few =
    record { held = None; there = tt; file = refl; asked = by; calls = calls_by }
sees_rules None name (Ok TooLong) before now calls_before calls_now held are asked by most short
    told_calls calls_by few =
    let all : List ℕ = zeros (LONGEST_TEXT + 1) in
    let many : length all ≡ LONGEST_TEXT + 1 = many_zeros (LONGEST_TEXT + 1) in
    record {
      held = Some all;
      there = bytes_zeros (LONGEST_TEXT + 1);
      file = omega (arith, many);
      asked = omega (arith, by);
      calls = omega (arith, calls_by);
    }
sees_rules None name (Ok (Text text)) before now calls_before calls_now held are asked by most short
    told_calls calls_by few =
    let exact : asked_of (Some text.items) ≡ length text.items = asked_short text.items short in
    record {
      held = Some text.items;
      there = are;
      file = refl;
      asked = omega (arith, by, exact);
      calls = omega (arith, calls_by, reads_short text.items short);
    }

-- what was found under the name, over files that agree with what is known of the store
pub record RulesSeen (told : Option Files) (name : List ℕ) (answer : Result RulesFile StoreFault)
    (before now calls_before calls_now : ℕ) : Type 0 where
  pub files : Files
  pub agrees : MayBeHeld told files
  pub file : IfOk answer (IsHeld (files name))
  pub asked : now ≤ before + asked_of (files name)
  pub calls : calls_now ≤ calls_before + (1 + reads_of (files name))

pub rules_seen : (told : Option Files) (name : List ℕ) (answer : Result RulesFile StoreFault)
    (before now calls_before calls_now : ℕ)
    → SeesRules told name answer before now calls_before calls_now
    → RulesSeen told name answer before now calls_before calls_now
rules_seen told name answer before now calls_before calls_now seen =
    let at = holding told name seen.held seen.there in record {
      files = at.files;
      agrees = at.agrees;
      file = subst (λ x. IfOk answer (IsHeld x)) (sym at.holds) seen.file;
      asked = subst (λ x. now ≤ before + asked_of x) (sym at.holds) seen.asked;
      calls = subst (λ x. calls_now ≤ calls_before + (1 + reads_of x)) (sym at.holds) seen.calls;
    }

-- what was found under the name, where the answer is known
pub file_seen : (told : Option Files) (name : List ℕ) (answer : Result RulesFile StoreFault)
    (before now calls_before calls_now : ℕ) (file : RulesFile)
    → (seen : RulesSeen told name answer before now calls_before calls_now) → answer ≡ Ok file
    → IsHeld (seen.files name) file
file_seen told name answer before now calls_before calls_now file seen is =
    subst (λ (x : Result RulesFile StoreFault). IfOk x (IsHeld (seen.files name))) is seen.file

pub seen_as : (told : Option Files) (name : List ℕ) (answer : Result RulesFile StoreFault)
    (before now calls_before calls_now : ℕ) (file shape : RulesFile)
    → (seen : RulesSeen told name answer before now calls_before calls_now) → answer ≡ Ok file
    → file ≡ shape → IsHeld (seen.files name) shape
seen_as told name answer before now calls_before calls_now file shape seen is has =
    subst (λ (x : RulesFile). IsHeld (seen.files name) x) has
    (file_seen told name answer before now calls_before calls_now file seen is)

-- the rules of a name that holds nothing, a text that is too long, or a text
pub missing_due : (held : Option (List ℕ)) → IsHeld held Missing
    → rules_held held ≡ Err MissingRules
missing_due held e = ap rules_held e

-- a text that is too long has that fault
by_test : {A : Type 0} (b : Bool) (x y : A) → b ≡ true → cond b x y ≡ x
by_test b x y e = ap (λ t. cond t x y) e

too_long : (text : List ℕ) → LONGEST_TEXT < length text → rules_of text ≡ Err TOO_LONG
unfolding rules_of
too_long text h = by_test _ _ _ (lt-ltb LONGEST_TEXT (length text) h)

pub long_due : (held : Option (List ℕ)) → IsHeld held TooLong
    → rules_held held ≡ Err (Rules TOO_LONG)
long_due None h = absurd h
long_due (Some text) h = ap or_fault (too_long text h)

pub text_due : (held : Option (List ℕ)) (text : List ℕ) (result : Result RulesText Stop)
    → held ≡ Some text → GivesText (Some text) result → GivesText held result
text_due held text result e due = subst (λ (h : Option (List ℕ)). GivesText h result) (sym e) due

-- a fault of the store gives nothing
pub fault_due : (held : Option (List ℕ)) (fault : StoreFault) (stop : Stop)
    → stop ≡ stop_of_fault fault → GivesText held (Err stop)
fault_due held refusal.Failed stop e = subst (λ (s : Stop). GivesText held (Err s)) (sym e) tt
fault_due held refusal.NoMemory stop e = subst (λ (s : Stop). GivesText held (Err s)) (sym e) tt

-- what was read is what the name gives in these files
pub read_in : (name : List ℕ) (answer : Result RulesFile StoreFault)
    (result : Result RulesText Stop) (old new : StoreTold)
    → (seen : RulesSeen old.files name answer old.asked new.asked old.calls new.calls)
    → GivesText (seen.files name) result → IsTextRead name result old new
read_in name answer result old new seen due =
    record {
      files = seen.files;
      agrees = seen.agrees;
      due = due;
      asked = seen.asked;
      calls = seen.calls;
    }

-- the rules of a text that was read, and why none was
pub rules_due : (held : Option (List ℕ)) (read : RulesText) → GivesText held (Ok read)
    → rules_held held ≡ Ok read.rules
rules_due held read due = ap rules_held due.0 ∙ ap or_fault due.1

pub refusal_due : (held : Option (List ℕ)) (stop : Stop) → GivesText held (Err stop)
    → Answers {A = RuleLines} (Err stop) (rules_held held)
refusal_due held (stops.Refused why) due = due
refusal_due held (stops.Fault fault) due = tt

-- a name of a rules file is refused as missing, or for its text
of_text : (P : Refusal → Type 0) (why : Refusal) (read : Result RuleLines RulesFault)
    → or_fault read ≡ Err why
    → ((fault : RulesFault) → P (Rules fault)) → P why
of_text P why (Ok r) e text = cc
of_text P why (Err fault) e text = let same : Rules fault ≡ why = cc in subst P same (text fault)

pub of_rules : (P : Refusal → Type 0) (held : Option (List ℕ)) (why : Refusal)
    → rules_held held ≡ Err why
    → P MissingRules → ((fault : RulesFault) → P (Rules fault)) → P why
of_rules P None why e missing text = let same : MissingRules ≡ why = cc in subst P same missing
of_rules P (Some bytes) why e missing text = of_text P why (rules_of bytes) e text
