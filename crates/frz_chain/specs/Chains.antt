-- What is said of a table over a back table, by what the two names may hold.
use Rattle.std.specs.Prelude.{◌≡◌, ◌⊎◌, ◌≤◌, ◌+◌, ◌*◌, ℕ, true, List, length, Option, Some, Result, Ok, Err, ⊤}
use Rattle.frz_rules.specs.Text.{may_want_memory, rules_of}
use Rattle.frz_rules.specs.declared.fault.RulesFault.{RulesFault}
use Rattle.frz_sets.specs.Sets.{size_of}
use Rattle.frz_sets.specs.Views.{RuleLines}
use Rattle.frz_store.specs.Outside.{Rose}
use Rattle.frz_store.specs.Told.{StoreTold, StoreFine, StoreQuiet}
use Rattle.frz_store.specs.Writes.{Wrote, WrotePart}
use Rattle.frz_table.specs.declared.fault.TableFault.{TableFault}
use Rattle.frz_table.specs.declared.kind.FileKind.TheVariants.{Plain, Chained}
use Rattle.frz_table.specs.Layout.{pieces_of}
use Rattle.frz_table.specs.Numbers.{AreBytes}
use Rattle.frz_table.specs.Opening.{Contents, opened, opening_calls, table_format}
use Rattle.frz_table.specs.Possible.{MayHold, held_text}
use Rattle.frz_build.specs.Verdict.{Verdict}
use Rattle.frz_build.specs.Verdict.TheVariants as verdicts
use Rattle.frz_build.specs.Kept.{IsVerdictOn, opened_size}
use Rattle.frz_build.specs.Building.{writing_calls}
use Rattle.frz_chain.specs.Backs.{IsBackJudged, IsRefusedBack}
use Rattle.frz_chain.specs.Books.{chain_value}
use Rattle.frz_chain.specs.ExactBacks.{if_exact}
use Rattle.frz_chain.specs.FileOn.{IsFileOn, back_of}
use Rattle.frz_chain.specs.declared.checking.ChainVerdict.{ChainVerdict}
use Rattle.frz_chain.specs.declared.checking.ChainVerdict.TheVariants.{Exact, Wrong}
use Rattle.frz_chain.specs.declared.fault.ChainFault.{ChainFault}
use Rattle.frz_chain.specs.declared.fault.ChainFault.TheVariants.{Rules, Table, Back as BackFault, BackWrong, Failed, NoMemory}

-- the verdict on the table alone
abbrev pub judgement : ChainVerdict → Verdict
judgement (Exact size back) = verdicts.Exact
judgement (Wrong wrong) = verdicts.Wrong wrong

-- an exact verdict carries the sizes of the table and of the back table
abbrev pub CarriesSizes : ChainVerdict → ℕ → ℕ → Type 0
CarriesSizes (Exact size back) due back_due = (size ≡ due) × (back ≡ back_due)
CarriesSizes (Wrong wrong) due back_due = ⊤

-- what checking the back table costs: a step for each number,
-- and the bytes and the calls that open and load it
abbrev pub steps_of_back : Option (List ℕ) → ℕ
steps_of_back held = opened_size (opened (table_format Plain) held)

abbrev pub bytes_of_back : Option (List ℕ) → ℕ
bytes_of_back held =
    16 + length (held_text held) + 8 * opened_size (opened (table_format Plain) held)

abbrev pub calls_of_back : Option (List ℕ) → ℕ
calls_of_back held =
    opening_calls (table_format Plain) held + 2 * pieces_of
    (opened_size (opened (table_format Plain) held))

-- the cost that follows opening the table: nothing if it is refused; else that of checking the back
-- table and, if that one is exact, of loading and checking the codes of the table
abbrev pub steps_behind : Result Contents TableFault → Option (List ℕ) → ℕ
steps_behind (Ok contents) back_held =
    steps_of_back back_held + if_exact back_held (size_of contents.rules.groups)
steps_behind (Err fault) back_held = 0

abbrev pub bytes_behind : Result Contents TableFault → Option (List ℕ) → ℕ
bytes_behind (Ok contents) back_held =
    bytes_of_back back_held + if_exact back_held (8 * size_of contents.rules.groups)
bytes_behind (Err fault) back_held = 0

abbrev pub calls_behind : Result Contents TableFault → Option (List ℕ) → ℕ
calls_behind (Ok contents) back_held =
    calls_of_back back_held + if_exact back_held (2 * pieces_of (size_of contents.rules.groups))
calls_behind (Err fault) back_held = 0

-- what checking the table over the back table costs
abbrev pub steps_for_both : (held back_held : Option (List ℕ)) → ℕ
steps_for_both held back_held = steps_behind (opened (table_format Chained) held) back_held

abbrev pub bytes_for_both : (held back_held : Option (List ℕ)) → ℕ
bytes_for_both held back_held =
    16 + length (held_text held) + bytes_behind (opened (table_format Chained) held) back_held

abbrev pub calls_for_both : (held back_held : Option (List ℕ)) → ℕ
calls_for_both held back_held =
    opening_calls (table_format Chained) held + calls_behind (opened (table_format Chained) held)
    back_held

-- no more than checking both files costs
pub record WithinBoth (held back_held : Option (List ℕ)) (old new : StoreTold)
    (steps_before steps_now : ℕ) : Type 0 where
  pub steps : steps_now ≤ steps_before + steps_for_both held back_held
  pub asked : new.asked ≤ old.asked + bytes_for_both held back_held
  pub calls : new.calls ≤ old.calls + calls_for_both held back_held

-- the verdict on a table and a back table that the two names may hold: the back table is exact, and
-- the verdict on the table is by the book that has the back table behind the exit lines
pub record ChecksChain (table back : List ℕ) (old new : StoreTold) (steps_before steps_now : ℕ)
    (verdict : ChainVerdict) : Type 0 where
  pub bytes : List ℕ
  pub may : MayHold old.files table (Some bytes)
  pub contents : Contents
  pub opens : opened (table_format Chained) (Some bytes) ≡ Ok contents
  pub back_bytes : List ℕ
  pub back_may : MayHold old.files back (Some back_bytes)
  pub back_are_bytes : AreBytes back_bytes
  pub back_contents : Contents
  pub back_judged : IsBackJudged back_bytes back_contents verdicts.Exact
  pub told :
      IsVerdictOn Chained (chain_value contents.rules (back_of back_contents back_bytes)) contents
      bytes
      (judgement verdict)
  pub sizes : CarriesSizes verdict (size_of contents.rules.groups)
      (size_of back_contents.rules.groups)
  pub within : WithinBoth (Some bytes) (Some back_bytes) old new steps_before steps_now

-- the file opens as a table over a back table
abbrev pub OpensChained : Option (List ℕ) → Type 0
OpensChained held = (contents : Contents) × (opened (table_format Chained) held ≡ Ok contents)

-- the table is refused with this fault, or it opens and the back table is refused with it
abbrev pub IsRefusedChain : (held back_held : Option (List ℕ)) → ChainFault → Type 0
IsRefusedChain held back_held (Table fault) = opened (table_format Chained) held ≡ Err fault
IsRefusedChain held back_held (BackFault fault) =
    OpensChained held × IsRefusedBack back_held (BackFault fault)
IsRefusedChain held back_held (BackWrong wrong) =
    OpensChained held × IsRefusedBack back_held (BackWrong wrong)
IsRefusedChain held back_held Failed = ⊤
IsRefusedChain held back_held NoMemory = ⊤
IsRefusedChain held back_held (Rules fault) = ⊥

-- the two names may hold what is refused with this fault
pub record RefusesChain (table back : List ℕ) (old new : StoreTold) (steps_before steps_now : ℕ)
    (fault : ChainFault) : Type 0 where
  pub held : Option (List ℕ)
  pub may : MayHold old.files table held
  pub back_held : Option (List ℕ)
  pub back_may : MayHold old.files back back_held
  pub refuses : IsRefusedChain held back_held fault
  pub within : WithinBoth held back_held old new steps_before steps_now

-- the cost of building over the back table: nothing if the text is refused; else that of checking
-- the back table and, if that one is exact, of finding the codes and writing the file
abbrev pub steps_to_chain : Result RuleLines RulesFault → Option (List ℕ) → ℕ
steps_to_chain (Ok rules) back_held =
    steps_of_back back_held + if_exact back_held (4 * size_of rules.groups)
steps_to_chain (Err fault) back_held = 0

abbrev pub bytes_to_chain : Result RuleLines RulesFault → Option (List ℕ) → ℕ
bytes_to_chain (Ok rules) back_held = bytes_of_back back_held
bytes_to_chain (Err fault) back_held = 0

abbrev pub calls_to_chain : Result RuleLines RulesFault → Option (List ℕ) → ℕ
calls_to_chain (Ok rules) back_held =
    calls_of_back back_held + if_exact back_held (writing_calls (size_of rules.groups))
calls_to_chain (Err fault) back_held = 0

-- no more than building over the back table costs
pub record WithinChaining (text : List ℕ) (back_held : Option (List ℕ)) (old new : StoreTold)
    (steps_before steps_now : ℕ) : Type 0 where
  pub steps : steps_now ≤ steps_before + steps_to_chain (rules_of text) back_held
  pub asked : new.asked ≤ old.asked + bytes_to_chain (rules_of text) back_held
  pub calls : new.calls ≤ old.calls + calls_to_chain (rules_of text) back_held

-- the text is accepted, the name of the back table may hold an exact one before and afterwards, and
-- the one file of the text over that table was written
pub record Chains (text back name : List ℕ) (old new : StoreTold) (steps_before steps_now : ℕ)
    (size : ℕ) : Type 0 where
  pub rules : RuleLines
  pub accepted : rules_of text ≡ Ok rules
  pub back_bytes : List ℕ
  pub back_may : MayHold old.files back (Some back_bytes)
  pub back_are_bytes : AreBytes back_bytes
  pub back_contents : Contents
  pub back_judged : IsBackJudged back_bytes back_contents verdicts.Exact
  pub bytes : List ℕ
  pub one_file : IsFileOn text rules (back_of back_contents back_bytes) bytes
  pub written : Wrote name bytes old new
  pub fine : StoreFine old new
  pub back_after : MayHold new.files back (Some back_bytes)
  pub sized : size ≡ size_of rules.groups
  pub within : WithinChaining text (Some back_bytes) old new steps_before steps_now

-- the text gives rules
abbrev pub IsAccepted : List ℕ → Type 0
IsAccepted text = (rules : RuleLines) × (rules_of text ≡ Ok rules)

-- the text is accepted and the back table exact, and the name holds what it held, or a front part
-- of the one file of the text over the back table
pub record FailsWriting (text name : List ℕ) (back_held : Option (List ℕ))
    (old new : StoreTold) : Type 0 where
  pub rules : RuleLines
  pub accepted : rules_of text ≡ Ok rules
  pub back_bytes : List ℕ
  pub back_there : back_held ≡ Some back_bytes
  pub back_contents : Contents
  pub back_judged : IsBackJudged back_bytes back_contents verdicts.Exact
  pub bytes : List ℕ
  pub one_file : IsFileOn text rules (back_of back_contents back_bytes) bytes
  pub part : WrotePart name bytes old new

-- why no table was built: the text is refused, and nothing was called; the back table is refused;
-- the store failed, in reading the back table or in writing; or there was no memory, and nothing
-- was written
abbrev pub IsNotChained : (text name : List ℕ) → Option (List ℕ) → StoreTold → StoreTold
    → ChainFault → Type 0
IsNotChained text name back_held old new (Rules fault) =
    (rules_of text ≡ Err fault) × (new ≡ old)
IsNotChained text name back_held old new (BackFault fault) =
    IsAccepted text × IsRefusedBack back_held (BackFault fault) × StoreQuiet old new
IsNotChained text name back_held old new (BackWrong wrong) =
    IsAccepted text × IsRefusedBack back_held (BackWrong wrong) × StoreQuiet old new
IsNotChained text name back_held old new Failed =
    Rose old.faults new.faults
    × ((IsAccepted text × StoreQuiet old new) ⊎ FailsWriting text name back_held old new)
IsNotChained text name back_held old new NoMemory =
    ((may_want_memory text ≡ true) ⊎ IsAccepted text) × StoreQuiet old new
IsNotChained text name back_held old new (Table fault) = ⊥

-- the name of the back table may hold something over which no table is built, for this fault
pub record RefusesToChain (text back name : List ℕ) (old new : StoreTold)
    (steps_before steps_now : ℕ) (fault : ChainFault) : Type 0 where
  pub back_held : Option (List ℕ)
  pub back_may : MayHold old.files back back_held
  pub refuses : IsNotChained text name back_held old new fault
  pub within : WithinChaining text back_held old new steps_before steps_now
