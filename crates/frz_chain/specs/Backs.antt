-- What is found of a back table under its name.
use Rattle.std.specs.Prelude.{◌≡◌, ℕ, List, Option, Some, Result, Ok, Err, ⊤}
use Rattle.frz_exits.specs.Books.{value_by}
use Rattle.frz_game.specs.declared.wrong.Wrong.{Wrong as WrongEntry}
use Rattle.frz_store.specs.Files.{Files}
use Rattle.frz_store.specs.Told.{StoreTold}
use Rattle.frz_table.specs.declared.kind.FileKind.TheVariants.{Plain}
use Rattle.frz_table.specs.Numbers.{AreBytes}
use Rattle.frz_table.specs.Opening.{Contents, contents_of, opened, table_format}
use Rattle.frz_table.specs.Possible.{MayHold}
use Rattle.frz_build.specs.Verdict.{Verdict}
use Rattle.frz_build.specs.Verdict.TheVariants.{Exact, Wrong}
use Rattle.frz_build.specs.Kept.{IsVerdictOn, WithinFile, kept_codes}
use Rattle.frz_build.specs.Verdicts.{IsVerdict}
use Rattle.frz_chain.specs.Books.{Back}
use Rattle.frz_chain.specs.FileOn.{back_of, loaded_back}
use Rattle.frz_chain.specs.declared.back.BackTable.{BackTable}
use Rattle.frz_chain.specs.declared.fault.ChainFault.{ChainFault}
use Rattle.frz_chain.specs.declared.fault.ChainFault.TheVariants.{Rules, Table, Back as BackFault, BackWrong, Failed, NoMemory}

-- the list opens as a plain table, with this verdict on its codes by its own exit lines; if it is a
-- list of bytes, the verdict also says whether they are the one file of their text
pub record IsBackJudged (bytes : List ℕ) (contents : Contents) (verdict : Verdict) : Type 0 where
  pub opens : opened (table_format Plain) (Some bytes) ≡ Ok contents
  pub codes : IsVerdict contents.rules (value_by contents.rules) (kept_codes contents bytes) verdict
  pub told : AreBytes bytes → IsVerdictOn Plain (value_by contents.rules) contents bytes verdict

-- the answer for a verdict: the back table if its codes are exact, else the first wrong entry
abbrev pub GivesBack : Back → Verdict → Result BackTable ChainFault → Type 0
GivesBack back verdict (Ok given) = (verdict ≡ Exact) × (loaded_back given ≡ back)
GivesBack back verdict (Err (BackWrong wrong)) = verdict ≡ Wrong wrong
GivesBack back verdict (Err fault) = ⊥

-- the name may hold a plain table that is exact, and this is the back table in it
pub record OpensBack (name : List ℕ) (back : Back) (old new : StoreTold)
    (steps_before steps_now : ℕ) : Type 0 where
  pub bytes : List ℕ
  pub may : MayHold old.files name (Some bytes)
  pub are_bytes : AreBytes bytes
  pub contents : Contents
  pub judged : IsBackJudged bytes contents Exact
  pub keeps : back ≡ back_of contents bytes
  pub within : WithinFile (Some bytes) old new steps_before steps_now

-- the loaded table is that of exact bytes that the name may hold: its name, text and rules are
-- theirs, and so are the codes
pub record KeepsTable (files : Option Files) (name : List ℕ) (back : BackTable) : Type 0 where
  pub named : back.table.name ≡ name
  pub kind : back.table.kind ≡ Plain
  pub bytes : List ℕ
  pub may : MayHold files name (Some bytes)
  pub are_bytes : AreBytes bytes
  pub judged : IsBackJudged bytes (contents_of back.table) Exact
  pub keeps : loaded_back back ≡ back_of (contents_of back.table) bytes

-- `wrong` is the first entry of the table in these bytes that is not its local code
pub record HasWrong (held : Option (List ℕ)) (wrong : WrongEntry) : Type 0 where
  pub bytes : List ℕ
  pub there : held ≡ Some bytes
  pub contents : Contents
  pub judged : IsBackJudged bytes contents (Wrong wrong)

-- what a name holds is refused as a back table with this fault
abbrev pub IsRefusedBack : Option (List ℕ) → ChainFault → Type 0
IsRefusedBack held (BackFault fault) = opened (table_format Plain) held ≡ Err fault
IsRefusedBack held (BackWrong wrong) = HasWrong held wrong
IsRefusedBack held Failed = ⊤
IsRefusedBack held NoMemory = ⊤
IsRefusedBack held (Rules fault) = ⊥
IsRefusedBack held (Table fault) = ⊥

-- the name may hold what is refused as a back table with this fault
pub record RefusesBack (name : List ℕ) (old new : StoreTold) (steps_before steps_now : ℕ)
    (fault : ChainFault) : Type 0 where
  pub held : Option (List ℕ)
  pub may : MayHold old.files name held
  pub refuses : IsRefusedBack held fault
  pub within : WithinFile held old new steps_before steps_now
