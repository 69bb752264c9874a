-- Files of tables that stand behind another, from the left: each may lean on those before it.
use Rattle.std.specs.Prelude.{◌≡◌, ℕ, zero, suc, List, [], ◌∷◌, ◌++◌, map, take, Bool, Option, Some, Ok, Err, ⊤}
use Rattle.std.specs.Str.{bytes_eq}
use Rattle.frz_check.specs.Wrong.{Wrong as WrongEntry}
use Rattle.frz_table.specs.declared.kind.FileKind.{FileKind}
use Rattle.frz_table.specs.declared.kind.FileKind.TheVariants.{Atlas}
use Rattle.frz_table.specs.Layout.{kind_by, magic_of}
use Rattle.frz_table.specs.Numbers.{AreBytes}
use Rattle.frz_table.specs.Opening.{Contents, opened, own_format}
use Rattle.frz_check.specs.declared.verdict.Verdict.{Verdict}
use Rattle.frz_check.specs.declared.verdict.Verdict.TheVariants as verdicts
use Rattle.frz_check.specs.Kept.{IsVerdictOn, kept_codes}
use Rattle.frz_check.specs.Verdicts.{IsVerdict}
use Rattle.frz_backs.specs.Books.{Back}
use Rattle.frz_backs.specs.FileOn.{back_of}
use Rattle.frz_backs.specs.Links.{Link, value_over}
use Rattle.frz_atlas.specs.declared.fault.BackFault.{BackFault}
use Rattle.frz_atlas.specs.declared.fault.BackFault.TheVariants.{Refused, Wrong}
pub use Rattle.frz_backs.specs.Behind.{value_behind}

-- the bytes begin as a table that leans on others
abbrev pub leans : List ℕ → Bool
leans bytes = bytes_eq (take 8 bytes) (magic_of Atlas)

-- the kind as which bytes are opened
abbrev pub kind_of : List ℕ → FileKind
kind_of bytes = kind_by (leans bytes)

-- the bytes of a table file, with the text and the rules in them
pub record TableBytes : Type 0 where
  pub bytes : List ℕ
  pub contents : Contents

-- the table in the bytes, with its rules, and whether it leans on those before it
abbrev pub link_of : TableBytes → Link
link_of t = record {
  rules = t.contents.rules;
  leans = leans t.bytes;
  back = back_of t.contents t.bytes;
}

abbrev pub backs_in : List TableBytes → List Back
backs_in tables = map (λ t. back_of t.contents t.bytes) tables

-- the file opens as a table of its own kind, and this is the verdict on its codes. Its exits have
-- the values of its exit lines and, where it leans, of the tables before it where these say
-- nothing. Where the file holds only bytes (numbers below 256), the verdict also says whether it is
-- the one file of its text
pub record IsJudgedOver (before : List Back) (table : TableBytes) (verdict : Verdict) : Type 0 where
  pub opens : opened own_format (Some table.bytes) ≡ Ok table.contents
  pub codes : IsVerdict table.contents.rules
      (value_over (leans table.bytes) table.contents.rules before)
      (kept_codes table.contents table.bytes) verdict
  pub told : AreBytes table.bytes → IsVerdictOn (kind_of table.bytes)
      (value_over (leans table.bytes) table.contents.rules before) table.contents table.bytes verdict

-- each table is exact over those before it, and its file holds bytes (numbers below 256)
unfoldable pub AreJudgedOver : List Back → List TableBytes → Type 0
AreJudgedOver before [] = ⊤
AreJudgedOver before (table ∷ more) =
    AreBytes table.bytes × IsJudgedOver before table verdicts.Exact
    × AreJudgedOver (before ++ (back_of table.contents table.bytes ∷ [])) more

-- the tables are exact from the left; the first has none before it
abbrev pub AreJudged : List TableBytes → Type 0
AreJudged tables = AreJudgedOver [] tables

-- what is held opens as a table, and this is its first entry that is not its local code
pub record HasWrongOver (before : List Back) (held : Option (List ℕ)) (wrong : WrongEntry) : Type 0 where
  pub table : TableBytes
  pub there : held ≡ Some table.bytes
  pub judged : IsJudgedOver before table (verdicts.Wrong wrong)

-- what a name holds is refused for this reason, as a table over those before it
abbrev pub IsRefusedOver : List Back → Option (List ℕ) → BackFault → Type 0
IsRefusedOver before held (Refused fault) = opened own_format held ≡ Err fault
IsRefusedOver before held (Wrong wrong) = HasWrongOver before held wrong

-- of what the names hold, from the left, the one at this place is refused for this reason, and all
-- before it are exact, each over those before it
unfoldable pub IsRefusedAt : List Back → List (Option (List ℕ)) → ℕ → BackFault → Type 0
IsRefusedAt before [] place fault = ⊥
IsRefusedAt before (held ∷ more) zero fault = IsRefusedOver before held fault
IsRefusedAt before (held ∷ more) (suc place) fault =
    (table : TableBytes) × (held ≡ Some table.bytes)
    × IsJudgedOver before table verdicts.Exact
    × IsRefusedAt (before ++ (back_of table.contents table.bytes ∷ [])) more place fault
