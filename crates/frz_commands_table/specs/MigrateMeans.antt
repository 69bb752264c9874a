-- What the answers of `migrate OLD NEW` mean, and what it is to do.
use Rattle.std.specs.Prelude.{◌≡◌, ℕ, ◌≤◌, List, [], ◌∷◌, slice_index, true, false, Some, None, Ok, Err}
use Rattle.std.specs.Str.{bytes_eq}
use Rattle.frz_arena.specs.declared.bound.Bound.{Bound}
use Rattle.frz_arena.specs.Codes.{code_of}
use Rattle.frz_board.specs.Boards.{Board}
use Rattle.frz_board.specs.declared.man.Colour.{Colour}
use Rattle.frz_exits.specs.Books.{value_by}
use Rattle.frz_game.specs.Bounds.{IsBoundAt}
use Rattle.frz_index.specs.Members.{Member}
use Rattle.frz_index.specs.OldNumbers.{OldNum, old_size_of}
use Rattle.frz_index.specs.declared.old.TheConstants.{MOST_OLD_NUMBERS}
use Rattle.frz_rules.specs.Text.{rules_of}
use Rattle.frz_sets.specs.Sets.{size_of}
use Rattle.frz_sets.specs.Views.{RuleLines}
use Rattle.frz_sets.specs.declared.exit.Value.{Value}
use Rattle.frz_store.specs.Files.{Files, put}
use Rattle.frz_table.specs.declared.fault.TableFault.{TableFault}
use Rattle.frz_table.specs.declared.kind.FileKind.TheVariants.{Plain}
use Rattle.frz_table.specs.Layout.{codes_at, magic_of}
use Rattle.frz_former.specs.OldFiles.{old_format, old_magic}
use Rattle.frz_table.specs.Opening.{Contents, opened}
use Rattle.frz_table.specs.Tables.{IsTableFile}
use Rattle.frz_check.specs.OneFile.{IsOneFile}
use Rattle.frz_answer.specs.declared.status.Status.{Status}
use Rattle.frz_answer.specs.declared.status.Status.TheVariants.{Success, Table, Missing}
use Rattle.frz_answer.specs.Answers.{Answer}
use Rattle.frz_answer.specs.Jobs.{Job, Once, plain, WithinCosts}
use Rattle.frz_answer.specs.Words.{taking, two_words_of, unless}
use Rattle.frz_prelude.specs.TableCauses.{table_line}
use Rattle.frz_commands_table.specs.Migrated.{IsMigrated}
use Rattle.frz_prelude.specs.Replies.{migrated_line}
use Rattle.frz_commands_table.specs.Migrating.{IsMigratedAt, migrating_costs}

-- OLD holds a table of the former format. Afterwards NEW holds it rewritten, and no other name
-- changes
pub record Rewrites (old new : List ℕ) (files : Files) (a : Answer) : Type 0 where
  pub bytes : List ℕ
  pub there : files old ≡ Some bytes
  pub contents : Contents
  pub opens : opened old_format (Some bytes) ≡ Ok contents
  pub new_bytes : List ℕ
  pub migrated : IsMigrated contents bytes new_bytes
  pub written : a.files ≡ put files new new_bytes
  pub told : a.text ≡ migrated_line (size_of contents.rules.groups)

-- OLD is there, the text names the first thing that is wrong with its bytes, and no file changes
pub record RefusesOld (old : List ℕ) (files : Files) (a : Answer) : Type 0 where
  pub bytes : List ℕ
  pub there : files old ≡ Some bytes
  pub fault : TableFault
  pub refused : opened old_format (Some bytes) ≡ Err fault
  pub told : a.text ≡ table_line fault
  pub same : a.files ≡ files

-- OLD is not there, and no file changes
pub record MissesOld (old : List ℕ) (files : Files) (a : Answer) : Type 0 where
  pub none : files old ≡ None
  pub same : a.files ≡ files

-- what an answer says, by its status
abbrev pub MeansByStatus : (old new : List ℕ) → Files → Answer → Status → Type 0
MeansByStatus old new files a Success = Rewrites old new files a
MeansByStatus old new files a Table = RefusesOld old files a
MeansByStatus old new files a Missing = MissesOld old files a
MeansByStatus old new files a status = ⊥

-- a former file of a text: its header has the former magic and the former size. For each side, the
-- code at the former number of each position of the set is that of its bound. The codes at the
-- other numbers are free
pub record IsFormerFile (text : List ℕ) (rules : RuleLines) (value : Board → Value)
    (bytes : List ℕ) : Type 0 where
  pub layout : IsTableFile old_magic text (old_size_of rules.groups) bytes
  pub bound : (side : Colour) (p : Board) → Member rules.groups p →
      (b : Bound)
      × (slice_index (codes_at side text (old_size_of rules.groups) bytes) (OldNum rules.groups p)
      ≡ code_of b)
      × IsBoundAt rules value side p b

-- the name holds a former file of an accepted text, whose set has few enough numbers in the former
-- format
pub record HoldsFormerFile (old : List ℕ) (files : Files) : Type 0 where
  pub bytes : List ℕ
  pub there : files old ≡ Some bytes
  pub text : List ℕ
  pub rules : RuleLines
  pub accepted : rules_of text ≡ Ok rules
  pub few : old_size_of rules.groups ≤ MOST_OLD_NUMBERS
  pub former : IsFormerFile text rules (value_by rules) bytes

-- OLD is rewritten with status 0, and afterwards NEW holds the one file of this text
pub record BecomesOneFile (text : List ℕ) (rules : RuleLines) (new : List ℕ) (files : Files)
    (a : Answer) : Type 0 where
  pub done : a.status ≡ Success
  pub new_bytes : List ℕ
  pub one_file : IsOneFile (magic_of Plain) text rules (value_by rules) new_bytes
  pub written : a.files ≡ put files new new_bytes

-- what an answer of `migrate` means: it takes no input, each status has its cause, and a former
-- file of a text becomes the one file of this text, which `check` accepts
pub record MeansMigrate (old new : List ℕ) (files : Files) (a : Answer) : Type 0 where
  pub untaken : a.taken ≡ 0
  pub says : MeansByStatus old new files a a.status
  pub exact : (h : HoldsFormerFile old files) → BecomesOneFile h.text h.rules new files a

-- `migrate` with two names that differ
abbrev pub migrating_at : (old new : List ℕ) → Job
migrating_at old new =
    record (plain (Success ∷ Table ∷ Missing ∷ [])
    (λ files input a. IsMigratedAt old new files a)) {
      means = λ files input a. MeansMigrate old new files a;
      needs = record { store = true; reads = Once; input = false; memory = true };
      writes = Some new;
      costs = λ files input a. WithinCosts (migrating_costs (files old));
    }

-- migrate OLD NEW
abbrev pub migrate_words : List (List ℕ) → Job
migrate_words words =
    taking (λ names. unless (bytes_eq names.0 names.1) (migrating_at names.0 names.1))
    (two_words_of words)
