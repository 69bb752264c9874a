-- What `build` wrote, `check` finds exact.
use Rattle.std.proofs.Common.{◌≡◌, refl, ap, subst, ◌∙◌, ℕ, List, Some}
use Rattle.frz_exits.specs.Books.{value_by}
use Rattle.frz_store.specs.Files.{Files}
use Rattle.frz_store.proofs.Lemmas.{put-same}
use Rattle.frz_table.specs.declared.kind.FileKind.TheVariants.{Plain}
use Rattle.frz_check.proofs.Lemmas.{one_file_opens}
use Rattle.frz_prelude.specs.TableFiles.{OpensAs}
use Rattle.frz_answer.specs.declared.status.Status.{Status}
use Rattle.frz_answer.specs.declared.status.Status.TheVariants.{Success}
use Rattle.frz_answer.specs.Answers.{Answer}
use Rattle.frz_commands_table.specs.Building.{IsBuiltAt}
use Rattle.frz_commands_table.specs.BuildMeaning.{MakesTable, MeansByStatus}
use Rattle.frz_commands_table.specs.Checking.{IsCheckedAt}
use Rattle.frz_commands_table.specs.CheckMeans.{HoldsOneFile}
use Rattle.frz_commands_table.proofs.BuildMeaning.{build_means}
use Rattle.frz_commands_table.proofs.CheckMeaning.{check_accepts}

module _ (rules table : List ℕ) (files : Files) (a : Answer) where
  -- what an answer of `build` with status 0 says
  success_makes_table : IsBuiltAt rules table files a → a.status ≡ Success
      → MakesTable rules table files a
  success_makes_table built done = subst (λ (s : Status). MeansByStatus rules table files a s) done
      (build_means rules table files a built).says

  there_after : (m : MakesTable rules table files a) → a.files table ≡ Some m.bytes
  there_after m = ap (λ (f : Files). f table) m.written ∙ put-same files table m.bytes

  holds_one : MakesTable rules table files a → HoldsOneFile table a.files
  holds_one m = record {
    bytes = m.bytes;
    there = there_after m;
    text = m.source;
    rules = m.lines;
    accepted = m.accepted;
    one_file = m.one_file;
  }

-- and it opens with the text and the rules of the rules file
pub built_opens : (rules table : List ℕ) (files : Files) (a : Answer)
    → (m : MakesTable rules table files a)
    → OpensAs table a.files m.bytes (record { text = m.source; rules = m.lines })
built_opens rules table files a m = record {
  there = there_after rules table files a m;
  opens = one_file_opens Plain (value_by m.lines) (record { text = m.source; rules = m.lines })
      m.bytes m.accepted m.one_file;
}

pub built_accepted : (rules table : List ℕ) (files : Files) (a b : Answer)
    → IsBuiltAt rules table files a → a.status ≡ Success
    → IsCheckedAt table a.files b → b.status ≡ Success
built_accepted rules table files a b built done checked =
    check_accepts table a.files (a.files table) refl b checked
    (holds_one rules table files a (success_makes_table rules table files a built done))
