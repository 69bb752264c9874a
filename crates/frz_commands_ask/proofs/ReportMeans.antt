-- What the answers of `report` mean.
use Rattle.std.proofs.Common.{◌≡◌, ℕ, List, [], Result, Option, Some, None, Ok, Err, refl, sym, subst}
use Rattle.std.specs.Option.{unwrap_or}
use Rattle.frz_store.specs.Files.{Files}
use Rattle.frz_table.specs.declared.fault.TableFault.{TableFault}
use Rattle.frz_table.specs.declared.kind.FileKind.TheVariants.{Plain}
use Rattle.frz_table.specs.Opening.{Contents, opened, table_format}
use Rattle.frz_table.proofs.Lemmas.{opened_missing}
use Rattle.frz_exits.specs.Books.{value_by}
use Rattle.frz_check.proofs.Lemmas.{bound_kept}
use Rattle.frz_answer.specs.Answers.{Answer}
use Rattle.frz_prelude.proofs.Lemmas.{refused_means}
use Rattle.frz_commands_ask.specs.Reporting.{MeansReport, MeansStatus, report_at, report_by}

module _ (table : List ℕ) (files : Files) where
  by_opening : (bytes : List ℕ) → files table ≡ Some bytes → (x : Result Contents TableFault)
      → opened (table_format Plain) (Some bytes) ≡ x
      → MeansReport table files (report_by x bytes files)
  by_opening bytes there (Ok contents) e = record {
    same = refl;
    untaken = refl;
    says = record {
      bytes = bytes;
      contents = contents;
      open_file = record { there = there; opens = e };
      told = refl;
      where_exact = λ tables side p inside.
          bound_kept (value_by contents.rules) contents bytes tables side p inside;
    };
  }
  by_opening bytes there (Err fault) e =
      record {
        same = refl;
        untaken = refl;
        says = refused_means Plain table files (MeansStatus table files) (λ text tells. tells)
            bytes there fault e;
      }

  by_file : (held : Option (List ℕ)) → files table ≡ held
      → MeansReport table files
      (report_by (opened (table_format Plain) held) (unwrap_or held []) files)
  by_file None e =
      subst (λ (x : Result Contents TableFault). MeansReport table files (report_by x [] files))
      (sym (opened_missing (table_format Plain)))
      (record { same = refl; untaken = refl; says = e })
  by_file (Some bytes) e = by_opening bytes e (opened (table_format Plain) (Some bytes)) refl

pub report_means : (table : List ℕ) (files : Files) (a : Answer) → a ≡ report_at table files
    → MeansReport table files a
report_means table files a e = subst (λ (x : Answer). MeansReport table files x) (sym e)
    (by_file table files (files table) refl)
