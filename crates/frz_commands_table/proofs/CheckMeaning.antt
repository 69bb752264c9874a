-- What the answers of `check` mean.
use Rattle.std.proofs.Common.{◌≡◌, ℕ, List, [], Result, Option, Some, None, Ok, Err, refl, sym, ap, subst, ◌∙◌}
use Rattle.std.specs.Prelude.{IfSome}
use Rattle.std.specs.Option.{unwrap_or}
use Rattle.frz_board.specs.declared.man.Colour.{Colour}
use Rattle.frz_board.specs.declared.man.Colour.TheVariants.{White, Black}
use Rattle.frz_exits.specs.Books.{value_by}
use Rattle.frz_game.proofs.Lemmas.{table_exact, table_means, table_exactly, exits_by_men, text_by_men}
use Rattle.frz_game.specs.Bounds.{IsTableOf}
use Rattle.frz_sets.specs.Sets.{size_of}
use Rattle.frz_store.specs.Bytes.{AreBytes}
use Rattle.frz_store.specs.Files.{Files}
use Rattle.frz_table.specs.declared.fault.TableFault.{TableFault}
use Rattle.frz_table.specs.declared.fault.TableFault.TheVariants.{Missing}
use Rattle.frz_table.specs.declared.kind.FileKind.TheVariants.{Plain}
use Rattle.frz_table.specs.Opening.{Contents, opened, table_format}
use Rattle.frz_table.proofs.Lemmas.{belongs, opened_missing}
use Rattle.frz_check.specs.declared.verdict.Verdict.{Verdict}
use Rattle.frz_check.specs.declared.verdict.Verdict.TheVariants.{Exact, Wrong}
use Rattle.frz_check.specs.Kept.{kept_codes}
use Rattle.frz_check.specs.Verdicts.{IsVerdict}
use Rattle.frz_check.proofs.Lemmas.{file_tables, one_file_opens, one_verdict, tables_are_one}
use Rattle.frz_answer.specs.declared.status.Status.{Status}
use Rattle.frz_answer.specs.declared.status.Status.TheVariants as statuses
use Rattle.frz_answer.specs.Answers.{Answer, says}
use Rattle.frz_prelude.specs.Refusals.{table_status}
use Rattle.frz_prelude.specs.TableCauses.{table_line}
use Rattle.frz_prelude.proofs.Lemmas.{refused_means}
use Rattle.frz_commands_table.specs.Checking.{verdict_status, verdict_line, IsCheckedBy, IsCheckedAt}
use Rattle.frz_commands_table.specs.CheckMeans.{MeansStatus, HoldsOneFile, MeansCheck}
use Rattle.frz_commands_table.specs.Headline.{Headline}

module _ (table : List ℕ) (files : Files) where
  -- the table is exact
  abbrev headline : (bytes : List ℕ) → files table ≡ Some bytes → AreBytes bytes
      → (contents : Contents)
      → opened (table_format Plain) (Some bytes) ≡ Ok contents
      → ((side : Colour) → IsTableOf contents.rules (value_by contents.rules) side
      (kept_codes contents bytes side)) → Headline table files
  headline bytes there are contents opens tables =
      let known = belongs (table_format Plain) bytes contents opens in record {
        bytes = bytes;
        there = there;
        text = contents.text;
        rules = contents.rules;
        accepted = known.read;
        layout = known.file;
        white = kept_codes contents bytes White;
        black = kept_codes contents bytes Black;
        white_is = refl;
        black_is = refl;
        white_table = tables White;
        black_table = tables Black;
        one_file = tables_are_one Plain (value_by contents.rules) contents bytes are opens tables;
        white_means = table_means contents.rules (value_by contents.rules) White
            (kept_codes contents bytes White) (tables White);
        black_means = table_means contents.rules (value_by contents.rules) Black
            (kept_codes contents bytes Black) (tables Black);
        true_by_men = λ men. exits_by_men contents.rules (value_by contents.rules)
            (text_by_men contents.rules men);
        white_exact = table_exactly contents.rules (value_by contents.rules) White
            (kept_codes contents bytes White) (tables White);
        black_exact = table_exactly contents.rules (value_by contents.rules) Black
            (kept_codes contents bytes Black) (tables Black);
      }

  says_verdict : (bytes : List ℕ) → files table ≡ Some bytes → AreBytes bytes
      → (contents : Contents)
      → opened (table_format Plain) (Some bytes) ≡ Ok contents
      → (verdict : Verdict) → IsVerdict contents.rules (value_by contents.rules)
      (kept_codes contents bytes) verdict
      → MeansStatus table files (verdict_status verdict)
      (verdict_line (size_of contents.rules.groups) verdict)
  says_verdict bytes there are contents opens Exact is =
      record { exact = headline bytes there are contents opens is; told = refl }
  says_verdict bytes there are contents opens (Wrong wrong) is = record {
    bytes = bytes;
    contents = contents;
    open_file = record { there = there; opens = opens };
    wrong = wrong;
    first = is;
    told = refl;
  }

  -- the one file of a text opens as a table of its text and its rules
  opens_as : (one : HoldsOneFile table files) → opened (table_format Plain) (Some one.bytes) ≡ Ok
      (record { text = one.text; rules = one.rules })
  opens_as one = one_file_opens Plain (value_by one.rules)
      (record { text = one.text; rules = one.rules }) one.bytes one.accepted one.one_file

  -- so its verdict is that it is exact
  accepted_there : (one : HoldsOneFile table files) (verdict : Verdict)
      → IsVerdict one.rules (value_by one.rules)
      (kept_codes (record { text = one.text; rules = one.rules }) one.bytes) verdict
      → verdict ≡ Exact
  accepted_there one verdict is =
      let contents : Contents = record { text = one.text; rules = one.rules } in
      one_verdict one.rules (value_by one.rules) (table_exact one.rules (value_by one.rules))
      (kept_codes contents one.bytes) verdict Exact is
      (file_tables contents one.bytes one.accepted one.one_file)

  means_so : (a : Answer) (status : Status) (text : List ℕ) → a ≡ says status text files
      → MeansStatus table files status text
      → (HoldsOneFile table files → a.status ≡ statuses.Success) → MeansCheck table files a
  means_so a status text e says accepts =
      subst (λ (x : Answer). MeansCheck table files x) (sym e)
      (record {
        same = refl;
        untaken = refl;
        says = says;
        accepts = λ one. sym (ap (λ (x : Answer). x.status) e) ∙ accepts one;
      })

  same_bytes : (bytes : List ℕ) → files table ≡ Some bytes → (one : HoldsOneFile table files)
      → one.bytes ≡ bytes
  same_bytes bytes there one = let e : Some one.bytes ≡ Some bytes = sym one.there ∙ there in cc

  -- where the one file of a text stands under the name, the status is 0
  accepts_by : (bytes : List ℕ) → files table ≡ Some bytes → (x : Result Contents TableFault)
      → opened (table_format Plain) (Some bytes) ≡ x
      → (a : Answer) → IsCheckedBy x bytes files a → HoldsOneFile table files
      → a.status ≡ statuses.Success
  accepts_by bytes there (Ok contents) opens a judged one =
      let same : one.bytes ≡ bytes = same_bytes bytes there one in
      let here : ◌≡◌ {A = Result Contents TableFault} (Ok contents)
      (Ok (record { text = one.text; rules = one.rules })) =
      sym opens ∙ ap (λ (l : List ℕ). opened (table_format Plain) (Some l)) (sym same)
      ∙ opens_as one in
      let is : contents ≡ record { text = one.text; rules = one.rules } = cc in
      ap (λ (x : Answer). x.status) judged.told
      ∙ ap verdict_status
      (accepted_there one judged.verdict
      (subst (λ (l : List ℕ). IsVerdict one.rules (value_by one.rules)
      (kept_codes (record { text = one.text; rules = one.rules }) l) judged.verdict) (sym same)
      (subst (λ (c : Contents). IsVerdict c.rules (value_by c.rules) (kept_codes c bytes)
      judged.verdict) is judged.judged)))
  accepts_by bytes there (Err fault) refused a e one =
      let no : ◌≡◌ {A = Result Contents TableFault} (Err fault)
      (Ok (record { text = one.text; rules = one.rules })) =
      sym refused ∙ ap (λ (l : List ℕ). opened (table_format Plain) (Some l))
      (sym (same_bytes bytes there one)) ∙ opens_as one in cc

  pub check_accepts : (held : Option (List ℕ)) → files table ≡ held → (a : Answer)
      → IsCheckedBy (opened (table_format Plain) held) (unwrap_or held []) files a
      → HoldsOneFile table files → a.status ≡ statuses.Success
  check_accepts None e a h one = let no : Some one.bytes ≡ None = sym one.there ∙ e in cc
  check_accepts (Some bytes) e a h one =
      accepts_by bytes e (opened (table_format Plain) (Some bytes)) refl a h one

  by_opening : (bytes : List ℕ) → files table ≡ Some bytes → AreBytes bytes
      → (x : Result Contents TableFault) → opened (table_format Plain) (Some bytes) ≡ x
      → (a : Answer) → IsCheckedBy x bytes files a → MeansCheck table files a
  by_opening bytes there are (Ok contents) opens a judged =
      means_so a (verdict_status judged.verdict)
      (verdict_line (size_of contents.rules.groups) judged.verdict) judged.told
      (says_verdict bytes there are contents opens judged.verdict judged.judged)
      (accepts_by bytes there (Ok contents) opens a judged)
  by_opening bytes there are (Err fault) refused a e =
      means_so a (table_status fault) (table_line fault) e
      (refused_means Plain table files (MeansStatus table files) (λ text tells. tells) bytes there
      fault refused)
      (accepts_by bytes there (Err fault) refused a e)

  by_file : (held : Option (List ℕ)) → files table ≡ held → IfSome held AreBytes → (a : Answer)
      → IsCheckedBy (opened (table_format Plain) held) (unwrap_or held []) files a
      → MeansCheck table files a
  by_file None e are a h =
      means_so a statuses.Missing (table_line Missing)
      (subst (λ (x : Result Contents TableFault). IsCheckedBy x [] files a)
      (opened_missing (table_format Plain)) h) e
      (check_accepts None e a h)
  by_file (Some bytes) e are a h =
      by_opening bytes e are (opened (table_format Plain) (Some bytes)) refl a h

pub check_means : (table : List ℕ) (files : Files) (a : Answer) → IfSome (files table) AreBytes
    → IsCheckedAt table files a
    → MeansCheck table files a
check_means table files a are h = by_file table files (files table) refl are a h
