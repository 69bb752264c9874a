-- There is one answer over a table and those behind it, and it means what is to be meant, where this
-- is so over tables that open.
use Rattle.std.proofs.Common.{◌≡◌, refl, sym, ap, subst, ◌∙◌, ℕ, List, [], Option, Some, None, Result, Ok, Err}
use Rattle.std.specs.Prelude.{map}
use Rattle.std.specs.Option.{unwrap_or}
use Rattle.frz_store.specs.Files.{Files, bytes_at}
use Rattle.frz_table.specs.declared.fault.TableFault.{TableFault}
use Rattle.frz_table.specs.declared.fault.TableFault.TheVariants as faults
use Rattle.frz_table.specs.Opening.{Contents}
use Rattle.frz_table.proofs.Lemmas.{opened_missing}
use Rattle.frz_atlas.specs.Behind.{TableBytes}
use Rattle.frz_atlas.specs.Loading.{opened_all, opened_own}
use Rattle.frz_atlas.specs.declared.fault.BackFault.TheVariants.{Refused}
use Rattle.frz_answer.specs.declared.status.Status.{Status}
use Rattle.frz_answer.specs.declared.status.Status.TheVariants.{Missing, Table}
use Rattle.frz_answer.specs.Answers.{Answer, SomeAnswer}
use Rattle.frz_answer.specs.Lawful.{HasOneAnswer}
use Rattle.frz_prelude.specs.declared.refused.Refused.TheVariants as refusals
use Rattle.frz_prelude.proofs.Lemmas.{by_table_status, refusal_said}
use Rattle.frz_atlas_prelude.specs.Over.{IsAnswerOver, IsOverBacks, IsOverTable, Over}
use Rattle.frz_atlas_prelude.specs.OwnFiles.{OpensAsOwn}
use Rattle.frz_atlas_prelude.specs.TableRefusals.{TellsRefusal, of_back, of_table}
use Rattle.frz_atlas_prelude.proofs.BackRefused.{back_line_not_empty, result_is_not_both}

abbrev Opened : Type 0
Opened = Result (List TableBytes) (ℕ × TableFault)

module _ (over : Over) (table : List ℕ) (behind : List (List ℕ)) (files : Files) where
  -- by what the names hold, and how that opens
  pub over_held : (held : Option (List ℕ)) (helds : List (Option (List ℕ))) → files table ≡ held
      → map files behind ≡ helds → (x : Result Contents TableFault) (y : Opened)
      → opened_own held ≡ x → opened_all helds ≡ y → (a : Answer)
      → IsOverTable over x (unwrap_or held []) y files a → IsAnswerOver over table behind files a
  over_held held helds here others x y opens are a h =
      subst (λ (o : Option (List ℕ)). IsOverTable over (opened_own o) (unwrap_or o [])
      (opened_all (map files behind)) files a) (sym here)
      (subst (λ (l : List (Option (List ℕ))). IsOverTable over (opened_own held) (unwrap_or held [])
      (opened_all l) files a) (sym others)
      (subst (λ (r : Result Contents TableFault). IsOverTable over r (unwrap_or held [])
      (opened_all helds) files a) (sym opens)
      (subst (λ (r : Opened). IsOverTable over x (unwrap_or held []) r files a) (sym are) h)))

  -- there is some answer, and its text is not empty
  module _ (some : (contents : Contents) (bytes : List ℕ) (tables : List TableBytes)
      → SomeAnswer (over contents bytes tables)) where
    some_by : (x : Result Contents TableFault) (bytes : List ℕ) (y : Opened)
        → SomeAnswer (IsOverTable over x bytes y files)
    some_by (Ok contents) bytes (Ok tables) = some contents bytes tables
    some_by (Ok contents) bytes (Err refused) = record {
      a = _;
      answer = refl;
      text = back_line_not_empty refused.0 (Refused refused.1);
    }
    some_by (Err fault) bytes y = record {
      a = _;
      answer = refl;
      text = refusal_said (refusals.Table fault);
    }

    pub some_over : SomeAnswer (IsAnswerOver over table behind files)
    some_over =
        some_by (opened_own (files table)) (bytes_at files table) (opened_all (map files behind))

    -- and no other
    module _ (alone : (contents : Contents) (bytes : List ℕ) (tables : List TableBytes)
        (a b : Answer) → over contents bytes tables a → over contents bytes tables b → b ≡ a) where
      one_by : (x : Result Contents TableFault) (bytes : List ℕ) (y : Opened) (a b : Answer)
          → IsOverTable over x bytes y files a → IsOverTable over x bytes y files b → b ≡ a
      one_by (Ok contents) bytes (Ok tables) a b h k = alone contents bytes tables a b h k
      one_by (Ok contents) bytes (Err refused) a b h k = k ∙ sym h
      one_by (Err fault) bytes y a b h k = k ∙ sym h

      pub one_over : HasOneAnswer (IsAnswerOver over table behind files)
      one_over = (
        some_over.a,
        some_over.answer,
        λ b k. one_by (opened_own (files table)) (bytes_at files table)
            (opened_all (map files behind)) some_over.a b some_over.answer k,
      )

  -- what follows where all of them open, and where one is refused
  module _ (a : Answer) (Means : Type 0)
      (opened_so : (bytes : List ℕ) (contents : Contents) (tables : List TableBytes)
      → OpensAsOwn table files bytes contents → opened_all (map files behind) ≡ Ok tables
      → over contents bytes tables a → Means)
      (refused_so : TellsRefusal table behind files a → Means) where
    by_behind : (bytes : List ℕ) (contents : Contents) → files table ≡ Some bytes
        → opened_own (Some bytes) ≡ Ok contents → (y : Opened) → opened_all (map files behind) ≡ y
        → IsOverBacks (over contents bytes) y files a → Means
    by_behind bytes contents there opens (Ok tables) are h =
        opened_so bytes contents tables (record { there = there; opens = opens }) are h
    by_behind bytes contents there opens (Err refused) are h =
        refused_so (of_back (record {
          opens = (contents, ap opened_own there ∙ opens);
          place = refused.0;
          fault = refused.1;
          refused = are;
          told = h;
        }))

    by_held : (held : Option (List ℕ)) → files table ≡ held → (contents : Contents)
        → opened_own held ≡ Ok contents
        → IsOverBacks (over contents (unwrap_or held [])) (opened_all (map files behind)) files a
        → Means
    by_held None there contents opens h =
        absurd (result_is_not_both _ contents faults.Missing opens (opened_missing _))
    by_held (Some bytes) there contents opens h =
        by_behind bytes contents there opens (opened_all (map files behind)) refl h

    by_opening : (x : Result Contents TableFault) → opened_own (files table) ≡ x
        → IsOverTable over x (bytes_at files table) (opened_all (map files behind)) files a → Means
    by_opening (Ok contents) opens h = by_held (files table) refl contents opens h
    by_opening (Err fault) opens h =
        refused_so (of_table (record { fault = fault; refused = opens; told = h }))

    pub means_over : IsAnswerOver over table behind files a → Means
    means_over h = by_opening (opened_own (files table)) refl h

-- what a refusal says: it changes no file, takes no input, and has one of two statuses
module _ {table : List ℕ} {behind : List (List ℕ)} {files : Files} {a : Answer}
    (MeansStatus : Status → Type 0) where
  pub refusal_says : TellsRefusal table behind files a → MeansStatus Missing → MeansStatus Table
      → (a.files ≡ files) × (a.taken ≡ 0) × MeansStatus a.status
  refusal_says (of_table r) missing refused = (
    ap (λ (x : Answer). x.files) r.told,
    ap (λ (x : Answer). x.taken) r.told,
    subst (λ (x : Answer). MeansStatus x.status) (sym r.told)
        (by_table_status MeansStatus r.fault missing refused),
  )
  refusal_says (of_back r) missing refused = (
    ap (λ (x : Answer). x.files) r.told,
    ap (λ (x : Answer). x.taken) r.told,
    subst (λ (x : Answer). MeansStatus x.status) (sym r.told)
        (by_table_status MeansStatus r.fault missing refused),
  )
