-- That each call of `build` and of `check` has one answer, which means what it is to mean.
use Rattle.std.proofs.Common.{◌≡◌, sym, ap, subst, ℕ, List}
use Rattle.frz_store.specs.Files.{Files}
use Rattle.frz_answer.specs.declared.status.Status.{Status}
use Rattle.frz_answer.specs.declared.status.Status.TheVariants as statuses
use Rattle.frz_answer.specs.Answers.{Answer, says}
use Rattle.frz_answer.specs.Lawful.{IsLawful}
use Rattle.frz_answer.specs.Words.{unless}
use Rattle.frz_answer.proofs.Lemmas.{said_job, taking_lawful, unless_lawful}
use Rattle.frz_prelude.specs.Refusals.{status_of}
use Rattle.frz_prelude.specs.declared.refused.Refused.{Refused as Refusal}
use Rattle.frz_prelude.proofs.Lemmas.{by_table_status, of_rules as by_rules}
use Rattle.frz_atlas.specs.declared.fault.BackFault.{BackFault}
use Rattle.frz_atlas.specs.declared.fault.BackFault.TheVariants.{Refused, Wrong}
use Rattle.frz_atlas_prelude.specs.BackLines.{back_status}
use Rattle.frz_atlas_prelude.specs.RulesRefusals.{Refuses, of_back, of_rules}
use Rattle.frz_atlas_prelude.specs.Names.{build_names_of, file_names_of, has_twice}
use Rattle.frz_commands_atlas.specs.Building.{IsBuiltAt, MeansBuild, MeansByStatus, build_words, building_at, made, no_back, no_rules}
use Rattle.frz_commands_atlas.specs.CheckMeans.{check_words, checking_at}
use Rattle.frz_commands_atlas.proofs.BuildOnce.{one_built}
use Rattle.frz_commands_atlas.proofs.CheckMeaning.{check_means}
use Rattle.frz_commands_atlas.proofs.CheckOnce.{one_checked}

module _ (rules table : List ℕ) (behind : List (List ℕ)) (files : Files) (a : Answer) where
  means_so : (status : Status) → a.status ≡ status → a.taken ≡ 0
      → MeansByStatus rules table behind files a status → MeansBuild rules table behind files a
  means_so status is untaken says = record {
    untaken = untaken;
    says = subst (λ (s : Status). MeansByStatus rules table behind files a s) (sym is) says;
  }

  says_back : (fault : BackFault) → Refuses rules behind files a
      → MeansByStatus rules table behind files a (back_status fault)
  says_back (Refused fault) h =
      by_table_status (λ s. MeansByStatus rules table behind files a s) fault h h
  says_back (Wrong wrong) h = h

  build_means : IsBuiltAt rules table behind files a → MeansBuild rules table behind files a
  build_means (no_rules h) =
      means_so (status_of h.why) (ap (λ (x : Answer). x.status) h.told)
      (ap (λ (x : Answer). x.taken) h.told)
      (by_rules (λ (why : Refusal). MeansByStatus rules table behind files a (status_of why))
      (files rules) h.why h.refused (of_rules h) (λ fault. of_rules h))
  build_means (no_back h) =
      means_so (back_status h.fault) (ap (λ (x : Answer). x.status) h.told)
      (ap (λ (x : Answer). x.taken) h.told) (says_back h.fault (of_back h))
  build_means (made h) =
      means_so statuses.Success (ap (λ (x : Answer). x.status) h.told)
      (ap (λ (x : Answer). x.taken) h.told) h

building_lawful : (rules table : List ℕ) (behind : List (List ℕ))
    → IsLawful (building_at rules table behind)
building_lawful rules table behind =
    said_job (building_at rules table behind)
    (λ files input. one_built rules table behind files)
    (λ files input a h. build_means rules table behind files a h)

pub build_lawful : (words : List (List ℕ)) → IsLawful (build_words words)
build_lawful words =
    taking_lawful
    (λ (names : List ℕ × (List ℕ × List (List ℕ))). unless (has_twice words)
    (building_at names.0 names.1.0 names.1.1)) (build_names_of words)
    (λ names. unless_lawful (has_twice words) (building_at names.0 names.1.0 names.1.1)
    (building_lawful names.0 names.1.0 names.1.1))

checking_lawful : (table : List ℕ) (behind : List (List ℕ)) → IsLawful (checking_at table behind)
checking_lawful table behind = record {
  one = λ files input. one_checked table behind files;
  means = λ files input a are h. check_means table behind files are a h;
}

pub check_lawful : (words : List (List ℕ)) → IsLawful (check_words words)
check_lawful words =
    taking_lawful
    (λ (names : List ℕ × List (List ℕ)). unless (has_twice words) (checking_at names.0 names.1))
    (file_names_of words)
    (λ names. unless_lawful (has_twice words) (checking_at names.0 names.1)
    (checking_lawful names.0 names.1))
