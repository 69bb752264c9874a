-- What ran by the names that words give, or refused the words, ran by the words; and where each job
-- is lawful, so is that of the words.
use Rattle.std.proofs.Common.{ℕ, List}
use Rattle.frz_answer.specs.declared.end.End.{End}
use Rattle.frz_answer.specs.declared.words.Refusal.{Refusal}
use Rattle.frz_answer.specs.declared.words.Refusal.TheVariants.{Count, NoCommand, SameName}
use Rattle.frz_answer.specs.Ends.{Ran}
use Rattle.frz_answer.specs.Jobs.{Job}
use Rattle.frz_answer.specs.Lawful.{IsLawful}
use Rattle.frz_answer.specs.Words.{refusing, unless}
use Rattle.frz_answer.specs.World.{World}
use Rattle.frz_answer.proofs.Lemmas.{taking_lawful, unless_lawful}
use Rattle.frz_atlas_prelude.specs.Given.{AreGiven, AreNotGiven, GivenNames, given_names_of, given_words, is_same_file, not_so_many, same}

module _ (job : GivenNames → Job) where
  module _ (words : List (List ℕ)) (end : End) (old new : World) where
    pub ran_given : (names : GivenNames) → AreGiven words names → Ran (job names) end old new
        → Ran (given_words job words) end old new
    ran_given names are ran = rw (are.named, are.apart) ran

    pub ran_ungiven : (why : Refusal) → AreNotGiven words why → Ran (refusing why) end old new
        → Ran (given_words job words) end old new
    ran_ungiven NoCommand never ran = elim never [ ]
    ran_ungiven Count (not_so_many none) ran = rw none ran
    ran_ungiven SameName (same names some twice) ran = rw (some, twice) ran

  pub given_lawful : ((names : GivenNames) → IsLawful (job names)) → (words : List (List ℕ))
      → IsLawful (given_words job words)
  given_lawful each words =
      taking_lawful (λ (names : GivenNames). unless (is_same_file names) (job names))
      (given_names_of words)
      (λ names. unless_lawful (is_same_file names) (job names) (each names))
