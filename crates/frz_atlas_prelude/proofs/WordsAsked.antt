-- What ran by the names that words give, or refused the words, ran by the words; and where each job
-- is lawful, so is that of the words.
use Rattle.std.proofs.Common.{ℕ, List}
use Rattle.frz_answer.specs.declared.end.End.{End}
use Rattle.frz_answer.specs.declared.words.Refusal.{Refusal}
use Rattle.frz_answer.specs.declared.words.Refusal.TheVariants.{Count, NoCommand, SameName}
use Rattle.frz_answer.specs.Ends.{Ran}
use Rattle.frz_answer.specs.Jobs.{Job}
use Rattle.frz_answer.specs.Lawful.{IsLawful}
use Rattle.frz_answer.specs.Words.{refusing, unless}
use Rattle.frz_answer.specs.World.{World}
use Rattle.frz_answer.proofs.Lemmas.{taking_lawful, unless_lawful}
use Rattle.frz_atlas_prelude.specs.Asked.{AreAsked, AreNotAsked, AskedNames, asked_names_of, asked_words, is_same_file, not_so_many, same}

module _ (fewest : ℕ) (job : AskedNames → Job) where
  module _ (words : List (List ℕ)) (end : End) (old new : World) where
    pub ran_asked : (names : AskedNames) → AreAsked fewest words names → Ran (job names) end old new
        → Ran (asked_words fewest job words) end old new
    ran_asked names are ran = rw (are.named, are.apart) ran

    pub ran_unasked : (why : Refusal) → AreNotAsked fewest words why → Ran (refusing why) end old new
        → Ran (asked_words fewest job words) end old new
    ran_unasked NoCommand never ran = elim never [ ]
    ran_unasked Count (not_so_many none) ran = rw none ran
    ran_unasked SameName (same names some twice) ran = rw (some, twice) ran

  pub asked_lawful : ((names : AskedNames) → IsLawful (job names)) → (words : List (List ℕ))
      → IsLawful (asked_words fewest job words)
  asked_lawful each words =
      taking_lawful (λ (names : AskedNames). unless (is_same_file names) (job names))
      (asked_names_of fewest words)
      (λ names. unless_lawful (is_same_file names) (job names) (each names))
