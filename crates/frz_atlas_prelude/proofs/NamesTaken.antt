-- What ran by the names that words give, or refused the words, ran by the words.
use Rattle.std.proofs.Common.{ℕ, List}
use Rattle.frz_answer.specs.declared.end.End.{End}
use Rattle.frz_answer.specs.declared.words.Refusal.{Refusal}
use Rattle.frz_answer.specs.declared.words.Refusal.TheVariants.{Count, NoCommand, SameName}
use Rattle.frz_answer.specs.Ends.{Ran}
use Rattle.frz_answer.specs.Jobs.{Job}
use Rattle.frz_answer.specs.Words.{refusing, taking, unless}
use Rattle.frz_answer.specs.World.{World}
use Rattle.frz_atlas_prelude.specs.Names.{AreDifferent, DoNotName, Names, file_names_of, has_twice, not_so_many, same}

-- the job of the names that words give, which are refused where one stands twice
abbrev pub by_words : (Names → Job) → List (List ℕ) → Job
by_words job words = taking (λ names. unless (has_twice words) (job names)) (file_names_of words)

module _ (job : Names → Job) (words : List (List ℕ)) (end : End) (old new : World) where
  pub ran_named : (file : List ℕ) (behind : List (List ℕ))
      → AreDifferent words file behind → Ran (job (file, behind)) end old new
      → Ran (by_words job words) end old new
  ran_named file behind are ran = rw (are.named, are.apart) ran

  pub ran_refused : (why : Refusal) → DoNotName words why
      → Ran (refusing why) end old new → Ran (by_words job words) end old new
  ran_refused NoCommand never ran = elim never [ ]
  ran_refused Count (not_so_many none) ran = rw none ran
  ran_refused SameName (same names some twice) ran = rw (some, twice) ran
