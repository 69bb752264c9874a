-- A job over its words is lawful where the job itself is.
use Rattle.std.proofs.Common.{◌≡◌, refl, ℕ, List, Bool, true, false, Option, Some, None}
use Rattle.frz_store.specs.Files.{Files}
use Rattle.frz_answer.specs.declared.status.Status.TheVariants.{Words}
use Rattle.frz_answer.specs.Answers.{Answer, says}
use Rattle.frz_answer.specs.Jobs.{Job}
use Rattle.frz_answer.specs.declared.words.Refusal.{Refusal}
use Rattle.frz_answer.specs.declared.words.Refusal.TheVariants.{Count, SameName}
use Rattle.frz_answer.specs.Words.{words_line, refusing, taking, unless}
use Rattle.frz_answer.specs.Lawful.{HasOneAnswer, IsLawful}

-- an answer that is said in full
pub one_answer : (a : Answer) → HasOneAnswer (λ b. b ≡ a)
one_answer a = (a, refl, λ b h. h)

-- a job whose answers mean this over any files
pub said_job : (job : Job)
    → ((files : Files) (input : List ℕ) → HasOneAnswer (job.answers files input))
    → ((files : Files) (input : List ℕ) (a : Answer) → job.answers files input a
    → job.means files input a) → IsLawful job
said_job job one means = record { one = one; means = λ files input a are h. means files input a h }

pub refused_lawful : (why : Refusal) → IsLawful (refusing why)
refused_lawful why =
    said_job (refusing why) (λ files input. one_answer (says Words (words_line why) files))
    (λ _ _ _ _. tt)

pub taking_lawful : {A : Type 0} (job : A → Job) (o : Option A) → ((x : A) → IsLawful (job x))
    → IsLawful (taking job o)
taking_lawful job None law = refused_lawful Count
taking_lawful job (Some x) law = law x

pub unless_lawful : (b : Bool) (job : Job) → IsLawful job → IsLawful (unless b job)
unless_lawful true job law = refused_lawful SameName
unless_lawful false job law = law
