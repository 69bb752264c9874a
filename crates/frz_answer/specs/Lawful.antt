-- What is proved of the answers of each job.
use Rattle.std.specs.Prelude.{◌≡◌, ℕ, List}
use Rattle.frz_store.specs.Bytes.{HoldsBytes}
use Rattle.frz_store.specs.Files.{Files}
use Rattle.frz_answer.specs.Answers.{Answer}
use Rattle.frz_answer.specs.Jobs.{Job}

-- there is exactly one such answer
abbrev pub HasOneAnswer : (Answer → Type 0) → Type 0
HasOneAnswer R = (a : Answer) × R a × ((b : Answer) → R b → b ≡ a)

-- over any files and any input the job has exactly one answer, and over files of bytes, as all real
-- files are, the answer means what the job says that it means
pub record IsLawful (job : Job) : Type 0 where
  pub one : (files : Files) (input : List ℕ) → HasOneAnswer (job.answers files input)
  pub means : (files : Files) (input : List ℕ) (a : Answer) → HoldsBytes files →
      job.answers files input a → job.means files input a
