-- The words after a command's name: how many there are, and the refusal of those that do not fit.
use Rattle.std.specs.Prelude.{◌≡◌, ℕ, List, [], ◌∷◌, Bool, true, false, Option, Some, None}
use lib.Chars.{codes}
use Rattle.frz_answer.specs.declared.status.Status.TheVariants.{Words}
use Rattle.frz_answer.specs.declared.words.Refusal.{Refusal}
use Rattle.frz_answer.specs.declared.words.Refusal.TheVariants.{NoCommand, Count, SameName}
use Rattle.frz_answer.specs.Answers.{says}
use Rattle.frz_answer.specs.Jobs.{Job, plain}

abbrev pub words_line : Refusal → List ℕ
words_line NoCommand = codes "words: command\n"
words_line Count = codes "words: count\n"
words_line SameName = codes "words: same name\n"

-- the job of refusing the words
abbrev pub refusing : Refusal → Job
refusing why = plain (Words ∷ []) (λ files input a. a ≡ says Words (words_line why) files)

-- the elements of a list, where there are one, two or three as the name says
abbrev pub one_word_of : {A : Type 0} → List A → Option A
one_word_of (x ∷ []) = Some x
one_word_of _ = None

abbrev pub two_words_of : {A : Type 0} → List A → Option (A × A)
two_words_of (x ∷ y ∷ []) = Some (x, y)
two_words_of _ = None

abbrev pub three_words_of : {A : Type 0} → List A → Option (A × A × A)
three_words_of (x ∷ y ∷ z ∷ []) = Some (x, y, z)
three_words_of _ = None

-- the job with these words, where there are as many as it takes; else their number is refused
abbrev pub taking : {A : Type 0} → (A → Job) → Option A → Job
taking job None = refusing Count
taking job (Some words) = job words

-- the job, where two names differ; else they are refused
abbrev pub unless : Bool → Job → Job
unless true job = refusing SameName
unless false job = job
