-- Why there are no words of the command line, and the status of each reason.
use Rattle.std.specs.Prelude.{ℕ}
use Rattle.std.specs.declared.io.ErrorKind.{ErrorKind}
use Rattle.std.specs.declared.io.ErrorKind.TheVariants.{OutOfMemory}
use Rattle.frz_answer.specs.declared.status.Status.TheVariants.{Words}
use Rattle.frz_answer.specs.declared.fault.Fault.TheVariants as faults
use Rattle.frz_answer.specs.Statuses.{code_of, fault_code}
use Rattle.frz_program.specs.declared.words.NoWords.{NoWords}
use Rattle.frz_program.specs.declared.words.NoWords.TheVariants.{NotText, NoMemory}

abbrev pub no_words_code : NoWords → ℕ
no_words_code NotText = code_of Words
no_words_code NoMemory = fault_code faults.NoMemory

-- what an error of std says of the words: memory ran out, or else one of them is not text
abbrev pub reason_of : ErrorKind → NoWords
reason_of OutOfMemory = NoMemory
reason_of kind = NotText
