use Rattle.std.proofs.Common.{ℕ, List}
use Rattle.frz_words.specs.Numbers.{number_of}
use Rattle.frz_answer.proofs.Lemmas.{as_taken}
use Rattle.frz_commands_table.specs.Sampling.{sampling_named}
use Rattle.frz_commands_table.specs.declared.sample.TheConstants.{LAST_SQUARE}
use Rattle.frz_commands_table.proofs.sample.run_sample.Goals as goal

pub returns-in-Some : goal.returns-in-Some
returns-in-Some g c = λ store input.
    as_taken _ _ _ (λ (word : List ℕ). sampling_named (number_of word LAST_SQUARE)) _ _
    c.in-Some.ensures (c.sample_named.ensures store input)

pub returns-in-None : goal.returns-in-None
returns-in-None g c = λ store input.
    as_taken _ _ _ (λ (word : List ℕ). sampling_named (number_of word LAST_SQUARE)) _ _
    c.in-None.ensures (c.refuse.ensures store input _)
