use Rattle.std.proofs.Common.{refl, ap, ◌∙◌, ℕ, List, Some, None, arith}
use Rattle.frz_words.specs.Numbers.{number_of}
use Rattle.frz_answer.specs.World.{world}
use Rattle.frz_answer.proofs.Lemmas.{as_given, fine_same, quiet_same, said}
use Rattle.frz_commands_table.specs.Sampling.{sampling_named}
use Rattle.frz_commands_table.specs.declared.sample.TheConstants.{LAST_SQUARE}
use Rattle.frz_commands_table.proofs.SampleOnce.{as_named}
use Rattle.frz_commands_table.proofs.sample.sample_named.Goals as goal

pub returns-in-Some : goal.returns-in-Some
returns-in-Some g c = λ store input.
    as_named _ _ _ (Some c.at.result) _
    (ap (λ (k : ℕ). Some k) c.at.ensures ∙ c.in-Some.ensures.value
    ∙ ap (λ (w : List ℕ). number_of w LAST_SQUARE) c.as_bytes.ensures.value)
    (c.sample_at.ensures store input)

pub returns-in-None : goal.returns-in-None
returns-in-None g c = λ store input.
    as_named _ _ _ None _
    (c.in-None.ensures.value ∙ ap (λ (w : List ℕ). number_of w LAST_SQUARE)
    c.as_bytes.ensures.value)
    (said (sampling_named None) _ _ _ (world _ _ _ _) _ _ (quiet_same _) (fine_same _) refl
    c.say.ensures
    (λ files left agrees. record {
      found = as_given _ files left _ agrees;
      answer = refl;
      costs = record { steps = omega arith; calls = omega arith; asked = omega arith };
    }))
