use Rattle.std.proofs.Common.{refl, sym, ap, ◌∙◌, arith}
use Rattle.frz_answer.specs.declared.fault.Fault.TheVariants.{NoMemory}
use Rattle.frz_answer.specs.World.{world}
use Rattle.frz_answer.proofs.Lemmas.{as_given, quiet_same, stopped}
use Rattle.frz_rules.specs.Text.{rules_of}
use Rattle.frz_commands_table.specs.Sampling.{sampling}
use Rattle.frz_commands_table.proofs.SampleOnce.{never_bad, size_is, some_at}
use Rattle.frz_commands_table.proofs.sample.sample_at.Goals as goal

pub sample_by-requires : goal.sample_by-requires
sample_by-requires g c =
    let read = sym (ap rules_of (c.deref.ensures.value ∙ c.in-Ok.ensures))
    ∙ c.in-Ok-read_rules.ensures.exact in record {
      read = read;
      sound = c.in-Ok-read_rules.ensures.sound;
      size = size_is c.args.k (omega arith) _ read;
    }

pub unreachable-requires : goal.unreachable-requires
unreachable-requires g c =
    let exact = rw c.in-Err-Bad.field-0-is at c.in-Err-Bad.ensures.exact in
    never_bad c.args.k (omega arith) _
    (sym (ap rules_of (c.deref.ensures.value ∙ c.in-Ok.ensures)) ∙ exact)

-- there is no memory for the text
pub returns-in_default : goal.returns-in_default
returns-in_default g c = λ store input.
    stopped (sampling c.args.k) NoMemory (world _ _ _ _) _ (quiet_same _) refl
    (λ files left agrees. record {
      found = as_given _ files left _ agrees;
      some = some_at c.args.k (omega arith) files;
      costs = record { steps = omega arith; calls = omega arith; asked = omega arith };
    })

-- nor for the rules
pub returns-in-Err-NoMemory : goal.returns-in-Err-NoMemory
returns-in-Err-NoMemory g c = λ store input.
    stopped (sampling c.args.k) NoMemory (world _ _ _ _) _ (quiet_same _) refl
    (λ files left agrees. record {
      found = as_given _ files left _ agrees;
      some = some_at c.args.k (omega arith) files;
      costs = record { steps = omega arith; calls = omega arith; asked = omega arith };
    })
