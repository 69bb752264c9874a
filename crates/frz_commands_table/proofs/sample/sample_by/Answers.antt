use Rattle.std.proofs.Common.{refl, ap, ◌∙◌, ℕ, arith}
use Rattle.frz_answer.specs.declared.status.Status.TheVariants.{Success}
use Rattle.frz_answer.specs.declared.fault.Fault.TheVariants.{NoMemory}
use Rattle.frz_answer.specs.Answers.{says}
use Rattle.frz_answer.specs.World.{world}
use Rattle.frz_answer.proofs.Lemmas.{as_given, fine_steps, quiet_same, quiet_steps, said, stopped}
use Rattle.frz_board.specs.declared.man.Colour.TheVariants.{White, Black}
use Rattle.frz_sets.specs.Sets.{size_of}
use Rattle.frz_commands_table.specs.Sampling.{sampling, sample_lines}
use Rattle.frz_commands_table.proofs.SampleOnce.{some_sampled, table_as}
use Rattle.frz_commands_table.proofs.sample.sample_by.Goals as goal

pub returns-in_default : goal.returns-in_default
returns-in_default g c = λ store input.
    stopped (sampling c.args.k) NoMemory (world _ _ _ _) _ (quiet_same _) refl
    (λ files left agrees. record {
      found = as_given _ files left _ agrees;
      some = some_sampled c.args.k c.args.rules.now c.requires.read files;
      costs = record { steps = omega arith; calls = omega arith; asked = omega arith };
    })

pub returns-in-Ok-checked_tables : goal.returns-in-Ok-checked_tables
returns-in-Ok-checked_tables g c = λ store input.
    let k = c.args.k in
    let rules = c.args.rules.now in
    let white = c.deref.result.now in
    let black = c.entries.result.now in
    let e = c.in-Ok-checked_tables.ensures in
    said (sampling k) _ _ _ (world _ _ _ _) _ _ (quiet_steps _ _ _ _ _ e.later)
    (fine_steps _ _ _ _ _) refl (c.said.ensures _ _ _ c.write_sample.ensures)
    (λ files left agrees. record {
      found = as_given _ files left _ agrees;
      answer = (
        rules,
        c.requires.read,
        (
          white,
          black,
          table_as rules _ White _ white c.new-2.ensures c.deref.ensures.value e.white,
          table_as rules _ Black _ black c.new-2.ensures c.entries.ensures e.black,
          ap (λ (n : ℕ). says Success (sample_lines k n white black) files)
              (c.size.ensures.size ∙ ap size_of c.in-Ok.ensures ∙ c.requires.size),
        ),
      );
      costs = record {
        steps = (let a = e.cost in let s = c.requires.size in omega (arith, a, s));
        calls = omega arith;
        asked = omega arith;
      };
    })

pub returns : goal.returns
returns g c = λ store input.
    stopped (sampling c.args.k) NoMemory (world _ _ _ _) _
    (quiet_steps _ _ _ _ _ c.checked_tables.ensures.later) refl
    (λ files left agrees. record {
      found = as_given _ files left _ agrees;
      some = some_sampled c.args.k c.args.rules.now c.requires.read files;
      costs = record {
        steps = (let a = c.checked_tables.ensures.cost in let s = c.requires.size in
            omega (arith, a, s));
        calls = omega arith;
        asked = omega arith;
      };
    })
