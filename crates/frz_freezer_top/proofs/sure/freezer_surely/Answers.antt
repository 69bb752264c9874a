use Rattle.std.proofs.Common.{refl, map}
use Rattle.std.specs.String.{string_bytes}
use Rattle.frz_answer.specs.Statuses.{fault_code, sink_code}
use Rattle.frz_answer.specs.declared.fault.Fault.TheVariants.{Store, Input}
use Rattle.frz_answer.specs.World.{world}
use Rattle.frz_program.proofs.Lemmas.{not_given}
use Rattle.frz_freezer_top.specs.Commands.{job_of}
use Rattle.frz_freezer_top.proofs.sure.freezer_surely.Goals as goal

pub returns-clause-no_store_fault : goal.returns-clause-no_store_fault
returns-clause-no_store_fault g c =
    not_given (job_of c.freezer.ensures.outcome.0 (map string_bytes c.args.words.now)) _
    (fault_code Store) (world _ _ _ _)
    (world _ _ _ _) refl refl refl refl c.freezer.ensures.outcome.2.can

pub returns-clause-no_input_fault : goal.returns-clause-no_input_fault
returns-clause-no_input_fault g c =
    not_given (job_of c.freezer.ensures.outcome.0 (map string_bytes c.args.words.now)) _
    (fault_code Input) (world _ _ _ _)
    (world _ _ _ _) refl refl refl refl c.freezer.ensures.outcome.2.can

pub returns-clause-no_sink_fault : goal.returns-clause-no_sink_fault
returns-clause-no_sink_fault g c =
    not_given (job_of c.freezer.ensures.outcome.0 (map string_bytes c.args.words.now)) _ sink_code
    (world _ _ _ _)
    (world _ _ _ _) refl refl refl refl c.freezer.ensures.outcome.2.can
