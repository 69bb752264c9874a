use Rattle.frz_prelude.proofs.Held.{rules_due, refusal_due}
use Rattle.frz_prelude.proofs.rules_at.read_rules_at.Goals as goal

pub returns-in-Ok-clause-read : goal.returns-in-Ok-clause-read
returns-in-Ok-clause-read g c =
    let e = c.in-Ok.ensures in
    record {
      files = e.read.files;
      agrees = e.read.agrees;
      due = rules_due _ c.in-Ok.field-0 e.read.due;
      asked = e.read.asked;
      calls = e.read.calls;
    }

pub returns-clause-read : goal.returns-clause-read
returns-clause-read g c =
    let e = c.in-Err.ensures in
    record {
      files = e.read.files;
      agrees = e.read.agrees;
      due = refusal_due _ c.in-Err.stop e.read.due;
      asked = e.read.asked;
      calls = e.read.calls;
    }
