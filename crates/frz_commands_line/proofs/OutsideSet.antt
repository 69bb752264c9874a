-- How a job by an open table ends at a position outside its set: nothing was done before.
use Rattle.std.proofs.Common.{◌≡◌, sym, subst, ℕ, List}
use Rattle.frz_store.specs.Files.{Files}
use Rattle.frz_store.specs.Told.{SinkTold}
use Rattle.frz_answer.specs.declared.end.End.{End}
use Rattle.frz_answer.specs.Statuses.{OneOf}
use Rattle.frz_answer.specs.World.{World, spent}
use Rattle.frz_answer.specs.Answers.{Answer, says}
use Rattle.frz_answer.specs.Jobs.{Job}
use Rattle.frz_answer.specs.Ends.{Ran, Said}
use Rattle.frz_answer.proofs.Lemmas.{as_given, fine_same, quiet_same, said}
use Rattle.frz_prelude.specs.Refusals.{status_of, refusal_line}
use Rattle.frz_prelude.specs.declared.refused.Refused.TheVariants.{Outside}

pub outside_ran : (job : Job) (old played : World) (end : End) (taken : SinkTold) → played ≡ old
    → OneOf (status_of Outside) job.statuses
    → ((m : Files) (i : List ℕ)
    → job.answers m i (says (status_of Outside) (refusal_line Outside) m))
    → ((m : Files) (i : List ℕ) (a : Answer) → job.costs m i a (spent old) (spent old))
    → Said (status_of Outside) (refusal_line Outside) end played.out taken
    → Ran job end old (record played { out = taken })
outside_ran job old played end taken same own answers costs =
    subst (λ (w : World). Said (status_of Outside) (refusal_line Outside) end w.out taken
    → Ran job end old (record w { out = taken })) (sym same)
    (λ said_it. said job (status_of Outside) (refusal_line Outside) end old old taken
    (quiet_same old) (fine_same old) own said_it
    (λ m i agrees. record {
      found = as_given job m i old agrees;
      answer = answers m i;
      costs = costs m i (says (status_of Outside) (refusal_line Outside) m);
    }))
