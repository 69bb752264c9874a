-- How a command ends at what is wrong with a table over several others.
use Rattle.std.proofs.Common.{◌≡◌, sym, subst, ℕ, List}
use Rattle.frz_store.specs.Files.{Files}
use Rattle.frz_store.specs.Told.{SinkTold}
use Rattle.frz_answer.specs.declared.end.End.{End}
use Rattle.frz_answer.specs.declared.end.End.TheVariants.{Stopped}
use Rattle.frz_answer.specs.declared.fault.Fault.{Fault}
use Rattle.frz_answer.specs.declared.fault.Fault.TheVariants as stops
use Rattle.frz_answer.specs.Ends.{MayMeet, Ran}
use Rattle.frz_answer.specs.Jobs.{Job}
use Rattle.frz_answer.specs.Statuses.{OneOf}
use Rattle.frz_answer.specs.World.{World, Agrees, Fine, Quiet}
use Rattle.frz_answer.proofs.Lemmas.{Begun, SaysAll, said, stopped}
use Rattle.frz_prelude.specs.Refusals.{refusal_line, status_of}
use Rattle.frz_prelude.specs.declared.refused.Refused.TheVariants as refusals
use Rattle.frz_atlas.specs.declared.fault.AtlasFault.{AtlasFault}
use Rattle.frz_atlas.specs.declared.fault.AtlasFault.TheVariants.{Rules, Table, Back, Failed, NoMemory}
use Rattle.frz_atlas_prelude.specs.BackLines.{back_line, back_status}
use Rattle.frz_atlas_prelude.specs.Ending.{EndsAt}

-- a job may end so
abbrev pub MayEndAt : Job → AtlasFault → World → World → Type 0
MayEndAt job (Rules fault) old new =
    OneOf (status_of (refusals.Rules fault)) job.statuses × Fine old new
MayEndAt job (Table fault) old new =
    OneOf (status_of (refusals.Table fault)) job.statuses × Fine old new
MayEndAt job (Back place fault) old new = OneOf (back_status fault) job.statuses × Fine old new
MayEndAt job Failed old new = MayMeet job stops.Store old new
MayEndAt job NoMemory old new = MayMeet job stops.NoMemory old new

-- the refusal is an answer, or there is some answer, where a fault stopped the job
abbrev pub AnswersAt : Job → AtlasFault → Files → List ℕ → World → World → Type 0
AnswersAt job (Rules fault) files input old new =
    SaysAll job (status_of (refusals.Rules fault)) (refusal_line (refusals.Rules fault)) files input
    old new
AnswersAt job (Table fault) files input old new =
    SaysAll job (status_of (refusals.Table fault)) (refusal_line (refusals.Table fault)) files input
    old new
AnswersAt job (Back place fault) files input old new =
    SaysAll job (back_status fault) (back_line place fault) files input old new
AnswersAt job Failed files input old new = Begun job files input old new
AnswersAt job NoMemory files input old new = Begun job files input old new

module _ (job : Job) (end : End) (old mid : World) (out : SinkTold) (quiet : Quiet old mid) where
  fault_ended : (fault : Fault) → MayMeet job fault old mid
      → (end ≡ Stopped fault) × (out ≡ mid.out)
      → ((files : Files) (input : List ℕ) → Agrees old files input
      → Begun job files input old mid) → Ran job end old (record mid { out = out })
  fault_ended fault may ends answers =
      subst (λ (o : SinkTold). Ran job end old (record mid { out = o })) (sym ends.1)
      (subst (λ (e : End). Ran job e old mid) (sym ends.0)
      (stopped job fault old mid quiet may answers))

  pub ended_at : (fault : AtlasFault) → MayEndAt job fault old mid → EndsAt fault end mid.out out
      → ((files : Files) (input : List ℕ) → Agrees old files input
      → AnswersAt job fault files input old mid) → Ran job end old (record mid { out = out })
  ended_at (Rules fault) may ends answers =
      said job _ _ end old mid out quiet may.1 may.0 ends answers
  ended_at (Table fault) may ends answers =
      said job _ _ end old mid out quiet may.1 may.0 ends answers
  ended_at (Back place fault) may ends answers =
      said job _ _ end old mid out quiet may.1 may.0 ends answers
  ended_at Failed may ends answers = fault_ended stops.Store may ends answers
  ended_at NoMemory may ends answers = fault_ended stops.NoMemory may ends answers
