use Rattle.frz_journeys.proofs.FewStages.{few_stages}
use Rattle.frz_journeys.proofs.laws.few_stages.Goals as goal

pub returns : goal.returns
returns c = λ opponent side before table place start input stages left j.
    few_stages opponent side before table place start input stages left j
