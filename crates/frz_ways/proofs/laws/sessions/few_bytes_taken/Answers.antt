use Rattle.frz_game.specs.Games.{graph_by}
use Rattle.frz_ways.specs.Reading.{opened}
use Rattle.frz_ways.proofs.FewBytes.{few_taken}
use Rattle.frz_ways.proofs.laws.sessions.few_bytes_taken.Goals as goal

pub returns : goal.returns
returns c = λ rules value side codes start input plies end left w.
    few_taken (graph_by rules value) side codes 0 (opened input) start plies end left w
