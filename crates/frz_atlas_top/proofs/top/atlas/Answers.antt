use Rattle.std.proofs.Common.{map}
use Rattle.std.specs.String.{string_bytes}
use Rattle.frz_answer.specs.World.{world}
use Rattle.frz_answer.proofs.Lemmas.{outcome}
use Rattle.frz_atlas_top.proofs.Answering.{lawful_of}
use Rattle.frz_atlas_top.proofs.top.atlas.Goals as goal

pub returns-clause-outcome : goal.returns-clause-outcome
returns-clause-outcome g c =
    outcome _ _ _ (world _ _ _ _) _ _ (g.met.S.Store.holds_bytes c.args.store.now)
    (λ files input a are h. let law = lawful_of c.one_ask_answer.ensures
    c.one_line_answer.ensures c.one_play_answer.ensures c.why_lawful.ensures (map string_bytes c.args.words.now) in
    law.means files input a are h) c.run-end.ensures.ran c.finish.ensures
