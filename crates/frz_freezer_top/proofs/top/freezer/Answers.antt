use Rattle.std.proofs.Common.{map}
use Rattle.std.specs.String.{string_bytes}
use Rattle.frz_answer.specs.World.{world}
use Rattle.frz_answer.proofs.Lemmas.{outcome}
use Rattle.frz_freezer_top.proofs.Answering.{lawful_of}
use Rattle.frz_freezer_top.proofs.top.freezer.Goals as goal

pub returns-clause-outcome : goal.returns-clause-outcome
returns-clause-outcome g c =
    let w = c.run-end.ensures.ran in (
      w.0,
      w.1,
      outcome _ _ _ (world _ _ _ _) _ _ (g.met.S.Store.holds_bytes c.args.store.now)
          (λ files input a are h. let law = lawful_of c.one_line_answer.ensures
          c.one_play_answer.ensures w.0 (map string_bytes c.args.words.now) in
          law.means files input a are h) w.2 c.finish.ensures,
    )
