use Rattle.std.proofs.Common.{◌∙◌, subst}
use Rattle.frz_retro.specs.Shape.{AreShort, In}
use Rattle.frz_retro.specs.Graphs.{Arm}
use Rattle.frz_retro.proofs.Laws.{is_graph}
use Rattle.frz_retro.proofs.beginning.notes_of.Given.{Over}
use Rattle.frz_retro.proofs.beginning.notes_of.Goals as goal
use Rattle.frz_retro.proofs.beginning.notes_of.Goals.{After-as_slice-arms}

short : (g : Over) (c : After-as_slice-arms g) (a : Arm) → In a c.as_slice-arms.result.now →
    AreShort a.next
short g c a i =
    (is_graph (g.met.G.NumberedGame.finite c.args.graph.now c.requires.sound)
    (g.met.G.Graph.different c.args.graph.now c.requires.sound)).lags c.args.i a
    (subst (λ xs. In a xs) (c.as_slice-arms.ensures.value ∙ c.nexts_by-node.ensures.arms) i)

pub note_of-requires-clause-short : goal.note_of-requires-clause-short
note_of-requires-clause-short g c =
    short g (goal.at.note_of-requires-clause-short g c).After-as_slice-arms

pub note_of-requires-2-clause-short : goal.note_of-requires-2-clause-short
note_of-requires-2-clause-short g c =
    short g (goal.at.note_of-requires-2-clause-short g c).After-as_slice-arms
