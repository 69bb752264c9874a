use Rattle.std.proofs.Common.{List, ℕ, ◌++◌, subst, ◌∙◌}
use Rattle.std.specs.Prelude.{codes}
use Rattle.frz_store.specs.Told.{sink_of}
use Rattle.frz_answer.specs.Texts.{WroteText}
use Rattle.frz_repairs.proofs.texts.write_class.Goals as goal

pub returns : goal.returns
returns g c =
    subst (λ (l : List ℕ). WroteText (l ++ codes "\n") c.write_line.result
    (sink_of g.O.Sink c.args.out.now) (sink_of g.O.Sink c.write_line.new.out))
    (c.as_bytes.ensures.value ∙ c.as_str.ensures.value ∙ c.class_of.ensures) c.write_line.ensures
