use Rattle.std.proofs.Common.{ap, sym, length, ◌∙◌}
use Rattle.frz_board.specs.declared.man.Colour.TheVariants.{White, Black}
use Rattle.library_example.proofs.solved.Solved.codes.Goals as goal

pub invariant_of-result : goal.invariant_of-result
invariant_of-result c =
    let tables = c.self.invariant.tables in
    record {
      equal = ap length c.entries-white.ensures
          ∙ (((tables White).many ∙ sym (tables Black).many) ∙ sym (ap length c.entries-black.ensures));
    }
