use Rattle.std.proofs.Common.{◌≡◌, List, ap, subst, sym, ◌∙◌}
use Rattle.frz_board.specs.Boards.{Board}
use Rattle.frz_sets.specs.Views.{GroupLine}
use Rattle.frz_index.proofs.AtNumbers.{is_candidate}
use Rattle.frz_index.specs.Members.{HasNumber}
use Rattle.frz_index.proofs.set.Set.mover.Goals as goal

pub returns : goal.returns
returns c = record {
  turn =
      subst (λ (gs : List GroupLine). (p : Board) → HasNumber gs c.args.i p
      → p.turn ≡ c.mover_in.result) c.self.view_is
      (λ p h. ap (λ (b : Board). b.turn)
      (sym (is_candidate c.self.inside.plan.groups.items c.args.i p h)) ∙ sym c.mover_in.ensures);
}
