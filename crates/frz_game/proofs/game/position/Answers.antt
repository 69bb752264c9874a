use Rattle.std.proofs.Common.{◌≡◌, ℕ, List, Option, None, Some, ◌↔◌, refl}
use Rattle.std.specs.Prelude.{IfSome}
use Rattle.frz_board.specs.Boards.{Board}
use Rattle.frz_index.specs.Members.{HasNumber}
use Rattle.frz_sets.specs.Views.{GroupLine}
use Rattle.frz_index.proofs.Lemmas.{position_answer, answer_valid}
use Rattle.frz_game.proofs.game.position.Goals as goal

pub returns-clause-position : goal.returns-clause-position
returns-clause-position c =
    position_answer c.args.set.now c.args.i c.boards_at.result c.boards_at.ensures.exact

pub returns-clause-valid : goal.returns-clause-valid
returns-clause-valid c =
    answer_valid c.args.set.now c.args.i c.boards_at.result c.boards_at.ensures.exact

pub returns-clause-number : goal.returns-clause-number
returns-clause-number c =
    by_answer c.args.set.now c.args.i c.boards_at.result c.boards_at.ensures.exact
  where
    by_answer : (gs : List GroupLine) (i : ℕ) (o : Option Board) →
        ((p : Board) → (o ≡ Some p) ↔ HasNumber gs i p) → IfSome o (HasNumber gs i)
    by_answer gs i None h = tt
    by_answer gs i (Some p) h = (h p).0 refl
