use Rattle.std.proofs.Common.{◌≡◌, true, ap, slice_index, sym, subst, ◌∙◌}
use Rattle.std.proofs.lemmas.Bool.{eqb-true}
use Rattle.frz_board.specs.declared.man.Colour.{Colour}
use Rattle.frz_board.specs.Boards.{Board, holds, is_empty}
use Rattle.frz_pair_moves.proofs.Lemmas.{entered_empty}
use Rattle.frz_plane_exits.specs.Leaving.{IsLeft}
use Rattle.frz_plane_exits.specs.declared.mover.Mover.TheVariants.{King}
use Rattle.frz_plane_exits.proofs.KingsLeave.{king_kept}
use Rattle.frz_plane_exits.proofs.LeavingPlanes.{none_leave}
use Rattle.frz_plane_exits.proofs.leaving.king_leaves.Goals as goal

pub returns-then-holds : goal.returns-then-holds
returns-then-holds c =
    let r = c.args.configurations.now.rules.now in
    let p = c.args.p.now in
    let s = c.args.s in
    let own : holds p p.turn s ≡ true =
    sym (ap (λ (d : Colour). holds p d s) c.turn.ensures) ∙ sym c.holds.ensures ∙ c.if-holds.true in
    none_leave r p (King s) c.empty.result c.empty.ensures
    (king_kept r p s c.requires.sound own)

pub king_enters-requires-clause-left : goal.king_enters-requires-clause-left
king_enters-requires-clause-left c =
    let p = c.args.p.now in
    let s = c.args.s in
    let none : is_empty p s ≡ true = sym c.is_empty.ensures ∙ c.if-is_empty.true in
    subst (λ (q : Board). IsLeft c.args.configurations.now.rules.now.groups q c.args.quiet.now)
    (sym (entered_empty p s (eqb-true (slice_index p.cells s) 0 none))) c.requires.quiet
