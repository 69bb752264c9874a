use Rattle.std.proofs.Common.{◌≡◌, ◌&&◌, ℕ, Bool, List, ap, sym, ◌∙◌}
use Rattle.std.proofs.lemmas.Bool.{and_parts}
use Rattle.frz_board.specs.declared.man.Colour.{Colour}
use Rattle.frz_sets.specs.Views.{GroupLine}
use Rattle.frz_index.specs.Kept.{is_known}
use Rattle.frz_planes.specs.Planes.{IsPlaneOf, has_pair}
use Rattle.frz_king_planes.specs.Kings.{king_cell}
use Rattle.frz_pair_moves.specs.Kings.{steps_onto}
use Rattle.frz_pair_moves.specs.Moves.{entered}
use Rattle.frz_plane_exits.specs.declared.mover.Mover.TheVariants.{King}
use Rattle.frz_plane_exits.proofs.KingsLeave.{king_goes, king_stays}
use Rattle.frz_plane_exits.proofs.LeavingPlanes.{none_leave}
use Rattle.frz_plane_exits.proofs.Outside.{no_king_there}
use Rattle.frz_plane_exits.proofs.leaving.king_enters.Goals as goal

-- the same test, of the groups of the rules and of the side to move
for_mover : (inside : Bool) (gs hs : List GroupLine) (t c : Colour) (s : ℕ) (found : Bool) → gs ≡ hs →
    t ≡ c → found ≡ (inside && is_known gs (king_cell t) s) →
    (inside && is_known hs (king_cell c) s) ≡ found
for_mover inside gs hs t c s found e f h =
    sym (h
    ∙ ap (λ (xs : List GroupLine). inside && is_known xs (king_cell t) s) e
    ∙ ap (λ (d : Colour). inside && is_known hs (king_cell d) s) f)

pub returns-then-is_inside : goal.returns-then-is_inside
returns-then-is_inside c =
    let r = c.args.configurations.now.rules.now in
    let p = c.args.p.now in
    let s = c.args.s in
    let left = c.args.left.now in
    let both = and_parts left.is_inside (is_known r.groups (king_cell p.turn) s)
    (for_mover left.is_inside c.args.set.now r.groups c.turn-turn.result p.turn s
    c.is_inside.result c.requires.set c.turn-turn.ensures c.is_inside.ensures
    ∙ c.if-is_inside.true) in
    let there = c.requires.left.inside both.0 in
    none_leave r p (King s) c.empty.result c.empty.ensures
    (king_stays r p s c.requires.sound there.0 there.1 both.1)

pub returns-else-is_inside : goal.returns-else-is_inside
returns-else-is_inside c =
    let r = c.args.configurations.now.rules.now in
    let p = c.args.p.now in
    let s = c.args.s in
    let left = c.args.left.now in
    let live = c.args.live.now in
    let pairs = c.arriving_pairs.result in
    let is : IsPlaneOf pairs (λ a b. steps_onto p.turn s left.valid a b && has_pair live a b) =
    λ a b la lb. c.arriving_pairs.ensures.plane a b la lb
    ∙ ap (λ (d : Colour). steps_onto d s left.valid a b && has_pair live a b) c.turn-turn.ensures in
    king_goes r p s c.requires.sound c.arriving_pairs.ensures.on_board live left.valid pairs
    c.requires.live c.requires.free c.requires.left.valid
    (no_king_there r (entered p s) left p.turn s c.requires.sound c.requires.left
    (for_mover left.is_inside c.args.set.now r.groups c.turn-turn.result p.turn s
    c.is_inside.result c.requires.set c.turn-turn.ensures c.is_inside.ensures
    ∙ c.if-is_inside.false)) is
