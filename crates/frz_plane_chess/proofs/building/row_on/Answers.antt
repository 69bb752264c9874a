use Rattle.std.proofs.Common.{List, subst, sym}
use Rattle.frz_sets.specs.Views.{GroupLine}
use Rattle.frz_configurations.specs.Configurations.{configuration_count}
use Rattle.frz_plane_arms.specs.Inner.{AreBelow}
use Rattle.frz_plane_exits.specs.Exits.{AreExits, HasLivePairs}
use Rattle.frz_plane_exits.specs.declared.exit_plane.ExitPlane.{ExitPlane}
use Rattle.frz_plane_chess.proofs.BoardNumbers.{live_read}
use Rattle.frz_plane_chess.proofs.building.row_on.Goals as goal

pub exits_of-requires-clause-live : goal.exits_of-requires-clause-live
exits_of-requires-clause-live g c =
    let r = c.args.configurations.now.rules.now in
    let k = c.args.configuration in
    let lives = c.args.lives.now in
    let live = c.index-lives-configuration.result in
    let has : HasLivePairs r.groups c.args.p.now live = record {
      configuration = k;
      board = c.requires.board;
      are_live = live_read r lives k live c.requires.live c.requires.many c.requires.inside
          c.index-lives-configuration.is;
    } in
    subst (λ (x : List GroupLine). HasLivePairs x c.args.p.now live) (sym c.requires.set) has

pub returns : goal.returns
returns g c =
    let r = c.args.configurations.now.rules.now in
    let value = g.B.ExitBook.value_at c.args.book.now in
    let p = c.args.p.now in
    let k = c.args.configuration in
    let lives = c.args.lives.now in
    let live = c.index-lives-configuration.result in
    let are = live_read r lives k live c.requires.live c.requires.many c.requires.inside
    c.index-lives-configuration.is in
    let inner = c.in_ok-moves.ensures.inner in
    let exits = c.in-Ok.ensures in
    let any = c.moving-any.ensures value p k c.requires.sound c.requires.board are c.requires.live
    inner
    (subst (λ (xs : List ExitPlane). AreExits r value p xs) (sym c.deref.ensures.value) exits) in
    let free = c.moving-free.ensures value p k c.requires.sound c.requires.board are
    c.requires.live inner
    (subst (λ (xs : List ExitPlane). AreExits r value p xs) (sym c.deref-2.ensures.value) exits) in
    record {
      board = c.requires.board;
      turn = c.turn.ensures;
      inner = inner;
      below = subst
          (λ (gs : List GroupLine). AreBelow (configuration_count gs) c.in_ok-moves.moves)
          c.requires.set c.in_ok-moves.ensures.below;
      exits = exits;
      moving = any;
      moving_freely = free;
      mated = c.mated-mates.ensures r value k c.requires.sound c.requires.board are any;
    }
