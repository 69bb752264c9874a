use Rattle.frz_game.proofs.Lemmas.{finite}
use Rattle.frz_plane_chess.proofs.Placing.{are_spots}
use Rattle.frz_plane_chess.proofs.Turns.{turns_are}
use Rattle.frz_plane_chess.proofs.plane_chess.PlaneChess.new.Goals as goal

pub returns-clause-kept : goal.returns-clause-kept
returns-clause-kept g c =
    let r = c.args.configurations.now.rules.now in
    let value = g.B.ExitBook.value_at c.args.book.now in
    let small = g.met.B.ExitBook.small c.args.book.now in
    record {
      same = c.requires.set;
      sound = c.requires.sound;
      small = small;
      many_lives = c.in-Ok.ensures.many;
      many_rows = c.in-Ok-all_rows.ensures.many;
      are_live = c.in-Ok.ensures.live;
      are_rows = c.in-Ok-all_rows.ensures.rows;
      finite = finite r value small c.requires.sound.size;
      placed = are_spots r c.requires.sound;
      turns = turns_are r value c.in-Ok-all_rows.rows.items c.requires.sound c.in-Ok-all_rows.ensures.rows;
    }
