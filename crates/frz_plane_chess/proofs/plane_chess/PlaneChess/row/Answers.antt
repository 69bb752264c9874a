use Rattle.frz_plane_chess.proofs.RowNumbers.{row_read}
use Rattle.frz_plane_chess.proofs.plane_chess.PlaneChess.row.Goals as goal

pub returns-in-None : goal.returns-in-None
returns-in-None g c =
    let read = row_read c.args.self.now.rows.items c.args.configuration c.index.result.now
    c.index.ensures c.requires in
    let is = c.in-None.is in
    cc

pub returns-in-Some : goal.returns-in-Some
returns-in-Some g c =
    let read = row_read c.args.self.now.rows.items c.args.configuration c.index.result.now
    c.index.ensures c.requires in
    let is = c.in-Some.is in
    cc
