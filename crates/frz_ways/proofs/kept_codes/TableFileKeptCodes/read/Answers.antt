use Rattle.frz_table.specs.Tables.{table_size}
use Rattle.frz_ways.specs.Kept.{told_codes}
use Rattle.frz_ways.proofs.CodesGathered.{gather_read}
use Rattle.frz_ways.proofs.kept_codes.TableFileKeptCodes.read.Goals as goal

pub returns-clause-codes : goal.returns-clause-codes
returns-clause-codes g c =
    gather_read c.read_codes.result
    (told_codes c.args.self.now c.args.side (g.S.Store.files c.args.store.now)) c.args.side
    (table_size c.args.self.now) c.args.list.now.items c.read_codes.new.codes.items
    c.requires.within c.requires.apart c.read_codes.ensures.read c.read_codes.ensures.codes
