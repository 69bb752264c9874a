use Rattle.std.proofs.Common.{◌≡◌, map}
use Rattle.frz_exits.specs.Books.{first_value as line_value}
use Rattle.frz_backs.specs.FileOn.{loaded_back}
use Rattle.frz_backs.specs.Values.{first_value}
use Rattle.frz_backs.proofs.FirstValue.{told_from}
use Rattle.frz_backs.proofs.book.AtlasBook.told.Given as goal

-- no table before this one has the position
abbrev pub invariant-loop-back : goal.invariant-loop-back
invariant-loop-back l =
    first_value l.self.counts (line_value l.self.behind.now l.q) (map loaded_back l.self.backs.now)
    l.q
    ≡ told_from l.self.counts (line_value l.self.behind.now l.q) l.back-index l.self.backs.now l.q
