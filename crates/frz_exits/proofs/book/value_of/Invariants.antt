use Rattle.std.proofs.Common.{◌≡◌, drop}
use Rattle.frz_exits.specs.Books.{first_value}
use Rattle.frz_exits.proofs.book.value_of.Given as goal

-- the lines before this one do not hold
abbrev pub invariant-loop-line : goal.invariant-loop-line
invariant-loop-line l = first_value l.lines l.q ≡ first_value (drop l.line-index l.lines) l.q
