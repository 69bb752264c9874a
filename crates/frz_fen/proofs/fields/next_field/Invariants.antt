use Rattle.std.proofs.Common.{◌≡◌, length}
use Rattle.frz_fen.specs.Fields.{fields}
use Rattle.frz_fen.proofs.fields.next_field.Given as goal

abbrev pub invariant-loop-part : goal.invariant-loop-part
invariant-loop-part l = fields l.rest ≡ fields l.fn.text

abbrev pub decreases-loop-part : goal.decreases-loop-part
decreases-loop-part l = length l.rest
