-- Where no forbid line is of the side, no move is forbidden to it.
use Rattle.std.proofs.Common.{◌≡◌, false, ◌&&◌, List, [], ◌∷◌, refl}
use Rattle.std.specs.List.{list_any}
use Rattle.std.proofs.lemmas.Bool.{and_left, or_from, or_parts}
use Rattle.frz_board.specs.Boards.{Board}
use Rattle.frz_board.specs.Men.{same_colour}
use Rattle.frz_board.specs.Moving.{Step}
use Rattle.frz_board.specs.declared.man.Colour.{Colour}
use Rattle.frz_exits.specs.Forbidding.{covers, is_forbidden}
use Rattle.frz_sets.specs.declared.forbid.Forbid.{Forbid}

pub none_forbidden : (lines : List Forbid) (side : Colour) (p : Board) (m : Step) →
    list_any (λ line. same_colour line.colour side) lines ≡ false →
    is_forbidden lines side p m ≡ false
none_forbidden [] side p m e = refl
none_forbidden (line ∷ lines) side p m e =
    let both = or_parts (same_colour line.colour side)
    (list_any (λ x. same_colour x.colour side) lines) e in
    or_from (same_colour line.colour side && covers line p m) (is_forbidden lines side p m)
    (and_left (same_colour line.colour side) (covers line p m) both.0)
    (none_forbidden lines side p m both.1)
