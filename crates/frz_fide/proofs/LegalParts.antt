-- A legal move, part by part.
use Rattle.std.proofs.Common.{◌≡◌, refl, true, false, ◌&&◌, not, Option, None, Some}
use Rattle.std.proofs.lemmas.Bool.{not-true, and_parts}
use Rattle.frz_board.specs.Attacks.{is_in_check}
use Rattle.frz_board.specs.Boards.{Board, man_on, holds}
use Rattle.frz_board.specs.Men.{is_man_of, same_colour}
use Rattle.frz_board.specs.Moving.{Step}
use Rattle.frz_fide.specs.Legal.{is_legal, can_go, man_goes, goes, promotes, after}
use Rattle.frz_board.specs.declared.man.Man.{Man}
use Rattle.frz_fide.proofs.Colours.{same_side}

pub record Move (p : Board) (m : Step) : Type 0 where
  pub man : Man
  pub on : man_on p m.from ≡ Some man
  pub own : man.colour ≡ p.turn
  pub free : holds p p.turn m.to ≡ false
  pub way : goes p man.colour man.kind m.from m.to ≡ true
  pub promo : promotes man.colour man.kind m.to m.promo ≡ true
  pub safe : is_in_check (after p m) p.turn ≡ false

facts_of : (p : Board) (m : Step) (o : Option Man) → man_on p m.from ≡ o →
    ((is_man_of p.turn o && not (holds p p.turn m.to)) && man_goes p o m) ≡ true →
    is_in_check (after p m) p.turn ≡ false → Move p m
facts_of p m None e h s = absurd cc
facts_of p m (Some man) e h s =
    let parts = and_parts (same_colour man.colour p.turn && not (holds p p.turn m.to))
    (goes p man.colour man.kind m.from m.to && promotes man.colour man.kind m.to m.promo) h in
    let sides = and_parts (same_colour man.colour p.turn) (not (holds p p.turn m.to)) parts.0 in
    let ways = and_parts (goes p man.colour man.kind m.from m.to)
    (promotes man.colour man.kind m.to m.promo) parts.1 in
    record {
      man = man;
      on = e;
      own = same_side man.colour p.turn sides.0;
      free = not-true (holds p p.turn m.to) sides.1;
      way = ways.0;
      promo = ways.1;
      safe = s;
    }

pub facts : (p : Board) (m : Step) → is_legal p m ≡ true → Move p m
unfolding is_legal
facts p m h =
    let parts = and_parts (can_go p m) (not (is_in_check (after p m) p.turn)) h in
    facts_of p m (man_on p m.from) refl parts.0 (not-true (is_in_check (after p m) p.turn) parts.1)
