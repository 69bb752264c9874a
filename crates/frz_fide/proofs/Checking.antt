-- The tests of attack and check compute the relations.
use Rattle.std.proofs.Common.{◌≡◌, ℕ, true, ◌&&◌, ap, ◌∙◌, Option, None, Some, slice_index}
use Rattle.std.proofs.lemmas.Bool.{eqb-true, eq-eqb, and_parts, and_from}
use Rattle.frz_board.specs.declared.man.Colour.{Colour}
use Rattle.frz_board.specs.declared.man.Kind.{Kind}
use Rattle.frz_board.specs.declared.man.Kind.TheVariants.{King}
use Rattle.frz_board.specs.declared.man.Man.{Man}
use Rattle.frz_board.specs.Men.{man_of_cell, cell_of_man, other_of, is_man_of}
use Rattle.frz_board.specs.Boards.{Board, man_on, holds, has}
use Rattle.frz_board.specs.Attacks.{attacks, is_attacked, is_in_check}
use Rattle.frz_board.specs.Attacking.{Stands}
use Rattle.frz_squares.proofs.Lemmas.{some_square, any_square}
use Rattle.frz_board.proofs.Lemmas.{cell_back, cell_forth, test_means, means_test}
use Rattle.frz_fide.specs.Checks.{Attacker, Check}
use Rattle.frz_fide.proofs.Colours.{same_side}
use Rattle.frz_fide.proofs.Colours.{own_colour}

pub stands_on : (p : Board) (c : Colour) (k : Kind) (s : ℕ) → Stands p c k s →
    man_on p s ≡ Some (record { colour = c; kind = k })
stands_on p c k s h = ap man_of_cell h ∙ cell_forth c k

-- a man that stands is a man of its side
pub stands_held : (p : Board) (c : Colour) (k : Kind) (s : ℕ) → Stands p c k s → holds p c s ≡ true
stands_held p c k s h = ap (is_man_of c) (stands_on p c k s h) ∙ own_colour c

pub man_of_side : (c : Colour) (o : Option Man) → is_man_of c o ≡ true →
    (k : Kind) × (o ≡ Some (record { colour = c; kind = k }))
man_of_side c None h = absurd cc
man_of_side c (Some man) h =
    let made : Colour → Option Man = λ d. Some (record { colour = d; kind = man.kind }) in
    (man.kind, ap made (same_side man.colour c h))

pub held_stands : (p : Board) (c : Colour) (s : ℕ) → holds p c s ≡ true →
    (k : Kind) × Stands p c k s
held_stands p c s h =
    let w = man_of_side c (man_on p s) h in (w.0, cell_back (slice_index p.cells s) c w.0 w.1)

pub attacked_means : (p : Board) (s : ℕ) (by : Colour) → is_attacked p s by ≡ true → Attacker p by s
attacked_means p s by h =
    let found = some_square (λ a. holds p by a && attacks p a s) h in
    let hit = and_parts (holds p by found.square) (attacks p found.square s) found.passes in
    let man = held_stands p by found.square hit.0 in
    record {
      from = found.square;
      on_board = found.on_board;
      kind = man.0;
      stands = man.1;
      attack = test_means p found.square s hit.1;
    }

pub means_attacked : (p : Board) (s : ℕ) (by : Colour) → Attacker p by s → is_attacked p s by ≡ true
means_attacked p s by a =
    any_square (λ b. holds p by b && attacks p b s) a.from a.on_board
    (and_from (holds p by a.from) (attacks p a.from s)
    (stands_held p by a.kind a.from a.stands) (means_test p a.from s a.attack))

pub check_means : (p : Board) (c : Colour) → is_in_check p c ≡ true → Check p c
check_means p c h =
    let found = some_square (λ s. has p c King s && is_attacked p s (other_of c)) h in
    let both = and_parts (has p c King found.square) (is_attacked p found.square (other_of c))
    found.passes in
    record {
      square = found.square;
      on_board = found.on_board;
      king = eqb-true (slice_index p.cells found.square)
          (cell_of_man (record { colour = c; kind = King })) both.0;
      attacker = attacked_means p found.square (other_of c) both.1;
    }

pub means_check : (p : Board) (c : Colour) → Check p c → is_in_check p c ≡ true
means_check p c h =
    any_square (λ s. has p c King s && is_attacked p s (other_of c)) h.square h.on_board
    (and_from (has p c King h.square) (is_attacked p h.square (other_of c))
    (eq-eqb (slice_index p.cells h.square) (cell_of_man (record { colour = c; kind = King }))
    h.king)
    (means_attacked p h.square (other_of c) h.attacker))
