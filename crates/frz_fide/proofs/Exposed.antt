-- A man that may not expose its king moves safely.
use Rattle.std.proofs.Common.{◌≡◌, ℕ, Bool, true, false, cond, ◌&&◌, not, ap, sym, ◌∙◌, refl, Option, None, Some, slice_set}
use Rattle.std.specs.Prelude.{◌==◌, is_some}
use Rattle.std.proofs.lemmas.Bool.{and_right, or_parts, and_parts}
use Rattle.frz_board.specs.declared.man.Kind.{Kind}
use Rattle.frz_board.specs.declared.man.Kind.TheVariants.{King, Queen, Rook, Bishop, Knight, Pawn}
use Rattle.frz_board.specs.declared.man.Man.{Man}
use Rattle.frz_board.specs.Men.{other_of, same_colour, is_man_of, man_of_cell, cell_of_man, is_pawn}
use Rattle.frz_board.specs.Boards.{Board, man_on, holds}
use Rattle.frz_board.specs.Attacks.{pawn_reaches, is_in_check}
use Rattle.frz_board.specs.Moving.{Step}
use Rattle.frz_board.proofs.Lemmas.{no_new_check}
use Rattle.frz_fide.specs.Exposing.{is_king, moves_apart, is_bared, may_expose}
use Rattle.frz_fide.specs.Legal.{goes, promotes, is_target, arrives, beside_on_file, target_after, can_go, man_goes, after, after_man}
use Rattle.frz_fide.proofs.Colours.{same_side}
use Rattle.frz_fide.proofs.Standing.{arrives_own, arrives_colour}
use Rattle.frz_fide.proofs.Colours.{own_colour}
use Rattle.frz_fide.proofs.Kings.{king_test, same_king}

-- without a target nothing is captured en passant
no_taking : (k : Kind) (target : Option ℕ) (x : Bool) (b : ℕ) →
    (is_pawn k && is_some target) ≡ false → (is_pawn k && (x && is_target target b)) ≡ false
no_taking k None x b h = and_right (is_pawn k) (x && false) (and_right x false refl)
no_taking Pawn (Some t) x b h = cc
no_taking King (Some t) x b h = refl
no_taking Queen (Some t) x b h = refl
no_taking Rook (Some t) x b h = refl
no_taking Bishop (Some t) x b h = refl
no_taking Knight (Some t) x b h = refl

pub leaves_safely : (p : Board) (man : Man) (m : Step) → man_on p m.from ≡ Some man →
    can_go p m ≡ true → may_expose p man m.from ≡ false → is_in_check (after p m) p.turn ≡ false
leaves_safely p man m on can hidden =
    let parts = or_parts (moves_apart p man) (is_bared p m.from) hidden in
    let apart = or_parts (is_king man.kind) (is_pawn man.kind && is_some p.ep) parts.0 in
    let way = and_parts (holds p p.turn m.from && not (holds p p.turn m.to))
    (man_goes p (man_on p m.from) m) can in
    let own : same_colour man.colour p.turn ≡ true = ap (is_man_of p.turn) (sym on)
    ∙ (and_parts (holds p p.turn m.from) (not (holds p p.turn m.to)) way.0).0 in
    let side = same_side man.colour p.turn own in
    let promo = (and_parts (goes p man.colour man.kind m.from m.to)
    (promotes man.colour man.kind m.to m.promo)
    (ap (λ o. man_goes p o m) (sym on) ∙ way.1)).1 in
    let arrival = cell_of_man (arrives man m.promo) in
    let comes : is_man_of p.turn (man_of_cell arrival) ≡ true =
    ap (is_man_of p.turn) (arrives_own man m.promo) ∙ ap (λ c. same_colour c p.turn)
    (arrives_colour man m.promo ∙ side) ∙ own_colour p.turn in
    let piece : (arrival == cell_of_man (record { colour = p.turn; kind = King })) ≡ false =
    king_test (arrives man m.promo).colour (arrives man m.promo).kind p.turn
    ∙ ap (λ x. x && same_colour (arrives man m.promo).colour p.turn)
    (same_king man.colour man.kind m.to m.promo man.colour promo ∙ apart.0) in
    let bare : Board = record {
      cells = slice_set p.cells m.from 0;
      turn = other_of p.turn;
      ep = target_after p man m;
    } in
    let moved = slice_set bare.cells m.to arrival in
    ap (λ o. is_in_check (after_man p o m) p.turn) on
    ∙ ap (λ t. is_in_check
    (record bare { cells = cond t (slice_set moved (beside_on_file m.from m.to) 0) moved })
    p.turn) (no_taking man.kind p.ep (pawn_reaches man.colour m.from m.to) m.to apart.1)
    ∙ no_new_check bare p.turn m.to arrival comes piece parts.1
