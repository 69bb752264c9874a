-- A written text is read as the position.
use Rattle.std.proofs.Common.{◌≡◌, ℕ, ◌+◌, ◌-◌, ◌*◌, ◌<◌, Bool, true, false, cond, not, List, [], ◌∷◌, Option, None, Some, refl, ap, sym, subst, ◌∙◌, arith}
use Rattle.std.specs.Prelude.{Ok, Err, codes, ◌==◌, ◌&&◌, nat_le}
use Rattle.std.specs.Str.{bytes_eq}
use Rattle.std.proofs.lemmas.Bool.{eqb-true, le-leb, and_parts, and_from, and_right}
use Rattle.frz_board.specs.declared.man.Colour.{Colour}
use Rattle.frz_board.specs.declared.man.Colour.TheVariants.{White, Black}
use Rattle.frz_board.specs.Squares.{rank_of}
use Rattle.frz_board.specs.Men.{other_of}
use Rattle.frz_board.specs.Boards.{Board, is_empty, has}
use Rattle.frz_board.specs.declared.man.Kind.TheVariants.{Pawn}
use Rattle.frz_board.specs.EnPassant.{ahead, has_passed, has_pawn_beside, has_target_in_place, is_passed, is_passing_rank, target_stands}
use Rattle.frz_board.specs.Shapes.{shape_of, has_kings, has_pawns_inside, has_few_men}
use Rattle.frz_board.specs.Texts.{file_letter, rank_digit}
use Rattle.frz_board.proofs.Lemmas.{other_other}
use Rattle.frz_squares.proofs.Lemmas.{same_not}
use Rattle.frz_fide.specs.declared.validity.Invalid.TheVariants.{OpponentInCheck}
use Rattle.frz_fide.specs.Valid.{IsValid, safety_of, validity_of}
use Rattle.frz_words.specs.Squares.{square_word}
use Rattle.frz_fen.specs.declared.fault.FenFault.TheVariants.{EpSquare as WrongSquare}
use Rattle.frz_fen.specs.Fields.{FieldTexts, named, named_fields}
use Rattle.frz_words.specs.Words.{has_bytes}
use Rattle.frz_fen.specs.Placement.{ranks}
use Rattle.frz_fen.specs.Reading.{accepted, checked, fen_of, kept, placed, placement_of, target_of, target_on, turn_of, with_kept}
use Rattle.frz_fen.specs.Writing.{fen_text, placement_text, target_text, turn_text}
use Rattle.frz_fen.proofs.Meaning.{all_right}
use Rattle.frz_fen.proofs.WholeTexts.{AreRows, fen_fields, lacks, placement_cells, placement_right}

are_rows : (p : Board) → IsValid p → AreRows p.cells
are_rows p v = record { size = v.fits.size; fits = v.fits.men }

-- the side to move
turn_read : (turn : Colour) → Ok turn ≡ turn_of (turn_text turn)
turn_read White = refl
turn_read Black = refl

turn_lacks : (turn : Colour) → lacks 32 (turn_text turn) ≡ true
turn_lacks White = refl
turn_lacks Black = refl

turn_bytes : (turn : Colour) → has_bytes (turn_text turn) ≡ true
turn_bytes White = refl
turn_bytes Black = refl

-- the target
two_are_no_dash : (x y : ℕ) → bytes_eq (x ∷ y ∷ []) (codes "-") ≡ false
two_are_no_dash x y = and_right (x == 45) false refl

square_read : (t : ℕ) → t < 64 → square_word (file_letter t ∷ rank_digit t ∷ []) ≡ Some t
square_read t l =
    ap (λ (x : Bool). cond x (Some (8 * (rank_digit t - 49) + (file_letter t - 97))) None)
    (and_from (nat_le 97 (file_letter t) && nat_le (file_letter t) 104)
    (nat_le 49 (rank_digit t) && nat_le (rank_digit t) 56)
    (and_from (nat_le 97 (file_letter t)) (nat_le (file_letter t) 104)
    (le-leb 97 (file_letter t) (omega arith)) (le-leb (file_letter t) 104 (omega arith)))
    (and_from (nat_le 49 (rank_digit t)) (nat_le (rank_digit t) 56)
    (le-leb 49 (rank_digit t) (omega arith)) (le-leb (rank_digit t) 56 (omega arith))))
    ∙ ap (λ (n : ℕ). Some n) (back t l)
  where
    back : (k : ℕ) → k < 64 → 8 * (rank_digit k - 49) + (file_letter k - 97) ≡ k
    back k m = omega arith

passing_on_board : (c : Colour) (t : ℕ) → is_passing_rank c t ≡ true → t < 64
passing_on_board White t h = let e = eqb-true (rank_of t) 2 h in omega arith
passing_on_board Black t h = let e = eqb-true (rank_of t) 5 h in omega arith

passed_rank : (p : Board) (c : Colour) (t : ℕ) → is_passed p c t ≡ true → is_passing_rank c t ≡ true
passed_rank p c t h =
    (and_parts (is_passing_rank c t) (is_empty p t && is_empty p (ahead (other_of c) t))
    (and_parts (is_passing_rank c t && (is_empty p t && is_empty p (ahead (other_of c) t)))
    (has p c Pawn (ahead c t))
    (and_parts (has_passed p c t) (has_pawn_beside p (other_of c) (ahead c t)) h).0).0).0

target_read : (p : Board) (o : Option ℕ) → target_stands p o ≡ true →
    Ok o ≡ target_of p.turn (target_text o)
target_read p None h = refl
target_read p (Some t) h =
    let rank = passed_rank p (other_of p.turn) t h in
    sym
    (ap (λ (x : Bool). cond x (Ok None)
    (target_on p.turn (square_word (file_letter t ∷ rank_digit t ∷ []))))
    (two_are_no_dash (file_letter t) (rank_digit t))
    ∙ ap (target_on p.turn) (square_read t (passing_on_board (other_of p.turn) t rank))
    ∙ ap (λ (x : Bool). cond x (Ok (Some t)) (Err WrongSquare)) rank)

target_lacks : (o : Option ℕ) → lacks 32 (target_text o) ≡ true
target_lacks None = refl
target_lacks (Some t) =
    and_from (not (file_letter t == 32)) (lacks 32 (rank_digit t ∷ []))
    (same_not (file_letter t) 32 (λ e. omega arith))
    (and_from (not (rank_digit t == 32)) true (same_not (rank_digit t) 32 (λ e. omega arith)) refl)

target_bytes : (o : Option ℕ) → has_bytes (target_text o) ≡ true
target_bytes None = refl
target_bytes (Some t) = refl

-- a target in place is kept
kept_busy : (x : Bool) (t : ℕ) → cond (x && false) None (Some t) ≡ Some t
kept_busy true t = refl
kept_busy false t = refl

kept_same : (p : Board) (o : Option ℕ) → target_stands p o ≡ true → kept p o ≡ o
kept_same p None h = refl
kept_same p (Some t) h =
    let parts = and_parts (has_passed p (other_of p.turn) t)
    (has_pawn_beside p (other_of (other_of p.turn)) (ahead (other_of p.turn) t)) h in
    let beside : has_pawn_beside p p.turn (ahead (other_of p.turn) t) ≡ true =
    subst (λ (c : Colour). has_pawn_beside p c (ahead (other_of p.turn) t) ≡ true)
    (other_other p.turn) parts.1 in
    ap (λ (x : Bool). cond (has_passed p (other_of p.turn) t && not x) None (Some t)) beside
    ∙ kept_busy (has_passed p (other_of p.turn) t) t

target_stands_there : (p : Board) → has_target_in_place p ≡ true → target_stands p p.ep ≡ true
unfolding has_target_in_place
target_stands_there p h = h

-- a valid position is accepted
shape_ok : (p : Board) → has_kings p ≡ true → has_pawns_inside p ≡ true → has_few_men p ≡ true →
    has_target_in_place p ≡ true → shape_of p ≡ Ok tt
shape_ok p k w m t = rw (k, w, m, t) refl

valid_ok : (p : Board) → IsValid p → validity_of p ≡ Ok tt
valid_ok p v =
    ap (safety_of p) (shape_ok p v.kings v.pawns v.men v.target)
    ∙ ap (λ (x : Bool). cond x (Err OpponentInCheck) (Ok tt)) v.safe

checked_same : (p : Board) → IsValid p → checked (with_kept p) ≡ Ok p
checked_same p v =
    let same : with_kept p ≡ p = ap (λ (o : Option ℕ). record p { ep = o })
    (kept_same p p.ep (target_stands_there p v.target)) in
    ap checked same ∙ ap (accepted p) (valid_ok p v)

-- the placement
placement_read : (p : Board) → IsValid p → Ok p.cells ≡ placement_of (placement_text p.cells)
placement_read p v =
    sym
    (ap (placed (ranks (placement_text p.cells))) (placement_right p.cells (are_rows p v))
    ∙ ap (λ (xs : List ℕ). Ok xs) (placement_cells p.cells (are_rows p v)))

abbrev texts_of : Board → FieldTexts
texts_of p = record {
  placement = placement_text p.cells;
  turn = turn_text p.turn;
  castling = 45 ∷ [];
  target = target_text p.ep;
  halfmove = Some (48 ∷ []);
  fullmove = Some (49 ∷ []);
}

fields_read : (p : Board) → IsValid p → named_fields (fen_text p) ≡ Some (texts_of p)
unfolding named
fields_read p v =
    ap named (fen_fields p (are_rows p v) (turn_lacks p.turn) (turn_bytes p.turn)
    (target_lacks p.ep) (target_bytes p.ep))

pub reads_back : (p : Board) → IsValid p → fen_of (fen_text p) ≡ Ok p
reads_back p v =
    sym
    (all_right (fen_text p) (texts_of p) p.cells p.turn tt tt p.ep (fields_read p v)
    (placement_read p v) (turn_read p.turn) refl
    (target_read p p.ep (target_stands_there p v.target)) refl)
    ∙ checked_same p v
