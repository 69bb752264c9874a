-- After a legal move a target is in place.
use Rattle.std.proofs.Common.{◌≡◌, ◌≢◌, ℕ, ◌+◌, ◌/◌, ◌%◌, ◌<◌, refl, ap, sym, ◌∙◌, Bool, true, false, ◌&&◌, not, arith, Option, None, Some, slice_index}
use Rattle.std.specs.Prelude.{◌==◌, if◌then◌else◌}
use Rattle.std.proofs.lemmas.Bool.Decides.{nat_tests}
use Rattle.std.proofs.lemmas.Bool.{eqb-true, eq-eqb, and_parts, and_from}
use Rattle.frz_board.specs.Boards.{Board, has, is_empty}
use Rattle.frz_board.specs.EnPassant.{has_pawn_beside, target_stands, ahead, is_passed, is_passing_rank}
use Rattle.frz_board.specs.Men.{cell_of_man, other_of, is_pawn}
use Rattle.frz_board.specs.Moving.{Step, is_promotion}
use Rattle.frz_board.specs.Squares.{rank_of, files_apart, ranks_apart, is_forward}
use Rattle.frz_fide.specs.Legal.{advances, promotes, is_last, is_home, passed_over, arrives, beside_on_file, cells_after}
use Rattle.frz_fide.specs.Valid.{IsValid}
use Rattle.frz_board.specs.declared.man.Colour.{Colour}
use Rattle.frz_board.specs.declared.man.Colour.TheVariants.{White, Black}
use Rattle.frz_board.specs.declared.man.Kind.{Kind}
use Rattle.frz_board.specs.declared.man.Kind.TheVariants.{King, Queen, Rook, Bishop, Knight, Pawn}
use Rattle.frz_squares.proofs.Lemmas.{some_square, any_square}
use Rattle.frz_board.proofs.Lemmas.{other_other}
use Rattle.frz_fide.proofs.LegalParts.{Move}
use Rattle.frz_fide.proofs.Cells.{cell_then}
use Rattle.frz_fide.proofs.Standing.{arrived, left, stays_by}
use Rattle.frz_fide.proofs.CellsAfter.{takes, beside, arrival, next, cell_there, none_then}

not_beside : (a b s : ℕ) → rank_of a ≢ rank_of b → ranks_apart s b ≡ 0 → s ≡ beside_on_file a b → ⊥
not_beside a b s n r e = omega arith

not_there : (s b : ℕ) → files_apart s b ≡ 1 → s ≡ b → ⊥
not_there s b h e = omega (arith, ap (λ x. x % 8) e)

not_left : (a b s : ℕ) → rank_of a ≢ rank_of b → ranks_apart s b ≡ 0 → s ≡ a → ⊥
not_left a b s n r e = omega (arith, ap (λ x. x / 8) e)

-- a two-square advance, by numbers
record Advance (c : Colour) (a b : ℕ) : Type 0 where
  passing : is_passing_rank c (passed_over a b) ≡ true
  back : ahead (other_of c) (passed_over a b) ≡ a
  forth : ahead c (passed_over a b) ≡ b
  inner : is_last c b ≡ false
  apart : passed_over a b ≢ b
  ranks : rank_of a ≢ rank_of b

advance : (c : Colour) (a b : ℕ) → is_home c a ≡ true → (files_apart a b == 0) ≡ true →
    is_forward c 2 a b ≡ true → Advance c a b
advance White a b h i j =
    let home = eqb-true (a / 8) 1 h in let file = eqb-true (files_apart a b) 0 i in
    let far = eqb-true (b / 8) (a / 8 + 2) j in
    let three : b / 8 ≡ 3 = omega arith in
    record {
      passing = eq-eqb (passed_over a b / 8) 2 (omega arith);
      back = omega arith;
      forth = omega arith;
      inner = grind (arith, nat_tests);
      apart = omega arith;
      ranks = omega arith;
    }
advance Black a b h i j =
    let home = eqb-true (a / 8) 6 h in let file = eqb-true (files_apart a b) 0 i in
    let far = eqb-true (a / 8) (b / 8 + 2) j in
    let four : b / 8 ≡ 4 = omega arith in
    record {
      passing = eq-eqb (passed_over a b / 8) 5 (omega arith);
      back = omega arith;
      forth = omega arith;
      inner = grind (arith, nat_tests);
      apart = omega arith;
      ranks = omega arith;
    }

-- a pawn that is not on its last rank arrives as a pawn
pawn_arrives : (c : Colour) (k : Kind) (b : ℕ) (promo : Option Kind) → is_pawn k ≡ true →
    promotes c k b promo ≡ true → is_last c b ≡ false →
    arrives (record { colour = c; kind = k }) promo ≡ record { colour = c; kind = Pawn }
pawn_arrives c Pawn b None k h l = refl
pawn_arrives c Pawn b (Some j) k h l =
    let last = (and_parts (is_promotion (Some j)) (if is_last c b then true else false) h).1 in
    let none = ap (λ x. if x then true else false) l in cc
pawn_arrives c King b promo k h l = cc
pawn_arrives c Queen b promo k h l = cc
pawn_arrives c Rook b promo k h l = cc
pawn_arrives c Bishop b promo k h l = cc
pawn_arrives c Knight b promo k h l = cc

empty_from : (x : ℕ) → not (x == 0) ≡ false → (x == 0) ≡ true
empty_from x h = grind (arith, nat_tests)

module _ (p : Board) (m : Step) (v : IsValid p) (lt : m.to < 64) (f : Move p m) where
  -- a pawn beside the square of arrival stays there
  beside_stays : rank_of m.from ≢ rank_of m.to → (s : ℕ) →
      ((ranks_apart s m.to == 0 && files_apart s m.to == 1) && has p (other_of f.man.colour) Pawn s)
      ≡ true → ((ranks_apart s m.to == 0 && files_apart s m.to == 1) && has (next p m v lt f)
      (other_of f.man.colour) Pawn s) ≡ true
  beside_stays ranks s h =
      let parts = and_parts (ranks_apart s m.to == 0 && files_apart s m.to == 1)
      (has p (other_of f.man.colour) Pawn s) h in
      let places = and_parts (ranks_apart s m.to == 0) (files_apart s m.to == 1) parts.0 in
      let rank = eqb-true (ranks_apart s m.to) 0 places.0 in
      let file = eqb-true (files_apart s m.to) 1 places.1 in
      let same : cell_then p f.man m s ≡ slice_index p.cells s =
      stays_by (takes p m v lt f) (beside p m v lt f) m.to m.from (arrival p m v lt f)
      (slice_index p.cells s) s (λ _ e. not_beside m.from m.to s ranks rank e)
      (λ e. not_there s m.to file e) (λ e. not_left m.from m.to s ranks rank e) in
      and_from _ _ parts.0
      (ap (λ x. x == cell_of_man (record { colour = other_of f.man.colour; kind = Pawn }))
      (cell_there p m v lt f s ∙ same) ∙ parts.1)

  -- a pawn that has advanced two squares beside an enemy pawn has passed its target
  passed : is_pawn f.man.kind ≡ true → advances p f.man.colour m.from m.to ≡ true →
      has_pawn_beside p (other_of f.man.colour) m.to ≡ true →
      is_passed (next p m v lt f) f.man.colour (passed_over m.from m.to) ≡ true
  passed k a b =
      let parts = and_parts
      (is_home f.man.colour m.from
      && (files_apart m.from m.to == 0 && is_forward f.man.colour 2 m.from m.to))
      (is_empty p m.to && is_empty p (passed_over m.from m.to)) a in
      let line = and_parts (is_home f.man.colour m.from)
      (files_apart m.from m.to == 0 && is_forward f.man.colour 2 m.from m.to) parts.0 in
      let ways = and_parts (files_apart m.from m.to == 0) (is_forward f.man.colour 2 m.from m.to)
      line.1 in
      let n = advance f.man.colour m.from m.to line.0 ways.0 ways.1 in
      let over = (and_parts (is_empty p m.to) (is_empty p (passed_over m.from m.to)) parts.1).1 in
      let here : is_empty (next p m v lt f) (passed_over m.from m.to) ≡ true = empty_from _
      (none_then p m v lt f (λ x. not (x == 0)) (passed_over m.from m.to) refl (ap not over)
      (λ e. absurd (n.apart e))) in
      let behind : is_empty (next p m v lt f)
      (ahead (other_of f.man.colour) (passed_over m.from m.to)) ≡ true =
      ap (is_empty (next p m v lt f)) n.back
      ∙ ap (λ x. x == 0) (cell_there p m v lt f m.from ∙ left p m f) in
      let pawn : has (next p m v lt f) f.man.colour Pawn m.to ≡ true =
      eq-eqb (slice_index (cells_after p f.man m) m.to)
      (cell_of_man (record { colour = f.man.colour; kind = Pawn }))
      (cell_there p m v lt f m.to ∙ arrived p m f
      ∙ ap cell_of_man (pawn_arrives f.man.colour f.man.kind m.to m.promo k f.promo n.inner)) in
      let near = some_square
      (λ s. (ranks_apart s m.to == 0 && files_apart s m.to == 1)
      && has p (other_of f.man.colour) Pawn s) b in
      let enemies = any_square
      (λ s. (ranks_apart s m.to == 0 && files_apart s m.to == 1) && has (next p m v lt f)
      (other_of f.man.colour) Pawn s) near.square near.on_board
      (beside_stays n.ranks near.square near.passes) in
      and_from _ _
      (and_from _ _ (and_from _ _ n.passing (and_from _ _ here behind))
      (ap (has (next p m v lt f) f.man.colour Pawn) n.forth ∙ pawn))
      (ap (has_pawn_beside (next p m v lt f) (other_of f.man.colour)) n.forth ∙ enemies)

  target_case : (x y : Bool) → (is_pawn f.man.kind && advances p f.man.colour m.from m.to) ≡ x →
      has_pawn_beside p (other_of f.man.colour) m.to ≡ y →
      target_stands (next p m v lt f) (if x && y then Some (passed_over m.from m.to) else None)
      ≡ true
  target_case true true ex ey =
      let both = and_parts (is_pawn f.man.kind) (advances p f.man.colour m.from m.to) ex in
      ap (λ c. is_passed (next p m v lt f) c (passed_over m.from m.to))
      (other_other p.turn ∙ sym f.own)
      ∙ passed both.0 both.1 ey
  target_case true false ex ey = refl
  target_case false y ex ey = refl

  pub target_kept : target_stands (next p m v lt f) (next p m v lt f).ep ≡ true
  target_kept =
      target_case (is_pawn f.man.kind && advances p f.man.colour m.from m.to)
      (has_pawn_beside p (other_of f.man.colour) m.to) refl refl
