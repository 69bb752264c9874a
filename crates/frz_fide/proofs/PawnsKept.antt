-- After a legal move no pawn stands on rank 1 or 8.
use Rattle.std.proofs.Common.{◌≡◌, ℕ, ◌<◌, refl, ap, ◌∙◌, Bool, true, false, ◌&&◌, ◌||◌, not, arith, Option, None, Some, slice_index}
use Rattle.std.proofs.Math.Bool.{or-false}
use Rattle.std.specs.Prelude.{◌==◌, if◌then◌else◌}
use Rattle.std.specs.List.{list_all}
use Rattle.std.proofs.lemmas.Bool.Decides.{nat_tests}
use Rattle.std.proofs.lemmas.Bool.{not-true, and_right}
use Rattle.frz_board.specs.Boards.{Board, holds, is_empty}
use Rattle.frz_board.specs.Men.{cell_of_man, other_of, is_pawn}
use Rattle.frz_board.specs.Moving.{Step}
use Rattle.frz_board.specs.Shapes.{has_pawns_inside, is_end}
use Rattle.frz_board.specs.Squares.{squares, files_apart, is_forward}
use Rattle.frz_fide.specs.Legal.{goes, promotes, is_last, is_home, passed_over, is_target, arrives, cells_after}
use Rattle.frz_fide.specs.Valid.{IsValid}
use Rattle.frz_board.specs.declared.man.Colour.{Colour}
use Rattle.frz_board.specs.declared.man.Colour.TheVariants.{White, Black}
use Rattle.frz_board.specs.declared.man.Kind.{Kind}
use Rattle.frz_board.specs.declared.man.Kind.TheVariants.{King, Queen, Rook, Bishop, Knight, Pawn}
use Rattle.frz_squares.proofs.Lemmas.{each_square, all_squares}
use Rattle.frz_fide.proofs.LegalParts.{Move}
use Rattle.frz_fide.proofs.Room.{forward_only}
use Rattle.frz_fide.proofs.CellsAfter.{arrival, lf, none_then}

-- the cell of a pawn of this side
abbrev pub pawn_cell : Colour → ℕ
pawn_cell c = cell_of_man (record { colour = c; kind = Pawn })

abbrev pub is_pawn_cell : ℕ → Bool
is_pawn_cell x = x == pawn_cell White || x == pawn_cell Black

-- a man has the cell of its own side's pawn where it is a pawn, and never that of the other side's
pub pawn_tests : (c : Colour) (k : Kind) →
    ((cell_of_man (record { colour = c; kind = k }) == pawn_cell c) ≡ is_pawn k)
    × ((cell_of_man (record { colour = c; kind = k }) == pawn_cell (other_of c)) ≡ false)
pawn_tests White King = (refl, refl)
pawn_tests White Queen = (refl, refl)
pawn_tests White Rook = (refl, refl)
pawn_tests White Bishop = (refl, refl)
pawn_tests White Knight = (refl, refl)
pawn_tests White Pawn = (refl, refl)
pawn_tests Black King = (refl, refl)
pawn_tests Black Queen = (refl, refl)
pawn_tests Black Rook = (refl, refl)
pawn_tests Black Bishop = (refl, refl)
pawn_tests Black Knight = (refl, refl)
pawn_tests Black Pawn = (refl, refl)

pawn_test : (c : Colour) (k : Kind) →
    is_pawn_cell (cell_of_man (record { colour = c; kind = k })) ≡ is_pawn k
pawn_test White k =
    let tests = pawn_tests White k in
    ap (λ b. b || cell_of_man (record { colour = White; kind = k }) == pawn_cell Black) tests.0
    ∙ ap (λ b. is_pawn k || b) tests.1 ∙ or-false (is_pawn k)
pawn_test Black k =
    let tests = pawn_tests Black k in
    ap (λ b. b || cell_of_man (record { colour = Black; kind = k }) == pawn_cell Black) tests.1
    ∙ tests.0

-- a pawn moves one or two ranks forward
pawn_forward : (p : Board) (c : Colour) (a b : ℕ) → goes p c Pawn a b ≡ true →
    (is_forward c 1 a b || is_forward c 2 a b) ≡ true
pawn_forward p c a b =
    forward_only (files_apart a b == 1) (is_forward c 1 a b) (holds p (other_of c) b)
    (files_apart a b == 0) (is_empty p b) (is_home c a) (is_forward c 2 a b)
    (is_empty p b && is_empty p (passed_over a b)) (is_target p.ep b)

pub not_last : (l : Bool) → (true && (if l then false else true)) ≡ true → l ≡ false
not_last true h = cc
not_last false h = refl

-- where a pawn arrives it is not on an end
pawn_rank : (c : Colour) (a b : ℕ) → a < 64 → (is_forward c 1 a b || is_forward c 2 a b) ≡ true →
    is_last c b ≡ false → is_end b ≡ false
pawn_rank White a b la h l = grind (arith, nat_tests)
pawn_rank Black a b la h l = grind (arith, nat_tests)

no_end_pawn : (p : Board) (c : Colour) (k : Kind) (a b : ℕ) (promo : Option Kind) → a < 64 →
    goes p c k a b ≡ true → promotes c k b promo ≡ true →
    (is_end b && is_pawn (arrives (record { colour = c; kind = k }) promo).kind) ≡ false
no_end_pawn p c King a b None la g h = and_right (is_end b) false refl
no_end_pawn p c Queen a b None la g h = and_right (is_end b) false refl
no_end_pawn p c Rook a b None la g h = and_right (is_end b) false refl
no_end_pawn p c Bishop a b None la g h = and_right (is_end b) false refl
no_end_pawn p c Knight a b None la g h = and_right (is_end b) false refl
no_end_pawn p c Pawn a b None la g h =
    ap (λ x. x && true) (pawn_rank c a b la (pawn_forward p c a b g) (not_last (is_last c b) h))
no_end_pawn p c King a b (Some j) la g h = cc
no_end_pawn p c Queen a b (Some j) la g h = cc
no_end_pawn p c Rook a b (Some j) la g h = cc
no_end_pawn p c Bishop a b (Some j) la g h = cc
no_end_pawn p c Knight a b (Some j) la g h = cc
no_end_pawn p c Pawn a b (Some King) la g h = cc
no_end_pawn p c Pawn a b (Some Queen) la g h = and_right (is_end b) false refl
no_end_pawn p c Pawn a b (Some Rook) la g h = and_right (is_end b) false refl
no_end_pawn p c Pawn a b (Some Bishop) la g h = and_right (is_end b) false refl
no_end_pawn p c Pawn a b (Some Knight) la g h = and_right (is_end b) false refl
no_end_pawn p c Pawn a b (Some Pawn) la g h = cc

module _ (p : Board) (m : Step) (v : IsValid p) (lt : m.to < 64) (f : Move p m) where
  no_end_arrival : (is_end m.to && is_pawn_cell (arrival p m v lt f)) ≡ false
  no_end_arrival =
      ap (λ x. is_end m.to && x)
      (pawn_test (arrives f.man m.promo).colour (arrives f.man m.promo).kind)
      ∙ no_end_pawn p f.man.colour f.man.kind m.from m.to m.promo (lf p m v lt f) f.way f.promo

  pawn_inside : (s : ℕ) → not (is_end s && is_pawn_cell (slice_index p.cells s)) ≡ true →
      not (is_end s && is_pawn_cell (slice_index (cells_after p f.man m) s)) ≡ true
  pawn_inside s h =
      ap not (none_then p m v lt f (λ x. is_end s && is_pawn_cell x) s
      (and_right (is_end s) false refl) (not-true _ h)
      (λ e. ap (λ b. is_end b && is_pawn_cell (arrival p m v lt f)) e ∙ no_end_arrival))

  pub pawns_kept : list_all
      (λ s. not (is_end s && is_pawn_cell (slice_index (cells_after p f.man m) s))) squares ≡ true
  unfolding has_pawns_inside
  pawns_kept =
      all_squares (λ s. not (is_end s && is_pawn_cell (slice_index (cells_after p f.man m) s)))
      (λ s l. pawn_inside s
      (each_square (λ k. not (is_end k && is_pawn_cell (slice_index p.cells k))) v.pawns s l))
