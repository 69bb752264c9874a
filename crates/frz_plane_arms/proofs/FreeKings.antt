-- Which steps of a king the forbid lines cover.
use Rattle.std.proofs.Common.{◌≡◌, ℕ, ◌<◌, Bool, true, false, not, ◌&&◌, ◌||◌, List, length, slice_index, refl, ap, sym, ◌∙◌}
use Rattle.std.specs.Prelude.{◌==◌}
use Rattle.std.specs.List.{list_any}
use Rattle.std.proofs.lemmas.Bool.{not-true, not_from_false}
use Rattle.frz_board.specs.declared.man.Colour.{Colour}
use Rattle.frz_board.specs.declared.man.Colour.TheVariants.{White, Black}
use Rattle.frz_board.specs.declared.man.Kind.{Kind}
use Rattle.frz_board.specs.declared.man.Kind.TheVariants.{King, Queen, Rook, Bishop, Knight, Pawn}
use Rattle.frz_board.specs.Boards.{Board, has, is_empty}
use Rattle.frz_board.specs.Men.{cell_of_man, same_colour}
use Rattle.frz_board.specs.Moving.{Step}
use Rattle.frz_squares.specs.SquareSets.{has_square}
use Rattle.frz_fide.specs.Legal.{takes_in_passing}
use Rattle.frz_sets.specs.declared.forbid.Only.{Only}
use Rattle.frz_sets.specs.declared.forbid.Only.TheVariants.{Any, Capture, Promotion}
use Rattle.frz_sets.specs.declared.forbid.Forbid.{Forbid}
use Rattle.frz_exits.specs.Forbidding.{covers, is_en_passant, is_forbidden, is_such}
use Rattle.frz_king_planes.specs.Kings.{are_free, king_cell, king_square, with_kings}
use Rattle.frz_king_planes.proofs.Lemmas.{crowned}
use Rattle.frz_pair_moves.specs.Kings.{king_step}
use Rattle.frz_plane_arms.specs.Binding.{is_binding, is_king, may_go, names_king}
use Rattle.frz_plane_arms.proofs.FreeMen.{any_alike}

-- a king's cell is that of a king of his colour alone
kings_cell : (c d : Colour) (k : Kind) →
    (same_colour d c && (king_cell c == cell_of_man (record { colour = d; kind = k })))
    ≡ (same_colour d c && is_king k)
kings_cell White White King = refl
kings_cell White White Queen = refl
kings_cell White White Rook = refl
kings_cell White White Bishop = refl
kings_cell White White Knight = refl
kings_cell White White Pawn = refl
kings_cell Black Black King = refl
kings_cell Black Black Queen = refl
kings_cell Black Black Rook = refl
kings_cell Black Black Bishop = refl
kings_cell Black Black Knight = refl
kings_cell Black Black Pawn = refl
kings_cell White Black k = refl
kings_cell Black White k = refl

no_pawn : (c : Colour) → (king_cell c == cell_of_man (record { colour = c; kind = Pawn })) ≡ false
no_pawn White = refl
no_pawn Black = refl

-- the parts of a test in another order
mixed : (k f t n : Bool) → (k && (f && t) && n) ≡ (((k && n) && t) && f)
mixed true true true true = refl
mixed true true true false = refl
mixed true true false true = refl
mixed true true false false = refl
mixed true false true true = refl
mixed true false true false = refl
mixed true false false true = refl
mixed true false false false = refl
mixed false f t n = refl

shuffled : (same h k f t s n : Bool) → (same && h) ≡ (same && k) → s ≡ n →
    (same && (h && (f && t) && s)) ≡ (((same && (k && n)) && t) && f)
shuffled false h k f t s n e d = refl
shuffled true h k f t s n e d =
    ap (λ x. x && (f && t) && s) e ∙ ap (λ x. k && (f && t) && x) d ∙ mixed k f t n

module _ (p : Board) (a b s : ℕ) (size : length p.cells ≡ 64) (la : a < 64) (lb : b < 64)
    (free : are_free p a b ≡ true) (captures : Bool)
    (arrives : is_empty (with_kings p a b) s ≡ not captures) where
  abbrev q : Board
  q = with_kings p a b

  abbrev m : Step
  m = king_step p a b s

  own : slice_index q.cells (king_square p.turn a b) ≡ king_cell p.turn
  own = (crowned p a b p.turn size la lb free).own

  no_passing : is_en_passant q m ≡ false
  no_passing =
      let takes : Bool = takes_in_passing q p.turn (king_square p.turn a b) s in
      ap (λ x. (x == cell_of_man (record { colour = p.turn; kind = Pawn })) && takes) own
      ∙ ap (λ t. t && takes) (no_pawn p.turn)

  capture : (t : Bool) → is_empty q s ≡ not t → is_such Capture q m ≡ t
  capture true e =
      ap (λ x. not x || is_en_passant q m) e
  capture false e =
      ap (λ x. not x || is_en_passant q m) e ∙ no_passing

  such : (only : Only) → is_such only q m ≡ names_king only captures
  such Any = refl
  such Capture = capture captures arrives
  such Promotion = refl

  covered : (line : Forbid) → (same_colour line.colour p.turn && covers line q m)
      ≡ ((is_binding p.turn captures line && has_square line.to s)
      && has_square line.from (king_square p.turn a b))
  unfolding covers
  covered line =
      shuffled (same_colour line.colour p.turn)
      (has q line.colour line.kind (king_square p.turn a b)) (is_king line.kind)
      (has_square line.from (king_square p.turn a b)) (has_square line.to s)
      (is_such line.only q m) (names_king line.only captures)
      (ap (λ x. same_colour line.colour p.turn
      && (x == cell_of_man (record { colour = line.colour; kind = line.kind }))) own
      ∙ kings_cell p.turn line.colour line.kind) (such line.only)

  forbidden_is : (lines : List Forbid) → is_forbidden lines p.turn q m
      ≡ list_any (λ line. (is_binding p.turn captures line && has_square line.to s)
      && has_square line.from (king_square p.turn a b)) lines
  forbidden_is lines =
      any_alike (λ (line : Forbid). same_colour line.colour p.turn && covers line q m)
      (λ (line : Forbid). (is_binding p.turn captures line && has_square line.to s)
      && has_square line.from (king_square p.turn a b)) covered lines

  -- they forbid the king exactly the steps that he may not go by the lines that bind him
  module _ (lines : List Forbid) where
    abbrev bound : Bool
    bound =
        list_any (λ (line : Forbid). (is_binding p.turn captures line && has_square line.to s)
        && has_square line.from (king_square p.turn a b)) lines

    pub not_forbidden : may_go lines p.turn captures (king_square p.turn a b) s ≡ true →
        is_forbidden lines p.turn q m ≡ false
    not_forbidden h = forbidden_is lines ∙ not-true bound h

    pub may_be_gone : is_forbidden lines p.turn q m ≡ false →
        may_go lines p.turn captures (king_square p.turn a b) s ≡ true
    may_be_gone h = not_from_false bound (sym (forbidden_is lines) ∙ h)
