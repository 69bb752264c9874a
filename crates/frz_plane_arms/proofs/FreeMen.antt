-- Whether forbid lines cover a man's step does not depend on the kings.
use Rattle.std.proofs.Common.{◌≡◌, ◌≢◌, ℕ, ◌<◌, Bool, true, false, not, ◌&&◌, ◌||◌, List, [], ◌∷◌, length, slice_index, refl, ap, sym, ◌∙◌}
use Rattle.std.specs.Prelude.{◌==◌}
use Rattle.std.specs.List.{list_any}
use Rattle.std.proofs.lemmas.Bool.{and_parts, both_ways}
use Rattle.frz_board.specs.declared.man.Colour.{Colour}
use Rattle.frz_board.specs.declared.man.Colour.TheVariants.{White}
use Rattle.frz_board.specs.declared.man.Kind.TheVariants.{Pawn}
use Rattle.frz_board.specs.Boards.{Board, has, holds, is_empty}
use Rattle.frz_board.specs.Lines.{is_between}
use Rattle.frz_board.specs.Men.{cell_of_man, is_man_of, man_of_cell, same_colour}
use Rattle.frz_board.specs.Moving.{Step}
use Rattle.frz_squares.specs.SquareSets.{has_square}
use Rattle.frz_squares.proofs.Lemmas.{not_same}
use Rattle.frz_fide.specs.Legal.{takes_in_passing}
use Rattle.frz_sets.specs.declared.forbid.Only.{Only}
use Rattle.frz_sets.specs.declared.forbid.Only.TheVariants.{Any, Capture, Promotion}
use Rattle.frz_sets.specs.declared.forbid.Forbid.{Forbid}
use Rattle.frz_exits.specs.Forbidding.{covers, is_capture, is_forbidden, is_such}
use Rattle.frz_king_planes.specs.Kings.{are_free, with_kings}
use Rattle.frz_king_planes.proofs.Lemmas.{Crowned, crowned, free_parts}
use Rattle.frz_pair_moves.specs.Ways.{is_on_way, leave_way}

-- two tests that agree on each line
pub any_alike : {X : Type 0} (f g : X → Bool) → ((x : X) → f x ≡ g x) → (xs : List X) →
    list_any f xs ≡ list_any g xs
any_alike f g h [] = refl
any_alike f g h (x ∷ xs) =
    ap (λ t. t || list_any f xs) (h x) ∙ ap (λ t. g x || t) (any_alike f g h xs)

neither : (x y : Bool) → not (x || y) ≡ true → not x ≡ true
neither true y h = h
neither false y h = refl

off_end : (m : Step) (s : ℕ) → not (is_on_way m s) ≡ true → m.to ≢ s
off_end m s h e = not_same s m.to (neither (s == m.to) (is_between m.from s m.to) h) (sym e)

-- no man stands on an empty square
pub not_there : (p : Board) (c : Colour) (s k : ℕ) → slice_index p.cells k ≡ 0 →
    holds p c s ≡ true → s ≢ k
not_there p c s k none h e =
    both_ways (holds p c k) (ap (λ x. is_man_of c (man_of_cell x)) none)
    (ap (holds p c) (sym e) ∙ h)

module _ (p : Board) (m : Step) (a b : ℕ) (size : length p.cells ≡ 64) (la : a < 64) (lb : b < 64)
    (free : are_free p a b ≡ true) (own : holds p p.turn m.from ≡ true)
    (leaves : leave_way m a b ≡ true) where
  abbrev q : Board
  q = with_kings p a b

  w : Crowned p (with_kings p a b) White a b
  w = crowned p a b White size la lb free

  from_same : slice_index q.cells m.from ≡ slice_index p.cells m.from
  from_same =
      let f = free_parts p a b free in
      w.rest m.from (not_there p p.turn m.from a f.white own)
      (not_there p p.turn m.from b f.black own)

  to_same : slice_index q.cells m.to ≡ slice_index p.cells m.to
  to_same =
      let off = and_parts (not (is_on_way m a)) (not (is_on_way m b)) leaves in
      w.rest m.to (off_end m a off.0) (off_end m b off.1)

  capture_same : is_capture q m ≡ is_capture p m
  capture_same =
      let pawn : ℕ = cell_of_man (record { colour = p.turn; kind = Pawn }) in
      let takes : Bool = takes_in_passing p p.turn m.from m.to in
      ap (λ x. not (x == 0) || (slice_index q.cells m.from == pawn && takes)) to_same
      ∙ ap (λ x. not (is_empty p m.to) || (x == pawn && takes)) from_same

  such_same : (only : Only) → is_such only q m ≡ is_such only p m
  such_same Any = refl
  such_same Capture = capture_same
  such_same Promotion = refl

  covers_same : (line : Forbid) → covers line q m ≡ covers line p m
  unfolding covers
  covers_same line =
      let squares : Bool = has_square line.from m.from && has_square line.to m.to in
      ap (λ x. x == cell_of_man (record { colour = line.colour; kind = line.kind }) && squares
      && is_such line.only q m) from_same
      ∙ ap (λ t. has p line.colour line.kind m.from && squares && t) (such_same line.only)

  pub forbidden_same : (lines : List Forbid) (side : Colour) →
      is_forbidden lines side q m ≡ is_forbidden lines side p m
  forbidden_same lines side =
      any_alike (λ (line : Forbid). same_colour line.colour side && covers line q m)
      (λ (line : Forbid). same_colour line.colour side && covers line p m)
      (λ line. ap (λ t. same_colour line.colour side && t) (covers_same line)) lines
