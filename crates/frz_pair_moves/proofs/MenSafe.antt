-- After the step of a man that is no king a side is in check exactly where its king is attacked on
-- the square on which it was put.
use Rattle.std.proofs.Common.{◌≡◌, ◌≢◌, ℕ, ◌<◌, Bool, true, false, cond, ◌&&◌, not, Option, None, Some, length, slice_index, refl, ap, sym, ◌∙◌, arith, inl, inr}
use Rattle.std.specs.Prelude.{◌==◌}
use Rattle.std.proofs.lemmas.Bool.{and_from, and_parts, both_ways, cases_eq, eq-eqb, eqb-true, false_from_ne_true}
use Rattle.frz_board.specs.declared.man.Colour.{Colour}
use Rattle.frz_board.specs.declared.man.Colour.TheVariants.{White, Black}
use Rattle.frz_board.specs.declared.man.Kind.{Kind}
use Rattle.frz_board.specs.declared.man.Kind.TheVariants.{King, Queen, Rook, Bishop, Knight, Pawn}
use Rattle.frz_board.specs.declared.man.Man.{Man}
use Rattle.frz_board.specs.Attacks.{is_attacked, is_in_check}
use Rattle.frz_board.specs.Boards.{Board, has, holds, man_on}
use Rattle.frz_board.specs.Men.{cell_of_man, is_pawn, other_of}
use Rattle.frz_board.specs.Moving.{Step, IsStep}
use Rattle.frz_board.proofs.Lemmas.{cell_back}
use Rattle.frz_squares.proofs.Lemmas.{any_square, some_square}
use Rattle.frz_fide.specs.Legal.{after, after_man, arrives, beside_on_file, can_go, goes, is_legal, man_goes, promotes, takes_in_passing}
use Rattle.frz_fide.proofs.Lemmas.{kings_are, one_of, same_tests}
use Rattle.frz_king_planes.specs.Kings.{are_free, king_cell, king_square, with_kings}
use Rattle.frz_king_planes.proofs.Lemmas.{Crowned, crowned}
use Rattle.frz_pair_moves.specs.Moves.{Makes}
use Rattle.frz_pair_moves.specs.Ways.{leave_way}
use Rattle.frz_pair_moves.proofs.Cells.{after_at, length_after}
use Rattle.frz_pair_moves.proofs.MenMoved.{Going, alike, going, goes_from, long, same_can, still_free}
use Rattle.frz_pair_moves.proofs.MenGo.{Clear, leaves_clear, not_black, not_white}

other_kind : (c d : Colour) (k : Kind) → k ≢ King →
    (cell_of_man (record { colour = c; kind = k }) == king_cell d) ≡ false
other_kind White White King h = absurd (h refl)
other_kind White White k h = refl
other_kind White Black King h = refl
other_kind White Black Queen h = refl
other_kind White Black Rook h = refl
other_kind White Black Bishop h = refl
other_kind White Black Knight h = refl
other_kind White Black Pawn h = refl
other_kind Black White King h = refl
other_kind Black White Queen h = refl
other_kind Black White Rook h = refl
other_kind Black White Bishop h = refl
other_kind Black White Knight h = refl
other_kind Black White Pawn h = refl
other_kind Black Black King h = absurd (h refl)
other_kind Black Black k h = refl

becomes_no_king : (c : Colour) (j k : Kind) (s : ℕ) → promotes c j s (Some k) ≡ true → k ≢ King
becomes_no_king c Pawn King s h e = absurd cc
becomes_no_king c Pawn Queen s h e = absurd cc
becomes_no_king c Pawn Rook s h e = absurd cc
becomes_no_king c Pawn Bishop s h e = absurd cc
becomes_no_king c Pawn Knight s h e = absurd cc
becomes_no_king c Pawn Pawn s h e = absurd cc
becomes_no_king c j k s h e = absurd cc

arrives_no_king : (man : Man) (promo : Option Kind) (s : ℕ) (d : Colour) → man.kind ≢ King →
    promotes man.colour man.kind s promo ≡ true →
    (cell_of_man (arrives man promo) == king_cell d) ≡ false
arrives_no_king man None s d ne h = other_kind man.colour d man.kind ne
arrives_no_king man (Some k) s d ne h =
    other_kind man.colour d k (becomes_no_king man.colour man.kind k s h)

none_by : (f : ℕ → Bool) (t u w : Bool) (v x : ℕ) → f 0 ≡ false → f x ≡ false → f v ≡ false →
    f (cond t 0 (cond u v (cond w 0 x))) ≡ false
none_by f true u w v x none old new = none
none_by f false true w v x none old new = new
none_by f false false true v x none old new = none
none_by f false false false v x none old new = old

no_king : (d : Colour) → (0 == king_cell d) ≡ false
no_king White = refl
no_king Black = refl

two_kings : (d : Colour) → (king_cell (other_of d) == king_cell d) ≡ false
two_kings White = refl
two_kings Black = refl

square_on : (d : Colour) (a b : ℕ) → a < 64 → b < 64 → king_square d a b < 64
square_on White a b la lb = la
square_on Black a b la lb = lb

neither : (d : Colour) (s a b : ℕ) → s ≢ king_square d a b → s ≢ king_square (other_of d) a b →
    (s ≢ a) × (s ≢ b)
neither White s a b own other = (own, other)
neither Black s a b own other = (other, own)

own_square : (d : Colour) (s a b : ℕ) → s ≢ a → s ≢ b → s ≢ king_square d a b
own_square White s a b na nb = na
own_square Black s a b na nb = nb

legal_is : (q : Board) (m : Step) →
    is_legal q m ≡ (can_go q m && not (is_in_check (after q m) q.turn))
unfolding is_legal
legal_is q m = refl

module _ (p : Board) (m : Step) (a b : ℕ) (step : IsStep m) (la : a < 64) (lb : b < 64)
    (made : Makes p a b) (can : can_go p m ≡ true) (leaves : leave_way m a b ≡ true) where
  abbrev q : Board
  q = with_kings p a b

  abbrev next : Board
  next = with_kings (after p m) a b

  own : holds p p.turn m.from ≡ true
  own = goes_from p m can

  abbrev size : length p.cells ≡ 64
  size = long p m a b step la lb made

  x : Clear p a b size la lb made.free m
  x = leaves_clear p a b size la lb made.free m leaves

  g : Going p m
  g = going p m own

  pub free_after : are_free (after p m) a b ≡ true
  free_after = still_free p m a b step la lb made own x

  size_after : length (after p m).cells ≡ 64
  size_after =
      ap (λ o. length (after_man p o m).cells) g.on ∙ length_after p g.man m ∙ size

  view : (d : Colour) → Crowned p q d (king_square d a b) (king_square (other_of d) a b)
  view d = crowned p a b d size la lb made.free

  view_after : (d : Colour) →
      Crowned (after p m) next d (king_square d a b) (king_square (other_of d) a b)
  view_after d = crowned (after p m) a b d size_after la lb free_after

  -- the board without kings has no king
  no_king_on : (d : Colour) (s : ℕ) → s < 64 → s ≢ a → s ≢ b →
      (slice_index p.cells s == king_cell d) ≡ false
  no_king_on d s ls na nb =
      false_from_ne_true (slice_index p.cells s == king_cell d)
      (λ h. let one = kings_are q d made.valid in
      own_square d s a b na nb
      (one_of q d King s (king_square d a b) made.valid (omega arith) ls (square_on d a b la lb)
      ((view White).rest s na nb ∙ eqb-true (slice_index p.cells s) (king_cell d) h) (view d).own))

  no_king_goes : g.man.kind ≢ King
  no_king_goes e =
      both_ways (slice_index p.cells m.from == king_cell g.man.colour)
      (no_king_on g.man.colour m.from step.from
      (not_white p a b size la lb made.free p.turn m.from own)
      (not_black p a b size la lb made.free p.turn m.from own))
      (eq-eqb (slice_index p.cells m.from) (king_cell g.man.colour)
      (cell_back (slice_index p.cells m.from) g.man.colour g.man.kind g.on
      ∙ ap (λ k. cell_of_man (record { colour = g.man.colour; kind = k })) e))

  promo : promotes g.man.colour g.man.kind m.to m.promo ≡ true
  promo =
      (and_parts (goes p g.man.colour g.man.kind m.from m.to)
      (promotes g.man.colour g.man.kind m.to m.promo)
      (ap (λ o. man_goes p o m) (sym g.on)
      ∙ (and_parts (holds p p.turn m.from && not (holds p p.turn m.to))
      (man_goes p (man_on p m.from) m) can).1)).1

  none_comes : (d : Colour) (s : ℕ) → s < 64 → s ≢ a → s ≢ b →
      (slice_index (after p m).cells s == king_cell d) ≡ false
  none_comes d s ls na nb =
      ap (λ o. slice_index (after_man p o m).cells s == king_cell d) g.on
      ∙ ap (λ v. v == king_cell d) (after_at p g.man m s size step.from step.to)
      ∙ none_by (λ v. v == king_cell d)
      ((is_pawn g.man.kind && takes_in_passing p g.man.colour m.from m.to)
      && (s == beside_on_file m.from m.to)) (s == m.to) (s == m.from)
      (cell_of_man (arrives g.man m.promo)) (slice_index p.cells s) (no_king d)
      (no_king_on d s ls na nb) (arrives_no_king g.man m.promo m.to d no_king_goes promo)

  found : (d : Colour) (s : ℕ) → s < 64 → has next d King s ≡ true → s ≡ king_square d a b
  found d s ls h =
      elim (cases_eq s (king_square d a b)) [
        | inl e ↦ e
        | inr nk ↦ elim (cases_eq s (king_square (other_of d) a b)) [
          | inl e ↦ absurd (both_ways (has next d King s)
              (ap (λ v. v == king_cell d) (ap (slice_index next.cells) e ∙ (view_after d).other)
              ∙ two_kings d) h)
          | inr ne ↦
              let off = neither d s a b nk ne in
              absurd (both_ways (has next d King s)
              (ap (λ v. v == king_cell d) ((view_after d).rest s nk ne)
              ∙ none_comes d s ls off.0 off.1) h)
        ]
      ]

  checked_after : (d : Colour) →
      is_in_check next d ≡ is_attacked next (king_square d a b) (other_of d)
  checked_after d =
      same_tests (is_in_check next d) (is_attacked next (king_square d a b) (other_of d))
      (λ e. let king = some_square
      (λ s. has next d King s && is_attacked next s (other_of d)) e in
      let parts = and_parts (has next d King king.square)
      (is_attacked next king.square (other_of d)) king.passes in
      ap (λ s. is_attacked next s (other_of d))
      (sym (found d king.square king.on_board parts.0)) ∙ parts.1)
      (λ e. any_square (λ s. has next d King s && is_attacked next s (other_of d))
      (king_square d a b) (square_on d a b la lb)
      (and_from (has next d King (king_square d a b))
      (is_attacked next (king_square d a b) (other_of d))
      (eq-eqb (slice_index next.cells (king_square d a b)) (king_cell d) (view_after d).own) e))

  pub legal_by_attack : is_legal q m
      ≡ not (is_attacked next (king_square p.turn a b) (other_of p.turn))
  legal_by_attack =
      legal_is q m
      ∙ ap (λ t. t && not (is_in_check (after q m) p.turn))
      (same_can p m a b step la lb made own x ∙ can)
      ∙ ap (λ r. not (is_in_check r p.turn)) (alike p m a b step la lb made own x)
      ∙ ap not (checked_after p.turn)
