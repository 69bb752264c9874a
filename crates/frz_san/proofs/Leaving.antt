-- A move captures exactly where a man of the opponent leaves the board.
use Rattle.std.proofs.Common.{◌≡◌, ◌≢◌, ℕ, ◌<◌, Bool, true, false, cond, not, ◌&&◌, refl, ap, sym, ◌∙◌, arith, Option, None, Some, inl, inr, slice_index}
use Rattle.std.specs.Prelude.{◌==◌, ◌↔◌}
use Rattle.std.proofs.lemmas.Bool.Decides.{eqb_tells, nat_tests}
use Rattle.frz_board.specs.Boards.{Board, man_on, is_empty, holds}
use Rattle.frz_board.specs.declared.man.Colour.{Colour}
use Rattle.frz_board.specs.declared.man.Colour.TheVariants.{White, Black}
use Rattle.frz_board.specs.declared.man.Kind.TheVariants.{Pawn}
use Rattle.frz_board.specs.declared.man.Man.{Man}
use Rattle.frz_board.specs.Men.{other_of, is_pawn, is_man_of, man_of_cell, same_colour}
use Rattle.frz_board.specs.Moving.{Step, IsStep}
use Rattle.std.proofs.lemmas.Bool.{and_parts, or_cases, cases_Bool, not-true}
use Rattle.frz_squares.proofs.Lemmas.{either_or}
use Rattle.frz_board.proofs.Lemmas.{cell_forth, one_side}
use Rattle.frz_fide.specs.Legal.{is_legal, takes_in_passing, beside_on_file}
use Rattle.frz_fide.specs.Valid.{IsValid}
use Rattle.frz_fide.proofs.Lemmas.{Move, facts}
use Rattle.frz_fide.proofs.Lemmas.{cell_then}
use Rattle.frz_fide.proofs.Lemmas.{after_at, arrived_own, own_colour, taken, on_board}
use Rattle.frz_san.specs.Notation.{is_capture}
use Rattle.frz_san.specs.Leaving.{Leaves}
use Rattle.frz_san.proofs.Taking.{held}

by_colour : (c d : Colour) → same_colour d c ≡ false → same_colour d (other_of c) ≡ true
by_colour White White h = cc
by_colour White Black h = refl
by_colour Black White h = refl
by_colour Black Black h = cc

-- a cell with a man that is not of one side is of the other
of_other : (c : Colour) (o : Option Man) → o ≢ None → is_man_of c o ≡ false →
    is_man_of (other_of c) o ≡ true
of_other c None n h = absurd (n refl)
of_other c (Some x) n h = by_colour c x.colour h

cell_has_man : (cell : ℕ) → cell < 13 → cell ≢ 0 → man_of_cell cell ≢ None
cell_has_man cell l n e = grind (arith, nat_tests)

module _ (p : Board) (m : Step) (v : IsValid p) (step : IsStep m) (f : Move p m) where
  -- the man on the destination leaves the board
  from_destination : is_empty p m.to ≡ false → Leaves p m
  from_destination h =
      let cell : slice_index p.cells m.to ≢ 0 = elim (eqb_tells (slice_index p.cells m.to) 0)
      [ inl w ↦ (let e = w.0 in absurd cc) | inr w ↦ w.1 ] in
      record {
        square = m.to;
        on_board = step.to;
        before = of_other p.turn (man_on p m.to)
            (cell_has_man (slice_index p.cells m.to)
            (v.fits.men m.to 0 (let size = v.fits.size in let l = step.to in omega arith)) cell)
            f.free;
        after = ap (λ x. is_man_of (other_of p.turn) (man_of_cell x))
            (after_at p m v step.to f m.to)
            ∙ one_side p.turn (man_of_cell (cell_then p f.man m m.to)) (arrived_own p m f);
      }

  gone_by : (t : Bool) (e b a w x : ℕ) → t ≡ true →
      cond (t && (e == e)) 0 (cond (e == b) w (cond (e == a) 0 x)) ≡ 0
  gone_by t e b a w x h = grind (arith, nat_tests)

  -- a pawn captured en passant leaves the board
  from_beside : (is_pawn f.man.kind && takes_in_passing p f.man.colour m.from m.to) ≡ true →
      Leaves p m
  from_beside h =
      let passing = (and_parts (is_pawn f.man.kind) (takes_in_passing p f.man.colour m.from m.to)
      h).1 in
      let pawn = taken p m v f.man.colour f.own passing in
      let size = v.fits.size in
      let from = on_board p m.from f.man size f.on in
      record {
        square = beside_on_file m.from m.to;
        on_board = omega arith;
        before = ap (λ x. is_man_of (other_of p.turn) (man_of_cell x)) pawn
            ∙ ap (is_man_of (other_of p.turn)) (cell_forth (other_of p.turn) Pawn)
            ∙ own_colour (other_of p.turn);
        after = ap (λ x. is_man_of (other_of p.turn) (man_of_cell x))
            (after_at p m v step.to f (beside_on_file m.from m.to)
            ∙ gone_by (is_pawn f.man.kind && takes_in_passing p f.man.colour m.from m.to)
            (beside_on_file m.from m.to) m.to m.from _ _ h);
      }

  leaves : is_capture p f.man m ≡ true → Leaves p m
  leaves h =
      elim (or_cases (not (is_empty p m.to))
      (is_pawn f.man.kind && takes_in_passing p f.man.colour m.from m.to) h) [
        | inl w ↦ from_destination (not-true (is_empty p m.to) w)
        | inr w ↦ from_beside w
      ]

  kept_by : (t : Bool) (e b a w x s : ℕ) → t ≡ false → s ≢ b → s ≢ a →
      cond (t && (s == e)) 0 (cond (s == b) w (cond (s == a) 0 x)) ≡ x
  kept_by t e b a w x s h nb na = rw h (grind (arith, nat_tests))

  clash : holds p (other_of p.turn) m.from ≡ true → ⊥
  clash h =
      let own = one_side p.turn (man_on p m.from)
      (ap (is_man_of p.turn) f.on ∙ ap (λ c. same_colour c p.turn) f.own ∙ own_colour p.turn) in
      cc

  captured : Leaves p m → is_capture p f.man m ≡ true
  captured l =
      elim (cases_Bool (is_pawn f.man.kind && takes_in_passing p f.man.colour m.from m.to)) [
        | inl w ↦ either_or (not (is_empty p m.to))
            (is_pawn f.man.kind && takes_in_passing p f.man.colour m.from m.to) (inr w)
        | inr w ↦ elim (eqb_tells l.square m.to) [
          | inl same ↦ either_or (not (is_empty p m.to))
              (is_pawn f.man.kind && takes_in_passing p f.man.colour m.from m.to)
              (inl (ap not (held p (other_of p.turn) m.to
              (ap (holds p (other_of p.turn)) (sym same.1) ∙ l.before))))
          | inr other ↦ absurd (
              let origin : l.square ≢ m.from = λ e. clash
              (ap (holds p (other_of p.turn)) (sym e) ∙ l.before) in
              let same = kept_by (is_pawn f.man.kind && takes_in_passing p f.man.colour m.from m.to)
              (beside_on_file m.from m.to) m.to m.from _ _ l.square w other.1 origin in
              let still = ap (λ x. is_man_of (other_of p.turn) (man_of_cell x))
              (after_at p m v step.to f l.square ∙ same) in
              let gone = l.after in let was = l.before in cc)
        ]
      ]

pub captures_in_words : (p : Board) (m : Step) (man : Man) → IsValid p → IsStep m →
    is_legal p m ≡ true → man_on p m.from ≡ Some man → (is_capture p man m ≡ true) ↔ Leaves p m
captures_in_words p m man v step legal on =
    let f = facts p m legal in
    let both : Some f.man ≡ Some man = sym f.on ∙ on in let same : f.man ≡ man = cc in (
      λ h. leaves p m v step f (ap (λ x. is_capture p x m) same ∙ h),
      λ l. ap (λ x. is_capture p x m)
          (sym same) ∙ captured p m v step f l,
    )
