-- A legal move keeps the kings, and gives no side more men.
use Rattle.std.proofs.Common.{◌≡◌, ◌≢◌, ℕ, None, ◌+◌, ◌<◌, ◌≤◌, List, length, refl, ap, sym, ◌∙◌, Bool, true, false, cond, ◌&&◌, arith, slice_index, slice_set, length-set, get_or-set_other}
use Rattle.std.specs.Prelude.{◌==◌, nat_le, count_by}
use Rattle.std.proofs.lemmas.Bool.{le-leb}
use Rattle.std.proofs.lemmas.Bool.Decides.{nat_tests}
use Rattle.std.proofs.lemmas.List.Sums.{sum_by-set}
use Rattle.frz_board.specs.Boards.{Board}
use Rattle.frz_board.specs.Men.{man_of_cell, cell_of_man, other_of, is_man_of, same_colour}
use Rattle.frz_board.specs.Moving.{Step}
use Rattle.frz_board.specs.Shapes.{count_of, men_of}
use Rattle.frz_fide.specs.Legal.{arrives, cells_after, after, after_man, is_legal}
use Rattle.frz_fide.specs.Exposing.{is_king}
use Rattle.frz_fide.specs.Valid.{IsValid}
use Rattle.frz_board.specs.declared.man.Colour.{Colour}
use Rattle.frz_board.specs.declared.man.Kind.{Kind}
use Rattle.frz_board.specs.declared.man.Kind.TheVariants.{King, Pawn}
use Rattle.frz_board.proofs.Lemmas.{cell-some}
use Rattle.frz_fide.proofs.LegalParts.{Move, facts}
use Rattle.frz_fide.proofs.Standing.{apart, arrives_own, arrives_colour}
use Rattle.frz_fide.proofs.Room.{few}
use Rattle.frz_fide.proofs.Kings.{king_test, same_king, zero_king}
use Rattle.frz_fide.proofs.CellsAfter.{takes, beside, arrival, next, lf, beside_from, beside_to, enemy, mover}
use Rattle.frz_fide.proofs.NoKingTaken.{no_king_there}

abbrev pub one : (ℕ → Bool) → ℕ → ℕ
one q x = cond (q x) 1 0

-- a count after a move
pub count_then : (q : ℕ → Bool) (xs : List ℕ) (a b v e : ℕ) (t : Bool) → q 0 ≡ false →
    a < length xs → b < length xs → e < length xs → a ≢ b → (t ≡ true → e ≢ a) →
    (t ≡ true → e ≢ b) →
    count_by q (cond t (slice_set (slice_set (slice_set xs a 0) b v) e 0)
    (slice_set (slice_set xs a 0) b v))
    + (one q (slice_index xs a) + (one q (slice_index xs b) + cond t (one q (slice_index xs e)) 0))
    ≡ count_by q xs + one q v
count_then q xs a b v e false h0 la lb le ab ea eb =
    let zero : one q 0 ≡ 0 = ap (λ x. cond x 1 0) h0 in
    let first = sum_by-set (one q) xs a 0 0 la in
    let lb' : b < length (slice_set xs a 0) = rw length-set lb in
    let second = sum_by-set (one q) (slice_set xs a 0) b v 0 lb' in
    let ba : b ≢ a = λ w. ab (sym w) in
    let same = ap (one q) (get_or-set_other xs a b 0 0 ba) in
    omega (arith, zero, first, second, same)
count_then q xs a b v e true h0 la lb le ab ea eb =
    let zero : one q 0 ≡ 0 = ap (λ x. cond x 1 0) h0 in
    let first = sum_by-set (one q) xs a 0 0 la in
    let lb' : b < length (slice_set xs a 0) = rw length-set lb in
    let second = sum_by-set (one q) (slice_set xs a 0) b v 0 lb' in
    let le' : e < length (slice_set (slice_set xs a 0) b v) = rw (length-set, length-set) le in
    let third = sum_by-set (one q) (slice_set (slice_set xs a 0) b v) e 0 0 le' in
    let ba : b ≢ a = λ w. ab (sym w) in
    let same = ap (one q) (get_or-set_other xs a b 0 0 ba) in
    let there = ap (one q)
    (get_or-set_other (slice_set xs a 0) b e v 0 (eb refl) ∙ get_or-set_other xs a e 0 0
    (ea refl)) in
    omega (arith, zero, first, second, third, same, there)

no_part : (t : Bool) (n : ℕ) → (t ≡ true → n ≡ 0) → cond t n 0 ≡ 0
no_part true n h = h refl
no_part false n h = refl

zero_no_man : (n : ℕ) → 0 < n → (0 == n) ≡ false
zero_no_man n h = grind (arith, nat_tests)

module _ (p : Board) (m : Step) (v : IsValid p) (lt : m.to < 64) (f : Move p m) where
  counted : (q : ℕ → Bool) → q 0 ≡ false →
      count_by q (cells_after p f.man m)
      + (one q (slice_index p.cells m.from)
      + (one q (slice_index p.cells m.to) + cond (takes p m v lt f)
      (one q (slice_index p.cells (beside p m v lt f))) 0)) ≡ count_by q p.cells + one q
      (arrival p m v lt f)
  counted q h0 =
      let size = v.fits.size in
      let from = lf p m v lt f in
      count_then q p.cells m.from m.to (arrival p m v lt f) (beside p m v lt f) (takes p m v lt f)
      h0 (omega arith) (omega arith) (omega arith) (apart p m f) (beside_from p m v lt f)
      (beside_to p m v lt f)

  -- where no pawn becomes another man, no side has more men of a kind
  pub no_more : m.promo ≡ None → (d : Colour) (k : Kind) →
      count_by (λ x. x == cell_of_man (record { colour = d; kind = k })) (cells_after p f.man m)
      ≤ count_of p d k
  no_more none d k =
      let q : ℕ → Bool = λ x. x == cell_of_man (record { colour = d; kind = k }) in
      let count = counted q (zero_no_man (cell_of_man (record { colour = d; kind = k }))
      (cell-some d k)) in
      let stays : arrival p m v lt f ≡ cell_of_man f.man = ap (λ o. cell_of_man (arrives f.man o))
      none in
      let same : one q (slice_index p.cells m.from) ≡ one q (arrival p m v lt f) =
      ap (one q) (mover p m v lt f ∙ sym stays) in
      omega (arith, count, same)

  pub kings_kept : (d : Colour) →
      count_by (λ x. x == cell_of_man (record { colour = d; kind = King })) (cells_after p f.man m)
      ≡ count_of p d King
  kings_kept d =
      let q : ℕ → Bool = λ x. x == cell_of_man (record { colour = d; kind = King }) in
      let count = counted q (zero_king d) in
      let from : q (slice_index p.cells m.from)
      ≡ (is_king f.man.kind && same_colour f.man.colour d) = ap q (mover p m v lt f)
      ∙ king_test f.man.colour f.man.kind d in
      let to : q (arrival p m v lt f) ≡ (is_king f.man.kind && same_colour f.man.colour d) =
      king_test (arrives f.man m.promo).colour (arrives f.man m.promo).kind d
      ∙ ap (λ x. x && same_colour (arrives f.man m.promo).colour d)
      (same_king f.man.colour f.man.kind m.to m.promo f.man.colour f.promo)
      ∙ ap (λ c. is_king f.man.kind && same_colour c d) (arrives_colour f.man m.promo) in
      let same : one q (slice_index p.cells m.from) ≡ one q (arrival p m v lt f) =
      ap (λ x. cond x 1 0) (from ∙ sym to) in
      let none : one q (slice_index p.cells m.to) ≡ 0 = ap (λ x. cond x 1 0)
      (no_king_there p m v lt f d) in
      let gone : cond (takes p m v lt f) (one q (slice_index p.cells (beside p m v lt f))) 0 ≡ 0 =
      no_part (takes p m v lt f) (one q (slice_index p.cells (beside p m v lt f)))
      (λ h. ap (one q) (enemy p m v lt f h) ∙ ap (λ x. cond x 1 0)
      (king_test (other_of p.turn) Pawn d)) in
      omega (arith, count, same, none, gone)

  men_kept : (d : Colour) →
      count_by (λ x. is_man_of d (man_of_cell x)) (cells_after p f.man m) ≤ men_of p d
  unfolding men_of
  men_kept d =
      let q : ℕ → Bool = λ x. is_man_of d (man_of_cell x) in
      let count = counted q refl in
      let from : q (slice_index p.cells m.from) ≡ same_colour f.man.colour d = ap (is_man_of d)
      f.on in
      let to : q (arrival p m v lt f) ≡ same_colour f.man.colour d = ap (is_man_of d)
      (arrives_own f.man m.promo) ∙ ap (λ c. same_colour c d) (arrives_colour f.man m.promo) in
      let same : one q (slice_index p.cells m.from) ≡ one q (arrival p m v lt f) =
      ap (λ x. cond x 1 0) (from ∙ sym to) in
      omega (arith, count, same)

  pub few_kept : (d : Colour) → nat_le (men_of (next p m v lt f) d) 16 ≡ true
  unfolding men_of
  few_kept d =
      let kept = men_kept d in let few_before = few p d v.men in
      le-leb (men_of (next p m v lt f) d) 16 (omega arith)

pub counts_fall : (p : Board) (m : Step) (c : Colour) (k : Kind) → IsValid p → m.to < 64 →
    is_legal p m ≡ true → m.promo ≡ None → count_of (after p m) c k ≤ count_of p c k
counts_fall p m c k v lt h none =
    let f = facts p m h in
    let here = ap (λ o. count_of (after_man p o m) c k) f.on in
    let fewer = no_more p m v lt f none c k in
    omega (arith, here, fewer)
