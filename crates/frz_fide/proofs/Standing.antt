-- Where the mover's men stand after a move.
use Rattle.std.proofs.Common.{◌≡◌, ◌≢◌, ℕ, ◌+◌, ◌/◌, ◌<◌, length, refl, ap, sym, ◌∙◌, Bool, true, false, cond, ◌&&◌, arith, Option, None, Some, slice_index, inl, inr}
use Rattle.std.specs.Prelude.{◌==◌}
use Rattle.std.proofs.lemmas.Bool.Decides.{nat_tests, eqb_tells}
use Rattle.std.proofs.lemmas.Bool.{eqb-true, cases_lt, and_parts}
use Rattle.std.proofs.lemmas.List.{get_or_past}
use Rattle.frz_board.specs.Attacks.{pawn_reaches}
use Rattle.frz_board.specs.Boards.{Board, man_on, holds, has, is_empty}
use Rattle.frz_board.specs.EnPassant.{has_pawn_beside, has_target_in_place, target_stands, ahead, is_passed, has_passed, is_passing_rank}
use Rattle.frz_board.specs.Men.{man_of_cell, cell_of_man, other_of, is_man_of, same_colour, is_pawn}
use Rattle.frz_board.specs.Moving.{Step}
use Rattle.frz_board.specs.Squares.{files_apart, is_forward}
use Rattle.frz_fide.specs.Legal.{takes_in_passing, is_target, arrives, beside_on_file, after, after_man}
use Rattle.frz_fide.specs.Valid.{IsValid}
use Rattle.frz_board.specs.declared.man.Colour.{Colour}
use Rattle.frz_board.specs.declared.man.Colour.TheVariants.{White, Black}
use Rattle.frz_board.specs.declared.man.Kind.{Kind}
use Rattle.frz_board.specs.declared.man.Kind.TheVariants.{Pawn}
use Rattle.frz_board.specs.declared.man.Man.{Man}
use Rattle.frz_board.proofs.Lemmas.{cell_forth}
use Rattle.frz_fide.proofs.Colours.{own_colour, other_colour}
use Rattle.frz_fide.proofs.LegalParts.{Move}
use Rattle.frz_fide.proofs.Cells.{cell_then, cell_at}

-- a square with a man is on the board
pub on_board : (p : Board) (s : ℕ) (man : Man) → length p.cells ≡ 64 → man_on p s ≡ Some man →
    s < 64
on_board p s man size e =
    elim (cases_lt s 64) [
      | inl h ↦ h
      | inr h ↦ absurd (let past : slice_index p.cells s ≡ 0 = get_or_past p.cells s 0
          (omega arith) in let none = ap man_of_cell past in cc)
    ]

-- the mover's man stands where the move begins
pub holds_from : (p : Board) (m : Step) → Move p m → holds p p.turn m.from ≡ true
holds_from p m f =
    ap (is_man_of p.turn) f.on ∙ ap (λ c. same_colour c p.turn) f.own ∙ own_colour p.turn

-- the pawn that is captured en passant stands ahead of the target, as its side sees it
ahead_is_beside : (c : Colour) (a b : ℕ) → is_forward c 1 a b ≡ true →
    beside_on_file a b ≡ ahead (other_of c) b
ahead_is_beside White a b h = let e = eqb-true (b / 8) (a / 8 + 1) h in omega arith
ahead_is_beside Black a b h = let e = eqb-true (a / 8) (b / 8 + 1) h in omega arith

-- where a target is taken, it is the position's
pub target_is : (o : Option ℕ) (b : ℕ) → is_target o b ≡ true → o ≡ Some b
target_is None b h = absurd cc
target_is (Some t) b h = ap Some (eqb-true t b h)

-- an enemy pawn stands on the square where a pawn is captured en passant
pub taken : (p : Board) (m : Step) → IsValid p → (c : Colour) → c ≡ p.turn →
    takes_in_passing p c m.from m.to ≡ true →
    slice_index p.cells (beside_on_file m.from m.to) ≡ cell_of_man
    (record { colour = other_of p.turn; kind = Pawn })
unfolding has_target_in_place
taken p m v c own h =
    let parts = and_parts (pawn_reaches c m.from m.to) (is_target p.ep m.to) h in
    let forward = (and_parts (files_apart m.from m.to == 1) (is_forward c 1 m.from m.to)
    parts.0).1 in
    let stands : is_passed p (other_of p.turn) m.to ≡ true = ap (target_stands p)
    (sym (target_is p.ep m.to parts.1)) ∙ v.target in
    let passer = (and_parts (has_passed p (other_of p.turn) m.to)
    (has_pawn_beside p (other_of (other_of p.turn)) (ahead (other_of p.turn) m.to)) stands).0 in
    let pawn = (and_parts
    (is_passing_rank (other_of p.turn) m.to
    && (is_empty p m.to && is_empty p (ahead (other_of (other_of p.turn)) m.to)))
    (has p (other_of p.turn) Pawn (ahead (other_of p.turn) m.to)) passer).1 in
    ap (slice_index p.cells)
    (ahead_is_beside c m.from m.to forward ∙ ap (λ d. ahead (other_of d) m.to) own)
    ∙ eqb-true (slice_index p.cells (ahead (other_of p.turn) m.to))
    (cell_of_man (record { colour = other_of p.turn; kind = Pawn })) pawn

-- an own man stands on no square where a pawn is taken
pub taken_free : (p : Board) (m : Step) → IsValid p → (f : Move p m) →
    (is_pawn f.man.kind && takes_in_passing p f.man.colour m.from m.to) ≡ true →
    holds p p.turn (beside_on_file m.from m.to) ≡ false
taken_free p m v f h =
    let takes = (and_parts (is_pawn f.man.kind) (takes_in_passing p f.man.colour m.from m.to)
    h).1 in
    ap (λ x. is_man_of p.turn (man_of_cell x)) (taken p m v f.man.colour f.own takes)
    ∙ ap (is_man_of p.turn) (cell_forth (other_of p.turn) Pawn) ∙ other_colour p.turn

pub stays_by : (t : Bool) (e b a v x s : ℕ) → (t ≡ true → s ≡ e → ⊥) → (s ≡ b → ⊥) → (s ≡ a → ⊥) →
    cond (t && (s == e)) 0 (cond (s == b) v (cond (s == a) 0 x)) ≡ x
stays_by false e b a v x s h1 h2 h3 = grind (arith, nat_tests)
stays_by true e b a v x s h1 h2 h3 = let ne : s ≢ e = h1 refl in grind (arith, nat_tests)

-- another own man stays
pub stays : (p : Board) (m : Step) → IsValid p → (f : Move p m) → (s : ℕ) →
    holds p p.turn s ≡ true → s ≢ m.from → cell_then p f.man m s ≡ slice_index p.cells s
stays p m v f s own ne =
    stays_by (is_pawn f.man.kind && takes_in_passing p f.man.colour m.from m.to)
    (beside_on_file m.from m.to) m.to m.from (cell_of_man (arrives f.man m.promo))
    (slice_index p.cells s) s
    (λ h e. let free = taken_free p m v f h in let same = ap (holds p p.turn) e in cc)
    (λ e. let free = f.free in let same = ap (holds p p.turn) e in cc)
    ne

pub arrived_by : (t : Bool) (e b a v x : ℕ) → (t ≡ true → b ≡ e → ⊥) →
    cond (t && (b == e)) 0 (cond (b == b) v (cond (b == a) 0 x)) ≡ v
arrived_by false e b a v x h = grind (arith, nat_tests)
arrived_by true e b a v x h = let ne : b ≢ e = h refl in grind (arith, nat_tests)

pub left_by : (t : Bool) (e b a v x : ℕ) → (a ≡ b → ⊥) →
    cond (t && (a == e)) 0 (cond (a == b) v (cond (a == a) 0 x)) ≡ 0
left_by false e b a v x h = grind (arith, nat_tests)
left_by true e b a v x h = grind (arith, nat_tests)

other_two : (q : ℕ → Bool) (t u : Bool) (x : ℕ) → q 0 ≡ false → q x ≡ false →
    q (cond t 0 (cond u 0 x)) ≡ false
other_two q true u x h0 hx = h0
other_two q false true x h0 hx = h0
other_two q false false x h0 hx = hx

pub others_by : (q : ℕ → Bool) (t : Bool) (e b a v x s : ℕ) → q 0 ≡ false → q x ≡ false →
    (s ≡ b → ⊥) → q (cond (t && (s == e)) 0 (cond (s == b) v (cond (s == a) 0 x))) ≡ false
others_by q t e b a v x s h0 hx ne =
    elim (eqb_tells s b) [
      | inl w ↦ absurd (ne w.1)
      | inr w ↦ rw w.0 (other_two q (t && (s == e)) (s == a) x h0 hx)
    ]

pub forward_of : (p : Board) (c : Colour) (a b : ℕ) → takes_in_passing p c a b ≡ true →
    is_forward c 1 a b ≡ true
forward_of p c a b h =
    (and_parts (files_apart a b == 1) (is_forward c 1 a b)
    (and_parts (pawn_reaches c a b) (is_target p.ep b) h).0).1

pub beside_apart : (c : Colour) (a b : ℕ) → is_forward c 1 a b ≡ true → b ≡ beside_on_file a b → ⊥
beside_apart White a b h e = let r = eqb-true (b / 8) (a / 8 + 1) h in omega arith
beside_apart Black a b h e = let r = eqb-true (a / 8) (b / 8 + 1) h in omega arith

-- the cell that the man arrives on
pub arrived : (p : Board) (m : Step) → (f : Move p m) →
    cell_then p f.man m m.to ≡ cell_of_man (arrives f.man m.promo)
arrived p m f =
    arrived_by (is_pawn f.man.kind && takes_in_passing p f.man.colour m.from m.to)
    (beside_on_file m.from m.to) m.to m.from (cell_of_man (arrives f.man m.promo))
    (slice_index p.cells m.to)
    (λ h e. beside_apart f.man.colour m.from m.to
    (forward_of p f.man.colour m.from m.to
    (and_parts (is_pawn f.man.kind) (takes_in_passing p f.man.colour m.from m.to) h).1) e)

pub apart : (p : Board) (m : Step) → Move p m → m.from ≡ m.to → ⊥
apart p m f e =
    let there = holds_from p m f in let free = f.free in let same = ap (holds p p.turn) e in cc

-- the square that the man leaves is empty
pub left : (p : Board) (m : Step) → (f : Move p m) → cell_then p f.man m m.from ≡ 0
left p m f =
    left_by (is_pawn f.man.kind && takes_in_passing p f.man.colour m.from m.to)
    (beside_on_file m.from m.to) m.to m.from (cell_of_man (arrives f.man m.promo))
    (slice_index p.cells m.from) (apart p m f)

-- no own man comes to another square
pub none_comes : (p : Board) (m : Step) → (f : Move p m) → (s : ℕ) → holds p p.turn s ≡ false →
    s ≢ m.to → is_man_of p.turn (man_of_cell (cell_then p f.man m s)) ≡ false
none_comes p m f s h ne =
    others_by (λ x. is_man_of p.turn (man_of_cell x))
    (is_pawn f.man.kind && takes_in_passing p f.man.colour m.from m.to) (beside_on_file m.from m.to)
    m.to m.from (cell_of_man (arrives f.man m.promo)) (slice_index p.cells s) s refl h ne

-- the arriving man is the mover's
pub arrives_own : (man : Man) (promo : Option Kind) →
    man_of_cell (cell_of_man (arrives man promo)) ≡ Some (arrives man promo)
arrives_own man None = cell_forth man.colour man.kind
arrives_own man (Some k) = cell_forth man.colour k

pub arrives_colour : (man : Man) (promo : Option Kind) → (arrives man promo).colour ≡ man.colour
arrives_colour man None = refl
arrives_colour man (Some k) = refl

pub arrived_own : (p : Board) (m : Step) → (f : Move p m) →
    is_man_of p.turn (man_of_cell (cell_then p f.man m m.to)) ≡ true
arrived_own p m f =
    ap (λ x. is_man_of p.turn (man_of_cell x)) (arrived p m f)
    ∙ ap (is_man_of p.turn) (arrives_own f.man m.promo)
    ∙ ap (λ c. same_colour c p.turn) (arrives_colour f.man m.promo ∙ f.own) ∙ own_colour p.turn

-- the cells after a move, as the position after it has them
pub after_at : (p : Board) (m : Step) → IsValid p → m.to < 64 → (f : Move p m) → (s : ℕ) →
    slice_index (after p m).cells s ≡ cell_then p f.man m s
after_at p m v lt f s =
    ap (λ o. slice_index (after_man p o m).cells s) f.on
    ∙ cell_at p f.man m s v.fits.size (on_board p m.from f.man v.fits.size f.on) lt
