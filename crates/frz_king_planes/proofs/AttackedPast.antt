-- Where a king is attacked, with the other king on the board.
use Rattle.std.proofs.Common.{◌≡◌, ◌≢◌, ℕ, ◌+◌, ◌<◌, ◌≤◌, Bool, true, false, ◌&&◌, ◌||◌, not, Option, None, Some, List, length, max, slice_index, refl, ap, sym, ◌∙◌, arith, inl, inr}
use Rattle.std.specs.Prelude.{◌==◌}
use Rattle.std.specs.Cmp.{both_ways}
use Rattle.std.proofs.lemmas.Bool.{eqb-true, eq-eqb, cases_eq, and_parts, and_from, or_left, or_right, or_cases, false_from_ne_true, not_from_false}
use Rattle.std.proofs.lemmas.Bool.Decides.{nat_tests}
use Rattle.frz_board.specs.declared.man.Colour.{Colour}
use Rattle.frz_board.specs.declared.man.Colour.TheVariants.{White, Black}
use Rattle.frz_board.specs.declared.man.Kind.{Kind}
use Rattle.frz_board.specs.declared.man.Kind.TheVariants.{King, Queen, Rook, Bishop, Knight, Pawn}
use Rattle.frz_board.specs.declared.man.Man.{Man}
use Rattle.frz_board.specs.Squares.{rank_of, files_apart, ranks_apart, is_forward}
use Rattle.frz_board.specs.Lines.{is_rook_line, is_bishop_line, is_knight_jump, is_king_step, is_between}
use Rattle.frz_board.specs.Men.{other_of, is_man_of, man_of_cell}
use Rattle.frz_board.specs.Boards.{Board, man_on, is_empty, holds}
use Rattle.frz_board.specs.Attacks.{is_clear, reaches, man_reaches, attacks, is_attacked, pawn_reaches}
use Rattle.frz_board.proofs.Lemmas.{attacks_too, cell_forth, cell-some, one_side}
use Rattle.frz_squares.proofs.Lemmas.{implied, implies, each_square, all_squares, some_square, any_square}
use Rattle.frz_bits.proofs.Lemmas.{files_back, ranks_back}
use Rattle.frz_fide.proofs.Lemmas.{own_colour}
use Rattle.frz_planes.specs.Planes.{has_pair, IsPlaneOf}
use Rattle.frz_king_planes.specs.Kings.{king_cell, with_kings}
use Rattle.frz_king_planes.specs.Attacked.{AreAttacked, is_attacked_past}
use Rattle.frz_king_planes.proofs.Crowned.{Crowned, crowned, free_parts}
use Rattle.frz_king_planes.proofs.OpenSquares.{hits, passes}

-- what is_between asks of the squares a and b and one between them, by their files and ranks apart:
-- those of the two, of a and the one between, of that one and b
abbrev is_within : (a s b f g h q r t : ℕ) → Bool
is_within a s b f g h q r t =
    (not (s == a) && not (s == b)) && (g + h == f && r + t == q)
    && (((not (a == b) && (f == 0 || q == 0)) && (not (a == s) && (g == 0 || r == 0)))
    || ((not (a == b) && f == q) && (not (a == s) && g == r)))

no_jump : (a s b f g h q r t : ℕ) → ((f == 1 && q == 2) || (f == 2 && q == 1)) ≡ true →
    is_within a s b f g h q r t ≡ false
no_jump a s b f g h q r t e = grind (arith, nat_tests)

no_step : (a s b f g h q r t : ℕ) → f ≤ 1 → q ≤ 1 → (g ≡ 0 → r ≡ 0 → s ≡ a) →
    (h ≡ 0 → t ≡ 0 → s ≡ b) → is_within a s b f g h q r t ≡ false
no_step a s b f g h q r t lf lq first last = grind (arith, nat_tests)

pub one_square : (a b : ℕ) → files_apart a b ≡ 0 → ranks_apart a b ≡ 0 → b ≡ a
one_square a b f r = omega arith

knight_past : (a s b : ℕ) → is_knight_jump a b ≡ true → is_between a s b ≡ false
knight_past a s b h =
    no_jump a s b (files_apart a b) (files_apart a s) (files_apart s b) (ranks_apart a b)
    (ranks_apart a s) (ranks_apart s b) h

step_past : (a s b : ℕ) → files_apart a b ≤ 1 → ranks_apart a b ≤ 1 → is_between a s b ≡ false
step_past a s b f r =
    no_step a s b (files_apart a b) (files_apart a s) (files_apart s b) (ranks_apart a b)
    (ranks_apart a s) (ranks_apart s b) f r
    (λ g h. one_square a s g h) (λ g h. sym (one_square s b g h))

king_past : (a s b : ℕ) → is_king_step a b ≡ true → is_between a s b ≡ false
king_past a s b h =
    let one = eqb-true (max (files_apart a b) (ranks_apart a b)) 1 h in
    step_past a s b (grind arith) (grind arith)

one_rank : (c : Colour) (a b : ℕ) → is_forward c 1 a b ≡ true → ranks_apart a b ≤ 1
one_rank White a b h = let e = eqb-true (rank_of b) (rank_of a + 1) h in omega arith
one_rank Black a b h = let e = eqb-true (rank_of a) (rank_of b + 1) h in omega arith

pawn_past : (c : Colour) (a s b : ℕ) → pawn_reaches c a b ≡ true → is_between a s b ≡ false
pawn_past c a s b h =
    let parts = and_parts (files_apart a b == 1) (is_forward c 1 a b) h in
    let file = eqb-true (files_apart a b) 1 parts.0 in
    step_past a s b (omega arith) (one_rank c a b parts.1)

pub step_back : (a b : ℕ) → is_king_step a b ≡ is_king_step b a
step_back a b = rw (files_back a b, ranks_back a b) refl

-- the square between two is none of them
not_end : (a k b : ℕ) → is_between a k b ≡ true → k ≢ b
not_end a k b h e = absurd (let t = grind_end a k b h e in cc)
  where
    grind_end : (a k b : ℕ) → is_between a k b ≡ true → k ≡ b → true ≡ false
    grind_end a k b h e = grind (arith, nat_tests)

module _ (p q : Board) (c : Colour) (s t : ℕ) (lt : t < 64) (w : Crowned p q c s t) where
  king_stands : (d : Colour) → king_cell d ≡ 0 → ⊥
  king_stands d e = let some = cell-some d King in absurd (omega arith)

  emptier : (k : ℕ) → k < 64 → is_empty q k ≡ true → is_empty p k ≡ true
  emptier k l h =
      elim (cases_eq k s) [
        | inl e ↦ eq-eqb (slice_index p.cells k) 0 (ap (slice_index p.cells) e ∙ w.own_empty)
        | inr ns ↦ elim (cases_eq k t) [
          | inl e ↦ eq-eqb (slice_index p.cells k) 0 (ap (slice_index p.cells) e ∙ w.other_empty)
          | inr nt ↦ ap (λ x. x == 0) (sym (w.rest k ns nt)) ∙ h
        ]
      ]

  -- the other king shuts the lines on which it stands, and no others
  shut : (m : ℕ) → is_clear q m s ≡ true → is_between m t s ≡ false
  shut m h =
      false_from_ne_true (is_between m t s)
      (λ e. king_stands (other_of c) (sym w.other ∙ eqb-true (slice_index q.cells t) 0
      (implied (is_between m t s) (is_empty q t)
      (each_square (λ k. not (is_between m k s) || is_empty q k) h t lt) e)))

  clear_past : (m : ℕ) → is_clear p m s ≡ true → is_between m t s ≡ false → is_clear q m s ≡ true
  clear_past m h past =
      all_squares (λ k. not (is_between m k s) || is_empty q k)
      (λ k l. implies (is_between m k s) (is_empty q k)
      (λ b. ap (λ x. x == 0) (w.rest k (not_end m k s b)
      (λ e. let other = ap (λ j. is_between m j s) e in absurd cc))
      ∙ implied (is_between m k s) (is_empty p k)
      (each_square (λ j. not (is_between m j s) || is_empty p j) h k l) b))

  along : (x : Bool) (m : ℕ) → (x && is_clear p m s) ≡ true → is_between m t s ≡ false →
      (x && is_clear q m s) ≡ true
  along x m h past =
      let parts = and_parts x (is_clear p m s) h in
      and_from x (is_clear q m s) parts.0 (clear_past m parts.1 past)

  reaches_past : (d : Colour) (k : Kind) (m : ℕ) → reaches p d k m s ≡ true →
      is_between m t s ≡ false → reaches q d k m s ≡ true
  reaches_past d King m h past = h
  reaches_past d Queen m h past = along (is_rook_line m s || is_bishop_line m s) m h past
  reaches_past d Rook m h past = along (is_rook_line m s) m h past
  reaches_past d Bishop m h past = along (is_bishop_line m s) m h past
  reaches_past d Knight m h past = h
  reaches_past d Pawn m h past = h

  man_past : (o : Option Man) (m : ℕ) → man_reaches p o m s ≡ true → is_between m t s ≡ false →
      man_reaches q o m s ≡ true
  man_past None m h past = h
  man_past (Some man) m h past = reaches_past man.colour man.kind m h past

  goes_past : (d : Colour) (k : Kind) (m : ℕ) → reaches q d k m s ≡ true →
      is_between m t s ≡ false
  goes_past d King m h = king_past m t s h
  goes_past d Queen m h =
      shut m (and_parts (is_rook_line m s || is_bishop_line m s) (is_clear q m s) h).1
  goes_past d Rook m h = shut m (and_parts (is_rook_line m s) (is_clear q m s) h).1
  goes_past d Bishop m h = shut m (and_parts (is_bishop_line m s) (is_clear q m s) h).1
  goes_past d Knight m h = knight_past m t s h
  goes_past d Pawn m h = pawn_past d m t s h

  man_goes_past : (o : Option Man) (m : ℕ) → man_reaches q o m s ≡ true → is_between m t s ≡ false
  man_goes_past None m h = absurd cc
  man_goes_past (Some man) m h = goes_past man.colour man.kind m h

  abbrev by : Colour
  by = other_of c

  own_side : holds q by s ≡ false
  own_side =
      one_side c (man_on q s)
      (ap (λ x. is_man_of c (man_of_cell x)) w.own ∙ ap (is_man_of c) (cell_forth c King)
      ∙ own_colour c)

  king_there : man_on q t ≡ Some (record { colour = by; kind = King })
  king_there = ap man_of_cell w.other ∙ cell_forth by King

  king_held : holds q by t ≡ true
  king_held = ap (is_man_of by) king_there ∙ own_colour by

  king_attacks : attacks q t s ≡ is_king_step t s
  king_attacks = ap (λ o. man_reaches q o t s) king_there

  same_man : (m : ℕ) → m ≢ s → m ≢ t → holds q by m ≡ holds p by m
  same_man m ns nt = ap (λ x. is_man_of by (man_of_cell x)) (w.rest m ns nt)

  man_passes : (m : ℕ) → m ≢ s → m ≢ t → hits q s by m ≡ true → passes p s by t m ≡ true
  man_passes m ns nt h =
      let parts = and_parts (holds q by m) (attacks q m s) h in
      and_from (hits p s by m) (not (is_between m t s))
      (and_from (holds p by m) (attacks p m s) (sym (same_man m ns nt) ∙ parts.0)
      (attacks_too q p emptier m s (w.rest m ns nt) parts.1))
      (not_from_false (is_between m t s) (man_goes_past (man_on q m) m parts.1))

  attacker : (m : ℕ) → m < 64 → hits q s by m ≡ true →
      (is_attacked_past p s by t || is_king_step s t) ≡ true
  attacker m l h =
      let parts = and_parts (holds q by m) (attacks q m s) h in
      elim (cases_eq m s) [
        | inl e ↦ absurd (let no = own_side in
            let yes = ap (λ j. holds q by j) (sym e) ∙ parts.0 in cc)
        | inr ns ↦ elim (cases_eq m t) [
          | inl e ↦ or_right (is_attacked_past p s by t) (is_king_step s t)
              (step_back s t ∙ sym king_attacks ∙ ap (λ j. attacks q j s) (sym e) ∙ parts.1)
          | inr nt ↦ or_left (is_attacked_past p s by t) (is_king_step s t)
              (any_square (passes p s by t) m l (man_passes m ns nt h))
        ]
      ]

  empty_held : (k : ℕ) → slice_index p.cells k ≡ 0 → holds p by k ≡ false
  empty_held k e = ap (λ x. is_man_of by (man_of_cell x)) e

  not_there : (m k : ℕ) → slice_index p.cells k ≡ 0 → holds p by m ≡ true → m ≢ k
  not_there m k e h same =
      let no = empty_held k e in let yes = ap (λ j. holds p by j) (sym same) ∙ h in cc

  still_hits : (m : ℕ) → passes p s by t m ≡ true → hits q s by m ≡ true
  still_hits m h =
      let parts = and_parts (hits p s by m) (not (is_between m t s)) h in
      let hit = and_parts (holds p by m) (attacks p m s) parts.0 in
      let ns = not_there m s w.own_empty hit.0 in
      let nt = not_there m t w.other_empty hit.0 in
      let past = false_from_ne_true (is_between m t s) (λ e. let no = ap not e in let yes = parts.1 in
      cc) in
      and_from (holds q by m) (attacks q m s) (same_man m ns nt ∙ hit.0)
      (ap (λ x. man_reaches q (man_of_cell x) m s) (w.rest m ns nt)
      ∙ man_past (man_on p m) m hit.1 past)

  stays : (is_attacked_past p s by t || is_king_step s t) ≡ true → is_attacked q s by ≡ true
  stays h =
      elim (or_cases (is_attacked_past p s by t) (is_king_step s t) h) [
        | inl past ↦ (let man = some_square (passes p s by t) past in
            any_square (hits q s by) man.square man.on_board (still_hits man.square man.passes))
        | inr step ↦ any_square (hits q s by) t lt
            (and_from (holds q by t) (attacks q t s) king_held
            (king_attacks ∙ step_back t s ∙ step))
      ]

  -- the king is attacked by a man that the other king does not shut off, or by that king
  pub attacked_past : is_attacked q s by ≡ (is_attacked_past p s by t || is_king_step s t)
  attacked_past =
      both_ways (is_attacked q s by) (is_attacked_past p s by t || is_king_step s t)
      (λ h. let man = some_square (hits q s by) h in attacker man.square man.on_board man.passes)
      stays

-- the plane has the pairs of an empty square and another at which a king on the one is attacked
abbrev AreFirst : Board → Colour → List ℕ → Type 0
AreFirst p side pairs =
    (s t : ℕ) → s < 64 → t < 64 → is_empty p s ≡ true →
    has_pair pairs s t ≡ (is_attacked_past p s side t || is_king_step s t)

-- a plane of such pairs has the squares of White's king first
pub for_white : (p : Board) (side : Colour) (pairs : List ℕ) → length p.cells ≡ 64 → side ≡ Black →
    AreFirst p side pairs → AreAttacked p White pairs
for_white p side pairs size e h a b la lb free =
    h a b la lb (eq-eqb (slice_index p.cells a) 0 (free_parts p a b free).white) ∙ ap (λ d. is_attacked_past p a d b || is_king_step a b) e
    ∙ sym (attacked_past p (with_kings p a b) White a b lb (crowned p a b White size la lb free))

pub for_black : (p : Board) (side : Colour) (pairs plane : List ℕ) → length p.cells ≡ 64 →
    side ≡ White → AreFirst p side pairs →
    IsPlaneOf plane (λ a b. has_pair pairs b a) → AreAttacked p Black plane
for_black p side pairs plane size e h turn a b la lb free =
    turn a b la lb
    ∙ h b a lb la (eq-eqb (slice_index p.cells b) 0 (free_parts p a b free).black)
    ∙ ap (λ d. is_attacked_past p b d a || is_king_step b a) e
    ∙ sym (attacked_past p (with_kings p a b) Black b a la (crowned p a b Black size la lb free))
