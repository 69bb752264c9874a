-- Kings on any two squares for them make a position of the same shape.
use Rattle.std.proofs.Common.{◌≡◌, ◌≢◌, ℕ, ◌+◌, ◌<◌, Bool, true, false, ◌&&◌, ◌||◌, cond, not, ◌⊎◌, Option, None, Some, max, length, length-set, slice_index, slice_set, get_or-set_other, refl, ap, sym, ◌∙◌, arith, inl, inr}
use Rattle.std.specs.Prelude.{◌==◌, count_by, nat_le, Result, Ok, Err, is_ok, if◌then◌else◌}
use Rattle.std.specs.Cmp.{both_ways}
use Rattle.std.proofs.lemmas.Bool.{cases_Bool, cases_eq, and_from, and_parts, eqb-true, eq-eqb, false_from_ne_true, or_from, or_parts, not_from_false}
use Rattle.std.proofs.lemmas.List.Sums.{sum_by-set}
use Rattle.frz_board.specs.declared.man.Colour.{Colour}
use Rattle.frz_board.specs.declared.man.Colour.TheVariants.{White, Black}
use Rattle.frz_board.specs.declared.man.Kind.TheVariants.{King, Pawn}
use Rattle.frz_board.specs.declared.shape.Shape.{Shape}
use Rattle.frz_board.specs.declared.shape.Shape.TheVariants.{Kings, PawnRank, TooMany, EpPlace}
use Rattle.frz_board.specs.Boards.{Board, has, is_empty}
use Rattle.frz_board.specs.EnPassant.{ahead, has_passed, has_pawn_beside, has_target_in_place, is_passing_rank, target_stands}
use Rattle.frz_board.specs.Men.{cell_of_man, is_man_of, man_of_cell, other_of}
use Rattle.frz_board.specs.Shapes.{count_of, has_few_men, has_kings, has_pawn, has_pawns_inside, is_end, men_of, shape_of}
use Rattle.frz_board.specs.Squares.{is_beside, distance, files_apart, ranks_apart}
use Rattle.frz_board.proofs.Lemmas.{other_other}
use Rattle.frz_squares.proofs.Lemmas.{all_squares-same, any_square, same_not, some_square}
use Rattle.frz_king_planes.specs.Kings.{are_free, king_cell, with_kings}
use Rattle.frz_king_planes.specs.Room.{are_rooms, is_room, was_passed}
use Rattle.frz_king_planes.specs.Valid.{has_shape}
use Rattle.frz_king_planes.proofs.Crowned.{Crowned, crowned, free_parts}

-- a pawn of either side
abbrev is_pawns : ℕ → Bool
is_pawns x =
    x == cell_of_man (record { colour = White; kind = Pawn })
    || x == cell_of_man (record { colour = Black; kind = Pawn })

abbrev is_pawn_of : Colour → ℕ → Bool
is_pawn_of c x = x == cell_of_man (record { colour = c; kind = Pawn })

no_pawn : (c : Colour) → is_pawn_of c 0 ≡ false
no_pawn White = refl
no_pawn Black = refl

king_no_pawn : (c d : Colour) → is_pawn_of c (king_cell d) ≡ false
king_no_pawn White White = refl
king_no_pawn White Black = refl
king_no_pawn Black White = refl
king_no_pawn Black Black = refl

abbrev one : (ℕ → Bool) → ℕ → ℕ
one f x = cond (f x) 1 0

-- what is asked of the men of the board without kings
abbrev admits : Board → Bool
admits p = count_of p White King + 1 == 1 && count_of p Black King + 1 == 1

abbrev pub has_room_for_kings : Board → Bool
has_room_for_kings p = nat_le (men_of p White + 1) 16 && nat_le (men_of p Black + 1) 16

module _ (p : Board) (a b : ℕ) (size : length p.cells ≡ 64) (la : a < 64) (lb : b < 64)
    (free : are_free p a b ≡ true) where
  abbrev q : Board
  q = with_kings p a b

  w : Crowned p q White a b
  w = crowned p a b White size la lb free

  pub same_test : (f : ℕ → Bool) → f 0 ≡ false → f (king_cell White) ≡ false →
      f (king_cell Black) ≡ false → (x : ℕ) → f (slice_index q.cells x) ≡ f (slice_index p.cells x)
  same_test f none white black x =
      elim (cases_eq x a) [
        | inl e ↦ ap (λ k. f (slice_index q.cells k)) e ∙ ap f w.own ∙ white ∙ sym none
            ∙ ap f (sym w.own_empty) ∙ ap (λ k. f (slice_index p.cells k)) (sym e)
        | inr na ↦ elim (cases_eq x b) [
          | inl e ↦ ap (λ k. f (slice_index q.cells k)) e ∙ ap f w.other ∙ black ∙ sym none
              ∙ ap f (sym w.other_empty) ∙ ap (λ k. f (slice_index p.cells k)) (sym e)
          | inr nb ↦ ap f (w.rest x na nb)
        ]
      ]

  same_pawn : (c : Colour) (x : ℕ) → has q c Pawn x ≡ has p c Pawn x
  same_pawn c x =
      same_test (is_pawn_of c) (no_pawn c) (king_no_pawn c White) (king_no_pawn c Black) x

  same_pawns : has_pawns_inside q ≡ has_pawns_inside p
  unfolding has_pawns_inside
  same_pawns =
      all_squares-same (λ s. not (is_end s && has_pawn q s)) (λ s. not (is_end s && has_pawn p s))
      (λ s l. ap (λ x. not (is_end s && x)) (same_test is_pawns refl refl refl s))

  counted : (f : ℕ → Bool) → f 0 ≡ false →
      count_by f q.cells ≡ count_by f p.cells + (one f (king_cell White) + one f (king_cell Black))
  counted f none =
      let white : ℕ = king_cell White in
      let zero : one f 0 ≡ 0 = ap (λ x. cond x 1 0) none in
      let parts = free_parts p a b free in
      let first = sum_by-set (one f) p.cells a white 0 (omega arith) in
      let long : b < length (slice_set p.cells a white) = rw length-set (omega arith) in
      let second = sum_by-set (one f) (slice_set p.cells a white) b (king_cell Black) 0 long in
      let same = ap (one f) (get_or-set_other p.cells a b white 0 (λ e. parts.apart (sym e))) in
      let at_a = ap (one f) parts.white in
      let at_b = ap (one f) parts.black in
      omega (arith, zero, first, second, same, at_a, at_b)

  same_kings : has_kings q ≡ admits p
  unfolding has_kings
  same_kings =
      ap (λ n. n == 1 && count_of q Black King == 1) (counted (λ x. x == king_cell White) refl)
      ∙ ap (λ n. count_of p White King + 1 == 1 && n == 1)
      (counted (λ x. x == king_cell Black) refl)

  same_men : has_few_men q ≡ has_room_for_kings p
  unfolding has_few_men men_of
  same_men =
      ap (λ n. nat_le n 16 && nat_le (men_of q Black) 16)
      (counted (λ x. is_man_of White (man_of_cell x)) refl)
      ∙ ap (λ n. nat_le (men_of p White + 1) 16 && nat_le n 16)
      (counted (λ x. is_man_of Black (man_of_cell x)) refl)

  same_empty : (x : ℕ) → x ≢ a → x ≢ b → is_empty q x ≡ is_empty p x
  same_empty x na nb = ap (λ v. v == 0) (w.rest x na nb)

  same_beside : (c : Colour) (x : ℕ) → has_pawn_beside q c x ≡ has_pawn_beside p c x
  same_beside c x =
      both_ways (has_pawn_beside q c x) (has_pawn_beside p c x)
      (λ h. let found = some_square (λ s. is_beside s x && has q c Pawn s) h in
      any_square (λ s. is_beside s x && has p c Pawn s) found.square found.on_board
      (ap (λ v. is_beside found.square x && v) (sym (same_pawn c found.square)) ∙ found.passes))
      (λ h. let found = some_square (λ s. is_beside s x && has p c Pawn s) h in
      any_square (λ s. is_beside s x && has q c Pawn s) found.square found.on_board
      (ap (λ v. is_beside found.square x && v) (same_pawn c found.square) ∙ found.passes))

  king_full : (x : ℕ) → (x ≡ a) ⊎ (x ≡ b) → is_empty q x ≡ false
  king_full x (inl e) = ap (is_empty q) e ∙ ap (λ v. v == 0) w.own
  king_full x (inr e) = ap (is_empty q) e ∙ ap (λ v. v == 0) w.other

  -- a target that is in place leaves its squares empty
  not_passed : (o : Option ℕ) (x : ℕ) → (x ≡ a) ⊎ (x ≡ b) → target_stands q o ≡ true →
      was_passed o p.turn x ≡ false
  not_passed None x here h = refl
  not_passed (Some t) x here h =
      let c : Colour = other_of p.turn in
      let passed = and_parts (has_passed q c t) (has_pawn_beside q (other_of c) (ahead c t)) h in
      let empty = and_parts (is_passing_rank c t && (is_empty q t && is_empty q (ahead (other_of c) t)))
      (has q c Pawn (ahead c t)) passed.0 in
      let rank = and_parts (is_passing_rank c t) (is_empty q t && is_empty q (ahead (other_of c) t))
      empty.0 in
      let both = and_parts (is_empty q t) (is_empty q (ahead (other_of c) t)) rank.1 in
      let full = king_full x here in
      ap (λ r. r && (x == t || x == ahead p.turn t)) rank.0
      ∙ or_from (x == t) (x == ahead p.turn t)
      (false_from_ne_true (x == t) (λ e. let same = ap (is_empty q) (eqb-true x t e) in
      let there = both.0 in cc))
      (false_from_ne_true (x == ahead p.turn t) (λ e.
      let same = ap (is_empty q) (eqb-true x (ahead p.turn t) e) in
      let turn = ap (λ d. is_empty q (ahead d t)) (other_other p.turn) in let there = both.1 in cc))

  pub in_rooms : has_target_in_place q ≡ true → (is_room p a && is_room p b) ≡ true
  unfolding has_target_in_place
  in_rooms h =
      and_from (is_room p a) (is_room p b)
      (and_from (is_empty p a) (not (was_passed p.ep p.turn a))
      (eq-eqb (slice_index p.cells a) 0 w.own_empty)
      (not_from_false (was_passed p.ep p.turn a) (not_passed p.ep a (inl refl) h)))
      (and_from (is_empty p b) (not (was_passed p.ep p.turn b))
      (eq-eqb (slice_index p.cells b) 0 w.other_empty)
      (not_from_false (was_passed p.ep p.turn b) (not_passed p.ep b (inr refl) h)))

  other_place : (x y : ℕ) → (x == y) ≡ false → y ≢ x
  other_place x y h e = let same = eq-eqb x y (sym e) in absurd cc

  passed_parts : (r x y : Bool) → (r && (x || y)) ≡ false → r ≡ true → (x ≡ false) × (y ≡ false)
  passed_parts true x y h e = or_parts x y h
  passed_parts false x y h e = absurd cc

  target_kept : (o : Option ℕ) → was_passed o p.turn a ≡ false → was_passed o p.turn b ≡ false →
      target_stands q o ≡ target_stands p o
  target_kept None na nb = refl
  target_kept (Some t) na nb = elim (cases_Bool (is_passing_rank (other_of p.turn) t)) [
    | inl rank ↦ stands rank
    | inr rank ↦ ap (λ r. ((r && (is_empty q t && is_empty q (ahead (other_of (other_of p.turn)) t)))
        && has q (other_of p.turn) Pawn (ahead (other_of p.turn) t))
        && has_pawn_beside q (other_of (other_of p.turn)) (ahead (other_of p.turn) t)) rank
        ∙ sym (ap (λ r. ((r && (is_empty p t && is_empty p (ahead (other_of (other_of p.turn)) t)))
        && has p (other_of p.turn) Pawn (ahead (other_of p.turn) t))
        && has_pawn_beside p (other_of (other_of p.turn)) (ahead (other_of p.turn) t)) rank)
  ]
    where
      stands : is_passing_rank (other_of p.turn) t ≡ true → target_stands q (Some t)
          ≡ target_stands p (Some t)
      stands rank =
          let c : Colour = other_of p.turn in
          let at_a = passed_parts (is_passing_rank c t) (a == t) (a == ahead p.turn t) na rank in
          let at_b = passed_parts (is_passing_rank c t) (b == t) (b == ahead p.turn t) nb rank in
          let first = same_empty t (other_place a t at_a.0) (other_place b t at_b.0) in
          let behind = ap (λ d. is_empty q (ahead d t)) (other_other p.turn)
          ∙ same_empty (ahead p.turn t) (other_place a (ahead p.turn t) at_a.1)
          (other_place b (ahead p.turn t) at_b.1)
          ∙ sym (ap (λ d. is_empty p (ahead d t)) (other_other p.turn)) in
          ap (λ x. ((is_passing_rank c t && (x && is_empty q (ahead (other_of c) t)))
          && has q c Pawn (ahead c t)) && has_pawn_beside q (other_of c) (ahead c t)) first
          ∙ ap (λ x. ((is_passing_rank c t && (is_empty p t && x))
          && has q c Pawn (ahead c t)) && has_pawn_beside q (other_of c) (ahead c t)) behind
          ∙ ap (λ x. ((is_passing_rank c t && (is_empty p t && is_empty p (ahead (other_of c) t)))
          && x) && has_pawn_beside q (other_of c) (ahead c t)) (same_pawn c (ahead c t))
          ∙ ap (λ x. ((is_passing_rank c t && (is_empty p t && is_empty p (ahead (other_of c) t)))
          && has p c Pawn (ahead c t)) && x) (same_beside (other_of c) (ahead c t))

  same_target : is_room p a ≡ true → is_room p b ≡ true →
      has_target_in_place q ≡ has_target_in_place p
  unfolding has_target_in_place
  same_target ra rb =
      let pa = and_parts (is_empty p a) (not (was_passed p.ep p.turn a)) ra in
      let pb = and_parts (is_empty p b) (not (was_passed p.ep p.turn b)) rb in
      target_kept p.ep
      (false_from_ne_true (was_passed p.ep p.turn a) (λ e. let no = ap not e in let yes = pa.1 in cc))
      (false_from_ne_true (was_passed p.ep p.turn b) (λ e. let no = ap not e in let yes = pb.1 in cc))

  pub same_shape : is_room p a ≡ true → is_room p b ≡ true → has_shape q
      ≡ ((admits p && has_pawns_inside p) && (has_room_for_kings p && has_target_in_place p))
  same_shape ra rb =
      ap (λ x. (x && has_pawns_inside q) && (has_few_men q && has_target_in_place q)) same_kings
      ∙ ap (λ x. (admits p && x) && (has_few_men q && has_target_in_place q)) same_pawns
      ∙ ap (λ x. (admits p && has_pawns_inside p) && (x && has_target_in_place q)) same_men
      ∙ ap (λ x. (admits p && has_pawns_inside p) && (has_room_for_kings p && x))
      (same_target ra rb)

-- squares that are apart differ
same_place : (a : ℕ) → distance a a ≡ 0
same_place a =
    let files : files_apart a a ≡ 0 = omega arith in
    let ranks : ranks_apart a a ≡ 0 = omega arith in
    ap (λ f. max f (ranks_apart a a)) files ∙ ap (λ r. max 0 r) ranks

differ : (a b : ℕ) → nat_le 2 (distance a b) ≡ true → a ≢ b
differ a b h e =
    let here = ap (λ k. nat_le 2 (distance a k)) (sym e) in
    let none = ap (λ n. nat_le 2 n) (same_place a) in cc

pub rooms_free : (p : Board) (a b : ℕ) → are_rooms p a b ≡ true → are_free p a b ≡ true
rooms_free p a b h =
    let parts = and_parts (is_room p a && is_room p b) (nat_le 2 (distance a b)) h in
    let both = and_parts (is_room p a) (is_room p b) parts.0 in
    let white = and_parts (is_empty p a) (not (was_passed p.ep p.turn a)) both.0 in
    let black = and_parts (is_empty p b) (not (was_passed p.ep p.turn b)) both.1 in
    and_from (not (a == b)) (is_empty p a && is_empty p b)
    (same_not a b (differ a b parts.1))
    (and_from (is_empty p a) (is_empty p b) white.0 black.0)

-- kings on two pairs of squares for them make positions of one shape
pub one_shape : (p : Board) (a b x y : ℕ) → length p.cells ≡ 64 → a < 64 → b < 64 → x < 64 →
    y < 64 → are_rooms p a b ≡ true → are_rooms p x y ≡ true →
    has_shape (with_kings p a b) ≡ has_shape (with_kings p x y)
one_shape p a b x y size la lb lx ly h k =
    let first = and_parts (is_room p a && is_room p b) (nat_le 2 (distance a b)) h in
    let second = and_parts (is_room p x && is_room p y) (nat_le 2 (distance x y)) k in
    let here = and_parts (is_room p a) (is_room p b) first.0 in
    let there = and_parts (is_room p x) (is_room p y) second.0 in
    same_shape p a b size la lb (rooms_free p a b h) here.0 here.1
    ∙ sym (same_shape p x y size lx ly (rooms_free p x y k) there.0 there.1)

-- the first fault of four conditions
abbrev fault : (k i f t : Bool) → Result (Unit {0}) Shape
fault k i f t =
    if not k then Err Kings else (if not i then Err PawnRank else
    (if not f then Err TooMany else (if not t then Err EpPlace else Ok tt)))

told : (k i f t : Bool) → is_ok (fault k i f t) ≡ ((k && i) && (f && t))
told false i f t = refl
told true false f t = refl
told true true false t = refl
told true true true false = refl
told true true true true = refl

pub shape_told : (p : Board) → is_ok (shape_of p) ≡ has_shape p
shape_told p =
    told (has_kings p) (has_pawns_inside p) (has_few_men p) (has_target_in_place p)
