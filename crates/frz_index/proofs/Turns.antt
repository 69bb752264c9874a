-- Turn states, both ways.
use Rattle.std.proofs.Common.{◌≡◌, ℕ, zero, suc, ◌+◌, ◌<◌, ◌≤◌, Bool, true, false, ◌&&◌, ◌||◌, cond, Option, None, Some, List, [], ◌∷◌, length, filter, slice_index, get_or, ◌≢◌, refl, ap, sym, ◌∙◌, arith, inl, inr}
use Rattle.std.specs.Prelude.{◌==◌}
use Rattle.std.specs.List.{list_any, range_with_len, slice_get}
use Rattle.std.proofs.lemmas.Bool.{eqb-true, eq-eqb, cases_lt, and_from, and_parts, false_from_ne_true, or_right}
use Rattle.std.proofs.lemmas.Map.Views.{any-filter_same}
use Rattle.std.proofs.lemmas.List.Folds.{list_any_at}
use Rattle.std.proofs.lemmas.List.{get_or_past}
use Rattle.std.proofs.lemmas.Option.{same_Some, slice_get-get_or, slice_get_within}
use Rattle.frz_board.specs.Boards.{Board, has, is_empty}
use Rattle.frz_board.specs.EnPassant.{ahead, has_passed, has_pawn_beside, has_target_in_place, is_passed, is_passing_rank, target_stands}
use Rattle.frz_board.specs.Men.{cell_of_man, other_of}
use Rattle.frz_board.specs.Squares.{files_apart, rank_of, ranks_apart, squares}
use Rattle.frz_board.specs.declared.man.Colour.{Colour}
use Rattle.frz_board.specs.declared.man.Colour.TheVariants.{Black, White}
use Rattle.frz_board.specs.declared.man.Kind.{Kind}
use Rattle.frz_board.specs.declared.man.Kind.TheVariants.{Pawn}
use Rattle.frz_board.proofs.Lemmas.{cell-some}
use Rattle.frz_squares.proofs.Lemmas.{get_or-squares, length-squares}
use Rattle.frz_index.specs.Members.{Member}
use Rattle.frz_index.specs.TurnStates.{mover_at_target, place_of, target_state, turn_in, turn_number}
use Rattle.frz_sets.specs.Sets.{has_state, is_possible, is_possible_for, pawn, targets}
use Rattle.frz_sets.specs.Views.{GroupLine}

-- the place in a list is that of its first element, or later
pub place_at : (x y : ℕ) (ys : List ℕ) (b : Bool) → (x == y) ≡ b →
    place_of x (y ∷ ys) ≡ cond b 0 (suc (place_of x ys))
place_at x y ys b e = ap (λ b. cond b 0 (suc (place_of x ys))) e

-- what is among them is found at its place
pub place_found : (x : ℕ) (ys : List ℕ) → list_any (λ y. x == y) ys ≡ true →
    slice_get ys (place_of x ys) ≡ Some x
place_found x [] h = absurd cc
place_found x (y ∷ ys) h =
    let found_first_or_later : (b : Bool) → (x == y) ≡ b
    → slice_get (y ∷ ys) (place_of x (y ∷ ys)) ≡ Some x =
    λ b. elim b as (λ b. (x == y) ≡ b → slice_get (y ∷ ys) (place_of x (y ∷ ys)) ≡ Some x) [
      | true ↦
          λ e. ap (slice_get (y ∷ ys)) (place_at x y ys true e) ∙ ap Some (sym (eqb-true x y e))
      | false ↦
          λ e. ap (slice_get (y ∷ ys)) (place_at x y ys false e)
          ∙ place_found x ys (ap (λ b. b || list_any (λ y. x == y) ys) (sym e) ∙ h)
    ] in
    found_first_or_later (x == y) refl

-- the turn state is found again
pub turn_back : (gs : List GroupLine) (c : Colour) (o : Option ℕ) →
    ((t : ℕ) → o ≡ Some t → (list_any (λ y. t == y) (targets gs) ≡ true) × (mover_at_target t ≡ c))
    → turn_in (targets gs) (turn_number gs c o) ≡ (c, o)
turn_back gs c (Some t) h =
    let f = h t refl in
    ap target_state (place_found t (targets gs) f.0) ∙ ap (λ d. (d, Some t)) f.1
turn_back gs White None h = refl
turn_back gs Black None h = refl

-- numbers that grow, from the first on
abbrev AreGrowing : ℕ → List ℕ → Type 0
AreGrowing n [] = Unit {0}
AreGrowing n (t ∷ ts) = (n ≤ t) × AreGrowing (t + 1) ts

growing_low : (n : ℕ) (ts : List ℕ) (k t : ℕ) → AreGrowing n ts → slice_get ts k ≡ Some t → n ≤ t
growing_low n [] k t h e = absurd cc
growing_low n (u ∷ ts) zero t h e = omega (arith, h.0, same_Some u t e)
growing_low n (u ∷ ts) (suc k) t h e =
    omega (arith, h.0, growing_low (u + 1) ts k t h.1 e)

growing_wider : (m n : ℕ) (ts : List ℕ) → m ≤ n → AreGrowing n ts → AreGrowing m ts
growing_wider m n [] l h = tt
growing_wider m n (t ∷ ts) l h = (omega (arith, l, h.0), h.1)

filter_grows : (f : ℕ → Bool) (a n : ℕ) → AreGrowing a (filter f (range_with_len a n))
filter_grows f a zero = tt
filter_grows f a (suc n) =
    let later = filter f (range_with_len (a + 1) n) in
    let rest : AreGrowing (a + 1) later = filter_grows f (a + 1) n in
    let grows_either_way : (b : Bool) → AreGrowing a (cond b (a ∷ later) later) =
    λ b. elim b as (λ b. AreGrowing a (cond b (a ∷ later) later)) [
      | true ↦ (omega arith, rest)
      | false ↦ growing_wider a (a + 1) later (omega arith) rest
    ] in
    grows_either_way (f a)

targets_grow : (gs : List GroupLine) → AreGrowing 0 (targets gs)
unfolding squares
targets_grow gs = filter_grows (is_possible gs) 0 64

-- among them each is at its own place
place_own : (n : ℕ) (ts : List ℕ) (k t : ℕ) → AreGrowing n ts → slice_get ts k ≡ Some t →
    place_of t ts ≡ k
place_own n [] k t h e = absurd cc
place_own n (u ∷ ts) zero t h e =
    place_at t u ts true (eq-eqb t u (sym (same_Some u t e)))
place_own n (u ∷ ts) (suc k) t h e =
    let low = growing_low (u + 1) ts k t h.1 e in
    let other : (t == u) ≡ false = false_from_ne_true (t == u)
    (λ same. let is = eqb-true t u same in absurd (omega (arith, low, is))) in
    place_at t u ts false other ∙ ap suc (place_own (u + 1) ts k t h.1 e)

-- the number of a turn state is found again
pub turn_forth : (gs : List GroupLine) (n : ℕ) → n < 2 + length (targets gs) →
    turn_number gs (turn_in (targets gs) n).0 (turn_in (targets gs) n).1 ≡ n
turn_forth gs zero h = refl
turn_forth gs (suc zero) h = refl
turn_forth gs (suc (suc k)) h =
    let ts = targets gs in
    let t = get_or ts k 0 in
    let is : slice_get ts k ≡ Some t = slice_get-get_or ts k 0 (omega (arith, h)) in
    ap (λ o. turn_number gs (target_state o).0 (target_state o).1) is
    ∙ ap (λ n. suc (suc n)) (place_own 0 ts k t (targets_grow gs) is)

-- its number is below the number of turn states
place_below : (x : ℕ) (ys : List ℕ) → list_any (λ y. x == y) ys ≡ true → place_of x ys < length ys
place_below x ys h = slice_get_within ys (place_of x ys) x (place_found x ys h)

pub turn_below : (gs : List GroupLine) (c : Colour) (o : Option ℕ) →
    ((t : ℕ) → o ≡ Some t → list_any (λ y. t == y) (targets gs) ≡ true) →
    turn_number gs c o < 2 + length (targets gs)
turn_below gs c (Some t) h = omega (arith, place_below t (targets gs) (h t refl))
turn_below gs White None h = omega arith
turn_below gs Black None h = omega arith

-- what a filter keeps
among_filter : (f : ℕ → Bool) (x : ℕ) (xs : List ℕ) → f x ≡ true →
    list_any (λ y. x == y) xs ≡ true → list_any (λ y. x == y) (filter f xs) ≡ true
among_filter f x xs e h =
    any-filter_same (λ y. x == y) f true (λ y k. ap f (sym (eqb-true x y k)) ∙ e) xs ∙ h

square_among : (s : ℕ) → s < 64 → list_any (λ y. s == y) squares ≡ true
square_among s h =
    list_any_at (λ y. s == y) squares s 0 (omega (arith, length-squares))
    (eq-eqb s (get_or squares s 0) (sym (get_or-squares s h)))

pub is_target_in : (gs : List GroupLine) (t : ℕ) → t < 64 → is_possible gs t ≡ true →
    list_any (λ y. t == y) (targets gs) ≡ true
is_target_in gs t h e = among_filter (is_possible gs) t squares e (square_among t h)

-- a man of the board has a state
pub covered_from : (gs : List GroupLine) (p : Board) → Member gs p → (c : Colour) (k : Kind) (s : ℕ)
    → has p c k s ≡ true → has_state gs (cell_of_man (record { colour = c; kind = k })) s ≡ true
covered_from gs p m c k s h =
    let e = eqb-true (slice_index p.cells s) (cell_of_man (record { colour = c; kind = k })) h in
    let some = cell-some c k in
    let low : s < 64 =
    elim (cases_lt s 64) [
      | inl l ↦ l
      | inr past ↦ absurd (let none = get_or_past p.cells s 0 (omega (arith, m.valid.fits.size)) in
          omega arith)
    ] in
    let there : slice_index p.cells s ≢ 0 = λ none. omega arith in
    ap (λ cell. has_state gs cell s) (sym e) ∙ m.men s low there

or_more : (a b c d : Bool) → (a ≡ true → b ≡ true) → (c ≡ true → d ≡ true) → (a || c) ≡ true →
    (b || d) ≡ true
or_more true b c d f g h = ap (λ x. x || d) (f refl)
or_more false true c d f g h = refl
or_more false false c d f g h = g h

-- a test that holds where another does
any_more : (f g : ℕ → Bool) → ((x : ℕ) → f x ≡ true → g x ≡ true) → (xs : List ℕ) →
    list_any f xs ≡ true → list_any g xs ≡ true
any_more f g h [] e = absurd cc
any_more f g h (x ∷ xs) e =
    or_more (f x) (g x) (list_any f xs) (list_any g xs) (h x) (any_more f g h xs) e

possible_from : (gs : List GroupLine) (c : Colour) (t : ℕ) → is_possible_for gs c t ≡ true →
    is_possible gs t ≡ true
possible_from gs White t h = ap (λ b. b || is_possible_for gs Black t) h
possible_from gs Black t h = or_right (is_possible_for gs White t) (is_possible_for gs Black t) h

mover_is : (d : Colour) (t : ℕ) → is_passing_rank (other_of d) t ≡ true →
    (mover_at_target t ≡ d) × (t < 64)
mover_is White t h =
    let e = eqb-true (rank_of t) 5 h in (ap (λ r. cond (r == 2) Black White) e, omega arith)
mover_is Black t h =
    let e = eqb-true (rank_of t) 2 h in (ap (λ r. cond (r == 2) Black White) e, omega arith)

beside_possible : (gs : List GroupLine) (p : Board) → Member gs p → (c : Colour) (b : ℕ) →
    has_pawn_beside p c b ≡ true →
    list_any (λ s. (ranks_apart s b == 0 && files_apart s b == 1) && has_state gs (pawn c) s)
    squares ≡ true
beside_possible gs p m c b h =
    any_more (λ s. (ranks_apart s b == 0 && files_apart s b == 1) && has p c Pawn s)
    (λ s. (ranks_apart s b == 0 && files_apart s b == 1) && has_state gs (pawn c) s)
    (λ s k. let parts = and_parts (ranks_apart s b == 0 && files_apart s b == 1) (has p c Pawn s)
    k in
    and_from (ranks_apart s b == 0 && files_apart s b == 1) (has_state gs (pawn c) s) parts.0
    (covered_from gs p m c Pawn s parts.1))
    squares h

passed_possible : (gs : List GroupLine) (p : Board) → Member gs p → (c : Colour) (t : ℕ) →
    is_passed p c t ≡ true → (is_passing_rank c t ≡ true) × (is_possible_for gs c t ≡ true)
passed_possible gs p m c t h =
    let parts = and_parts (has_passed p c t) (has_pawn_beside p (other_of c) (ahead c t)) h in
    let pawns = and_parts
    (is_passing_rank c t && (is_empty p t && is_empty p (ahead (other_of c) t)))
    (has p c Pawn (ahead c t)) parts.0 in
    let place = and_parts (is_passing_rank c t) (is_empty p t && is_empty p (ahead (other_of c) t))
    pawns.0 in
    let beside = list_any
    (λ s. (ranks_apart s (ahead c t) == 0 && files_apart s (ahead c t) == 1) && has_state gs
    (pawn (other_of c)) s) squares in (
      place.0,
      and_from (is_passing_rank c t) (has_state gs (pawn c) (ahead c t) && beside) place.0
          (and_from (has_state gs (pawn c) (ahead c t)) beside
          (covered_from gs p m c Pawn (ahead c t) pawns.1)
          (beside_possible gs p m (other_of c) (ahead c t) parts.1)),
    )

-- the target of a position of the set is possible
pub target_place : (gs : List GroupLine) (p : Board) → Member gs p → (t : ℕ) → p.ep ≡ Some t →
    (t < 64) × (is_possible gs t ≡ true) × (mover_at_target t ≡ p.turn)
unfolding has_target_in_place
target_place gs p m t e =
    let stands : is_passed p (other_of p.turn) t ≡ true = ap (target_stands p) (sym e)
    ∙ m.valid.target in
    let f = passed_possible gs p m (other_of p.turn) t stands in
    let mover = mover_is p.turn t f.0 in
    (mover.1, possible_from gs (other_of p.turn) t f.1, mover.0)

pub target_possible : (gs : List GroupLine) (p : Board) → Member gs p → (t : ℕ) → p.ep ≡ Some t →
    (list_any (λ y. t == y) (targets gs) ≡ true) × (mover_at_target t ≡ p.turn)
target_possible gs p m t e =
    let at = target_place gs p m t e in (is_target_in gs t at.0 at.1, at.2)
