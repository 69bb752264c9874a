-- How many men stand as the states of a group say.
use Rattle.std.proofs.Common.{◌≡◌, ◌+◌, ℕ, zero, suc, Bool, true, false, cond, List, [], ◌∷◌, ◌++◌, map, length, Option, Some, refl, sym, ap, ◌∙◌, arith}
use Rattle.std.specs.Prelude.{◌==◌, count_by, slice_get}
use Rattle.std.specs.List.{range_with_len}
use Rattle.std.proofs.lemmas.List.Sums.{sum_by-cons, sum_by-append}
use Rattle.frz_board.specs.declared.man.Colour.{Colour}
use Rattle.frz_board.specs.declared.man.Kind.{Kind}
use Rattle.frz_board.specs.Boards.{Board, has}
use Rattle.frz_board.specs.Men.{cell_of_man}
use Rattle.frz_board.specs.Shapes.{count_of}
use Rattle.frz_board.specs.Squares.{squares}
use Rattle.frz_combinations.specs.Combinations.{places_below}
use Rattle.frz_fide.proofs.Lemmas.{count_by_squares}
use Rattle.frz_index.specs.Places.{stands, places}
use Rattle.frz_sets.specs.Views.{GroupLine}
use Rattle.frz_game.specs.WholeSets.{everywhere, each_everywhere}

abbrev pub number : Bool → ℕ
number b = cond b 1 0

-- one more element
pub count_cons : {X : Type 0} (t : X → Bool) (x : X) (xs : List X) →
    count_by t (x ∷ xs) ≡ number (t x) + count_by t xs
count_cons t x xs = sum_by-cons (λ y. number (t y)) x xs

range_more : (a n : ℕ) → range_with_len a (suc n) ≡ range_with_len a n ++ (a + n) ∷ []
range_more a zero = ap (λ (k : ℕ). k ∷ []) (omega arith)
range_more a (suc n) =
    ap (λ (l : List ℕ). a ∷ l) (range_more (a + 1) n)
    ∙ ap (λ (k : ℕ). a ∷ (range_with_len (a + 1) n ++ k ∷ [])) (omega arith)

place_more : (f : ℕ → Bool) (n : ℕ) (b : Bool) → f n ≡ b →
    length (places_below f (suc n)) ≡ length (places_below f n) + number b
place_more f n true e = rw e (omega arith)
place_more f n false e = rw e (omega arith)

-- the places below a number are counted by their test
places_count : (f : ℕ → Bool) (n : ℕ) → length (places_below f n) ≡ count_by f (range_with_len 0 n)
places_count f zero = refl
places_count f (suc n) =
    let more = ap (count_by f) (range_more 0 n) in
    let split = sum_by-append (λ j. number (f j)) (range_with_len 0 n) ((0 + n) ∷ []) in
    let last = sum_by-cons (λ j. number (f j)) (0 + n) [] in
    let at : 0 + n ≡ n = omega arith in
    let there : number (f (0 + n)) ≡ number (f n) = ap (λ j. number (f j)) at in
    let before = places_count f n in
    let here = place_more f n (f n) refl in
    omega (arith, more, split, last, there, before, here)

-- a test of the elements is counted over their places
listed_count : {X : Type 0} (T : Option X → Bool) (xs : List X) (a : ℕ) (h : ℕ → Bool) →
    ((i : ℕ) → h (a + i) ≡ T (slice_get xs i)) →
    count_by h (range_with_len a (length xs)) ≡ count_by (λ x. T (Some x)) xs
listed_count T [] a h same = refl
listed_count T (x ∷ xs) a h same =
    let first = count_cons h a (range_with_len (a + 1) (length xs)) in
    let second = count_cons (λ y. T (Some y)) x xs in
    let at : a + 0 ≡ a = omega arith in
    let here : number (h a) ≡ number (T (Some x)) =
    ap (λ j. number (h j)) (sym at) ∙ ap number (same 0) in
    let rest = listed_count T xs (a + 1) h
    (λ i. (let e : (a + 1) + i ≡ a + suc i = omega arith in ap h e ∙ same (suc i))) in
    omega (arith, first, second, here, rest)

pub places_counted : (p : Board) (g : GroupLine) →
    length (places p g) ≡ count_by (λ (state : Kind × ℕ). has p g.colour state.0 state.1) g.states
places_counted p g =
    places_count (λ k. stands p g.colour (slice_get g.states k)) (length g.states)
    ∙ listed_count (stands p g.colour) g.states 0
    (λ k. stands p g.colour (slice_get g.states k))
    (λ i. ap (λ j. stands p g.colour (slice_get g.states j)) (omega arith))

-- a count by the images
pub count_mapped : {X Y : Type 0} (t : Y → Bool) (f : X → Y) (xs : List X) →
    count_by t (map f xs) ≡ count_by (λ x. t (f x)) xs
count_mapped t f [] = refl
count_mapped t f (x ∷ xs) =
    let first = count_cons t (f x) (map f xs) in
    let second = count_cons (λ y. t (f y)) x xs in
    let rest = count_mapped t f xs in
    omega (arith, first, second, rest)

pub count_squares : (q : Board) (c : Colour) (k : Kind) → length q.cells ≡ 64 →
    count_by (λ s. has q c k s) squares ≡ count_of q c k
count_squares q c k h =
    count_by_squares (λ x. x == cell_of_man (record { colour = c; kind = k })) q.cells h

-- how many men of the side are of these kinds
abbrev pub count_each : Board → Colour → List Kind → ℕ
count_each q c [] = 0
count_each q c (k ∷ kinds) = count_of q c k + count_each q c kinds

everywhere_counted : (q : Board) (c : Colour) → length q.cells ≡ 64 → (kinds : List Kind) →
    count_by (λ (state : Kind × ℕ). has q c state.0 state.1) (each_everywhere kinds)
    ≡ count_each q c kinds
everywhere_counted q c size [] = refl
everywhere_counted q c size (k ∷ kinds) =
    let t : Kind × ℕ → Bool = λ (state : Kind × ℕ). has q c state.0 state.1 in
    let split = sum_by-append (λ (state : Kind × ℕ). number (t state)) (everywhere k)
    (each_everywhere kinds) in
    let first = count_mapped t (λ (s : ℕ). (k, s)) squares in
    let here = count_squares q c k size in
    let rest = everywhere_counted q c size kinds in
    omega (arith, split, first, here, rest)

-- the places of a group that has these kinds on every square
pub places_of : (q : Board) (g : GroupLine) (kinds : List Kind) → length q.cells ≡ 64 →
    g.states ≡ each_everywhere kinds → length (places q g) ≡ count_each q g.colour kinds
places_of q g kinds size e =
    places_counted q g
    ∙ ap (λ (states : List (Kind × ℕ)). count_by (λ (state : Kind × ℕ).
    has q g.colour state.0 state.1) states) e
    ∙ everywhere_counted q g.colour size kinds
