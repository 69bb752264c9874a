-- A side with 16 men has at most 1,024 legal moves.
use Rattle.std.proofs.Common.{◌≡◌, ℕ, ◌*◌, ◌≤◌, List, [], ◌∷◌, length, refl, Bool, true, false, cond, ◌&&◌, ◌||◌, not, arith, Option, None, Some}
use Rattle.std.specs.Prelude.{nat_le, is_some, is_none, count_by, sum_by, if◌then◌else◌, ◌==◌}
use Rattle.std.specs.List.{list_all}
use Rattle.std.proofs.lemmas.List.Sums.{length-filter, sum_by-cons, sum_by-le-sum_by}
use Rattle.std.proofs.lemmas.List.Concat.{length-flat_map}
use Rattle.std.proofs.lemmas.Bool.{and_parts}
use Rattle.frz_board.specs.Attacks.{is_in_check}
use Rattle.frz_board.specs.Boards.{Board, holds, man_on, is_empty}
use Rattle.frz_board.specs.Men.{other_of, same_colour, is_man_of}
use Rattle.frz_board.specs.Moving.{is_promotion}
use Rattle.frz_board.specs.Shapes.{men_of, has_few_men}
use Rattle.frz_board.specs.Squares.{squares, is_forward, files_apart}
use Rattle.frz_bits.proofs.Lemmas.{men_by_squares}
use Rattle.frz_fide.specs.Legal.{is_legal, can_go, man_goes, goes, promotes, is_last, is_home, passed_over, is_target, after}
use Rattle.frz_fide.specs.Listing.{steps_between}
use Rattle.frz_fide.specs.SquareBySquare.{legal_between, legal_from, legal_by_squares}
use Rattle.frz_fide.specs.Valid.{IsValid}
use Rattle.frz_board.specs.declared.man.Colour.{Colour}
use Rattle.frz_board.specs.declared.man.Colour.TheVariants.{White, Black}
use Rattle.frz_board.specs.declared.man.Kind.{Kind}
use Rattle.frz_board.specs.declared.man.Kind.TheVariants.{King, Queen, Rook, Bishop, Knight, Pawn}
use Rattle.frz_board.specs.declared.man.Man.{Man}
use Rattle.std.proofs.lemmas.Bool.Decides.{nat_tests}

-- a pawn goes at most two ranks forward, and may become one of four men
abbrev pub pawn_room : Colour → ℕ → ℕ → ℕ
pawn_room c a b = cond (is_forward c 1 a b || is_forward c 2 a b) 4 0

le_from_test : (m n : ℕ) → nat_le m n ≡ true → m ≤ n
le_from_test m n h = grind (arith, nat_tests)

-- from the square a, the pawn moves counted by pawn_room are at most 64, for White and for Black
abbrev pub fits_rank : ℕ → Bool
fits_rank a =
    nat_le (sum_by (pawn_room White a) squares) 64 && nat_le (sum_by (pawn_room Black a) squares) 64

pub table : list_all fits_rank squares ≡ true
unfolding squares
table = refl

-- at most this many of the steps from a to b are moves of the man
abbrev pub kind_room : Colour → Kind → ℕ → ℕ → ℕ
kind_room c Pawn a b = pawn_room c a b
kind_room c k a b = 1

abbrev pub man_room : Colour → Option Man → ℕ → ℕ → ℕ
man_room t None a b = 0
man_room t (Some man) a b = cond (same_colour man.colour t) (kind_room man.colour man.kind a b) 0

-- a man that is no pawn has one move to a square
one_way : (s n r : Bool) →
    count_by (λ (k : Option Kind). (s && n) && (r && is_none k))
    (None ∷ Some Queen ∷ Some Rook ∷ Some Bishop ∷ Some Knight ∷ []) ≤ cond s 1 0
one_way true true true = omega arith
one_way true true false = omega arith
one_way true false r = omega arith
one_way false n r = omega arith

-- a pawn has one move to a square, or four to a square of its last rank
pawn_ways : (s n g last w : Bool) → (g ≡ true → w ≡ true) →
    count_by (λ (k : Option Kind). (s && n)
    && (g && (is_promotion k && (if last then is_some k else is_none k))))
    (None ∷ Some Queen ∷ Some Rook ∷ Some Bishop ∷ Some Knight ∷ []) ≤ cond s (cond w 4 0) 0
pawn_ways true true true true true h = omega arith
pawn_ways true true true false true h = omega arith
pawn_ways true true true last false h = absurd (cc (h refl))
pawn_ways true true false last w h = omega arith
pawn_ways true false g last w h = omega arith
pawn_ways false n g last w h = omega arith

-- a pawn that goes from a to b goes one or two ranks forward
pub forward_only : (d1 f1 x f0 e h f2 y z : Bool) →
    ((((d1 && f1) && x) || ((f0 && f1) && e)) || (((h && (f0 && f2)) && y) || ((d1 && f1) && z)))
    ≡ true → (f1 || f2) ≡ true
forward_only d1 true x f0 e h f2 y z g = refl
forward_only d1 false x f0 e h true y z g = refl
forward_only true false x true e true false y z g = cc
forward_only true false x true e false false y z g = cc
forward_only true false x false e true false y z g = cc
forward_only true false x false e false false y z g = cc
forward_only false false x true e true false y z g = cc
forward_only false false x true e false false y z g = cc
forward_only false false x false e true false y z g = cc
forward_only false false x false e false false y z g = cc

abbrev pub promotions : List (Option Kind)
promotions = None ∷ Some Queen ∷ Some Rook ∷ Some Bishop ∷ Some Knight ∷ []

kind_ways : (p : Board) (c : Colour) (k : Kind) (s n : Bool) (a b : ℕ) →
    count_by (λ promo. (s && n) && (goes p c k a b && promotes c k b promo)) promotions ≤ cond s
    (kind_room c k a b) 0
kind_ways p c King s n a b = one_way s n (goes p c King a b)
kind_ways p c Queen s n a b = one_way s n (goes p c Queen a b)
kind_ways p c Rook s n a b = one_way s n (goes p c Rook a b)
kind_ways p c Bishop s n a b = one_way s n (goes p c Bishop a b)
kind_ways p c Knight s n a b = one_way s n (goes p c Knight a b)
kind_ways p c Pawn s n a b =
    pawn_ways s n (goes p c Pawn a b) (is_last c b) (is_forward c 1 a b || is_forward c 2 a b)
    (forward_only (files_apart a b == 1) (is_forward c 1 a b) (holds p (other_of c) b)
    (files_apart a b == 0) (is_empty p b) (is_home c a) (is_forward c 2 a b)
    (is_empty p b && is_empty p (passed_over a b)) (is_target p.ep b))

man_ways : (p : Board) (t : Colour) (o : Option Man) (n : Bool) (a b : ℕ) →
    count_by (λ promo. (is_man_of t o && n) && man_goes p o
    (record { from = a; to = b; promo = promo })) promotions ≤ man_room t o a b
man_ways p t None n a b = omega arith
man_ways p t (Some man) n a b = kind_ways p man.colour man.kind (same_colour man.colour t) n a b

and_fewer : (x y : Bool) → cond (x && y) 1 0 ≤ cond x 1 0
and_fewer true true = omega arith
and_fewer true false = omega arith
and_fewer false y = omega arith

between_room : (p : Board) (a b : ℕ) →
    length (legal_between p a b) ≤ man_room p.turn (man_on p a) a b
unfolding legal_between is_legal
between_room p a b =
    let legal = length-filter (is_legal p) (steps_between a b) in
    let fewer = sum_by-le-sum_by (λ m. cond (is_legal p m) 1 0) (λ m. cond (can_go p m) 1 0)
    (steps_between a b) (λ m. and_fewer (can_go p m) (not (is_in_check (after p m) p.turn))) in
    let ways = man_ways p p.turn (man_on p a) (not (holds p p.turn b)) a b in
    omega (arith, legal, fewer, ways)

sum_of_zeros : sum_by (λ (b : ℕ). 0) squares ≤ 0
unfolding squares
sum_of_zeros = omega arith

sum_of_ones : sum_by (λ (b : ℕ). 1) squares ≤ 64
unfolding squares
sum_of_ones = omega arith

room_sum : (a : ℕ) → fits_rank a ≡ true → (s : Bool) (c : Colour) (k : Kind) →
    sum_by (λ b. cond s (kind_room c k a b) 0) squares ≤ cond s 64 0
room_sum a fits false c k = sum_of_zeros
room_sum a fits true c King = sum_of_ones
room_sum a fits true c Queen = sum_of_ones
room_sum a fits true c Rook = sum_of_ones
room_sum a fits true c Bishop = sum_of_ones
room_sum a fits true c Knight = sum_of_ones
room_sum a fits true White Pawn = le_from_test _ _ (and_parts _ _ fits).0
room_sum a fits true Black Pawn = le_from_test _ _ (and_parts _ _ fits).1

man_room_sum : (a : ℕ) → fits_rank a ≡ true → (t : Colour) (o : Option Man) →
    sum_by (λ b. man_room t o a b) squares ≤ cond (is_man_of t o) 64 0
man_room_sum a fits t None = sum_of_zeros
man_room_sum a fits t (Some man) = room_sum a fits (same_colour man.colour t) man.colour man.kind

from_room : (p : Board) (a : ℕ) → fits_rank a ≡ true →
    length (legal_from p a) ≤ cond (holds p p.turn a) 64 0
unfolding legal_from
from_room p a fits =
    let whole = length-flat_map (λ b. legal_between p a b) squares in
    let fewer = sum_by-le-sum_by (λ b. length (legal_between p a b))
    (λ b. man_room p.turn (man_on p a) a b) squares (λ b. between_room p a b) in
    omega (arith, whole, fewer, man_room_sum a fits p.turn (man_on p a))

sum_tested : (f g : ℕ → ℕ) (t : ℕ → Bool) → ((x : ℕ) → t x ≡ true → f x ≤ g x) → (xs : List ℕ) →
    list_all t xs ≡ true → sum_by f xs ≤ sum_by g xs
sum_tested f g t h [] e = omega arith
sum_tested f g t h (x ∷ xs) e =
    let both = and_parts (t x) (list_all t xs) e in
    omega (arith, sum_by-cons f x xs, sum_by-cons g x xs, h x both.0, sum_tested f g t h xs both.1)

sixty_four : (q : Bool) → cond q 64 0 ≡ 64 * cond q 1 0
sixty_four true = omega arith
sixty_four false = omega arith

times_count : (q : ℕ → Bool) (xs : List ℕ) → sum_by (λ x. cond (q x) 64 0) xs ≡ 64 * count_by q xs
times_count q [] = omega arith
times_count q (x ∷ xs) =
    omega (
      arith,
      sum_by-cons (λ y. cond (q y) 64 0) x xs,
      sum_by-cons (λ y. cond (q y) 1 0) x xs,
      times_count q xs,
      sixty_four (q x),
    )

pub few : (p : Board) (c : Colour) → has_few_men p ≡ true → men_of p c ≤ 16
unfolding has_few_men
few p White h = le_from_test _ _ (and_parts _ _ h).0
few p Black h = le_from_test _ _ (and_parts _ _ h).1

pub legal_room : (p : Board) → IsValid p → length (legal_by_squares p) ≤ 1024
unfolding legal_by_squares
legal_room p v =
    let whole = length-flat_map (λ a. legal_from p a) squares in
    let fewer = sum_tested (λ a. length (legal_from p a)) (λ a. cond (holds p p.turn a) 64 0)
    fits_rank (from_room p) squares table in
    let count = times_count (λ a. holds p p.turn a) squares in
    omega (arith, whole, fewer, count, men_by_squares p p.turn v.fits.size, few p p.turn v.men)
