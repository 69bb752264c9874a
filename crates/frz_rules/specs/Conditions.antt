-- The words of conditions: COND, an optional `!` and a test.
use Rattle.std.specs.Prelude.{ℕ, Bool, true, false, ◌==◌, List, [], ◌∷◌, Option, None, Some, if◌then◌else◌, codes}
use Rattle.frz_board.specs.declared.man.Colour.{Colour}
use Rattle.frz_board.specs.declared.man.Kind.{Kind}
use Rattle.frz_sets.specs.declared.exit.Test.{Test}
use Rattle.frz_sets.specs.declared.exit.Test.TheVariants.{Turn, Count, On, Distance, Check, Always}
use Rattle.frz_sets.specs.Views.{Condition}
use Rattle.frz_rules.specs.Classes.{is, colour_of, kind_of, range_of, is_colon}
use Rattle.frz_words.specs.Parts.{split}
use Rattle.frz_words.specs.Squares.{square_word, squares_of}

-- turn:COLOUR
abbrev pub turn_test : Option Colour → Option Test
turn_test None = None
turn_test (Some c) = Some (Turn c)

-- count:COLOUR:KIND:RANGE
abbrev pub count_test : Option Colour → Option Kind → Option (ℕ × ℕ) → Option Test
count_test (Some c) (Some k) (Some r) = Some (Count c k r.0 r.1)
count_test _ _ _ = None

-- on:COLOUR:KIND:SQUARES
abbrev pub on_test : Option Colour → Option Kind → Option ℕ → Option Test
on_test (Some c) (Some k) (Some set) = Some (On c k set)
on_test _ _ _ = None

-- distance:COLOUR:SQUARE:RANGE
abbrev pub distance_test : Option Colour → Option ℕ → Option (ℕ × ℕ) → Option Test
distance_test (Some c) (Some s) (Some r) = Some (Distance c s r.0 r.1)
distance_test _ _ _ = None

-- a test, by its parts between colons
abbrev pub test_of : List (List ℕ) → Option Test
test_of (t ∷ []) =
    if is (codes "check") t then Some Check else
    (if is (codes "always") t then Some Always else None)
test_of (t ∷ c ∷ []) = if is (codes "turn") t then turn_test (colour_of c) else None
test_of (t ∷ c ∷ x ∷ r ∷ []) =
    if is (codes "count") t then count_test (colour_of c) (kind_of x) (range_of r) else
    (if is (codes "on") t then on_test (colour_of c) (kind_of x) (squares_of r) else
    (if is (codes "distance") t then distance_test (colour_of c) (square_word x) (range_of r) else
    None))
test_of _ = None

abbrev pub with_sign : Bool → Option Test → Option Condition
with_sign negated None = None
with_sign negated (Some t) = Some (record { negated = negated; test = t })

abbrev pub is_not_sign : ℕ → Bool
is_not_sign b = b == 33

abbrev pub cond_of : List ℕ → Option Condition
cond_of [] = None
cond_of (b ∷ bs) =
    if is_not_sign b then with_sign true (test_of (split is_colon bs))
    else with_sign false (test_of (split is_colon (b ∷ bs)))
