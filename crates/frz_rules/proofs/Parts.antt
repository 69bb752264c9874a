-- Words with too many parts.
use Rattle.std.proofs.Common.{◌≡◌, ℕ, ◌<◌, List, [], ◌∷◌, length, None, refl, arith}
use Rattle.frz_rules.specs.Classes.{least_and_most, kind_and_squares}
use Rattle.frz_rules.specs.Conditions.{test_of}

pub count_many : (a b : List ℕ) (ps : List (List ℕ)) → 0 < length ps →
    least_and_most (a ∷ b ∷ ps) ≡ None
count_many a b [] h = absurd (omega arith)
count_many a b (p ∷ ps) h = refl

pub place_many : (a b : List ℕ) (ps : List (List ℕ)) → 0 < length ps →
    kind_and_squares (a ∷ b ∷ ps) ≡ None
place_many a b [] h = absurd (omega arith)
place_many a b (p ∷ ps) h = refl

pub test_many : (a b c d : List ℕ) (ps : List (List ℕ)) → 0 < length ps →
    test_of (a ∷ b ∷ c ∷ d ∷ ps) ≡ None
test_many a b c d [] h = absurd (omega arith)
test_many a b c d (p ∷ ps) h = refl
