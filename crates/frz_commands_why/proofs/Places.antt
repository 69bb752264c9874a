-- A place in a list of tables, and in the list of what they hold.
use Rattle.std.proofs.Common.{◌≡◌, ℕ, ◌+◌, Bool, true, false, cond, List, [], ◌∷◌, map, None, Some, refl, ap}
use Rattle.std.specs.Prelude.{is_some}
use Rattle.std.specs.List.{position_from}
use Rattle.frz_board.specs.Boards.{Board}
use Rattle.frz_sets.specs.Views.{GroupLine}
use Rattle.frz_index.specs.Membership.{is_member, number_of}

by_test : (b : Bool) (n : ℕ) → is_some (cond b (Some n) None) ≡ b
by_test true n = refl
by_test false n = refl

-- a position has a number exactly where it is in the set
pub has_number : (groups : List GroupLine) (q : Board) →
    is_some (number_of groups q) ≡ is_member groups q
unfolding number_of
has_number groups q = by_test (is_member groups q) _

pub position_mapped : {A B : Type 0} (f : A → B) (p : B → Bool) (xs : List A) (from : ℕ) →
    position_from p from (map f xs) ≡ position_from (λ x. p (f x)) from xs
position_mapped f p [] from = refl
position_mapped f p (x ∷ xs) from =
    ap (cond (p (f x)) (Some from)) (position_mapped f p xs (from + 1))
