-- When a condition of an exit line holds.
use Rattle.std.specs.Prelude.{not, ℕ, Bool, true, ◌&&◌, nat_le, List, if◌then◌else◌}
use Rattle.std.specs.List.{list_any, list_all}
use Rattle.frz_board.specs.declared.man.Kind.TheVariants.{King}
use Rattle.frz_board.specs.Squares.{squares, distance}
use Rattle.frz_board.specs.Men.{same_colour}
use Rattle.frz_board.specs.Boards.{Board, has}
use Rattle.frz_board.specs.Attacks.{is_in_check}
use Rattle.frz_board.specs.Shapes.{count_of}
use Rattle.frz_squares.specs.SquareSets.{has_square}
use Rattle.frz_sets.specs.declared.exit.Test.{Test}
use Rattle.frz_sets.specs.declared.exit.Test.TheVariants.{Turn, Count, On, Distance, Check, Always}
use Rattle.frz_sets.specs.Views.{Condition}

abbrev pub in_range : ℕ → ℕ → ℕ → Bool
in_range least most n = nat_le least n && nat_le n most

-- what each test asks of a position
abbrev pub test_holds : Test → Board → Bool
test_holds (Turn side) p = same_colour side p.turn
test_holds (Count side kind least most) p = in_range least most (count_of p side kind)
test_holds (On side kind set) p = list_any (λ s. has p side kind s && has_square set s) squares
test_holds (Distance side square least most) p =
    list_any (λ s. has p side King s && in_range least most (distance s square)) squares
test_holds Check p = is_in_check p p.turn
test_holds Always p = true

-- a negated condition holds where its test does not
abbrev pub condition_holds : Board → Condition → Bool
condition_holds p c = if c.negated then not (test_holds c.test p) else test_holds c.test p

-- all the conditions hold
abbrev pub conditions_hold : Board → List Condition → Bool
conditions_hold p conds = list_all (condition_holds p) conds
