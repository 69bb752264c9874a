-- The men of groups, counted by a loop.
use Rattle.std.proofs.Common.{◌≡◌, ℕ, zero, suc, ◌≤◌, List, [], ◌∷◌, length, drop, refl, arith}
use Rattle.frz_board.specs.declared.man.Colour.{Colour}
use Rattle.frz_sets.specs.Views.{GroupLine}
use Rattle.frz_sets.specs.Groups.{most_men_of}

pub men_all : (groups : List GroupLine) (n : ℕ) (c : Colour) → length groups ≤ n →
    most_men_of (drop n groups) c ≡ 0
men_all [] zero c h = refl
men_all [] (suc n) c h = refl
men_all (g ∷ groups) zero c h = absurd (omega arith)
men_all (g ∷ groups) (suc n) c h = men_all groups n c (omega arith)
