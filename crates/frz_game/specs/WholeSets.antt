-- Sets that only captures leave.
use Rattle.std.specs.Prelude.{◌≡◌, ◌≢◌, ◌≤◌, ◌+◌, ℕ, false, List, [], ◌∷◌, ◌++◌, map}
use Rattle.std.specs.List.{Contains, AllByRecursion}
use Rattle.frz_board.specs.declared.man.Colour.{Colour}
use Rattle.frz_board.specs.declared.man.Kind.{Kind}
use Rattle.frz_board.specs.declared.man.Kind.TheVariants.{King, Pawn}
use Rattle.frz_board.specs.Squares.{squares}
use Rattle.frz_sets.specs.declared.exit.Test.TheVariants.{Count}
use Rattle.frz_sets.specs.Views.{Condition, GroupLine, ExitLine, RuleLines}

-- a man of this kind on each square
abbrev pub everywhere : Kind → List (Kind × ℕ)
everywhere k = map (λ s. (k, s)) squares

-- a man of each of these kinds on each square
abbrev pub each_everywhere : List Kind → List (Kind × ℕ)
each_everywhere [] = []
each_everywhere (k ∷ kinds) = everywhere k ++ each_everywhere kinds

-- the group has men of these kinds, on every square, and no pawns
pub record IsWholeGroup (g : GroupLine) : Type 0 where
  pub kinds : List Kind
  pub states : g.states ≡ each_everywhere kinds
  pub no_pawn : (k : Kind) → Contains kinds k → k ≢ Pawn

-- the condition asks for at most so many men of one of these kinds
abbrev pub AsksAtMost : Colour → List Kind → ℕ → Condition → Type 0
AsksAtMost c kinds most cond =
    (k : Kind) × Contains kinds k
    × (cond ≡ record { negated = false; test = Count c k 0 most })

-- the group is a king's, or may have no men, or an exit line asks for nothing but that fewer of its
-- men stand
pub data IsClosed (exits : List ExitLine) (g : GroupLine) (kinds : List Kind) : Type 0 where
  by_king : kinds ≡ King ∷ [] → g.least ≤ 1 → IsClosed exits g kinds
  by_none : g.least ≡ 0 → IsClosed exits g kinds
  by_line : (line : ExitLine) (most : ℕ) → Contains exits line →
      AllByRecursion (AsksAtMost g.colour kinds most) line.conds → g.least ≤ most + 1 →
      IsClosed exits g kinds

-- each group has its men on every square, no pawns, and is closed in this sense
pub record IsWholeSet (rules : RuleLines) : Type 0 where
  pub groups : AllByRecursion (λ g. (w : IsWholeGroup g) × IsClosed rules.exits g w.kinds)
      rules.groups
