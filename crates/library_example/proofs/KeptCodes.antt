-- The tables of a solved game, and the code that they keep for a position.
use Rattle.std.proofs.Common.{◌≡◌, ◌<◌, ℕ, List, sym, subst, ap, ◌∙◌}
use Rattle.std.specs.Prelude.{slice_index}
use Rattle.frz_board.specs.declared.man.Colour.{Colour}
use Rattle.frz_board.specs.declared.man.Colour.TheVariants.{White, Black}
use Rattle.frz_board.specs.Boards.{Board}
use Rattle.frz_sets.specs.Sets.{size_of}
use Rattle.frz_sets.specs.Views.{GroupLine, RuleLines}
use Rattle.frz_index.specs.Members.{Member, Num}
use Rattle.frz_index.proofs.Lemmas.{Num_below}
use Rattle.frz_arena.specs.declared.bound.Bound.{Bound}
use Rattle.frz_arena.specs.Codes.{code_of}
use Rattle.frz_arena.proofs.Lemmas.{one_bound}
use Rattle.frz_exits.specs.Books.{value_by}
use Rattle.frz_graph.specs.EntryCodes.{of_side}
use Rattle.frz_game.specs.Bounds.{IsBoundAt, IsTableOf}
use Rattle.frz_game.specs.Games.{arena_by}
use Rattle.frz_game.proofs.Lemmas.{stored_bound}

-- the tables of both sides, by rules and a book that are these
pub tables_solved : (rules by book : RuleLines) → by ≡ rules → book ≡ rules
    → (white black : List ℕ) → IsTableOf by (value_by book) White white
    → IsTableOf by (value_by book) Black black → (side : Colour)
    → IsTableOf rules (value_by rules) side (of_side side white black)
tables_solved rules by book same own white black w b White =
    subst (λ (x : RuleLines). IsTableOf rules (value_by x) White white) own
    (subst (λ (x : RuleLines). IsTableOf x (value_by book) White white) same w)
tables_solved rules by book same own white black w b Black =
    subst (λ (x : RuleLines). IsTableOf rules (value_by x) Black black) own
    (subst (λ (x : RuleLines). IsTableOf x (value_by book) Black black) same b)

module _ (rules : RuleLines) (side : Colour) (codes : List ℕ)
    (table : IsTableOf rules (value_by rules) side codes) (p : Board)
    (inside : Member rules.groups p) (b : Bound) where
  -- at the number of a position stands the code of its bound
  pub code_of_bound : IsBoundAt rules (value_by rules) side p b
      → slice_index codes (Num rules.groups p) ≡ code_of b
  code_of_bound h =
      let stored = stored_bound rules (value_by rules) side codes table p inside in
      stored.1
      ∙ ap code_of (one_bound (arena_by rules (value_by rules)) side p stored.0 b stored.2 h)

-- the number of a position is below the size of the set
pub number_inside : (set groups : List GroupLine) → set ≡ groups → (p : Board) → Member set p
    → (number : ℕ) → number ≡ Num set p → number < size_of groups
number_inside set groups same p inside number is =
    subst (λ (z : List GroupLine). number < size_of z) same
    (subst (λ n. n < size_of set) (sym is) (Num_below set p inside))
