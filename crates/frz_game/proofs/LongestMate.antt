-- The longest mate of a set whose table is exact in chess.
use Rattle.std.proofs.Common.{◌≡◌, ℕ, true, List, sym, subst, arith}
use Rattle.std.specs.Prelude.{slice_index}
use Rattle.frz_board.specs.declared.man.Colour.{Colour}
use Rattle.frz_board.specs.Boards.{Board}
use Rattle.frz_sets.specs.declared.exit.Value.{Value}
use Rattle.frz_sets.specs.Views.{RuleLines}
use Rattle.frz_index.specs.Members.{Member, Num}
use Rattle.frz_arena.specs.declared.bound.Bound.{Bound}
use Rattle.frz_arena.specs.declared.bound.Bound.TheVariants.{Wins, Holds, Fails}
use Rattle.frz_arena.specs.Chess.{ForcesMate, mate_alone}
use Rattle.frz_arena.specs.Codes.{code_of, is_win}
use Rattle.frz_arena.specs.WholeTruth.{CanForceMate}
use Rattle.frz_arena.proofs.Lemmas.{forces_later, one_forces, win_of}
use Rattle.frz_game.specs.Bounds.{IsTableOf}
use Rattle.frz_game.specs.ExactTables.{IsExactInChess, HasWinsUpTo, IsLongestMate}
use Rattle.frz_game.specs.Games.{chess}
use Rattle.frz_game.proofs.Bounded.{stored_bound}

module _ (rules : RuleLines) (side : Colour) (codes : List ℕ)
    (exact : IsExactInChess rules side codes) (n : ℕ) (few : HasWinsUpTo codes n) where
  -- what the side forces by the code of a bound
  within : (p : Board) → Member rules.groups p → (b : Bound) →
      slice_index codes (Num rules.groups p) ≡ code_of b → CanForceMate chess side p →
      ForcesMate chess side n p
  within p member (Wins k) e f =
      let win : is_win (slice_index codes (Num rules.groups p)) ≡ true =
      subst (λ c. is_win c ≡ true) (sym e) (win_of k) in
      let most = few (Num rules.groups p) win in
      forces_later chess mate_alone side k n p (omega (arith, most, e))
      ((exact.win p k member).0 e).forced
  within p member Holds e f = absurd (((exact.hold p member).0 e).no_win f.0 f.1)
  within p member (Fails m) e f =
      absurd (one_forces chess side f.0 m p f.1 ((exact.failure p m member).0 e).forced)

pub longest_mate : (rules : RuleLines) (value : Board → Value) (side : Colour) (codes : List ℕ) →
    IsTableOf rules value side codes → IsExactInChess rules side codes →
    (p : Board) (n : ℕ) → Member rules.groups p →
    slice_index codes (Num rules.groups p) ≡ code_of (Wins n) → HasWinsUpTo codes n →
    IsLongestMate rules side n
longest_mate rules value side codes table exact p n member e few = record {
  reached = (p, member, (exact.win p n member).0 e);
  longest = λ q inside f. (
      let stored = stored_bound rules value side codes table q inside in
      within rules side codes exact n few q inside stored.0 stored.1 f);
}
