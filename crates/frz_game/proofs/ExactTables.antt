-- Tables that are exact in chess.
use Rattle.std.proofs.Common.{◌≡◌, ◌↔◌, ◌+◌, ◌*◌, ℕ, Bool, true, false, List, [], ◌∷◌, refl, sym, subst, ap, ◌∙◌, ◌&&◌, ◌||◌, not}
use Rattle.std.specs.Prelude.{slice_index}
use Rattle.std.specs.List.{list_any}
use Rattle.frz_board.specs.declared.man.Colour.{Colour}
use Rattle.frz_board.specs.Boards.{Board}
use Rattle.frz_board.specs.Men.{other_of, same_colour}
use Rattle.frz_board.specs.Moving.{Step}
use Rattle.frz_sets.specs.declared.exit.Value.{Value}
use Rattle.frz_sets.specs.declared.forbid.Forbid.{Forbid}
use Rattle.frz_sets.specs.Views.{RuleLines}
use Rattle.frz_index.specs.Members.{Member, Num}
use Rattle.frz_index.proofs.Lemmas.{of_member}
use Rattle.frz_arena.specs.declared.bound.Bound.{Bound}
use Rattle.frz_arena.specs.declared.bound.Bound.TheVariants.{Wins, Holds, Fails}
use Rattle.frz_arena.specs.Bounds.{IsBound}
use Rattle.frz_arena.specs.Codes.{code_of, is_win, is_failure}
use Rattle.frz_arena.specs.WholeTruth.{CanForceMate, MatesIn, IsDead, IsWin, IsFailure, MovesFreely, TrueHolds, WinsAreKnown, WinsAreCounted, LossesAreKnown, NoneIsBad}
use Rattle.frz_arena.proofs.Lemmas.{codes_differ, one_bound, win_of, win_and_failure, as_failure, exact_win, exact_least, exact_failure, exact_hold, exact_failure_least}
use Rattle.frz_graph.specs.Forbidding.{covers, is_forbidden}
use Rattle.frz_game.specs.Bounds.{IsTableOf}
use Rattle.frz_game.specs.ExactTables.{HasNoForbid, HasExactOutcomes, IsExactInChess}
use Rattle.frz_game.specs.Games.{chess, game_of, arena_by}
use Rattle.frz_game.specs.MenAlone.{IsDrawnOutside}
use Rattle.frz_game.proofs.Bounded.{stored_bound}
use Rattle.frz_game.proofs.DrawnOutside.{wins_counted, not_bad, holds_true, wins_known, losses_known}

none_here : (a b r f : Bool) → (a || r) ≡ false → (r ≡ false → f ≡ false) →
    ((a && b) || f) ≡ false
none_here true b r f h k = absurd (cc)
none_here false b r f h k = k h

-- what no line names no line forbids
none_covers : (lines : List Forbid) (side : Colour) (p : Board) (m : Step) →
    list_any (λ line. same_colour line.colour side) lines ≡ false →
    is_forbidden lines side p m ≡ false
none_covers [] side p m h = refl
none_covers (line ∷ lines) side p m h =
    none_here (same_colour line.colour side) (covers line p m)
    (list_any (λ l. same_colour l.colour side) lines) (is_forbidden lines side p m) h
    (none_covers lines side p m)

-- with no forbid line the side moves freely
pub moves_freely : (rules : RuleLines) (value : Board → Value) (side : Colour) →
    HasNoForbid rules side → MovesFreely (game_of rules value) side
moves_freely rules value side none p m b t i =
    ap not (none_covers rules.forbids p.turn p m
    (subst (λ (c : Colour). list_any (λ line. same_colour line.colour c) rules.forbids ≡ false)
    (sym t) none))

-- the code is a win where the bound is one, and a failure likewise
pub win_code : (b : Bound) → (is_win (code_of b) ≡ true) ↔ IsWin b
win_code (Wins n) = (λ _. (n, refl), λ _. win_of n)
win_code Holds = (λ h. absurd (cc), λ w. absurd (let e = w.1 in cc))
win_code (Fails m) = (
  λ h. absurd (win_and_failure (3 + 2 * m) h (as_failure (3 + 2 * m) m refl).0),
  λ w. absurd (let e = w.1 in cc),
)

pub failure_code : (b : Bound) → (is_failure (code_of b) ≡ true) ↔ IsFailure b
failure_code (Wins n) = (
  λ h. absurd (win_and_failure (2 + 2 * n) (win_of n) h),
  λ w. absurd (let e = w.1 in cc),
)
failure_code Holds = (λ h. absurd (cc), λ w. absurd (let e = w.1 in cc))
failure_code (Fails m) = (λ _. (m, refl), λ _. (as_failure (3 + 2 * m) m refl).0)

module _ (rules : RuleLines) (value : Board → Value) (side : Colour) (codes : List ℕ)
    (table : IsTableOf rules value side codes) where
  -- the code of a bound stands where it is the bound
  code_is_bound : (p : Board) → Member rules.groups p → (b : Bound) →
      (slice_index codes (Num rules.groups p) ≡ code_of b)
      ↔ IsBound (arena_by rules value) side p b
  code_is_bound p member b =
      let stored = stored_bound rules value side codes table p member in (
        λ e. subst (λ (x : Bound). IsBound (arena_by rules value) side p x)
            (codes_differ stored.0 b (sym stored.1 ∙ e)) stored.2,
        λ h. stored.1 ∙ ap code_of (one_bound (arena_by rules value) side p stored.0 b stored.2 h),
      )

  both : {A B C : Type 0} → (A ↔ B) → (B ↔ C) → A ↔ C
  both h k = (λ a. k.0 (h.0 a), λ c. h.1 (k.1 c))

  module _ (none : HasNoForbid rules side) where
    pub exact_wins : WinsAreCounted (game_of rules value) side → (p : Board) (n : ℕ) →
        Member rules.groups p →
        (slice_index codes (Num rules.groups p) ≡ code_of (Wins n)) ↔ MatesIn chess side n p
    exact_wins counts p n member =
        both (code_is_bound p member (Wins n))
        (exact_least (game_of rules value) side (moves_freely rules value side none) counts n p
        (of_member rules.groups p member))

    exact_failures : NoneIsBad (game_of rules value) side → TrueHolds (game_of rules value) side →
        (p : Board) (n : ℕ) → Member rules.groups p →
        (slice_index codes (Num rules.groups p) ≡ code_of (Fails n))
        ↔ MatesIn chess (other_of side) n p
    exact_failures bad holds p n member =
        both (code_is_bound p member (Fails n))
        (exact_failure_least (game_of rules value) side (moves_freely rules value side none) bad
        holds n p (of_member rules.groups p member))

    exact_holds : WinsAreKnown (game_of rules value) side →
        LossesAreKnown (game_of rules value) side → (p : Board) → Member rules.groups p →
        (slice_index codes (Num rules.groups p) ≡ code_of Holds) ↔ IsDead chess side p
    exact_holds wins losses p member =
        both (code_is_bound p member Holds)
        (exact_hold (game_of rules value) side (moves_freely rules value side none) wins losses p
        (of_member rules.groups p member))

    pub exact_outcomes : WinsAreKnown (game_of rules value) side →
        LossesAreKnown (game_of rules value) side → HasExactOutcomes rules side codes
    exact_outcomes wins losses = record {
      win = λ p member. (
          let stored = stored_bound rules value side codes table p member in
          let here = of_member rules.groups p member in
          subst (λ c. (is_win c ≡ true) ↔ CanForceMate chess side p) (sym stored.1)
          (both (win_code stored.0)
          (exact_win (game_of rules value) side (moves_freely rules value side none) wins p stored.0
          here stored.2)));
      failure = λ p member. (
          let stored = stored_bound rules value side codes table p member in
          let here = of_member rules.groups p member in
          subst (λ c. (is_failure c ≡ true) ↔ CanForceMate chess (other_of side) p) (sym stored.1)
          (both (failure_code stored.0)
          (exact_failure (game_of rules value) side (moves_freely rules value side none) losses p
          stored.0 here stored.2)));
      hold = λ p member. exact_holds wins losses p member;
    }

    -- where each way out of the set is drawn by the men
    pub exact_where_drawn : IsDrawnOutside rules value → IsExactInChess rules side codes
    exact_where_drawn drawn = record {
      win = exact_wins (wins_counted rules value side drawn);
      failure = exact_failures (not_bad rules value side drawn)
          (holds_true rules value side drawn);
      hold = exact_holds (wins_known rules value side drawn) (losses_known rules value side drawn);
    }
