-- The outcomes of a table are those of chess where the outcomes that its exits give are true, and
-- each decides the game.
use Rattle.std.proofs.Common.{◌≡◌, ◌↔◌, ◌+◌, ◌*◌, ℕ, Bool, true, false, List, [], ◌∷◌, refl, sym, subst, ap, ◌∙◌, ◌&&◌, ◌||◌, not}
use Rattle.std.specs.Prelude.{slice_index}
use Rattle.std.specs.List.{list_any}
use Rattle.frz_board.specs.declared.man.Colour.{Colour}
use Rattle.frz_board.specs.declared.man.Colour.TheVariants.{White, Black}
use Rattle.frz_board.specs.Boards.{Board}
use Rattle.frz_board.specs.Men.{other_of, same_colour}
use Rattle.frz_board.specs.Moving.{Step}
use Rattle.frz_sets.specs.declared.exit.Value.{Value}
use Rattle.frz_sets.specs.declared.exit.Value.TheVariants.{WhiteWins, BlackWins, Draw, WhiteHolds, BlackHolds, Unknown, WhiteWinsIn, BlackWinsIn}
use Rattle.frz_sets.specs.declared.forbid.Forbid.{Forbid}
use Rattle.frz_sets.specs.Views.{RuleLines}
use Rattle.frz_index.specs.Members.{Member, Num}
use Rattle.frz_index.proofs.Lemmas.{of_member}
use Rattle.frz_arena.specs.declared.bound.Bound.{Bound}
use Rattle.frz_arena.specs.declared.bound.Bound.TheVariants.{Wins, Holds, Fails}
use Rattle.frz_arena.specs.declared.class.Class.{Class}
use Rattle.frz_arena.specs.declared.class.Class.TheVariants.{Good, Safe, Bad}
use Rattle.frz_arena.specs.Bounds.{IsBound}
use Rattle.frz_arena.specs.Codes.{code_of, is_win, is_failure}
use Rattle.frz_arena.specs.WholeTruth.{CanForceMate, IsDecided, IsFailure, LossesAreKnown, MovesFreely, WinsAreKnown}
use Rattle.frz_arena.proofs.Lemmas.{as_failure, codes_differ, decided_losses, decided_wins, exact_failure, exact_hold, exact_win, one_bound, win_and_failure, win_of}
use Rattle.frz_graph.specs.Forbidding.{covers, is_forbidden}
use Rattle.frz_exits.specs.Values.{class_of}
use Rattle.frz_chain.specs.Bounds.{IsTableOf}
use Rattle.frz_chain.specs.ExactTables.{AreDecidedOutside, HasExactOutcomes, HasNoForbid, is_decided}
use Rattle.frz_chain.specs.Games.{arena_by, chess, game_of}
use Rattle.frz_chain.proofs.Lemmas.{stored_bound, true_exits, win_code}
use Rattle.frz_backs.specs.ExactOver.{AreTrueOutcomes, outcome_of}
use Rattle.frz_backs.proofs.Numbered.{same_exit}

none_here : (a b r f : Bool) → (a || r) ≡ false → (r ≡ false → f ≡ false) →
    ((a && b) || f) ≡ false
none_here true b r f h k = absurd (cc)
none_here false b r f h k = k h

-- what no line names no line forbids
none_covers : (lines : List Forbid) (side : Colour) (p : Board) (m : Step) →
    list_any (λ line. same_colour line.colour side) lines ≡ false →
    is_forbidden lines side p m ≡ false
none_covers [] side p m h = refl
none_covers (line ∷ lines) side p m h =
    none_here (same_colour line.colour side) (covers line p m)
    (list_any (λ l. same_colour l.colour side) lines) (is_forbidden lines side p m) h
    (none_covers lines side p m)

moves_freely : (rules : RuleLines) (value : Board → Value) (side : Colour) →
    HasNoForbid rules side → MovesFreely (game_of rules value) side
moves_freely rules value side none p m b t i =
    ap not (none_covers rules.forbids p.turn p m
    (subst (λ (c : Colour). list_any (λ line. same_colour line.colour c) rules.forbids ≡ false)
    (sym t) none))

failure_code : (b : Bound) → (is_failure (code_of b) ≡ true) ↔ IsFailure b
failure_code (Wins n) = (
  λ h. absurd (win_and_failure (2 + 2 * n) (win_of n) h),
  λ w. absurd (let e = w.1 in cc),
)
failure_code Holds = (λ h. absurd (cc), λ w. absurd (let e = w.1 in cc))
failure_code (Fails m) = (λ _. (m, refl), λ _. (as_failure (3 + 2 * m) m refl).0)

-- plies change neither whom a value favours nor whether it decides the game
pub class_kept : (v : Value) (side : Colour) → class_of (outcome_of v) side ≡ class_of v side
class_kept WhiteWins side = refl
class_kept BlackWins side = refl
class_kept Draw side = refl
class_kept WhiteHolds side = refl
class_kept BlackHolds side = refl
class_kept Unknown side = refl
class_kept (WhiteWinsIn n) White = refl
class_kept (WhiteWinsIn n) Black = refl
class_kept (BlackWinsIn n) White = refl
class_kept (BlackWinsIn n) Black = refl

held_both : (v : Value) (side : Colour) → is_decided v ≡ true → class_of (outcome_of v) side ≡ Safe →
    class_of (outcome_of v) (other_of side) ≡ Safe
held_both Draw side d s = refl
held_both WhiteWins White d s = absurd (cc)
held_both WhiteWins Black d s = absurd (cc)
held_both BlackWins White d s = absurd (cc)
held_both BlackWins Black d s = absurd (cc)
held_both (WhiteWinsIn n) White d s = absurd (cc)
held_both (WhiteWinsIn n) Black d s = absurd (cc)
held_both (BlackWinsIn n) White d s = absurd (cc)
held_both (BlackWinsIn n) Black d s = absurd (cc)
held_both WhiteHolds side d s = absurd (cc)
held_both BlackHolds side d s = absurd (cc)
held_both Unknown side d s = absurd (cc)

lost_to : (v : Value) (side : Colour) → is_decided v ≡ true → class_of (outcome_of v) side ≡ Bad →
    class_of (outcome_of v) (other_of side) ≡ Good
lost_to Draw side d s = absurd (cc)
lost_to WhiteWins White d s = absurd (cc)
lost_to WhiteWins Black d s = refl
lost_to BlackWins White d s = refl
lost_to BlackWins Black d s = absurd (cc)
lost_to (WhiteWinsIn n) White d s = absurd (cc)
lost_to (WhiteWinsIn n) Black d s = refl
lost_to (BlackWinsIn n) White d s = refl
lost_to (BlackWinsIn n) Black d s = absurd (cc)
lost_to WhiteHolds side d s = absurd (cc)
lost_to BlackHolds side d s = absurd (cc)
lost_to Unknown side d s = absurd (cc)

module _ (rules : RuleLines) (value : Board → Value) (exits : AreTrueOutcomes rules value)
    (decided : AreDecidedOutside rules value) where
  abbrev outcomes : Board → Value
  outcomes q = outcome_of (value q)

  decided_game : IsDecided (game_of rules outcomes)
  decided_game = record {
    safe = λ q x side s. held_both (value q) side
        (decided q (same_exit rules outcomes value q x)) s;
    bad = λ q x side s. lost_to (value q) side
        (decided q (same_exit rules outcomes value q x)) s;
  }

  wins_known : (side : Colour) → WinsAreKnown (game_of rules value) side
  wins_known side q x =
      let known = decided_wins (game_of rules outcomes) (true_exits rules outcomes exits) side
      decided_game q (same_exit rules value outcomes q x) in
      subst (λ (c : Class). (c ≡ Good) ↔ CanForceMate chess side q) (class_kept (value q) side)
      known

  losses_known : (side : Colour) → LossesAreKnown (game_of rules value) side
  losses_known side q x =
      let known = decided_losses (game_of rules outcomes) (true_exits rules outcomes exits) side
      decided_game q (same_exit rules value outcomes q x) in
      subst (λ (c : Class). (c ≡ Bad) ↔ CanForceMate chess (other_of side) q)
      (class_kept (value q) side) known

  module _ (side : Colour) (codes : List ℕ) (table : IsTableOf rules value side codes)
      (none : HasNoForbid rules side) where
    both : {A B C : Type 0} → (A ↔ B) → (B ↔ C) → A ↔ C
    both h k = (λ a. k.0 (h.0 a), λ c. h.1 (k.1 c))

    -- the code of a bound stands where it is the bound
    code_is_bound : (p : Board) → Member rules.groups p → (b : Bound) →
        (slice_index codes (Num rules.groups p) ≡ code_of b)
        ↔ IsBound (arena_by rules value) side p b
    code_is_bound p member b =
        let stored = stored_bound rules value side codes table p member in (
          λ e. subst (λ (x : Bound). IsBound (arena_by rules value) side p x)
              (codes_differ stored.0 b (sym stored.1 ∙ e)) stored.2,
          λ h. stored.1 ∙ ap code_of (one_bound (arena_by rules value) side p stored.0 b stored.2 h),
        )

    pub outcomes_exact : HasExactOutcomes rules side codes
    outcomes_exact = record {
      win = λ p member. (
          let stored = stored_bound rules value side codes table p member in
          subst (λ c. (is_win c ≡ true) ↔ CanForceMate chess side p) (sym stored.1)
          (both (win_code stored.0)
          (exact_win (game_of rules value) side (moves_freely rules value side none)
          (wins_known side) p stored.0 (of_member rules.groups p member) stored.2)));
      failure = λ p member. (
          let stored = stored_bound rules value side codes table p member in
          subst (λ c. (is_failure c ≡ true) ↔ CanForceMate chess (other_of side) p) (sym stored.1)
          (both (failure_code stored.0)
          (exact_failure (game_of rules value) side (moves_freely rules value side none)
          (losses_known side) p stored.0 (of_member rules.groups p member) stored.2)));
      hold = λ p member. both (code_is_bound p member Holds)
          (exact_hold (game_of rules value) side (moves_freely rules value side none)
          (wins_known side) (losses_known side) p (of_member rules.groups p member));
    }
