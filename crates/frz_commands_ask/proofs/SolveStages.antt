-- What the definition of `solve` says at each of its stages.
use Rattle.std.proofs.Common.{◌≡◌, refl, sym, subst, ℕ, List, [], Bool, true, false, Ok, Err, codes}
use Rattle.std.specs.Bool.{MatchBool}
use Rattle.frz_store.specs.Files.{Files}
use Rattle.frz_arena.specs.declared.bound.Bound.{Bound}
use Rattle.frz_answer.specs.declared.status.Status.TheVariants.{Success, Outside}
use Rattle.frz_answer.specs.Answers.{Answer, says, SomeAnswer}
use Rattle.frz_board.specs.Boards.{Board}
use Rattle.frz_sets.specs.Views.{GroupLine, RuleLines}
use Rattle.frz_bound_lines.specs.BoundLines.{bounds_text}
use Rattle.frz_prelude.specs.Refusals.{status_of, refusal_line}
use Rattle.frz_prelude.specs.RulesFiles.{rules_held}
use Rattle.frz_prelude.specs.declared.refused.Refused.{Refused}
use Rattle.frz_prelude.specs.declared.refused.Refused.TheVariants as refused
use Rattle.frz_prelude.proofs.Lemmas.{read_named, refused_named, some_named, some_refusal}
use Rattle.frz_sets.specs.Sound.{IsSound}
use Rattle.frz_board.specs.declared.man.Colour.TheVariants.{White, Black}
use Rattle.frz_index.specs.Members.{Member}
use Rattle.frz_exits.specs.Books.{value_by}
use Rattle.frz_game.specs.Numbers.{is_member}
use Rattle.frz_index.proofs.Lemmas.{member_of, of_member}
use Rattle.frz_game.proofs.Lemmas.{bound_there}
use Rattle.frz_rules.proofs.Lemmas.{text_sound}
use Rattle.frz_check.proofs.Lemmas.{small_lags}
use Rattle.frz_commands_ask.specs.Solving.{AreBounds, IsSolvedBy, IsSolvedAt}

-- there is an answer at each stage
bounds_some : (white black : Bound) → bounds_text white black ≡ [] → ⊥
bounds_some white black = λ e. cc

some_bounds : (r : RuleLines) → IsSound r → (p : Board) (m : Files) → Member r.groups p
    → SomeAnswer (λ a. AreBounds r p m a)
some_bounds r sound p m member =
    let white = bound_there r (value_by r) (small_lags r sound) White p member in
    let black = bound_there r (value_by r) (small_lags r sound) Black p member in
    record {
      a = says Success (bounds_text white.0 black.0) m;
      answer = (white.0, black.0, record { white_is = white.1; black_is = black.1 }, refl);
      text = bounds_some white.0 black.0;
    }

some_by : (r : RuleLines) → IsSound r → (p : Board) (m : Files) (b : Bool)
    → is_member r.groups p ≡ b
    → SomeAnswer (λ a. MatchBool b (AreBounds r p m a) (a ≡ says Outside (codes "outside\n") m))
some_by r sound p m true e = some_bounds r sound p m (member_of r.groups p e)
some_by r sound p m false e = some_refusal refused.Outside m

some_solved_by : (r : RuleLines) → IsSound r → (p : Board) (m : Files)
    → SomeAnswer (λ a. IsSolvedBy r p m a)
some_solved_by r sound p m = some_by r sound p m (is_member r.groups p) refl

abbrev By : Board → Files → List ℕ → RuleLines → Answer → Type 0
By p m text r a = IsSolvedBy r p m a

pub some_solved_at : (p : Board) (rules : List ℕ) (m : Files)
    → SomeAnswer (λ a. IsSolvedAt p rules m a)
some_solved_at p rules m =
    some_named m (By p m) (λ text r read. some_solved_by r (text_sound text r read) p m) (m rules)

-- by the rules
not_member : (groups : List GroupLine) (p : Board) (b : Bool) → is_member groups p ≡ b
    → (Member groups p → ⊥) → b ≡ false
not_member groups p true e other = absurd (other (member_of groups p e))
not_member groups p false e other = refl

pub is_outside : (r : RuleLines) (p : Board) (m : Files) → (Member r.groups p → ⊥)
    → IsSolvedBy r p m (says Outside (codes "outside\n") m)
is_outside r p m other =
    let a : Answer = says Outside (codes "outside\n") m in
    subst (λ b. MatchBool b (AreBounds r p m a) (a ≡ says Outside (codes "outside\n") m))
    (sym (not_member r.groups p (is_member r.groups p) refl other)) refl

pub is_inside : (r : RuleLines) (p : Board) (m : Files) (a : Answer) → Member r.groups p
    → AreBounds r p m a → IsSolvedBy r p m a
is_inside r p m a member h =
    subst (λ b. MatchBool b (AreBounds r p m a) (a ≡ says Outside (codes "outside\n") m))
    (sym (of_member r.groups p member)) h

module _ (p : Board) (m : Files) where
  pub is_refused_at : (rules : List ℕ) (why : Refused) → rules_held (m rules) ≡ Err why
      → IsSolvedAt p rules m (says (status_of why) (refusal_line why) m)
  is_refused_at rules why e = refused_named m (By p m) why (m rules) e

  pub is_read_at : (rules : List ℕ) (r : RuleLines) (a : Answer) → rules_held (m rules) ≡ Ok r
      → IsSolvedBy r p m a → IsSolvedAt p rules m a
  is_read_at rules r a e h = read_named m (By p m) r a (m rules) e (λ text there. h)
