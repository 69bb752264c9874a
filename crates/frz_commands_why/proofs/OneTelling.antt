-- Of each number exactly one thing is told.
use Rattle.std.proofs.Common.{◌≡◌, ◌≢◌, ℕ, Bool, true, false, List, [], ◌++◌, Option, None, Some, refl, sym, ap, subst, ◌∙◌, slice_index, arith}
use Rattle.std.specs.Prelude.{◌==◌}
use Rattle.std.proofs.lemmas.Bool.{eqb-false, eqb-true}
use Rattle.frz_board.specs.declared.man.Colour.{Colour}
use Rattle.frz_board.specs.Boards.{Board}
use Rattle.frz_board.specs.Men.{other_of}
use Rattle.frz_board.specs.Moving.{Step}
use Rattle.frz_sets.specs.declared.exit.Value.{Value}
use Rattle.frz_sets.specs.Views.{RuleLines}
use Rattle.frz_arena.specs.declared.arm.Arm.{Arm}
use Rattle.frz_arena.specs.Codes.{is_failure, is_win}
use Rattle.frz_arena.proofs.Lemmas.{win_and_failure}
use Rattle.frz_game.specs.Games.{graph_by}
use Rattle.frz_game.specs.declared.wrong.Wrong.{Wrong as WrongEntry}
use Rattle.frz_reasons.specs.declared.reason.Reason.{Reason}
use Rattle.frz_reasons.specs.FailingWays.{FailsFrom}
use Rattle.frz_reasons.specs.LocalEntries.{wrong_at}
use Rattle.frz_reasons.specs.ReasonTexts.{denials_text, moves_text}
use Rattle.frz_commands_why.specs.declared.decider.Decider.{Decider}
use Rattle.frz_bound_lines.specs.BoundLines.{kept_line}
use Rattle.frz_reasons.specs.declared.denial.Denial.{Denial}
use Rattle.frz_commands_why.specs.Telling.{ToldAt, ToldFailure, ToldOpponent, fails, has_bound, has_none, holds, met_wrong, neither, on_way, wins}
use Rattle.frz_commands_why.specs.Texts.{end_text, wrong_in}
use Rattle.frz_commands_why.proofs.OneDenial.{denied_there, one_denial}
use Rattle.frz_commands_why.proofs.Told.{Tale, left_failing}

-- that there is a failing way from each failure
abbrev pub WayThere : Type 0
WayThere = (rules : RuleLines) (value : Board → Value) (side : Colour) (codes : List ℕ)
    (start : ℕ) → is_failure (slice_index codes start) ≡ true →
    (arms : List (Arm Step ℕ Value)) × (reason : Reason)
    × FailsFrom (graph_by rules value) side codes start arms reason

-- that there is no other
abbrev pub WayAlone : Type 0
WayAlone = (rules : RuleLines) (value : Board → Value) (side : Colour) (codes : List ℕ)
    (start : ℕ) (arms others : List (Arm Step ℕ Value)) (reason other : Reason) →
    FailsFrom (graph_by rules value) side codes start arms reason →
    FailsFrom (graph_by rules value) side codes start others other →
    (arms ≡ others) × (reason ≡ other)

-- by the codes of one side
module _ (rules : RuleLines) (value : Board → Value) (side : Colour) (codes : List ℕ)
    (decider : Board → Decider) (number : ℕ) where
  abbrev Failing : List ℕ → Option WrongEntry → Type 0
  Failing = ToldFailure rules value side codes decider number

  abbrev Opposing : Option WrongEntry → List ℕ → Option WrongEntry → Type 0
  Opposing = ToldOpponent rules value side codes decider number

  pub failing_there : WayThere → is_failure (slice_index codes number) ≡ true → Tale Failing
  failing_there there failing =
      let h = there rules value side codes number failing in
      record {
        text = moves_text h.0 ++ end_text rules.groups decider h.1;
        wrong = wrong_in h.1;
        told = on_way h.0 h.1 h.2;
      }

  pub opponent_there : WayThere → (met : Option WrongEntry) → Tale (Opposing met)
  opponent_there there (Some w) = record { text = []; wrong = Some w; told = met_wrong w }
  opponent_there there None = by_failure (is_failure (slice_index codes number)) refl
    where
      by_failure : (b : Bool) → is_failure (slice_index codes number) ≡ b → Tale (Opposing None)
      by_failure true f =
          let tale = failing_there there f in
          record {
            text = kept_line side (slice_index codes number) ++ tale.text;
            wrong = tale.wrong;
            told = has_none f tale.text tale.wrong tale.told;
          }
      by_failure false f = record { text = []; wrong = None; told = has_bound f }

  pub failing_once : WayAlone → (a b : List ℕ) (v w : Option WrongEntry) → Failing a v →
      Failing b w → (a ≡ b) × (v ≡ w)
  failing_once alone a b v w (on_way arms reason x) (on_way others other y) =
      let same = alone rules value side codes number arms others reason other x y in (
        ap (λ l. moves_text l ++ end_text rules.groups decider reason) same.0
            ∙ ap (λ r. moves_text others ++ end_text rules.groups decider r) same.1,
        ap wrong_in same.1,
      )

  not_both : is_failure (slice_index codes number) ≡ true →
      is_failure (slice_index codes number) ≡ false → ⊥
  not_both f n = let both : true ≡ false = sym f ∙ n in cc

  pub opponent_once : WayAlone → (met : Option WrongEntry) (a b : List ℕ)
      (v w : Option WrongEntry) → Opposing met a v → Opposing met b w → (a ≡ b) × (v ≡ w)
  opponent_once alone (Some m) a b v w (met_wrong x) (met_wrong y) = (refl, refl)
  opponent_once alone None a b v w (has_bound n) (has_bound m) = (refl, refl)
  opponent_once alone None a b v w (has_bound n) (has_none f t x told) = absurd (not_both f n)
  opponent_once alone None a b v w (has_none f t x told) (has_bound n) = absurd (not_both f n)
  opponent_once alone None a b v w (has_none f t x told) (has_none g u y other) =
      let same = failing_once alone t u x y told other in
      (ap (λ (l : List ℕ). kept_line side (slice_index codes number) ++ l) same.0, same.1)

module _ (rules : RuleLines) (value : Board → Value) (side : Colour) (kept : Colour → List ℕ)
    (decider : Board → Decider) (number : ℕ) where
  abbrev code : ℕ
  code = slice_index (kept side) number

  abbrev At : List ℕ → Option WrongEntry → Type 0
  At = ToldAt rules value side kept decider number

  pub told_there : WayThere → Tale At
  told_there there = by_zero (code == 0) refl
    where
      by_win : (b : Bool) → is_win code ≡ b → code ≢ 1 → code ≢ 0 → Tale At
      by_win true w one zero = record { text = []; wrong = None; told = wins w }
      by_win false w one zero =
          let failing = left_failing code w one zero in
          let tale = failing_there rules value side (kept side) decider number there failing in
          record {
            text = tale.text;
            wrong = tale.wrong;
            told = fails failing tale.text tale.wrong tale.told;
          }

      by_hold : (b : Bool) → (code == 1) ≡ b → code ≢ 0 → Tale At
      by_hold true e zero =
          let hold = eqb-true code 1 e in
          let d = denied_there (graph_by rules value) side (kept side) number hold in
          let tale = opponent_there rules value (other_of side) (kept (other_of side)) decider
          number there d.wrong_one in
          record {
            text = denials_text d.denials ++ tale.text;
            wrong = tale.wrong;
            told = holds hold d.denials d.wrong_one d.denied tale.text tale.wrong tale.told;
          }
      by_hold false e zero = by_win (is_win code) refl (eqb-false code 1 e) zero

      by_zero : (b : Bool) → (code == 0) ≡ b → Tale At
      by_zero true e = record {
        text = [];
        wrong = Some (wrong_at (graph_by rules value) side (kept side) number);
        told = neither (eqb-true code 0 e);
      }
      by_zero false e = by_hold (code == 1) refl (eqb-false code 0 e)

  abbrev Same : (a b : List ℕ) → (v w : Option WrongEntry) → Type 0
  Same a b v w = (a ≡ b) × (v ≡ w)

  no_win_at : (n : ℕ) → is_win n ≡ false → code ≡ n → is_win code ≡ true → ⊥
  no_win_at n loses e w = let both : true ≡ false = sym w ∙ ap is_win e ∙ loses in cc

  no_failure_at : (n : ℕ) → is_failure n ≡ false → code ≡ n → is_failure code ≡ true → ⊥
  no_failure_at n stays e f = let both : true ≡ false = sym f ∙ ap is_failure e ∙ stays in cc

  hold_or_none : code ≡ 1 → code ≡ 0 → ⊥
  hold_or_none h z = omega arith

  pub told_once : WayAlone → (a b : List ℕ) (v w : Option WrongEntry) →
      At a v →
      At b w → Same a b v w
  told_once alone a b v w (wins x) (wins y) = (refl, refl)
  told_once alone a b v w (wins x) (holds h d r k t y o) = absurd (no_win_at 1 refl h x)
  told_once alone a b v w (wins x) (fails f t y told) = absurd (win_and_failure code x f)
  told_once alone a b v w (wins x) (neither z) = absurd (no_win_at 0 refl z x)
  told_once alone a b v w (holds h d r k t x o) (wins y) = absurd (no_win_at 1 refl h y)
  told_once alone a b v w (holds h d r k t x o) (holds h2 e s l u y q) =
      let same = one_denial (graph_by rules value) side (kept side) number d e r s k l in
      let later = opponent_once rules value (other_of side) (kept (other_of side)) decider number
      alone s t u x y (subst (λ (m : Option WrongEntry). ToldOpponent rules value (other_of side)
      (kept (other_of side)) decider number m t x) same.1 o) q in (
        ap (λ (l : List Denial). denials_text l ++ t) same.0
            ∙ ap (λ (l : List ℕ). denials_text e ++ l) later.0,
        later.1,
      )
  told_once alone a b v w (holds h d r k t x o) (fails f u y told) =
      absurd (no_failure_at 1 refl h f)
  told_once alone a b v w (holds h d r k t x o) (neither z) = absurd (hold_or_none h z)
  told_once alone a b v w (fails f t x told) (wins y) = absurd (win_and_failure code y f)
  told_once alone a b v w (fails f t x told) (holds h d r k u y o) =
      absurd (no_failure_at 1 refl h f)
  told_once alone a b v w (fails f t x told) (fails g u y other) =
      failing_once rules value side (kept side) decider number alone t u x y told other
  told_once alone a b v w (fails f t x told) (neither z) = absurd (no_failure_at 0 refl z f)
  told_once alone a b v w (neither z) (wins y) = absurd (no_win_at 0 refl z y)
  told_once alone a b v w (neither z) (holds h d r k t x o) = absurd (hold_or_none h z)
  told_once alone a b v w (neither z) (fails f t x told) = absurd (no_failure_at 0 refl z f)
  told_once alone a b v w (neither z) (neither y) = (refl, refl)
