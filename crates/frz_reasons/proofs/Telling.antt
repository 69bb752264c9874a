-- How a failing way is told, move by move.
use Rattle.std.proofs.Common.{◌≡◌, ◌++◌, ℕ, List, [], ◌∷◌, Result, Ok, Err, refl, sym, subst, ap, ◌∙◌, append_assoc, append-nil}
use Rattle.std.specs.Prelude.{codes as text, IfOk}
use Rattle.std.specs.Result.{IsErr}
use Rattle.frz_board.specs.declared.man.Colour.{Colour}
use Rattle.frz_board.specs.Moving.{Step}
use Rattle.frz_board.specs.Texts.{text_of}
use Rattle.frz_sets.specs.declared.exit.Value.{Value}
use Rattle.frz_store.specs.Told.{SinkTold}
use Rattle.frz_store.specs.declared.outside.Failed.{Failed}
use Rattle.frz_answer.specs.Texts.{TookText, FailedWithin}
use Rattle.frz_answer.proofs.Lemmas.{took_nothing, took_next, failed_next, failed_first, gave_up}
use Rattle.frz_arena.specs.declared.arm.Arm.{Arm}
use Rattle.frz_arena.specs.declared.arm.Next.TheVariants.{Inside, Outside}
use Rattle.frz_arena.specs.Arena.{Arena}
use Rattle.frz_reasons.specs.declared.reason.Reason.{Reason}
use Rattle.frz_reasons.specs.declared.reason.Reason.TheVariants.{Left}
use Rattle.frz_reasons.specs.FailingWays.{IsPlayedAt, FailsFrom, leaves, goes_on}
use Rattle.frz_reasons.specs.ReasonTexts.{moves_text}
use Rattle.frz_reasons.specs.TellingFailures.{TellsFailure}
use Rattle.frz_reasons.proofs.OneWay.{Behind}

moves_both : (xs ys : List (Arm Step ℕ Value)) → moves_text (xs ++ ys) ≡ moves_text xs ++ moves_text ys
moves_both [] ys = refl
moves_both (a ∷ xs) ys =
    let line = text_of a.mv ++ text "\n" in
    ap (λ l. line ++ l) (moves_both xs ys)
    ∙ sym (append_assoc line (moves_text xs) (moves_text ys))

abbrev line_of : Arm Step ℕ Value → List ℕ
line_of a = text_of a.mv ++ text "\n"

-- one move more was written
one_move_more : (played : List (Arm Step ℕ Value)) (a : Arm Step ℕ Value) (old mid new : SinkTold)
    → TookText (moves_text played) old mid → TookText (line_of a) mid new
    → TookText (moves_text (played ++ a ∷ [])) old new
one_move_more played a old mid new before line =
    subst (λ l. TookText l old new) (sym (moves_both played (a ∷ [])))
    (took_next before (subst (λ l. TookText l mid new) (sym (append-nil (line_of a))) line))

no_answer : (result : Result Reason Failed) (reason : Reason) → IsErr result
    → IfOk result (λ r. r ≡ reason)
no_answer (Ok r) reason none = absurd (cc)
no_answer (Err e) reason none = tt

module _ (arena : Arena Step ℕ Value) (side : Colour) (codes : List ℕ) (start : ℕ) where
  -- the moves so far are written, and each way on from the number is one from the start
  pub record IsSoFar (number : ℕ) (old new : SinkTold) : Type 0 where
    pub played : List (Arm Step ℕ Value)
    pub took : TookText (moves_text played) old new
    pub from : (rest : List (Arm Step ℕ Value)) (reason : Reason)
        → FailsFrom arena side codes number rest reason
        → FailsFrom arena side codes start (played ++ rest) reason

  pub so_far_at_start : (out : SinkTold) → IsSoFar start out out
  so_far_at_start out = record {
    played = [];
    took = took_nothing out;
    from = λ rest reason way. way;
  }

  -- a move was played and written that leads to the next number
  pub goes_so_far : (number q : ℕ) (a : Arm Step ℕ Value) (old mid new : SinkTold)
      → IsPlayedAt arena side codes number a → a.next ≡ Inside q
      → IsSoFar number old mid → TookText (line_of a) mid new → IsSoFar q old new
  goes_so_far number q a old mid new p into so line = record {
    played = so.played ++ a ∷ [];
    took = one_move_more so.played a old mid new so.took line;
    from = λ rest reason way.
        subst (λ l. FailsFrom arena side codes start l reason)
        (sym (append_assoc so.played (a ∷ []) rest))
        (so.from (a ∷ rest) reason (goes_on a q p into way));
  }

  -- the way is over at the number
  pub told_over : (number : ℕ) (reason : Reason) (old new : SinkTold)
      → FailsFrom arena side codes number [] reason → IsSoFar number old new
      → TellsFailure arena side codes start (Ok reason) old new
  told_over number reason old new over so = record {
    arms = so.played;
    reason = reason;
    way = subst (λ l. FailsFrom arena side codes start l reason) (append-nil so.played)
        (so.from [] reason over);
    wrote = record { ok = so.took; failed = tt };
    answers = refl;
  }

  -- a move was played and written that leaves the set
  pub told_out : (number : ℕ) (a : Arm Step ℕ Value) (v : Value) (old mid new : SinkTold)
      → IsPlayedAt arena side codes number a → a.next ≡ Outside v
      → IsSoFar number old mid → TookText (line_of a) mid new
      → TellsFailure arena side codes start (Ok (Left number a.mv v)) old new
  told_out number a v old mid new p out so line = record {
    arms = so.played ++ a ∷ [];
    reason = Left number a.mv v;
    way = so.from (a ∷ []) (Left number a.mv v) (leaves a v p out);
    wrote = record { ok = one_move_more so.played a old mid new so.took line; failed = tt };
    answers = refl;
  }

  -- the sink failed within the line of a move
  pub told_failed : (number : ℕ) (a : Arm Step ℕ Value) (result : Result Reason Failed)
      (old mid new : SinkTold) → Behind arena side codes number a → IsErr result
      → IsSoFar number old mid → FailedWithin (line_of a) mid new
      → TellsFailure arena side codes start result old new
  told_failed number a result old mid new behind err so failed = record {
    arms = so.played ++ a ∷ behind.rest;
    reason = behind.reason;
    way = so.from (a ∷ behind.rest) behind.reason behind.way;
    wrote = gave_up err (subst (λ l. FailedWithin l old new)
        (sym (moves_both so.played (a ∷ behind.rest)))
        (failed_next so.took (failed_first (moves_text behind.rest) failed)));
    answers = no_answer result behind.reason err;
  }
