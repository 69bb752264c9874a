-- What was told of a number, from what was written piece by piece.
use Rattle.std.proofs.Common.{◌≡◌, ◌≢◌, ℕ, ◌<◌, true, false, List, [], ◌++◌, slice_index, Option, None, Some, Result, Ok, Err, IfOk, IfSome, inl, inr, refl, sym, ap, subst, arith}
use Rattle.std.specs.Prelude.{IsSome}
use Rattle.std.specs.Result.{IsErr}
use Rattle.std.proofs.lemmas.Bool.Decides.{nat_tests}
use Rattle.frz_board.specs.declared.man.Colour.{Colour}
use Rattle.frz_board.specs.Boards.{Board}
use Rattle.frz_board.specs.Men.{other_of}
use Rattle.frz_board.specs.Moving.{Step}
use Rattle.frz_fide.specs.Legal.{after, is_legal}
use Rattle.frz_fide.proofs.Lemmas.{only_legal}
use Rattle.frz_sets.specs.declared.exit.Value.{Value}
use Rattle.frz_sets.specs.Sets.{size_of}
use Rattle.frz_sets.specs.Views.{GroupLine, RuleLines}
use Rattle.frz_index.proofs.Lemmas.{Num_below, position_tells}
use Rattle.frz_arena.specs.declared.arm.Arm.{Arm}
use Rattle.frz_store.specs.declared.outside.Failed.{Failed}
use Rattle.frz_store.specs.Told.{SinkTold}
use Rattle.frz_arena.specs.Codes.{is_failure, is_win}
use Rattle.frz_game.specs.Games.{graph_by}
use Rattle.frz_game.specs.Numbers.{position_at}
use Rattle.frz_game.specs.declared.wrong.Wrong.{Wrong as WrongEntry}
use Rattle.frz_answer.specs.declared.end.End.TheVariants.{Done, SinkFault}
use Rattle.frz_answer.specs.declared.status.Status.{Status}
use Rattle.frz_answer.specs.Texts.{FailedWithin, TookText, WroteText}
use Rattle.frz_answer.proofs.Lemmas.{failed_first, failed_next, took_next, took_nothing, wrote_next}
use Rattle.frz_bound_lines.specs.BoundLines.{kept_line}
use Rattle.frz_reasons.specs.declared.reason.Reason.{Reason}
use Rattle.frz_reasons.specs.declared.reason.Reason.TheVariants.{Wrong, Mated, Renounced, Left}
use Rattle.frz_reasons.specs.FailingGames.{EndsAt, position_behind}
use Rattle.frz_reasons.specs.LocalEntries.{wrong_at}
use Rattle.frz_reasons.specs.FailingWays.{FailsFrom}
use Rattle.frz_reasons.specs.ReasonTexts.{denials_text, moves_text}
use Rattle.frz_reasons.specs.TellingDenials.{TellsDenials}
use Rattle.frz_reasons.specs.TellingFailures.{TellsFailure}
use Rattle.frz_commands_why.specs.declared.decider.Decider.{Decider}
use Rattle.frz_commands_why.specs.Telling.{EndsWhy, TellsBehind, TellsSo, TellsWhy, ToldAt, ToldFailure, ToldOpponent, fails, has_bound, has_none, holds, met_wrong, neither, on_way, wins}
use Rattle.frz_commands_why.specs.Texts.{LeavesLegally, end_text, exit_lines, exit_text, lack_text, status_by, wrong_in, wrong_text}

-- a code that is neither 0, nor that of a hold or of a win, is that of a failure
pub left_failing : (c : ℕ) → is_win c ≡ false → c ≢ 1 → c ≢ 0 → is_failure c ≡ true
left_failing c win one zero = grind (arith, nat_tests)

-- what holds of each failure of the sink holds of a result that is one
pub as_failed : {T : Type 0} (P : Result T Failed → Type 0) (result : Result T Failed) →
    IsErr result → ((e : Failed) → P (Err e)) → P result
as_failed P (Ok x) is h = absurd (cc)
as_failed P (Err e) is h = h e

-- a number of a position is one of the set
pub number_below : (groups : List GroupLine) (number : ℕ) → IsSome (position_at groups number) →
    number < size_of groups
number_below groups number some = by_some (position_at groups number) refl some
  where
    by_some : (o : Option Board) → position_at groups number ≡ o → IsSome o →
        number < size_of groups
    by_some None at is = absurd (cc)
    by_some (Some p) at is =
        let h = position_tells groups number p at in
        subst (λ n. n < size_of groups) h.number (Num_below groups p h.member)

-- the move to an exit is legal
pub leaves_legally : (rules : RuleLines) (value : Board → Value) (side : Colour) (q : Board)
    (reason : Reason) → EndsAt rules value side q reason → LeavesLegally rules.groups reason
leaves_legally rules value side q (Wrong w) ends = tt
leaves_legally rules value side q Mated ends = tt
leaves_legally rules value side q Renounced ends = tt
leaves_legally rules value side q (Left number m v) ends =
    subst (λ (o : Option Board). IfSome o (λ p. is_legal p m ≡ true)) (sym ends.at)
    (only_legal ends.from m ends.legal).1

-- the exit by a move from the position was written
pub left_wrote : (decider : Board → Decider) (value : Value) (p : Board) (m : Step) (q here : Board)
    (d : Decider) → q ≡ after p m → here ≡ q → d ≡ decider q → (result : Result (Unit {0}) Failed)
    (old new : SinkTold) →
    WroteText (exit_lines value here d ++ lack_text d p m) result old new →
    WroteText (exit_text decider value m (Some p)) result old new
left_wrote decider value p m q here d led same is result old new wrote =
    subst (λ (x : Board). WroteText (exit_lines value x (decider x) ++ lack_text (decider x) p m)
    result old new) led
    (subst (λ (x : Board). WroteText (exit_lines value x (decider q) ++ lack_text (decider q) p m)
    result old new) same
    (subst (λ (y : Decider). WroteText (exit_lines value here y ++ lack_text y p m) result old new)
    is wrote))

-- that the reason at the end of a way is true of the position behind it
abbrev pub WayEnds : Type 0
WayEnds = (rules : RuleLines) (value : Board → Value) (side : Colour) (codes : List ℕ)
    (start : ℕ) (arms : List (Arm Step ℕ Value)) (reason : Reason) (p : Board) →
    position_at rules.groups start ≡ Some p →
    FailsFrom (graph_by rules value) side codes start arms reason →
    EndsAt rules value side (position_behind p arms) reason

-- so the move to the exit that was answered is legal
pub told_legally : WayEnds → (rules : RuleLines) (value : Board → Value) (side : Colour)
    (codes : List ℕ) (number : ℕ) → IsSome (position_at rules.groups number) →
    (reason : Reason) (old mid : SinkTold) →
    TellsFailure (graph_by rules value) side codes number (Ok reason) old mid →
    LeavesLegally rules.groups reason
told_legally ends rules value side codes number some reason old mid h =
    by_some (position_at rules.groups number) refl some
  where
    by_some : (o : Option Board) → position_at rules.groups number ≡ o → IsSome o →
        LeavesLegally rules.groups reason
    by_some None at is = absurd (cc)
    by_some (Some p) at is =
        subst (λ (r : Reason). LeavesLegally rules.groups r) (sym h.answers)
        (leaves_legally rules value side (position_behind p h.arms) h.reason
        (ends rules value side codes number h.arms h.reason p at h.way))

-- a text of which P holds, with a wrong entry or none
pub record Tale (P : List ℕ → Option WrongEntry → Type 0) : Type 0 where
  pub text : List ℕ
  pub wrong : Option WrongEntry
  pub told : P text wrong

-- by the codes of one side
module _ (rules : RuleLines) (value : Board → Value) (side : Colour) (codes : List ℕ)
    (decider : Board → Decider) (number : ℕ) where
  abbrev Fails : Result (Option WrongEntry) Failed → SinkTold → SinkTold → Type 0
  Fails = TellsSo (ToldFailure rules value side codes decider number)

  abbrev Opposes : Result (Option WrongEntry) Failed → SinkTold → SinkTold → Type 0
  Opposes = TellsSo (ToldOpponent rules value side codes decider number None)

  abbrev own_line : List ℕ
  own_line = kept_line side (slice_index codes number)

  -- the way was written, and then its end
  pub failure_told : (reason : Reason)
      (result : Result (Option WrongEntry) Failed) (old mid new : SinkTold) →
      TellsFailure (graph_by rules value) side codes number (Ok reason) old mid →
      WroteText (end_text rules.groups decider reason) result mid new →
      IfOk result (λ w. w ≡ wrong_in reason) → Fails result old new
  failure_told reason result old mid new h wrote answers = record {
    text = moves_text h.arms ++ end_text rules.groups decider reason;
    wrong = wrong_in reason;
    told = on_way h.arms reason
        (subst (λ r. FailsFrom (graph_by rules value) side codes number h.arms r)
        (sym h.answers) h.way);
    wrote = wrote_next h.wrote.ok wrote;
    answers = answers;
  }

  -- the sink failed within the way
  pub failure_failed : (e d : Failed) (old new : SinkTold) →
      TellsFailure (graph_by rules value) side codes number (Err e) old new →
      Fails (Err d) old new
  failure_failed e d old new h = record {
    text = moves_text h.arms ++ end_text rules.groups decider h.reason;
    wrong = wrong_in h.reason;
    told = on_way h.arms h.reason h.way;
    wrote = record {
      ok = tt;
      failed = failed_first (end_text rules.groups decider h.reason) h.wrote.failed;
    };
    answers = tt;
  }

  -- an opponent with a bound
  pub opponent_bound : is_failure (slice_index codes number) ≡ false → (out : SinkTold) →
      Opposes (Ok None) out out
  opponent_bound stays out = record {
    text = [];
    wrong = None;
    told = has_bound stays;
    wrote = record { ok = took_nothing out; failed = tt };
    answers = refl;
  }

  -- the line of an opponent that has none, and his way
  pub opponent_told : is_failure (slice_index codes number) ≡ true →
      (result : Result (Option WrongEntry) Failed) (old mid new : SinkTold) →
      TookText own_line old mid → Fails result mid new → Opposes result old new
  opponent_told failing result old mid new line h = record {
    text = own_line ++ h.text;
    wrong = h.wrong;
    told = has_none failing h.text h.wrong h.told;
    wrote = wrote_next line h.wrote;
    answers = h.answers;
  }

  -- the sink failed within that line
  pub opponent_failed : is_failure (slice_index codes number) ≡ true →
      Tale (ToldFailure rules value side codes decider number) → (d : Failed)
      (old new : SinkTold) → FailedWithin own_line old new → Opposes (Err d) old new
  opponent_failed failing tale d old new failed = record {
    text = own_line ++ tale.text;
    wrong = tale.wrong;
    told = has_none failing tale.text tale.wrong tale.told;
    wrote = record { ok = tt; failed = failed_first tale.text failed };
    answers = tt;
  }

-- by the codes of both
module _ (rules : RuleLines) (value : Board → Value) (side : Colour) (kept : Colour → List ℕ)
    (decider : Board → Decider) (number : ℕ) where
  abbrev Behind : Result (Option WrongEntry) Failed → SinkTold → SinkTold → Type 0
  Behind = TellsBehind rules value side kept decider number

  abbrev Denies : Result (Option WrongEntry) Failed → SinkTold → SinkTold → Type 0
  Denies = TellsDenials (graph_by rules value) side (kept side) number

  abbrev OtherTold : Option WrongEntry → List ℕ → Option WrongEntry → Type 0
  OtherTold = ToldOpponent rules value (other_of side) (kept (other_of side)) decider number

  pub behind_failure : is_failure (slice_index (kept side) number) ≡ true →
      (result : Result (Option WrongEntry) Failed) (old new : SinkTold) →
      Fails rules value side (kept side) decider number result old new → Behind result old new
  behind_failure failing result old new h = record {
    text = h.text;
    wrong = h.wrong;
    told = fails failing h.text h.wrong h.told;
    wrote = h.wrote;
    answers = h.answers;
  }

  pub win_told : is_win (slice_index (kept side) number) ≡ true → (out : SinkTold) →
      Behind (Ok None) out out
  win_told win out = record {
    text = [];
    wrong = None;
    told = wins win;
    wrote = record { ok = took_nothing out; failed = tt };
    answers = refl;
  }

  -- the denials, with no wrong entry, and what is told of the opponent
  pub hold_told : slice_index (kept side) number ≡ 1 →
      (result : Result (Option WrongEntry) Failed) (old mid new : SinkTold) →
      Denies (Ok None) old mid →
      Opposes rules value (other_of side) (kept (other_of side)) decider number result mid new →
      Behind result old new
  hold_told hold result old mid new h o =
      let met : None ≡ h.wrong = h.answers in
      record {
        text = denials_text h.denials ++ o.text;
        wrong = o.wrong;
        told = holds hold h.denials h.wrong h.denied o.text o.wrong
            (subst (λ (w : Option WrongEntry). OtherTold w o.text o.wrong) met o.told);
        wrote = wrote_next h.wrote.ok o.wrote;
        answers = o.answers;
      }

  -- a wrong entry was met
  pub hold_broken : slice_index (kept side) number ≡ 1 → (w : WrongEntry) (old new : SinkTold) →
      Denies (Ok (Some w)) old new → Behind (Ok (Some w)) old new
  hold_broken hold w old new h =
      let met : Some w ≡ h.wrong = h.answers in
      record {
        text = denials_text h.denials ++ [];
        wrong = Some w;
        told = holds hold h.denials h.wrong h.denied [] (Some w)
            (subst (λ (x : Option WrongEntry). OtherTold x [] (Some w)) met (met_wrong w));
        wrote = record { ok = took_next h.wrote.ok (took_nothing new); failed = tt };
        answers = refl;
      }

  -- the sink failed within the denials
  pub hold_failed : slice_index (kept side) number ≡ 1 → ((met : Option WrongEntry) →
      Tale (OtherTold met)) → (e d : Failed) (old new : SinkTold) → Denies (Err e) old new →
      Behind (Err d) old new
  hold_failed hold tales e d old new h =
      let tale = tales h.wrong in
      record {
        text = denials_text h.denials ++ tale.text;
        wrong = tale.wrong;
        told = holds hold h.denials h.wrong h.denied tale.text tale.wrong tale.told;
        wrote = record { ok = tt; failed = failed_first tale.text h.wrote.failed };
        answers = tt;
      }

  pub broken_told : slice_index (kept side) number ≡ 0 → (wrong : WrongEntry) →
      wrong ≡ wrong_at (graph_by rules value) side (kept side) number → (out : SinkTold) →
      Behind (Ok (Some wrong)) out out
  broken_told zero wrong is out = record {
    text = [];
    wrong = Some (wrong_at (graph_by rules value) side (kept side) number);
    told = neither zero;
    wrote = record { ok = took_nothing out; failed = tt };
    answers = ap (λ (w : WrongEntry). Some w) is;
  }

  abbrev code : ℕ
  code = slice_index (kept side) number

  abbrev Tells : Result Status Failed → SinkTold → SinkTold → Type 0
  Tells = TellsWhy rules value side kept decider number

  -- the line of the bound, what stands behind it, and a wrong entry
  pub all_told : (wrong : Option WrongEntry) (old first second new : SinkTold) →
      TookText (kept_line side code) old first → Behind (Ok wrong) first second →
      TookText (wrong_text wrong) second new → Tells (Ok (status_by wrong)) old new
  all_told wrong old first second new bound h last =
      let is : wrong ≡ h.wrong = h.answers in
      record {
        text = h.text;
        wrong = wrong;
        told = subst (λ (w : Option WrongEntry).
            ToldAt rules value side kept decider number h.text w) (sym is) h.told;
        wrote = record { ok = took_next bound (took_next h.wrote.ok last); failed = tt };
        answers = refl;
      }

  -- the sink failed within the line of a wrong entry
  pub last_failed : (e : Failed) (wrong : Option WrongEntry) (old first second new : SinkTold) →
      TookText (kept_line side code) old first → Behind (Ok wrong) first second →
      FailedWithin (wrong_text wrong) second new → Tells (Err e) old new
  last_failed e wrong old first second new bound h last =
      let is : wrong ≡ h.wrong = h.answers in
      record {
        text = h.text;
        wrong = wrong;
        told = subst (λ (w : Option WrongEntry).
            ToldAt rules value side kept decider number h.text w) (sym is) h.told;
        wrote = record {
          ok = tt;
          failed = failed_next bound (failed_next h.wrote.ok last);
        };
        answers = tt;
      }

  -- it failed within what stands behind the line of the bound
  pub behind_failed : (e d : Failed) (old first new : SinkTold) →
      TookText (kept_line side code) old first → Behind (Err e) first new → Tells (Err d) old new
  behind_failed e d old first new bound h = record {
    text = h.text;
    wrong = h.wrong;
    told = h.told;
    wrote = record {
      ok = tt;
      failed = failed_next bound (failed_first (wrong_text h.wrong) h.wrote.failed);
    };
    answers = tt;
  }

  -- it failed within that line
  pub bound_failed : (text : List ℕ) (wrong : Option WrongEntry) →
      ToldAt rules value side kept decider number text wrong → (e : Failed)
      (old new : SinkTold) → FailedWithin (kept_line side code) old new → Tells (Err e) old new
  bound_failed text wrong told e old new failed = record {
    text = text;
    wrong = wrong;
    told = told;
    wrote = record { ok = tt; failed = failed_first (text ++ wrong_text wrong) failed };
    answers = tt;
  }

  -- the command ends with what was written
  pub ends_told : (status : Status) (old new : SinkTold) → Tells (Ok status) old new →
      EndsWhy rules value side kept decider number (Done status) old new
  ends_told status old new h =
      let is : status ≡ status_by h.wrong = h.answers in
      record {
        text = h.text;
        wrong = h.wrong;
        told = h.told;
        said = record { says = inl (ap (λ (s : Status). Done s) is, h.wrote.ok) };
      }

  pub ends_failed : (e : Failed) (old new : SinkTold) → Tells (Err e) old new →
      EndsWhy rules value side kept decider number SinkFault old new
  ends_failed e old new h = record {
    text = h.text;
    wrong = h.wrong;
    told = h.told;
    said = record { says = inr (refl, h.wrote.failed) };
  }
