-- A stage whose line was not written, or was.
use Rattle.std.proofs.Common.{◌≡◌, ◌+◌, ◌++◌, ℕ, inl, inr, List, [], Result, Ok, Err, append-nil, refl, sym, subst, arith}
use Rattle.std.specs.Prelude.{codes, decimal, slice_index}
use Rattle.std.specs.Result.{IsErrAnd}
use Rattle.frz_board.specs.Moving.{Step}
use Rattle.frz_board.specs.declared.man.Colour.{Colour}
use Rattle.frz_sets.specs.declared.exit.Value.{Value}
use Rattle.frz_store.specs.Told.{SourceTold, SinkTold}
use Rattle.frz_answer.specs.Answers.{IsLines}
use Rattle.frz_answer.specs.Texts.{FailedWithin}
use Rattle.frz_arena.specs.Arena.{Arena}
use Rattle.frz_ways.specs.declared.end.LineFault.TheVariants as faults
use Rattle.frz_ways.specs.declared.hearing.Reader.{Reader}
use Rattle.frz_ways.specs.declared.opponent.Opponent.{Opponent}
use Rattle.frz_ways.specs.declared.session_end.PlayFault.{PlayFault}
use Rattle.frz_ways.specs.declared.session_end.PlayFault.TheVariants as plays
use Rattle.frz_ways.specs.declared.way_end.Finish.{Finish}
use Rattle.frz_ways.specs.Hearing.{StaysEnded}
use Rattle.frz_ways.specs.Shown.{PlaysShown, shown_text}
use Rattle.frz_ways.specs.SessionFaults.{TookBytes, WroteBy}
use Rattle.frz_ways.proofs.Lemmas.{took_none, way_front}
use Rattle.frz_journeys.specs.declared.place.Place.{Place}
use Rattle.frz_journeys.specs.declared.place.Place.TheVariants.{Own, Behind}
use Rattle.frz_journeys.specs.JourneyTexts.{place_line}

-- the line of a place is a line, or nothing
pub line_lines : (place : Place) → IsLines (place_line place)
line_lines Own = inl refl
line_lines (Behind place) = inr (codes "back " ++ decimal (place + 1), refl)

-- what holds where the sink failed
pub by_output : (P : Result Finish PlayFault → Type 0) (result : Result Finish PlayFault)
    → IsErrAnd result (λ e. e ≡ plays.Line faults.Output) → P (Err (plays.Line faults.Output))
    → P result
by_output P (Ok finish) is h = absurd is
by_output P (Err fault) is h = subst (λ (f : PlayFault). P (Err f)) (sym is) h

-- what was played of a way of which nothing was written or taken
nothing_played_nothing_written : (arena : Arena Step ℕ Value) (opponent : Opponent) (side : Colour)
    (cs : List ℕ)
    (start : ℕ) (reader : Reader) (steps : ℕ)
    → PlaysShown arena opponent side cs start reader reader [] []
    (Err (plays.Line faults.Output)) steps steps
nothing_played_nothing_written arena opponent side cs start reader steps = λ left may plies end last
    w.
    let front = way_front arena opponent side (λ k. cs) 0 (record { left = left; more = reader.more })
    last (0, start) plies end w in (
      record {
        rest = shown_text opponent side (slice_index cs start) start plies end;
        unread = front.0;
        begins = refl;
        takes = front.1;
        finishes = tt;
      },
      omega arith,
      tt,
    )

-- what was written and taken behind a line
abbrev pub PlayedBehind : Arena Step ℕ Value → Opponent → Colour → List ℕ → (start : ℕ) → Place →
    (old new : Reader) → Result Finish PlayFault → (source left : SourceTold) →
    (out taken : SinkTold) → (before now : ℕ) → Type 0
PlayedBehind arena opponent side cs start place old new result source left out taken before now =
    (text bytes : List ℕ) × IsLines text
    × WroteBy result (place_line place ++ text) out taken × TookBytes bytes source left
    × StaysEnded old new bytes
    × PlaysShown arena opponent side cs start old new bytes text result before now

-- the sink failed within the line
pub line_failed : (arena : Arena Step ℕ Value) (opponent : Opponent) (side : Colour) (cs : List ℕ)
    (start : ℕ) (place : Place) (reader : Reader) (result : Result Finish PlayFault)
    (source : SourceTold) (out taken : SinkTold) (steps : ℕ)
    → IsErrAnd result (λ e. e ≡ plays.Line faults.Output) → FailedWithin (place_line place) out taken
    → PlayedBehind arena opponent side cs start place reader reader result source source out taken
    steps steps
line_failed arena opponent side cs start place reader result source out taken steps is failed =
    by_output (λ r. PlayedBehind arena opponent side cs start place reader reader r source source out
    taken steps steps) result is (
      [],
      [],
      inl refl,
      subst (λ (l : List ℕ). FailedWithin l out taken) (sym (append-nil (place_line place))) failed,
      took_none source source refl,
      λ e. (refl, e),
      nothing_played_nothing_written arena opponent side cs start reader steps,
    )
