-- A journey from the number of a position, or from a position that has none.
use Rattle.std.proofs.Common.{◌≡◌, ◌++◌, ℕ, inl, true, List, [], None, Result, Err, refl, sym, subst}
use Rattle.std.specs.Prelude.{◌↔◌, IsSome}
use Rattle.frz_board.specs.Boards.{Board}
use Rattle.frz_board.specs.declared.man.Colour.{Colour}
use Rattle.frz_index.specs.Members.{HasNumber, Member}
use Rattle.frz_sets.specs.Views.{GroupLine}
use Rattle.frz_store.specs.Told.{SourceTold, SinkTold}
use Rattle.frz_answer.specs.Answers.{IsLines}
use Rattle.frz_answer.proofs.Lemmas.{took_nothing}
use Rattle.frz_backs.specs.Links.{Link}
use Rattle.frz_ways.specs.declared.end.LineFault.TheVariants as faults
use Rattle.frz_ways.specs.declared.hearing.Reader.{Reader}
use Rattle.frz_ways.specs.declared.opponent.Opponent.{Opponent}
use Rattle.frz_ways.specs.declared.session_end.PlayFault.{PlayFault}
use Rattle.frz_ways.specs.declared.session_end.PlayFault.TheVariants as plays
use Rattle.frz_ways.specs.declared.session_end.TheConstants.{MOST_LINES}
use Rattle.frz_ways.specs.declared.way_end.WayEnd.{WayEnd}
use Rattle.frz_ways.specs.Hearing.{HasEnded}
use Rattle.frz_ways.specs.PlayLoaded.{IsSettled}
use Rattle.frz_ways.specs.SessionFaults.{MayHold, TookBytes, WroteBy}
use Rattle.frz_ways.proofs.Lemmas.{held_whole, some_rest, took_none}
use Rattle.frz_journeys.specs.declared.place.Arrival.{Arrival}
use Rattle.frz_journeys.specs.declared.place.Place.TheVariants.{Own}
use Rattle.frz_journeys.specs.Journeys.{IsJourney}
use Rattle.frz_journeys.specs.Playing.{PlaysJourney, TellsJourney}

-- a position that has no number is not in the set
pub no_member : {set groups : List GroupLine} (p : Board) → set ≡ groups
    → IsSome {T = ℕ} None ↔ Member set p → Member groups p → ⊥
no_member p same is member =
    (let no = is.1 (subst (λ (gs : List GroupLine). Member gs p) (sym same) member) in cc)

-- a position outside answers nothing but that
pub never_outside : (answer : Result WayEnd PlayFault) → IsSettled answer
    → answer ≡ Err (plays.Line faults.Outside) → ⊥
never_outside answer settled e = subst (λ (a : Result WayEnd PlayFault). IsSettled a) e settled

module _ (opponent : Opponent) (side : Colour) (before : List Link) (table : Link) (p : Board) where
  -- what was written and taken of the journey
  abbrev pub WroteJourney : Arrival → (source left : SourceTold) → (out taken : SinkTold) →
      (steps now : ℕ) → Type 0
  WroteJourney arrival source left out taken steps now =
      (text bytes whole : List ℕ) × IsLines text × WroteBy arrival.answer text out taken
      × TookBytes bytes source left × MayHold source whole
      × TellsJourney opponent side before table p whole bytes text arrival steps now

  pub nothing_told : (Member table.rules.groups p → ⊥) → (source : SourceTold) (out : SinkTold)
      (steps : ℕ)
      → WroteJourney (record { place = Own; answer = Err (plays.Line faults.Outside) }) source source
      out out steps steps
  nothing_told none source out steps =
      let r = some_rest source ⊥ (λ e. absurd e) in (
        [],
        [],
        r.0,
        inl refl,
        took_nothing out,
        took_none source source refl,
        r.1,
        λ member stages left j. absurd (none member),
      )

  pub all_told : (start : ℕ) → HasNumber table.rules.groups start p → (first last : Reader)
      → first.more ≡ MOST_LINES → (arrival : Arrival) (source left : SourceTold)
      (out taken : SinkTold) (steps now : ℕ) → (last.ended ≡ true → HasEnded left)
      → (text bytes : List ℕ) → IsLines text → WroteBy arrival.answer text out taken
      → TookBytes bytes source left
      → PlaysJourney opponent side before table Own p first last bytes text arrival steps now
      → WroteJourney arrival source left out taken steps now
  all_told start has first last fresh arrival source left out taken steps now ended text bytes lines
      wrote took plays_on =
      let r = some_rest left (last.ended ≡ true) ended in
      let whole = bytes ++ r.0 in (
        text,
        bytes,
        whole,
        lines,
        wrote,
        took,
        held_whole bytes source left took r.0 r.1,
        λ member stages rest j. plays_on r.0 r.2 stages rest
            (subst (λ k. IsJourney opponent side before table Own p
            (record { left = whole; more = k }) stages rest) (sym fresh) j),
      )
