-- A way by codes in memory.
use Rattle.std.proofs.Common.{◌≡◌, ◌==◌, ◌++◌, ◌⊎◌, ℕ, inl, inr, Bool, List, [], Result, Ok, Err, refl, sym, subst, ap, ◌∙◌, arith, if◌then◌else◌}
use Rattle.std.specs.Prelude.{slice_index}
use Rattle.std.proofs.lemmas.Bool.{cases_Bool, eqb-true}
use Rattle.frz_board.specs.declared.man.Colour.{Colour}
use Rattle.frz_board.specs.Moving.{Step}
use Rattle.frz_sets.specs.declared.exit.Value.{Value}
use Rattle.frz_answer.specs.World.{Spent}
use Rattle.frz_arena.specs.declared.arm.Next.TheVariants.{Inside}
use Rattle.frz_arena.specs.Arena.{Arena}
use Rattle.frz_ways.specs.declared.end.LineFault.TheVariants as faults
use Rattle.frz_ways.specs.declared.hearing.Reader.{Reader}
use Rattle.frz_ways.specs.declared.opponent.Opponent.{Opponent}
use Rattle.frz_ways.specs.declared.opponent.Opponent.TheVariants as opponents
use Rattle.frz_ways.specs.declared.session_end.PlayFault.{PlayFault}
use Rattle.frz_ways.specs.declared.session_end.PlayFault.TheVariants as plays
use Rattle.frz_ways.specs.declared.way_end.Finish.{Finish}
use Rattle.frz_ways.specs.Costs.{way_numbers}
use Rattle.frz_ways.specs.Kept.{uncalled}
use Rattle.frz_ways.specs.PlayLoaded.{IsSettled, PlaysLoaded}
use Rattle.frz_ways.specs.PlayWay.{Plays, WayPlayed}
use Rattle.frz_ways.specs.SessionFaults.{StoreCause}
use Rattle.frz_ways.specs.Shown.{PlaysShown, first_again, held_text, shown_text}
use Rattle.frz_ways.specs.WayEnds.{ended}
use Rattle.frz_ways.specs.Ways.{WayPly, EndOfWay}
use Rattle.frz_ways.specs.WayTexts.{way_text}

-- what was played by codes that stay the same
pub plays_loaded : (arena : Arena Step ℕ Value) (opponent : Opponent) (side : Colour)
    (codes : List ℕ) (start code : ℕ) (old new : Reader) (bytes text : List ℕ)
    (result : Result Finish PlayFault) (before now : Spent) → code ≡ slice_index codes start
    → Plays arena opponent side (λ k. codes) start code old new bytes text result before now
    → PlaysLoaded arena opponent side codes start old new bytes text result before.steps now.steps
plays_loaded arena opponent side codes start code old new bytes text result before now is plays =
    λ left may plies end last w.
    let h = plays (sym is) left may plies end last w in (
      subst (λ c. WayPlayed opponent side c (bytes ++ left) bytes text (ended result) plies end last)
          is h.0,
      h.1.stepped,
      h.2,
    )

-- no store is called, so none fails
pub settled_here : {T : Type 0} (result : Result T PlayFault) → StoreCause result uncalled uncalled
    → (result ≡ Err (plays.Line faults.Outside) → ⊥) → IsSettled result
settled_here (Ok finish) cause placed = tt
settled_here (Err plays.Input) cause placed = tt
settled_here (Err (plays.Limit limit)) cause placed = tt
settled_here (Err (plays.Line faults.Outside)) cause placed = placed refl
settled_here (Err (plays.Line faults.NoBound)) cause placed = tt
settled_here (Err (plays.Line (faults.Wrong wrong))) cause placed = tt
settled_here (Err (plays.Line faults.Store)) cause placed = absurd (omega (arith, cause))
settled_here (Err (plays.Line faults.Output)) cause placed = tt
settled_here (Err (plays.Line faults.NoMemory)) cause placed = absurd (omega (arith, cause))

-- a session, and a line that does not begin at a hold, is shown whole
shown_whole : (opponent : Opponent) (side : Colour) (code start : ℕ) (plies : List WayPly)
    (end : EndOfWay) → (opponent ≡ opponents.Input) ⊎ (code ≡ 1 → ⊥)
    → shown_text opponent side code start plies end ≡ way_text opponent side code plies end
shown_whole opponents.Input side code start plies end other = refl
shown_whole opponents.Codes side code start plies end (inl e) = absurd (cc)
shown_whole opponents.Codes side code start plies end (inr other) =
    elim (cases_Bool (code == 1)) [
      | inl t ↦ absurd (other (eqb-true code 1 t))
      | inr f ↦ ap (λ (b : Bool). if b
          then held_text side plies end (first_again (way_numbers (Inside (0, start)) plies))
          else way_text opponents.Codes side code plies end) f
    ]

pub shown_loaded : (arena : Arena Step ℕ Value) (opponent : Opponent) (side : Colour)
    (codes : List ℕ) (start : ℕ) (old new : Reader) (bytes text : List ℕ)
    (result : Result Finish PlayFault) (before now : ℕ)
    → (opponent ≡ opponents.Input) ⊎ (slice_index codes start ≡ 1 → ⊥)
    → PlaysLoaded arena opponent side codes start old new bytes text result before now
    → PlaysShown arena opponent side codes start old new bytes text result before now
shown_loaded arena opponent side codes start old new bytes text result before now other played =
    λ left may plies end last w.
    let h = played left may plies end last w in (
      record {
        rest = h.0.rest;
        unread = h.0.unread;
        begins = h.0.begins
            ∙ sym (shown_whole opponent side (slice_index codes start) start plies end other);
        takes = h.0.takes;
        finishes = h.0.finishes;
      },
      h.1,
      h.2,
    )

-- a line that was played against no input
pub shown_unread : (arena : Arena Step ℕ Value) {opponent : Opponent} → opponent ≡ opponents.Codes
    → (side : Colour) (codes : List ℕ) (start : ℕ) (old new : Reader) → new ≡ old
    → (text : List ℕ) (result : Result Finish PlayFault) (before now : ℕ)
    → PlaysShown arena opponents.Codes side codes start old old [] text result before now
    → PlaysShown arena opponent side codes start old new [] text result before now
shown_unread arena line side codes start old new same text result before now played =
    subst (λ (o : Opponent). PlaysShown arena o side codes start old new [] text result before now)
    (sym line)
    (subst (λ (r : Reader). PlaysShown arena opponents.Codes side codes start old r [] text result
    before now) (sym same) played)
