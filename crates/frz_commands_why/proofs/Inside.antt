-- A position by its place in the set of a loaded table.
use Rattle.std.proofs.Common.{◌≡◌, ◌⊎◌, ℕ, ◌≤◌, ◌<◌, ◌^◌, ◌+◌, List, Bool, Option, Some, None, Ok, Err, length, refl, sym, subst, slice_index, arith}
use Rattle.std.specs.Prelude.{IsSome, MatchBool, if◌then◌else◌}
use Rattle.frz_board.specs.Boards.{Board}
use Rattle.frz_board.specs.Men.{other_of}
use Rattle.frz_board.specs.declared.man.Colour.{Colour}
use Rattle.frz_fide.specs.Listing.{legal_moves_of}
use Rattle.frz_sets.specs.Views.{GroupLine, RuleLines}
use Rattle.frz_index.specs.Members.{Member, Num}
use Rattle.frz_index.proofs.Lemmas.{of_member, position_of}
use Rattle.frz_game.specs.Numbers.{position_at}
use Rattle.frz_rules.specs.Text.{rules_of}
use Rattle.frz_store.specs.Told.{SinkTold}
use Rattle.frz_table.proofs.Lemmas.{read_short}
use Rattle.frz_backs.specs.BackTable.{BackTable}
use Rattle.frz_answer.specs.declared.end.End.{End}
use Rattle.frz_answer.specs.Ends.{Said}
use Rattle.frz_prelude.specs.Positions.{IsPlaced}
use Rattle.frz_prelude.specs.Refusals.{refusal_line, status_of}
use Rattle.frz_prelude.specs.declared.refused.Refused.{Refused}
use Rattle.frz_prelude.specs.declared.refused.Refused.TheVariants as refusals
use Rattle.frz_commands_line.proofs.Lemmas.{not_member}
use Rattle.frz_commands_why.specs.Ending.{EndsEarly, EndsIn, EndsLoaded, codes_loaded, stepping_in}
use Rattle.frz_commands_why.specs.Telling.{telling_steps}

-- an accepted text is short enough for the numbers of its lines
pub few_lines : (text : List ℕ) (rules : RuleLines) → rules_of text ≡ Ok rules →
    length text < 2 ^ 32
few_lines text rules read = let short = read_short text rules read in omega (arith, short)

-- a number that was found for a position is its number
pub placed_at : (set groups : List GroupLine) (p : Board) (number : ℕ) → set ≡ groups →
    IsPlaced set p (Ok number) →
    (position_at groups number ≡ Some p) × (number ≡ Num groups p) × Member groups p
placed_at set groups p number same placed =
    let here : IsPlaced groups p (Ok number) =
    subst (λ (l : List GroupLine). IsPlaced l p (Ok number)) same placed in (
      position_of groups number p (record { member = here.0; number = sym here.1 }),
      here.1,
      here.0,
    )

pub some_there : (o : Option Board) (p : Board) → o ≡ Some p → IsSome o
some_there None p e = absurd cc
some_there (Some q) p e = refl

module _ (own : BackTable) (backs : List BackTable) (side : Colour) (p : Board) where
  pub ends_inside : (number : ℕ) → number ≡ Num own.table.rules.groups p →
      Member own.table.rules.groups p → (end : End) (old new : SinkTold) →
      EndsEarly end old new ⊎ EndsLoaded own backs side number end old new →
      EndsIn own backs side p end old new
  ends_inside number is member end old new ends =
      subst (λ (b : Bool). MatchBool b (EndsEarly end old new
      ⊎ EndsLoaded own backs side (Num own.table.rules.groups p) end old new)
      (Said (status_of refusals.Outside) (refusal_line refusals.Outside) end old new))
      (sym (of_member own.table.rules.groups p member))
      (subst (λ (n : ℕ). EndsEarly end old new ⊎ EndsLoaded own backs side n end old new) is ends)

  pub ends_outside : (set : List GroupLine) → set ≡ own.table.rules.groups → (why : Refused) →
      IsPlaced set p (Err why) → (end : End) (old new : SinkTold) →
      Said (status_of why) (refusal_line why) end old new → EndsIn own backs side p end old new
  ends_outside set same why placed end old new ends =
      let here : IsPlaced own.table.rules.groups p (Err why) =
      subst (λ (l : List GroupLine). IsPlaced l p (Err why)) same placed in
      subst (λ (b : Bool). MatchBool b (EndsEarly end old new
      ⊎ EndsLoaded own backs side (Num own.table.rules.groups p) end old new)
      (Said (status_of refusals.Outside) (refusal_line refusals.Outside) end old new))
      (sym (not_member own.table.rules.groups p here.0))
      (subst (λ (w : Refused). Said (status_of w) (refusal_line w) end old new) here.1 ends)

  pub steps_inside : (number before now : ℕ) → number ≡ Num own.table.rules.groups p →
      Member own.table.rules.groups p →
      now ≤ before + telling_steps (slice_index (codes_loaded own side) number)
      (slice_index (codes_loaded own (other_of side)) number) (length (legal_moves_of p)) →
      now ≤ before + stepping_in own side p
  steps_inside number before now is member few =
      subst (λ (b : Bool). now ≤ before + (if b
      then telling_steps (slice_index (codes_loaded own side) (Num own.table.rules.groups p))
      (slice_index (codes_loaded own (other_of side)) (Num own.table.rules.groups p))
      (length (legal_moves_of p)) else 0)) (sym (of_member own.table.rules.groups p member))
      (subst (λ (n : ℕ). now ≤ before + telling_steps (slice_index (codes_loaded own side) n)
      (slice_index (codes_loaded own (other_of side)) n) (length (legal_moves_of p))) is few)
