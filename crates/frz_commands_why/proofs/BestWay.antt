-- By an exact table no move of a failing way could be better.
use Rattle.std.proofs.Common.{◌≡◌, ◌-◌, ℕ, true, not, ◌||◌, List, [], refl, sym, ap, subst, ◌∙◌, slice_index, arith}
use Rattle.std.specs.Prelude.{◌==◌}
use Rattle.std.proofs.lemmas.Bool.{and_parts, eqb-true}
use Rattle.frz_board.specs.Boards.{Board}
use Rattle.frz_board.specs.Men.{other_of, same_colour}
use Rattle.frz_board.specs.Moving.{Step}
use Rattle.frz_board.specs.declared.man.Colour.{Colour}
use Rattle.frz_board.specs.declared.man.Colour.TheVariants.{White, Black}
use Rattle.frz_sets.specs.declared.exit.Value.{Value}
use Rattle.frz_sets.specs.Views.{RuleLines}
use Rattle.frz_arena.specs.declared.arm.Arm.{Arm}
use Rattle.frz_arena.specs.declared.arm.Next.{Next}
use Rattle.frz_arena.specs.declared.arm.Next.TheVariants.{Inside}
use Rattle.frz_arena.specs.declared.node.Node.TheVariants.{Mate, Going}
use Rattle.frz_arena.specs.Arena.{Arena, IsArm}
use Rattle.frz_arena.specs.Codes.{is_failure}
use Rattle.frz_arena.specs.LocalCodes.{next_code}
use Rattle.frz_arena.specs.Plies.{LeadsTo}
use Rattle.frz_arena.proofs.Lemmas.{at_in}
use Rattle.frz_game.specs.Bounds.{IsTableOf}
use Rattle.frz_game.specs.Games.{graph_by}
use Rattle.frz_reasons.specs.declared.reason.Reason.{Reason}
use Rattle.frz_reasons.specs.FailingWays.{FailsFrom, IsPlayedAt, wrong, mated, renounced, leaves, goes_on}
use Rattle.frz_reasons.specs.FailuresTell.{FailsAt, FailsBehind, code_behind, mated as is_mated, renounced as is_renounced, moves, waits}
use Rattle.frz_reasons.specs.LocalEntries.{Agrees}
use Rattle.frz_commands_why.specs.Best.{AreBest, IsBestAt}

-- the laws of failures on which this rests
pub record BestLaws : Type 0 where
  pub fails : (rules : RuleLines) (value : Board → Value) (side : Colour) (codes : List ℕ)
      (number : ℕ) → is_failure (slice_index codes number) ≡ true →
      Agrees (graph_by rules value) side codes number →
      FailsAt (graph_by rules value) side codes number
  pub opponent : (rules : RuleLines) (value : Board → Value) (side : Colour)
      (codes : List ℕ) → IsTableOf rules value side codes →
      (number : ℕ) → is_failure (slice_index codes number) ≡ true →
      (a : Arm Step ℕ Value) → IsPlayedAt (graph_by rules value) side codes number a →
      (graph_by rules value).node number ≡ Going (other_of side) →
      (b : Arm Step ℕ Value) → IsArm (graph_by rules value) number b → (plies : ℕ) →
      FailsBehind (graph_by rules value) side plies b →
      FailsBehind (graph_by rules value) side plies a
  pub own : (rules : RuleLines) (value : Board → Value) (side : Colour)
      (codes : List ℕ) → IsTableOf rules value side codes →
      (number : ℕ) → is_failure (slice_index codes number) ≡ true →
      (a : Arm Step ℕ Value) → IsPlayedAt (graph_by rules value) side codes number a →
      (graph_by rules value).node number ≡ Going side →
      (b : Arm Step ℕ Value) → IsArm (graph_by rules value) number b → b.free ≡ true →
      (plies : ℕ) → FailsBehind (graph_by rules value) side plies a →
      FailsBehind (graph_by rules value) side plies b

same_side : (side : Colour) → same_colour side side ≡ true
same_side White = refl
same_side Black = refl

-- behind the move that is played the side fails
module _ (arena : Arena Step ℕ Value) (side : Colour) (codes : List ℕ) (number : ℕ)
    (a : Arm Step ℕ Value) (p : IsPlayedAt arena side codes number a) where
  both_tests_hold : ((not (same_colour p.mover side) || a.free) ≡ true)
      × ((code_behind arena side codes a == (slice_index codes number - 2)) ≡ true)
  both_tests_hold =
      and_parts (not (same_colour p.mover side) || a.free)
      (code_behind arena side codes a == (slice_index codes number - 2)) p.first.passes

  code_is_two_less : code_behind arena side codes a ≡ slice_index codes number - 2
  code_is_two_less = eqb-true (code_behind arena side codes a) (slice_index codes number - 2)
      both_tests_hold.1

  free_for : p.mover ≡ side → a.free ≡ true
  free_for is =
      let mine : same_colour p.mover side ≡ true =
      ap (λ (c : Colour). same_colour c side) is ∙ same_side side in
      rw mine at both_tests_hold.0

  mover_of : (c : Colour) → arena.node number ≡ Going c → p.mover ≡ c
  mover_of c n = let e : Going p.mover ≡ Going c = sym p.turn ∙ n in cc

  played_fails : FailsAt arena side codes number → is_failure (code_behind arena side codes a) ≡ true
  played_fails (is_mated n three) =
      absurd (let e : Mate side ≡ Going p.mover = sym n ∙ p.turn in cc)
  played_fails (is_renounced n three none) =
      absurd (none a (at_in (arena.arms number) p.place a p.first.here)
      (free_for (mover_of side n)))
  played_fails (moves n b i t less each) =
      let same : code_behind arena side codes b ≡ code_behind arena side codes a =
      (let c = code_is_two_less in omega arith) in
      subst (λ k. is_failure k ≡ true) same (each b i t).0
  played_fails (waits n b i f less each) =
      let same : code_behind arena side codes b ≡ code_behind arena side codes a =
      (let c = code_is_two_less in omega arith) in
      subst (λ k. is_failure k ≡ true) same f

module _ (laws : BestLaws) (rules : RuleLines) (value : Board → Value) (side : Colour)
    (codes : List ℕ) (exact : IsTableOf rules value side codes) where
  abbrev graph : Arena Step ℕ Value
  graph = graph_by rules value

  best_move : (number : ℕ) (a : Arm Step ℕ Value) → is_failure (slice_index codes number) ≡ true →
      IsPlayedAt graph side codes number a → IsBestAt rules value side number a
  best_move number a failing played = record {
    opponent = λ going b i plies h.
        laws.opponent rules value side codes exact number failing a played going b i plies h;
    own = λ going b i t plies h.
        laws.own rules value side codes exact number failing a played going b i t plies h;
  }

  fails_next : (number next : ℕ) (a : Arm Step ℕ Value) →
      is_failure (slice_index codes number) ≡ true → IsPlayedAt graph side codes number a →
      a.next ≡ Inside next → is_failure (slice_index codes next) ≡ true
  fails_next number next a failing played inside =
      let h = played_fails graph side codes number a played
      (laws.fails rules value side codes number failing played.agrees) in
      subst (λ k. is_failure k ≡ true)
      (ap (next_code graph side (λ k. slice_index codes k)) inside) h

  pub best_way : (number : ℕ) (arms : List (Arm Step ℕ Value)) (reason : Reason) →
      is_failure (slice_index codes number) ≡ true →
      FailsFrom graph side codes number arms reason → AreBest rules value side number arms
  best_way number arms reason failing (wrong differs) = tt
  best_way number arms reason failing (mated agrees n) = tt
  best_way number arms reason failing (renounced agrees n none) = tt
  best_way number arms reason failing (leaves a v played out) = (
    best_move number a failing played,
    subst (λ (x : Next ℕ Value). LeadsTo (λ next. AreBest rules value side next []) (λ u. Unit {0})
        x) (sym out) tt,
  )
  best_way number arms reason failing (goes_on {arms = more} a next played inside rest) = (
    best_move number a failing played,
    subst (λ (x : Next ℕ Value). LeadsTo (λ n. AreBest rules value side n more) (λ u. Unit {0}) x)
        (sym inside)
        (best_way next more reason (fails_next number next a failing played inside) rest),
  )
