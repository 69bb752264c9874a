-- The move that is played at a number whose code is a failure.
use Rattle.std.proofs.Common.{◌≡◌, ◌≢◌, ◌+◌, ◌-◌, ◌==◌, ◌&&◌, ◌||◌, not, ℕ, inl, inr, Bool, true, false, List, refl, sym, subst, ap, ◌∙◌, slice_index, arith}
use Rattle.std.proofs.lemmas.Bool.{cases_Bool, eq-eqb, eqb-true}
use Rattle.frz_board.specs.declared.man.Colour.{Colour}
use Rattle.frz_board.specs.Men.{other_of, same_colour}
use Rattle.frz_board.specs.Moving.{Step}
use Rattle.frz_sets.specs.declared.exit.Value.{Value}
use Rattle.frz_arena.specs.declared.arm.Arm.{Arm}
use Rattle.frz_arena.specs.declared.node.Node.TheVariants.{Mate, Going}
use Rattle.frz_arena.specs.Arena.{Arena, IsArm}
use Rattle.frz_arena.specs.Chosen.{IsFirst, is_candidate}
use Rattle.frz_arena.specs.Codes.{is_failure}
use Rattle.frz_arena.proofs.Lemmas.{at_in, first_there, one_first}
use Rattle.frz_reasons.specs.LocalEntries.{given_at, Agrees, Differs}
use Rattle.frz_reasons.specs.FailingWays.{IsPlayedAt}
use Rattle.frz_reasons.specs.FailuresTell.{FailsAt, code_behind, mated, renounced, moves, waits}
use Rattle.frz_reasons.proofs.Codes.{same_side, other_side}

same_mover : (m n : Colour) → Going m ≡ Going n → m ≡ n
same_mover m n e = cc

candidate_by : (own free same : Bool) → (own ≡ true → free ≡ true) → same ≡ true →
    ((not own || free) && same) ≡ true
candidate_by true free same f e = rw (f refl) e
candidate_by false free same f e = e

by_candidate : (own free same : Bool) → ((not own || free) && same) ≡ true →
    (own ≡ true → free ≡ true) × (same ≡ true)
by_candidate true true same h = (λ e. refl, h)
by_candidate true false same h = absurd (cc)
by_candidate false free same h = (λ e. absurd (cc), h)

module _ (arena : Arena Step ℕ Value) (side : Colour) (codes : List ℕ) where
  abbrev candidate : Colour → ℕ → Arm Step ℕ Value → Bool
  candidate mover code a = is_candidate arena side (λ k. slice_index codes k) mover code a

  pub free_and_coded_is_candidate : (mover : Colour) (code : ℕ) (a : Arm Step ℕ Value)
      → (same_colour mover side ≡ true → a.free ≡ true) → code_behind arena side codes a ≡ code
      → candidate mover code a ≡ true
  free_and_coded_is_candidate mover code a f e =
      candidate_by (same_colour mover side) a.free (code_behind arena side codes a == code) f
      (eq-eqb (code_behind arena side codes a) code e)

  pub candidate_is_free_and_coded : (mover : Colour) (code : ℕ) (a : Arm Step ℕ Value)
      → candidate mover code a ≡ true
      → (same_colour mover side ≡ true → a.free ≡ true) × (code_behind arena side codes a ≡ code)
  candidate_is_free_and_coded mover code a h =
      let r = by_candidate (same_colour mover side) a.free
      (code_behind arena side codes a == code) h in
      (r.0, eqb-true (code_behind arena side codes a) code r.1)

  -- the arm that is played: it is one of the number, free where the side moves, and its code
  -- is two less
  pub played_arm : (number : ℕ) (a : Arm Step ℕ Value) → IsPlayedAt arena side codes number a
      → IsArm arena number a
  played_arm number a p = at_in (arena.arms number) p.place a p.first.here

  pub played_free : (number : ℕ) (a : Arm Step ℕ Value) → IsPlayedAt arena side codes number a
      → arena.node number ≡ Going side → a.free ≡ true
  played_free number a p n =
      let mine : p.mover ≡ side = same_mover p.mover side (sym p.turn ∙ n) in
      (candidate_is_free_and_coded p.mover (slice_index codes number - 2) a p.first.passes).0
      (ap (λ c. same_colour c side) mine ∙ same_side side)

  pub played_code : (number : ℕ) (a : Arm Step ℕ Value) → IsPlayedAt arena side codes number a
      → code_behind arena side codes a ≡ slice_index codes number - 2
  played_code number a p =
      (candidate_is_free_and_coded p.mover (slice_index codes number - 2) a p.first.passes).1

  -- at a number one arm is played at most
  pub one_played : (number : ℕ) (a b : Arm Step ℕ Value) → IsPlayedAt arena side codes number a
      → IsPlayedAt arena side codes number b → a ≡ b
  one_played number a b p q =
      let same : p.mover ≡ q.mover = same_mover p.mover q.mover (sym p.turn ∙ q.turn) in
      let first : IsFirst (candidate q.mover (slice_index codes number - 2)) (arena.arms number)
      p.place a = subst (λ (m : Colour). IsFirst (candidate m (slice_index codes number - 2))
      (arena.arms number) p.place a) same p.first in
      (one_first p.place q.place a b first q.first).1

  -- what is played by what the codes tell: one ply less, and still a failure
  pub record PlaysOn (number : ℕ) (a : Arm Step ℕ Value) : Type 0 where
    pub less : code_behind arena side codes a + 2 ≡ slice_index codes number
    pub failing : is_failure (code_behind arena side codes a) ≡ true

  pub plays_on : (number : ℕ) → FailsAt arena side codes number → (a : Arm Step ℕ Value)
      → IsPlayedAt arena side codes number a → PlaysOn number a
  plays_on number (mated n three) a p =
      absurd (let turn = p.turn in let e = sym n ∙ turn in cc)
  plays_on number (renounced n three none) a p =
      absurd (none a (played_arm number a p) (played_free number a p n))
  plays_on number (moves n b i t less each) a p =
      let c = played_code number a p in
      let same : code_behind arena side codes b ≡ code_behind arena side codes a =
      omega arith in
      record {
        less = ap (λ k. k + 2) (sym same) ∙ less;
        failing = subst (λ k. is_failure k ≡ true) same (each b i t).0;
      }
  plays_on number (waits n b i f less each) a p =
      let c = played_code number a p in
      let same : code_behind arena side codes b ≡ code_behind arena side codes a =
      omega arith in
      record {
        less = ap (λ k. k + 2) (sym same) ∙ less;
        failing = subst (λ k. is_failure k ≡ true) same f;
      }

  -- what comes of a failure: a wrong entry, an end, or a move
  pub data ComesOf (number : ℕ) : Type 0 where
    is_wrong : Differs arena side codes number → ComesOf number
    is_mated : Agrees arena side codes number → arena.node number ≡ Mate side → ComesOf number
    is_renounced : Agrees arena side codes number → arena.node number ≡ Going side →
        ((a : Arm Step ℕ Value) → IsArm arena number a → a.free ≢ true) → ComesOf number
    is_played : (a : Arm Step ℕ Value) → IsPlayedAt arena side codes number a →
        PlaysOn number a → ComesOf number

  -- the first arm of the code that some arm has
  played_by : (number : ℕ) → FailsAt arena side codes number → Agrees arena side codes number
      → (mover : Colour) → arena.node number ≡ Going mover → (b : Arm Step ℕ Value)
      → IsArm arena number b → (same_colour mover side ≡ true → b.free ≡ true)
      → code_behind arena side codes b + 2 ≡ slice_index codes number → ComesOf number
  played_by number fails agrees mover n b i f less =
      let code : code_behind arena side codes b ≡ slice_index codes number - 2 = omega arith in
      let r = first_there (candidate mover (slice_index codes number - 2)) (arena.arms number) b i
      (free_and_coded_is_candidate mover (slice_index codes number - 2) b f code) in
      let p : IsPlayedAt arena side codes number r.1 = record {
        agrees = agrees;
        mover = mover;
        turn = n;
        place = r.0;
        first = r.2;
      } in
      is_played r.1 p (plays_on number fails r.1 p)

  opponent_is_not_side : (free : Bool) → same_colour (other_of side) side ≡ true → free ≡ true
  opponent_is_not_side free e = absurd (let f = other_side side in cc)

  comes_by : (number : ℕ) → Agrees arena side codes number → FailsAt arena side codes number
      → ComesOf number
  comes_by number agrees (mated n three) = is_mated agrees n
  comes_by number agrees (renounced n three none) = is_renounced agrees n none
  comes_by number agrees (moves n b i t less each) =
      played_by number (moves n b i t less each) agrees side n b i (λ _. t) less
  comes_by number agrees (waits n b i f less each) =
      played_by number (waits n b i f less each) agrees (other_of side) n b i
      (opponent_is_not_side b.free) less

  pub comes_of : ((n : ℕ) → is_failure (slice_index codes n) ≡ true → Agrees arena side codes n
      → FailsAt arena side codes n) → (number : ℕ) → is_failure (slice_index codes number) ≡ true
      → ComesOf number
  comes_of tells number failing =
      elim (cases_Bool (slice_index codes number == given_at arena side codes number)) [
        | inl t ↦ (let agrees : Agrees arena side codes number =
            eqb-true (slice_index codes number) (given_at arena side codes number) t in
            comes_by number agrees (tells number failing agrees))
        | inr f ↦ is_wrong (λ e. let t = eq-eqb (slice_index codes number)
            (given_at arena side codes number) e in cc)
      ]
