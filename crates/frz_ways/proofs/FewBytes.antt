-- A session takes few bytes: so many lines at most, each of so many bytes and a line feed.
use Rattle.std.proofs.Common.{◌≡◌, ◌≤◌, sym, ap, subst, ℕ, zero, suc, ◌+◌, ◌*◌, inl, inr, Bool, true, false, List, [], ◌∷◌, ◌++◌, drop, length, nat_lt, Option, Some, None, arith, length-append}
use Rattle.std.proofs.lemmas.Bool.{cases_Bool}
use Rattle.std.proofs.lemmas.Bool.Decides.{nat_tests}
use Rattle.std.proofs.lemmas.List.{length-drop}
use Rattle.frz_board.specs.declared.man.Colour.{Colour}
use Rattle.frz_board.specs.Men.{same_colour}
use Rattle.frz_board.specs.Moving.{Step}
use Rattle.frz_sets.specs.declared.exit.Value.{Value}
use Rattle.frz_arena.specs.declared.arm.Arm.{Arm}
use Rattle.frz_arena.specs.declared.arm.Next.{Next}
use Rattle.frz_arena.specs.declared.arm.Next.TheVariants.{Inside, Outside}
use Rattle.frz_arena.specs.Arena.{Arena}
use Rattle.frz_arena.specs.Inputs.{Answer, Reply, Stop}
use Rattle.frz_arena.specs.Plies.{LeadsTo}
use Rattle.frz_arena.specs.WayEnds.{Exit}
use Rattle.frz_arena.specs.Ways.{ByInput, IsTakenBy, IsStopBy, IsWay}
use Rattle.frz_ways.specs.declared.session_end.TheConstants.{MOST_LENGTH}
use Rattle.frz_ways.specs.declared.opponent.Opponent.TheVariants as opponents
use Rattle.frz_ways.specs.Reading.{Input, Halt, line_length, first_line, behind_line, place_said, refuse_one, reply_or, reads}
use Rattle.frz_ways.specs.Sessions.{SessionPly, EndOfSession, session_player}
use Rattle.frz_ways.specs.Ways.{GoesOn}
use Rattle.frz_ways.proofs.Goings.{way_front}

-- the most bytes of so many lines
abbrev most_bytes : ℕ → ℕ
most_bytes lines = lines * (MOST_LENGTH + 1)

-- of an input with so many bytes and lines left: at a stop, no more bytes were taken
-- than all these lines may have; at a reply, no more than the lines that were read may have
abbrev TakesFew : (bytes more : ℕ) → Answer Input Halt → Type 0
TakesFew bytes more (Reply refused place t) =
    bytes + most_bytes t.more ≤ length t.left + most_bytes more
TakesFew bytes more (Stop halt t) = bytes ≤ length t.left + most_bytes more

few_refused : (bytes more : ℕ) (answer : Answer Input Halt) → TakesFew bytes more answer
    → TakesFew bytes more (refuse_one answer)
few_refused bytes more (Reply refused place t) h = h
few_refused bytes more (Stop halt t) h = h

-- few bytes were taken where a line was read before
few_behind : (bytes rest more : ℕ) → bytes ≤ rest + (MOST_LENGTH + 1)
    → (answer : Answer Input Halt) → TakesFew rest more answer → TakesFew bytes (suc more) answer
few_behind bytes rest more l (Reply refused place t) h = omega (arith, l, h)
few_behind bytes rest more l (Stop halt t) h = omega (arith, l, h)

few_said : (bytes more : ℕ) (rest : List ℕ) → bytes ≤ length rest + (MOST_LENGTH + 1)
    → (said : Option ℕ) (next : Answer Input Halt) → TakesFew (length rest) more next
    → TakesFew bytes (suc more) (reply_or said (record { left = rest; more = more }) next)
few_said bytes more rest l (Some place) next h = omega (arith, l)
few_said bytes more rest l None next h =
    few_refused bytes (suc more) next (few_behind bytes (length rest) more l next h)

few_bytes_dropped : (n : ℕ) (left : List ℕ) → n ≤ MOST_LENGTH + 1
    → length left ≤ length (drop n left) + (MOST_LENGTH + 1)
few_bytes_dropped n left l = let d = length-drop n left in omega (arith, d, l)

few_read : (arms : List (Arm Step ℕ Value)) (more : ℕ) (left : List ℕ)
    → TakesFew (length left) more (reads arms more left)
few_read arms zero left = omega arith
few_read arms (suc more) [] = omega arith
few_read arms (suc more) (b ∷ bs) =
    elim (cases_Bool (nat_lt MOST_LENGTH (line_length (b ∷ bs)))) [
      | inl t ↦ rw t (let d = few_bytes_dropped (MOST_LENGTH + 1) (b ∷ bs) (omega arith) in
          omega (arith, d))
      | inr f ↦ rw f (
          let short : line_length (b ∷ bs) ≤ MOST_LENGTH = grind (arith, nat_tests, f) in
          few_said (length (b ∷ bs)) more (behind_line (b ∷ bs))
          (few_bytes_dropped (line_length (b ∷ bs) + 1) (b ∷ bs) (omega (arith, short)))
          (place_said arms (first_line (b ∷ bs))) (reads arms more (behind_line (b ∷ bs)))
          (few_read arms more (behind_line (b ∷ bs))))
    ]

-- from one state of the input to another no more was taken than the lines between may have
abbrev IsFew : Input → Input → Type 0
IsFew s u = length s.left + most_bytes u.more ≤ length u.left + most_bytes s.more

-- from one state of the input to another no more was taken than all lines may have
abbrev IsFewInAll : Input → Input → Type 0
IsFewInAll s t = length s.left ≤ length t.left + most_bytes s.more

module _ (arena : Arena Step ℕ Value) (side : Colour) (codes : ℕ → List ℕ) where
  few_own : (s u : Input) → u ≡ s → IsFew s u
  few_own s u e = subst (λ (v : Input). IsFew s v) (sym e) (omega arith)

  few_ply : (own : Bool) (s u : Input) (x : SessionPly)
      → IsTakenBy (session_player arena side codes) own
      (ByInput (λ i input. reads (arena.arms i.1) input.more input.left)) s x u → IsFew s u
  few_ply true s u x h = few_own s u h.2
  few_ply false s u x h =
      subst (λ (a : Answer Input Halt). TakesFew (length s.left) s.more a) h.1
      (few_read (arena.arms x.from.1) s.more s.left)

  few_stop : (own : Bool) (s t : Input) (q : ℕ × ℕ) (e : EndOfSession)
      → IsStopBy own (ByInput (λ i input. reads (arena.arms i.1) input.more input.left)) s q e t
      → IsFewInAll s t
  few_stop true s t q e h = absurd h
  few_stop false s t q e h =
      subst (λ (a : Answer Input Halt). TakesFew (length s.left) s.more a) h.2
      (few_read (arena.arms q.1) s.more s.left)

  few_end : (s t : Input) → t ≡ s → IsFewInAll s t
  few_end s t e = subst (λ (v : Input). IsFewInAll s v) (sym e) (omega arith)

  few_next : (k : ℕ) (u t : Input) (ys : List SessionPly) (e : EndOfSession)
      → ((p : ℕ × ℕ) → IsWay (session_player arena side codes) (suc k) u p ys e t
      → IsFewInAll u t) → (next : Next (ℕ × ℕ) Value)
      → LeadsTo (λ p. IsWay (session_player arena side codes) (suc k) u p ys e t)
      (λ v. (ys ≡ []) × (e ≡ Exit v) × (t ≡ u)) next → IsFewInAll u t
  few_next k u t ys e ih (Inside p) h = ih p h
  few_next k u t ys e ih (Outside v) h = few_end u t h.2

  few_way : (k : ℕ) (s t : Input) (q : ℕ × ℕ) (ys : List SessionPly) (e : EndOfSession)
      → IsWay (session_player arena side codes) k s q ys e t → IsFewInAll s t
  few_way k s t q [] e (inl w) = few_end s t w.1
  few_way k s t q [] e (inr w) = few_stop (same_colour w.0 side) s t q e w.2
  few_way k s t q (x ∷ ys) e w =
      let first = few_ply (same_colour x.mover side) s w.2.0 x w.2.1 in
      let later = few_next k w.2.0 t ys e (λ p h. few_way (suc k) w.2.0 t p ys e h) x.arm.next
      w.2.2 in
      omega (arith, first, later)

  -- what was taken stands at the front
  pub few_taken : (k : ℕ) (s : Input) (number : ℕ) (plies : List SessionPly) (end : EndOfSession)
      (t : Input) → GoesOn arena opponents.Input side codes k s number plies end t
      → (taken : List ℕ) × (taken ++ t.left ≡ s.left) × (length taken ≤ most_bytes s.more)
  few_taken k s number plies end t w =
      let front = way_front arena opponents.Input side codes k s t (k, number) plies end w in
      let few = few_way k s t (k, number) plies end w in
      let sum = length-append front.0 t.left in
      let all = ap (λ (l : List ℕ). length l) front.1 in
      (front.0, front.1, omega (arith, few, sum, all))
