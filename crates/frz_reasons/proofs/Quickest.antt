-- By the side's table the move that is played spoils soonest, or lasts longest.
use Rattle.std.proofs.Common.{◌≡◌, ◌≤◌, ◌+◌, ◌*◌, ℕ, true, List, refl, sym, subst, ◌∙◌, slice_index, arith}
use Rattle.frz_board.specs.declared.man.Colour.{Colour}
use Rattle.frz_board.specs.Men.{other_of}
use Rattle.frz_board.specs.Moving.{Step}
use Rattle.frz_sets.specs.declared.exit.Value.{Value}
use Rattle.frz_arena.specs.declared.arm.Arm.{Arm}
use Rattle.frz_arena.specs.declared.arm.Next.{Next}
use Rattle.frz_arena.specs.declared.arm.Next.TheVariants.{Inside, Outside}
use Rattle.frz_arena.specs.declared.class.Class.{Class}
use Rattle.frz_arena.specs.declared.class.Class.TheVariants.{Good, Safe, Bad}
use Rattle.frz_arena.specs.declared.node.Node.TheVariants.{Going}
use Rattle.frz_arena.specs.Arena.{Arena, IsArm}
use Rattle.frz_arena.specs.Codes.{is_failure, exit_code, IsFailureWithin}
use Rattle.frz_arena.specs.LocalCodes.{next_code}
use Rattle.frz_arena.specs.Plies.{LeadsTo, FailsWithin, IsBadExit}
use Rattle.frz_arena.proofs.Lemmas.{AreCodes, win_and_failure, win_of}
use Rattle.frz_reasons.specs.FailingWays.{IsPlayedAt}
use Rattle.frz_reasons.specs.FailuresTell.{FailsAt, FailsBehind, code_behind, mated, renounced, moves, waits}
use Rattle.frz_reasons.proofs.Codes.{hold_no_failure, sides_differ}
use Rattle.frz_reasons.proofs.MovePlayed.{played_code}

bad_code : (n lag : ℕ) (c : Class) → c ≡ Bad → IsFailureWithin n (exit_code c lag)
bad_code n lag Good e = absurd (cc)
bad_code n lag Safe e = absurd (cc)
bad_code n lag Bad e = (refl, omega arith)

code_bad : (n lag : ℕ) (c : Class) → IsFailureWithin n (exit_code c lag) → c ≡ Bad
code_bad n lag Good h = absurd (win_and_failure (2 + 2 * lag) (win_of lag) h.0)
code_bad n lag Safe h = absurd (hold_no_failure 1 refl h.0)
code_bad n lag Bad h = refl

module _ (arena : Arena Step ℕ Value) (side : Colour) (codes : List ℕ)
    (bounds : AreCodes arena side (λ k. slice_index codes k)) where
  -- where a move leads to a failure, its code says so
  code_at : (n : ℕ) (next : Next ℕ Value)
      → LeadsTo (FailsWithin arena side n) (IsBadExit arena side) next
      → IsFailureWithin n (next_code arena side (λ k. slice_index codes k) next)
  code_at n (Inside q) h = (bounds.fails n q).0 h
  code_at n (Outside v) h = bad_code n (arena.lag v) (arena.class v side) h

  fails_at : (n : ℕ) (next : Next ℕ Value)
      → IsFailureWithin n (next_code arena side (λ k. slice_index codes k) next)
      → LeadsTo (FailsWithin arena side n) (IsBadExit arena side) next
  fails_at n (Inside q) h = (bounds.fails n q).1 h
  fails_at n (Outside v) h = code_bad n (arena.lag v) (arena.class v side) h

  -- a failure whose code is no greater is no later
  no_later : (n : ℕ) (a b : Arm Step ℕ Value) → is_failure (code_behind arena side codes a) ≡ true
      → code_behind arena side codes a ≤ code_behind arena side codes b
      → FailsBehind arena side n b → FailsBehind arena side n a
  no_later n a b f le h =
      let k = (code_at n b.next h).1 in
      fails_at n a.next (f, omega (arith, le, k))

  codes_behind_are_equal : (number : ℕ) (a b : Arm Step ℕ Value)
      → IsPlayedAt arena side codes number a
      → code_behind arena side codes b + 2 ≡ slice_index codes number
      → code_behind arena side codes b ≡ code_behind arena side codes a
  codes_behind_are_equal number a b p less =
      let c = played_code arena side codes number a p in omega (arith, c, less)

  pub opponent_plays_quickest : (number : ℕ) → FailsAt arena side codes number
      → (a : Arm Step ℕ Value)
      → IsPlayedAt arena side codes number a → arena.node number ≡ Going (other_of side)
      → (b : Arm Step ℕ Value) → IsArm arena number b → (n : ℕ) → FailsBehind arena side n b
      → FailsBehind arena side n a
  opponent_plays_quickest number (mated m three) a p going b i n h =
      absurd (let e = sym m ∙ going in cc)
  opponent_plays_quickest number (renounced m three none) a p going b i n h =
      absurd (sides_differ side (let e = sym m ∙ going in cc))
  opponent_plays_quickest number (moves m d j t less each) a p going b i n h =
      absurd (sides_differ side (let e = sym m ∙ going in cc))
  opponent_plays_quickest number (waits m d j f less each) a p going b i n h =
      let same = codes_behind_are_equal number a d p less in
      let first = each b i (code_at n b.next h).0 in
      no_later n a b (subst (λ k. is_failure k ≡ true) same f) (omega (arith, same, first)) h

  pub side_holds_out_longest : (number : ℕ) → FailsAt arena side codes number
      → (a : Arm Step ℕ Value)
      → IsPlayedAt arena side codes number a → arena.node number ≡ Going side
      → (b : Arm Step ℕ Value) → IsArm arena number b → b.free ≡ true → (n : ℕ)
      → FailsBehind arena side n a → FailsBehind arena side n b
  side_holds_out_longest number (mated m three) a p going b i t n h = absurd
      (let e = sym m ∙ going in cc)
  side_holds_out_longest number (renounced m three none) a p going b i t n h = absurd (none b i t)
  side_holds_out_longest number (moves m d j u less each) a p going b i t n h =
      let same = codes_behind_are_equal number a d p less in
      let last = each b i t in
      let le = last.1 in
      no_later n b a last.0 (omega (arith, same, le)) h
  side_holds_out_longest number (waits m d j f less each) a p going b i t n h =
      absurd (sides_differ side (let e = sym going ∙ m in cc))
