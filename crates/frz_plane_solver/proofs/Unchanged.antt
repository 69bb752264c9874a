-- What a ply decides has a move to what the last one decided, or to an exit with a lag of as many
-- plies.
use Rattle.std.proofs.Common.{◌≡◌, ◌≢◌, ◌+◌, ℕ, Bool, true, false, List, inr, refl, sym, subst, arith}
use Rattle.std.proofs.lemmas.Bool.{false_from_ne_true}
use Rattle.frz_board.specs.declared.man.Colour.{Colour}
use Rattle.frz_board.specs.Moving.{Step}
use Rattle.frz_sets.specs.declared.exit.Value.{Value}
use Rattle.frz_arena.specs.declared.arm.Arm.{Arm}
use Rattle.frz_arena.specs.declared.arm.Next.{Next}
use Rattle.frz_arena.specs.declared.arm.Next.TheVariants.{Inside, Outside}
use Rattle.frz_arena.specs.Arena.{Arena, IsArm}
use Rattle.frz_graph.specs.Finite.{IsFinite}
use Rattle.frz_plane_game.specs.Spots.{Spots}
use Rattle.frz_plane_game.specs.Targets.{LeadsToMarked, SomeMove, WinsOut, is_marked}
use Rattle.frz_plane_solver.specs.Decided.{DecidedAt, Decided}
use Rattle.frz_plane_solver.specs.Marks.{MarksLast}
use Rattle.frz_plane_solver.proofs.NextNumbers.{LeadsNext, moves_same, next_decided, next_is}

module _ (arena : Arena Step ℕ Value) (spots : Spots) (finite : IsFinite arena spots.numbers)
    (side : Colour) (n k : ℕ) (more : n ≡ k + 1) (marks : List Bool) where
  -- a move that leads to nothing new led there before
  led_before : (win : Bool) → MarksLast arena spots side win n marks →
      (i : ℕ) (a : Arm Step ℕ Value) → IsArm arena i a → (x : Next ℕ Value) → a.next ≡ x →
      (LeadsToMarked spots marks x → ⊥) → (win ≡ true → WinsOut arena side n x → ⊥) →
      LeadsNext arena side win n x → LeadsNext arena side win k x
  led_before win last i a arm (Inside j) e unmarked early leads =
      last.before j k (finite.inside i j a arm e).0 more
      (false_from_ne_true (is_marked marks (spots.at j).configuration) unmarked) leads
  led_before true last i a arm (Outside v) e unmarked early leads =
      let other : arena.lag v ≢ n = λ same. early refl (leads.0, same) in
      (leads.0, (let within = leads.1 in omega arith))
  led_before false last i a arm (Outside v) e unmarked early leads = leads

  pub never_next : (win : Bool) → MarksLast arena spots side win n marks → (i : ℕ) →
      (SomeMove arena false i (LeadsToMarked spots marks) → ⊥) →
      (win ≡ true → SomeMove arena false i (WinsOut arena side n) → ⊥) →
      DecidedAt arena side win (n + 1) i → ⊥
  never_next win last i unmarked early d =
      let both = (next_decided arena side win n i).1 d in
      let moves = moves_same arena side win (LeadsNext arena side win n)
      (LeadsNext arena side win k) i
      (λ a arm leads. led_before win last i a arm a.next refl (λ m. unmarked (a, arm, m))
      (λ is m. early is (a, arm, m)) leads) both.0 in
      both.1 (subst (λ (z : ℕ). Decided arena side win z i) (sym more)
      ((next_is arena side win k i).1 (inr moves)))
