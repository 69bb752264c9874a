-- Where a side moves freely and its losses outside are known, what it fails the opponent forces.
use Rattle.std.proofs.Common.{◌≡◌, ◌≢◌, ◌≤◌, ◌+◌, ◌↔◌, ℕ, zero, suc, inl, inr, true, [], refl, sym, subst, ap, ◌∙◌, arith}
use Rattle.std.specs.List.{Contains}
use Rattle.frz_board.specs.declared.man.Colour.{Colour}
use Rattle.frz_board.specs.Men.{other_of}
use Rattle.frz_board.proofs.Lemmas.{other_other}
use Rattle.frz_arena.specs.declared.class.Class.TheVariants.{Bad}
use Rattle.frz_arena.specs.declared.node.Node.TheVariants.{Mate, Going}
use Rattle.frz_arena.specs.declared.arm.Arm.{Arm}
use Rattle.frz_arena.specs.declared.bound.Bound.{Bound}
use Rattle.frz_arena.specs.declared.bound.Bound.TheVariants.{Wins, Holds, Fails}
use Rattle.frz_arena.specs.Arena.{IsArm}
use Rattle.frz_arena.specs.Bounds.{IsBound}
use Rattle.frz_arena.specs.Plies.{LeadsTo, IsBadExit, FailsWithin}
use Rattle.frz_arena.specs.Chess.{Forces, mated, at_goal, later, own_move, every_reply, ForcesMate, mate_alone}
use Rattle.frz_arena.specs.Exits.{IsExit}
use Rattle.frz_arena.specs.Games.{Game, arm_of, arena_of}
use Rattle.frz_arena.specs.WholeTruth.{CanForceMate, MatesIn, IsDead, MovesFreely, TrueHolds, WinsAreKnown, LossesAreKnown, TrueLosses, LossesWithin, NoneIsBad, IsFailure}
use Rattle.frz_arena.proofs.Lists.Members.{passes_or_none}
use Rattle.frz_arena.proofs.Plies.NeverBoth.{never_both}
use Rattle.frz_arena.proofs.Plies.Opposed.{fails_at_once}
use Rattle.frz_arena.proofs.Forcing.WinsForced.{goes, mated_by, is_mate, is_going, leads_inside, leads_by, move_of, arm_at, forces_later}
use Rattle.frz_arena.proofs.Forcing.TrueWins.{one_for_all}
use Rattle.frz_arena.proofs.Exactness.ExactWins.{some_move, an_element, forced_wins, true_wins_mate}

-- what the opponent forces the side fails, where no value wins or holds that the opponent has won
module _ {P M V : Type 0} (game : Game P M V) (side : Colour) (holds : TrueHolds game side) where
  forced_is_bad : (n : ℕ) →
      ((q : P) → game.member q ≡ true → ForcesMate game.chess (other_of side) n q
      → FailsWithin (arena_of game) side n q) →
      (p : P) (m : M) → game.member p ≡ true → Contains (game.chess.moves p) m →
      ForcesMate game.chess (other_of side) n (game.chess.play p m) →
      LeadsTo (FailsWithin (arena_of game) side n) (IsBadExit (arena_of game) side)
      (arm_of game p m).next
  forced_is_bad n ih p m b i f =
      let q = game.chess.play p m in
      leads_inside (FailsWithin (arena_of game) side n) (IsBadExit (arena_of game) side)
      (game.member q) q (game.value q)
      (λ e. ih q e f)
      (λ o. holds q
      (record { from = p; move = m; begins = b; legal = i; ends = refl; outside = o }) (n, f))

  pub forced_fails_in : (n : ℕ) (p : P) → game.member p ≡ true →
      ForcesMate game.chess (other_of side) n p → FailsWithin (arena_of game) side n p
  forced_fails_in zero p b (at_goal e) = absurd (cc)
  forced_fails_in zero p b (mated k) =
      inl (mated_by (game.member p) (game.chess.moves p) (game.chess.in_check p)
      (game.chess.turn p) b k.no_move k.attacked ∙ ap Mate (k.to_move ∙ other_other side))
  forced_fails_in (suc n) p b (later f) = inl (forced_fails_in n p b f)
  forced_fails_in (suc n) p b (at_goal e) = absurd (cc)
  forced_fails_in (suc n) p b (own_move m t i f) =
      inr (inl (
        goes (game.member p) (game.chess.moves p) (game.chess.in_check p) (game.chess.turn p) b
            (some_move (game.chess.moves p) m i) ∙ ap Going t,
        (
          arm_of game p m,
          arm_at game p m i,
          forced_is_bad n (forced_fails_in n) p m b i f,
        ),
      ))
  forced_fails_in (suc n) p b (every_reply t some each) =
      let g = goes (game.member p) (game.chess.moves p) (game.chess.in_check p)
      (game.chess.turn p) b some ∙ ap Going (t ∙ other_other side) in
      let F = FailsWithin (arena_of game) side n in
      let Q = IsBadExit (arena_of game) side in
      let each : (a : Arm M P V) → IsArm (arena_of game) p a → LeadsTo F Q a.next =
      λ a i. (let m = move_of game p a i in subst (λ z. LeadsTo F Q z.next) m.2
      (forced_is_bad n (forced_fails_in n) p m.0 b m.1 (each m.0 m.1))) in
      elim (passes_or_none (λ (a : Arm M P V). a.free) ((arena_of game).arms p)) [
        | inl r ↦ inr (inr (g, (r.0, r.1, r.2, each r.0 r.1), λ a i _. each a i))
        | inr none ↦ inl (fails_at_once (arena_of game) side n p (inr (g, none)))
      ]

-- F holds of mates of the side and of bad exits, and with one ply more where a move of the
-- opponent, or each move of the side, leads to F
pub record HoldsOfFailures {P M V : Type 0} (game : Game P M V) (side : Colour)
    (F : ℕ → P → Type 0) : Type 0 where
  pub lost : (p : P) → ForcesMate game.chess (other_of side) 0 p → F 0 p
  pub later : (n : ℕ) (p : P) → F n p → F (suc n) p
  pub theirs : (n : ℕ) (p : P) (m : M) → game.chess.turn p ≡ other_of side →
      Contains (game.chess.moves p) m → F n (game.chess.play p m) → F (suc n) p
  pub ours : (n : ℕ) (p : P) → game.chess.turn p ≡ side → game.chess.moves p ≢ [] →
      ((m : M) → Contains (game.chess.moves p) m → F n (game.chess.play p m)) → F (suc n) p
  pub exits : (n : ℕ) (q : P) → IsExit game q → game.class (game.value q) side ≡ Bad → F n q

-- so it holds where the side, moving freely, fails
module _ {P M V : Type 0} (game : Game P M V) (side : Colour) (free : MovesFreely game side)
    (F : ℕ → P → Type 0) (fails : HoldsOfFailures game side F) where
  by_arm : (n : ℕ) → ((q : P) → FailsWithin (arena_of game) side n q → F n q) → (p : P) (m : M) →
      game.member p ≡ true → Contains (game.chess.moves p) m →
      LeadsTo (FailsWithin (arena_of game) side n) (IsBadExit (arena_of game) side)
      (arm_of game p m).next → F n (game.chess.play p m)
  by_arm n ih p m b i h =
      let q = game.chess.play p m in
      elim (leads_by (FailsWithin (arena_of game) side n) (IsBadExit (arena_of game) side)
      (game.member q) q (game.value q) h) [
        | inl w ↦ ih q w.1
        | inr w ↦ fails.exits n q
            (record { from = p; move = m; begins = b; legal = i; ends = refl; outside = w.0 }) w.1
      ]

  pub holds_of_failure : (n : ℕ) (p : P) → FailsWithin (arena_of game) side n p → F n p
  holds_of_failure zero p (inl e) =
      let h = is_mate (game.member p) (game.chess.moves p) (game.chess.in_check p)
      (game.chess.turn p) side e in
      fails.lost p (mated (record {
        to_move = h.3 ∙ sym (other_other side);
        no_move = h.1;
        attacked = h.2;
      }))
  holds_of_failure zero p (inr f) =
      let g = is_going (game.member p) (game.chess.moves p) (game.chess.in_check p)
      (game.chess.turn p) side f.0 in
      let m = an_element (game.chess.moves p) g.1 in
      absurd (f.1 (arm_of game p m.0) (arm_at game p m.0 m.1) (free p m.0 g.0 g.2 m.1))
  holds_of_failure (suc n) p (inl f) = fails.later n p (holds_of_failure n p f)
  holds_of_failure (suc n) p (inr (inl f)) =
      let g = is_going (game.member p) (game.chess.moves p) (game.chess.in_check p)
      (game.chess.turn p) (other_of side) f.0 in
      let m = move_of game p f.1.0 f.1.1 in
      let W = FailsWithin (arena_of game) side n in
      let Q = IsBadExit (arena_of game) side in
      let h = subst (λ a. LeadsTo W Q a.next) (sym m.2) f.1.2 in
      fails.theirs n p m.0 g.2 m.1 (by_arm n (holds_of_failure n) p m.0 g.0 m.1 h)
  holds_of_failure (suc n) p (inr (inr f)) =
      let g = is_going (game.member p) (game.chess.moves p) (game.chess.in_check p)
      (game.chess.turn p) side f.0 in
      fails.ours n p g.2 g.1 (λ m i. by_arm n (holds_of_failure n) p m g.0 i
      (f.2 (arm_of game p m) (arm_at game p m i) (free p m g.0 g.2 i)))

module _ {P M V : Type 0} (game : Game P M V) (side : Colour) (free : MovesFreely game side) where
  -- what the side fails the opponent forces, where its losses outside are true
  pub fails_forced : TrueLosses game side → (n : ℕ) (p : P) →
      FailsWithin (arena_of game) side n p → CanForceMate game.chess (other_of side) p
  fails_forced losses =
      holds_of_failure game side free
      (λ n p. (k : ℕ) × Forces game.chess mate_alone (other_of side) k p) (record {
        lost = λ p f. (0, f);
        later = λ n p f. f;
        theirs = λ n p m t i f. (suc f.0, own_move m t i f.1);
        ours = λ n p t some f. (
            let k = one_for_all (λ (i : ℕ) (m : M). Forces game.chess mate_alone (other_of side) i
            (game.chess.play p m))
            (λ i j m l g. forces_later game.chess mate_alone (other_of side) i j
            (game.chess.play p m) l g)
            (game.chess.moves p) f in
            (suc k.0, every_reply (t ∙ sym (other_other side)) some k.1));
        exits = λ n q x e. losses q x e;
      })

  -- the opponent forces mate within some plies more, where each bad exit takes at most so many
  pub fails_forced_within : (most : ℕ) → LossesWithin game side most → (n : ℕ) (p : P) →
      FailsWithin (arena_of game) side n p → ForcesMate game.chess (other_of side) (n + most) p
  fails_forced_within most losses =
      let F : ℕ → P → Type 0 = λ n p. ForcesMate game.chess (other_of side) (n + most) p in
      let more : (k n : ℕ) (p : P) → k ≤ n → ForcesMate game.chess (other_of side) k p →
      ForcesMate game.chess (other_of side) n p =
      forces_later game.chess mate_alone (other_of side) in
      let up : (n : ℕ) (p : P) → ForcesMate game.chess (other_of side) (suc (n + most)) p →
      F (suc n) p =
      λ n p f. more (suc (n + most)) (suc n + most) p (omega arith) f in
      holds_of_failure game side free F (record {
        lost = λ p f. more 0 (0 + most) p (omega arith) f;
        later = λ n p f. up n p (later f);
        theirs = λ n p m t i f. up n p (own_move m t i f);
        ours = λ n p t some f. up n p (every_reply (t ∙ sym (other_other side)) some f);
        exits = λ n q x e. more most (n + most) q (omega arith) (losses q x e);
      })

  -- the opponent forces mate within as many plies, where no exit is bad
  pub fails_forced_in : NoneIsBad game side → (n : ℕ) (p : P) →
      FailsWithin (arena_of game) side n p → ForcesMate game.chess (other_of side) n p
  fails_forced_in none =
      holds_of_failure game side free (ForcesMate game.chess (other_of side)) (record {
        lost = λ p f. f;
        later = λ n p f. later f;
        theirs = λ n p m t i f. own_move m t i f;
        ours = λ n p t some f. every_reply (t ∙ sym (other_other side)) some f;
        exits = λ n q x e. absurd (none q x e);
      })

  -- a bound at a position that fails is a failure
  failure_of_bound : (p : P) (k : ℕ) → FailsWithin (arena_of game) side k p → (b : Bound) →
      IsBound (arena_of game) side p b → IsFailure b
  failure_of_bound p k f (Wins n) h = absurd (never_both (arena_of game) side n k p h.0 f)
  failure_of_bound p k f Holds h = absurd (h.1 k f)
  failure_of_bound p k f (Fails m) h = (m, refl)

  pub exact_failure : LossesAreKnown game side → (p : P) (b : Bound) → game.member p ≡ true →
      IsBound (arena_of game) side p b → IsFailure b ↔ CanForceMate game.chess (other_of side) p
  exact_failure known p b here h = (
    λ w. fails_forced (λ q x. (known q x).0) w.0 p
        (subst (λ (x : Bound). IsBound (arena_of game) side p x) w.1 h).0,
    λ f. failure_of_bound p f.0
        (forced_fails_in game side (λ q x k. (known q x).1 k) f.0 p here f.1) b h,
  )

  pub exact_hold : WinsAreKnown game side → LossesAreKnown game side → (p : P) →
      game.member p ≡ true →
      IsBound (arena_of game) side p Holds ↔ IsDead game.chess side p
  exact_hold wins losses p here = (
    λ h. record {
      no_win = λ n f. (let w = forced_wins game side free wins n p here f in h.0 w.0 w.1);
      no_loss = λ n f. h.1 n
          (forced_fails_in game side (λ q x k. (losses q x).1 k) n p here f);
    },
    λ d. (
      λ n w. (let f = true_wins_mate game side (λ q x g. (wins q x).0 g) n p w in
          d.no_win f.0 f.1),
      λ n w. (let f = fails_forced (λ q x. (losses q x).0) n p w in d.no_loss f.0 f.1),
    ),
  )

  pub exact_failure_plies : NoneIsBad game side → TrueHolds game side → (n : ℕ) (p : P) →
      game.member p ≡ true →
      FailsWithin (arena_of game) side n p ↔ ForcesMate game.chess (other_of side) n p
  exact_failure_plies none holds n p here =
      (fails_forced_in none n p, forced_fails_in game side holds n p here)

  pub exact_failure_least : NoneIsBad game side → TrueHolds game side → (n : ℕ) (p : P) →
      game.member p ≡ true →
      IsBound (arena_of game) side p (Fails n) ↔ MatesIn game.chess (other_of side) n p
  exact_failure_least none holds n p here =
      let e = exact_failure_plies none holds in (
        λ w. record {
          forced = (e n p here).0 w.0;
          least = λ k l f. w.1 k l ((e k p here).1 f);
        },
        λ m. ((e n p here).1 m.forced, λ k l w. m.least k l ((e k p here).0 w)),
      )
