-- From the restricted game to chess.
use Rattle.std.proofs.Common.{◌≡◌, ◌≢◌, ◌≤◌, ℕ, zero, suc, ◌⊎◌, inl, inr, Bool, true, false, List, [], ◌∷◌, Option, Some, refl, sym, subst}
use Rattle.std.specs.List.{Contains}
use Rattle.frz_board.specs.declared.man.Colour.{Colour}
use Rattle.frz_arena.specs.declared.class.Class.{Class}
use Rattle.frz_arena.specs.declared.class.Class.TheVariants.{Good}
use Rattle.frz_board.specs.Men.{other_of}
use Rattle.frz_arena.specs.declared.node.Node.TheVariants.{Mate, Going}
use Rattle.frz_arena.specs.declared.arm.Arm.{Arm}
use Rattle.frz_arena.specs.Arena.{IsArm}
use Rattle.frz_arena.specs.Plies.{LeadsTo, IsGoodExit, WinsWithin}
use Rattle.frz_arena.specs.Chess.{Chess, IsMated, Forces, mated, at_goal, later, own_move, every_reply}
use Rattle.frz_arena.specs.Exits.{IsExit}
use Rattle.frz_arena.specs.Games.{Game, next_by, node_by, arm_of, arena_of, goal_by, goals_of}
use Rattle.frz_arena.proofs.Plies.Later.{later as from_then_on}
use Rattle.frz_arena.proofs.LocalCodes.PlyCodes.{mapped_in, from_mapped}

pub forces_later : {P M : Type 0} (chess : Chess P M) (goal : P → Option ℕ) (side : Colour)
    (n k : ℕ) (p : P) → n ≤ k → Forces chess goal side n p → Forces chess goal side k p
forces_later chess goal side n k p h f =
    from_then_on (λ i. Forces chess goal side i p) (λ _ v. later v) n k h f

-- positions
pub is_mate : {M : Type 0} (i : Bool) (ms : List M) (check : Bool) (turn side : Colour) →
    node_by i ms check turn ≡ Mate side → (i ≡ true) × (ms ≡ []) × (check ≡ true) × (turn ≡ side)
is_mate false ms check turn side e = absurd (cc)
is_mate true (m ∷ ms) check turn side e = absurd (cc)
is_mate true [] true turn side e = (refl, refl, refl, cc)
is_mate true [] false turn side e = absurd (cc)

pub is_going : {M : Type 0} (i : Bool) (ms : List M) (check : Bool) (turn side : Colour) →
    node_by i ms check turn ≡ Going side → (i ≡ true) × (ms ≢ []) × (turn ≡ side)
is_going false ms check turn side e = absurd (cc)
is_going true (m ∷ ms) check turn side e = (refl, λ h. cc, cc)
is_going true [] true turn side e = absurd (cc)
is_going true [] false turn side e = absurd (cc)

pub goes : {M : Type 0} (i : Bool) (ms : List M) (check : Bool) (turn : Colour) → i ≡ true →
    ms ≢ [] → node_by i ms check turn ≡ Going turn
goes false ms check turn e h = absurd (cc)
goes true [] check turn e h = absurd (h refl)
goes true (m ∷ ms) check turn e h = refl

pub mated_by : {M : Type 0} (i : Bool) (ms : List M) (check : Bool) (turn : Colour) → i ≡ true →
    ms ≡ [] → check ≡ true → node_by i ms check turn ≡ Mate turn
mated_by i ms check turn e h k = rw (e, h, k) refl

-- where an arm leads
pub leads_by : {P V : Type 0} (F : P → Type 0) (Q : V → Type 0) (i : Bool) (q : P) (v : V) →
    LeadsTo F Q (next_by i q v) → ((i ≡ true) × F q) ⊎ ((i ≡ false) × Q v)
leads_by F Q true q v h = inl (refl, h)
leads_by F Q false q v h = inr (refl, h)

pub leads_inside : {P V : Type 0} (F : P → Type 0) (Q : V → Type 0) (i : Bool) (q : P) (v : V) →
    (i ≡ true → F q) → (i ≡ false → Q v) → LeadsTo F Q (next_by i q v)
leads_inside F Q true q v h k = h refl
leads_inside F Q false q v h k = k refl

-- the move of an arm
pub move_of : {P M V : Type 0} (game : Game P M V) (p : P) (a : Arm M P V) →
    IsArm (arena_of game) p a → (m : M) × Contains (game.chess.moves p) m × (arm_of game p m ≡ a)
move_of game p a h = from_mapped (arm_of game p) (game.chess.moves p) a h

pub arm_at : {P M V : Type 0} (game : Game P M V) (p : P) (m : M) →
    Contains (game.chess.moves p) m → IsArm (arena_of game) p (arm_of game p m)
arm_at game p m h = mapped_in (arm_of game p) (game.chess.moves p) m h

-- a good exit is a goal
goal_by_class : (i : Bool) (c : Class) (lag : ℕ) → i ≡ false → c ≡ Good → goal_by i c lag ≡ Some lag
goal_by_class i c lag e h = rw (e, h) refl

-- F holds of mates and of good exits, and with one ply more where an own move or each reply leads
-- to F
pub record HoldsOfWins {P M V : Type 0} (game : Game P M V) (side : Colour)
    (F : ℕ → P → Type 0) : Type 0 where
  pub mates : (p : P) → IsMated game.chess (other_of side) p → F 0 p
  pub later : (n : ℕ) (p : P) → F n p → F (suc n) p
  pub own : (n : ℕ) (p : P) (m : M) → game.chess.turn p ≡ side →
      Contains (game.chess.moves p) m → F n (game.chess.play p m) → F (suc n) p
  pub replies : (n : ℕ) (p : P) → game.chess.turn p ≡ other_of side → game.chess.moves p ≢ [] →
      ((m : M) → Contains (game.chess.moves p) m → F n (game.chess.play p m)) → F (suc n) p
  pub exits : (n : ℕ) (q : P) → IsExit game q → IsGoodExit (arena_of game) side n (game.value q) →
      F n q

-- so it holds where the restricted game is won
module _ {P M V : Type 0} (game : Game P M V) (side : Colour) (F : ℕ → P → Type 0)
    (wins : HoldsOfWins game side F) where
  by_arm : (n : ℕ) → ((q : P) → WinsWithin (arena_of game) side n q → F n q) → (p : P) (m : M) →
      game.member p ≡ true → Contains (game.chess.moves p) m →
      LeadsTo (WinsWithin (arena_of game) side n) (IsGoodExit (arena_of game) side n)
      (arm_of game p m).next → F n (game.chess.play p m)
  by_arm n ih p m b i h =
      let q = game.chess.play p m in
      elim (leads_by (WinsWithin (arena_of game) side n) (IsGoodExit (arena_of game) side n)
      (game.member q) q (game.value q) h) [
        | inl w ↦ ih q w.1
        | inr w ↦ wins.exits n q
            (record { from = p; move = m; begins = b; legal = i; ends = refl; outside = w.0 }) w.1
      ]

  pub holds_of_win : (n : ℕ) (p : P) → WinsWithin (arena_of game) side n p → F n p
  holds_of_win zero p w =
      let h = is_mate (game.member p) (game.chess.moves p) (game.chess.in_check p)
      (game.chess.turn p) (other_of side) w in
      wins.mates p (record { to_move = h.3; no_move = h.1; attacked = h.2 })
  holds_of_win (suc n) p (inl w) = wins.later n p (holds_of_win n p w)
  holds_of_win (suc n) p (inr (inl w)) =
      let g = is_going (game.member p) (game.chess.moves p) (game.chess.in_check p)
      (game.chess.turn p) side w.0 in
      let m = move_of game p w.1.0 w.1.1 in
      let W = WinsWithin (arena_of game) side n in
      let Q = IsGoodExit (arena_of game) side n in
      let h = subst (λ a. LeadsTo W Q a.next) (sym m.2) w.1.3 in
      wins.own n p m.0 g.2 m.1 (by_arm n (holds_of_win n) p m.0 g.0 m.1 h)
  holds_of_win (suc n) p (inr (inr w)) =
      let g = is_going (game.member p) (game.chess.moves p) (game.chess.in_check p)
      (game.chess.turn p) (other_of side) w.0 in
      wins.replies n p g.2 g.1
      (λ m i. by_arm n (holds_of_win n) p m g.0 i (w.2 (arm_of game p m) (arm_at game p m i)))

-- what the side forces is such an F, where each good exit is forced within its lag
pub forced_by_wins : {P M V : Type 0} (game : Game P M V) (goals : P → Option ℕ) (side : Colour) →
    ((q : P) → IsExit game q → game.class (game.value q) side ≡ Good →
    Forces game.chess goals side (game.lag (game.value q)) q) →
    HoldsOfWins game side (Forces game.chess goals side)
forced_by_wins game goals side exits = record {
  mates = λ p h. mated h;
  later = λ n p f. later f;
  own = λ n p m t i f. own_move m t i f;
  replies = λ n p t some f. every_reply t some f;
  exits = λ n q x g.
      forces_later game.chess goals side (game.lag (game.value q)) n q g.1 (exits q x g.0);
}

-- the restricted game's win is forced in chess
pub wins_forces : {P M V : Type 0} (game : Game P M V) (side : Colour) (n : ℕ) (p : P) →
    WinsWithin (arena_of game) side n p → Forces game.chess (goals_of game side) side n p
wins_forces game side =
    holds_of_win game side (Forces game.chess (goals_of game side) side)
    (forced_by_wins game (goals_of game side) side
    (λ q x g. at_goal (goal_by_class (game.member q) (game.class (game.value q) side) (game.lag (game.value q))
    x.outside g)))
