-- Where a side moves freely and its wins outside are known, what it forces in chess it wins.
use Rattle.std.proofs.Common.{◌≡◌, ◌≢◌, ◌≤◌, ◌+◌, ◌↔◌, ℕ, zero, suc, inl, inr, true, List, [], ◌∷◌, refl, subst, ap, ◌∙◌, arith}
use Rattle.std.specs.List.{Contains}
use Rattle.std.proofs.lemmas.Bool.{cases_Bool}
use Rattle.frz_board.specs.declared.man.Colour.{Colour}
use Rattle.frz_board.specs.Men.{other_of}
use Rattle.frz_arena.specs.declared.node.Node.TheVariants.{Mate, Going}
use Rattle.frz_arena.specs.declared.arm.Arm.{Arm}
use Rattle.frz_arena.specs.declared.arm.Next.{Next}
use Rattle.frz_arena.specs.declared.arm.Next.TheVariants.{Inside, Outside}
use Rattle.frz_arena.specs.declared.bound.Bound.{Bound}
use Rattle.frz_arena.specs.declared.bound.Bound.TheVariants.{Wins, Holds, Fails}
use Rattle.frz_arena.specs.Arena.{IsArm}
use Rattle.frz_arena.specs.Bounds.{IsBound}
use Rattle.frz_arena.specs.Plies.{LeadsTo, IsGoodExit, WinsWithin}
use Rattle.frz_arena.specs.Chess.{IsMated, Forces, mated, at_goal, later, own_move, every_reply, ForcesMate, mate_alone}
use Rattle.frz_arena.specs.Exits.{IsExit}
use Rattle.frz_arena.specs.Games.{Game, arm_of, arena_of}
use Rattle.frz_arena.specs.WholeTruth.{CanForceMate, MatesIn, MovesFreely, TrueWins, WinsAreKnown, WinsAreCounted, WinsWithinMore, IsWin}
use Rattle.frz_arena.proofs.Lists.Members.{none_in_empty, first_in}
use Rattle.frz_arena.proofs.Plies.NeverBoth.{never_both}
use Rattle.frz_arena.proofs.Plies.Opposed.{wins_later}
use Rattle.frz_arena.proofs.Forcing.WinsForced.{goes, mated_by, leads_inside, move_of, arm_at, holds_of_win, forced_by_wins, forces_later}
use Rattle.frz_arena.proofs.Forcing.TrueWins.{one_for_all}

-- a list with an element is not empty
pub some_move : {X : Type 0} (xs : List X) (x : X) → Contains xs x → xs ≢ []
some_move xs x h e = none_in_empty x (subst (λ ys. Contains ys x) e h)

-- an element of a list that is not empty
pub an_element : {X : Type 0} (xs : List X) → xs ≢ [] → (x : X) × Contains xs x
an_element [] h = absurd (h refl)
an_element (x ∷ xs) h = (x, first_in x xs)

module _ {P M V : Type 0} (game : Game P M V) (side : Colour) (free : MovesFreely game side) where
  mate_wins : (p : P) → game.member p ≡ true → IsMated game.chess (other_of side) p →
      WinsWithin (arena_of game) side 0 p
  mate_wins p b k =
      mated_by (game.member p) (game.chess.moves p) (game.chess.in_check p) (game.chess.turn p) b
      k.no_move k.attacked ∙ ap Mate k.to_move

  -- one ply of a win, where each move that is taken leads to what is good
  own_ply : (n : ℕ) (p : P) (m : M) → game.member p ≡ true → game.chess.turn p ≡ side →
      Contains (game.chess.moves p) m →
      LeadsTo (WinsWithin (arena_of game) side n) (IsGoodExit (arena_of game) side n)
      (arm_of game p m).next →
      WinsWithin (arena_of game) side (suc n) p
  own_ply n p m b t i good =
      inr (inl (
        goes (game.member p) (game.chess.moves p) (game.chess.in_check p) (game.chess.turn p) b
            (some_move (game.chess.moves p) m i) ∙ ap Going t,
        (arm_of game p m, arm_at game p m i, free p m b t i, good),
      ))

  replies_ply : (n : ℕ) (p : P) → game.member p ≡ true → game.chess.turn p ≡ other_of side →
      game.chess.moves p ≢ [] →
      ((m : M) → Contains (game.chess.moves p) m →
      LeadsTo (WinsWithin (arena_of game) side n) (IsGoodExit (arena_of game) side n)
      (arm_of game p m).next) →
      WinsWithin (arena_of game) side (suc n) p
  replies_ply n p b t some good =
      let W = WinsWithin (arena_of game) side n in
      let Q = IsGoodExit (arena_of game) side n in
      let each : (a : Arm M P V) → IsArm (arena_of game) p a → LeadsTo W Q a.next =
      λ a i. (let m = move_of game p a i in subst (λ z. LeadsTo W Q z.next) m.2 (good m.0 m.1)) in
      let m = an_element (game.chess.moves p) some in
      inr (inr (
        goes (game.member p) (game.chess.moves p) (game.chess.in_check p) (game.chess.turn p) b some
            ∙ ap Going t,
        (arm_of game p m.0, arm_at game p m.0 m.1, good m.0 m.1),
        each,
      ))

  -- where what is forced outside is counted, a mate within n plies is a win within n plies
  counted_next : WinsAreCounted game side → (n : ℕ) →
      ((q : P) → game.member q ≡ true → ForcesMate game.chess side n q
      → WinsWithin (arena_of game) side n q) →
      (p : P) (m : M) → game.member p ≡ true → Contains (game.chess.moves p) m →
      ForcesMate game.chess side n (game.chess.play p m) →
      LeadsTo (WinsWithin (arena_of game) side n) (IsGoodExit (arena_of game) side n)
      (arm_of game p m).next
  counted_next counts n ih p m b i f =
      let q = game.chess.play p m in
      leads_inside (WinsWithin (arena_of game) side n) (IsGoodExit (arena_of game) side n)
      (game.member q) q (game.value q)
      (λ e. ih q e f)
      (λ o. (
      let x : IsExit game q = record {
        from = p;
        move = m;
        begins = b;
        legal = i;
        ends = refl;
        outside = o;
      } in
      (counts q x n).1 f))

  pub forced_wins_in : WinsAreCounted game side → (n : ℕ) (p : P) → game.member p ≡ true →
      ForcesMate game.chess side n p → WinsWithin (arena_of game) side n p
  forced_wins_in counts zero p b (at_goal e) = absurd (cc)
  forced_wins_in counts zero p b (mated k) = mate_wins p b k
  forced_wins_in counts (suc n) p b (later f) = inl (forced_wins_in counts n p b f)
  forced_wins_in counts (suc n) p b (at_goal e) = absurd (cc)
  forced_wins_in counts (suc n) p b (own_move m t i f) =
      own_ply n p m b t i (counted_next counts n (forced_wins_in counts n) p m b i f)
  forced_wins_in counts (suc n) p b (every_reply t some each) =
      replies_ply n p b t some
      (λ m i. counted_next counts n (forced_wins_in counts n) p m b i (each m i))

  -- where what is forced outside is known, a mate is a win
  good_later : (x : Next P V) (n k : ℕ) → n ≤ k →
      LeadsTo (WinsWithin (arena_of game) side n) (IsGoodExit (arena_of game) side n) x →
      LeadsTo (WinsWithin (arena_of game) side k) (IsGoodExit (arena_of game) side k) x
  good_later (Inside q) n k h w = wins_later (arena_of game) side n k q h w
  good_later (Outside v) n k h w = let l = w.1 in (w.0, omega arith)

  known_next : WinsAreKnown game side → (n : ℕ) →
      ((q : P) → game.member q ≡ true → ForcesMate game.chess side n q
      → (k : ℕ) × WinsWithin (arena_of game) side k q) →
      (p : P) (m : M) → game.member p ≡ true → Contains (game.chess.moves p) m →
      ForcesMate game.chess side n (game.chess.play p m) →
      (k : ℕ) × LeadsTo (WinsWithin (arena_of game) side k) (IsGoodExit (arena_of game) side k)
      (arm_of game p m).next
  known_next known n ih p m b i f =
      let q = game.chess.play p m in
      elim (cases_Bool (game.member q)) [
        | inl e ↦ (
            let w = ih q e f in (
              w.0,
              leads_inside (WinsWithin (arena_of game) side w.0)
                  (IsGoodExit (arena_of game) side w.0)
                  (game.member q) q (game.value q) (λ _. w.1) (λ o. absurd (cc)),
            ))
        | inr o ↦ (
            let k = game.lag (game.value q) in
            let x : IsExit game q = record {
              from = p;
              move = m;
              begins = b;
              legal = i;
              ends = refl;
              outside = o;
            } in (
              k,
              leads_inside (WinsWithin (arena_of game) side k) (IsGoodExit (arena_of game) side k)
                  (game.member q) q (game.value q) (λ e. absurd (cc))
                  (λ _. ((known q x).1 (n, f), omega arith)),
            ))
      ]

  pub forced_wins : WinsAreKnown game side → (n : ℕ) (p : P) → game.member p ≡ true →
      ForcesMate game.chess side n p → (k : ℕ) × WinsWithin (arena_of game) side k p
  forced_wins known zero p b (at_goal e) = absurd (cc)
  forced_wins known zero p b (mated k) = (0, mate_wins p b k)
  forced_wins known (suc n) p b (later f) = forced_wins known n p b f
  forced_wins known (suc n) p b (at_goal e) = absurd (cc)
  forced_wins known (suc n) p b (own_move m t i f) =
      let w = known_next known n (forced_wins known n) p m b i f in
      (suc w.0, own_ply w.0 p m b t i w.1)
  forced_wins known (suc n) p b (every_reply t some each) =
      let k = one_for_all (λ (i : ℕ) (m : M). LeadsTo (WinsWithin (arena_of game) side i)
      (IsGoodExit (arena_of game) side i) (arm_of game p m).next)
      (λ i j m l g. good_later (arm_of game p m).next i j l g)
      (game.chess.moves p)
      (λ m i. known_next known n (forced_wins known n) p m b i (each m i)) in
      (suc k.0, replies_ply k.0 p b t some k.1)

-- a win is a forced mate, where the wins outside are true
pub true_wins_mate : {P M V : Type 0} (game : Game P M V) (side : Colour) → TrueWins game side →
    (n : ℕ) (p : P) → WinsWithin (arena_of game) side n p → CanForceMate game.chess side p
true_wins_mate {P} {M} game side exits =
    holds_of_win game side (λ n p. (k : ℕ) × Forces game.chess mate_alone side k p) (record {
      mates = λ p h. (0, mated h);
      later = λ n p f. f;
      own = λ n p m t i f. (suc f.0, own_move m t i f.1);
      replies = λ n p t some f. (
          let k = one_for_all (λ (i : ℕ) (m : M). Forces game.chess mate_alone side i
          (game.chess.play p m))
          (λ i j m l g. forces_later game.chess mate_alone side i j (game.chess.play p m) l g)
          (game.chess.moves p) f in
          (suc k.0, every_reply t some k.1));
      exits = λ n q x g. exits q x g.0;
    })

-- a win is a forced mate within its plies, where each good exit is forced within its lag
pub counted_wins_mate : {P M V : Type 0} (game : Game P M V) (side : Colour) →
    WinsAreCounted game side → (n : ℕ) (p : P) → WinsWithin (arena_of game) side n p →
    ForcesMate game.chess side n p
counted_wins_mate game side counts =
    holds_of_win game side (Forces game.chess mate_alone side)
    (forced_by_wins game mate_alone side
    (λ q x g. (counts q x (game.lag (game.value q))).0 (g, omega arith)))

-- a win is a forced mate within some plies more, where each good exit takes at most so many more
-- than its lag
pub more_wins_mate : {P M V : Type 0} (game : Game P M V) (side : Colour) (more : ℕ) →
    WinsWithinMore game side more → (n : ℕ) (p : P) → WinsWithin (arena_of game) side n p →
    ForcesMate game.chess side (n + more) p
more_wins_mate {P} game side more exits =
    let F : ℕ → P → Type 0 = λ n p. ForcesMate game.chess side (n + more) p in
    let up : (n : ℕ) (p : P) → ForcesMate game.chess side (suc (n + more)) p → F (suc n) p =
    λ n p f. (let e : suc (n + more) ≡ suc n + more = omega arith in
    subst (λ k. ForcesMate game.chess side k p) e f) in
    holds_of_win game side F (record {
      mates = λ p h. forces_later game.chess mate_alone side 0 (0 + more) p (omega arith) (mated h);
      later = λ n p f. up n p (later f);
      own = λ n p m t i f. up n p (own_move m t i f);
      replies = λ n p t some f. up n p (every_reply t some f);
      exits = λ n q x g. (let l = g.1 in
          forces_later game.chess mate_alone side (game.lag (game.value q) + more) (n + more) q
          (omega arith) (exits q x g.0));
    })

module _ {P M V : Type 0} (game : Game P M V) (side : Colour) (free : MovesFreely game side) where
  pub exact_plies : WinsAreCounted game side → (n : ℕ) (p : P) → game.member p ≡ true →
      WinsWithin (arena_of game) side n p ↔ ForcesMate game.chess side n p
  exact_plies counts n p b =
      (counted_wins_mate game side counts n p, forced_wins_in game side free counts n p b)

  pub exact_least : WinsAreCounted game side → (n : ℕ) (p : P) → game.member p ≡ true →
      IsBound (arena_of game) side p (Wins n) ↔ MatesIn game.chess side n p
  exact_least counts n p b =
      let e = exact_plies counts in (
        λ w. record {
          forced = (e n p b).0 w.0;
          least = λ k l f. w.1 k l ((e k p b).1 f);
        },
        λ m. ((e n p b).1 m.forced, λ k l w. m.least k l ((e k p b).0 w)),
      )

  -- a bound at a position that is won is a win
  pub win_of_bound : (p : P) (k : ℕ) → WinsWithin (arena_of game) side k p → (b : Bound) →
      IsBound (arena_of game) side p b → IsWin b
  win_of_bound p k w (Wins n) h = (n, refl)
  win_of_bound p k w Holds h = absurd (h.0 k w)
  win_of_bound p k w (Fails m) h = absurd (never_both (arena_of game) side k m p w h.0)

  pub bound_is_won : (p : P) (b : Bound) → IsBound (arena_of game) side p b → IsWin b →
      (n : ℕ) × WinsWithin (arena_of game) side n p
  bound_is_won p b h (n, e) =
      (n, (subst (λ (x : Bound). IsBound (arena_of game) side p x) e h).0)

  pub exact_win : WinsAreKnown game side → (p : P) (b : Bound) → game.member p ≡ true →
      IsBound (arena_of game) side p b → IsWin b ↔ CanForceMate game.chess side p
  exact_win known p b here h = (
    λ w. (let k = bound_is_won p b h w in
        true_wins_mate game side (λ q x g. (known q x).0 g) k.0 p k.1),
    λ f. (let w = forced_wins game side free known f.0 p here f.1 in win_of_bound p w.0 w.1 b h),
  )
