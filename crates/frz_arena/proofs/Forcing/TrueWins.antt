-- Where the exits are true, a win of the restricted game is a forced mate.
use Rattle.std.proofs.Common.{◌≡◌, ◌≤◌, ℕ, suc, max, inl, inr, List, [], ◌∷◌, subst, arith}
use Rattle.std.specs.List.{Contains}
use Rattle.std.proofs.lemmas.Bool.{cases_Bool}
use Rattle.frz_board.specs.declared.man.Colour.{Colour}
use Rattle.frz_arena.specs.declared.class.Class.TheVariants.{Good}
use Rattle.frz_arena.specs.Plies.{WinsWithin}
use Rattle.frz_arena.specs.Chess.{Forces, mated, own_move, every_reply, mate_alone}
use Rattle.frz_arena.specs.Games.{Game, arena_of}
use Rattle.frz_arena.specs.Exits.{IsExit, TrueExits, AllNumbered}
use Rattle.frz_arena.proofs.Lists.Members.{none_in_empty, first_in, later_in, in_cases}
use Rattle.frz_arena.proofs.Forcing.WinsForced.{forces_later, forced_by_wins, holds_of_win}

-- a number that serves each element
pub one_for_all : {X : Type 0} (F : ℕ → X → Type 0) → ((n k : ℕ) (x : X) → n ≤ k → F n x → F k x) →
    (xs : List X) → ((x : X) → Contains xs x → (n : ℕ) × F n x) →
    (n : ℕ) × ((x : X) → Contains xs x → F n x)
one_for_all F up [] h = (0, λ x i. absurd (none_in_empty x i))
one_for_all F up (y ∷ xs) h =
    let a = h y (first_in y xs) in
    let b = one_for_all F up xs (λ x i. h x (later_in y xs x i)) in (
      max a.0 b.0,
      λ x i. elim (in_cases y xs x i) [
        | inl e ↦ subst (λ z. F (max a.0 b.0) z) e (up a.0 (max a.0 b.0) y (omega arith) a.1)
        | inr j ↦ up b.0 (max a.0 b.0) x (omega arith) (b.1 x j)
      ],
    )

-- an exit that is good for the side is a forced mate
pub true_win : {P M V : Type 0} (game : Game P M V) → TrueExits game → (side : Colour) (q : P) →
    IsExit game q → game.class (game.value q) side ≡ Good →
    (n : ℕ) × Forces game.chess mate_alone side n q
true_win game exits side q x g =
    elim (cases_Bool (game.numbered (game.value q))) [
      | inl t ↦ (game.lag (game.value q), (exits q x).wins_in side g t)
      | inr f ↦ (exits q x).wins side g f
    ]

-- a win is a forced mate
pub wins_mates : {P M V : Type 0} (game : Game P M V) → TrueExits game →
    (side : Colour) (n : ℕ) (p : P) → WinsWithin (arena_of game) side n p →
    (k : ℕ) × Forces game.chess mate_alone side k p
wins_mates {P} {M} game exits side =
    holds_of_win game side (λ n p. (k : ℕ) × Forces game.chess mate_alone side k p) (record {
      mates = λ p h. (0, mated h);
      later = λ n p f. f;
      own = λ n p m t i f. (suc f.0, own_move m t i f.1);
      replies = λ n p t some f. (
          let k = one_for_all (λ (i : ℕ) (m : M). Forces game.chess mate_alone side i
          (game.chess.play p m))
          (λ i j m l g. forces_later game.chess mate_alone side i j (game.chess.play p m) l g)
          (game.chess.moves p) f in
          (suc k.0, every_reply t some k.1));
      exits = λ n q x g. true_win game exits side q x g.0;
    })

-- a win is a forced mate within its plies, where each good exit gives a number of plies
pub wins_mates_in : {P M V : Type 0} (game : Game P M V) → TrueExits game → (side : Colour) →
    AllNumbered game side → (n : ℕ) (p : P) → WinsWithin (arena_of game) side n p →
    Forces game.chess mate_alone side n p
wins_mates_in game exits side all =
    holds_of_win game side (Forces game.chess mate_alone side)
    (forced_by_wins game mate_alone side (λ q x g. (exits q x).wins_in side g (all q x g)))
