-- An arena in which a position is taken together with the plies played before it. So a player by
-- codes may know one position by other codes after other numbers of plies, as they were read then.
use Rattle.std.specs.Prelude.{ℕ, suc, List, map, slice_index}
use Rattle.frz_board.specs.declared.man.Colour.{Colour}
use Rattle.frz_arena.specs.Arena.{Arena}
use Rattle.frz_arena.specs.Names.{named}
use Rattle.frz_arena.specs.Ways.{Player, Opponent}

-- position p after k plies
abbrev pub after : {N : Type 0} → ℕ → N → ℕ × N
after k p = (k, p)

-- the arena of such pairs: each arm leads where it led, after one ply more
abbrev pub counted : {M N V : Type 0} → Arena M N V → Arena M (ℕ × N) V
counted arena = record {
  node = λ p. arena.node p.1;
  arms = λ p. map (named (after (suc p.0))) (arena.arms p.1);
  class = arena.class;
  lag = arena.lag;
}

-- a side whose codes depend on the plies played: after k plies it knows a position by its code in
-- codes k. At each of its positions it goes by the code that it knew of it one ply before, and by
-- the codes of the moves there as it reads them now
abbrev pub reader : {M V S R : Type 0} → Arena M ℕ V → Colour → (codes : ℕ → List ℕ) →
    Opponent (ℕ × ℕ) S R → Player M (ℕ × ℕ) V S R
reader arena side codes opponent = record {
  arena = counted arena;
  side = side;
  entry = λ p. slice_index (codes p.0) p.1;
  opponent = opponent;
}
