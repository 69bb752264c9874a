-- What bounds and tables mean in chess.
use Rattle.std.proofs.Common.{◌≡◌, ℕ, List, Option, Some, None, refl, sym, subst, ◌∙◌}
use Rattle.std.specs.Prelude.{slice_index}
use Rattle.frz_board.specs.declared.man.Colour.{Colour}
use Rattle.frz_board.specs.Boards.{Board}
use Rattle.frz_board.specs.Men.{other_of}
use Rattle.frz_sets.specs.declared.exit.Value.{Value}
use Rattle.frz_sets.specs.Views.{RuleLines}
use Rattle.frz_index.specs.Members.{Member, Num, Broken}
use Rattle.frz_index.proofs.Lemmas.{position_tells}
use Rattle.frz_arena.specs.declared.bound.Bound.{Bound}
use Rattle.frz_arena.specs.declared.bound.Bound.TheVariants.{Wins, Holds, Fails}
use Rattle.frz_arena.specs.Codes.{code_of}
use Rattle.frz_arena.proofs.Lemmas.{codes_differ, opposed_bounds, wins_forces, wins_mates, wins_mates_in}
use Rattle.frz_game.specs.Bounds.{IsBoundAt, IsTableOf}
use Rattle.frz_game.specs.Games.{arena_by, game_of}
use Rattle.frz_game.specs.Meaning.{Means, MeansWin, WinsAlone, TableMeans}
use Rattle.frz_game.specs.Numbers.{position_at}
use Rattle.frz_game.proofs.Bounded.{hold_safe, win_safe, stored_bound}
use Rattle.frz_game.proofs.Graph.{lawful}
use Rattle.frz_game.proofs.TrueValues.{true_exits}

module _ (rules : RuleLines) (value : Board → Value) (side : Colour) where
  win_means : (n : ℕ) (p : Board) → Member rules.groups p → IsBoundAt rules value side p (Wins n) →
      MeansWin rules value side n p
  win_means n p member b = record {
    forced = wins_forces (game_of rules value) side n p b.0;
    mate = λ exits. wins_mates (game_of rules value) (true_exits rules value exits) side n p b.0;
    within = λ exits all. wins_mates_in (game_of rules value) (true_exits rules value exits) side
        all n p b.0;
    safe = λ exits. win_safe rules value exits side n p member b;
  }

  pub bound_means : (p : Board) (b : Bound) → Member rules.groups p →
      IsBoundAt rules value side p b →
      Means rules value side p b
  bound_means p (Wins n) member b = win_means n p member b
  bound_means p Holds member b = λ exits. hold_safe rules value exits side p member b
  bound_means p (Fails m) member b = tt

  pub wins_alone : (p : Board) (b c : Bound) → IsBoundAt rules value side p b →
      IsBoundAt rules value (other_of side) p c → WinsAlone b c
  wins_alone p (Wins n) c h k =
      opposed_bounds (arena_by rules value) (lawful rules value) side p n c h k
  wins_alone p Holds c h k = tt
  wins_alone p (Fails m) c h k = tt

  -- the bound for which a code stands is the bound there
  stands_for : (codes : List ℕ) → IsTableOf rules value side codes → (p : Board) (b : Bound) →
      Member rules.groups p →
      slice_index codes (Num rules.groups p) ≡ code_of b → IsBoundAt rules value side p b
  stands_for codes table p b member e =
      let stored = stored_bound rules value side codes table p member in
      subst (λ (x : Bound). IsBoundAt rules value side p x)
      (codes_differ stored.0 b (sym stored.1 ∙ e)) stored.2

  pub code_means : (codes : List ℕ) → IsTableOf rules value side codes → (p : Board) (b : Bound) →
      Member rules.groups p →
      slice_index codes (Num rules.groups p) ≡ code_of b → Means rules value side p b
  code_means codes table p b member e = bound_means p b member (stands_for codes table p b member e)

  broken_at : (i : ℕ) → Broken rules.groups i → (o : Option Board) →
      position_at rules.groups i ≡ o →
      position_at rules.groups i ≡ None
  broken_at i broken None e = e
  broken_at i broken (Some p) e =
      let there = position_tells rules.groups i p e in absurd (broken p there.member there.number)

  pub table_means : (codes : List ℕ) → IsTableOf rules value side codes
      → TableMeans rules value side codes
  table_means codes table = record {
    win = λ p n member e. code_means codes table p (Wins n) member e;
    hold = λ p member e. code_means codes table p Holds member e;
    broken = λ i below broken. table.broken i below
        (broken_at i broken (position_at rules.groups i) refl);
  }
