-- Squeezes that show a win are mutual zugzwangs of chess, where the exits are true.
use Rattle.std.proofs.Common.{◌≡◌, ◌<◌, ℕ, ◌⊎◌, inl, inr, List, ◌+◌, ◌*◌, refl, sym, subst, ap, ◌∙◌, arith}
use Rattle.std.specs.Prelude.{slice_index}
use Rattle.std.proofs.lemmas.Bool.Decides.{nat_tests}
use Rattle.frz_board.specs.declared.man.Colour.{Colour}
use Rattle.frz_board.specs.declared.man.Colour.TheVariants.{White, Black}
use Rattle.frz_board.specs.Boards.{Board}
use Rattle.frz_board.specs.Men.{other_of}
use Rattle.frz_sets.specs.declared.exit.Value.{Value}
use Rattle.frz_sets.specs.Views.{RuleLines}
use Rattle.frz_index.specs.Members.{Member, Num}
use Rattle.frz_arena.specs.declared.bound.Bound.{Bound}
use Rattle.frz_arena.specs.declared.bound.Bound.TheVariants.{Wins, Holds, Fails}
use Rattle.frz_arena.specs.Chess.{NeverForcesMate}
use Rattle.frz_arena.specs.Codes.{code_of}
use Rattle.frz_arena.specs.WholeTruth.{CanForceMate, IsWin}
use Rattle.frz_arena.proofs.Lemmas.{wins_mates}
use Rattle.frz_game.specs.Bounds.{IsTableOf, IsBoundAt}
use Rattle.frz_game.specs.Games.{chess, game_of}
use Rattle.frz_game.specs.Values.{AreTrueExits}
use Rattle.frz_game.proofs.Lemmas.{stored_bound, hold_safe, win_safe, true_exits}
use Rattle.frz_report.specs.Squeezes.{Squeeze, IsSqueeze, rank_of, rank_at}
use Rattle.frz_report.specs.Zugzwangs.{IsZugzwang}

-- the rank of the code of a bound
rank_of_win : (n : ℕ) → rank_of (2 + 2 * n) ≡ 2
rank_of_win n = grind (arith, nat_tests)

rank_of_failure : (m : ℕ) → rank_of (3 + 2 * m) ≡ 0
rank_of_failure m = grind (arith, nat_tests)

won_by_rank : (b : Bound) → rank_of (code_of b) ≡ 2 → IsWin b
won_by_rank (Wins n) e = (n, refl)
won_by_rank Holds e = absurd (cc)
won_by_rank (Fails m) e = absurd (let z = rank_of_failure m in omega arith)

safe_by_rank : (b : Bound) → 0 < rank_of (code_of b) → IsWin b ⊎ (b ≡ Holds)
safe_by_rank (Wins n) h = inl (n, refl)
safe_by_rank Holds h = inr refl
safe_by_rank (Fails m) h = absurd (let z = rank_of_failure m in omega arith)

module _ (rules : RuleLines) (value : Board → Value) (exits : AreTrueExits rules value)
    (codes : Colour → List ℕ) (side : Colour) (table : IsTableOf rules value side (codes side))
    (p : Board) (member : Member rules.groups p) (i : ℕ) (here : Num rules.groups p ≡ i) where
  -- the rank at the number is that of the bound
  rank_here : (b : Bound) → slice_index (codes side) (Num rules.groups p) ≡ code_of b →
      rank_at codes side i ≡ rank_of (code_of b)
  rank_here b e = ap (rank_at codes side) (sym here) ∙ ap rank_of e

  pub rank_forces : rank_at codes side i ≡ 2 → CanForceMate chess side p
  rank_forces r =
      let stored = stored_bound rules value side (codes side) table p member in
      let won = won_by_rank stored.0 (sym (rank_here stored.0 stored.1) ∙ r) in
      let bound = subst (λ (b : Bound). IsBoundAt rules value side p b) won.1 stored.2 in
      wins_mates (game_of rules value) (true_exits rules value exits) side won.0 p bound.0

  pub rank_saves : 0 < rank_at codes side i → NeverForcesMate chess (other_of side) p
  rank_saves r =
      let stored = stored_bound rules value side (codes side) table p member in
      elim (safe_by_rank stored.0
      (subst (λ n. 0 < n) (rank_here stored.0 stored.1) r)) [
        | inl won ↦ win_safe rules value exits side won.0 p member
            (subst (λ (b : Bound). IsBoundAt rules value side p b) won.1 stored.2)
        | inr held ↦ hold_safe rules value exits side p member
            (subst (λ (b : Bound). IsBoundAt rules value side p b) held stored.2)
      ]

module _ (rules : RuleLines) (value : Board → Value) (exits : AreTrueExits rules value)
    (codes : Colour → List ℕ) (tables : (side : Colour) → IsTableOf rules value side (codes side))
    (s : Squeeze) (squeeze : IsSqueeze rules.groups codes s) where
  pub white_zugzwang : rank_at codes White s.black_to_move ≡ 2 →
      IsZugzwang White squeeze.other s.position
  white_zugzwang r =
      let worse = squeeze.black_worse in record {
        same_men = squeeze.same_men;
        their_turn = squeeze.black_second;
        my_turn = squeeze.white_first;
        forced = rank_forces rules value exits codes White (tables White) squeeze.other
            squeeze.second_is.member s.black_to_move squeeze.second_is.number r;
        unforced = rank_saves rules value exits codes Black (tables Black) s.position
            squeeze.first_is.member s.white_to_move squeeze.first_is.number (omega arith);
      }

  pub black_zugzwang : rank_at codes Black s.white_to_move ≡ 2 →
      IsZugzwang Black s.position squeeze.other
  black_zugzwang r =
      let worse = squeeze.white_worse in record {
        same_men = sym squeeze.same_men;
        their_turn = squeeze.white_first;
        my_turn = squeeze.black_second;
        forced = rank_forces rules value exits codes Black (tables Black) s.position
            squeeze.first_is.member s.white_to_move squeeze.first_is.number r;
        unforced = rank_saves rules value exits codes White (tables White) squeeze.other
            squeeze.second_is.member s.black_to_move squeeze.second_is.number (omega arith);
      }
