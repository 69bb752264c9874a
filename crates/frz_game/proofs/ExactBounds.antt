-- What a bound says of chess where no line forbids the side a move.
use Rattle.std.proofs.Common.{ℕ, List, refl, subst, sym, ◌∙◌}
use Rattle.frz_board.specs.declared.man.Colour.{Colour}
use Rattle.frz_board.specs.Boards.{Board}
use Rattle.frz_board.specs.Men.{other_of}
use Rattle.frz_sets.specs.declared.exit.Value.{Value}
use Rattle.frz_sets.specs.Views.{RuleLines}
use Rattle.frz_index.specs.Members.{Member}
use Rattle.frz_index.proofs.Lemmas.{of_member}
use Rattle.frz_arena.specs.declared.bound.Bound.{Bound}
use Rattle.frz_arena.specs.declared.bound.Bound.TheVariants.{Wins, Holds, Fails}
use Rattle.frz_arena.specs.WholeTruth.{WinsAreKnown, LossesAreKnown}
use Rattle.frz_arena.proofs.Lemmas.{codes_differ, exact_win, exact_least, exact_failure, exact_hold, exact_failure_least, fails_forced, decided_wins, decided_losses, none_won, true_wins, true_holds}
use Rattle.frz_game.specs.Bounds.{IsBoundAt, IsTableOf}
use Rattle.frz_game.specs.ExactBounds.{IsExactBound, HasExactOutcome, MeansExactly, TableMeansExactly}
use Rattle.frz_game.specs.ExactTables.{HasNoForbid}
use Rattle.frz_game.specs.Games.{game_of}
use Rattle.frz_game.specs.MenAlone.{IsDrawnOutside}
use Rattle.frz_game.proofs.Bounded.{stored_bound}
use Rattle.frz_game.proofs.DecidedExits.{decided_game, exact_where_decided}
use Rattle.frz_game.proofs.DrawnOutside.{wins_counted, not_bad, holds_true, wins_known, losses_known}
use Rattle.frz_game.proofs.ExactTables.{moves_freely, exact_where_drawn}
use Rattle.frz_game.proofs.Graph.{lawful}
use Rattle.frz_game.proofs.TrueValues.{true_exits}

module _ (rules : RuleLines) (value : Board → Value) (side : Colour)
    (none : HasNoForbid rules side) (p : Board) (member : Member rules.groups p) where
  exact_bound : IsDrawnOutside rules value → (b : Bound) → IsBoundAt rules value side p b →
      IsExactBound side p b
  exact_bound drawn (Wins n) h =
      (exact_least (game_of rules value) side (moves_freely rules value side none)
      (wins_counted rules value side drawn) n p (of_member rules.groups p member)).0 h
  exact_bound drawn Holds h =
      (exact_hold (game_of rules value) side (moves_freely rules value side none)
      (wins_known rules value side drawn) (losses_known rules value side drawn) p
      (of_member rules.groups p member)).0 h
  exact_bound drawn (Fails m) h =
      (exact_failure_least (game_of rules value) side (moves_freely rules value side none)
      (not_bad rules value side drawn) (holds_true rules value side drawn) m p
      (of_member rules.groups p member)).0 h

  exact_outcome : WinsAreKnown (game_of rules value) side →
      LossesAreKnown (game_of rules value) side → (b : Bound) → IsBoundAt rules value side p b →
      HasExactOutcome side p b
  exact_outcome wins losses (Wins n) h =
      (exact_win (game_of rules value) side (moves_freely rules value side none) wins p (Wins n)
      (of_member rules.groups p member) h).0 (n, refl)
  exact_outcome wins losses Holds h =
      (exact_hold (game_of rules value) side (moves_freely rules value side none) wins losses p
      (of_member rules.groups p member)).0 h
  exact_outcome wins losses (Fails m) h =
      (exact_failure (game_of rules value) side (moves_freely rules value side none) losses p
      (Fails m) (of_member rules.groups p member) h).0 (m, refl)

  pub bound_exactly : (b : Bound) → IsBoundAt rules value side p b →
      MeansExactly rules value side p b
  bound_exactly b h =
      let game = game_of rules value in
      let free = moves_freely rules value side none in
      let here = of_member rules.groups p member in
      record {
        drawn = λ drawn. exact_bound drawn b h;
        decided = λ exits decided. (
            let truth = true_exits rules value exits in
            let known = decided_game rules value decided in
            exact_outcome (decided_wins game truth side known)
            (decided_losses game truth side known) b h);
        win = λ exits bad n e. (
            let truth = true_exits rules value exits in
            (exact_least game side free
            (none_won game truth side (lawful rules value).opposed bad) n p here).0
            (subst (λ (x : Bound). IsBoundAt rules value side p x) e h));
        lost = λ exits lost m e. (
            let truth = true_exits rules value exits in
            fails_forced game side free
            (λ q x bad. true_wins game truth (other_of side) q x (lost q x bad)) m p
            (subst (λ (x : Bound). IsBoundAt rules value side p x) e h).0);
        lost_in = λ exits bad m e. (
            let truth = true_exits rules value exits in
            (exact_failure_least game side free bad (true_holds game truth side) m p here).0
            (subst (λ (x : Bound). IsBoundAt rules value side p x) e h));
      }

pub table_exactly : (rules : RuleLines) (value : Board → Value) (side : Colour)
    (codes : List ℕ) → IsTableOf rules value side codes → HasNoForbid rules side →
    TableMeansExactly rules value side codes
table_exactly rules value side codes table none = record {
  drawn = λ drawn. exact_where_drawn rules value side codes table none drawn;
  decided = λ exits decided. exact_where_decided rules value side codes table none exits decided;
  bound = λ p b member e. (
      let stored = stored_bound rules value side codes table p member in
      bound_exactly rules value side none p member b
      (subst (λ (x : Bound). IsBoundAt rules value side p x)
      (codes_differ stored.0 b (sym stored.1 ∙ e)) stored.2));
}
