-- The lemmas that the crates above use.
pub use Rattle.frz_game.proofs.Bounded.{
  exact_table,
  table_exact,
  table_there,
  table_one,
  plies_few,
  stored_bound,
  bound_there,
  hold_safe,
  win_safe,
}
pub use Rattle.frz_game.proofs.Graph.{lawful, graph_lawful, finite, arms_there}
pub use Rattle.frz_game.proofs.TrueValues.{true_exits}
pub use Rattle.frz_game.proofs.Meaning.{bound_means, wins_alone, code_means, table_means}
pub use Rattle.frz_game.proofs.MenAlone.{exits_by_men}
pub use Rattle.frz_game.proofs.DecidedExits.{exact_where_decided, drawn_decided}
pub use Rattle.frz_game.proofs.ExactBounds.{bound_exactly, table_exactly}
pub use Rattle.frz_game.proofs.ExactTables.{win_code, exact_where_drawn}
pub use Rattle.frz_game.proofs.TextsByMen.{text_by_men, drawn_text}
pub use Rattle.frz_game.proofs.WholeSets.{whole_set_drawn}
pub use Rattle.frz_game.proofs.KingAndRook.{rook_exact}
pub use Rattle.frz_game.proofs.KingAndPawn.{leads_into_back}
pub use Rattle.frz_game.proofs.LongestMate.{longest_mate}
pub use Rattle.frz_graph.proofs.Lemmas.{small_values}
