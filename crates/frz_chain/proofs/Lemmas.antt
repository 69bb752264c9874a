-- The lemmas that the crates above cite.
pub use Rattle.frz_chain.proofs.ChainPlies.{chain_within}
pub use Rattle.frz_chain.proofs.Chained.{file_on_there}
pub use Rattle.frz_chain.proofs.DecidedBacks.{back_decides, chain_decided, first_decides}
pub use Rattle.frz_chain.proofs.ExactBacks.{all_if_exact, judged_exact}
pub use Rattle.frz_chain.proofs.Pairs.{holds_of_pair_value, win_told}
pub use Rattle.frz_chain.proofs.SmallLags.{chain_small, told_small}
pub use Rattle.frz_chain.proofs.TablePlies.{ExitsForced, Forced, back_forced, exit_forced, forced_later, own_forced, table_forced, unknown_forced, win_forced}
pub use Rattle.frz_chain.proofs.Told.{holds_of_either_value, number_below, number_inside, number_outside}
pub use Rattle.frz_chain.proofs.TrueValues.{back_true, chained_true}
pub use Rattle.frz_chain.proofs.Transfer.{tells_chess, true_tells}
pub use Rattle.frz_build.proofs.Lemmas.{builds_after, costs_added, costs_kept, quiet_same, still_held}
pub use Rattle.frz_game.proofs.Lemmas.{stored_bound, true_exits, win_code}
