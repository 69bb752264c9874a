-- The lemmas on moves with kings put on a board that other crates cite.
pub use Rattle.frz_pair_moves.proofs.KingPairs.{Entry, black_on, entered_empty, entered_free, enters, entry, king_after, step_back, white_on}
pub use Rattle.frz_pair_moves.proofs.KingsGo.{black_after, black_legal, legal_black, legal_white, white_after, white_legal}
pub use Rattle.frz_pair_moves.proofs.MenMoved.{goes_from, legal_man, man_legal, moved_alike}
pub use Rattle.frz_pair_moves.proofs.Movers.{mover_is}
pub use Rattle.frz_pair_moves.proofs.Numbers.{numbered}
