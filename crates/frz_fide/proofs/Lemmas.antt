-- The lemmas on legal moves that other crates cite.
pub use Rattle.frz_fide.proofs.Cells.{cell_then}
pub use Rattle.frz_fide.proofs.CellsAfter.{cell_there, enemy, lf, mover, takes}
pub use Rattle.frz_fide.proofs.Colours.{own_colour, same_side}
pub use Rattle.frz_fide.proofs.Different.{same_move, same_parts}
pub use Rattle.frz_fide.proofs.LegalParts.{Move, facts}
pub use Rattle.frz_fide.proofs.Listed.{listed, only_legal, sorted, legal_at}
pub use Rattle.frz_fide.proofs.NoKingTaken.{no_king_there}
pub use Rattle.frz_fide.proofs.PawnsKept.{pawn_tests}
pub use Rattle.frz_fide.proofs.Room.{few}
pub use Rattle.frz_fide.proofs.Standing.{
  others_by,
  after_at,
  apart,
  arrived,
  arrived_own,
  arrives_own,
  beside_apart,
  left,
  on_board,
  stays_by,
  taken,
}
pub use Rattle.frz_fide.proofs.StaysValid.{valid_after, valid_then}
pub use Rattle.frz_fide.proofs.Targets.{goes_somewhere}
pub use Rattle.frz_fide.proofs.KingGoes.{same_tests}
pub use Rattle.frz_fide.proofs.InWords.{straight_no_taking}
pub use Rattle.frz_fide.proofs.Bare.{Came, stayed, moved, came, no_bare_check, stays_bare, stays_minor, same_man}
pub use Rattle.frz_fide.proofs.MinorMates.{no_minor_mate, bare_by_counts, minor_by_counts, bare_is_minor, one_place, man_counted, one_of, is_king_or_not, kings_are}
pub use Rattle.frz_fide.proofs.CountsKept.{counts_fall}
pub use Rattle.frz_bits.proofs.Lemmas.{count_by_squares, men_counted}
