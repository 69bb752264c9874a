-- The lemmas that the crates above cite.
pub use Rattle.frz_premises.proofs.ManyTexts.{all_true, none_hold}
pub use Rattle.frz_premises.proofs.Needs.{all_tellable, believed_needs_belief}
pub use Rattle.frz_premises.proofs.RestingLines.{line_rests}
pub use Rattle.frz_premises.proofs.SideValues.{exact_outcomes, exact_wins, nothing_bad_where_exact, strong_side_is_decided}
pub use Rattle.frz_premises.proofs.TableWords.{all_prove, numbered_by}
pub use Rattle.frz_premises.proofs.Trying.{many_bases}
pub use Rattle.frz_premises.proofs.TrueLines.{line_true, none_holds, true_over, true_where}
pub use Rattle.frz_premises.proofs.UndecidedExits.{renounced_by, undecided_by, undecided_exit}
