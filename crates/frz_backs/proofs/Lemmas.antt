-- The lemmas that the crates above cite.
pub use Rattle.frz_backs.proofs.DecidedTables.{tables_decide}
pub use Rattle.frz_backs.proofs.DecidingLines.{GivesValue, get_dropped, line_gives, no_line_gives, place_below}
pub use Rattle.frz_backs.proofs.ExactOver.{outcomes_over}
pub use Rattle.frz_backs.proofs.FirstValue.{asked_behind, first_of, front_tells, holds_of_atlas_value, lines_alone, none_tell, own_or_told}
pub use Rattle.frz_backs.proofs.LinkPlies.{mates_through, mates_within}
pub use Rattle.frz_backs.proofs.LoadedTables.{loaded_backs}
pub use Rattle.frz_backs.proofs.Numbered.{IsNumbered, atlas_numbered, over_numbered, same_exit}
pub use Rattle.frz_backs.proofs.OwnLines.{lines_numbered, own_numbered}
pub use Rattle.frz_backs.proofs.SmallLags.{atlas_small, counted_lines, counted_side, first_small, over_small, side_counted}
pub use Rattle.frz_backs.proofs.Told.{holds_with_plies, number_inside, number_outside, or_unknown, told_class}
pub use Rattle.frz_backs.proofs.Transfer.{codes_tell}
pub use Rattle.frz_backs.proofs.TrueTables.{AllTellTrue, TellsTrue, counted_before, each_tells, exits_over_true, first_true, link_exits_true, link_true, none_tells, over_true, plies_back, table_of, tables_true}
pub use Rattle.frz_chain.proofs.Lemmas.{builds_after, costs_added, costs_kept, quiet_same, still_held}
