-- The lemmas that the crates above use.
pub use Rattle.frz_commands_line.proofs.Behind.{Beginning, Splits, after_lines, cut_within, ended_as, rest_after}
pub use Rattle.frz_commands_line.proofs.Counting.{no_left, no_right}
pub use Rattle.frz_commands_line.proofs.KnownLine.{by_member, not_member}
pub use Rattle.frz_commands_line.proofs.Later.{any_later}
pub use Rattle.frz_commands_line.proofs.Lawful.{as_side, side_lawful}
pub use Rattle.frz_commands_line.proofs.OutsideSet.{outside_ran}
pub use Rattle.frz_commands_line.proofs.Stages.{is_part, once_is_not}
pub use Rattle.frz_commands_line.proofs.InputTaken.{lines_came, quiet_then, rest_left, unfailed_source}
