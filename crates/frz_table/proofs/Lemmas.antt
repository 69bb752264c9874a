-- The lemmas that the crates above use.
pub use Rattle.frz_table.proofs.Belonging.{belongs, opens_by}
pub use Rattle.frz_table.proofs.CodesOver.{black_by, keep_by, load_asked, load_calls, loaded_as, outside_by, sizes_by, white_by}
pub use Rattle.frz_table.proofs.Drawn.{asked_bound_by, asked_by, asked_told_by, calls_by, carried_by, may_open_by, may_refuse_by, memory_by, opened_by, outside_refuses, refused_by}
pub use Rattle.frz_table.proofs.Files.{loaded_is_written, written_belongs, written_is_loaded}
pub use Rattle.frz_table.proofs.Following.{fine_after, quiet_after}
pub use Rattle.frz_table.proofs.HandedOn.{handed_on, refused_as}
pub use Rattle.frz_table.proofs.HeldFiles.{held_bytes, same_held, text_bytes, text_kept}
pub use Rattle.frz_table.proofs.KeptFiles.{IsHead, file_bytes, magic_bytes, magic_long, read_short, short_bytes}
pub use Rattle.frz_table.proofs.NumberLists.{length-numbers}
pub use Rattle.frz_table.proofs.OpeningCalls.{loading_calls, one_call, opened_calls}
pub use Rattle.frz_table.proofs.OpeningRuns.{no_name, no_text, not_ruled, opens, other_size}
pub use Rattle.frz_table.proofs.Refusing.{opened_missing}
pub use Rattle.frz_table.proofs.Stops.{causes_by}
