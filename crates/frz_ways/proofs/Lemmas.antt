-- The lemmas that the crates above cite.
pub use Rattle.frz_ways.proofs.Alternating.{turn_after}
pub use Rattle.frz_ways.proofs.MoveChosen.{placed_is_contained}
pub use Rattle.frz_ways.proofs.WayFinished.{answer_input, answer_kind, ended_wrote, same_input}
pub use Rattle.frz_ways.proofs.CodesGathered.{gathered_codes_may_be_read}
pub use Rattle.frz_ways.proofs.Goings.{way_front}
pub use Rattle.frz_ways.proofs.CodesKept.{by_table, may_before}
pub use Rattle.frz_ways.proofs.WaySoFar.{stays_on}
pub use Rattle.frz_ways.proofs.Taking.{ends_itself, ends_on, held_whole, some_rest, took_none, took_on}
pub use Rattle.frz_ways.proofs.TurnWritten.{same_wrote, wrote_after}
pub use Rattle.frz_ways.proofs.Repeating.{same_tail}
pub use Rattle.frz_ways.proofs.Again.{again_later, again_is, fresh_more, none_again, place_of_old}
