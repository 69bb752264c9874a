-- The lemmas that the crates above cite.
pub use Rattle.frz_prelude.proofs.Held.{Holding, holding, of_rules}
pub use Rattle.frz_prelude.proofs.NamedRules.{read_named, refused_named, some_named}
pub use Rattle.frz_prelude.proofs.OpenedTables.{
  by_table_status,
  table_cause,
  table_own,
}
pub use Rattle.frz_prelude.proofs.RefusedTables.{
  bytes_status,
  refused_means,
  stop_own,
  stops_by,
}
pub use Rattle.frz_prelude.proofs.Positions.{as_read, fen_lawful}
pub use Rattle.frz_prelude.proofs.Stopping.{
  MayStop,
  StopsWith,
  ended,
  file_said,
  found_where,
  may_stop,
  refusal_said,
  some_refusal,
}
pub use Rattle.frz_prelude.proofs.UnlessSame.{calls_store}
pub use Rattle.frz_prelude.proofs.Replying.{
  no_memory_reply,
  not_written_reply,
  refused_reply,
  replied,
  said_reply,
  stopped_reply,
  through_reply,
  wrote_reply,
}
pub use Rattle.frz_prelude.proofs.Taking.{
  at_position,
  differ,
  no_position,
  not_taken,
  same_name,
  taken,
  these_words,
}
