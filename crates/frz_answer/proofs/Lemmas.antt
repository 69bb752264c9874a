-- The lemmas that the crates above cite.
pub use Rattle.frz_answer.proofs.Calling.{as_taken, as_unless}
pub use Rattle.frz_answer.proofs.Coming.{bytes_came, came_on, quiet_came, text_came}
pub use Rattle.frz_answer.proofs.Ending.{
  Begun,
  Found,
  SaysAll,
  answered_over,
  as_given,
  refused,
  said,
  stopped,
}
pub use Rattle.frz_answer.proofs.Finishing.{outcome}
pub use Rattle.frz_answer.proofs.Following.{Follows, follows, lines_behind}
pub use Rattle.frz_answer.proofs.Lawful.{
  refused_lawful,
  one_answer,
  said_job,
  taking_lawful,
  unless_lawful,
}
pub use Rattle.frz_answer.proofs.Naming.{GivesName, SaysName, not_written, wrote_it}
pub use Rattle.frz_answer.proofs.Pieces.{
  failed_before,
  failed_behind,
  failed_first,
  failed_next,
  gave_up,
  took_behind,
  took_next,
  took_nothing,
  wrote_behind,
  wrote_next,
}
pub use Rattle.frz_answer.proofs.Stages.{IsStage, Stages, through}
pub use Rattle.frz_answer.proofs.Telling.{
  append_nothing,
  append_twice,
  drop_none,
  front_none,
  front_twice,
  left_twice,
  behind_said,
}
pub use Rattle.frz_answer.proofs.Worlds.{
  fine_same,
  fine_steps,
  fine_store,
  ok_fine,
  quiet_both,
  quiet_same,
  quiet_steps,
  quiet_store,
  refusal_rose,
}
