-- The lemmas that the crates above cite.
pub use Rattle.frz_atlas_prelude.proofs.FaultEnds.{AnswersAt, MayEndAt, ended_at}
pub use Rattle.frz_atlas_prelude.proofs.HeldNames.{
  as_many_as_names,
  first_differs_from_others,
  judged_exact,
  judged_over,
  may_hold_there,
  not_contained,
  place_below,
  without_second,
}
pub use Rattle.frz_atlas_prelude.proofs.OwnRefused.{own_refused_means}
pub use Rattle.frz_atlas_prelude.proofs.HeldTable.{Holds, apart_names_hold}
pub use Rattle.frz_atlas_prelude.proofs.BackRefused.{back_line_not_empty, result_is_not_both}
pub use Rattle.frz_atlas_prelude.proofs.SmallPlaces.{place_refused, small_refused, small_unopened, small_unread, unopened_behind}
pub use Rattle.frz_atlas_prelude.proofs.TablesOnce.{
  AllFound,
  all_exact,
  all_found,
  never_refused,
  one_place,
  one_refused,
  one_tables,
  with_table,
}
pub use Rattle.frz_atlas_prelude.proofs.Over.{means_over, one_over, over_held, refusal_says, some_over}
pub use Rattle.frz_atlas_prelude.proofs.Unread.{OpensTables, unread_ran, within_held}
pub use Rattle.frz_atlas_prelude.proofs.NamesTaken.{ran_named, ran_refused}
pub use Rattle.frz_atlas_prelude.proofs.WordsAsked.{asked_lawful, ran_asked, ran_unasked}
pub use Rattle.frz_atlas_prelude.proofs.WordsGiven.{given_lawful, ran_given, ran_ungiven}
pub use Rattle.frz_atlas_prelude.proofs.RulesRead.{bytes_to_read, calls_to_read, holds_rules, spent_by_files}
pub use Rattle.frz_atlas_prelude.proofs.RulesAnswered.{held_rules, not_refused, one_refusal, some_answer}
pub use Rattle.frz_atlas.proofs.Lemmas.{kept_backs}
