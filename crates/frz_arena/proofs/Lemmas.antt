-- The lemmas that the crates above use.
pub use Rattle.frz_arena.proofs.Bounds.BoundsExist.{win_plies_few, failure_plies_few}
pub use Rattle.frz_arena.proofs.LocalCodes.ChosenCodes.{from_kept, win_and_failure, win_of, failure_more}
pub use Rattle.frz_arena.proofs.LocalCodes.CodesByPlies.{AreCodes}
pub use Rattle.frz_arena.proofs.Forcing.HoldsSafe.{forced_fails}
pub use Rattle.frz_arena.proofs.Forcing.LawfulGame.{game_is_lawful}
pub use Rattle.frz_arena.proofs.Lists.FirstOnes.{at_in, first_there, one_first}
pub use Rattle.frz_arena.proofs.Lists.Members.{none_in_empty, first_in, later_in, cases_Option, in_cases}
pub use Rattle.frz_arena.proofs.Plies.NeverBoth.{never_both}
pub use Rattle.frz_arena.proofs.Names.NumberedGames.{going, inside}
pub use Rattle.frz_arena.proofs.Names.NumbersAreNames.{numbered_is, numbers_lawful}
pub use Rattle.frz_arena.proofs.Bounds.OneBound.{
  one_bound,
  opposed_bounds,
  codes_of_bounds,
  bounds_are_codes,
  broken_never_wins,
  broken_never_fails,
  codes_differ,
}
pub use Rattle.frz_arena.proofs.LocalCodes.OnePly.{TellBefore, broken_of_code, local_tells}
pub use Rattle.frz_arena.proofs.Tables.OneTable.{
  exact_is_table,
  table_is_exact,
  plies_small,
  one_table,
}
pub use Rattle.frz_arena.proofs.Plies.Opposed.{wins_later, fails_later}
pub use Rattle.frz_arena.proofs.LocalCodes.PlyCodes.{from_mapped, at_broken}
pub use Rattle.frz_arena.proofs.Plies.Stable.{wins_stay, fails_stay}
pub use Rattle.frz_arena.proofs.Tables.TablesExist.{table_exists}
pub use Rattle.frz_arena.proofs.Forcing.TrueWins.{wins_mates, wins_mates_in}
pub use Rattle.frz_arena.proofs.LocalCodes.UniqueCodes.{
  none,
  hold,
  win,
  failure,
  code_is,
  as_win,
  as_failure,
  codes_meet,
}
pub use Rattle.frz_arena.proofs.Forcing.OneForces.{one_forces}
pub use Rattle.frz_arena.proofs.Forcing.WinsForced.{forces_later, mated_by, goes, wins_forces}
pub use Rattle.frz_arena.proofs.Ways.Stages.{IsSound, StageIs, stage_is}
pub use Rattle.frz_arena.proofs.Ways.FoundArms.{found_at, small_is_no_failure, win_is_no_failure}
pub use Rattle.frz_arena.proofs.Ways.FoundChoices.{choice_is_arm}
pub use Rattle.frz_arena.proofs.Ways.Reaching.{
  Reaches,
  reaches_start,
  reaches_end,
  reaches_stop,
  reaches_exit,
  reaches_more,
  ply_here,
  next_in_line,
  line_left,
  IsFew,
  chosen_here,
  few_after,
  left_after,
  few_fits,
}
pub use Rattle.frz_arena.proofs.Ways.Counted.{
  counted_lawful,
  counted_closed,
  counted_turns,
  counted_next,
  counted_codes,
  counted_local,
  right_reader,
  reader_moves,
  safe_reader,
}
pub use Rattle.frz_arena.proofs.Ways.OneWay.{one_chosen}
pub use Rattle.frz_arena.proofs.Forcing.NeverByPositions.{never_by}
pub use Rattle.frz_arena.proofs.Exactness.ExactWins.{
  exact_win,
  exact_least,
  more_wins_mate,
}
pub use Rattle.frz_arena.proofs.Exactness.ExactFailures.{
  exact_failure,
  exact_hold,
  exact_failure_least,
  fails_forced,
}
pub use Rattle.frz_arena.proofs.Comparing.Agreeing.{true_wins, true_holds}
pub use Rattle.frz_arena.proofs.Exactness.Decided.{decided_wins, decided_losses, none_won}
