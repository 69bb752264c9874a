-- The lemmas that the crates above cite.
pub use Rattle.frz_asks.proofs.Binding.{halt_first, memory_on, no_memory, ok_on, quiet_on, run_none, run_on, stop_first}
unfoldable pub use Rattle.frz_asks.proofs.Bounds.{Bounded}
pub use Rattle.frz_asks.proofs.Bounds.{bounded_bind, bounded_bytes, bounded_memory, bounded_more, ran_within}
pub use Rattle.frz_asks.proofs.Costs.{Costs, cost_bytes, cost_came, cost_first, cost_if, cost_if_first, cost_memory, cost_memory_first, cost_none, cost_refused, cost_size}
pub use Rattle.frz_asks.proofs.Covering.{covers, size_told, sized_on, told_over}
unfoldable pub use Rattle.frz_asks.proofs.Loops.{then_ok}
pub use Rattle.frz_asks.proofs.Loops.{bind_ok-assoc, calls-bind, fold_more, fold_none, fold_stop, over-bind, over-bind_ok, repeat_more, repeat_none, repeat_stop}
pub use Rattle.frz_asks.proofs.Over.{ran_over}
pub use Rattle.frz_asks.proofs.Reading.{bytes_then, either_then, memory_then, none_then, ok_then, reads_bind, size_then, tidy_bind, tidy_one}
