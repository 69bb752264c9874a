use Rattle.std.proofs.Common.{◌≡◌, ◌<◌, ℕ, List, [], get_or, length}
use Rattle.frz_sets.specs.Views.{ExitLine}
use Rattle.frz_backs.specs.Links.{Link}
use Rattle.frz_premises.specs.declared.trial.Trial.{Trial}
use Rattle.frz_premises.specs.Trials.{IsTried}
use Rattle.frz_premises.proofs.premises.begin.Given as goal

-- the lines before this one have begun
abbrev pub invariant-loop-line : goal.invariant-loop-line
invariant-loop-line l = record {
  many : length l.trials.items ≡ l.line-index;
  each : (links : List Link) → length links ≡ l.tables → (k : ℕ) (line : ExitLine)
      (trial : Trial) → k < l.line-index →
      IsTried links (get_or l.lines k line) [] (get_or l.trials.items k trial);
}
