use Rattle.std.proofs.Common.{Bool, ◌≡◌, ◌<◌, ℕ, List, get_or, length}
use Rattle.frz_sets.specs.Views.{ExitLine, RuleLines}
use Rattle.frz_backs.specs.Links.{Link}
use Rattle.frz_premises.specs.declared.basis.Basis.{Basis}
use Rattle.frz_premises.specs.Bases.{basis_of}
use Rattle.frz_premises.specs.Trials.{AreTried}
use Rattle.frz_premises.specs.WaysOut.{outside_of}
use Rattle.frz_premises.proofs.premises.bases.Given as goal

-- what the lines before this one rest on
abbrev pub invariant-loop-trial : goal.invariant-loop-trial
invariant-loop-trial l = record {
  many : length l.bases.items ≡ l.trial-index;
  each : (leans : Bool) (rules : RuleLines) (links : List Link) →
      AreTried leans rules links (outside_of rules.groups) l.trials → (k : ℕ) (line : ExitLine)
      (basis : Basis) → k < l.trial-index →
      get_or l.bases.items k basis ≡ basis_of leans rules links k (get_or rules.exits k line);
}
