use Rattle.std.proofs.Common.{◌≡◌, ◌<◌, ◌≤◌, ◌&&◌, ℕ, false, take, get_or}
use Rattle.std.specs.List.{list_any}
use Rattle.frz_backs.specs.BackTable.{BackTable as Table}
use Rattle.frz_backs.specs.Loaded.{link_loaded}
use Rattle.frz_premises.specs.Saying.{says_as_much}
use Rattle.frz_premises.proofs.trial.hear.Given as goal

-- the tables before this one were heard
abbrev pub invariant-loop-k : goal.invariant-loop-k
invariant-loop-k l = record {
  said : l.said
      ≡ list_any (λ back. says_as_much l.value (link_loaded back) l.q) (take l.k l.backs);
  heard : (j : ℕ) (back : Table) → j < l.k → get_or l.says j false
      ≡ (get_or l.fn.says j false
      && says_as_much l.value (link_loaded (get_or l.backs j back)) l.q);
  rest : (j : ℕ) → l.k ≤ j → get_or l.says j false ≡ get_or l.fn.says j false;
}
