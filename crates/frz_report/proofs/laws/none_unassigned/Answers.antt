use Rattle.frz_exits.specs.Books.{value_by}
use Rattle.frz_game.proofs.Lemmas.{drawn_text, exact_where_drawn}
use Rattle.frz_report.proofs.OpenExits.{none_counted}
use Rattle.frz_report.proofs.laws.none_unassigned.Goals as goal

pub returns-clause-closed : goal.returns-clause-closed
returns-clause-closed c rules value codes none = none_counted rules value none

pub returns-clause-exact : goal.returns-clause-exact
returns-clause-exact c rules codes drawn none side free table =
    exact_where_drawn rules (value_by rules) side (codes side) table free
    (drawn_text rules drawn (none_counted rules (value_by rules) none))
