use Rattle.frz_game.proofs.ExactBounds.{bound_exactly, table_exactly}
use Rattle.frz_game.proofs.laws.exactness.exact_where_free.Goals as goal

pub returns-clause-bound : goal.returns-clause-bound
returns-clause-bound c rules value side p b member h none =
    bound_exactly rules value side none p member b h

pub returns-clause-table : goal.returns-clause-table
returns-clause-table c rules value side codes table none =
    table_exactly rules value side codes table none
