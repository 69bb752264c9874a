use Rattle.frz_board.specs.declared.man.Colour.TheVariants.{White, Black}
use Rattle.frz_game.proofs.Lemmas.{table_exactly}
use Rattle.frz_check.proofs.laws.exact_files.Goals as goal

pub returns-clause-white : goal.returns-clause-white
returns-clause-white c rules value magic text bytes file none =
    table_exactly rules value White file.white file.white_table none

pub returns-clause-black : goal.returns-clause-black
returns-clause-black c rules value magic text bytes file none =
    table_exactly rules value Black file.black file.black_table none
