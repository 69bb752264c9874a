use Rattle.frz_board.specs.declared.man.Colour.TheVariants.{White}
use Rattle.frz_exits.specs.Books.{value_by}
use Rattle.frz_game.proofs.Lemmas.{longest_mate}
use Rattle.frz_worked.proofs.RookText.{rook_read, rook_table}
use Rattle.frz_worked.proofs.laws.king_and_rook_text.Goals as goal

pub returns-clause-read : goal.returns-clause-read
returns-clause-read c = rook_read

pub returns-clause-exact : goal.returns-clause-exact
returns-clause-exact c = rook_table

pub returns-clause-longest : goal.returns-clause-longest
returns-clause-longest c rules read codes table p n member e few =
    longest_mate rules (value_by rules) White codes table (rook_table rules read White codes table)
    p n member e few
