-- What the codes of a chained table say of chess, where the exit lines of both texts are true.
use Rattle.std.proofs.Common.{ℕ, List}
use Rattle.frz_board.specs.Boards.{Board}
use Rattle.frz_board.specs.declared.man.Colour.{Colour}
use Rattle.frz_sets.specs.declared.exit.Value.{Value}
use Rattle.frz_sets.specs.Views.{RuleLines}
use Rattle.frz_exits.specs.Books.{value_by}
use Rattle.frz_game.specs.Bounds.{IsTableOf}
use Rattle.frz_game.specs.Values.{AreTrueExits}
use Rattle.frz_game.proofs.Lemmas.{table_means}
use Rattle.frz_chain.specs.Books.{Back, chain_value}
use Rattle.frz_chain.specs.FileOn.{IsExactBack}
use Rattle.frz_chain.specs.Transfer.{TellsChess}
use Rattle.frz_chain.proofs.TrueValues.{chained_true}

-- where the values of the exits are true, codes tell of chess what TellsChess states of wins and
-- holds
pub true_tells : (rules : RuleLines) (value : Board → Value) → AreTrueExits rules value
    → (side : Colour) (codes : List ℕ) → IsTableOf rules value side codes
    → TellsChess rules value side codes
true_tells rules value exits side codes table =
    let means = table_means rules value side codes table in
    record {
      win_mates = λ p n member e. (means.win p n member e).mate exits;
      win_within = λ all p n member e. (means.win p n member e).within exits all;
      win_safe = λ p n member e. (means.win p n member e).safe exits;
      hold_safe = λ p member e. means.hold p member e exits;
    }

pub tells_chess : (rules backs : RuleLines) (back : Back) → IsExactBack backs (value_by backs) back
    → AreTrueExits rules (value_by rules) → AreTrueExits backs (value_by backs)
    → (side : Colour) (codes : List ℕ) → IsTableOf rules (chain_value rules back) side codes
    → TellsChess rules (chain_value rules back) side codes
tells_chess rules backs back exact own others side codes table =
    true_tells rules (chain_value rules back)
    (chained_true rules backs (value_by backs) back exact own others) side codes table
