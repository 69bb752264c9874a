-- The plies of a chain.
use Rattle.frz_board.specs.Boards.{Board}
use Rattle.frz_board.specs.declared.man.Colour.{Colour}
use Rattle.frz_sets.specs.declared.exit.Value.{Value}
use Rattle.frz_sets.specs.Views.{RuleLines}
use Rattle.frz_exits.specs.Books.{value_by}
use Rattle.frz_chain.specs.Books.{Back, back_value, chain_value}
use Rattle.frz_chain.specs.ChainPlies.{MatesOnBack}
use Rattle.frz_chain.specs.FileOn.{IsExactBack}
use Rattle.frz_chain.proofs.TablePlies.{Forced, back_forced, own_forced, win_forced}
use Rattle.frz_chain.proofs.Told.{holds_of_either_value}

pub chain_within : (rules backs : RuleLines) (value : Board → Value) (back : Back)
    → IsExactBack backs value back → (side : Colour) → MatesOnBack rules backs value back side
chain_within rules backs value back exact side own others own_numbered numbered most short n p b =
    win_forced rules (chain_value rules back) side most
    (λ q x. holds_of_either_value (Forced side most q) (value_by rules q) (back_value back q)
    (own_forced rules (chain_value rules back) side own own_numbered most q x)
    (back_forced backs value back exact others side numbered most short q))
    n p b
