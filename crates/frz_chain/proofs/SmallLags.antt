-- The values of a chain have small lags.
use Rattle.std.proofs.Common.{◌≤◌, ℕ, Option, Some, None, arith}
use Rattle.std.specs.Prelude.{slice_index}
use Rattle.frz_sets.specs.declared.exit.Value.{Value}
use Rattle.frz_sets.specs.Views.{RuleLines}
use Rattle.frz_sets.specs.Sound.{IsSound}
use Rattle.frz_exits.specs.Books.{value_by}
use Rattle.frz_exits.specs.Values.{lag_of}
use Rattle.frz_exits.proofs.Lemmas.{small_values}
use Rattle.frz_game.specs.SmallLags.{HasSmallLags}
use Rattle.frz_index.specs.Membership.{number_of}
use Rattle.frz_chain.specs.Books.{Back, back_value, chain_value, told_at}
use Rattle.frz_chain.proofs.Pairs.{holds_of_pair_value}
use Rattle.frz_chain.proofs.Told.{holds_of_either_value}

-- two codes tell no number
pub told_small : (back : Back) (o : Option ℕ) → lag_of (told_at back o) ≤ 1000
told_small back None = omega arith
told_small back (Some i) =
    holds_of_pair_value (λ (v : Value). lag_of v ≤ 1000) (slice_index back.white i)
    (slice_index back.black i)
    (λ _. omega arith) (λ _. omega arith) (λ _ _. omega arith) (λ _. omega arith) (λ _. omega arith)
    (omega arith)

pub chain_small : (rules : RuleLines) (back : Back) → IsSound rules
    → HasSmallLags (chain_value rules back)
chain_small rules back sound q valid =
    holds_of_either_value (λ (v : Value). lag_of v ≤ 1000) (value_by rules q) (back_value back q)
    (small_values rules sound q)
    (told_small back (number_of back.groups q))
