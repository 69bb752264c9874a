-- What the codes of a table over several others say of chess, where all exit lines are true.
use Rattle.std.proofs.Common.{ℕ, List}
use Rattle.frz_board.specs.declared.man.Colour.{Colour}
use Rattle.frz_sets.specs.Views.{RuleLines}
use Rattle.frz_chain.specs.Bounds.{IsTableOf}
use Rattle.frz_chain.specs.Values.{AreTrueExits}
use Rattle.frz_chain.specs.Transfer.{TellsChess}
use Rattle.frz_chain.proofs.Lemmas.{true_tells}
use Rattle.frz_backs.specs.Links.{AreExact, AreTrueLines, Link, backs_of}
use Rattle.frz_backs.specs.Values.{atlas_value, own_value}
use Rattle.frz_backs.proofs.TrueTables.{exits_over_true}

pub codes_tell : (rules : RuleLines) (links : List Link) → AreExact links → AreTrueLines links →
    AreTrueExits rules (own_value rules (backs_of links)) → (side : Colour) (codes : List ℕ) →
    IsTableOf rules (atlas_value rules (backs_of links)) side codes →
    TellsChess rules (atlas_value rules (backs_of links)) side codes
codes_tell rules links exact lines own side codes table =
    true_tells rules (atlas_value rules (backs_of links))
    (exits_over_true rules links exact lines own) side codes table
