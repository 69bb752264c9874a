-- The text of king and rook against king is read as those rules, and its table is exact in chess;
-- and the text is read in which White renounces all moves but two of the rook's.
use Rattle.std.proofs.Common.{◌≡◌, ℕ, List, refl, subst}
use Rattle.std.specs.Prelude.{Ok}
use Rattle.frz_board.specs.declared.man.Colour.{Colour}
use Rattle.frz_exits.specs.Books.{value_by}
use Rattle.frz_rules.specs.Text.{rules_of}
use Rattle.frz_sets.specs.Views.{RuleLines}
use Rattle.frz_game.specs.Bounds.{IsTableOf}
use Rattle.frz_game.specs.ExactTables.{IsExactInChess}
use Rattle.frz_game.specs.KingAndRook.{king_and_rook}
use Rattle.frz_game.specs.RenouncedRook.{renounced_rook}
use Rattle.frz_game.proofs.Lemmas.{rook_exact}
use Rattle.frz_worked.specs.RookText.{rook_text, two_squares_text}
use Rattle.frz_worked.proofs.ReadTexts.{read_text, same_rules}

pub two_squares_read : rules_of two_squares_text ≡ Ok renounced_rook
unfolding read_text two_squares_text
two_squares_read = refl

pub rook_read : rules_of rook_text ≡ Ok king_and_rook
unfolding read_text rook_text
rook_read = refl

pub rook_table : (rules : RuleLines) → rules_of rook_text ≡ Ok rules → (side : Colour)
    (codes : List ℕ) → IsTableOf rules (value_by rules) side codes →
    IsExactInChess rules side codes
rook_table rules read =
    subst (λ (r : RuleLines). (side : Colour) (codes : List ℕ) →
    IsTableOf r (value_by r) side codes → IsExactInChess r side codes)
    (same_rules (rules_of rook_text) king_and_rook rules rook_read read) rook_exact
