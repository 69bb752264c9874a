-- A table of king and pawn over one of what the pawn may become has the outcomes of chess.
use Rattle.std.proofs.Common.{◌≡◌, ℕ, inr, List, refl, subst}
use Rattle.std.specs.Prelude.{Ok}
use Rattle.frz_board.specs.declared.man.Colour.{Colour}
use Rattle.frz_board.specs.declared.man.Colour.TheVariants.{White, Black}
use Rattle.frz_sets.specs.Views.{RuleLines}
use Rattle.frz_exits.specs.Books.{value_by}
use Rattle.frz_rules.specs.Text.{rules_of}
use Rattle.frz_game.specs.Bounds.{IsTableOf}
use Rattle.frz_game.specs.ExactTables.{HasExactOutcomes}
use Rattle.frz_game.specs.KingAndPawn.{king_and_pawn, pawn_back}
use Rattle.frz_game.specs.TextsByMen.{are_true_by_men}
use Rattle.frz_game.specs.Values.{AreTrueExits}
use Rattle.frz_game.proofs.Lemmas.{exits_by_men, text_by_men, drawn_decided, exact_where_decided, leads_into_back}
use Rattle.frz_chain.specs.Books.{Back, chain_value}
use Rattle.frz_chain.specs.FileOn.{IsExactBack}
use Rattle.frz_chain.proofs.Lemmas.{chained_true, chain_decided}
use Rattle.frz_worked.specs.WorkedTexts.{pawn_text, pawn_back_text}
use Rattle.frz_worked.proofs.PawnBackText.{pawn_read, pawn_back_read, pawn_back_drawn}
use Rattle.frz_worked.proofs.ReadTexts.{same_rules}

pawn_exits : AreTrueExits king_and_pawn (value_by king_and_pawn)
unfolding are_true_by_men
pawn_exits = exits_by_men king_and_pawn (value_by king_and_pawn) (text_by_men king_and_pawn refl)

back_exits : AreTrueExits pawn_back (value_by pawn_back)
unfolding are_true_by_men
back_exits = exits_by_men pawn_back (value_by pawn_back) (text_by_men pawn_back refl)

back_outcomes : (side : Colour) (codes : List ℕ) →
    IsTableOf pawn_back (value_by pawn_back) side codes → HasExactOutcomes pawn_back side codes
back_outcomes side codes table =
    exact_where_decided pawn_back (value_by pawn_back) side codes table refl back_exits
    (drawn_decided pawn_back (value_by pawn_back) pawn_back_drawn)

over_back : (back : Back) → IsExactBack pawn_back (value_by pawn_back) back → (side : Colour)
    (codes : List ℕ) → IsTableOf king_and_pawn (chain_value king_and_pawn back) side codes →
    HasExactOutcomes king_and_pawn side codes
over_back back exact side codes table =
    exact_where_decided king_and_pawn (chain_value king_and_pawn back) side codes table refl
    (chained_true king_and_pawn pawn_back (value_by pawn_back) back exact pawn_exits back_exits)
    (chain_decided king_and_pawn pawn_back (value_by pawn_back) back exact
    (back_outcomes White back.white exact.white) (back_outcomes Black back.black exact.black)
    (λ q x. inr (refl, leads_into_back (chain_value king_and_pawn back) q x)))

-- what is said of rules and of the rules behind them
abbrev Said : RuleLines → RuleLines → Type 0
Said rules backs =
    (back : Back) → IsExactBack backs (value_by backs) back → (side : Colour) (codes : List ℕ) →
    IsTableOf rules (chain_value rules back) side codes → HasExactOutcomes rules side codes

pub pawn_over_back : (rules backs : RuleLines) → rules_of pawn_text ≡ Ok rules →
    rules_of pawn_back_text ≡ Ok backs → Said rules backs
pawn_over_back rules backs read back_read =
    subst (λ (r : RuleLines). Said r backs)
    (same_rules (rules_of pawn_text) king_and_pawn rules pawn_read read)
    (subst (λ (b : RuleLines). Said king_and_pawn b)
    (same_rules (rules_of pawn_back_text) pawn_back backs pawn_back_read back_read) over_back)
