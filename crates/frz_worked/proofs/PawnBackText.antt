-- The texts of king and pawn and of what the pawn may become are read as those rules, and the table
-- of the second is exact in chess.
use Rattle.std.proofs.Common.{◌≡◌, ◌≢◌, ℕ, inl, inr, true, List, [], ◌∷◌, refl, subst, ◌∙◌, arith}
use Rattle.std.specs.Prelude.{Ok}
use Rattle.std.specs.List.{Contains}
use Rattle.frz_board.specs.declared.man.Colour.{Colour}
use Rattle.frz_board.specs.declared.man.Kind.{Kind}
use Rattle.frz_board.specs.declared.man.Kind.TheVariants.{King, Queen, Rook, Bishop, Knight, Pawn}
use Rattle.frz_arena.proofs.Lemmas.{none_in_empty, in_cases}
use Rattle.frz_exits.specs.Books.{value_by}
use Rattle.frz_rules.specs.Text.{rules_of}
use Rattle.frz_sets.specs.Views.{RuleLines}
use Rattle.frz_game.specs.Bounds.{IsTableOf}
use Rattle.frz_game.specs.ExactTables.{IsExactInChess}
use Rattle.frz_game.specs.KingAndPawn.{king_and_pawn, pawn_back}
use Rattle.frz_game.specs.MenAlone.{IsDrawnOutside}
use Rattle.frz_game.specs.TextsByMen.{are_drawn_by_men}
use Rattle.frz_game.specs.WholeSets.{IsWholeSet, by_king, by_none}
use Rattle.frz_game.proofs.Lemmas.{whole_set_drawn, exact_where_drawn}
use Rattle.frz_worked.specs.WorkedTexts.{pawn_text, pawn_back_text}
use Rattle.frz_worked.proofs.ReadTexts.{read_text, same_rules}

pub pawn_back_read : rules_of pawn_back_text ≡ Ok pawn_back
unfolding read_text pawn_back_text
pawn_back_read = refl

pub pawn_read : rules_of pawn_text ≡ Ok king_and_pawn
unfolding read_text pawn_text
pawn_read = refl

-- each of these kinds is no pawn
no_kind : (k : Kind) → Contains [] k → k ≢ Pawn
no_kind k i e = none_in_empty k i

one_more : (j : Kind) (kinds : List Kind) → j ≢ Pawn →
    ((k : Kind) → Contains kinds k → k ≢ Pawn) → (k : Kind) → Contains (j ∷ kinds) k → k ≢ Pawn
one_more j kinds n rest k i e =
    elim (in_cases j kinds k i) [
      | inl same ↦ n (same ∙ e)
      | inr later ↦ rest k later e
    ]

pawn_back_is_whole : IsWholeSet pawn_back
pawn_back_is_whole = record {
  groups = (
    (
      record {
        kinds = King ∷ [];
        states = refl;
        no_pawn = one_more King [] (λ e. cc) no_kind;
      },
      by_king refl (omega arith),
    ),
    (
      (
        record {
          kinds = Queen ∷ Rook ∷ Bishop ∷ Knight ∷ [];
          states = refl;
          no_pawn = one_more Queen (Rook ∷ Bishop ∷ Knight ∷ []) (λ e. cc)
              (one_more Rook (Bishop ∷ Knight ∷ []) (λ e. cc)
              (one_more Bishop (Knight ∷ []) (λ e. cc) (one_more Knight [] (λ e. cc) no_kind)));
        },
        by_none refl,
      ),
      (
        (
          record {
            kinds = King ∷ [];
            states = refl;
            no_pawn = one_more King [] (λ e. cc) no_kind;
          },
          by_king refl (omega arith),
        ),
        tt,
      ),
    ),
  );
}

no_line : are_drawn_by_men pawn_back ≡ true
unfolding are_drawn_by_men
no_line = refl

pub pawn_back_drawn : IsDrawnOutside pawn_back (value_by pawn_back)
pawn_back_drawn = whole_set_drawn pawn_back pawn_back_is_whole no_line

pub pawn_back_table : (rules : RuleLines) → rules_of pawn_back_text ≡ Ok rules → (side : Colour)
    (codes : List ℕ) → IsTableOf rules (value_by rules) side codes →
    IsExactInChess rules side codes
pawn_back_table rules read =
    subst (λ (r : RuleLines). (side : Colour) (codes : List ℕ) →
    IsTableOf r (value_by r) side codes → IsExactInChess r side codes)
    (same_rules (rules_of pawn_back_text) pawn_back rules pawn_back_read read)
    (λ side codes table. exact_where_drawn pawn_back (value_by pawn_back) side codes table refl
    pawn_back_drawn)
