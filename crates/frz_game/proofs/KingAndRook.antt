-- The table of king and rook against king is exact in chess.
use Rattle.std.proofs.Common.{◌≡◌, ◌≢◌, ℕ, zero, inl, inr, true, List, [], ◌∷◌, refl, ◌∙◌, arith}
use Rattle.std.specs.List.{Contains}
use Rattle.frz_board.specs.declared.man.Colour.{Colour}
use Rattle.frz_board.specs.declared.man.Kind.{Kind}
use Rattle.frz_board.specs.declared.man.Kind.TheVariants.{King, Rook, Pawn}
use Rattle.frz_board.specs.Squares.{squares}
use Rattle.frz_arena.proofs.Lemmas.{none_in_empty, in_cases}
use Rattle.frz_graph.specs.Books.{value_by}
use Rattle.frz_game.specs.Bounds.{IsTableOf}
use Rattle.frz_game.specs.ExactTables.{HasNoForbid, IsExactInChess}
use Rattle.frz_game.specs.KingAndRook.{king_and_rook}
use Rattle.frz_game.specs.MenAlone.{IsDrawnOutside}
use Rattle.frz_game.specs.TextsByMen.{are_drawn_by_men, leave_dead, leave_bare, leave_minor}
use Rattle.frz_game.specs.WholeSets.{IsWholeSet, by_king, by_line}
use Rattle.frz_game.proofs.ExactTables.{exact_where_drawn}
use Rattle.frz_game.proofs.WholeSets.{whole_set_drawn}

-- a single kind that is no pawn
one_kind : (j k : Kind) → j ≢ Pawn → Contains (j ∷ []) k → k ≢ Pawn
one_kind j k n i e =
    elim (in_cases j [] k i) [
      | inl same ↦ n (same ∙ e)
      | inr none ↦ none_in_empty k none
    ]

pub whole : IsWholeSet king_and_rook
unfolding squares
whole = record {
  groups = (
    (
      record { kinds = King ∷ []; states = refl; no_pawn = λ k. one_kind King k (λ e. cc) },
      by_king refl (omega arith),
    ),
    (
      (
        record { kinds = Rook ∷ []; states = refl; no_pawn = λ k. one_kind Rook k (λ e. cc) },
        by_line _ zero (zero, omega arith, refl) ((Rook, (zero, omega arith, refl), refl), tt)
            (omega arith),
      ),
      (
        (
          record { kinds = King ∷ []; states = refl; no_pawn = λ k. one_kind King k (λ e. cc) },
          by_king refl (omega arith),
        ),
        tt,
      ),
    ),
  );
}

drawn_by_men : are_drawn_by_men king_and_rook ≡ true
unfolding are_drawn_by_men leave_dead leave_bare leave_minor squares
drawn_by_men = refl

pub rook_drawn : IsDrawnOutside king_and_rook (value_by king_and_rook)
rook_drawn = whole_set_drawn king_and_rook whole drawn_by_men

no_forbid : (side : Colour) → HasNoForbid king_and_rook side
no_forbid side = refl

pub rook_exact : (side : Colour) (codes : List ℕ) →
    IsTableOf king_and_rook (value_by king_and_rook) side codes →
    IsExactInChess king_and_rook side codes
rook_exact side codes table =
    exact_where_drawn king_and_rook (value_by king_and_rook) side codes table (no_forbid side)
    rook_drawn
