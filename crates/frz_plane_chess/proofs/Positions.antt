-- The position of a number is the one that its kings make on the board of its configuration.
use Rattle.std.proofs.Common.{◌≡◌, ℕ, inl, inr, None, subst}
use Rattle.frz_board.specs.Boards.{Board}
use Rattle.frz_sets.specs.Sound.{IsSound}
use Rattle.frz_sets.specs.Views.{RuleLines}
use Rattle.frz_arena.proofs.Lemmas.{cases_Option}
use Rattle.frz_index.specs.Members.{HasNumber, Member}
use Rattle.frz_index.specs.Membership.{position_at}
use Rattle.frz_index.proofs.Lemmas.{position_tells}
use Rattle.frz_configurations.specs.Configurations.{IsSplit}
use Rattle.frz_king_planes.specs.Kings.{with_kings}
use Rattle.frz_kingless.specs.Boards.{IsBoardOf}
use Rattle.frz_kingless.proofs.Lemmas.{are_empty, has_number, is_that}
use Rattle.frz_plane_arms.specs.Arms.{MakesMember}
use Rattle.frz_plane_chess.proofs.Placing.{on_board}

module _ (r : RuleLines) (p : Board) (i c a b : ℕ) (sound : IsSound r)
    (board : IsBoardOf r.groups c p) (split : IsSplit r.groups i c a b) where
  pub made : MakesMember r.groups p a b → HasNumber r.groups i (with_kings p a b)
  made m =
      has_number p a b board.fits.size m.white m.black m.free m.member.valid r i c sound board split

  pub is_made : (q : Board) → HasNumber r.groups i q → q ≡ with_kings p a b
  is_made q h = is_that r q i c a b sound split h p board

  pub makes : (q : Board) → HasNumber r.groups i q → MakesMember r.groups p a b
  makes q h =
      let on = on_board r i c a b sound split in
      record {
        white = on.0;
        black = on.1;
        free = are_empty r q i c a b sound split h p board;
        member = subst (λ (x : Board). Member r.groups x) (is_made q h) h.member;
      }

  pub none_there : (MakesMember r.groups p a b → ⊥) → position_at r.groups i ≡ None
  none_there none =
      elim (cases_Option (position_at r.groups i)) [
        | inl e ↦ e
        | inr some ↦ absurd (none (makes some.0 (position_tells r.groups i some.0 some.1)))
      ]
