-- The pairs of the numbers of a configuration are among those of the groups of kings.
use Rattle.std.proofs.Common.{◌≡◌, ℕ, ◌<◌, true, List, [], ap, ◌∙◌}
use Rattle.std.proofs.lemmas.Bool.{and_from}
use Rattle.frz_board.specs.declared.man.Colour.TheVariants.{White, Black}
use Rattle.frz_sets.specs.Sound.{IsSound}
use Rattle.frz_sets.specs.Views.{GroupLine, RuleLines}
use Rattle.frz_index.specs.Kept.{is_known}
use Rattle.frz_configurations.specs.Configurations.{IsSplit}
use Rattle.frz_planes.specs.Planes.{IsPlaneOf, has_pair}
use Rattle.frz_king_planes.specs.Kings.{king_cell}
use Rattle.frz_kingless.specs.Boards.{are_known}
use Rattle.frz_kingless.proofs.KingGroups.{king_known, king_on_board}
use Rattle.frz_kingless.proofs.KnownKings.{state_known}

-- the pairs of the same groups
pub of_groups : (gs hs : List GroupLine) (pairs : List ℕ) → gs ≡ hs →
    IsPlaneOf pairs (are_known gs) → IsPlaneOf pairs (are_known hs)
of_groups gs hs pairs e h a b la lb = h a b la lb ∙ ap (λ xs. are_known xs a b) e

module _ (r : RuleLines) (sound : IsSound r) (c : ℕ) (pairs : List ℕ)
    (are : IsPlaneOf pairs (are_known r.groups)) where
  pub on_white : (i a b : ℕ) → IsSplit r.groups i c a b → a < 64
  on_white i a b split =
      king_on_board White a [] r.groups split.ds sound.lines.groups split.white

  pub on_black : (i a b : ℕ) → IsSplit r.groups i c a b → b < 64
  on_black i a b split =
      king_on_board Black b [] r.groups split.ds sound.lines.groups split.black

  -- a number's pair is among those of the groups of kings
  pub split_known : (i a b : ℕ) → IsSplit r.groups i c a b → has_pair pairs a b ≡ true
  split_known i a b split =
      are a b (on_white i a b split) (on_black i a b split)
      ∙ and_from (is_known r.groups (king_cell White) a) (is_known r.groups (king_cell Black) b)
      (state_known White r.groups a (king_known White a r.groups split.ds split.white))
      (state_known Black r.groups b (king_known Black b r.groups split.ds split.black))
