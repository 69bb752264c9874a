-- The positions of the set that kings make on a board.
use Rattle.std.proofs.Common.{◌≡◌, ℕ, ◌<◌, true, List, length, length-set, slice_index, slice_set, refl, ap, sym, ◌∙◌, subst}
use Rattle.std.proofs.lemmas.Bool.{and_from, and_parts, eq-eqb}
use Rattle.std.proofs.lemmas.List.{set-get_or, set-set, set_comm}
use Rattle.frz_board.specs.declared.man.Colour.TheVariants.{White, Black}
use Rattle.frz_board.specs.Boards.{Board}
use Rattle.frz_fide.specs.Valid.{IsValid}
use Rattle.frz_sets.specs.Sound.{IsSound}
use Rattle.frz_sets.specs.Views.{RuleLines}
use Rattle.frz_index.specs.Kept.{is_known}
use Rattle.frz_index.specs.Members.{HasNumber, Member, Num}
use Rattle.frz_configurations.specs.Configurations.{IsSplit, configuration_of}
use Rattle.frz_configurations.proofs.Lemmas.{position_split}
use Rattle.frz_king_planes.specs.Kings.{are_free, king_cell, with_kings}
use Rattle.frz_king_planes.proofs.Lemmas.{Crowned, crowned}
use Rattle.frz_kingless.specs.Boards.{IsBoardOf, are_known}
use Rattle.frz_kingless.proofs.Emptied.{is_board}
use Rattle.frz_kingless.proofs.KingGroups.{king_known, member, split_there}
use Rattle.frz_kingless.proofs.KnownKings.{known_king, known_state, state_known}
use Rattle.frz_kingless.proofs.OnlyPosition.{same_board}

module _ (r : RuleLines) (p : Board) (a b : ℕ) (sound : IsSound r) (la : a < 64) (lb : b < 64)
    (free : are_free p a b ≡ true) (v : IsValid (with_kings p a b)) where
  abbrev q : Board
  q = with_kings p a b

  size : length p.cells ≡ 64
  size =
      sym (length-set (slice_set p.cells a (king_cell White)) b (king_cell Black)
      ∙ length-set p.cells a (king_cell White))
      ∙ v.fits.size

  there : Crowned p q White a b
  there = crowned p a b White size la lb free

  emptied : (xs : List ℕ) (s k : ℕ) → slice_index xs s ≡ 0 → slice_set (slice_set xs s k) s 0 ≡ xs
  emptied xs s k none = set-set xs s k 0 ∙ ap (slice_set xs s) (sym none) ∙ set-get_or xs s 0

  -- the position without its kings
  uncrowned : record q { cells = slice_set (slice_set q.cells a 0) b 0 } ≡ p
  uncrowned =
      same_board (record q { cells = slice_set (slice_set q.cells a 0) b 0 }) p
      (ap (λ xs. slice_set xs b 0)
      (set_comm (slice_set p.cells a (king_cell White)) b a (king_cell Black) 0
      (λ e. there.apart (sym e))
      ∙ ap (λ xs. slice_set xs b (king_cell Black))
      (emptied p.cells a (king_cell White) there.own_empty))
      ∙ emptied p.cells b (king_cell Black) there.other_empty) refl refl

  module _ (m : Member r.groups q) where
    split : IsSplit r.groups (Num r.groups q) (configuration_of r.groups q) a b
    split =
        position_split r q a b sound m (eq-eqb (slice_index q.cells a) (king_cell White) there.own)
        (eq-eqb (slice_index q.cells b) (king_cell Black) there.other)

    number : HasNumber r.groups (Num r.groups q) q
    number = record { member = m; number = refl }

    -- the board is that of the position's configuration
    pub board_there : IsBoardOf r.groups (configuration_of r.groups q) p
    board_there =
        subst (λ (x : Board). IsBoardOf r.groups (configuration_of r.groups q) x) uncrowned
        (is_board r q (Num r.groups q) (configuration_of r.groups q) a b sound split number)

    pub known_there : are_known r.groups a b ≡ true
    known_there =
        and_from (is_known r.groups (king_cell White) a) (is_known r.groups (king_cell Black) b)
        (state_known White r.groups a (king_known White a r.groups split.ds split.white))
        (state_known Black r.groups b (king_known Black b r.groups split.ds split.black))

  module _ (c : ℕ) (board : IsBoardOf r.groups c p) (known : are_known r.groups a b ≡ true) where
    parts : (is_known r.groups (king_cell White) a ≡ true)
        × (is_known r.groups (king_cell Black) b ≡ true)
    parts =
        and_parts (is_known r.groups (king_cell White) a) (is_known r.groups (king_cell Black) b)
        known

    pub made_member : Member r.groups q
    made_member =
        member p a b size la lb free v r c sound board (known_state White r.groups a parts.0)
        (known_state Black r.groups b parts.1) (known_king r White a sound parts.0)
        (known_king r Black b sound parts.1)

    pub made_split : IsSplit r.groups (Num r.groups q) c a b
    made_split =
        split_there p a b size la lb free v r c sound board
        (known_state White r.groups a parts.0) (known_state Black r.groups b parts.1)
        (known_king r White a sound parts.0) (known_king r Black b sound parts.1)
