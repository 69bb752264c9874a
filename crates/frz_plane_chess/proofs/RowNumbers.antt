-- What the rows of configurations say of numbers.
use Rattle.std.proofs.Common.{◌≡◌, ◌↔◌, ◌⊎◌, ◌∙◌, ℕ, ◌<◌, Bool, true, false, Option, None, Some, List, cond, get_or, length, subst, sym}
use Rattle.std.specs.Prelude.{⊤}
use Rattle.std.specs.Bool.{IsTrue}
use Rattle.std.specs.List.{slice_index_or}
use Rattle.std.proofs.lemmas.List.{get_or_default}
use Rattle.frz_board.specs.declared.man.Colour.{Colour}
use Rattle.frz_board.specs.Boards.{Board}
use Rattle.frz_sets.specs.declared.exit.Value.{Value}
use Rattle.frz_sets.specs.Sound.{IsSound}
use Rattle.frz_sets.specs.Views.{GroupLine, RuleLines}
use Rattle.frz_arena.specs.declared.arm.Next.{Next}
use Rattle.frz_arena.specs.declared.node.Node.TheVariants.{Mate}
use Rattle.frz_configurations.specs.Configurations.{configuration_count}
use Rattle.frz_planes.specs.Planes.{IsPlaneOf, has_pair}
use Rattle.frz_kingless.specs.Boards.{HasNoPosition}
use Rattle.frz_plane_arms.specs.Arms.{MakesMember}
use Rattle.frz_plane_arms.specs.Inside.{LeadsInside}
use Rattle.frz_game.specs.Games.{graph_by}
use Rattle.frz_plane_game.specs.declared.target.Exits.{Exits}
use Rattle.frz_plane_game.specs.Spots.{HasNumbers}
use Rattle.frz_plane_game.specs.Targets.{LeadsInto, SomeMove}
use Rattle.frz_plane_chess.specs.Counted.{CanMove, IsMated}
use Rattle.frz_plane_chess.specs.Kept.{IsKept}
use Rattle.frz_plane_chess.specs.Rows.{IsRow, IsRowOf}
use Rattle.frz_plane_chess.specs.Spots.{spots_of}
use Rattle.frz_plane_chess.specs.Steps.{LeavesTo}
use Rattle.frz_plane_chess.specs.declared.row.Row.{Row}
use Rattle.frz_plane_chess.proofs.BoardNumbers.{board_numbers, no_numbers}
use Rattle.frz_plane_chess.proofs.Leading.{some_leading}
use Rattle.frz_plane_chess.proofs.Legal.{never_moves, some_move}
use Rattle.frz_plane_chess.proofs.Mates.{is_mate, never_mate}

-- the row that is read at a configuration
pub row_read : (rows : List (Option Row)) (c : ℕ) (x : Option Row) → x ≡ get_or rows c x →
    c < length rows → x ≡ slice_index_or rows c None
row_read rows c x e low = e ∙ get_or_default rows c x None low

-- what the game keeps of a configuration
module _ (gs : List GroupLine) (r : RuleLines) (value : Board → Value) (lives : List (List ℕ))
    (rows : List (Option Row)) (kept : IsKept gs r value lives rows) (c : ℕ)
    (inside : c < configuration_count r.groups) where
  pub no_row : slice_index_or rows c None ≡ None → HasNoPosition r.groups c
  no_row e = subst (λ (o : Option Row). IsRow r value c o) e (kept.are_rows c inside)

  pub some_row : (row : Row) → slice_index_or rows c None ≡ Some row →
      (p : Board) × IsRowOf r value c row p
  some_row row e = subst (λ (o : Option Row). IsRow r value c o) e (kept.are_rows c inside)

module _ (r : RuleLines) (value : Board → Value) (c : ℕ) (row : Row) (p : Board) (sound : IsSound r)
    (is : IsRowOf r value c row p) where
  pub mated_numbers : (side : Colour) → side ≡ row.turn →
      HasNumbers (spots_of r.groups) c row.mated (λ i. (graph_by r value).node i ≡ Mate side)
  mated_numbers side turn =
      board_numbers r p c sound is.board row.mated (λ a b. IsMated r value p a b)
      (λ i. (graph_by r value).node i ≡ Mate side) is.mated
      (λ i a b split. is_mate r value p i c a b sound is.board split side (turn ∙ is.turn))

  moving_numbers : HasNumbers (spots_of r.groups) c row.moving
      (λ i. SomeMove (graph_by r value) false i (λ _. ⊤))
  moving_numbers =
      board_numbers r p c sound is.board row.moving (λ a b. CanMove r value p false a b)
      (λ i. SomeMove (graph_by r value) false i (λ _. ⊤)) is.moving
      (λ i a b split. some_move r value p i c a b sound is.board split false (λ _. ⊤))

  freely_numbers : HasNumbers (spots_of r.groups) c row.moving_freely
      (λ i. SomeMove (graph_by r value) true i (λ _. ⊤))
  freely_numbers =
      board_numbers r p c sound is.board row.moving_freely (λ a b. CanMove r value p true a b)
      (λ i. SomeMove (graph_by r value) true i (λ _. ⊤)) is.moving_freely
      (λ i a b split. some_move r value p i c a b sound is.board split true (λ _. ⊤))

  pub numbers_moving : (only_free : Bool) (plane : List ℕ) →
      plane ≡ cond only_free row.moving_freely row.moving →
      HasNumbers (spots_of r.groups) c plane
      (λ i. SomeMove (graph_by r value) only_free i (λ _. ⊤))
  numbers_moving true plane e =
      subst (λ (xs : List ℕ). HasNumbers (spots_of r.groups) c xs
      (λ i. SomeMove (graph_by r value) true i (λ _. ⊤))) (sym e) freely_numbers
  numbers_moving false plane e =
      subst (λ (xs : List ℕ). HasNumbers (spots_of r.groups) c xs
      (λ i. SomeMove (graph_by r value) false i (λ _. ⊤))) (sym e) moving_numbers

  pub leading_numbers : (plane : List ℕ) (only_free into : Bool) (planes : List (List ℕ))
      (side : Colour) (exits : Exits) → ((a b : ℕ) → a < 64 → b < 64 →
      (has_pair plane a b ≡ true)
      ↔ (MakesMember r.groups p a b × (LeadsInside r p only_free into planes a b
      ⊎ LeavesTo r value p only_free into side exits a b))) →
      HasNumbers (spots_of r.groups) c plane
      (λ i. SomeMove (graph_by r value) only_free i (λ (next : Next ℕ Value). IsTrue into
      ↔ LeadsInto (graph_by r value) (spots_of r.groups) planes side exits next))
  leading_numbers plane only_free into planes side exits pairs =
      board_numbers r p c sound is.board plane
      (λ a b. LeadsInside r p only_free into planes a b
      ⊎ LeavesTo r value p only_free into side exits a b)
      (λ i. SomeMove (graph_by r value) only_free i (λ (next : Next ℕ Value). IsTrue into
      ↔ LeadsInto (graph_by r value) (spots_of r.groups) planes side exits next)) pairs
      (λ i a b split. some_leading r value p i c a b sound is.board split only_free into planes side
      exits)

module _ (r : RuleLines) (value : Board → Value) (c : ℕ) (plane : List ℕ) (sound : IsSound r)
    (none : HasNoPosition r.groups c) (empty : IsPlaneOf plane (λ a b. false)) where
  pub none_mated : (side : Colour) →
      HasNumbers (spots_of r.groups) c plane (λ i. (graph_by r value).node i ≡ Mate side)
  none_mated side =
      no_numbers r c plane (λ i. (graph_by r value).node i ≡ Mate side) sound none empty
      (λ i e. never_mate r value side i e)

  pub none_moving : (only_free : Bool) (P : Next ℕ Value → Type 0) →
      HasNumbers (spots_of r.groups) c plane (λ i. SomeMove (graph_by r value) only_free i P)
  none_moving only_free P =
      no_numbers r c plane (λ i. SomeMove (graph_by r value) only_free i P) sound none empty
      (λ i e. never_moves r value i e only_free P)
