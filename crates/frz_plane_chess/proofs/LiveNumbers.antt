-- The live pairs of a configuration are its numbers that are not broken.
use Rattle.std.proofs.Common.{◌≡◌, ◌≢◌, ℕ, Bool, true, false, List, [], ◌∷◌, None, inl, inr, ap, ◌∙◌, subst}
use Rattle.frz_board.specs.declared.man.Colour.{Colour}
use Rattle.frz_board.specs.Attacks.{is_in_check}
use Rattle.frz_board.specs.Boards.{Board}
use Rattle.frz_board.specs.Moving.{Step}
use Rattle.frz_fide.specs.Listing.{legal_moves_of}
use Rattle.frz_sets.specs.declared.exit.Value.{Value}
use Rattle.frz_sets.specs.Sound.{IsSound}
use Rattle.frz_sets.specs.Views.{RuleLines}
use Rattle.frz_arena.specs.declared.node.Node.TheVariants.{Broken}
use Rattle.frz_arena.specs.Games.{node_by}
use Rattle.frz_arena.specs.Names.{node_at}
use Rattle.frz_arena.proofs.Lemmas.{cases_Option}
use Rattle.frz_index.specs.Members.{HasNumber}
use Rattle.frz_index.specs.Membership.{position_at}
use Rattle.frz_index.proofs.Lemmas.{of_member, position_of, position_tells}
use Rattle.frz_configurations.specs.Configurations.{IsSplit}
use Rattle.frz_kingless.specs.Boards.{AreLive}
use Rattle.frz_game.specs.Games.{arena_by, graph_by}
use Rattle.frz_plane_game.specs.Spots.{HasNumbers}
use Rattle.frz_plane_chess.specs.Spots.{spot_of, spots_of}
use Rattle.frz_plane_chess.proofs.Placing.{is_spot, placed}

-- what the number of a position is
pub node_there : (r : RuleLines) (value : Board → Value) (i : ℕ) (q : Board) →
    HasNumber r.groups i q →
    (graph_by r value).node i ≡ node_by true (legal_moves_of q) (is_in_check q q.turn) q.turn
node_there r value i q h =
    ap (node_at (arena_by r value)) (position_of r.groups i q h)
    ∙ ap (λ (m : Bool). node_by m (legal_moves_of q) (is_in_check q q.turn) q.turn)
    (of_member r.groups q h.member)

pub node_missing : (r : RuleLines) (value : Board → Value) (i : ℕ) →
    position_at r.groups i ≡ None → (graph_by r value).node i ≡ Broken
node_missing r value i e = ap (node_at (arena_by r value)) e

never_broken : (ms : List Step) (check : Bool) (turn : Colour) →
    node_by true ms check turn ≡ Broken → ⊥
never_broken (m ∷ ms) check turn e = cc
never_broken [] true turn e = cc
never_broken [] false turn e = cc

pub unbroken : (r : RuleLines) (value : Board → Value) (i : ℕ) (q : Board) →
    HasNumber r.groups i q → (graph_by r value).node i ≢ Broken
unbroken r value i q h e =
    let there = node_there r value i q h in
    never_broken (legal_moves_of q) (is_in_check q q.turn) q.turn cc

pub has_position : (r : RuleLines) (value : Board → Value) (i : ℕ) →
    (graph_by r value).node i ≢ Broken → (q : Board) × HasNumber r.groups i q
has_position r value i live =
    elim (cases_Option (position_at r.groups i)) [
      | inl none ↦ absurd (live (node_missing r value i none))
      | inr some ↦ (some.0, position_tells r.groups i some.0 some.1)
    ]

pub live_numbers : (r : RuleLines) (value : Board → Value) (c : ℕ) (plane : List ℕ) → IsSound r →
    AreLive r.groups c plane →
    HasNumbers (spots_of r.groups) c plane (λ i. (graph_by r value).node i ≢ Broken)
live_numbers r value c plane sound live = record {
  there = λ i low e. (
      let s = spot_of r.groups i in
      let both = live.there i s.white s.black
      (subst (λ (k : ℕ). IsSplit r.groups i k s.white s.black) e (placed r sound i low).split) in (
        λ t. (let w = both.0 t in unbroken r value i w.0 w.1),
        λ n. both.1 (has_position r value i n),
      ));
  only = λ a b la lb t. (let w = live.only a b la lb t in is_spot r w.0 c a b w.1);
}
