-- The numbers at which the side to move is mated, and who is to move.
use Rattle.std.proofs.Common.{◌≡◌, ◌↔◌, ◌∙◌, ℕ, ◌&&◌, not, Bool, true, false, None, List, [], ◌∷◌, inl, inr, refl, ap, sym, subst}
use Rattle.std.specs.List.{Contains}
use Rattle.std.proofs.lemmas.Bool.{and_from, and_parts}
use Rattle.frz_board.specs.declared.man.Colour.{Colour}
use Rattle.frz_board.specs.Attacks.{is_in_check}
use Rattle.frz_board.specs.Boards.{Board}
use Rattle.frz_board.specs.Moving.{Step}
use Rattle.frz_fide.specs.Listing.{legal_moves_of}
use Rattle.frz_fide.proofs.Lemmas.{listed, only_legal}
use Rattle.frz_sets.specs.declared.exit.Value.{Value}
use Rattle.frz_sets.specs.Sound.{IsSound}
use Rattle.frz_sets.specs.Views.{RuleLines}
use Rattle.frz_arena.specs.declared.node.Node.{Node}
use Rattle.frz_arena.specs.declared.node.Node.TheVariants.{Mate}
use Rattle.frz_arena.specs.Games.{node_by}
use Rattle.frz_arena.proofs.Lemmas.{cases_Option, first_in, none_in_empty}
use Rattle.frz_index.specs.Membership.{position_at}
use Rattle.frz_index.proofs.Lemmas.{position_tells}
use Rattle.frz_configurations.specs.Configurations.{IsSplit}
use Rattle.frz_planes.specs.Planes.{IsPlaneOf, has_pair}
use Rattle.frz_king_planes.specs.Attacked.{AreAttacked}
use Rattle.frz_king_planes.specs.Kings.{with_kings}
use Rattle.frz_king_planes.proofs.Lemmas.{checked}
use Rattle.frz_kingless.specs.Boards.{AreLive, IsBoardOf}
use Rattle.frz_plane_arms.specs.Arms.{MakesMember}
use Rattle.frz_game.specs.Games.{graph_by}
use Rattle.frz_plane_game.specs.Spots.{IsTurnOf}
use Rattle.frz_plane_chess.specs.Counted.{AreMated, AreMoving, CanMove, IsMated}
use Rattle.frz_plane_chess.proofs.BoardNumbers.{live_members}
use Rattle.frz_plane_chess.proofs.LiveNumbers.{node_missing, node_there}
use Rattle.frz_plane_chess.proofs.Positions.{made, makes}

-- a mate has no move, and the king is attacked
mate_is : (ms : List Step) (check : Bool) (turn side : Colour) →
    node_by true ms check turn ≡ Mate side → (ms ≡ []) × (check ≡ true)
mate_is (m ∷ ms) check turn side e = absurd cc
mate_is [] true turn side e = (refl, refl)
mate_is [] false turn side e = absurd cc

-- the side to move is the one of the position
turn_by : (ms : List Step) (check : Bool) (turn : Colour) →
    IsTurnOf turn (node_by true ms check turn)
turn_by (m ∷ ms) check turn = refl
turn_by [] true turn = refl
turn_by [] false turn = refl

no_moves : (r : RuleLines) (value : Board → Value) (p : Board) (a b : ℕ) (ms : List Step) →
    ms ≡ legal_moves_of (with_kings p a b) → (CanMove r value p false a b → ⊥) → ms ≡ []
no_moves r value p a b [] e stuck = refl
no_moves r value p a b (m ∷ ms) e stuck =
    let both = only_legal (with_kings p a b) m
    (subst (λ (xs : List Step). Contains xs m) e (first_in m ms)) in
    absurd (stuck (record {
      step = m;
      is_step = both.0;
      legal = both.1;
      free = λ t. absurd cc;
      leads = tt;
    }))

module _ (r : RuleLines) (value : Board → Value) (p : Board) (i c a b : ℕ) (sound : IsSound r)
    (board : IsBoardOf r.groups c p) (split : IsSplit r.groups i c a b) where
  abbrev w : Board
  w = with_kings p a b

  node_of : MakesMember r.groups p a b → (graph_by r value).node i
      ≡ node_by true (legal_moves_of w) (is_in_check w p.turn) p.turn
  node_of m = node_there r value i w (made r p i c a b sound board split m)

  member_of_mate : (side : Colour) → (graph_by r value).node i ≡ Mate side →
      MakesMember r.groups p a b
  member_of_mate side e =
      elim (cases_Option (position_at r.groups i)) [
        | inl none ↦ absurd (let broken = node_missing r value i none in cc)
        | inr some ↦
            makes r p i c a b sound board split some.0 (position_tells r.groups i some.0 some.1)
      ]

  mated_then : (side : Colour) → (graph_by r value).node i ≡ Mate side → IsMated r value p a b
  mated_then side e =
      let is = mate_is (legal_moves_of w) (is_in_check w p.turn) p.turn side
      (sym (node_of (member_of_mate side e)) ∙ e) in
      record {
        check = is.1;
        stuck = λ h. none_in_empty h.step
            (subst (λ (xs : List Step). Contains xs h.step) is.0 (listed w h.step h.is_step h.legal));
      }

  then_mated : MakesMember r.groups p a b → IsMated r value p a b →
      (graph_by r value).node i ≡ Mate p.turn
  then_mated m h =
      let none = no_moves r value p a b (legal_moves_of w) refl h.stuck in
      node_of m
      ∙ ap (λ (ms : List Step). node_by true ms (is_in_check w p.turn) p.turn) none
      ∙ ap (λ (t : Bool). let ms : List Step = [] in node_by true ms t p.turn) h.check

  pub is_mate : (side : Colour) → side ≡ p.turn → ((graph_by r value).node i ≡ Mate side)
      ↔ (MakesMember r.groups p a b × IsMated r value p a b)
  is_mate side turn = (
    λ e. (member_of_mate side e, mated_then side e),
    λ h. then_mated h.0 h.1 ∙ ap Mate (sym turn),
  )

  -- the side to move, at each number
  pub turn_there : (side : Colour) → side ≡ p.turn → IsTurnOf side ((graph_by r value).node i)
  turn_there side turn =
      subst (λ (t : Colour). IsTurnOf t ((graph_by r value).node i)) (sym turn)
      (elim (cases_Option (position_at r.groups i)) [
        | inl none ↦
            subst (λ (n : Node). IsTurnOf p.turn n) (sym (node_missing r value i none)) tt
        | inr some ↦ (
            let m = makes r p i c a b sound board split some.0
            (position_tells r.groups i some.0 some.1) in
            subst (λ (n : Node). IsTurnOf p.turn n) (sym (node_of m))
            (turn_by (legal_moves_of w) (is_in_check w p.turn) p.turn))
      ])

pub never_mate : (r : RuleLines) (value : Board → Value) (side : Colour) (i : ℕ) →
    position_at r.groups i ≡ None → (graph_by r value).node i ≡ Mate side → ⊥
never_mate r value side i none e = let broken = node_missing r value i none in cc

pub turn_missing : (r : RuleLines) (value : Board → Value) (side : Colour) (i : ℕ) →
    position_at r.groups i ≡ None → IsTurnOf side ((graph_by r value).node i)
turn_missing r value side i none =
    subst (λ (n : Node). IsTurnOf side n) (sym (node_missing r value i none)) tt

-- the pairs of mates: the king is attacked, and there is no step
module _ (r : RuleLines) (value : Board → Value) (p : Board) (c : ℕ) (live moving attacks cut plane : List ℕ)
    (sound : IsSound r) (board : IsBoardOf r.groups c p) (are : AreLive r.groups c live)
    (moves : AreMoving r value p false moving) (attacked : AreAttacked p p.turn attacks)
    (cuts : IsPlaneOf cut (λ a b. has_pair attacks a b && has_pair live a b))
    (rest : IsPlaneOf plane (λ a b. has_pair cut a b && not (has_pair moving a b))) where
  check_is : (a b : ℕ) → MakesMember r.groups p a b →
      has_pair attacks a b ≡ is_in_check (with_kings p a b) p.turn
  check_is a b m =
      attacked a b m.white m.black m.free
      ∙ sym (checked p board.fits a b m.white m.black m.free p.turn m.member.valid.kings)

  not_true : (x : Bool) → not x ≡ true → x ≡ false
  not_true true h = absurd cc
  not_true false h = refl

  to_true : (x : Bool) → (x ≡ true → ⊥) → not x ≡ true
  to_true true h = absurd (h refl)
  to_true false h = refl

  pub are_mated : AreMated r value p plane
  are_mated a b la lb =
      let members = live_members r p c sound board live are a b la lb in
      let can = moves a b la lb in (
        λ t. (
            let outer = and_parts (has_pair cut a b) (not (has_pair moving a b))
            (sym (rest a b la lb) ∙ t) in
            let inner = and_parts (has_pair attacks a b) (has_pair live a b)
            (sym (cuts a b la lb) ∙ outer.0) in
            let m = members.0 inner.1 in (
              m,
              record {
                check = sym (check_is a b m) ∙ inner.0;
                stuck = λ h. (
                    let yes = can.1 (m, h) in
                    let no = not_true (has_pair moving a b) outer.1 in
                    absurd cc);
              },
            )),
        λ h. rest a b la lb
            ∙ and_from (has_pair cut a b) (not (has_pair moving a b))
            (cuts a b la lb
            ∙ and_from (has_pair attacks a b) (has_pair live a b) (check_is a b h.0 ∙ h.1.check)
            (members.1 h.0))
            (to_true (has_pair moving a b) (λ t. h.1.stuck (can.0 t).1)),
      )
