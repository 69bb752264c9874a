-- Moves to marked configurations, and out to wins with a given lag.
use Rattle.std.proofs.Common.{◌≡◌, ◌<◌, ℕ, Bool, true, false, List, [], inl, inr, refl, subst}
use Rattle.std.proofs.lemmas.Bool.{cases_Bool}
use Rattle.frz_board.specs.declared.man.Colour.{Colour}
use Rattle.frz_board.specs.Boards.{Board}
use Rattle.frz_fide.specs.Legal.{after}
use Rattle.frz_sets.specs.declared.exit.Value.{Value}
use Rattle.frz_sets.specs.Sets.{size_of}
use Rattle.frz_sets.specs.Sound.{IsSound}
use Rattle.frz_sets.specs.Views.{RuleLines}
use Rattle.frz_exits.specs.Forbidding.{is_free}
use Rattle.frz_arena.specs.declared.arm.Next.{Next}
use Rattle.frz_index.specs.Members.{Num}
use Rattle.frz_index.specs.Membership.{is_member}
use Rattle.frz_index.proofs.Lemmas.{Num_below, member_of, of_member, position_tells}
use Rattle.frz_configurations.specs.Configurations.{IsSplit}
use Rattle.frz_planes.specs.Planes.{has_pair}
use Rattle.frz_king_planes.specs.Kings.{with_kings}
use Rattle.frz_kingless.specs.Boards.{HasNoPosition, IsBoardOf}
use Rattle.frz_plane_arms.specs.Arms.{MakesMember}
use Rattle.frz_plane_arms.specs.Inside.{LeadsInside}
use Rattle.frz_plane_exits.specs.Exits.{AreExits}
use Rattle.frz_plane_exits.specs.declared.exit_plane.ExitPlane.{ExitPlane}
use Rattle.frz_game.specs.Games.{graph_by}
use Rattle.frz_plane_game.specs.Targets.{LeadsToMarked, NoMoveLeads, WinsOut, is_marked}
use Rattle.frz_plane_chess.specs.Counted.{HasNoWinWith}
use Rattle.frz_plane_chess.specs.Spots.{spot_of, spots_of}
use Rattle.frz_plane_chess.proofs.Legal.{next_inside, next_outside, position_there, some_move}
use Rattle.frz_plane_chess.proofs.Placing.{placed}

module _ (r : RuleLines) (value : Board → Value) (c : ℕ) (sound : IsSound r) where
  split_at : (i : ℕ) → i < size_of r.groups → (spot_of r.groups i).configuration ≡ c →
      IsSplit r.groups i c (spot_of r.groups i).white (spot_of r.groups i).black
  split_at i low e =
      let s = spot_of r.groups i in
      subst (λ (k : ℕ). IsSplit r.groups i k s.white s.black) e (placed r sound i low).split

  -- a configuration without positions has no move
  pub none_moves : HasNoPosition r.groups c → (P : Next ℕ Value → Type 0) →
      NoMoveLeads (graph_by r value) (spots_of r.groups) c P
  none_moves none P i low e s =
      let there = position_there r value i s.0 s.1 in
      let number = position_tells r.groups i there.0 there.1 in
      none i (spot_of r.groups i).white (spot_of r.groups i).black (split_at i low e) there.0
      number.member number.number

  module _ (p : Board) (board : IsBoardOf r.groups c p) where
    pub none_marked : (marks : List Bool) →
        ((a b : ℕ) (into : Bool) → MakesMember r.groups p a b →
        (way : LeadsInside r p false into [] a b) → is_marked marks way.configuration ≡ false) →
        NoMoveLeads (graph_by r value) (spots_of r.groups) c
        (LeadsToMarked (spots_of r.groups) marks)
    none_marked marks never i low e s =
        let a = (spot_of r.groups i).white in
        let b = (spot_of r.groups i).black in
        let both = (some_move r value p i c a b sound board (split_at i low e) false
        (LeadsToMarked (spots_of r.groups) marks)).0 s in
        let h = both.1 in
        let q = after (with_kings p a b) h.step in
        let k = Num r.groups q in
        let at = spot_of r.groups k in
        elim (cases_Bool (is_member r.groups q)) [
          | inl t ↦ (
              let member = member_of r.groups q t in
              let is_so : is_marked marks at.configuration ≡ true =
              subst (LeadsToMarked (spots_of r.groups) marks) (next_inside r value q t) h.leads in
              let is_not : is_marked marks at.configuration ≡ false =
              never a b (has_pair [] at.white at.black) both.0 (record {
                step = h.step;
                is_step = h.is_step;
                legal = h.legal;
                free = h.free;
                inside = member;
                configuration = at.configuration;
                white = at.white;
                black = at.black;
                number = (placed r sound k (Num_below r.groups q member)).split;
                there = refl;
              }) in
              cc)
          | inr f ↦ absurd (subst (LeadsToMarked (spots_of r.groups) marks)
              (next_outside r value q f) h.leads)
        ]

    pub none_out : (exits : List ExitPlane) → AreExits r value p exits → (side : Colour)
        (lag : ℕ) → HasNoWinWith exits side lag →
        NoMoveLeads (graph_by r value) (spots_of r.groups) c (WinsOut (graph_by r value) side lag)
    none_out exits are side lag never i low e s =
        let a = (spot_of r.groups i).white in
        let b = (spot_of r.groups i).black in
        let Wins : Next ℕ Value → Type 0 = WinsOut (graph_by r value) side lag in
        let both = (some_move r value p i c a b sound board (split_at i low e) false Wins).0 s in
        let h = both.1 in
        let w = with_kings p a b in
        let q = after w h.step in
        elim (cases_Bool (is_member r.groups q)) [
          | inl t ↦ absurd (subst Wins (next_inside r value q t) h.leads)
          | inr f ↦ (
              let wins = subst Wins (next_outside r value q f) h.leads in
              never (value q) (is_free r p.turn w h.step) a b
              (are.all (value q) (is_free r p.turn w h.step) a b both.0 (record {
                step = h.step;
                is_step = h.is_step;
                legal = h.legal;
                outside = λ n. (let t = of_member r.groups q n in cc);
                worth = refl;
                freedom = refl;
              }))
              wins.0 wins.1)
        ]
