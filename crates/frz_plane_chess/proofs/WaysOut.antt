-- Steps that stay in the set and steps that leave it, as the planes of exits tell them.
use Rattle.std.proofs.Common.{◌≡◌, ◌↔◌, ◌⊎◌, ◌∙◌, ℕ, ◌<◌, ◌||◌, Bool, true, false, List, inl, inr, refl, sym}
use Rattle.std.specs.Prelude.{⊤}
use Rattle.std.specs.Bool.{IsTrue}
use Rattle.std.proofs.lemmas.Bool.{cases_Bool, or_cases}
use Rattle.frz_board.specs.declared.man.Colour.{Colour}
use Rattle.frz_board.specs.Boards.{Board}
use Rattle.frz_fide.specs.Legal.{after}
use Rattle.frz_sets.specs.declared.exit.Value.{Value}
use Rattle.frz_sets.specs.Sound.{IsSound}
use Rattle.frz_sets.specs.Views.{RuleLines}
use Rattle.frz_exits.specs.Forbidding.{is_free}
use Rattle.frz_index.specs.Members.{Num}
use Rattle.frz_index.specs.Membership.{is_member}
use Rattle.frz_index.proofs.Lemmas.{Num_below, member_of, of_member}
use Rattle.frz_configurations.proofs.Lemmas.{configuration_below}
use Rattle.frz_king_planes.specs.Kings.{with_kings}
use Rattle.frz_plane_arms.specs.Arms.{MakesMember}
use Rattle.frz_plane_arms.specs.Inside.{LeadsInside}
use Rattle.frz_plane_arms.specs.MenArms.{AreAllLive}
use Rattle.frz_plane_exits.specs.Exits.{AreExits}
use Rattle.frz_plane_exits.specs.declared.exit_plane.ExitPlane.{ExitPlane}
use Rattle.frz_game.specs.Games.{graph_by}
use Rattle.frz_plane_game.specs.declared.target.Exits.{Exits}
use Rattle.frz_plane_game.specs.declared.target.Exits.TheVariants.{Wins, Losses}
use Rattle.frz_plane_game.specs.Targets.{HasWorth}
use Rattle.frz_plane_chess.specs.Counted.{CanMove, HasExitWhere, IsWorth}
use Rattle.frz_plane_chess.specs.Spots.{spot_of}
use Rattle.frz_plane_chess.specs.Steps.{LeavesTo}
use Rattle.frz_plane_chess.proofs.Placing.{placed}

same_worth : (r : RuleLines) (value : Board → Value) (side : Colour) (exits : Exits) (v : Value) →
    IsWorth side exits v ↔ HasWorth (graph_by r value) side exits v
same_worth r value side (Wins n) v = (λ h. h, λ h. h)
same_worth r value side Losses v = (λ h. h, λ h. h)

either_of : (x y : Bool) → (x ≡ true) ⊎ (y ≡ true) → (x || y) ≡ true
either_of true y e = refl
either_of false y (inl e) = absurd cc
either_of false y (inr e) = e

-- two planes joined, by what they have
pub joined : (x y z : Bool) (A B C : Type 0) → z ≡ (x || y) → (x ≡ true) ↔ A → (y ≡ true) ↔ B →
    (A ⊎ B) ↔ C → (z ≡ true) ↔ C
joined x y z A B C is one other both = (
  λ t. both.0 (elim (or_cases x y (sym is ∙ t)) [ inl e ↦ inl (one.0 e) | inr e ↦ inr (other.0 e) ]),
  λ h. is ∙ either_of x y (elim (both.1 h) [ inl a ↦ inl (one.1 a) | inr b ↦ inr (other.1 b) ]),
)

module _ (r : RuleLines) (value : Board → Value) (p : Board) (exits : List ExitPlane)
    (are : AreExits r value p exits) (only_free : Bool) (a b : ℕ) (la : a < 64) (lb : b < 64) where
  -- an exit of such a worth is that of a step
  pub exit_leaves : (into : Bool) (side : Colour) (worth : Exits) →
      HasExitWhere exits only_free (λ v. IsTrue into ↔ IsWorth side worth v) a b →
      MakesMember r.groups p a b × LeavesTo r value p only_free into side worth a b
  exit_leaves into side worth h =
      let both = are.each h.outcome h.freedom a b la lb h.exit in
      let same = same_worth r value side worth h.outcome in (
        both.0,
        record {
          outcome = h.outcome;
          freedom = h.freedom;
          leaves = both.1;
          free = h.free;
          worth = (λ t. same.0 (h.worth.0 t), λ w. h.worth.1 (same.1 w));
        },
      )

  pub leaves_exit : (into : Bool) (side : Colour) (worth : Exits) → MakesMember r.groups p a b →
      LeavesTo r value p only_free into side worth a b →
      HasExitWhere exits only_free (λ v. IsTrue into ↔ IsWorth side worth v) a b
  leaves_exit into side worth m h =
      let same = same_worth r value side worth h.outcome in
      record {
        outcome = h.outcome;
        freedom = h.freedom;
        exit = are.all h.outcome h.freedom a b m h.leaves;
        free = h.free;
        worth = (λ t. same.1 (h.worth.0 t), λ w. h.worth.1 (same.0 w));
      }

  pub exit_moves : HasExitWhere exits only_free (λ _. ⊤) a b →
      MakesMember r.groups p a b × CanMove r value p only_free a b
  exit_moves h =
      let both = are.each h.outcome h.freedom a b la lb h.exit in
      let s = both.1 in (
        both.0,
        record {
          step = s.step;
          is_step = s.is_step;
          legal = s.legal;
          free = λ e. s.freedom ∙ h.free e;
          leads = tt;
        },
      )

  pub inside_moves : (lives : List (List ℕ)) → LeadsInside r p only_free true lives a b →
      CanMove r value p only_free a b
  inside_moves lives h =
      record { step = h.step; is_step = h.is_step; legal = h.legal; free = h.free; leads = tt }

  -- a step stays in the set, at a live pair, or is an exit
  pub moves_so : (lives : List (List ℕ)) → IsSound r → AreAllLive r.groups lives →
      MakesMember r.groups p a b → CanMove r value p only_free a b →
      LeadsInside r p only_free true lives a b ⊎ HasExitWhere exits only_free (λ _. ⊤) a b
  moves_so lives sound live m h =
      let q = after (with_kings p a b) h.step in
      elim (cases_Bool (is_member r.groups q)) [
        | inl t ↦ (
            let member = member_of r.groups q t in
            let k = Num r.groups q in
            let at = spot_of r.groups k in
            let split = (placed r sound k (Num_below r.groups q member)).split in
            inl (record {
              step = h.step;
              is_step = h.is_step;
              legal = h.legal;
              free = h.free;
              inside = member;
              configuration = at.configuration;
              white = at.white;
              black = at.black;
              number = split;
              there = ((live at.configuration
                  (configuration_below r.groups k at.configuration at.white at.black split)).there k
                  at.white at.black split).1 (q, record { member = member; number = refl });
            }))
        | inr f ↦ inr (record {
          outcome = value q;
          freedom = is_free r p.turn (with_kings p a b) h.step;
          exit = are.all (value q) (is_free r p.turn (with_kings p a b) h.step) a b m (record {
            step = h.step;
            is_step = h.is_step;
            legal = h.legal;
            outside = λ n. (let t = of_member r.groups q n in cc);
            worth = refl;
            freedom = refl;
          });
          free = h.free;
          worth = tt;
        })
      ]

  -- there is a step exactly where one stays, at a live pair, or leaves
  pub ways_to_move : (lives : List (List ℕ)) → IsSound r → AreAllLive r.groups lives →
      ((MakesMember r.groups p a b × LeadsInside r p only_free true lives a b)
      ⊎ HasExitWhere exits only_free (λ _. ⊤) a b)
      ↔ (MakesMember r.groups p a b × CanMove r value p only_free a b)
  ways_to_move lives sound live = (
    λ w. elim w [ inl h ↦ (h.0, inside_moves lives h.1) | inr h ↦ exit_moves h ],
    λ h. elim (moves_so lives sound live h.0 h.1) [ inl w ↦ inl (h.0, w) | inr w ↦ inr w ],
  )

  -- a step leads so exactly where one that stays does, or an exit
  pub ways_to_lead : (into : Bool) (planes : List (List ℕ)) (side : Colour) (worth : Exits) →
      ((MakesMember r.groups p a b × LeadsInside r p only_free into planes a b)
      ⊎ HasExitWhere exits only_free (λ v. IsTrue into ↔ IsWorth side worth v) a b)
      ↔ (MakesMember r.groups p a b × (LeadsInside r p only_free into planes a b
      ⊎ LeavesTo r value p only_free into side worth a b))
  ways_to_lead into planes side worth = (
    λ w. elim w [
      | inl h ↦ (h.0, inl h.1)
      | inr h ↦ (let x = exit_leaves into side worth h in (x.0, inr x.1))
    ],
    λ h. elim h.1 [
      | inl w ↦ inl (h.0, w)
      | inr w ↦ inr (leaves_exit into side worth h.0 w)
    ],
  )
