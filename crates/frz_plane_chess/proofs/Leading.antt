-- Steps that stay in the set and lead into planes, and steps that leave it to exits.
use Rattle.std.proofs.Common.{◌≡◌, ◌↔◌, ◌⊎◌, ℕ, Bool, true, false, List, inl, inr, refl, ap, sym, ◌∙◌, subst}
use Rattle.std.specs.Bool.{IsTrue}
use Rattle.std.proofs.lemmas.Bool.{cases_Bool}
use Rattle.frz_board.specs.declared.man.Colour.{Colour}
use Rattle.frz_board.specs.Boards.{Board}
use Rattle.frz_fide.specs.Legal.{after}
use Rattle.frz_sets.specs.declared.exit.Value.{Value}
use Rattle.frz_sets.specs.Sound.{IsSound}
use Rattle.frz_sets.specs.Views.{RuleLines}
use Rattle.frz_exits.specs.Forbidding.{is_free}
use Rattle.frz_arena.specs.declared.arm.Next.{Next}
use Rattle.frz_arena.specs.declared.arm.Next.TheVariants.{Outside}
use Rattle.frz_index.specs.Members.{Num}
use Rattle.frz_index.specs.Membership.{is_member}
use Rattle.frz_index.proofs.Lemmas.{Num_below, member_of, of_member}
use Rattle.frz_configurations.specs.Configurations.{IsSplit}
use Rattle.frz_king_planes.specs.Kings.{with_kings}
use Rattle.frz_kingless.specs.Boards.{IsBoardOf}
use Rattle.frz_plane_arms.specs.Arms.{MakesMember}
use Rattle.frz_plane_arms.specs.Inside.{LeadsInside}
use Rattle.frz_game.specs.Games.{graph_by}
use Rattle.frz_plane_game.specs.declared.target.Exits.{Exits}
use Rattle.frz_plane_game.specs.Spots.{Spot, has_spot}
use Rattle.frz_plane_game.specs.Targets.{LeadsInto, SomeMove}
use Rattle.frz_plane_chess.specs.Spots.{spot_of, spots_of}
use Rattle.frz_plane_chess.specs.Steps.{HasStep, LeavesTo}
use Rattle.frz_plane_chess.proofs.Legal.{is_outside, next_inside, next_outside, some_move}
use Rattle.frz_plane_chess.proofs.Placing.{placed, spot_is}

is_so : (into there : Bool) → IsTrue into ↔ (there ≡ true) → there ≡ into
is_so true there h = h.0 refl
is_so false true h = absurd (let e = h.1 refl in cc)
is_so false false h = refl

so_it_is : (into there : Bool) → there ≡ into → IsTrue into ↔ (there ≡ true)
so_it_is into there e = (λ t. e ∙ t, λ t. sym e ∙ t)

module _ (r : RuleLines) (value : Board → Value) (p : Board) (a b : ℕ) (sound : IsSound r)
    (only_free into : Bool) (planes : List (List ℕ)) (side : Colour) (exits : Exits) where
  abbrev w : Board
  w = with_kings p a b

  -- the move leads so
  abbrev L : Next ℕ Value → Type 0
  L next = IsTrue into ↔ LeadsInto (graph_by r value) (spots_of r.groups) planes side exits next

  abbrev Leads : Type 0
  Leads =
      LeadsInside r p only_free into planes a b ⊎ LeavesTo r value p only_free into side exits a b

  stays : (h : HasStep r value p only_free L a b) →
      is_member r.groups (after w h.step) ≡ true → LeadsInside r p only_free into planes a b
  stays h t =
      let q = after w h.step in
      let k = Num r.groups q in
      let member = member_of r.groups q t in
      let at = spot_of r.groups k in
      record {
        step = h.step;
        is_step = h.is_step;
        legal = h.legal;
        free = h.free;
        inside = member;
        configuration = at.configuration;
        white = at.white;
        black = at.black;
        number = (placed r sound k (Num_below r.groups q member)).split;
        there = is_so into (has_spot planes at) (subst L (next_inside r value q t) h.leads);
      }

  leaves : (h : HasStep r value p only_free L a b) →
      is_member r.groups (after w h.step) ≡ false →
      LeavesTo r value p only_free into side exits a b
  leaves h f =
      let q = after w h.step in
      record {
        outcome = value q;
        freedom = is_free r p.turn w h.step;
        leaves = record {
          step = h.step;
          is_step = h.is_step;
          legal = h.legal;
          freedom = refl;
          outside = λ m. (let t = of_member r.groups q m in cc);
          worth = refl;
        };
        free = h.free;
        worth = subst L (next_outside r value q f) h.leads;
      }

  leads : HasStep r value p only_free L a b → Leads
  leads h =
      elim (cases_Bool (is_member r.groups (after w h.step))) [
        | inl t ↦ inl (stays h t)
        | inr f ↦ inr (leaves h f)
      ]

  staying : LeadsInside r p only_free into planes a b → HasStep r value p only_free L a b
  staying h =
      let q = after w h.step in
      let is = spot_is r.groups (Num r.groups q) h.configuration h.white h.black h.number in
      record {
        step = h.step;
        is_step = h.is_step;
        legal = h.legal;
        free = h.free;
        leads = subst L (sym (next_inside r value q (of_member r.groups q h.inside)))
            (so_it_is into (has_spot planes (spot_of r.groups (Num r.groups q)))
            (ap (λ (s : Spot). has_spot planes s) is ∙ h.there));
      }

  leaving : LeavesTo r value p only_free into side exits a b → HasStep r value p only_free L a b
  leaving h =
      let s = h.leaves in
      let q = after w s.step in
      record {
        step = s.step;
        is_step = s.is_step;
        legal = s.legal;
        free = λ e. s.freedom ∙ h.free e;
        leads = subst L (sym (next_outside r value q (is_outside r q s.outside)))
            (subst (λ (v : Value). IsTrue into
            ↔ LeadsInto (graph_by r value) (spots_of r.groups) planes side exits (Outside v))
            (sym s.worth) h.worth);
      }

  leading : Leads → HasStep r value p only_free L a b
  leading (inl h) = staying h
  leading (inr h) = leaving h

-- a move leads so exactly where a step does, that stays in the set or leaves it
pub some_leading : (r : RuleLines) (value : Board → Value) (p : Board) (i c a b : ℕ) → IsSound r →
    IsBoardOf r.groups c p → IsSplit r.groups i c a b → (only_free into : Bool)
    (planes : List (List ℕ)) (side : Colour) (exits : Exits) →
    SomeMove (graph_by r value) only_free i (λ (next : Next ℕ Value). IsTrue into
    ↔ LeadsInto (graph_by r value) (spots_of r.groups) planes side exits next)
    ↔ (MakesMember r.groups p a b × (LeadsInside r p only_free into planes a b
    ⊎ LeavesTo r value p only_free into side exits a b))
some_leading r value p i c a b sound board split only_free into planes side exits =
    let both = some_move r value p i c a b sound board split only_free
    (L r value p a b sound only_free into planes side exits) in (
      λ s. (
        (both.0 s).0,
        leads r value p a b sound only_free into planes side exits (both.0 s).1,
      ),
      λ h. both.1 (h.0, leading r value p a b sound only_free into planes side exits h.1),
    )
