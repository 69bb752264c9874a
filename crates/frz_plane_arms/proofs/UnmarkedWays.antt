-- Where none of the configurations to which moves lead is marked, no move leads to a marked one.
use Rattle.std.proofs.Common.{◌≡◌, ℕ, Bool, true, false, Option, None, Some, List, slice_index, inl, inr, ap, sym, ◌∙◌, subst}
use Rattle.std.specs.Prelude.{IfSome}
use Rattle.std.specs.List.{All, slice_get, slice_index_or}
use Rattle.std.proofs.lemmas.Bool.{cases_Bool, eqb-true}
use Rattle.std.proofs.lemmas.Option.{get_or_from_slice_get, slice_get_within}
use Rattle.frz_board.specs.Boards.{Board, holds, is_empty}
use Rattle.frz_board.specs.Moving.{Step}
use Rattle.frz_fide.specs.Legal.{after}
use Rattle.frz_sets.specs.Sound.{IsSound}
use Rattle.frz_sets.specs.Views.{RuleLines}
use Rattle.frz_configurations.specs.Configurations.{configuration_of}
use Rattle.frz_kingless.specs.Boards.{IsBoardOf}
use Rattle.frz_pair_moves.specs.Kings.{black_then, handed, white_then}
use Rattle.frz_pair_moves.specs.Moves.{entered}
use Rattle.frz_pair_moves.proofs.Lemmas.{entered_empty, legal_man, mover_is}
use Rattle.frz_plane_arms.specs.Arms.{MakesMember}
use Rattle.frz_plane_arms.specs.MenArms.{AreArms}
use Rattle.frz_plane_arms.specs.Inner.{AreKingArms, IsHandedOver}
use Rattle.frz_plane_arms.specs.Inside.{LeadsInside}
use Rattle.frz_plane_arms.specs.declared.men.ManArm.{ManArm}
use Rattle.frz_plane_arms.specs.declared.taking.KingArm.{KingArm}
use Rattle.frz_plane_arms.proofs.InsideWays.{Enters, enemy_there, enters, man_goes}
use Rattle.frz_plane_arms.proofs.LeadingKings.{king_went}
use Rattle.frz_plane_arms.proofs.Standing.{made, man_lands}

-- what holds of all holds of the one at a place
one_of_all : {X : Type 0} (P : X → Type 0) (xs : List X) (k : ℕ) (x : X) →
    slice_get xs k ≡ Some x → All P xs → P x
one_of_all P xs k x there all =
    subst P (get_or_from_slice_get xs k x x there) (all k x (slice_get_within xs k x there))

module _ (marks : List Bool) where
  -- the configuration is not marked
  abbrev IsUnmarked : ℕ → Type 0
  IsUnmarked c = slice_index_or marks c false ≡ false

  quiet_unmarked : (r : RuleLines) (p : Board) (quiet : Option ℕ) (k a b : ℕ) →
      IsHandedOver r.groups p quiet → IfSome quiet (λ d. slice_index_or marks d false ≡ false) →
      IsBoardOf r.groups k (handed p) → MakesMember r.groups (handed p) a b → IsUnmarked k
  quiet_unmarked r p None k a b none _ board makes = absurd (none a b makes)
  quiet_unmarked r p (Some d) k a b is unmarked board makes =
      subst IsUnmarked (sym is.0.configuration ∙ board.configuration) unmarked

  module _ (r : RuleLines) (p : Board) (c : ℕ) (only_free into : Bool) (planes : List (List ℕ))
      (a b : ℕ) (sound : IsSound r) (board : IsBoardOf r.groups c p)
      (here : MakesMember r.groups p a b) (men : List ManArm) (quiet : Option ℕ)
      (captures : List KingArm) (are_men : AreArms r p men) (is_quiet : IsHandedOver r.groups p quiet)
      (are_captures : AreKingArms r.groups p captures)
      (no_man : All (λ arm. slice_index_or marks arm.target false ≡ false) men)
      (no_quiet : IfSome quiet (λ d. slice_index_or marks d false ≡ false))
      (no_capture : All (λ arm. slice_index_or marks arm.target false ≡ false) captures) where
    man_unmarked : (w : LeadsInside r p only_free into planes a b) →
        holds p p.turn w.step.from ≡ true → IsUnmarked w.configuration
    man_unmarked w own =
        let goes = legal_man p w.step a b w.is_step here.white here.black (made r p a b here) own
        w.legal in
        let has = are_men.all w.step a b w.is_step goes.0
        (man_lands r p w.step a b here w.is_step own w.legal w.inside) in
        let is = are_men.each has.place has.arm has.there in
        let there = man_goes r p only_free into planes a b sound here w own in
        subst IsUnmarked
        (sym is.board.configuration ∙ ap (λ (m : Step). configuration_of r.groups (after p m)) has.step
        ∙ there.configuration)
        (one_of_all (λ (arm : ManArm). IsUnmarked arm.target) men has.place has.arm has.there no_man)

    king_unmarked : (k : ℕ) → Enters r p only_free into planes a b sound here k → IsUnmarked k
    king_unmarked k e =
        let s : ℕ = e.square in
        let x = white_then p.turn a s in
        let y = black_then p.turn b s in
        let went = king_went r p a b s e.on_board here e.leads.legal e.leads.inside in
        subst IsUnmarked (sym e.same)
        (elim (cases_Bool (is_empty p s)) [
          | inl empty ↦ (
              let still = entered_empty p s (eqb-true (slice_index p.cells s) 0 empty) in
              quiet_unmarked r p quiet e.target x y is_quiet no_quiet
              (subst (IsBoardOf r.groups e.target) still e.board)
              (subst (λ (z : Board). MakesMember r.groups z x y) still went.1))
          | inr full ↦ (
              let has = are_captures.all s x y e.on_board
              (enemy_there r p only_free into planes a b sound here board.fits k e full) went.1 in
              let is = are_captures.each has.place has.arm has.there in
              subst IsUnmarked
              (sym is.board.configuration
              ∙ ap (λ (t : ℕ). configuration_of r.groups (entered p t)) has.square
              ∙ e.board.configuration)
              (one_of_all (λ (arm : KingArm). IsUnmarked arm.target) captures has.place has.arm
              has.there no_capture))
        ])

    pub never_marked : (w : LeadsInside r p only_free into planes a b) →
        slice_index_or marks w.configuration false ≡ false
    never_marked w =
        elim (mover_is p w.step a b here.white here.black (made r p a b here) w.legal) [
          | inl king ↦ king_unmarked w.configuration
              (enters r p only_free into planes a b sound here w king)
          | inr own ↦ man_unmarked w own
        ]
