-- What the board without the man that stepped tells of the position before the step.
use Rattle.std.proofs.Common.{◌≡◌, ℕ, ◌<◌, true, false, Option, Some, List, ap, sym, subst, ◌∙◌, ◌↔◌}
use Rattle.std.proofs.lemmas.Option.{same_Some}
use Rattle.frz_board.proofs.Lemmas.{other_other}
use Rattle.frz_board.specs.declared.man.Man.{Man}
use Rattle.frz_board.specs.Attacks.{is_in_check, reaches}
use Rattle.frz_board.specs.Boards.{Board}
use Rattle.frz_board.specs.EnPassant.{has_target_in_place}
use Rattle.frz_board.specs.Men.{is_man_of, other_of}
use Rattle.frz_board.specs.Moving.{Step}
use Rattle.frz_fide.proofs.Lemmas.{same_side}
use Rattle.frz_fide.specs.Valid.{IsValid}
use Rattle.frz_index.proofs.Lemmas.{number_back, number_found}
use Rattle.frz_index.specs.Members.{HasNumber}
use Rattle.frz_index.specs.Membership.{number_of}
use Rattle.frz_index.specs.Stepping.{stepped}
use Rattle.frz_sets.specs.Views.{GroupLine}
use Rattle.frz_unmove.proofs.StepsBack.{back_step}
use Rattle.frz_unmove.proofs.StepsSafe.{checks_from, reaches_from}
use Rattle.frz_unmove.proofs.StepsTarget.{in_place}
use Rattle.frz_unmove.proofs.StepsValid.{valid_step}
use Rattle.frz_unmove.specs.declared.quiet.Ready.{Ready}
use Rattle.frz_unmove.specs.Quiet.{IsQuietBack, IsReady, keeps_target}

module _ (q : Board) (m : Step) (taken : ℕ) (target : Option ℕ) (man : Man) (v : IsValid q)
    (lf : m.from < 64) (lt : m.to < 64) (h : IsQuietBack q m taken man)
    (r : Ready) (ready : IsReady q m.to r) where
  abbrev pub earlier : Board
  earlier = stepped q man m.to m.from target

  other : man.colour ≡ other_of q.turn
  other =
      same_side man.colour (other_of q.turn)
      (ap (is_man_of (other_of q.turn)) (sym h.man_is) ∙ h.own)

  reach_is : (y : ℕ) →
      reaches r.bare.now man.colour man.kind m.from y ≡ reaches earlier man.colour man.kind m.from y
  reach_is y =
      ap (λ (b : Board). reaches b man.colour man.kind m.from y) ready.bare_is
      ∙ reaches_from q man m.to m.from target (back_step q m taken target man v lf lt h) v other
      man.colour man.kind y

  check_is : reaches r.bare.now man.colour man.kind m.from r.king ≡ is_in_check earlier q.turn
  check_is =
      ap (λ (b : Board). reaches b man.colour man.kind m.from r.king) ready.bare_is
      ∙ checks_from q man m.to m.from target (back_step q m taken target man v lf lt h) v
      other r.king
      ready.on_board ready.king_is
      (ap (λ (b : Board). is_in_check b q.turn) (sym ready.bare_is) ∙ ready.safe)

  keeps_is : keeps_target r.bare.now target m.from ≡ has_target_in_place earlier
  keeps_is =
      ap (λ (b : Board). keeps_target b target m.from) ready.bare_is
      ∙ sym (in_place q man m.to m.from target (back_step q m taken target man v lf lt h) h.piece)

  pub valid_there : reaches r.bare.now man.colour man.kind m.from r.king ≡ false →
      keeps_target r.bare.now target m.from ≡ true → IsValid earlier
  valid_there e kept =
      valid_step q man m.to m.from target (back_step q m taken target man v lf lt h) v h.piece
      (sym keeps_is ∙ kept)
      (ap (is_in_check earlier) (other_other q.turn) ∙ sym check_is ∙ e)

  abbrev pub Tells : List GroupLine → Option ℕ → ℕ → Type 0
  Tells gs o i =
      (o ≡ Some i)
      ↔ (HasNumber gs i earlier × (reaches earlier man.colour man.kind m.from m.to ≡ true))

  -- the step was taken from a square from which it may have come
  pub told_origin : (gs : List GroupLine) (i : ℕ) → HasNumber gs i earlier →
      reaches earlier man.colour man.kind m.from m.to ≡ true →
      (reaches r.bare.now man.colour man.kind m.from m.to ≡ true)
      × (reaches r.bare.now man.colour man.kind m.from r.king ≡ false)
      × (keeps_target r.bare.now target m.from ≡ true)
  told_origin gs i k e = (
    reach_is m.to ∙ e,
    check_is ∙ sym (ap (is_in_check earlier) (other_other q.turn)) ∙ k.member.valid.safe,
    keeps_is ∙ k.member.valid.target,
  )

  pub numbered : (gs : List GroupLine) (n : ℕ) →
      reaches r.bare.now man.colour man.kind m.from m.to ≡ true → HasNumber gs n earlier → (i : ℕ) →
      Tells gs (Some n) i
  numbered gs n e there i = (
    λ s. (subst (λ j. HasNumber gs j earlier) (same_Some n i s) there, sym (reach_is m.to) ∙ e),
    λ k. ap Some (sym there.number ∙ k.0.number),
  )

  pub looked_up : (gs : List GroupLine) (o : Option ℕ) →
      reaches r.bare.now man.colour man.kind m.from m.to ≡ true → o ≡ number_of gs earlier → (i : ℕ) →
      Tells gs o i
  looked_up gs o e is i = (
    λ s. (number_back gs earlier i (sym is ∙ s), sym (reach_is m.to) ∙ e),
    λ k. is ∙ number_found gs earlier i k.0,
  )
