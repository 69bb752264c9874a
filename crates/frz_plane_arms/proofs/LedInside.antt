-- The pairs at which some move leads inside the set, by those of men and of the king's captures and
-- other steps.
use Rattle.std.proofs.Common.{◌≡◌, ℕ, Bool, true, ◌||◌, List, sym, ◌∙◌, inl, inr}
use Rattle.std.specs.Prelude.{◌↔◌}
use Rattle.std.proofs.lemmas.Bool.{or_cases, or_left, or_right}
use Rattle.frz_board.specs.Boards.{Board}
use Rattle.frz_sets.specs.Sound.{IsSound}
use Rattle.frz_sets.specs.Views.{RuleLines}
use Rattle.frz_planes.specs.Planes.{has_pair}
use Rattle.frz_kingless.specs.Boards.{IsBoardOf}
use Rattle.frz_plane_arms.specs.Arms.{MakesMember}
use Rattle.frz_plane_arms.specs.MenArms.{ManLeads}
use Rattle.frz_plane_arms.specs.Inner.{KingSteps, KingTakes}
use Rattle.frz_plane_arms.specs.Inside.{LeadsInside}
use Rattle.frz_plane_arms.proofs.InsideWays.{ways}
use Rattle.frz_plane_arms.proofs.WaysInside.{lines_of, man_inside, stepping_inside, taking_inside}

module _ (r : RuleLines) (p : Board) (c : ℕ) (only_free into : Bool) (planes : List (List ℕ))
    (a b : ℕ) (sound : IsSound r) (board : IsBoardOf r.groups c p)
    (men captures steps both whole : List ℕ)
    (by_men : (has_pair men a b ≡ true)
    ↔ (MakesMember r.groups p a b × ManLeads r only_free p planes into a b))
    (by_captures : (has_pair captures a b ≡ true)
    ↔ (MakesMember r.groups p a b × KingTakes r.groups (lines_of r only_free) p planes into a b))
    (by_steps : (has_pair steps a b ≡ true)
    ↔ (MakesMember r.groups p a b × KingSteps r.groups (lines_of r only_free) p planes into a b))
    (union : has_pair both a b ≡ (has_pair men a b || has_pair captures a b))
    (last : has_pair whole a b ≡ (has_pair both a b || has_pair steps a b)) where
  abbrev Inside : Type 0
  Inside = MakesMember r.groups p a b × LeadsInside r p only_free into planes a b

  forth : has_pair whole a b ≡ true → Inside
  forth k =
      elim (or_cases (has_pair both a b) (has_pair steps a b) (sym last ∙ k)) [
        | inl h ↦ elim (or_cases (has_pair men a b) (has_pair captures a b) (sym union ∙ h)) [
          | inl man ↦ (let w = by_men.0 man in
              (w.0, man_inside r p a b sound w.0 only_free into planes w.1))
          | inr takes ↦ (let w = by_captures.0 takes in
              (w.0, taking_inside r p a b sound w.0 only_free into planes w.1))
        ]
        | inr goes ↦ (let w = by_steps.0 goes in
            (w.0, stepping_inside r p a b sound w.0 only_free into planes w.1))
      ]

  in_both : has_pair both a b ≡ true → has_pair whole a b ≡ true
  in_both h = last ∙ or_left (has_pair both a b) (has_pair steps a b) h

  back : Inside → has_pair whole a b ≡ true
  back (here, w) =
      elim (ways r p only_free into planes a b sound here board.fits w) [
        | inl man ↦ in_both (union
            ∙ or_left (has_pair men a b) (has_pair captures a b) (by_men.1 (here, man)))
        | inr king ↦ elim king [
          | inl takes ↦ in_both (union
              ∙ or_right (has_pair men a b) (has_pair captures a b) (by_captures.1 (here, takes)))
          | inr goes ↦ last
              ∙ or_right (has_pair both a b) (has_pair steps a b) (by_steps.1 (here, goes))
        ]
      ]

  pub led_inside : (has_pair whole a b ≡ true)
      ↔ (MakesMember r.groups p a b × LeadsInside r p only_free into planes a b)
  led_inside = (forth, back)
