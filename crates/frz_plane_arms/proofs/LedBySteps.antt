-- The pairs at which a king's steps to empty squares lead to pairs of a plane, or to others.
use Rattle.std.proofs.Common.{◌≡◌, ℕ, Bool, true, false, List, [], slice_index, sym, ◌∙◌, subst}
use Rattle.std.specs.Prelude.{◌↔◌}
use Rattle.std.specs.List.{slice_index_or}
use Rattle.std.proofs.lemmas.Bool.{eqb-true}
use Rattle.frz_board.specs.Boards.{Board}
use Rattle.frz_sets.specs.Views.{RuleLines}
use Rattle.frz_sets.specs.declared.forbid.Forbid.{Forbid}
use Rattle.frz_planes.specs.Planes.{has_pair}
use Rattle.frz_kingless.specs.Boards.{IsBoardOf}
use Rattle.frz_pair_moves.specs.Kings.{black_then, handed, white_then}
use Rattle.frz_pair_moves.proofs.Lemmas.{entered_empty}
use Rattle.frz_plane_arms.specs.Arms.{HasNoMember, KingLeadsQuietly, MakesMember}
use Rattle.frz_plane_arms.specs.Inner.{KingSteps}
use Rattle.frz_plane_arms.proofs.LeadingKings.{king_went}

module _ (r : RuleLines) (p : Board) (lines : List Forbid) (planes : List (List ℕ)) (into : Bool)
    (a b : ℕ) (plane : List ℕ) where
  abbrev Steps : Type 0
  Steps = MakesMember r.groups p a b × KingSteps r.groups lines p planes into a b

  -- kings make no position of the set with the same men
  pub no_steps : HasNoMember r.groups (handed p) → has_pair plane a b ≡ false →
      (has_pair plane a b ≡ true)
      ↔ (MakesMember r.groups p a b × KingSteps r.groups lines p planes into a b)
  no_steps none off = (λ h. absurd cc, back)
    where
      back : Steps → has_pair plane a b ≡ true
      back (here, w) =
          let s : ℕ = w.leads.square in
          let went = king_went r p a b s w.leads.on_board here w.leads.leads.legal
          w.leads.leads.inside in
          absurd (none (white_then p.turn a s) (black_then p.turn b s)
          (subst (λ (x : Board). MakesMember r.groups x (white_then p.turn a s) (black_then p.turn b s))
          (entered_empty p s (eqb-true (slice_index p.cells s) 0 w.leads.empty)) went.1))

  -- the same men are those of configuration d
  pub all_steps : (d : ℕ) → IsBoardOf r.groups d (handed p) →
      (has_pair plane a b ≡ true) ↔ (MakesMember r.groups p a b
      × KingLeadsQuietly r.groups lines p (slice_index_or planes d []) into a b) →
      (has_pair plane a b ≡ true)
      ↔ (MakesMember r.groups p a b × KingSteps r.groups lines p planes into a b)
  all_steps d board leads = (forth, back)
    where
      forth : has_pair plane a b ≡ true → Steps
      forth h =
          let w = leads.0 h in (w.0, record { target = d; board = board; leads = w.1 })

      back : Steps → has_pair plane a b ≡ true
      back (here, w) =
          leads.1 (
            here,
            subst (λ (x : ℕ). KingLeadsQuietly r.groups lines p (slice_index_or planes x []) into a b)
                (sym w.board.configuration ∙ board.configuration) w.leads,
          )
