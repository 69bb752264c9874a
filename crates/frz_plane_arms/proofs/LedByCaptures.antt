-- The pairs at which captures of a king lead to pairs of planes, or to others, arm by arm.
use Rattle.std.proofs.Common.{◌≡◌, ℕ, ◌+◌, ◌<◌, ◌≤◌, Bool, true, false, ◌||◌, Some, List, [], length, ap, sym, ◌∙◌, subst, arith, inl, inr}
use Rattle.std.specs.Prelude.{◌↔◌}
use Rattle.std.specs.List.{slice_get, slice_index_or}
use Rattle.std.proofs.lemmas.Bool.{cases_lt, or_cases, or_left, or_right}
use Rattle.std.proofs.lemmas.Option.{same_Some, slice_get_within}
use Rattle.frz_board.specs.declared.man.Colour.{Colour}
use Rattle.frz_board.specs.Boards.{Board, holds}
use Rattle.frz_board.specs.Men.{other_of}
use Rattle.frz_sets.specs.Sound.{IsSound}
use Rattle.frz_sets.specs.Views.{RuleLines}
use Rattle.frz_sets.specs.declared.forbid.Forbid.{Forbid}
use Rattle.frz_configurations.specs.Configurations.{configuration_of}
use Rattle.frz_planes.specs.Planes.{IsPlaneOf, has_pair}
use Rattle.frz_kingless.specs.Boards.{AreLive, IsBoardOf}
use Rattle.frz_pair_moves.specs.Kings.{black_then, white_then}
use Rattle.frz_pair_moves.specs.Moves.{entered}
use Rattle.frz_plane_arms.specs.Arms.{KingLeads, MakesMember}
use Rattle.frz_plane_arms.specs.MenArms.{AreAllLive}
use Rattle.frz_plane_arms.specs.Inner.{AreKingArms, KingTakes}
use Rattle.frz_plane_arms.specs.declared.taking.KingArm.{KingArm}
use Rattle.frz_plane_arms.proofs.LeadingKings.{king_went}

-- the plane has the pairs at which this arm leads to a pair that `to` has, or has not
abbrev pub Leads : List Forbid → Colour → List ℕ → Bool → KingArm →
    (next to plane : List ℕ) → Type 0
Leads lines turn live into arm next to plane =
    (r : RuleLines) (p : Board) (c d : ℕ) → IsSound r → p.turn ≡ turn →
    holds p (other_of turn) arm.square ≡ true → IsBoardOf r.groups c p →
    AreLive r.groups c live → IsBoardOf r.groups d (entered p arm.square) →
    AreLive r.groups d next → (a b : ℕ) → a < 64 → b < 64 → (has_pair plane a b ≡ true)
    ↔ (MakesMember r.groups p a b × KingLeads r.groups lines p to into a b arm.square)

module _ (lines : List Forbid) (turn : Colour) (arms : List KingArm) (live : List ℕ)
    (lives planes : List (List ℕ)) (into : Bool) where
  -- one of the first n arms leads there
  pub record Taken (r : RuleLines) (p : Board) (n a b : ℕ) : Type 0 where
    pub place : ℕ
    pub low : place < n
    pub arm : KingArm
    pub there : slice_get arms place ≡ Some arm
    pub on_board : arm.square < 64
    pub leads : KingLeads r.groups lines p (slice_index_or planes arm.target []) into a b arm.square

  -- the plane has the pairs at which one of the first n arms leads, where these are captures
  pub record AreTaken (n : ℕ) (plane : List ℕ) : Type 0 where
    pub taken : (r : RuleLines) (p : Board) (c : ℕ) → IsSound r → p.turn ≡ turn →
        IsBoardOf r.groups c p → AreLive r.groups c live → AreKingArms r.groups p arms →
        AreAllLive r.groups lives → (a b : ℕ) → a < 64 → b < 64 →
        (has_pair plane a b ≡ true) ↔ (MakesMember r.groups p a b × Taken r p n a b)

  pub none_taken : (plane : List ℕ) → IsPlaneOf plane (λ a b. false) → AreTaken 0 plane
  none_taken plane none = record {
    taken = λ r p c sound mover board are all lively a b la lb. (
      λ h. absurd (let e = none a b la lb in cc),
      λ h. let low = h.1.low in absurd (omega arith),
    );
  }

  pub record Takes (arm : KingArm) (plane : List ℕ) : Type 0 where
    pub on_board : arm.square < 64
    pub leads : Leads lines turn live into arm (slice_index_or lives arm.target [])
        (slice_index_or planes arm.target []) plane

  later : (r : RuleLines) (p : Board) (n a b : ℕ) → Taken r p n a b → Taken r p (n + 1) a b
  later r p n a b w =
      let low = w.low in
      record {
        place = w.place;
        low = omega arith;
        arm = w.arm;
        there = w.there;
        on_board = w.on_board;
        leads = w.leads;
      }

  pub taken_more : (n : ℕ) (arm : KingArm) (plane one then : List ℕ) → AreTaken n plane →
      slice_get arms n ≡ Some arm → Takes arm one →
      IsPlaneOf then (λ a b. has_pair plane a b || has_pair one a b) → AreTaken (n + 1) then
  taken_more n arm plane one then h there takes union = record {
    taken = λ r p c sound mover board are all lively a b la lb.
        let is = all.each n arm there in
        let before = h.taken r p c sound mover board are all lively a b la lb in
        let here = takes.leads r p c arm.target sound mover
        (ap (λ t. holds p (other_of t) arm.square) (sym mover) ∙ is.taken) board are is.board
        (lively arm.target is.inside) a b la lb in (
          λ k.
              elim (or_cases (has_pair plane a b) (has_pair one a b) (sym (union a b la lb) ∙ k)) [
                | inl old ↦ (let w = before.0 old in (w.0, later r p n a b w.1))
                | inr new ↦ (let w = here.0 new in (
                  w.0,
                  record {
                    place = n;
                    low = omega arith;
                    arm = arm;
                    there = there;
                    on_board = takes.on_board;
                    leads = w.1;
                  },
                ))
              ],
          λ k.
              let w = k.1 in
              let low = w.low in
              union a b la lb
              ∙ elim (cases_lt w.place n) [
                | inl less ↦ or_left (has_pair plane a b) (has_pair one a b)
                    (before.1 (
                      k.0,
                      record {
                        place = w.place;
                        low = less;
                        arm = w.arm;
                        there = w.there;
                        on_board = w.on_board;
                        leads = w.leads;
                      },
                    ))
                | inr more ↦ or_right (has_pair plane a b) (has_pair one a b)
                    (let same : w.place ≡ n = omega arith in
                    let this : w.arm ≡ arm =
                    sym (same_Some arm w.arm (sym there ∙ ap (slice_get arms) (sym same) ∙ w.there)) in
                    here.1 (
                      k.0,
                      subst (λ (x : KingArm). KingLeads r.groups lines p
                          (slice_index_or planes x.target []) into a b x.square) this w.leads,
                    ))
              ],
        );
  }

  -- what all arms lead to, in chess
  pub taken_at_last : (n : ℕ) (plane : List ℕ) → length arms ≤ n → AreTaken n plane →
      (r : RuleLines) (p : Board) (c : ℕ) → IsSound r → p.turn ≡ turn → IsBoardOf r.groups c p →
      AreLive r.groups c live → AreKingArms r.groups p arms → AreAllLive r.groups lives →
      (a b : ℕ) → a < 64 → b < 64 → (has_pair plane a b ≡ true)
      ↔ (MakesMember r.groups p a b × KingTakes r.groups lines p planes into a b)
  taken_at_last n plane end h r p c sound mover board are all lively a b la lb = (forth, back)
    where
      forth : has_pair plane a b ≡ true →
          MakesMember r.groups p a b × KingTakes r.groups lines p planes into a b
      forth k =
          let w = (h.taken r p c sound mover board are all lively a b la lb).0 k in
          let is = all.each w.1.place w.1.arm w.1.there in (
            w.0,
            record {
              square = w.1.arm.square;
              on_board = w.1.on_board;
              taken = is.taken;
              target = w.1.arm.target;
              board = is.board;
              leads = w.1.leads;
            },
          )

      back : MakesMember r.groups p a b × KingTakes r.groups lines p planes into a b →
          has_pair plane a b ≡ true
      back k =
          let s : ℕ = k.1.square in
          let went = king_went r p a b s k.1.on_board k.0 k.1.leads.legal k.1.leads.inside in
          let has = all.all s (white_then p.turn a s) (black_then p.turn b s) k.1.on_board k.1.taken
          went.1 in
          let is = all.each has.place has.arm has.there in
          let target : k.1.target ≡ has.arm.target = sym k.1.board.configuration
          ∙ ap (λ x. configuration_of r.groups (entered p x)) (sym has.square)
          ∙ is.board.configuration in
          let low = slice_get_within arms has.place has.arm has.there in
          (h.taken r p c sound mover board are all lively a b la lb).1 (
            k.0,
            record {
              place = has.place;
              low = omega arith;
              arm = has.arm;
              there = has.there;
              on_board = subst (λ (x : ℕ). x < 64) (sym has.square) k.1.on_board;
              leads = subst (λ (x : ℕ). KingLeads r.groups lines p
                  (slice_index_or planes has.arm.target []) into a b x) (sym has.square)
                  (subst (λ (t : ℕ). KingLeads r.groups lines p (slice_index_or planes t []) into a b s)
                  target k.1.leads);
            },
          )
