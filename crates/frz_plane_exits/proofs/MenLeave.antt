-- A man's step leaves the set at all pairs at which it is legal, or at none.
use Rattle.std.proofs.Common.{◌≡◌, ℕ, ◌<◌, true, ◌&&◌, List, sym, ◌∙◌, subst}
use Rattle.std.proofs.lemmas.Bool.{and_from, and_parts}
use Rattle.frz_board.specs.Boards.{Board}
use Rattle.frz_board.specs.Moving.{IsStep, Step}
use Rattle.frz_fide.specs.Legal.{after, can_go, is_legal}
use Rattle.frz_sets.specs.Sound.{IsSound}
use Rattle.frz_sets.specs.Views.{RuleLines}
use Rattle.frz_index.specs.Members.{Member}
use Rattle.frz_planes.specs.Planes.{IsPlaneOf, has_pair}
use Rattle.frz_king_planes.specs.Kings.{with_kings}
use Rattle.frz_king_planes.specs.Valid.{AreValid}
use Rattle.frz_kingless.specs.Boards.{IsBoardOf}
use Rattle.frz_kingless.proofs.Lemmas.{known_there, made_member}
use Rattle.frz_pair_moves.specs.Moves.{Makes}
use Rattle.frz_pair_moves.specs.Ways.{leave_way}
use Rattle.frz_pair_moves.proofs.Lemmas.{goes_from, legal_man, man_legal, moved_alike}
use Rattle.frz_plane_arms.specs.Arms.{HasNoMember, MakesMember}
use Rattle.frz_plane_exits.specs.Leaving.{AreLeaving, AreMembers, Leaves}
use Rattle.frz_plane_exits.specs.declared.mover.Mover.TheVariants.{Man}

pub made : (r : RuleLines) (p : Board) (a b : ℕ) → MakesMember r.groups p a b → Makes p a b
made r p a b h = record { free = h.free; valid = h.member.valid }

module _ (r : RuleLines) (p : Board) (m : Step) (sound : IsSound r)
    (can : can_go p m ≡ true) where
  legal_step : (a b : ℕ) → MakesMember r.groups p a b → IsStep m →
      is_legal (with_kings p a b) m ≡ true →
      (can_go p m ≡ true) × (leave_way m a b ≡ true) × Makes (after p m) a b
  legal_step a b h step legal =
      legal_man p m a b step h.white h.black (made r p a b h) (goes_from p m can) legal

  -- the position after it
  position : (a b : ℕ) → MakesMember r.groups p a b → IsStep m → leave_way m a b ≡ true →
      after (with_kings p a b) m ≡ with_kings (after p m) a b
  position a b h step leaves =
      moved_alike p m a b step h.white h.black (made r p a b h) can leaves

  pub man_stays : (d : ℕ) → IsBoardOf r.groups d (after p m) → (a b : ℕ) → a < 64 → b < 64 →
      Leaves r p (Man m) a b → ⊥
  man_stays d board a b la lb h =
      let goes = legal_step a b h.here h.is_step h.legal in
      let known = known_there r p a b sound la lb h.here.free h.here.member.valid h.here.member in
      let inside = made_member r (after p m) a b sound la lb goes.2.free goes.2.valid d board known in
      h.outside (subst (Member r.groups) (sym (position a b h.here h.is_step goes.1)) inside)

  module _ (live valid pairs : List ℕ) (are : AreMembers r.groups p live) (step : IsStep m)
      (then : AreValid (after p m) valid) (none : HasNoMember r.groups (after p m))
      (is : IsPlaneOf pairs
      (λ a b. (has_pair live a b && leave_way m a b) && has_pair valid a b)) where
    forth : (a b : ℕ) → a < 64 → b < 64 → has_pair pairs a b ≡ true → Leaves r p (Man m) a b
    forth a b la lb h =
        let both = and_parts (has_pair live a b && leave_way m a b) (has_pair valid a b)
        (sym (is a b la lb) ∙ h) in
        let first = and_parts (has_pair live a b) (leave_way m a b) both.0 in
        let free = then.free a b la lb both.1 in
        let here = (are a b la lb).0 first.0 in
        let makes : Makes (after p m) a b =
        record { free = free; valid = (then.valid a b la lb free).0 both.1 } in
        record {
          here = here;
          is_step = step;
          legal = man_legal p m a b step la lb (made r p a b here) (can, first.1, makes);
          outside = λ member. none a b (record {
            white = la;
            black = lb;
            free = free;
            member = subst (Member r.groups) (position a b here step first.1) member;
          });
        }

    back : (a b : ℕ) → a < 64 → b < 64 → Leaves r p (Man m) a b → has_pair pairs a b ≡ true
    back a b la lb h =
        let goes = legal_step a b h.here step h.legal in
        is a b la lb
        ∙ and_from (has_pair live a b && leave_way m a b) (has_pair valid a b)
        (and_from (has_pair live a b) (leave_way m a b) ((are a b la lb).1 h.here) goes.1)
        ((then.valid a b la lb goes.2.free).1 goes.2.valid)

    pub man_goes : AreLeaving r p (Man m) pairs
    man_goes a b la lb = (forth a b la lb, back a b la lb)
