-- The pairs at which a step leads to pairs of a plane, or to others.
use Rattle.std.proofs.Common.{◌≡◌, ℕ, ◌<◌, Bool, true, false, ◌&&◌, List, refl, sym, ◌∙◌, subst}
use Rattle.std.specs.Prelude.{◌↔◌}
use Rattle.std.proofs.lemmas.Bool.{and_from, and_parts, and_right, not-true, not_from_false}
use Rattle.frz_board.specs.Boards.{Board}
use Rattle.frz_board.specs.Moving.{Step, IsStep}
use Rattle.frz_fide.specs.Legal.{after, can_go, is_legal}
use Rattle.frz_sets.specs.Sound.{IsSound}
use Rattle.frz_sets.specs.Views.{RuleLines}
use Rattle.frz_index.specs.Members.{Member, Num}
use Rattle.frz_planes.specs.Planes.{IsPlaneOf, has_pair}
use Rattle.frz_king_planes.specs.Kings.{with_kings}
use Rattle.frz_kingless.specs.Boards.{AreLive, IsBoardOf}
use Rattle.frz_kingless.proofs.Lemmas.{are_empty, is_that, known_there, made_split}
use Rattle.frz_pair_moves.specs.Ways.{leave_way}
use Rattle.frz_pair_moves.proofs.Lemmas.{goes_from, legal_man, man_legal, moved_alike}
use Rattle.frz_plane_arms.specs.Arms.{MakesMember, is_as, is_led}
use Rattle.frz_plane_arms.proofs.Standing.{made, man_stands}

pub as_is : (into test : Bool) → is_as into test ≡ true → test ≡ into
as_is true test h = h
as_is false test h = not-true test h

pub is_that_way : (into test : Bool) → test ≡ into → is_as into test ≡ true
is_that_way true test h = h
is_that_way false test h = not_from_false test h

-- the live pairs of a configuration are those on which the kings make positions of the set
module _ (r : RuleLines) (p : Board) (c : ℕ) (live : List ℕ) (sound : IsSound r)
    (board : IsBoardOf r.groups c p) (are : AreLive r.groups c live) (a b : ℕ) (la : a < 64)
    (lb : b < 64) where
  pub lives : has_pair live a b ≡ true → MakesMember r.groups p a b
  lives h =
      let split = are.only a b la lb h in
      let held = (are.there split.0 a b split.1).0 h in
      record {
        white = la;
        black = lb;
        free = are_empty r held.0 split.0 c a b sound split.1 held.1 p board;
        member = subst (Member r.groups)
            (is_that r held.0 split.0 c a b sound split.1 held.1 p board) held.1.member;
      }

  pub living : MakesMember r.groups p a b → has_pair live a b ≡ true
  living h =
      let known = known_there r p a b sound la lb h.free h.member.valid h.member in
      let split = made_split r p a b sound la lb h.free h.member.valid c board known in
      (are.there (Num r.groups (with_kings p a b)) a b split).1
      (with_kings p a b, record { member = h.member; number = refl })

module _ (r : RuleLines) (p : Board) (m : Step) (c d : ℕ) (live next : List ℕ) (sound : IsSound r)
    (board : IsBoardOf r.groups c p) (are : AreLive r.groups c live) (can : can_go p m ≡ true)
    (then : IsBoardOf r.groups d (after p m)) (lively : AreLive r.groups d next) (step : IsStep m)
    (to : List ℕ) (into : Bool) (a b : ℕ) (la : a < 64) (lb : b < 64) where
  pub led_forth : is_led m live next to into a b ≡ true → MakesMember r.groups p a b
      × (is_legal (with_kings p a b) m ≡ true) × (has_pair to a b ≡ into)
  led_forth h =
      let parts = and_parts (has_pair live a b && leave_way m a b)
      (has_pair next a b && is_as into (has_pair to a b)) h in
      let first = and_parts (has_pair live a b) (leave_way m a b) parts.0 in
      let last = and_parts (has_pair next a b) (is_as into (has_pair to a b)) parts.1 in
      let here = lives r p c live sound board are a b la lb first.0 in
      let there = lives r (after p m) d next sound then lively a b la lb last.0 in (
        here,
        man_legal p m a b step la lb (made r p a b here)
            (can, first.1, made r (after p m) a b there),
        as_is into (has_pair to a b) last.1,
      )

  pub led_back : MakesMember r.groups p a b × (is_legal (with_kings p a b) m ≡ true)
      × (has_pair to a b ≡ into) → is_led m live next to into a b ≡ true
  led_back h =
      let now = made r p a b h.0 in
      let own = goes_from p m can in
      let goes = legal_man p m a b step la lb now own h.1 in
      let member = (man_stands r p m a b sound h.0 step own h.1).member.1 (d, then) in
      let there : MakesMember r.groups (after p m) a b = record {
        white = la;
        black = lb;
        free = goes.2.free;
        member = subst (Member r.groups) (moved_alike p m a b step la lb now goes.0 goes.1) member;
      } in
      and_from (has_pair live a b && leave_way m a b)
      (has_pair next a b && is_as into (has_pair to a b))
      (and_from (has_pair live a b) (leave_way m a b)
      (living r p c live sound board are a b la lb h.0) goes.1)
      (and_from (has_pair next a b) (is_as into (has_pair to a b))
      (living r (after p m) d next sound then lively a b la lb there)
      (is_that_way into (has_pair to a b) h.2))

  pub leading : (plane : List ℕ) → IsPlaneOf plane (is_led m live next to into) →
      (has_pair plane a b ≡ true) ↔ (MakesMember r.groups p a b
      × (is_legal (with_kings p a b) m ≡ true) × (has_pair to a b ≡ into))
  leading plane led =
      (λ h. led_forth (sym (led a b la lb) ∙ h), λ h. led a b la lb ∙ led_back h)

-- no step leads to a plane that has no pair
pub led_nowhere : (m : Step) (live next to : List ℕ) (into : Bool) (a b : ℕ) →
    is_as into (has_pair to a b) ≡ false → is_led m live next to into a b ≡ false
led_nowhere m live next to into a b h =
    and_right (has_pair live a b && leave_way m a b) (has_pair next a b && is_as into (has_pair to a b))
    (and_right (has_pair next a b) (is_as into (has_pair to a b)) h)
