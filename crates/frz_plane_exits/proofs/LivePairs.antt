-- The live pairs of a configuration are those on which the kings make positions of the set.
use Rattle.std.proofs.Common.{◌≡◌, ℕ, ◌<◌, true, List, refl, subst}
use Rattle.frz_board.specs.Boards.{Board}
use Rattle.frz_sets.specs.Sound.{IsSound}
use Rattle.frz_sets.specs.Views.{GroupLine, RuleLines}
use Rattle.frz_index.specs.Members.{Member, Num}
use Rattle.frz_planes.specs.Planes.{has_pair}
use Rattle.frz_king_planes.specs.Kings.{with_kings}
use Rattle.frz_kingless.proofs.Lemmas.{are_empty, is_that, known_there, made_split}
use Rattle.frz_plane_arms.specs.Arms.{MakesMember}
use Rattle.frz_plane_exits.specs.Exits.{HasLivePairs}
use Rattle.frz_plane_exits.specs.Leaving.{AreMembers}

module _ (r : RuleLines) (p : Board) (live : List ℕ) (sound : IsSound r)
    (has : HasLivePairs r.groups p live) (a b : ℕ) (la : a < 64) (lb : b < 64) where
  lives : has_pair live a b ≡ true → MakesMember r.groups p a b
  lives h =
      let c = has.configuration in
      let split = has.are_live.only a b la lb h in
      let held = (has.are_live.there split.0 a b split.1).0 h in
      record {
        white = la;
        black = lb;
        free = are_empty r held.0 split.0 c a b sound split.1 held.1 p has.board;
        member = subst (Member r.groups)
            (is_that r held.0 split.0 c a b sound split.1 held.1 p has.board) held.1.member;
      }

  living : MakesMember r.groups p a b → has_pair live a b ≡ true
  living h =
      let known = known_there r p a b sound la lb h.free h.member.valid h.member in
      let split = made_split r p a b sound la lb h.free h.member.valid has.configuration has.board
      known in
      (has.are_live.there (Num r.groups (with_kings p a b)) a b split).1
      (with_kings p a b, record { member = h.member; number = refl })

pub members : (r : RuleLines) (gs : List GroupLine) (p : Board) (live : List ℕ) → IsSound r →
    gs ≡ r.groups → HasLivePairs gs p live → AreMembers r.groups p live
members r gs p live sound e has a b la lb =
    let there = subst (λ (xs : List GroupLine). HasLivePairs xs p live) e has in
    (lives r p live sound there a b la lb, living r p live sound there a b la lb)
