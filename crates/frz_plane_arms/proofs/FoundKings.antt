-- Kings that make a valid position, looked for among all known pairs at once.
use Rattle.std.proofs.Common.{◌≡◌, ℕ, true, ◌&&◌, List, Option, None, Some, sym, ◌∙◌, arith}
use Rattle.std.specs.Prelude.{MatchOption}
use Rattle.std.proofs.lemmas.Bool.{and_from, and_parts}
use Rattle.frz_board.specs.Boards.{Board}
use Rattle.frz_sets.specs.Views.{GroupLine}
use Rattle.frz_planes.specs.Planes.{HasNoneFrom, IsNext, IsPlaneOf, has_pair}
use Rattle.frz_king_planes.specs.Valid.{AreValid}
use Rattle.frz_kingless.specs.Boards.{are_known}
use Rattle.frz_plane_arms.specs.Crowning.{HasNoValid, MakesValid}

module _ (gs : List GroupLine) (q : Board) (knows valid pairs : List ℕ)
    (known : IsPlaneOf knows (are_known gs)) (are : AreValid q valid)
    (cut : IsPlaneOf pairs (λ a b. has_pair knows a b && has_pair valid a b)) where
  none_makes : HasNoneFrom pairs 0 → HasNoValid (are_known gs) q
  none_makes none a b h =
      let off = none.none a b h.white h.black (omega arith) in
      let on : has_pair pairs a b ≡ true = cut a b h.white h.black
      ∙ and_from (has_pair knows a b) (has_pair valid a b)
      (known a b h.white h.black ∙ h.known)
      ((are.valid a b h.white h.black h.free).1 h.valid) in
      absurd cc

  next_makes : (a b : ℕ) → IsNext pairs 0 a b → MakesValid (are_known gs) q a b
  next_makes a b next =
      let both = and_parts (has_pair knows a b) (has_pair valid a b)
      (sym (cut a b next.white next.black) ∙ next.there) in
      let free = are.free a b next.white next.black both.1 in
      record {
        white = next.white;
        black = next.black;
        known = sym (known a b next.white next.black) ∙ both.0;
        free = free;
        valid = (are.valid a b next.white next.black free).0 both.1;
      }

  pub made_or_none : (o : Option (ℕ × ℕ)) →
      MatchOption o (HasNoneFrom pairs 0) (λ x. IsNext pairs 0 x.0 x.1) →
      MatchOption o (HasNoValid (are_known gs) q) (λ x. MakesValid (are_known gs) q x.0 x.1)
  made_or_none None h = none_makes h
  made_or_none (Some x) h = next_makes x.0 x.1 h
