-- Boards that steps leave, with a king on a square.
use Rattle.std.proofs.Common.{◌≡◌, ℕ, Bool, true, false, ◌&&◌, ◌⊎◌, List, refl, ap, sym, ◌∙◌, inl, inr}
use Rattle.std.proofs.lemmas.Bool.{and_parts, both_ways}
use Rattle.frz_board.specs.declared.man.Colour.{Colour}
use Rattle.frz_board.specs.declared.man.Colour.TheVariants.{White, Black}
use Rattle.frz_board.specs.Boards.{Board}
use Rattle.frz_sets.specs.Sound.{IsSound}
use Rattle.frz_sets.specs.Views.{GroupLine, RuleLines}
use Rattle.frz_index.specs.Kept.{is_known}
use Rattle.frz_king_planes.specs.Kings.{king_cell, king_square}
use Rattle.frz_kingless.specs.Boards.{are_known}
use Rattle.frz_kingless.proofs.Lemmas.{known_there}
use Rattle.frz_plane_arms.specs.Arms.{MakesMember}
use Rattle.frz_plane_exits.specs.Leaving.{IsLeft}
use Rattle.frz_plane_exits.specs.declared.left.Left.{Left}

known_of : (gs : List GroupLine) (c : Colour) (a b : ℕ) → are_known gs a b ≡ true →
    is_known gs (king_cell c) (king_square c a b) ≡ true
known_of gs White a b h =
    (and_parts (is_known gs (king_cell White) a) (is_known gs (king_cell Black) b) h).0
known_of gs Black a b h =
    (and_parts (is_known gs (king_cell White) a) (is_known gs (king_cell Black) b) h).1

one_fails : (x y : Bool) → (x && y) ≡ false → (x ≡ false) ⊎ (y ≡ false)
one_fails true y h = inr h
one_fails false y h = inl refl

-- no position of the set has the side's king there on the board
pub no_king_there : (r : RuleLines) (q : Board) (left : Left) (side : Colour) (s : ℕ) → IsSound r →
    IsLeft r.groups q left → (left.is_inside && is_known r.groups (king_cell side) s) ≡ false →
    (a b : ℕ) → king_square side a b ≡ s → MakesMember r.groups q a b → ⊥
no_king_there r q left side s sound is off a b e h =
    elim (one_fails left.is_inside (is_known r.groups (king_cell side) s) off) [
      | inl none ↦ is.outside none a b h
      | inr unknown ↦ both_ways (is_known r.groups (king_cell side) s) unknown
          (ap (is_known r.groups (king_cell side)) (sym e)
          ∙ known_of r.groups side a b
          (known_there r q a b sound h.white h.black h.free h.member.valid h.member))
    ]
