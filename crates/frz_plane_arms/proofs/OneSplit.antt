-- A number has one configuration, and one square for each king.
use Rattle.std.proofs.Common.{◌≡◌, ℕ, Option, Some, List, ◌∷◌, ap, sym, ◌∙◌}
use Rattle.std.proofs.lemmas.Option.{same_Some}
use Rattle.frz_board.specs.declared.man.Colour.TheVariants.{White, Black}
use Rattle.frz_board.specs.declared.man.Kind.{Kind}
use Rattle.frz_board.specs.declared.man.Kind.TheVariants.{King}
use Rattle.frz_sets.specs.Sets.{radices}
use Rattle.frz_sets.specs.Views.{GroupLine}
use Rattle.frz_configurations.specs.Configurations.{IsSplit, king_state}
use Rattle.frz_configurations.proofs.Lemmas.{one_configuration, same_digits}

same_square : (o : Option (Kind × ℕ)) (a b : ℕ) → o ≡ Some (King, a) → o ≡ Some (King, b) → a ≡ b
same_square o a b h k =
    let same : (King, a) ≡ (King, b) = same_Some (King, a) (King, b) (sym h ∙ k) in
    ap (λ (s : Kind × ℕ). s.1) same

pub one_split : (gs : List GroupLine) (i c d a b x y : ℕ) → IsSplit gs i c a b →
    IsSplit gs i d x y → (c ≡ d) × (a ≡ x) × (b ≡ y)
one_split gs i c d a b x y h k =
    let same : h.turn ∷ h.ds ≡ k.turn ∷ k.ds =
    same_digits (radices gs) (h.turn ∷ h.ds) (k.turn ∷ k.ds) h.fits k.fits
    (sym h.number ∙ k.number) in
    let digits : h.ds ≡ k.ds = cc in (
      one_configuration gs i c d a b x y h k,
      same_square (king_state White gs h.ds) a x h.white (ap (king_state White gs) digits ∙ k.white),
      same_square (king_state Black gs h.ds) b y h.black (ap (king_state Black gs) digits ∙ k.black),
    )
