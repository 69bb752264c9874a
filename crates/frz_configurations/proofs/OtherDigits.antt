-- The digits of the groups of other men, among those of all groups.
use Rattle.std.proofs.Common.{◌≡◌, ℕ, ◌<◌, true, false, not, cond, List, [], ◌∷◌, map, refl, ap, sym, ◌∙◌, arith}
use Rattle.frz_combinations.specs.MixedRadix.{AreDigits, digits, value}
use Rattle.frz_combinations.proofs.Lemmas.{digits-value, value_below}
use Rattle.frz_sets.specs.Sets.{radices, radix_of, size_of}
use Rattle.frz_sets.specs.Views.{GroupLine}
use Rattle.frz_configurations.specs.Configurations.{IsSplit, configuration_count, has_kings, other_digits, other_radices, others}

-- the digits of a position
pub other_digits-map : (f : GroupLine → ℕ) (gs : List GroupLine) →
    other_digits gs (map f gs) ≡ map f (others gs)
other_digits-map f [] = refl
other_digits-map f (g ∷ gs) =
    elim (has_kings g) as (λ t. cond t (other_digits gs (map f gs)) (f g ∷ other_digits gs (map f gs))
    ≡ map f (cond (not t) (g ∷ others gs) (others gs))) [
      | true ↦ other_digits-map f gs
      | false ↦ ap (λ ds. f g ∷ ds) (other_digits-map f gs)
    ]

-- each is below its radix
pub other_digits_fit : (gs : List GroupLine) (ds : List ℕ) → AreDigits (map radix_of gs) ds →
    AreDigits (map radix_of (others gs)) (other_digits gs ds)
other_digits_fit [] ds h = refl
other_digits_fit (g ∷ gs) [] h = absurd h
other_digits_fit (g ∷ gs) (d ∷ ds) h =
    elim (has_kings g) as (λ t. AreDigits (map radix_of (cond (not t) (g ∷ others gs) (others gs)))
    (cond t (other_digits gs ds) (d ∷ other_digits gs ds))) [
      | true ↦ other_digits_fit gs ds h.1
      | false ↦ (h.0, other_digits_fit gs ds h.1)
    ]

pub configuration_below : (gs : List GroupLine) (i c a b : ℕ) → IsSplit gs i c a b →
    c < configuration_count gs
configuration_below gs i c a b h =
    let below = value_below (other_radices gs) (h.turn ∷ other_digits gs h.ds)
    (h.fits.0, other_digits_fit gs h.ds h.fits.1) in
    let is = h.configuration in
    omega arith

pub number_below : (gs : List GroupLine) (i c a b : ℕ) → IsSplit gs i c a b → i < size_of gs
number_below gs i c a b h =
    let below = value_below (radices gs) (h.turn ∷ h.ds) h.fits in let is = h.number in omega arith

-- digits of one number are the same
pub same_digits : (bs ds es : List ℕ) → AreDigits bs ds → AreDigits bs es →
    value bs ds ≡ value bs es → ds ≡ es
same_digits bs ds es h k e =
    sym (digits-value bs ds h) ∙ ap (digits bs) e ∙ digits-value bs es k
