-- Each number stands at its spot, and at no other.
use Rattle.std.proofs.Common.{◌≡◌, ℕ, ◌<◌, ◌/◌, ◌%◌, Some, List, [], ◌∷◌, map, refl, ap, sym, ◌∙◌, subst, arith}
use Rattle.frz_board.specs.declared.man.Colour.TheVariants.{White, Black}
use Rattle.frz_board.specs.declared.man.Kind.TheVariants.{King}
use Rattle.frz_combinations.specs.MixedRadix.{AreDigits, digits, product, value}
use Rattle.frz_combinations.proofs.Lemmas.{digits-value, digits_fit, value-digits, value_below}
use Rattle.frz_sets.specs.Sets.{radices, radix_of, size_of}
use Rattle.frz_sets.specs.Sound.{IsSound}
use Rattle.frz_sets.specs.Views.{GroupLine, RuleLines}
use Rattle.frz_configurations.specs.Configurations.{IsSplit, king_state, other_digits, other_radices}
use Rattle.frz_configurations.proofs.Lemmas.{configuration_below, one_number}
use Rattle.frz_plane_game.specs.Spots.{AreSpots, IsSpot, Spot}
use Rattle.frz_plane_chess.specs.Spots.{spot_by, spot_of, spots_of, square_of}
use Rattle.frz_plane_chess.proofs.KingDigits.{king_there}

-- the number is that of its spot, which is on the board
pub record IsPlaced (gs : List GroupLine) (i : ℕ) (spot : Spot) : Type 0 where
  pub split : IsSplit gs i spot.configuration spot.white spot.black
  pub white : spot.white < 64
  pub black : spot.black < 64

pub placed : (r : RuleLines) → IsSound r → (i : ℕ) → i < size_of r.groups →
    IsPlaced r.groups i (spot_of r.groups i)
unfolding spot_of
placed r sound i low =
    let gs = r.groups in
    let ones = map radix_of gs in
    let ds = digits ones (i % product ones) in
    let fits : AreDigits (radices gs) (digits (radices gs) i) = digits_fit (radices gs) i low in
    let white = king_there White [] gs ds sound.lines.groups fits.1 sound.white_king in
    let black = king_there Black [] gs ds sound.lines.groups fits.1 sound.black_king in
    let on_white : square_of (king_state White gs ds) ≡ white.0 = ap square_of white.2 in
    let on_black : square_of (king_state Black gs ds) ≡ black.0 = ap square_of black.2 in
    record {
      split = record {
        turn = i / product ones;
        ds = ds;
        fits = fits;
        number = sym (value-digits (radices gs) i low);
        configuration = refl;
        white = white.2 ∙ ap (λ (s : ℕ). Some (King, s)) (sym on_white);
        black = black.2 ∙ ap (λ (s : ℕ). Some (King, s)) (sym on_black);
      };
      white = subst (λ (s : ℕ). s < 64) (sym on_white) white.1;
      black = subst (λ (s : ℕ). s < 64) (sym on_black) black.1;
    }

same_spot : (c d a x b y : ℕ) (one other : Spot) →
    one ≡ record { configuration = c; white = a; black = b } →
    other ≡ record { configuration = d; white = x; black = y } → c ≡ d → a ≡ x → b ≡ y →
    one ≡ other
same_spot c d a x b y one other e f configuration white black = cc

pub spot_is : (gs : List GroupLine) (i c a b : ℕ) → IsSplit gs i c a b →
    spot_of gs i ≡ record { configuration = c; white = a; black = b }
unfolding spot_of
spot_is gs i c a b h =
    let same : digits (radices gs) i ≡ h.turn ∷ h.ds =
    ap (digits (radices gs)) h.number ∙ digits-value (radices gs) (h.turn ∷ h.ds) h.fits in
    let at : Spot = record { configuration = c; white = a; black = b } in
    ap (spot_by gs) same
    ∙ same_spot (value (other_radices gs) (h.turn ∷ other_digits gs h.ds)) c
    (square_of (king_state White gs h.ds)) a (square_of (king_state Black gs h.ds)) b
    (spot_by gs (h.turn ∷ h.ds)) at refl refl (sym h.configuration) (ap square_of h.white)
    (ap square_of h.black)

pub number_below : (gs : List GroupLine) (i c a b : ℕ) → IsSplit gs i c a b → i < size_of gs
number_below gs i c a b h =
    let below = value_below (radices gs) (h.turn ∷ h.ds) h.fits in let is = h.number in omega arith

-- a number stands where its spot is
pub split_of : (r : RuleLines) → IsSound r → (i c a b : ℕ) → i < size_of r.groups →
    spot_of r.groups i ≡ record { configuration = c; white = a; black = b } →
    IsSplit r.groups i c a b
split_of r sound i c a b low e =
    subst (λ (s : Spot). IsSplit r.groups i s.configuration s.white s.black) e
    (placed r sound i low).split

pub are_spots : (r : RuleLines) → IsSound r → AreSpots (spots_of r.groups)
are_spots r sound = record {
  configuration = λ i low. (
      let s = spot_of r.groups i in
      configuration_below r.groups i s.configuration s.white s.black (placed r sound i low).split);
  white = λ i low. (placed r sound i low).white;
  black = λ i low. (placed r sound i low).black;
  once = λ i j low least e. (
      let s = spot_of r.groups i in
      one_number r i j s.configuration s.white s.black sound (placed r sound i low).split
      (subst (λ (t : Spot). IsSplit r.groups j t.configuration t.white t.black) (sym e)
      (placed r sound j least).split));
}

-- the kings of a number stand on the board
pub on_board : (r : RuleLines) (i c a b : ℕ) → IsSound r → IsSplit r.groups i c a b →
    (a < 64) × (b < 64)
on_board r i c a b sound h =
    let low = number_below r.groups i c a b h in
    let is = spot_is r.groups i c a b h in
    let at = placed r sound i low in (
      subst (λ (s : Spot). s.white < 64) is at.white,
      subst (λ (s : Spot). s.black < 64) is at.black,
    )

-- a number with the kings there stands at their spot
pub is_spot : (r : RuleLines) (i c a b : ℕ) → IsSplit r.groups i c a b →
    IsSpot (spots_of r.groups) c a b
is_spot r i c a b h = record {
  number = i;
  inside = number_below r.groups i c a b h;
  here = spot_is r.groups i c a b h;
}

-- at a spot a number is split
pub split_at : (r : RuleLines) (c a b : ℕ) → IsSound r → IsSpot (spots_of r.groups) c a b →
    (i : ℕ) × IsSplit r.groups i c a b
split_at r c a b sound spot =
    (spot.number, split_of r sound spot.number c a b spot.inside spot.here)
