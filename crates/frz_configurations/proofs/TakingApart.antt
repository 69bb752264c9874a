-- A number taken apart by one group more.
use Rattle.std.proofs.Common.{◌≡◌, ℕ, ◌+◌, ◌*◌, ◌/◌, ◌%◌, ◌<◌, Bool, true, false, not, ◌&&◌, ◌||◌, cond, inl, inr, Some, List, [], ◌∷◌, get_or, length, map, refl, ap, sym, ◌∙◌, arith}
use Rattle.std.specs.List.{slice_get}
use Rattle.std.proofs.lemmas.Bool.{cases_Bool}
use Rattle.std.proofs.lemmas.Nat.{mod_below}
use Rattle.std.proofs.lemmas.Option.{slice_get_read}
use Rattle.std.proofs.Math.Nat.{add_comm, mul_comm}
use Rattle.frz_board.specs.declared.man.Colour.{Colour}
use Rattle.frz_board.specs.declared.man.Colour.TheVariants.{White, Black}
use Rattle.frz_board.specs.declared.man.Kind.{Kind}
use Rattle.frz_board.specs.declared.man.Kind.TheVariants.{King}
use Rattle.frz_board.specs.Men.{same_colour}
use Rattle.frz_combinations.specs.MixedRadix.{product, value}
use Rattle.frz_sets.specs.Groups.{has_king_group}
use Rattle.frz_sets.specs.Sets.{radix_of}
use Rattle.frz_sets.specs.Views.{GroupLine}
use Rattle.frz_configurations.specs.Configurations.{has_kings, king_state, other_digits, others}
use Rattle.frz_configurations.specs.Parts.{AreKings, IsParted, square_of}
use Rattle.frz_configurations.specs.declared.parts.Parts.{Parts}

-- the rest is a digit, and what stands above it
pub whole_more : (n r p v : ℕ) → 0 < r → n * p + v ≡ (n / r) * (r * p) + ((n % r) * p + v)
whole_more n r p v some =
    let parts : n ≡ (n / r) * r + n % r = grind arith in
    let turned : ((n / r) * r + n % r) * p ≡ (n / r) * (r * p) + (n % r) * p = grind arith in
    let times : n * p ≡ ((n / r) * r + n % r) * p = ap (λ m. m * p) parts in
    omega (arith, times, turned)

pub and_false : (t u : Bool) → u ≡ false → (t && u) ≡ false
and_false true u e = e
and_false false u e = refl

pub and_true : (t u : Bool) → u ≡ true → (t && u) ≡ t
and_true true u e = e
and_true false u e = refl

-- a group of other men
pub parted_other : (gs : List GroupLine) (number : ℕ) (g : GroupLine) (r : ℕ) (x y : Parts) →
    IsParted gs number x → has_kings g ≡ false → r ≡ radix_of g → 0 < r → y.rest ≡ x.rest / r →
    y.configuration ≡ x.configuration + x.rest % r * x.count → y.count ≡ x.count * r →
    square_of y White ≡ square_of x White → square_of y Black ≡ square_of x Black →
    IsParted (g ∷ gs) number y
parted_other gs number g r x y h none er some rest configuration count white black =
    let d = x.rest % r in
    let p = product (map radix_of gs) in
    let v = value (map radix_of gs) h.ds in
    let q = product (map radix_of (others gs)) in
    let u = value (map radix_of (others gs)) (other_digits gs h.ds) in
    let low : d < radix_of g = omega (arith, mod_below x.rest r some) in
    let turned : q * r ≡ radix_of g * q = ap (λ n. q * n) er ∙ mul_comm q (radix_of g) in
    record {
      ds = d ∷ h.ds;
      fits = (low, h.fits);
      whole = h.whole ∙ whole_more x.rest r p v some
          ∙ ap (λ n. (x.rest / r) * (n * p) + (d * p + v)) er
          ∙ ap (λ n. n * (radix_of g * p) + (d * p + v)) (sym rest);
      count = count ∙ ap (λ n. n * r) h.count ∙ turned
          ∙ sym (ap (λ t. product (map radix_of (cond (not t) (g ∷ others gs) (others gs)))) none);
      configuration = configuration ∙ ap (λ n. n + d * x.count) h.configuration
          ∙ ap (λ n. u + d * n) h.count ∙ add_comm u (d * q)
          ∙ sym (ap (λ t. value (map radix_of (cond (not t) (g ∷ others gs) (others gs)))
          (cond t (other_digits gs h.ds) (d ∷ other_digits gs h.ds))) none);
      kings = λ c there.
          let test = and_false (same_colour g.colour c) (has_kings g) none in
          ap (λ t. cond t (slice_get g.states d) (king_state c gs h.ds)) test
          ∙ h.kings c (sym (ap (λ t. t || has_king_group gs c) test) ∙ there)
          ∙ ap (λ s. Some (King, s)) (sym (squares c));
    }
  where
    squares : (c : Colour) → square_of y c ≡ square_of x c
    squares White = white
    squares Black = black

-- a group of kings
pub parted_king : (gs : List GroupLine) (number : ℕ) (g : GroupLine) (r s : ℕ) (x y : Parts) →
    IsParted gs number x → has_kings g ≡ true → r ≡ radix_of g → 0 < r → y.rest ≡ x.rest / r →
    y.configuration ≡ x.configuration → y.count ≡ x.count →
    slice_get g.states (x.rest % r) ≡ Some (King, s) →
    ((c : Colour) → same_colour g.colour c ≡ true → square_of y c ≡ s) →
    ((c : Colour) → same_colour g.colour c ≡ false → square_of y c ≡ square_of x c) →
    IsParted (g ∷ gs) number y
parted_king gs number g r s x y h kings er some rest configuration count state own other =
    let d = x.rest % r in
    let p = product (map radix_of gs) in
    let v = value (map radix_of gs) h.ds in
    let low : d < radix_of g = omega (arith, mod_below x.rest r some) in
    record {
      ds = d ∷ h.ds;
      fits = (low, h.fits);
      whole = h.whole ∙ whole_more x.rest r p v some
          ∙ ap (λ n. (x.rest / r) * (n * p) + (d * p + v)) er
          ∙ ap (λ n. n * (radix_of g * p) + (d * p + v)) (sym rest);
      count = count ∙ h.count
          ∙ sym (ap (λ t. product (map radix_of (cond (not t) (g ∷ others gs) (others gs)))) kings);
      configuration = configuration ∙ h.configuration
          ∙ sym (ap (λ t. value (map radix_of (cond (not t) (g ∷ others gs) (others gs)))
          (cond t (other_digits gs h.ds) (d ∷ other_digits gs h.ds))) kings);
      kings = λ c there.
          let test = and_true (same_colour g.colour c) (has_kings g) kings in
          ap (λ t. cond t (slice_get g.states d) (king_state c gs h.ds)) test
          ∙ elim (cases_Bool (same_colour g.colour c)) [
            | inl same ↦ ap (λ t. cond t (slice_get g.states d) (king_state c gs h.ds)) same
                ∙ state ∙ ap (λ n. Some (King, n)) (sym (own c same))
            | inr differs ↦
                ap (λ t. cond t (slice_get g.states d) (king_state c gs h.ds)) differs
                ∙ h.kings c (sym (ap (λ t. t || has_king_group gs c) (test ∙ differs)) ∙ there)
                ∙ ap (λ n. Some (King, n)) (sym (other c differs))
          ];
    }

pub parted_none : (number : ℕ) (x : Parts) → x.rest ≡ number → x.configuration ≡ 0 → x.count ≡ 1 →
    IsParted [] number x
parted_none number x rest configuration count = record {
  ds = [];
  fits = refl;
  whole = omega arith;
  count = count;
  configuration = configuration;
  kings = λ c there. absurd cc;
}

-- a group of White's kings, and one of Black's
pub parted_white : (gs : List GroupLine) (number : ℕ) (g : GroupLine) (r s : ℕ) (x y : Parts) →
    IsParted gs number x → g.colour ≡ White → has_kings g ≡ true → r ≡ radix_of g → 0 < r →
    y.rest ≡ x.rest / r → y.configuration ≡ x.configuration → y.count ≡ x.count →
    slice_get g.states (x.rest % r) ≡ Some (King, s) → square_of y White ≡ s →
    square_of y Black ≡ square_of x Black → IsParted (g ∷ gs) number y
parted_white gs number g r s x y h white kings er some rest configuration count state here there =
    parted_king gs number g r s x y h kings er some rest configuration count state own other
  where
    own : (c : Colour) → same_colour g.colour c ≡ true → square_of y c ≡ s
    own White same = here
    own Black same = absurd (let e = sym (ap (λ d. same_colour d Black) white) ∙ same in cc)

    other : (c : Colour) → same_colour g.colour c ≡ false → square_of y c ≡ square_of x c
    other White same = absurd (let e = sym (ap (λ d. same_colour d White) white) ∙ same in cc)
    other Black same = there

pub parted_black : (gs : List GroupLine) (number : ℕ) (g : GroupLine) (r s : ℕ) (x y : Parts) →
    IsParted gs number x → g.colour ≡ Black → has_kings g ≡ true → r ≡ radix_of g → 0 < r →
    y.rest ≡ x.rest / r → y.configuration ≡ x.configuration → y.count ≡ x.count →
    slice_get g.states (x.rest % r) ≡ Some (King, s) → square_of y Black ≡ s →
    square_of y White ≡ square_of x White → IsParted (g ∷ gs) number y
parted_black gs number g r s x y h black kings er some rest configuration count state here there =
    parted_king gs number g r s x y h kings er some rest configuration count state own other
  where
    own : (c : Colour) → same_colour g.colour c ≡ true → square_of y c ≡ s
    own Black same = here
    own White same = absurd (let e = sym (ap (λ d. same_colour d White) black) ∙ same in cc)

    other : (c : Colour) → same_colour g.colour c ≡ false → square_of y c ≡ square_of x c
    other Black same = absurd (let e = sym (ap (λ d. same_colour d Black) black) ∙ same in cc)
    other White same = there

-- the state that was read is a king's
pub king_read : (g v : GroupLine) (items : List (Kind × ℕ)) (k r : ℕ) (state : Kind × ℕ) → v ≡ g →
    items ≡ v.states → AreKings g → r ≡ radix_of g → k < r → state ≡ get_or items k state →
    slice_get g.states k ≡ Some (King, state.1)
king_read g v items k r state view read all er low e =
    let same : items ≡ g.states = read ∙ ap (λ x. x.states) view in
    let each = all.each in
    let fits : k < length items = omega (arith, ap length same) in
    let there : slice_get g.states k ≡ Some state = ap (λ xs. slice_get xs k) (sym same)
    ∙ slice_get_read items (length items) k state refl fits e in
    there ∙ ap (λ kind. Some (kind, state.1)) (all.kings k state there)
