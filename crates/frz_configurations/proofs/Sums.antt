-- A number as a sum: what its configuration adds, and what each king's square adds.
use Rattle.std.proofs.Common.{◌≡◌, ℕ, ◌+◌, ◌*◌, Bool, true, false, ◌&&◌, cond, Some, List, [], ◌∷◌, ◌++◌, map, slice_index, refl, ap, sym, ◌∙◌, arith, inl, inr}
use Rattle.std.specs.List.{slice_get}
use Rattle.std.proofs.lemmas.Bool.{and_parts, cases_Bool}
use Rattle.frz_board.specs.declared.man.Colour.{Colour}
use Rattle.frz_board.specs.declared.man.Colour.TheVariants.{White, Black}
use Rattle.frz_board.specs.declared.man.Kind.TheVariants.{King}
use Rattle.frz_board.specs.Men.{same_colour}
use Rattle.frz_combinations.specs.MixedRadix.{AreDigits, product, value}
use Rattle.frz_fide.proofs.Lemmas.{same_side}
use Rattle.frz_sets.specs.Groups.{has_king_group}
use Rattle.frz_sets.specs.Sets.{radix_of}
use Rattle.frz_sets.specs.Sound.{AreSoundAfter, IsSound}
use Rattle.frz_sets.specs.Views.{GroupLine, RuleLines}
use Rattle.frz_configurations.specs.Configurations.{IsSplit, has_kings, king_state, other_digits, other_radices}
use Rattle.frz_configurations.specs.Shares.{AreFirst, AreMoved, AreShares}
use Rattle.frz_configurations.specs.declared.configurations.Split.{Split}
use Rattle.frz_configurations.proofs.KingStates.{kingly}
use Rattle.frz_configurations.proofs.OneNumber.{IsSameKing, king_squares, none_more, one_place}
use Rattle.frz_configurations.proofs.OtherDigits.{configuration_below, other_digits_fit, same_digits}

-- what the digits of the groups of other men add
abbrev of_others : List GroupLine → List ℕ → ℕ
of_others [] ds = 0
of_others (g ∷ gs) [] = 0
of_others (g ∷ gs) (d ∷ ds) =
    cond (has_kings g) 0 (d * product (map radix_of gs)) + of_others gs ds

-- what the digits of the groups of kings of the colour add
abbrev of_kings : Colour → List GroupLine → List ℕ → ℕ
of_kings c [] ds = 0
of_kings c (g ∷ gs) [] = 0
of_kings c (g ∷ gs) (d ∷ ds) =
    cond (same_colour g.colour c && has_kings g) (d * product (map radix_of gs)) 0
    + of_kings c gs ds

one_part : (b : Bool) (c : Colour) (x v o w k : ℕ) → v ≡ o + (w + k) →
    x + v ≡ (cond b 0 x + o)
    + ((cond (same_colour c White && b) x 0 + w) + (cond (same_colour c Black && b) x 0 + k))
one_part true White x v o w k e = omega arith
one_part true Black x v o w k e = omega arith
one_part false White x v o w k e = omega arith
one_part false Black x v o w k e = omega arith

three_parts : (gs : List GroupLine) (ds : List ℕ) →
    value (map radix_of gs) ds ≡ of_others gs ds + (of_kings White gs ds + of_kings Black gs ds)
three_parts [] ds = omega arith
three_parts (g ∷ gs) [] = omega arith
three_parts (g ∷ gs) (d ∷ ds) =
    one_part (has_kings g) g.colour (d * product (map radix_of gs)) (value (map radix_of gs) ds)
    (of_others gs ds) (of_kings White gs ds) (of_kings Black gs ds) (three_parts gs ds)

others_same : (gs : List GroupLine) (ds es : List ℕ) → AreDigits (map radix_of gs) ds →
    AreDigits (map radix_of gs) es → other_digits gs ds ≡ other_digits gs es →
    of_others gs ds ≡ of_others gs es
others_same [] ds es hd he e = refl
others_same (g ∷ gs) [] es hd he e = absurd hd
others_same (g ∷ gs) (d ∷ ds) [] hd he e = absurd he
others_same (g ∷ gs) (d ∷ ds) (x ∷ es) hd he e =
    let p = product (map radix_of gs) in
    let either : (b : Bool) → cond b (other_digits gs ds) (d ∷ other_digits gs ds)
    ≡ cond b (other_digits gs es) (x ∷ other_digits gs es) →
    cond b 0 (d * p) + of_others gs ds ≡ cond b 0 (x * p) + of_others gs es =
    λ b. elim b as (λ b. cond b (other_digits gs ds) (d ∷ other_digits gs ds)
    ≡ cond b (other_digits gs es) (x ∷ other_digits gs es) →
    cond b 0 (d * p) + of_others gs ds ≡ cond b 0 (x * p) + of_others gs es) [
      | true ↦ λ s. ap (λ n. 0 + n) (others_same gs ds es hd.1 he.1 s)
      | false ↦ λ s.
          let here : d ≡ x = cc in
          let rest : other_digits gs ds ≡ other_digits gs es = cc in
          ap (λ n. n * p + of_others gs ds) here
          ∙ ap (λ n. x * p + n) (others_same gs ds es hd.1 he.1 rest)
    ] in
    either (has_kings g) e

-- the king of a colour adds the same by digits that give him one state
kings_same : (c : Colour) (earlier gs : List GroupLine) (ds es : List ℕ) →
    AreSoundAfter earlier gs → AreDigits (map radix_of gs) ds → AreDigits (map radix_of gs) es →
    (has_king_group earlier c ≡ false → IsSameKing gs ds es c) →
    of_kings c gs ds ≡ of_kings c gs es
kings_same c earlier [] ds es sound hd he king = refl
kings_same c earlier (g ∷ gs) [] es sound hd he king = absurd hd
kings_same c earlier (g ∷ gs) (d ∷ ds) [] sound hd he king = absurd he
kings_same c earlier (g ∷ gs) (d ∷ ds) (x ∷ es) sound hd he king =
    let p = product (map radix_of gs) in
    let pass : has_king_group (earlier ++ g ∷ []) c ≡ false → IsSameKing gs ds es c = λ none.
    let two = none_more c earlier g none in
    let k = king two.0 in
    record {
      state = k.state;
      one = sym (ap (λ t. cond t (slice_get g.states d) (king_state c gs ds)) two.1) ∙ k.one;
      other = sym (ap (λ t. cond t (slice_get g.states x) (king_state c gs es)) two.1) ∙ k.other;
    } in
    let rest = kings_same c (earlier ++ g ∷ []) gs ds es sound.1 hd.1 he.1 pass in
    elim (cases_Bool (same_colour g.colour c && has_kings g)) [
      | inl test ↦
          let both = and_parts (same_colour g.colour c) (has_kings g) test in
          let first : has_king_group earlier c ≡ false =
          ap (has_king_group earlier) (sym (same_side g.colour c both.0))
          ∙ (kingly earlier g sound.0.king both.1).first in
          let k = king first in
          let at_d : slice_get g.states d ≡ Some k.state =
          sym (ap (λ t. cond t (slice_get g.states d) (king_state c gs ds)) test) ∙ k.one in
          let at_x : slice_get g.states x ≡ Some k.state =
          sym (ap (λ t. cond t (slice_get g.states x) (king_state c gs es)) test) ∙ k.other in
          let here : d ≡ x = one_place g.states d x k.state sound.0.states.increasing at_d at_x in
          ap (λ n. cond (same_colour g.colour c && has_kings g) (n * p) 0 + of_kings c gs ds) here
          ∙ ap (λ n. cond (same_colour g.colour c && has_kings g) (x * p) 0 + n) rest
      | inr none ↦ ap (λ t. cond t (d * p) 0 + of_kings c gs ds) none
          ∙ ap (λ n. 0 + n) rest
          ∙ sym (ap (λ t. cond t (x * p) 0 + of_kings c gs es) none)
    ]

-- numbers of one configuration
record AreBeside (gs : List GroupLine) (t u : ℕ) (ds es : List ℕ) : Type 0 where
  turn : t * product (map radix_of gs) ≡ u * product (map radix_of gs)
  men : of_others gs ds ≡ of_others gs es

beside : (gs : List GroupLine) (i j c a b x y : ℕ) (h : IsSplit gs i c a b) (k : IsSplit gs j c x y) →
    AreBeside gs h.turn k.turn h.ds k.ds
beside gs i j c a b x y h k =
    let same : h.turn ∷ other_digits gs h.ds ≡ k.turn ∷ other_digits gs k.ds =
    same_digits (other_radices gs) (h.turn ∷ other_digits gs h.ds) (k.turn ∷ other_digits gs k.ds)
    (h.fits.0, other_digits_fit gs h.ds h.fits.1) (k.fits.0, other_digits_fit gs k.ds k.fits.1)
    (sym h.configuration ∙ k.configuration) in
    let turn : h.turn ≡ k.turn = cc in
    let rest : other_digits gs h.ds ≡ other_digits gs k.ds = cc in
    record {
      turn = ap (λ t. t * product (map radix_of gs)) turn;
      men = others_same gs h.ds k.ds h.fits.1 k.fits.1 rest;
    }

module _ (r : RuleLines) (sound : IsSound r) where
  white_same : (i j c d a x y : ℕ) (h : IsSplit r.groups i c a x) (k : IsSplit r.groups j d a y) →
      of_kings White r.groups h.ds ≡ of_kings White r.groups k.ds
  white_same i j c d a x y h k =
      kings_same White [] r.groups h.ds k.ds sound.lines.groups h.fits.1 k.fits.1
      (λ none. record { state = (King, a); one = h.white; other = k.white })

  black_same : (i j c d b x y : ℕ) (h : IsSplit r.groups i c x b) (k : IsSplit r.groups j d y b) →
      of_kings Black r.groups h.ds ≡ of_kings Black r.groups k.ds
  black_same i j c d b x y h k =
      kings_same Black [] r.groups h.ds k.ds sound.lines.groups h.fits.1 k.fits.1
      (λ none. record { state = (King, b); one = h.black; other = k.black })

  in_parts : (i c a b : ℕ) (h : IsSplit r.groups i c a b) →
      i ≡ h.turn * product (map radix_of r.groups) + (of_others r.groups h.ds
      + (of_kings White r.groups h.ds + of_kings Black r.groups h.ds))
  in_parts i c a b h =
      h.number ∙ ap (λ n. h.turn * product (map radix_of r.groups) + n) (three_parts r.groups h.ds)

  -- where number 0 is that of d with the kings on x and y, a number is the sum of those with two of
  -- the three as there
  pub sum_of : (i f w k c a b d x y : ℕ) → IsSplit r.groups i c a b → IsSplit r.groups 0 d x y →
      IsSplit r.groups f c x y → IsSplit r.groups w d a y → IsSplit r.groups k d x b →
      i ≡ f + w + k
  sum_of i f w k c a b d x y h origin first white black =
      let men = beside r.groups i f c a b x y h first in
      let at_white = beside r.groups w 0 d a y x y white origin in
      let at_black = beside r.groups k 0 d x b x y black origin in
      omega (
        arith,
        in_parts i c a b h,
        in_parts 0 d x y origin,
        in_parts f c x y first,
        in_parts w d a y white,
        in_parts k d x b black,
        men.turn,
        men.men,
        at_white.turn,
        at_white.men,
        at_black.turn,
        at_black.men,
        white_same i w c d a b y h white,
        white_same f 0 c d x y y first origin,
        white_same k 0 d d x b y black origin,
        black_same i k c d b a x h black,
        black_same f 0 c d y x x first origin,
        black_same w 0 d d y a x white origin,
      )

-- of the numbers with the kings of number 0, and of those with one of its kings moved
pub are_shares : (r : RuleLines) (origin : Split) (firsts white black : List ℕ) → IsSound r →
    IsSplit r.groups 0 origin.configuration origin.white origin.black →
    AreFirst r.groups origin.white origin.black firsts → AreMoved r.groups origin White white →
    AreMoved r.groups origin Black black → AreShares r.groups firsts white black
are_shares r origin firsts white black sound at first whites blacks = record {
  size = first.size;
  sum = λ i c a b la lb h.
      let on = king_squares r i c a b sound h in
      sum_of r sound i (slice_index firsts c) (slice_index white a) (slice_index black b) c a b
      origin.configuration origin.white origin.black h at
      (first.each c (configuration_below r.groups i c a b h)) (whites a la on.0) (blacks b lb on.1);
}
