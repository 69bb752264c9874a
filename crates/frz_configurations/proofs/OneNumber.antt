-- A configuration with both kings' squares has one number.
use Rattle.std.proofs.Common.{◌≡◌, ℕ, ◌+◌, ◌<◌, ◌≤◌, zero, suc, Bool, true, false, ◌&&◌, ◌||◌, cond, Some, List, [], ◌∷◌, ◌++◌, map, refl, ap, sym, ◌∙◌, arith, inl, inr}
use Rattle.std.specs.List.{slice_get}
use Rattle.std.proofs.lemmas.Bool.{cases_Bool, cases_lt}
use Rattle.std.proofs.lemmas.List.Folds.{list_any-append}
use Rattle.std.proofs.lemmas.Option.{same_Some}
use Rattle.frz_board.specs.declared.man.Colour.{Colour}
use Rattle.frz_board.specs.declared.man.Colour.TheVariants.{White, Black}
use Rattle.frz_board.specs.declared.man.Kind.{Kind}
use Rattle.frz_board.specs.declared.man.Kind.TheVariants.{King}
use Rattle.frz_board.specs.Men.{same_colour}
use Rattle.frz_combinations.specs.MixedRadix.{AreDigits, value}
use Rattle.frz_fide.proofs.Lemmas.{own_colour}
use Rattle.frz_sets.specs.Groups.{has_king_group, state_number}
use Rattle.frz_sets.specs.Sets.{radices, radix_of}
use Rattle.frz_sets.specs.Sound.{AreIncreasingFrom, AreSoundAfter, IsSound}
use Rattle.frz_sets.specs.Views.{GroupLine, RuleLines}
use Rattle.frz_configurations.specs.Configurations.{IsSplit, has_kings, king_state, other_digits, other_radices}
use Rattle.frz_configurations.specs.Joined.{HasKing, IsKingSquare}
use Rattle.frz_configurations.proofs.KingStates.{kingly}
use Rattle.frz_configurations.proofs.OtherDigits.{other_digits_fit, same_digits}

-- a later state has a greater number
low : (n : ℕ) (states : List (Kind × ℕ)) (k : ℕ) (s : Kind × ℕ) → AreIncreasingFrom n states →
    slice_get states k ≡ Some s → n ≤ state_number s
low n [] k s h e = absurd cc
low n (t ∷ states) zero s h e =
    let number = ap state_number (same_Some t s e) in let least = h.0 in omega arith
low n (t ∷ states) (suc k) s h e =
    let later = low (state_number t + 1) states k s h.2 e in let least = h.0 in omega arith

later : (n : ℕ) (states : List (Kind × ℕ)) (j k : ℕ) (s t : Kind × ℕ) → AreIncreasingFrom n states →
    j < k → slice_get states j ≡ Some s → slice_get states k ≡ Some t →
    state_number s < state_number t
later n [] j k s t h l e f = absurd cc
later n (u ∷ states) zero zero s t h l e f = absurd (omega arith)
later n (u ∷ states) zero (suc k) s t h l e f =
    let number = ap state_number (same_Some u s e) in
    let more = low (state_number u + 1) states k t h.2 f in
    omega arith
later n (u ∷ states) (suc j) zero s t h l e f = absurd (omega arith)
later n (u ∷ states) (suc j) (suc k) s t h l e f =
    later (state_number u + 1) states j k s t h.2 (omega arith) e f

-- a state stands at one place
pub one_place : (states : List (Kind × ℕ)) (j k : ℕ) (s : Kind × ℕ) → AreIncreasingFrom 0 states →
    slice_get states j ≡ Some s → slice_get states k ≡ Some s → j ≡ k
one_place states j k s h e f =
    elim (cases_lt j k) [
      | inl l ↦ absurd (let less = later 0 states j k s s h l e f in omega arith)
      | inr l ↦ elim (cases_lt k j) [
        | inl m ↦ absurd (let less = later 0 states k j s s h m f e in omega arith)
        | inr m ↦ omega arith
      ]
    ]

neither : (x y : Bool) → (x || y) ≡ false → (x ≡ false) × (y ≡ false)
neither true y h = absurd cc
neither false y h = (refl, h)

-- no group has kings of the colour, among the earlier ones and this one
pub none_more : (c : Colour) (earlier : List GroupLine) (g : GroupLine) →
    has_king_group (earlier ++ g ∷ []) c ≡ false →
    (has_king_group earlier c ≡ false) × ((same_colour g.colour c && has_kings g) ≡ false)
none_more c [] g h = (refl, (neither (same_colour g.colour c && has_kings g) false h).0)
none_more c (e ∷ earlier) g h =
    let both = neither (same_colour e.colour c && has_kings e)
    (has_king_group (earlier ++ g ∷ []) c) h in
    let rest = none_more c earlier g both.1 in
    (ap (λ x. x || has_king_group earlier c) both.0 ∙ rest.0, rest.1)

-- both lists of digits give a king of this colour one state
pub record IsSameKing (gs : List GroupLine) (ds es : List ℕ) (c : Colour) : Type 0 where
  pub state : Kind × ℕ
  pub one : king_state c gs ds ≡ Some state
  pub other : king_state c gs es ≡ Some state

both_true : (x y : Bool) → x ≡ true → y ≡ true → (x && y) ≡ true
both_true x y e f = rw (e, f)

-- digits that agree on the other men and on both kings agree
same_all : (earlier gs : List GroupLine) (ds es : List ℕ) → AreSoundAfter earlier gs →
    AreDigits (map radix_of gs) ds → AreDigits (map radix_of gs) es →
    other_digits gs ds ≡ other_digits gs es →
    ((c : Colour) → has_king_group earlier c ≡ false → IsSameKing gs ds es c) → ds ≡ es
same_all earlier [] ds es sound hd he e kings = hd ∙ sym he
same_all earlier (g ∷ gs) [] es sound hd he e kings = absurd hd
same_all earlier (g ∷ gs) (d ∷ ds) [] sound hd he e kings = absurd he
same_all earlier (g ∷ gs) (d ∷ ds) (x ∷ es) sound hd he e kings =
    let pass : (c : Colour) → has_king_group (earlier ++ g ∷ []) c ≡ false →
    IsSameKing gs ds es c = λ c none.
    let two = none_more c earlier g none in
    let king = kings c two.0 in
    record {
      state = king.state;
      one = sym (ap (λ t. cond t (slice_get g.states d) (king_state c gs ds)) two.1) ∙ king.one;
      other = sym (ap (λ t. cond t (slice_get g.states x) (king_state c gs es)) two.1) ∙ king.other;
    } in
    let either : (b : Bool) → has_kings g ≡ b →
    cond b (other_digits gs ds) (d ∷ other_digits gs ds)
    ≡ cond b (other_digits gs es) (x ∷ other_digits gs es) → d ∷ ds ≡ x ∷ es =
    λ b. elim b as (λ b. has_kings g ≡ b →
    cond b (other_digits gs ds) (d ∷ other_digits gs ds)
    ≡ cond b (other_digits gs es) (x ∷ other_digits gs es) → d ∷ ds ≡ x ∷ es) [
      | true ↦ λ t s.
          let king = kings g.colour (kingly earlier g sound.0.king t).first in
          let test = both_true (same_colour g.colour g.colour) (has_kings g) (own_colour g.colour) t in
          let at_d : slice_get g.states d ≡ Some king.state =
          sym (ap (λ u. cond u (slice_get g.states d) (king_state g.colour gs ds)) test) ∙ king.one in
          let at_x : slice_get g.states x ≡ Some king.state =
          sym (ap (λ u. cond u (slice_get g.states x) (king_state g.colour gs es)) test)
          ∙ king.other in
          let here : d ≡ x = one_place g.states d x king.state sound.0.states.increasing at_d at_x in
          let rest : ds ≡ es = same_all (earlier ++ g ∷ []) gs ds es sound.1 hd.1 he.1 s pass in
          ap (λ n. n ∷ ds) here ∙ ap (λ l. x ∷ l) rest
      | false ↦ λ t s.
          let here : d ≡ x = cc in
          let others_same : other_digits gs ds ≡ other_digits gs es = cc in
          let rest : ds ≡ es = same_all (earlier ++ g ∷ []) gs ds es sound.1 hd.1 he.1 others_same
          pass in
          ap (λ n. n ∷ ds) here ∙ ap (λ l. x ∷ l) rest
    ] in
    either (has_kings g) refl e

pub one_number : (r : RuleLines) (i j c a b : ℕ) → IsSound r → IsSplit r.groups i c a b →
    IsSplit r.groups j c a b → i ≡ j
one_number r i j c a b sound h k =
    let gs = r.groups in
    let digits : h.turn ∷ other_digits gs h.ds ≡ k.turn ∷ other_digits gs k.ds =
    same_digits (other_radices gs) (h.turn ∷ other_digits gs h.ds) (k.turn ∷ other_digits gs k.ds)
    (h.fits.0, other_digits_fit gs h.ds h.fits.1) (k.fits.0, other_digits_fit gs k.ds k.fits.1)
    (sym h.configuration ∙ k.configuration) in
    let turn : h.turn ≡ k.turn = cc in
    let others_same : other_digits gs h.ds ≡ other_digits gs k.ds = cc in
    let all : h.ds ≡ k.ds = same_all [] gs h.ds k.ds sound.lines.groups h.fits.1 k.fits.1 others_same
    same_king in
    h.number ∙ ap (λ t. value (radices gs) (t ∷ h.ds)) turn
    ∙ ap (λ ds. value (radices gs) (k.turn ∷ ds)) all ∙ sym k.number
  where
    same_king : (d : Colour) →
        has_king_group [] d ≡ false → IsSameKing r.groups h.ds k.ds d
    same_king White none = record { state = (King, a); one = h.white; other = k.white }
    same_king Black none = record { state = (King, b); one = h.black; other = k.black }

-- behind groups with kings of the colour none has any
pub none_later : (c : Colour) (earlier gs : List GroupLine) (k : ℕ) (g : GroupLine) →
    AreSoundAfter earlier gs → has_king_group earlier c ≡ true → slice_get gs k ≡ Some g →
    g.colour ≡ c → has_kings g ≡ true → ⊥
none_later c earlier [] k g sound there e colour kings = absurd cc
none_later c earlier (x ∷ gs) zero g sound there e colour kings =
    let same : x ≡ g = same_Some x g e in
    let none = (kingly earlier x sound.0.king (ap has_kings same ∙ kings)).first in
    let yes : has_king_group earlier x.colour ≡ true =
    ap (has_king_group earlier) (ap (λ (y : GroupLine). y.colour) same ∙ colour) ∙ there in
    absurd cc
none_later c earlier (x ∷ gs) (suc k) g sound there e colour kings =
    none_later c (earlier ++ x ∷ []) gs k g sound.1
    (list_any-append (λ (y : GroupLine). same_colour y.colour c && has_kings y) earlier (x ∷ [])
    ∙ ap (λ t. t || ((same_colour x.colour c && has_kings x) || false)) there) e colour kings

-- the groups of kings of a colour have the king that the digits give
king_in : (c : Colour) (s : ℕ) (earlier gs : List GroupLine) (ds : List ℕ) (k : ℕ) (g : GroupLine) →
    AreSoundAfter earlier gs → king_state c gs ds ≡ Some (King, s) → slice_get gs k ≡ Some g →
    g.colour ≡ c → has_kings g ≡ true → HasKing g s
king_in c s earlier [] ds k g sound state e colour kings = absurd cc
king_in c s earlier (x ∷ gs) [] k g sound state e colour kings = absurd cc
king_in c s earlier (x ∷ gs) (d ∷ ds) zero g sound state e colour kings =
    let same : x ≡ g = same_Some x g e in
    let test : (same_colour x.colour c && has_kings x) ≡ true =
    both_true (same_colour x.colour c) (has_kings x)
    (ap (λ b. same_colour b c) (ap (λ (y : GroupLine). y.colour) same ∙ colour) ∙ own_colour c)
    (ap has_kings same ∙ kings) in
    record {
      place = d;
      there = ap (λ (y : GroupLine). slice_get y.states d) (sym same)
          ∙ sym (ap (λ t. cond t (slice_get x.states d) (king_state c gs ds)) test) ∙ state;
    }
king_in c s earlier (x ∷ gs) (d ∷ ds) (suc k) g sound state e colour kings =
    elim (cases_Bool (same_colour x.colour c && has_kings x)) [
      | inl test ↦
          absurd (none_later c (earlier ++ x ∷ []) gs k g sound.1
          (list_any-append (λ (y : GroupLine). same_colour y.colour c && has_kings y) earlier (x ∷ [])
          ∙ ap (λ t. has_king_group earlier c || (t || false)) test
          ∙ or_true (has_king_group earlier c)) e colour kings)
      | inr test ↦
          king_in c s (earlier ++ x ∷ []) gs ds k g sound.1
          (sym (ap (λ t. cond t (slice_get x.states d) (king_state c gs ds)) test) ∙ state) e colour
          kings
    ]
  where
    or_true : (t : Bool) → (t || true) ≡ true
    or_true true = refl
    or_true false = refl

pub king_squares : (r : RuleLines) (i c a b : ℕ) → IsSound r → IsSplit r.groups i c a b →
    IsKingSquare r.groups White a × IsKingSquare r.groups Black b
king_squares r i c a b sound h = (
  λ k g e colour kings. king_in White a [] r.groups h.ds k g sound.lines.groups h.white e colour kings,
  λ k g e colour kings. king_in Black b [] r.groups h.ds k g sound.lines.groups h.black e colour kings,
)
