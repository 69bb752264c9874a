-- The kings that the digits of a number give.
use Rattle.std.proofs.Common.{◌≡◌, ℕ, ◌+◌, ◌<◌, zero, suc, Bool, true, false, ◌&&◌, ◌||◌, cond, Some, List, [], ◌∷◌, ◌++◌, get_or, length, map, refl, ap, sym, ◌∙◌, arith}
use Rattle.std.specs.List.{slice_get}
use Rattle.std.proofs.lemmas.Bool.{and_parts}
use Rattle.std.proofs.lemmas.Option.{same_Some, slice_get-get_or}
use Rattle.frz_board.specs.declared.man.Colour.{Colour}
use Rattle.frz_board.specs.declared.man.Kind.{Kind}
use Rattle.frz_board.specs.declared.man.Kind.TheVariants.{King}
use Rattle.frz_board.specs.Men.{same_colour}
use Rattle.frz_combinations.specs.MixedRadix.{AreDigits}
use Rattle.frz_combinations.specs.Selections.{radix}
use Rattle.frz_combinations.proofs.Lemmas.{choose-one}
use Rattle.frz_sets.specs.Groups.{has_king_group, state_number}
use Rattle.frz_sets.specs.Sets.{radix_of}
use Rattle.frz_sets.specs.Sound.{AreIncreasingFrom, AreSoundAfter, IsSoundBehind}
use Rattle.frz_sets.specs.Views.{GroupLine}
use Rattle.frz_configurations.specs.Configurations.{has_kings, king_state}
use Rattle.frz_configurations.proofs.Lemmas.{kingly, state_is}

state_on_board : (n : ℕ) (states : List (Kind × ℕ)) (k : ℕ) (state : Kind × ℕ) →
    AreIncreasingFrom n states → slice_get states k ≡ Some state → state.1 < 64
state_on_board n [] k state h e = absurd cc
state_on_board n (x ∷ states) zero state h e =
    let square = ap (λ (y : Kind × ℕ). y.1) (same_Some x state e) in
    let on = h.1 in omega arith
state_on_board n (x ∷ states) (suc k) state h e =
    state_on_board (state_number x + 1) states k state h.2 e

-- a group of one man has as many digits as states
radix_one : (g : GroupLine) → g.least ≡ 1 → g.most ≡ 1 → radix_of g ≡ length g.states
radix_one g least most =
    ap (λ l. radix (length g.states) l g.most) least ∙ ap (radix (length g.states) 1) most
    ∙ omega (arith, choose-one (length g.states))

-- a group of kings has a king for each digit
king_for : (earlier : List GroupLine) (g : GroupLine) (d : ℕ) → IsSoundBehind earlier g →
    d < radix_of g → has_kings g ≡ true →
    (s : ℕ) × (s < 64) × (slice_get g.states d ≡ Some (King, s))
king_for earlier g d sound low kings =
    let own = kingly earlier g sound.king kings in
    let state = get_or g.states d (King, 0) in
    let at = slice_get-get_or g.states d (King, 0)
    (let many = radix_one g own.least own.most in omega arith) in (
      state.1,
      state_on_board 0 g.states d state sound.states.increasing at,
      at ∙ ap (λ k. Some (k, state.1)) (state_is earlier g d state own at),
    )

-- digits give a king of each colour that has a group of kings
pub king_there : (c : Colour) (earlier gs : List GroupLine) (ds : List ℕ) →
    AreSoundAfter earlier gs → AreDigits (map radix_of gs) ds → has_king_group gs c ≡ true →
    (s : ℕ) × (s < 64) × (king_state c gs ds ≡ Some (King, s))
king_there c earlier [] ds sound fit h = absurd cc
king_there c earlier (g ∷ gs) [] sound fit h = absurd fit
king_there c earlier (g ∷ gs) (d ∷ ds) sound fit h =
    let rest = king_state c gs ds in
    let either : (t : Bool) → (same_colour g.colour c && has_kings g) ≡ t →
    (s : ℕ) × (s < 64) × (cond t (slice_get g.states d) rest ≡ Some (King, s)) =
    λ t. elim t as (λ t. (same_colour g.colour c && has_kings g) ≡ t →
    (s : ℕ) × (s < 64) × (cond t (slice_get g.states d) rest ≡ Some (King, s))) [
      | true ↦ λ e.
          king_for earlier g d sound.0 fit.0 (and_parts (same_colour g.colour c) (has_kings g) e).1
      | false ↦ λ e.
          king_there c (earlier ++ g ∷ []) gs ds sound.1 fit.1
          (ap (λ x. x || has_king_group gs c) (sym e) ∙ h)
    ] in
    either (same_colour g.colour c && has_kings g) refl
