-- The kings of a set's groups, by their digits.
use Rattle.std.proofs.Common.{◌≡◌, ℕ, ◌<◌, zero, suc, Bool, true, false, not, ◌&&◌, ◌||◌, cond, Option, None, Some, List, [], ◌∷◌, ◌++◌, length, map, slice_index, refl, ap, sym, ◌∙◌, arith, inl, inr}
use Rattle.std.specs.Prelude.{◌==◌}
use Rattle.std.specs.List.{AllByRecursion, list_any, slice_get}
use Rattle.std.proofs.lemmas.Bool.{cases_lt, eqb-true, false_from_ne_true}
use Rattle.std.proofs.lemmas.List.{get_or_past}
use Rattle.std.proofs.lemmas.List.Folds.{list_any_at}
use Rattle.std.proofs.lemmas.Option.{get_or_from_slice_get, slice_get_within}
use Rattle.frz_board.specs.declared.man.Colour.{Colour}
use Rattle.frz_board.specs.declared.man.Kind.{Kind}
use Rattle.frz_board.specs.declared.man.Kind.TheVariants.{King, Queen, Rook, Bishop, Knight, Pawn}
use Rattle.frz_board.specs.Boards.{Board, has}
use Rattle.frz_board.specs.Men.{cell_of_man, number_of_kind, same_colour}
use Rattle.frz_board.proofs.Lemmas.{cell-some}
use Rattle.frz_fide.specs.Valid.{IsValid}
use Rattle.frz_fide.proofs.Lemmas.{kings_are, one_place, same_side}
use Rattle.frz_combinations.specs.Combinations.{places_below}
use Rattle.frz_combinations.specs.Selections.{digit}
use Rattle.frz_combinations.proofs.Lemmas.{choose-one}
use Rattle.frz_sets.specs.Groups.{has_king_group, is_bad_king, is_king}
use Rattle.frz_sets.specs.Sound.{AreSoundAfter}
use Rattle.frz_sets.specs.Views.{GroupLine}
use Rattle.frz_index.specs.Places.{IsWithinCount, digit_of, places, stands}
use Rattle.frz_configurations.specs.Configurations.{has_kings, king_state}

-- a group with kings behind the earlier ones: it has one man, all its states are kings', and no
-- earlier group of its colour has kings
pub record IsKingly (earlier : List GroupLine) (g : GroupLine) : Type 0 where
  pub alone : list_any (λ s. not (is_king s)) g.states ≡ false
  pub least : g.least ≡ 1
  pub most : g.most ≡ 1
  pub first : has_king_group earlier g.colour ≡ false

parts : (t x u v w : Bool) → t ≡ true → (t && (x || (not (u && v) || w))) ≡ false →
    (x ≡ false) × (u ≡ true) × (v ≡ true) × (w ≡ false)
parts true false true true false e h = (refl, refl, refl, refl)
parts t x u v w e h = absurd cc

pub kingly : (earlier : List GroupLine) (g : GroupLine) → is_bad_king earlier g ≡ false →
    has_kings g ≡ true → IsKingly earlier g
kingly earlier g h e =
    let p = parts (has_kings g) (list_any (λ s. not (is_king s)) g.states) (g.least == 1)
    (g.most == 1) (has_king_group earlier g.colour) e h in
    record {
      alone = p.0;
      least = eqb-true g.least 1 p.1;
      most = eqb-true g.most 1 p.2;
      first = p.3;
    }

-- a test that no element passes
none_passes : {X : Type 0} (test : X → Bool) (xs : List X) (i : ℕ) (x : X) →
    list_any test xs ≡ false → slice_get xs i ≡ Some x → test x ≡ false
none_passes test xs i x none e =
    false_from_ne_true (test x)
    (λ h. let some = list_any_at test xs i x (slice_get_within xs i x e)
    (ap test (get_or_from_slice_get xs i x x e) ∙ h) in absurd cc)

pub king_kind : (k : Kind) → (number_of_kind k == 1) ≡ true → k ≡ King
king_kind King h = refl
king_kind Queen h = absurd cc
king_kind Rook h = absurd cc
king_kind Bishop h = absurd cc
king_kind Knight h = absurd cc
king_kind Pawn h = absurd cc

is_true : (x : Bool) → not x ≡ false → x ≡ true
is_true true h = refl
is_true false h = absurd cc

-- each state of a group of kings is a king's
pub state_is : (earlier : List GroupLine) (g : GroupLine) (k : ℕ) (state : Kind × ℕ) →
    IsKingly earlier g → slice_get g.states k ≡ Some state → state.0 ≡ King
state_is earlier g k state h e =
    king_kind state.0
    (is_true (is_king state) (none_passes (λ s. not (is_king s)) g.states k state h.alone e))

-- where one place passes, it is the only one listed
single : (f : ℕ → Bool) (n : ℕ) → length (places_below f n) ≡ 1 →
    (k : ℕ) × (f k ≡ true) × (places_below f n ≡ k ∷ [])
single f zero h = absurd (omega arith)
single f (suc n) h =
    let either : (b : Bool) → f n ≡ b →
    length (cond b (n ∷ places_below f n) (places_below f n)) ≡ 1 →
    (k : ℕ) × (f k ≡ true) × (cond b (n ∷ places_below f n) (places_below f n) ≡ k ∷ []) =
    λ b. elim b as (λ b. f n ≡ b →
    length (cond b (n ∷ places_below f n) (places_below f n)) ≡ 1 →
    (k : ℕ) × (f k ≡ true) × (cond b (n ∷ places_below f n) (places_below f n) ≡ k ∷ [])) [
      | true ↦ λ e l. (n, e, ap (λ cs. n ∷ cs) (none_left (places_below f n) (omega arith)))
      | false ↦ λ e l. single f n l
    ] in
    either (f n) refl h
  where
    none_left : (cs : List ℕ) → length cs ≡ 0 → cs ≡ []
    none_left [] h = refl
    none_left (c ∷ cs) h = absurd (omega arith)

one_digit : (s k : ℕ) → digit s 1 (k ∷ []) ≡ k
one_digit s k = omega (arith, choose-one k)

-- a king of the position, by the digit of his group
pub record IsOn (p : Board) (g : GroupLine) (s : ℕ) : Type 0 where
  pub state : slice_get g.states (digit_of p g) ≡ Some (King, s)
  pub stands : has p g.colour King s ≡ true

state_at : (p : Board) (c : Colour) (o : Option (Kind × ℕ)) → stands p c o ≡ true →
    (state : Kind × ℕ) × (o ≡ Some state) × (has p c state.0 state.1 ≡ true)
state_at p c None h = absurd cc
state_at p c (Some state) h = (state, refl, h)

pub on_square : (earlier : List GroupLine) (p : Board) (g : GroupLine) → IsKingly earlier g →
    IsWithinCount p g → (s : ℕ) × IsOn p g s
on_square earlier p g h counts =
    let f = λ (k : ℕ). stands p g.colour (slice_get g.states k) in
    let least = h.least in
    let most = h.most in
    let low = counts.least in
    let high = counts.most in
    let one : length (places p g) ≡ 1 = omega arith in
    let found = single f (length g.states) one in
    let there = state_at p g.colour (slice_get g.states found.0) found.1 in
    let king : there.0.0 ≡ King = state_is earlier g found.0 there.0 h there.1 in
    let place : digit_of p g ≡ found.0 = ap (λ l. digit (length g.states) l (places p g)) h.least
    ∙ ap (digit (length g.states) 1) found.2 ∙ one_digit (length g.states) found.0 in (
      there.0.1,
      record {
        state = ap (slice_get g.states) place ∙ there.1
            ∙ ap (λ k. Some (k, there.0.1)) king;
        stands = ap (λ k. has p g.colour k there.0.1) (sym king) ∙ there.2;
      },
    )

on_board : (p : Board) (c : Colour) (s : ℕ) → length p.cells ≡ 64 → has p c King s ≡ true → s < 64
on_board p c s size h =
    elim (cases_lt s 64) [
      | inl l ↦ l
      | inr past ↦
          absurd (let none = get_or_past p.cells s 0 (omega arith) in
          let some = cell-some c King in
          let is = eqb-true (slice_index p.cells s)
          (cell_of_man (record { colour = c; kind = King })) h in
          omega arith)
    ]

-- a side has one king
only_king : (p : Board) (c : Colour) (s t : ℕ) → IsValid p → has p c King s ≡ true →
    has p c King t ≡ true → s ≡ t
only_king p c s t v hs ht =
    let size = v.fits.size in
    let one = kings_are p c v in
    let ls = on_board p c s size hs in
    let lt = on_board p c t size ht in
    one_place (λ x. x == cell_of_man (record { colour = c; kind = King })) p.cells s t
    (omega arith) (omega arith) (omega arith) hs ht

-- the state of a side's king, by the digits of a position
pub king_found : (c : Colour) (p : Board) (s : ℕ) → IsValid p → has p c King s ≡ true →
    (earlier gs : List GroupLine) → AreSoundAfter earlier gs → AllByRecursion (IsWithinCount p) gs →
    has_king_group gs c ≡ true → king_state c gs (map (digit_of p) gs) ≡ Some (King, s)
king_found c p s v there earlier [] sound counts h = absurd cc
king_found c p s v there earlier (g ∷ gs) sound counts h =
    let rest = king_state c gs (map (digit_of p) gs) in
    let either : (b : Bool) → (same_colour g.colour c && has_kings g) ≡ b →
    cond b (slice_get g.states (digit_of p g)) rest ≡ Some (King, s) =
    λ b. elim b as (λ b. (same_colour g.colour c && has_kings g) ≡ b →
    cond b (slice_get g.states (digit_of p g)) rest ≡ Some (King, s)) [
      | true ↦ λ e.
          let both = and_both (same_colour g.colour c) (has_kings g) e in
          let kings = kingly earlier g sound.0.king both.1 in
          let on = on_square earlier p g kings counts.0 in
          let mine : has p c King on.0 ≡ true =
          ap (λ d. has p d King on.0) (sym (same_side g.colour c both.0)) ∙ on.1.stands in
          on.1.state ∙ ap (λ t. Some (King, t)) (only_king p c on.0 s v mine there)
      | false ↦ λ e.
          king_found c p s v there (earlier ++ g ∷ []) gs sound.1 counts.1
          (ap (λ x. x || has_king_group gs c) (sym e) ∙ h)
    ] in
    either (same_colour g.colour c && has_kings g) refl
  where
    and_both : (x y : Bool) → (x && y) ≡ true → (x ≡ true) × (y ≡ true)
    and_both true y h = (refl, h)
    and_both false y h = absurd cc
