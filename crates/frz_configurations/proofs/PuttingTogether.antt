-- A number put together by one group more.
use Rattle.std.proofs.Common.{◌≡◌, ℕ, ◌+◌, ◌*◌, ◌/◌, ◌%◌, ◌<◌, ◌≤◌, Bool, true, false, not, ◌||◌, cond, inl, inr, Some, List, [], ◌∷◌, get_or, length, map, refl, ap, sym, ◌∙◌, arith}
use Rattle.std.specs.Prelude.{◌==◌}
use Rattle.std.specs.List.{slice_get}
use Rattle.std.proofs.lemmas.Bool.{cases_Bool, cases_lt, eqb-true}
use Rattle.std.proofs.lemmas.Nat.{mod_below}
use Rattle.std.proofs.lemmas.Option.{same_Some, slice_get_read, slice_get_within}
use Rattle.std.proofs.Math.Nat.{add_comm, mul_comm}
use Rattle.frz_board.specs.declared.man.Kind.{Kind}
use Rattle.frz_board.specs.declared.man.Kind.TheVariants.{King}
use Rattle.frz_board.specs.Men.{same_colour}
use Rattle.frz_combinations.specs.MixedRadix.{product, value}
use Rattle.frz_fide.proofs.Lemmas.{same_side}
use Rattle.frz_squares.proofs.Lemmas.{not_same}
use Rattle.frz_sets.specs.Groups.{has_king_group}
use Rattle.frz_sets.specs.Sets.{radix_of}
use Rattle.frz_sets.specs.Views.{GroupLine}
use Rattle.frz_configurations.specs.Configurations.{has_kings, king_state, other_digits, others}
use Rattle.frz_configurations.specs.Joined.{IsJoined, of_colour}
use Rattle.frz_configurations.specs.Parts.{AreKings}
use Rattle.frz_configurations.specs.declared.joined.Joined.{Joined}
use Rattle.frz_configurations.proofs.TakingApart.{and_false, and_true, king_read, whole_more}

pub joined_none : (configuration white black : ℕ) (x : Joined) → x.rest ≡ configuration →
    x.number ≡ 0 → x.count ≡ 1 → IsJoined [] configuration white black x
joined_none configuration white black x rest number count = record {
  ds = [];
  fits = refl;
  whole = omega arith;
  count = count;
  number = number;
  kings = λ c there. absurd cc;
}

-- a group of other men
pub joined_other : (gs : List GroupLine) (configuration white black : ℕ) (g : GroupLine) (r : ℕ)
    (x y : Joined) → IsJoined gs configuration white black x → has_kings g ≡ false →
    r ≡ radix_of g → 0 < r → y.rest ≡ x.rest / r → y.number ≡ x.number + x.rest % r * x.count →
    y.count ≡ x.count * r → IsJoined (g ∷ gs) configuration white black y
joined_other gs configuration white black g r x y h none er some rest number count =
    let d = x.rest % r in
    let p = product (map radix_of gs) in
    let v = value (map radix_of gs) h.ds in
    let q = product (map radix_of (others gs)) in
    let u = value (map radix_of (others gs)) (other_digits gs h.ds) in
    let low : d < radix_of g = omega (arith, mod_below x.rest r some) in
    record {
      ds = d ∷ h.ds;
      fits = (low, h.fits);
      whole = h.whole ∙ whole_more x.rest r q u some
          ∙ ap (λ n. (x.rest / r) * (n * q) + (d * q + u)) er
          ∙ ap (λ n. n * (radix_of g * q) + (d * q + u)) (sym rest)
          ∙ sym (ap (λ t. y.rest * product (map radix_of (cond (not t) (g ∷ others gs) (others gs)))
          + value (map radix_of (cond (not t) (g ∷ others gs) (others gs)))
          (cond t (other_digits gs h.ds) (d ∷ other_digits gs h.ds))) none);
      count = count ∙ ap (λ n. n * r) h.count ∙ ap (λ n. p * n) er ∙ mul_comm p (radix_of g);
      number = number ∙ ap (λ n. n + d * x.count) h.number ∙ ap (λ n. v + d * n) h.count
          ∙ add_comm v (d * p);
      kings = λ c there.
          let test = and_false (same_colour g.colour c) (has_kings g) none in
          ap (λ t. cond t (slice_get g.states d) (king_state c gs h.ds)) test
          ∙ h.kings c (sym (ap (λ t. t || has_king_group gs c) test) ∙ there);
    }

-- a group of kings
pub joined_king : (gs : List GroupLine) (configuration white black : ℕ) (g : GroupLine) (r d : ℕ)
    (x y : Joined) → IsJoined gs configuration white black x → has_kings g ≡ true → AreKings g →
    r ≡ radix_of g → y.rest ≡ x.rest → y.number ≡ x.number + d * x.count →
    y.count ≡ x.count * r →
    slice_get g.states d ≡ Some (King, of_colour g.colour white black) →
    IsJoined (g ∷ gs) configuration white black y
joined_king gs configuration white black g r d x y h kings all er rest number count state =
    let p = product (map radix_of gs) in
    let v = value (map radix_of gs) h.ds in
    let q = product (map radix_of (others gs)) in
    let u = value (map radix_of (others gs)) (other_digits gs h.ds) in
    let each = all.each in
    let inside = slice_get_within g.states d (King, of_colour g.colour white black) state in
    let low : d < radix_of g = omega arith in
    record {
      ds = d ∷ h.ds;
      fits = (low, h.fits);
      whole = h.whole ∙ ap (λ n. n * q + u) (sym rest)
          ∙ sym (ap (λ t. y.rest * product (map radix_of (cond (not t) (g ∷ others gs) (others gs)))
          + value (map radix_of (cond (not t) (g ∷ others gs) (others gs)))
          (cond t (other_digits gs h.ds) (d ∷ other_digits gs h.ds))) kings);
      count = count ∙ ap (λ n. n * r) h.count ∙ ap (λ n. p * n) er ∙ mul_comm p (radix_of g);
      number = number ∙ ap (λ n. n + d * x.count) h.number ∙ ap (λ n. v + d * n) h.count
          ∙ add_comm v (d * p);
      kings = λ c there.
          let test = and_true (same_colour g.colour c) (has_kings g) kings in
          ap (λ t. cond t (slice_get g.states d) (king_state c gs h.ds)) test
          ∙ elim (cases_Bool (same_colour g.colour c)) [
            | inl same ↦ ap (λ t. cond t (slice_get g.states d) (king_state c gs h.ds)) same
                ∙ state ∙ ap (λ b. Some (King, of_colour b white black)) (same_side g.colour c same)
            | inr differs ↦
                ap (λ t. cond t (slice_get g.states d) (king_state c gs h.ds)) differs
                ∙ h.kings c (sym (ap (λ t. t || has_king_group gs c) (test ∙ differs)) ∙ there)
          ];
    }

-- a state that is not the king's on this square is passed over
pub passed_over : (states items : List (Kind × ℕ)) (j k s : ℕ) (state : Kind × ℕ) →
    items ≡ states → k ≤ j → state ≡ get_or items k state → not (state.1 == s) ≡ true →
    slice_get states j ≡ Some (King, s) → k + 1 ≤ j
passed_over states items j k s state same l read other there =
    elim (cases_lt k j) [
      | inl less ↦ omega arith
      | inr more ↦
          let here : j ≡ k = omega arith in
          let inside = slice_get_within states j (King, s) there in
          let low : k < length items = omega (arith, ap length same) in
          let is : slice_get states k ≡ Some state = ap (λ xs. slice_get xs k) (sym same)
          ∙ slice_get_read items (length items) k state refl low read in
          let square : state.1 ≡ s = ap (λ (x : Kind × ℕ). x.1)
          (same_Some state (King, s) (sym is ∙ ap (slice_get states) (sym here) ∙ there)) in
          absurd (not_same state.1 s other square)
    ]

-- the state that was found is the king's on this square
pub found_here : (g : GroupLine) (items : List (Kind × ℕ)) (k s : ℕ) (state : Kind × ℕ) →
    items ≡ g.states → AreKings g → k < length g.states → state ≡ get_or items k state →
    not (state.1 == s) ≡ false → slice_get g.states k ≡ Some (King, s)
found_here g items k s state same all low read here =
    let each = all.each in
    king_read g g items k (radix_of g) state refl same all refl (omega arith) read
    ∙ ap (λ t. Some (King, t)) (eqb-true state.1 s (is_true (state.1 == s) here))
  where
    is_true : (x : Bool) → not x ≡ false → x ≡ true
    is_true true h = refl
    is_true false h = absurd cc
