-- The number after a man's step to an empty square, group by group.
use Rattle.std.proofs.Common.{◌≡◌, ◌≢◌, ℕ, zero, suc, ◌+◌, ◌-◌, ◌*◌, ◌<◌, ◌≤◌, true, false, Option, None, Some, List, ◌↔◌, ◌∷◌, drop, get_or, length, map, slice_index, refl, ap, sym, subst, ◌∙◌, arith, inl, inr}
use Rattle.std.proofs.Math.Nat.{add-mul}
use Rattle.std.specs.List.{AllByRecursion, slice_get}
use Rattle.std.specs.Prelude.{IsSome}
use Rattle.std.proofs.lemmas.Bool.{cases_eq}
use Rattle.std.proofs.lemmas.Option.{get_or_from_slice_get, same_Some, slice_get-get_or, slice_get_within}
use Rattle.frz_board.proofs.Lemmas.{cell-some}
use Rattle.frz_board.specs.declared.man.Man.{Man}
use Rattle.frz_board.specs.Boards.{Board}
use Rattle.frz_board.specs.Men.{cell_of_man, other_of}
use Rattle.frz_fide.specs.Valid.{IsValid}
use Rattle.frz_sets.specs.Sets.{has_state, is_state, radix_of}
use Rattle.frz_sets.specs.Sound.{AreStates}
use Rattle.frz_sets.specs.Views.{GroupLine}
use Rattle.frz_index.proofs.GroupSteps.{drop_end, product_le, whole_fits}
use Rattle.frz_index.specs.Kept.{AreNumberable, product_from}
use Rattle.frz_combinations.specs.MixedRadix.{value}
use Rattle.std.proofs.Math.Seq.{drop-cons}
use Rattle.std.proofs.lemmas.Nat.{mul-le}
use Rattle.frz_sets.specs.Sound.{IsCounted}
use Rattle.frz_index.proofs.RoomForMen.{any_at, any_found, counted_at}
use Rattle.frz_index.specs.Members.{HasNumber, Member, Num}
use Rattle.frz_index.specs.Places.{IsWithinCount, digit_of}
use Rattle.frz_index.specs.Stepping.{IsPlace, IsShare, IsStep, IsTurned, number_after, stepped, turn_adds}
use Rattle.frz_index.specs.declared.across.Turned.{Turned}
use Rattle.frz_index.proofs.Stepping.{Shifts, at_from, at_rest, at_to, moves, stays}

-- the digits of the groups together
abbrev pub digits_of : Board → List GroupLine → ℕ
digits_of p gs = value (map radix_of gs) (map (digit_of p) gs)

-- the digits of the first i groups together grow by up and fall by down
pub record Shifted (gs : List GroupLine) (p q : Board) (cell a b i up down : ℕ) : Type 0 where
  pub counted : AllByRecursion (IsWithinCount q) (drop i gs) → AllByRecursion (IsWithinCount q) gs
  pub sum : digits_of q gs + down + digits_of p (drop i gs)
      ≡ digits_of p gs + up + digits_of q (drop i gs)
  pub covered : (j : ℕ) (g : GroupLine) → j < i → slice_get gs j ≡ Some g →
      is_state cell a g ≡ true → is_state cell b g ≡ true

-- no group yet
pub shifted_start : (gs : List GroupLine) (p q : Board) (cell a b : ℕ) →
    Shifted gs p q cell a b 0 0 0
shifted_start gs p q cell a b =
    record { counted = λ h. h; sum = omega arith; covered = λ j g l e t. absurd (omega (arith, l)) }

-- one more group
pub shifted_step : (gs : List GroupLine) (p q : Board) (cell a b i up down more less : ℕ)
    (g : GroupLine) → slice_get gs i ≡ Some g →
    Shifted gs p q cell a b i up down → Shifts p q cell a b g more less →
    Shifted gs p q cell a b (suc i) (up + more * product_from gs (suc i))
    (down + less * product_from gs (suc i))
shifted_step gs p q cell a b i up down more less g here h s =
    let w = product_from gs (suc i) in
    let is : drop i gs ≡ g ∷ drop (suc i) gs =
    drop-cons gs i g (slice_get_within gs i g here)
    ∙ ap (λ x. x ∷ drop (suc i) gs) (get_or_from_slice_get gs i g g here) in
    let split_p = ap (digits_of p) is in
    let split_q = ap (digits_of q) is in
    let moved = ap (λ n. n * w) s.digit in
    let left = add-mul (digit_of q g) less w in
    let right = add-mul (digit_of p g) more w in
    record {
      counted = λ k. h.counted (subst (AllByRecursion (IsWithinCount q)) (sym is) (s.counted, k));
      sum = omega (arith, split_p, split_q, moved, left, right, h.sum);
      covered = λ j x l e t.
          elim (cases_eq j i) [
            | inl same ↦
                let is : g ≡ x = same_Some g x (sym here ∙ ap (slice_get gs) (sym same) ∙ e) in
                subst (λ (y : GroupLine). is_state cell b y ≡ true) is
                (s.covered (subst (λ (y : GroupLine). is_state cell a y ≡ true) (sym is) t))
            | inr other ↦ h.covered j x (omega (arith, l, other)) e t
          ];
    }

-- one group alone has another digit
module _ (gs : List GroupLine) (p q : Board) (cell a b k more less : ℕ) (own : GroupLine)
    (there : slice_get gs k ≡ Some own) (own_shifts : Shifts p q cell a b own more less)
    (others : (j : ℕ) (g : GroupLine) → j ≢ k → slice_get gs j ≡ Some g →
    Shifts p q cell a b g 0 0) where
  abbrev up : ℕ
  up = more * product_from gs (suc k)

  abbrev down : ℕ
  down = less * product_from gs (suc k)

  other_shifts : (j up down : ℕ) (g : GroupLine) → j ≢ k → slice_get gs j ≡ Some g →
      Shifted gs p q cell a b j up down → Shifted gs p q cell a b (suc j) up down
  other_shifts j up down g n here s =
      let more = shifted_step gs p q cell a b j up down 0 0 g here s (others j g n here) in
      record { counted = more.counted; sum = omega (arith, more.sum); covered = more.covered }

  before : (j : ℕ) → j ≤ k → j ≤ length gs → Shifted gs p q cell a b j 0 0
  before zero l e = shifted_start gs p q cell a b
  before (suc j) l e =
      other_shifts j 0 0 (get_or gs j own) (omega (arith, l))
      (slice_get-get_or gs j own (omega (arith, e)))
      (before j (omega (arith, l)) (omega (arith, e)))

  within : k < length gs
  within = slice_get_within gs k own there

  at : Shifted gs p q cell a b (suc k) up down
  at =
      let all = shifted_step gs p q cell a b k 0 0 more less own there
      (before k (omega arith) (omega (arith, within))) own_shifts in
      record { counted = all.counted; sum = omega (arith, all.sum); covered = all.covered }

  behind : (n : ℕ) → suc k + n ≤ length gs → Shifted gs p q cell a b (suc k + n) up down
  behind zero e = subst (λ j. Shifted gs p q cell a b j up down) (omega arith) at
  behind (suc n) e =
      subst (λ j. Shifted gs p q cell a b j up down) (omega arith)
      (other_shifts (suc k + n) up down (get_or gs (suc k + n) own) (omega arith)
      (slice_get-get_or gs (suc k + n) own (omega (arith, e)))
      (behind n (omega (arith, e))))

  pub shifted_all : Shifted gs p q cell a b (length gs) up down
  shifted_all =
      subst (λ n. Shifted gs p q cell a b n up down) (omega (arith, within))
      (behind (length gs - suc k) (omega (arith, within)))

-- one group alone counts the man on both squares
pub all_shifted : (gs : List GroupLine) (p : Board) (man : Man) (a b : ℕ) (target : Option ℕ)
    (k left comes : ℕ) → AllByRecursion (IsWithinCount p) gs → IsStep p man a b →
    (from : IsShare gs man a k left) → AreStates from.group.states → IsShare gs man b k comes →
    Shifted gs p (stepped p man a b target) (cell_of_man man) a b (length gs) comes left
all_shifted gs p man a b target k left comes counts h from in_order to =
    let q = stepped p man a b target in
    let cell = cell_of_man man in
    let same : to.group ≡ from.group =
    same_Some to.group from.group (sym to.there ∙ from.there) in
    let there : IsPlace from.group man b to.place =
    subst (λ (g : GroupLine). IsPlace g man b to.place) same to.place_is in
    let all = shifted_all gs p q cell a b k to.place from.place from.group from.there
    (moves p man a b target h from.group in_order from.place to.place from.place_is there from.one
    (counted_at (IsWithinCount p) gs k from.group counts from.there))
    (λ j g n here. stays p man a b target h g (from.alone j g n here) (to.alone j g n here)
    (counted_at (IsWithinCount p) gs j g counts here)) in
    record {
      counted = all.counted;
      sum = omega (arith, all.sum, from.adds_is, to.adds_is);
      covered = all.covered;
    }

-- the position after the step is in the set where it is valid
pub Member-stepped : (gs : List GroupLine) (p : Board) (man : Man) (a b : ℕ) (target : Option ℕ)
    (up down : ℕ) →
    ((s : ℕ) → s < 64 → slice_index p.cells s ≢ 0 → has_state gs (slice_index p.cells s) s ≡ true) →
    IsStep p man a b → IsValid (stepped p man a b target) →
    Shifted gs p (stepped p man a b target) (cell_of_man man) a b (length gs) up down →
    Member gs (stepped p man a b target)
Member-stepped gs p man a b target up down men h v s = record {
  valid = v;
  men = λ x l some.
      elim (cases_eq x b) [
        | inl here ↦
            subst (λ n. has_state gs n x ≡ true)
            (sym (ap (slice_index (stepped p man a b target).cells) here
            ∙ at_to p man a b target h))
            (subst (λ n. has_state gs (cell_of_man man) n ≡ true) (sym here)
            (let some_there : slice_index p.cells a ≢ 0 = λ e.
            let n = cell-some man.colour man.kind in omega (arith, e, h.stood, n) in
            let before : has_state gs (cell_of_man man) a ≡ true =
            subst (λ n. has_state gs n a ≡ true) h.stood (men a h.from some_there) in
            let found = any_found (is_state (cell_of_man man) a) gs before in
            any_at (is_state (cell_of_man man) b) gs found.0 found.1 found.2
            (s.covered found.0 found.1 (slice_get_within gs found.0 found.1 found.2) found.2
            found.3)))
        | inr right ↦ elim (cases_eq x a) [
          | inl here ↦
              absurd (some (ap (slice_index (stepped p man a b target).cells) here
              ∙ at_from p man a b target h))
          | inr left ↦
              let same = at_rest p man a b target h x left right in
              subst (λ n. has_state gs n x ≡ true) (sym same)
              (men x l (λ e. some (same ∙ e)))
        ]
      ];
  counts = s.counted (subst (AllByRecursion (IsWithinCount (stepped p man a b target)))
      (sym (drop_end gs (length gs) (omega arith))) tt);
}

-- the sums of the digits
pub sums : (gs : List GroupLine) (p q : Board) (cell a b up down : ℕ) →
    Shifted gs p q cell a b (length gs) up down →
    digits_of q gs + down ≡ digits_of p gs + up
sums gs p q cell a b up down h =
    let e = drop_end gs (length gs) (omega arith) in
    let vp = ap (digits_of p) e in
    let vq = ap (digits_of q) e in
    omega (arith, vp, vq, h.sum)

-- a number is what its turn state adds, and the digits of the groups
pub number_parts : (gs : List GroupLine) (p : Board) →
    Num gs p ≡ turn_adds gs p.turn p.ep + digits_of p gs
number_parts gs p = refl

-- the number after a step by which the digits together grow by comes and fall by left
module _ (gs : List GroupLine) (p : Board) (man : Man) (a b : ℕ) (target : Option ℕ)
    (i left comes : ℕ) (number : HasNumber gs i p) (h : IsStep p man a b)
    (valid : IsValid (stepped p man a b target))
    (shifted : Shifted gs p (stepped p man a b target) (cell_of_man man) a b (length gs) comes left)
  where
    pub after_shift :
        (left + turn_adds gs p.turn p.ep ≤ i + comes + turn_adds gs (other_of p.turn) target)
        × HasNumber gs (number_after gs p.turn p.ep target i left comes) (stepped p man a b target)
    after_shift =
        let before = number_parts gs p in
        let after = number_parts gs (stepped p man a b target) in
        let sum = sums gs p (stepped p man a b target) (cell_of_man man) a b comes left shifted in
        let there = number.number in (
          omega (arith, before, sum, there),
          record {
            member =
                Member-stepped gs p man a b target comes left number.member.men h valid shifted;
            number = omega (arith, before, after, sum, there);
          },
        )

-- the number after a quiet move is that of the position after it
pub after_step : (gs : List GroupLine) (p : Board) (man : Man) (a b : ℕ) (target : Option ℕ)
    (i k left comes : ℕ) → HasNumber gs i p → IsStep p man a b →
    IsValid (stepped p man a b target) → (from : IsShare gs man a k left) →
    AreStates from.group.states → IsShare gs man b k comes →
    (left + turn_adds gs p.turn p.ep ≤ i + comes + turn_adds gs (other_of p.turn) target)
    × HasNumber gs (number_after gs p.turn p.ep target i left comes) (stepped p man a b target)
after_step gs p man a b target i k left comes number h valid from in_order to =
    after_shift gs p man a b target i left comes number h valid
    (all_shifted gs p man a b target k left comes number.member.counts h from in_order to)

-- no answer, where what an answer would say is false
pub none_told : (o : Option ℕ) (T : Type 0) → o ≡ None → (T → ⊥) → IsSome o ↔ T
none_told o T e never = (
  λ s. let w : false ≡ true = subst IsSome e s in absurd cc,
  λ t. absurd (never t),
)

-- what a man adds fits
pub share_small : (gs : List GroupLine) (man : Man) (s k adds : ℕ) → AreNumberable gs →
    IsShare gs man s k adds → adds ≤ 384 * 134217728
share_small gs man s k adds n x =
    let one = counted_at IsCounted gs k x.group n.groups x.there in
    let few = one.few in
    let low = slice_get_within x.group.states x.place (man.kind, s) x.place_is.1 in
    let whole = product_le gs n.groups (suc k) in
    let product = mul-le x.place (product_from gs (suc k)) 384 134217728 (omega (arith, low, few))
    (omega (arith, whole, whole_fits gs n)) in
    omega (arith, product, x.adds_is)

-- the number after a step, by the turned number
module _ (gs : List GroupLine) (i : ℕ) (p : Board) (target : Option ℕ) (t : Turned)
    (h : IsTurned gs i p target t) (left comes : ℕ) where
  pub turned_some : left + turn_adds gs p.turn p.ep
      ≤ i + comes + turn_adds gs (other_of p.turn) target →
      left + t.lost ≤ t.gained + comes
  turned_some some = omega (arith, some, h.gained_is, h.lost_is)

  pub turned_number : t.gained + comes - left - t.lost
      ≡ number_after gs p.turn p.ep target i left comes
  turned_number = omega (arith, h.gained_is, h.lost_is)
