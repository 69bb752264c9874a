-- A man of a group of several goes to an empty square: the group has as many men as before.
use Rattle.std.proofs.Common.{◌≡◌, ◌≢◌, ℕ, zero, suc, ◌+◌, ◌*◌, ◌<◌, ◌≤◌, Bool, true, false, cond, Option, None, Some, List, [], ◌∷◌, length, slice_index, refl, ap, sym, subst, ◌∙◌, arith, inl, inr}
use Rattle.std.specs.Prelude.{◌==◌}
use Rattle.std.specs.List.{AllByRecursion, slice_get}
use Rattle.std.proofs.lemmas.Bool.{cases_Bool, cases_eq, cases_lt, eqb-true, eq-eqb, false_from_ne_true}
use Rattle.std.proofs.lemmas.Option.{same_Some, slice_get_within}
use Rattle.frz_board.specs.Boards.{Board}
use Rattle.frz_board.specs.Men.{cell_of_man, other_of}
use Rattle.frz_board.specs.declared.man.Kind.{Kind}
use Rattle.frz_board.specs.declared.man.Man.{Man}
use Rattle.frz_combinations.specs.Combinations.{places_below}
use Rattle.frz_fide.specs.Valid.{IsValid}
use Rattle.frz_sets.specs.Groups.{state_number}
use Rattle.frz_sets.specs.Sets.{is_state}
use Rattle.frz_sets.specs.Sound.{AreStates}
use Rattle.frz_sets.specs.Views.{GroupLine}
use Rattle.frz_index.proofs.Charting.{pair_is}
use Rattle.frz_index.proofs.NumbersAfterSteps.{Shifted, after_shift, shifted_all}
use Rattle.frz_index.proofs.RoomForMen.{any_at, any_found, at_itself, at_parts, counted_at, is_at, same_man}
use Rattle.frz_index.proofs.Stepping.{Shifts, at_from, at_rest, at_to, no_man, stands_there, state_once, stays}
use Rattle.frz_index.specs.Kept.{AreApart, product_from}
use Rattle.frz_index.specs.Members.{HasNumber}
use Rattle.frz_index.specs.Places.{IsWithinCount, digit_of, places, stands}
use Rattle.frz_index.specs.Stepping.{HasOnBoth, IsCountedOnBoth, IsCounter, IsPlace, IsShare, IsSharedOnBoth, IsStep, number_after, stepped, turn_adds}

-- tests that agree below n
same_under : (f e : ℕ → Bool) (n : ℕ) → ((j : ℕ) → j < n → f j ≡ e j) →
    length (places_below f n) ≡ length (places_below e n)
same_under f e zero same = refl
same_under f e (suc n) same =
    let rest = same_under f e n (λ j l. same j (omega (arith, l))) in
    let here = same n (omega arith) in
    elim (cases_Bool (e n)) [
      | inl on ↦ rw (here, on) (omega (arith, rest))
      | inr off ↦ rw (here, off) rest
    ]

-- a test that holds at one place more
one_more : (f e : ℕ → Bool) (n k : ℕ) → k < n → f k ≡ true → e k ≡ false →
    ((j : ℕ) → j ≢ k → f j ≡ e j) → length (places_below f n) ≡ suc (length (places_below e n))
one_more f e zero k l on off same = absurd (omega (arith, l))
one_more f e (suc n) k l on off same =
    elim (cases_eq k n) [
      | inl here ↦
          let rest = same_under f e n (λ j m. same j (λ x. omega (arith, m, x, here))) in
          let f_n : f n ≡ true = ap f (sym here) ∙ on in
          let e_n : e n ≡ false = ap e (sym here) ∙ off in
          rw (f_n, e_n) (omega (arith, rest))
      | inr other ↦
          let rest = one_more f e n k (omega (arith, l, other)) on off same in
          let agree : f n ≡ e n = same n (λ x. other (sym x)) in
          elim (cases_Bool (e n)) [
            | inl too ↦ rw (agree, too) (omega (arith, rest))
            | inr neither ↦ rw (agree, neither) rest
          ]
    ]

-- a man that is a state of the group has a place there
pub place_of_state : (g : GroupLine) (man : Man) (s : ℕ) → is_state (cell_of_man man) s g ≡ true →
    (k : ℕ) × IsPlace g man s k
place_of_state g man s t =
    let found = any_found (is_at g.colour man s) g.states t in
    let parts = at_parts g.colour man s found.1 found.3 in
    (found.0, (parts.0, found.2 ∙ ap Some (pair_is found.1 man.kind s parts.1 parts.2)))

-- a man that has a place in the group is a state of the group
pub state_of_place : (g : GroupLine) (man : Man) (s k : ℕ) → IsPlace g man s k →
    is_state (cell_of_man man) s g ≡ true
state_of_place g man s k h =
    any_at (is_at g.colour man s) g.states k (man.kind, s) h.1
    (ap (λ c. is_at c man s (man.kind, s)) h.0 ∙ at_itself man s man.kind refl)

equal_numbers : (k l : Kind) (s t : ℕ) → k ≡ l → s ≡ t → state_number (k, s) ≡ state_number (l, t)
equal_numbers k l s t e f =
    ap (λ (x : Kind). state_number (x, s)) e ∙ ap (λ (x : ℕ). state_number (l, x)) f

-- no man stands at a place on an empty square
empty_place : (g : GroupLine) (r : Board) (s : ℕ) (st : Kind × ℕ) → slice_index r.cells s ≡ 0 →
    st.1 ≡ s → stands r g.colour (Some st) ≡ false
empty_place g r s st none here =
    no_man (slice_index r.cells st.1) g.colour st.0 (ap (slice_index r.cells) here ∙ none)

-- where the man stands at his place, no man stands at another place on that square
other_place : (g : GroupLine) (man : Man) (r : Board) (s k j : ℕ) (st : Kind × ℕ) →
    AreStates g.states → IsPlace g man s k → slice_index r.cells s ≡ cell_of_man man →
    slice_get g.states j ≡ Some st → st.1 ≡ s → j ≢ k → stands r g.colour (Some st) ≡ false
other_place g man r s k j st in_order pl is e here n =
    false_from_ne_true (stands r g.colour (Some st))
    (λ t.
    let same = same_man man (record { colour = g.colour; kind = st.0 })
    (sym (ap (slice_index r.cells) here ∙ is)
    ∙ eqb-true (slice_index r.cells st.1)
    (cell_of_man (record { colour = g.colour; kind = st.0 })) t) in
    let kinds : st.0 ≡ man.kind = ap (λ (m : Man). m.kind) (sym same) in
    n (state_once g.states j k st (man.kind, s) in_order e pl.1
    (equal_numbers st.0 man.kind st.1 s kinds here)))

module _ (p : Board) (man : Man) (a b : ℕ) (target : Option ℕ) (h : IsStep p man a b)
    (g : GroupLine) (in_order : AreStates g.states) (ka kb : ℕ) (pa : IsPlace g man a ka)
    (pb : IsPlace g man b kb) where
  abbrev q : Board
  q = stepped p man a b target

  same_else : (j : ℕ) (o : Option (Kind × ℕ)) → slice_get g.states j ≡ o → j ≢ ka → j ≢ kb →
      stands q g.colour o ≡ stands p g.colour o
  same_else j None e na nb = refl
  same_else j (Some st) e na nb =
      elim (cases_eq st.1 a) [
        | inl here ↦
            empty_place g q a st (at_from p man a b target h) here
            ∙ sym (other_place g man p a ka j st in_order pa h.stood e here na)
        | inr left ↦ elim (cases_eq st.1 b) [
          | inl here ↦
              other_place g man q b kb j st in_order pb (at_to p man a b target h) e here nb
              ∙ sym (empty_place g p b st h.free here)
          | inr right ↦
              ap (λ x. x == cell_of_man (record { colour = g.colour; kind = st.0 }))
              (at_rest p man a b target h st.1 left right)
        ]
      ]

  abbrev before : ℕ → Bool
  before j = stands p g.colour (slice_get g.states j)

  abbrev after : ℕ → Bool
  after j = stands q g.colour (slice_get g.states j)

  -- all but the man
  abbrev others : ℕ → Bool
  others j = cond (j == ka) false (before j)

  others_else : (j : ℕ) → j ≢ ka → before j ≡ others j
  others_else j n =
      sym (ap (λ t. cond t false (before j))
      (false_from_ne_true (j == ka) (λ t. n (eqb-true j ka t))))

  others_from : others ka ≡ false
  others_from = ap (λ t. cond t false (before ka)) (eq-eqb ka ka refl)

  others_to : others kb ≡ false
  others_to =
      elim (cases_eq kb ka) [
        | inl same ↦ ap others same ∙ others_from
        | inr other ↦
            sym (others_else kb other) ∙ ap (stands p g.colour) pb.1
            ∙ empty_place g p b (man.kind, b) h.free refl
      ]

  after_else : (j : ℕ) → j ≢ kb → after j ≡ others j
  after_else j n =
      elim (cases_eq j ka) [
        | inl same ↦
            ap after same ∙ ap (stands q g.colour) pa.1
            ∙ empty_place g q a (man.kind, a) (at_from p man a b target h) refl
            ∙ sym (ap others same ∙ others_from)
        | inr other ↦ same_else j (slice_get g.states j) refl other n ∙ others_else j other
      ]

  as_many : length (places q g) ≡ length (places p g)
  as_many =
      one_more after others (length g.states) kb
      (slice_get_within g.states kb (man.kind, b) pb.1)
      (stands_there g man q b kb pb (at_to p man a b target h)) others_to after_else
      ∙ sym (one_more before others (length g.states) ka
      (slice_get_within g.states ka (man.kind, a) pa.1)
      (stands_there g man p a ka pa h.stood) others_from others_else)

  pub moves_among : IsWithinCount p g →
      Shifts p q (cell_of_man man) a b g (digit_of q g) (digit_of p g)
  moves_among w = record {
    digit = omega arith;
    counted = record {
      least = omega (arith, w.least, as_many);
      most = omega (arith, w.most, as_many);
    };
    covered = λ _. state_of_place g man b kb pb;
  }

-- one group alone counts the man on both squares
pub shifted_among : (gs : List GroupLine) (p : Board) (man : Man) (a b : ℕ) (target : Option ℕ)
    (k : ℕ) (from : IsCounter gs man a k) (to : IsCounter gs man b k) →
    AllByRecursion (IsWithinCount p) gs → IsStep p man a b → AreStates from.group.states →
    Shifted gs p (stepped p man a b target) (cell_of_man man) a b (length gs)
    (digit_of (stepped p man a b target) from.group * product_from gs (suc k))
    (digit_of p from.group * product_from gs (suc k))
shifted_among gs p man a b target k from to counts h in_order =
    let q = stepped p man a b target in
    let g = from.group in
    let same : to.group ≡ g = same_Some to.group g (sym to.there ∙ from.there) in
    let there : IsPlace g man b to.place =
    subst (λ (g : GroupLine). IsPlace g man b to.place) same to.place_is in
    shifted_all gs p q (cell_of_man man) a b k (digit_of q g) (digit_of p g) g from.there
    (moves_among p man a b target h g in_order from.place to.place from.place_is there
    (counted_at (IsWithinCount p) gs k g counts from.there))
    (λ j g n here. stays p man a b target h g (from.alone j g n here) (to.alone j g n here)
    (counted_at (IsWithinCount p) gs j g counts here))

-- a state of one group is none of a later one
apart_later : (gs : List GroupLine) (cell s i j : ℕ) (g l : GroupLine) → AreApart gs → i < j →
    slice_get gs i ≡ Some g → slice_get gs j ≡ Some l → is_state cell s g ≡ true →
    is_state cell s l ≡ false
apart_later [] cell s i j g l h less ei ej t = absurd cc
apart_later (x ∷ gs) cell s zero zero g l h less ei ej t = absurd (omega (arith, less))
apart_later (x ∷ gs) cell s zero (suc j) g l h less ei ej t =
    let on : is_state cell s x ≡ true =
    subst (λ (y : GroupLine). is_state cell s y ≡ true) (sym (same_Some x g ei)) t in
    let none = h.0.alone cell s on in
    false_from_ne_true (is_state cell s l)
    (λ u. let some = any_at (is_state cell s) gs j l ej u in absurd cc)
apart_later (x ∷ gs) cell s (suc i) zero g l h less ei ej t = absurd (omega (arith, less))
apart_later (x ∷ gs) cell s (suc i) (suc j) g l h less ei ej t =
    apart_later gs cell s i j g l h.1 (omega (arith, less)) ei ej t

-- a state of a group is of that group alone, where no two groups have a state in common
pub counter_of : (gs : List GroupLine) (man : Man) (s i : ℕ) (g : GroupLine) → AreApart gs →
    slice_get gs i ≡ Some g → is_state (cell_of_man man) s g ≡ true → IsCounter gs man s i
counter_of gs man s i g h e t =
    let place = place_of_state g man s t in
    record {
      group = g;
      there = e;
      place = place.0;
      place_is = place.1;
      alone = λ j l n ej.
          false_from_ne_true (is_state (cell_of_man man) s l)
          (λ u. elim (cases_lt j i) [
            | inl less ↦
                let off = apart_later gs (cell_of_man man) s j i l g h less ej e u in absurd cc
            | inr more ↦
                let later : i < j = omega (arith, more, n) in
                let off = apart_later gs (cell_of_man man) s i j g l h later e ej t
                in absurd cc
          ]);
    }

-- the group that has the man on both squares is the one that counts him
pub counted_on_both : (gs : List GroupLine) (man : Man) (a b k : ℕ) → AreApart gs →
    HasOnBoth gs man a b k → IsCountedOnBoth gs man a b
counted_on_both gs man a b k h on = record {
  group = k;
  there = counter_of gs man a k on.0 h on.1 on.2;
  then = counter_of gs man b k on.0 h on.1 on.3;
}

pub on_both : (gs : List GroupLine) (man : Man) (a b : ℕ) (t : IsCountedOnBoth gs man a b) →
    HasOnBoth gs man a b t.group
on_both gs man a b t =
    let g = t.there.group in
    let same : t.then.group ≡ g = same_Some t.then.group g (sym t.then.there ∙ t.there.there) in (
      g,
      t.there.there,
      state_of_place g man a t.there.place t.there.place_is,
      subst (λ (x : GroupLine). is_state (cell_of_man man) b x ≡ true) same
          (state_of_place t.then.group man b t.then.place t.then.place_is),
    )

-- by what the group's digit adds before and after, the number after the step is told
abbrev pub SumTold : List GroupLine → Board → Man → ℕ → ℕ → Option ℕ → ℕ → ℕ → ℕ → Type 0
SumTold gs p man a b target i left comes =
    (left + turn_adds gs p.turn p.ep ≤ i + comes + turn_adds gs (other_of p.turn) target)
    × HasNumber gs (number_after gs p.turn p.ep target i left comes) (stepped p man a b target)

-- the group has no more men after it and no fewer, and so the number is told
abbrev pub StepTold : List GroupLine → Board → Man → ℕ → ℕ → Option ℕ → ℕ → ℕ → GroupLine → Type 0
StepTold gs p man a b target i k g =
    IsWithinCount p g × IsWithinCount (stepped p man a b target) g
    × SumTold gs p man a b target i (digit_of p g * product_from gs (suc k))
    (digit_of (stepped p man a b target) g * product_from gs (suc k))

pub after_among : (gs : List GroupLine) (p : Board) (man : Man) (a b : ℕ) (target : Option ℕ)
    (i k : ℕ) → AreApart gs → HasNumber gs i p → IsStep p man a b →
    IsValid (stepped p man a b target) → (on : HasOnBoth gs man a b k) → AreStates on.0.states →
    StepTold gs p man a b target i k on.0
unfolding counter_of
after_among gs p man a b target i k apart number h valid on in_order =
    let g = on.0 in
    let q = stepped p man a b target in
    let w = product_from gs (suc k) in
    let from = counter_of gs man a k g apart on.1 on.2 in
    let to = counter_of gs man b k g apart on.1 on.3 in
    let counts = number.member.counts in
    let within = counted_at (IsWithinCount p) gs k g counts on.1 in (
      within,
      (moves_among p man a b target h g in_order from.place to.place from.place_is to.place_is
          within).counted,
      after_shift gs p man a b target i (digit_of p g * w) (digit_of q g * w) number h valid
          (shifted_among gs p man a b target k from to counts h in_order),
    )

pub with_sums : (gs : List GroupLine) (p : Board) (man : Man) (a b : ℕ) (target : Option ℕ)
    (i k : ℕ) (g : GroupLine) (q : Board) (left comes : ℕ) → StepTold gs p man a b target i k g →
    q ≡ stepped p man a b target → left ≡ digit_of p g * product_from gs (suc k) →
    comes ≡ digit_of q g * product_from gs (suc k) → SumTold gs p man a b target i left comes
with_sums gs p man a b target i k g q left comes t eq el ec =
    let w = product_from gs (suc k) in
    subst (λ x. SumTold gs p man a b target i x comes) (sym el)
    (subst (λ y. SumTold gs p man a b target i (digit_of p g * w) y)
    (sym (ec ∙ ap (λ (r : Board). digit_of r g * w) eq)) t.2)

-- where the man is counted by one group alone of one man at most, so he is on both squares
pub shared_on_both : (gs : List GroupLine) (man : Man) (a b k left : ℕ) → IsShare gs man a k left →
    IsCountedOnBoth gs man a b → IsSharedOnBoth gs man a b
shared_on_both gs man a b k left from t =
    let same : t.group ≡ k = elim (cases_eq t.group k) [
      | inl e ↦ e
      | inr n ↦
          let off = from.alone t.group t.there.group n t.there.there in
          let on = state_of_place t.there.group man a t.there.place t.there.place_is in
          absurd cc
    ] in
    let to : IsCounter gs man b k = subst (λ j. IsCounter gs man b j) same t.then in
    let own : from.group ≡ to.group = same_Some from.group to.group (sym from.there ∙ to.there) in
    record {
      group = k;
      left = left;
      comes = to.place * product_from gs (suc k);
      there = from;
      then = record {
        group = to.group;
        there = to.there;
        one = ap (λ (g : GroupLine). g.most) (sym own) ∙ from.one;
        place = to.place;
        place_is = to.place_is;
        adds_is = refl;
        alone = to.alone;
      };
    }

pub counted_where_shared : (gs : List GroupLine) (man : Man) (a b : ℕ) →
    IsSharedOnBoth gs man a b → IsCountedOnBoth gs man a b
counted_where_shared gs man a b t = record {
  group = t.group;
  there = record {
    group = t.there.group;
    there = t.there.there;
    place = t.there.place;
    place_is = t.there.place_is;
    alone = t.there.alone;
  };
  then = record {
    group = t.then.group;
    there = t.then.there;
    place = t.then.place;
    place_is = t.then.place_is;
    alone = t.then.alone;
  };
}
