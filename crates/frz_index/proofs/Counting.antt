-- The men of one kind, counted over the squares of a word.
use Rattle.std.proofs.Common.{◌≡◌, ℕ, zero, suc, ◌+◌, ◌-◌, ◌*◌, ◌<◌, ◌≤◌, Bool, true, false, cond, ◌&&◌, ◌||◌, min, List, [], ◌∷◌, length, slice_index, Some, refl, ap, sym, ◌∙◌, subst, arith, inl, inr, add-one}
use Rattle.frz_board.proofs.Lemmas.{kind-number}
use Rattle.std.specs.Prelude.{◌==◌}
use Rattle.std.specs.List.{list_any, slice_get}
use Rattle.std.proofs.lemmas.Option.{slice_get_within}
use Rattle.std.proofs.lemmas.Bool.{and_parts, cases_lt}
use Rattle.std.proofs.lemmas.Bool.Decides.{nat_tests}
use Rattle.frz_board.specs.declared.man.Colour.{Colour}
use Rattle.frz_board.specs.declared.man.Kind.{Kind}
use Rattle.frz_board.specs.Boards.{Board, has}
use Rattle.frz_board.specs.Men.{kind_of_number, number_of_kind}
use Rattle.frz_fide.specs.Words.{HasNoneFrom, IsNext}
use Rattle.frz_squares.specs.SquareSets.{has_square, set_of}
use Rattle.frz_squares.proofs.Lemmas.{has-set_of, has-zero}
use Rattle.frz_combinations.proofs.Lemmas.{place_counts}
use Rattle.frz_combinations.specs.Binomials.{capped, choose}
use Rattle.frz_combinations.specs.Combinations.{places_below, rank}
use Rattle.frz_sets.specs.Groups.{state_number}
use Rattle.frz_sets.specs.Views.{GroupLine}
use Rattle.frz_index.specs.declared.chart.Chart.{Chart}
use Rattle.frz_index.specs.declared.digit.Counted.{Counted}
use Rattle.frz_index.specs.Charts.{IsChart, IsCounted, IsCut, is_on}
use Rattle.frz_index.specs.Places.{places, places_among, stands}
use Rattle.frz_index.proofs.Charting.{cut_at, cut_here, cut_once, cut_order, kind_back, kind_numbers, some_at, state_low}

-- places at which nothing holds change nothing
pub skip : (f : ℕ → Bool) (a b : ℕ) → a ≤ b → ((j : ℕ) → a ≤ j → j < b → f j ≡ false) →
    places_below f b ≡ places_below f a
skip f a zero h none = let e : zero ≡ a = omega arith in ap (places_below f) e
skip f a (suc b) h none =
    elim (cases_lt b a) [
      | inl less ↦ let e : suc b ≡ a = omega arith in ap (places_below f) e
      | inr more ↦
          ap (λ x. cond x (b ∷ places_below f b) (places_below f b)) (none b more (omega arith))
          ∙ skip f a b more (λ j l m. none j l (omega arith))
    ]

pub place_on : (f : ℕ → Bool) (k : ℕ) → f k ≡ true → places_below f (k + 1) ≡ k ∷ places_below f k
place_on f k e =
    ap (places_below f) (add-one k) ∙ ap (λ x. cond x (k ∷ places_below f k) (places_below f k)) e

pub place_off : (f : ℕ → Bool) (k : ℕ) → f k ≡ false → places_below f (k + 1) ≡ places_below f k
place_off f k e =
    ap (places_below f) (add-one k) ∙ ap (λ x. cond x (k ∷ places_below f k) (places_below f k)) e

pub and_off : (a b : Bool) → (a && b) ≡ false → b ≡ true → a ≡ false
and_off false b h e = refl
and_off true b h e = let wrong : true ≡ false = sym e ∙ h in cc

-- the men of the colour and the kind on the squares of the kind's states
pub record AreMen (p : Board) (g : GroupLine) (chart : Chart) (i men : ℕ) : Type 0 where
  pub charted : IsChart g.states chart
  pub kind : i < 6
  pub there : (s : ℕ) → s < 64 →
      has_square men s
      ≡ (has p g.colour (kind_of_number (i + 1)) s && has_square (slice_index chart.words i) s)

abbrev pub before : Board → GroupLine → Chart → ℕ → ℕ → List ℕ
before p g chart i n = places_among p g.colour g.states (slice_index chart.cuts (64 * i + n))

abbrev pub on : Board → GroupLine → ℕ → Bool
on p g k = stands p g.colour (slice_get g.states k)

cut : (p : Board) (g : GroupLine) (chart : Chart) (i men n : ℕ) → AreMen p g chart i men → n ≤ 64 →
    IsCut g.states (64 * i + n) (slice_index chart.cuts (64 * i + n))
cut p g chart i men n h l = h.charted.cuts_are.cut (64 * i + n) (let k = h.kind in omega arith)

parts : (i n s m a : ℕ) → 64 * i + n ≤ 64 * (m - 1) + a → 64 * (m - 1) + a < 64 * i + s → s ≤ 64 →
    a < 64 → 1 ≤ m → (m - 1 ≡ i) × (n ≤ a) × (a < s)
parts i n s m a h l t low some = (omega arith, omega arith, omega arith)

-- no man stands on the squares from n to s
pub past : (p : Board) (g : GroupLine) (chart : Chart) (i men n s : ℕ) → AreMen p g chart i men →
    n ≤ s → s ≤ 64 → ((q : ℕ) → n ≤ q → q < s → has_square men q ≡ false) →
    before p g chart i s ≡ before p g chart i n
past p g chart i men n s h l low none =
    let from = cut p g chart i men n h (omega arith) in
    let to = cut p g chart i men s h low in
    skip (on p g) (slice_index chart.cuts (64 * i + n)) (slice_index chart.cuts (64 * i + s))
    (cut_order g.states (64 * i + n) (64 * i + s) _ _ (omega arith) from to)
    (λ j a b.
    let found = some_at g.states j (omega (arith, to.within)) in
    let st = found.0 in
    let square = (state_low 0 g.states j st h.charted.in_order.increasing found.1).1 in
    let here = parts i n s (number_of_kind st.0) st.1 (from.from j st a found.1)
    (to.before j st b found.1) low square (kind_numbers st.0).0 in
    let word : has_square (slice_index chart.words i) st.1 ≡ true =
    ap (λ x. has_square (slice_index chart.words x) st.1) (sym here.0)
    ∙ h.charted.words_are.all j st found.1 in
    let empty : has p g.colour (kind_of_number (i + 1)) st.1 ≡ false = and_off
    (has p g.colour (kind_of_number (i + 1)) st.1) (has_square (slice_index chart.words i) st.1)
    (sym (h.there st.1 square) ∙ none st.1 here.1 here.2) word in
    let number : number_of_kind st.0 ≡ i + 1 = omega (arith, here.0, (kind_numbers st.0).0) in
    let kind : st.0 ≡ kind_of_number (i + 1) = sym (kind_back st.0) ∙ ap kind_of_number number in
    ap (stands p g.colour) found.1 ∙ ap (λ k. has p g.colour k st.1) kind ∙ empty)

-- the state of a square of the word
pub record Met (p : Board) (g : GroupLine) (chart : Chart) (i s : ℕ) : Type 0 where
  pub state : slice_get g.states (slice_index chart.cuts (64 * i + s))
      ≡ Some (kind_of_number (i + 1), s)
  pub next : slice_index chart.cuts (64 * i + (s + 1)) ≡ slice_index chart.cuts (64 * i + s) + 1

both_true : (p : Board) (g : GroupLine) (chart : Chart) (i men s : ℕ) → AreMen p g chart i men →
    s < 64 → has_square men s ≡ true →
    (has p g.colour (kind_of_number (i + 1)) s ≡ true)
    × (has_square (slice_index chart.words i) s ≡ true)
both_true p g chart i men s h l t =
    and_parts (has p g.colour (kind_of_number (i + 1)) s) (has_square (slice_index chart.words i) s)
    (sym (h.there s l) ∙ t)

pub met : (p : Board) (g : GroupLine) (chart : Chart) (i men s : ℕ) → AreMen p g chart i men →
    s < 64 → has_square men s ≡ true → Met p g chart i s
met p g chart i men s h l t =
    let word = (both_true p g chart i men s h l t).1 in
    let found = h.charted.words_are.only i s h.kind l word in
    let st : Kind × ℕ = (kind_of_number (i + 1), s) in
    let number : state_number st ≡ 64 * i + s = let k = kind-number i h.kind in omega arith in
    let here = cut p g chart i men s h (omega arith) in
    let at = cut_at g.states (64 * i + s) (slice_index chart.cuts (64 * i + s)) found.0 st
    h.charted.in_order here found.1 number in
    let state : slice_get g.states (slice_index chart.cuts (64 * i + s)) ≡ Some st =
    ap (slice_get g.states) (sym at) ∙ found.1 in
    let sum : 64 * i + s + 1 ≡ 64 * i + (s + 1) = omega arith in
    record {
      state = state;
      next = cut_once g.states (64 * i + (s + 1)) _ _ (cut p g chart i men (s + 1) h (omega arith))
          (subst (λ x. IsCut g.states x (slice_index chart.cuts (64 * i + s) + 1)) sum
          (cut_here g.states (64 * i + s) (slice_index chart.cuts (64 * i + s)) st
          h.charted.in_order here state number));
    }

-- a man is counted
pub counts : (p : Board) (g : GroupLine) (chart : Chart) (i men n s : ℕ) → AreMen p g chart i men →
    IsNext men n s →
    before p g chart i (s + 1) ≡ slice_index chart.cuts (64 * i + s) ∷ before p g chart i n
counts p g chart i men n s h next =
    let is = (both_true p g chart i men s h next.on_board next.there).0 in
    let m = met p g chart i men s h next.on_board next.there in
    ap (places_among p g.colour g.states) m.next
    ∙ place_on (on p g) (slice_index chart.cuts (64 * i + s)) (ap (stands p g.colour) m.state ∙ is)
    ∙ ap (λ ks. slice_index chart.cuts (64 * i + s) ∷ ks)
    (past p g chart i men n s h next.from (omega (arith, next.on_board)) next.first)

-- no man is left
pub ends : (p : Board) (g : GroupLine) (chart : Chart) (i men n : ℕ) → AreMen p g chart i men →
    n ≤ 64 → HasNoneFrom men n →
    places_among p g.colour g.states (slice_index chart.cuts (64 * (i + 1))) ≡ before p g chart i n
ends p g chart i men n h low none =
    let e : 64 * (i + 1) ≡ 64 * i + 64 = omega arith in
    ap (λ x. places_among p g.colour g.states (slice_index chart.cuts x)) e
    ∙ past p g chart i men n 64 h low (omega arith) none.none

-- a man more than the most
pub too_many : (p : Board) (g : GroupLine) (chart : Chart) (i men n s : ℕ) →
    AreMen p g chart i men → IsNext men n s →
    length (before p g chart i n) < length (places p g)
too_many p g chart i men n s h next =
    let is = (both_true p g chart i men s h next.on_board next.there).0 in
    let m = met p g chart i men s h next.on_board next.there in
    let k = slice_index chart.cuts (64 * i + s) in
    let skipped = past p g chart i men n s h next.from (omega (arith, next.on_board)) next.first in
    omega (
      arith,
      ap length skipped,
      place_counts (on p g) k (length g.states)
          (slice_get_within g.states k _ m.state) (ap (stands p g.colour) m.state ∙ is),
    )

-- the place is in the triangle
pub place_low : (p : Board) (g : GroupLine) (chart : Chart) (i men s : ℕ) → AreMen p g chart i men →
    s < 64 → slice_index chart.cuts (64 * i + s) ≤ length g.states
place_low p g chart i men s h l = (cut p g chart i men s h (omega arith)).within

-- equality tested the other way round
pub eqb_swap : (a b : ℕ) → (a == b) ≡ (b == a)
eqb_swap a b = grind (arith, nat_tests)

one_more : (a b : Bool) → cond a true b ≡ (a || b)
one_more true b = refl
one_more false b = refl

-- the state at the place is one on this square alone
abbrev pub is_on_only : GroupLine → ℕ → ℕ → Type 0
is_on_only g place s = (k : ℕ) → is_on k (slice_get g.states place) ≡ (k == s)

pub met_on : (p : Board) (g : GroupLine) (chart : Chart) (i men s : ℕ) →
    AreMen p g chart i men → s < 64 → has_square men s ≡ true →
    is_on_only g (slice_index chart.cuts (64 * i + s)) s
met_on p g chart i men s h l t k =
    ap (is_on k) (met p g chart i men s h l t).state ∙ eqb_swap s k

-- the count, the rank and the squares go on
pub counted_on : (p : Board) (g : GroupLine) (place s a b : ℕ) (ways : ℕ) (x y : Counted) →
    places_among p g.colour g.states b ≡ place ∷ places_among p g.colour g.states a →
    is_on_only g place s → x.count < g.most → IsCounted p g a x →
    ways ≡ capped (choose place (x.count + 1)) → y.count ≡ x.count + 1 →
    y.rank ≡ min (x.rank + ways) 18446744073709551615 →
    ((k : ℕ) → k < 64 → has_square y.squares k ≡ cond (k == s) true (has_square x.squares k)) →
    IsCounted p g b y
counted_on p g place s a b ways x y e at few h ew count rank_on squares =
    let ks = places_among p g.colour g.states a in
    let size : x.count + 1 ≡ suc (length ks) = omega (arith, h.count_is) in
    record {
      count_is = omega (arith, count, h.count_is, ap length e);
      few = omega (arith, count);
      rank_is =
          let w : ways ≡ capped (choose place (suc (length ks))) = ew
          ∙ ap (λ n. capped (choose place n)) size in
          let r = ap rank e in
          omega (arith, w, rank_on, h.rank_is, r);
      squares_are = λ k l.
          squares k l ∙ one_more (k == s) (has_square x.squares k)
          ∙ ap (λ b. (k == s) || b) (h.squares_are k l)
          ∙ ap (λ b. b || list_any (λ j. is_on k (slice_get g.states j)) ks) (sym (at k))
          ∙ sym (ap (list_any (λ j. is_on k (slice_get g.states j))) e);
    }

-- the word that the code makes
pub men_of : (p : Board) (g : GroupLine) (chart : Chart) (i men stand : ℕ) (c : Colour) (k : Kind) →
    IsChart g.states chart → i < 6 → stand ≡ set_of (λ s. has p c k s) → c ≡ g.colour →
    k ≡ kind_of_number (i + 1) →
    ((s : ℕ) → s < 64
    → has_square men s ≡ (has_square stand s && has_square (slice_index chart.words i) s))
    → AreMen p g chart i men
men_of p g chart i men stand c k h low e colour kind both = record {
  charted = h;
  kind = low;
  there = λ s l.
      both s l
      ∙ ap (λ b. b && has_square (slice_index chart.words i) s)
      (ap (λ w. has_square w s) e ∙ has-set_of (λ s. has p c k s) s l ∙ ap (λ c. has p c k s) colour
      ∙ ap (λ k. has p g.colour k s) kind);
}

-- where no more men are counted
pub counted_at : (p : Board) (g : GroupLine) (a b : ℕ) (x y : Counted) →
    places_among p g.colour g.states b ≡ places_among p g.colour g.states a → IsCounted p g a x →
    y.count ≡ x.count → y.rank ≡ x.rank → y.squares ≡ x.squares → IsCounted p g b y
counted_at p g a b x y e h count rank_same squares = record {
  count_is = count ∙ h.count_is ∙ sym (ap length e);
  few = omega (arith, count, h.few);
  rank_is = rank_same ∙ h.rank_is ∙ sym (ap (λ ks. capped (rank ks)) e);
  squares_are = λ k l.
      ap (λ w. has_square w k) squares ∙ h.squares_are k l
      ∙ sym (ap (list_any (λ j. is_on k (slice_get g.states j))) e);
}

-- before the first place
pub counted_none : (p : Board) (g : GroupLine) (n : ℕ) → n ≡ 0 →
    IsCounted p g n (record { count = 0; rank = 0; squares = 0 })
counted_none p g n e =
    let none : places_among p g.colour g.states n ≡ [] = ap (places_among p g.colour g.states) e in
    record {
      count_is = sym (ap length none);
      few = omega arith;
      rank_is = sym (ap (λ ks. capped (rank ks)) none);
      squares_are = λ k l.
          has-zero k ∙ sym (ap (list_any (λ j. is_on k (slice_get g.states j))) none);
    }
