-- That the squeezes of a list are the pairs that are squeezes.
use Rattle.std.proofs.Common.{◌≡◌, refl, sym, ap, subst, ◌∙◌, ℕ, zero, suc, ◌+◌, ◌<◌, ◌≤◌, ◌&&◌, ◌↔◌, ◌≢◌, ⊎_elim, List, ◌∷◌, length, Bool, true, false, nat_lt, Option, Some, None, is_none, if◌then◌else◌, Contains, AllPairs, arith}
use Rattle.std.specs.List.{range_with_len, filter_map, cons_option, slice_index_or}
use Rattle.std.proofs.lemmas.Bool.{and_from, and_parts, cases_eq, lt-ltb, ltb-true}
use Rattle.std.proofs.lemmas.List.Elements.{Contains-get_or}
use Rattle.std.specs.Option.{option_and_then}
use Rattle.std.proofs.lemmas.List.Kept.{AllPairs-cons}
use Rattle.frz_board.specs.declared.man.Colour.{Colour}
use Rattle.frz_board.specs.declared.man.Colour.TheVariants.{White, Black}
use Rattle.frz_board.specs.Boards.{Board}
use Rattle.frz_board.specs.Men.{same_colour}
use Rattle.frz_sets.specs.Sets.{size_of}
use Rattle.frz_sets.specs.Views.{GroupLine}
use Rattle.frz_index.specs.Membership.{number_of, position_at}
use Rattle.frz_index.specs.Partners.{with_black}
use Rattle.frz_index.proofs.Lemmas.{Num_below, position_of, position_tells, number_tells, number_there, member_of, of_member}
use Rattle.frz_report.specs.Squeezes.{Squeeze, IsSqueeze, is_first, is_worse_to_move, rank_at, squeeze_at, squeeze_on, squeeze_with, squeezes}

pub is_white : (c : Colour) → same_colour c White ≡ true → c ≡ White
is_white White h = refl
is_white Black h = cc

pub has_none : (o : Option ℕ) → is_none o ≡ true → o ≡ None
has_none None h = refl
has_none (Some x) h = cc

module _ (groups : List GroupLine) (codes : Colour → List ℕ) where
  -- what is found at a number is a squeeze whose first number it is
  pub record Found (w : ℕ) (s : Squeeze) : Type 0 where
    pub here : s.white_to_move ≡ w
    pub is : IsSqueeze groups codes s

  found_with : (w b : ℕ) (p : Board) (s : Squeeze) → position_at groups w ≡ Some p
      → is_first p ≡ true → number_of groups (with_black p) ≡ Some b
      → (worse : Bool) → is_worse_to_move codes w b ≡ worse
      → (if worse then Some (record { white_to_move = w; black_to_move = b; position = p })
      else None) ≡ Some s → Found w s
  found_with w b p s at first to false e h = cc
  found_with w b p s at first to true e h =
      let is : record { white_to_move = w; black_to_move = b; position = p } ≡ s = cc in
      let white = (and_parts (nat_lt (rank_at codes White w) (rank_at codes White b))
      (nat_lt (rank_at codes Black b) (rank_at codes Black w)) e).0 in
      let black = (and_parts (nat_lt (rank_at codes White w) (rank_at codes White b))
      (nat_lt (rank_at codes Black b) (rank_at codes Black w)) e).1 in
      let tells = number_tells groups (with_black p) b to in
      subst (λ (t : Squeeze). Found w t) is (record {
        here = refl;
        is = record {
          other = with_black p;
          first_is = position_tells groups w p at;
          second_is = record { member = member_of groups (with_black p) tells.0; number = tells.1 };
          same_men = refl;
          white_first =
              is_white p.turn (and_parts (same_colour p.turn White) (is_none p.ep) first).0;
          black_second = refl;
          no_target = has_none p.ep (and_parts (same_colour p.turn White) (is_none p.ep) first).1;
          no_other_target = refl;
          white_worse = ltb-true (rank_at codes White w) (rank_at codes White b) white;
          black_worse = ltb-true (rank_at codes Black b) (rank_at codes Black w) black;
        };
      })

  found_by : (w : ℕ) (p : Board) (s : Squeeze) → position_at groups w ≡ Some p → is_first p ≡ true
      → (o : Option ℕ) → number_of groups (with_black p) ≡ o
      → squeeze_with codes w p o ≡ Some s → Found w s
  found_by w p s at first None e h = cc
  found_by w p s at first (Some b) e h =
      found_with w b p s at first e (is_worse_to_move codes w b) refl h

  found_on : (w : ℕ) (p : Board) (s : Squeeze) → position_at groups w ≡ Some p → (first : Bool)
      → is_first p ≡ first
      → squeeze_with codes w p (if first then number_of groups (with_black p) else None) ≡ Some s
      → Found w s
  found_on w p s at false e h = cc
  found_on w p s at true e h = found_by w p s at e (number_of groups (with_black p)) refl h

  found_at : (w : ℕ) (s : Squeeze) (o : Option Board) → position_at groups w ≡ o
      → option_and_then (squeeze_on groups codes w) o ≡ Some s → Found w s
  found_at w s None e h = cc
  found_at w s (Some p) e h = found_on w p s e (is_first p) refl h

  -- a squeeze is found at its first number
  found_there : (s : Squeeze) → IsSqueeze groups codes s
      → squeeze_at groups codes s.white_to_move ≡ Some s
  found_there s is =
      let p = s.position in
      let at : position_at groups s.white_to_move ≡ Some p = position_of groups s.white_to_move p
      is.first_is in
      let first : is_first p ≡ true =
      ap (λ (c : Colour). same_colour c White && is_none p.ep) is.white_first
      ∙ ap (λ (o : Option ℕ). is_none o) is.no_target in
      let other : is.other ≡ with_black p = the_other is.other p is.same_men is.black_second
      is.no_other_target in
      let number : number_of groups (with_black p) ≡ Some s.black_to_move =
      ap (number_of groups) (sym other) ∙ number_there groups is.other
      (of_member groups is.other is.second_is.member) ∙ ap Some is.second_is.number in
      let worse : is_worse_to_move codes s.white_to_move s.black_to_move ≡ true =
      and_from (nat_lt (rank_at codes White s.white_to_move) (rank_at codes White s.black_to_move))
      (nat_lt (rank_at codes Black s.black_to_move) (rank_at codes Black s.white_to_move))
      (lt-ltb (rank_at codes White s.white_to_move) (rank_at codes White s.black_to_move)
      is.white_worse)
      (lt-ltb (rank_at codes Black s.black_to_move) (rank_at codes Black s.white_to_move)
      is.black_worse) in
      ap (option_and_then (squeeze_on groups codes s.white_to_move)) at
      ∙ ap (λ (b : Bool). squeeze_with codes s.white_to_move p
      (if b then number_of groups (with_black p) else None)) first
      ∙ ap (squeeze_with codes s.white_to_move p) number
      ∙ ap (λ (b : Bool). if b
      then Some (record {
        white_to_move = s.white_to_move;
        black_to_move = s.black_to_move;
        position = p;
      }) else None) worse
    where
      the_other : (q p : Board) → q.cells ≡ p.cells → q.turn ≡ Black → q.ep ≡ None
          → q ≡ with_black p
      the_other q p men turn none =
          ap (λ (l : List ℕ). record { cells = l; turn = q.turn; ep = q.ep }) men
          ∙ ap (λ (c : Colour). record { cells = p.cells; turn = c; ep = q.ep }) turn
          ∙ ap (λ (o : Option ℕ). record { cells = p.cells; turn = Black; ep = o }) none

  -- those of numbers from a on
  abbrev from : ℕ → ℕ → List Squeeze
  from a n = filter_map (squeeze_at groups codes) (range_with_len a n)

  pub record IsFrom (a n : ℕ) (s : Squeeze) : Type 0 where
    pub is : IsSqueeze groups codes s
    pub low : a ≤ s.white_to_move
    pub high : s.white_to_move < a + n

  contains_first : (t : Squeeze) (rest : List Squeeze) → Contains (t ∷ rest) t
  contains_first t rest = (0, omega arith, refl)

  contains_later : (t s : Squeeze) (rest : List Squeeze) → Contains rest s → Contains (t ∷ rest) s
  contains_later t s rest h = (suc h.0, (let k = h.1 in omega (arith, k)), h.2)

  later_from : (a n : ℕ) (s : Squeeze) → IsFrom (a + 1) n s → IsFrom a (suc n) s
  later_from a n s h =
      record {
        is = h.is;
        low = (let l = h.low in omega (arith, l));
        high = (let k = h.high in omega (arith, k));
      }

  is_from : (a n : ℕ) (s : Squeeze) → Contains (from a n) s → IsFrom a n s
  is_from a zero s h = absurd (none_below_zero h.0 h.1)
    where
      none_below_zero : (k : ℕ) → k < 0 → ⊥
      none_below_zero k h = omega arith
  is_from a (suc n) s h =
      from_here_or_later (squeeze_at groups codes a) refl h (λ rest. is_from (a + 1) n s rest)
    where
      by_place : (t : Squeeze) → squeeze_at groups codes a ≡ Some t → (k : ℕ)
          → k < length (t ∷ from (a + 1) n) → slice_index_or (t ∷ from (a + 1) n) k s ≡ s
          → (Contains (from (a + 1) n) s → IsFrom (a + 1) n s) → IsFrom a (suc n) s
      by_place t e zero within is rest =
          let found = found_at a t (position_at groups a) refl e in
          let here = found.here in
          subst (λ (u : Squeeze). IsFrom a (suc n) u) is
          (record { is = found.is; low = omega (arith, here); high = omega (arith, here) })
      by_place t e (suc k) within is rest = later_from a n s (rest (k, omega arith, is))

      from_here_or_later : (o : Option Squeeze) → squeeze_at groups codes a ≡ o
          → Contains (cons_option o (from (a + 1) n)) s
          → (Contains (from (a + 1) n) s → IsFrom (a + 1) n s) → IsFrom a (suc n) s
      from_here_or_later None e h rest = later_from a n s (rest h)
      from_here_or_later (Some t) e h rest = by_place t e h.0 h.1 h.2 rest

  is_listed : (a n : ℕ) (s : Squeeze) → IsSqueeze groups codes s → a ≤ s.white_to_move
      → s.white_to_move < a + n → Contains (from a n) s
  is_listed a zero s is low high = absurd (no_number_between low high)
    where
      no_number_between : a ≤ s.white_to_move → s.white_to_move < a + 0 → ⊥
      no_number_between low high = omega arith
  is_listed a (suc n) s is low high =
      ⊎_elim (λ (e : a ≡ s.white_to_move). listed_here e (squeeze_at groups codes a) refl)
      (λ (apart : a ≢ s.white_to_move). listed_later (squeeze_at groups codes a)
      (is_listed (a + 1) n s is (omega arith) (omega arith))) (cases_eq a s.white_to_move)
    where
      listed_here : a ≡ s.white_to_move → (o : Option Squeeze) → squeeze_at groups codes a ≡ o
          → Contains (cons_option o (from (a + 1) n)) s
      listed_here e o at =
          let there : o ≡ Some s = sym at ∙ ap (squeeze_at groups codes) e ∙ found_there s is in
          subst (λ (x : Option Squeeze). Contains (cons_option x (from (a + 1) n)) s) (sym there)
          (contains_first s (from (a + 1) n))

      listed_later : (o : Option Squeeze) → Contains (from (a + 1) n) s
          → Contains (cons_option o (from (a + 1) n)) s
      listed_later None h = h
      listed_later (Some t) h = contains_later t s (from (a + 1) n) h

  abbrev Before : Squeeze → Squeeze → Type 0
  Before s t = s.white_to_move < t.white_to_move

  all_before : (a n : ℕ) → AllPairs Before (from a n)
  all_before a zero = λ i j d first within. absurd (none_below_zero j within)
    where
      none_below_zero : (j : ℕ) → j < 0 → ⊥
      none_below_zero j h = omega arith
  all_before a (suc n) =
      pairs_here_and_later (squeeze_at groups codes a) refl (all_before (a + 1) n)
    where
      pairs_here_and_later : (o : Option Squeeze) → squeeze_at groups codes a ≡ o
          → AllPairs Before (from (a + 1) n)
          → AllPairs Before (cons_option o (from (a + 1) n))
      pairs_here_and_later None e rest = rest
      pairs_here_and_later (Some t) e rest =
          AllPairs-cons Before t (from (a + 1) n)
          (λ k d within.
          let here = (found_at a t (position_at groups a) refl e).here in
          let low = (is_from (a + 1) n (slice_index_or (from (a + 1) n) k d)
          (Contains-get_or (from (a + 1) n) k d within)).low in omega (arith, here, low))
          rest

-- the squeezes of a list are exactly the pairs that are squeezes
pub squeezes_exact : (groups : List GroupLine) (codes : Colour → List ℕ) (s : Squeeze)
    → Contains (squeezes groups codes) s ↔ IsSqueeze groups codes s
squeezes_exact groups codes s = (
  λ h. (is_from groups codes 0 (size_of groups) s h).is,
  λ is.
      let below : s.white_to_move < size_of groups =
      subst (λ (n : ℕ). n < size_of groups) is.first_is.number
      (Num_below groups s.position is.first_is.member) in
      is_listed groups codes 0 (size_of groups) s is (omega arith) (omega arith),
)

-- and stand by increasing number
pub squeezes_increasing : (groups : List GroupLine) (codes : Colour → List ℕ)
    → AllPairs (λ s t. s.white_to_move < t.white_to_move) (squeezes groups codes)
squeezes_increasing groups codes = all_before groups codes 0 (size_of groups)
