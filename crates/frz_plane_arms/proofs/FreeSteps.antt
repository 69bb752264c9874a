-- The pairs from which a king may go, with the lines that bind him, square by square.
use Rattle.std.proofs.Common.{◌≡◌, ℕ, ◌+◌, ◌<◌, ◌≤◌, ◌^◌, Bool, true, false, not, ◌&&◌, ◌||◌, List, [], ◌∷◌, refl, ap, sym, ◌∙◌, arith, inl, inr, w64}
use Rattle.std.specs.Prelude.{◌==◌}
use Rattle.std.specs.Cmp.{both_ways}
use Rattle.std.specs.Int.{bit_not}
use Rattle.std.specs.List.{list_any}
use Rattle.std.proofs.lemmas.Bool.{and_from, and_left, and_parts, and_right, cases_Bool, cases_eq, not-true, not_from_false, or_cases, or_from, or_left, or_parts, or_right}
use Rattle.frz_board.specs.declared.man.Colour.{Colour}
use Rattle.frz_board.specs.declared.man.Colour.TheVariants.{White, Black}
use Rattle.frz_board.specs.Lines.{is_king_step}
use Rattle.frz_squares.specs.Squares.{distance}
use Rattle.frz_squares.specs.SquareSets.{has_square}
use Rattle.frz_squares.proofs.Lemmas.{any_square, has-not, has-zero, no_square, some_square}
use Rattle.frz_sets.specs.declared.forbid.Forbid.{Forbid}
use Rattle.frz_planes.specs.Planes.{IsPlaneOf, has_pair}
use Rattle.frz_king_planes.specs.Kings.{king_square}
use Rattle.frz_pair_moves.specs.Kings.{black_then, steps_into, steps_onto, white_then}
use Rattle.frz_pair_moves.proofs.Lemmas.{black_on, step_back, white_on}
use Rattle.frz_plane_arms.specs.Binding.{arrives_freely, is_binding, is_bound_to, may_go, steps_freely}

-- all squares are in the word of ones
pub all_there : (s : ℕ) → s < 64 → has_square 18446744073709551615 s ≡ true
all_there s ls = has-not 0 s (omega arith) ls ∙ ap not (has-zero s)

-- what no element passes, none passes with one test more
fewer : {X : Type 0} (f g : X → Bool) (xs : List X) → list_any f xs ≡ false →
    list_any (λ x. f x && g x) xs ≡ false
fewer f g [] h = refl
fewer f g (x ∷ xs) h =
    let parts = or_parts (f x) (list_any f xs) h in
    or_from (f x && g x) (list_any (λ y. f y && g y) xs) (and_left (f x) (g x) parts.0)
    (fewer f g xs parts.1)

pub with_true : (x : Bool) → (x && true) ≡ x
with_true true = refl
with_true false = refl

last_first : (x y z : Bool) → ((x && y) && z) ≡ ((x && z) && y)
last_first true true z = sym (with_true z)
last_first true false true = refl
last_first true false false = refl
last_first false y z = refl

-- a king may go to a square that no line names from each square
unbound : (lines : List Forbid) (c : Colour) (captures : Bool) (a s : ℕ) →
    is_bound_to lines c captures s ≡ false → may_go lines c captures a s ≡ true
unbound lines c captures a s h =
    not_from_false (list_any
    (λ (line : Forbid). (is_binding c captures line && has_square line.to s)
    && has_square line.from a) lines)
    (fewer (λ (line : Forbid). is_binding c captures line && has_square line.to s)
    (λ (line : Forbid). has_square line.from a) lines h)

-- he then stands where he went
stands_on : (c : Colour) (a b s : ℕ) → king_square c (white_then c a s) (black_then c b s) ≡ s
stands_on White a b s = refl
stands_on Black a b s = refl

king_on : (c : Colour) (a b : ℕ) → a < 64 → b < 64 → king_square c a b < 64
king_on White a b la lb = la
king_on Black a b la lb = lb

module _ (lines : List Forbid) (c : Colour) (before after : List ℕ) where
  abbrev white : (a s : ℕ) → ℕ
  white a s = white_then c a s

  abbrev black : (b s : ℕ) → ℕ
  black b s = black_then c b s

  abbrev place : (a b : ℕ) → ℕ
  place a b = king_square c a b

  abbrev goes : (a b s : ℕ) → Bool
  goes a b s =
      distance (place a b) s == 1
      && (may_go lines c false (place a b) s && has_pair after (white a s) (black b s))

  module _ (captures : Bool) (s origins : ℕ)
      (may : (x : ℕ) → x < 64 → has_square origins x ≡ may_go lines c captures x s) where
    -- lines bind him on each square
    pub none_free : (plane : List ℕ) → origins ≡ 0 → IsPlaneOf plane (λ a b. false) →
        IsPlaneOf plane (λ a b. arrives_freely lines c captures s after a b && has_pair before a b)
    none_free plane zero none a b la lb =
        let off : may_go lines c captures (place a b) s ≡ false =
        sym (may (place a b) (king_on c a b la lb)) ∙ ap (λ w. has_square w (place a b)) zero
        ∙ has-zero (place a b) in
        none a b la lb
        ∙ sym (and_left (arrives_freely lines c captures s after a b) (has_pair before a b)
        (and_right (steps_onto c s after a b) (may_go lines c captures (place a b) s) off))

    -- he stands on one of the origins
    pub from_origins : (pairs plane : List ℕ) →
        IsPlaneOf pairs (λ a b. steps_onto c s after a b && has_pair before a b) →
        IsPlaneOf plane (λ a b. has_pair pairs a b && has_square origins (king_square c a b)) →
        IsPlaneOf plane (λ a b. arrives_freely lines c captures s after a b && has_pair before a b)
    from_origins pairs plane steps kept a b la lb =
        kept a b la lb
        ∙ ap (λ t. t && has_square origins (place a b)) (steps a b la lb)
        ∙ ap (λ t. (steps_onto c s after a b && has_pair before a b) && t)
        (may (place a b) (king_on c a b la lb))
        ∙ last_first (steps_onto c s after a b) (has_pair before a b)
        (may_go lines c captures (place a b) s)

  -- he goes to no pair of a plane that has none
  pub none_stepped : (plane : List ℕ) → IsPlaneOf after (λ a b. false) →
      IsPlaneOf plane (λ a b. false) →
      IsPlaneOf plane (λ a b. steps_freely lines c after a b && has_pair before a b)
  none_stepped plane empty none a b la lb =
      none a b la lb
      ∙ sym (and_left (steps_freely lines c after a b) (has_pair before a b)
      (no_square (goes a b)
      (λ s ls. and_right (distance (place a b) s == 1)
      (may_go lines c false (place a b) s && has_pair after (white a s) (black b s))
      (and_right (may_go lines c false (place a b) s) (has_pair after (white a s) (black b s))
      (empty (white a s) (black b s) (white_on c a s la ls) (black_on c b s lb ls))))))

  -- The plane has the pairs at which he may go to a square that is not bound, or to one of the first
  -- n that is. It has no others but those at which he may go to some square.
  pub record AreStepped (bound n : ℕ) (plane : List ℕ) : Type 0 where
    pub forth : (a b : ℕ) → a < 64 → b < 64 → has_pair plane a b ≡ true →
        (steps_freely lines c after a b && has_pair before a b) ≡ true
    pub loosely : (a b s : ℕ) → a < 64 → b < 64 → s < 64 → has_square bound s ≡ false →
        (distance (place a b) s == 1) ≡ true → has_pair after (white a s) (black b s) ≡ true →
        has_pair before a b ≡ true → has_pair plane a b ≡ true
    pub bounded : (a b s : ℕ) → a < 64 → b < 64 → s < n → has_square bound s ≡ true →
        (arrives_freely lines c false s after a b && has_pair before a b) ≡ true →
        has_pair plane a b ≡ true

  module _ (bound : ℕ) (small : bound < 2 ^ 64)
      (bounds : (s : ℕ) → s < 64 → has_square bound s ≡ is_bound_to lines c false s)
      (loose plane : List ℕ)
      (cut : IsPlaneOf loose
      (λ a b. has_pair after a b && has_square (bit_not w64 bound) (king_square c a b)))
      (steps : IsPlaneOf plane (λ a b. steps_into c loose a b && has_pair before a b)) where
    begun_forth : (a b : ℕ) → a < 64 → b < 64 → has_pair plane a b ≡ true →
        (steps_freely lines c after a b && has_pair before a b) ≡ true
    begun_forth a b la lb h =
        let parts = and_parts (steps_into c loose a b) (has_pair before a b)
        (sym (steps a b la lb) ∙ h) in
        let w = some_square
        (λ s. distance (place a b) s == 1 && has_pair loose (white a s) (black b s)) parts.0 in
        let s : ℕ = w.square in
        let ls : s < 64 = w.on_board in
        let step = and_parts (distance (place a b) s == 1)
        (has_pair loose (white a s) (black b s)) w.passes in
        let both = and_parts (has_pair after (white a s) (black b s))
        (has_square (bit_not w64 bound) (king_square c (white a s) (black b s)))
        (sym (cut (white a s) (black b s) (white_on c a s la ls) (black_on c b s lb ls)) ∙ step.1) in
        let off : has_square bound s ≡ false = not-true (has_square bound s)
        (sym (has-not bound s small ls)
        ∙ ap (has_square (bit_not w64 bound)) (sym (stands_on c a b s)) ∙ both.1) in
        let may = unbound lines c false (place a b) s (sym (bounds s ls) ∙ off) in
        and_from (steps_freely lines c after a b) (has_pair before a b)
        (any_square (goes a b) s ls
        (and_from (distance (place a b) s == 1)
        (may_go lines c false (place a b) s && has_pair after (white a s) (black b s)) step.0
        (and_from (may_go lines c false (place a b) s) (has_pair after (white a s) (black b s)) may
        both.0)))
        parts.1

    begun_loosely : (a b s : ℕ) → a < 64 → b < 64 → s < 64 → has_square bound s ≡ false →
        (distance (place a b) s == 1) ≡ true → has_pair after (white a s) (black b s) ≡ true →
        has_pair before a b ≡ true → has_pair plane a b ≡ true
    begun_loosely a b s la lb ls off near there here =
        let free : has_square (bit_not w64 bound) (king_square c (white a s) (black b s)) ≡ true =
        ap (has_square (bit_not w64 bound)) (stands_on c a b s)
        ∙ has-not bound s small ls ∙ not_from_false (has_square bound s) off in
        steps a b la lb
        ∙ and_from (steps_into c loose a b) (has_pair before a b)
        (any_square (λ x. distance (place a b) x == 1 && has_pair loose (white a x) (black b x)) s ls
        (and_from (distance (place a b) s == 1) (has_pair loose (white a s) (black b s)) near
        (cut (white a s) (black b s) (white_on c a s la ls) (black_on c b s lb ls)
        ∙ and_from (has_pair after (white a s) (black b s))
        (has_square (bit_not w64 bound) (king_square c (white a s) (black b s))) there free)))
        here

    pub begun : AreStepped bound 0 plane
    begun = record {
      forth = begun_forth;
      loosely = begun_loosely;
      bounded = λ a b s la lb low on h. absurd (omega arith);
    }

  -- lines bind him on each square not to go to n, if on any
  pub passed_by : (bound n : ℕ) (plane : List ℕ) → AreStepped bound n plane →
      (has_square bound n ≡ true → (x : ℕ) → x < 64 → may_go lines c false x n ≡ false) →
      AreStepped bound (n + 1) plane
  passed_by bound n plane h stuck = record {
    forth = h.forth;
    loosely = h.loosely;
    bounded = λ a b s la lb low on k.
        elim (cases_eq s n) [
          | inl e ↦ absurd (let off = stuck (ap (has_square bound) (sym e) ∙ on) (place a b)
              (king_on c a b la lb) in
              let parts = and_parts (arrives_freely lines c false s after a b) (has_pair before a b) k
              in
              let may = (and_parts (steps_onto c s after a b) (may_go lines c false (place a b) s)
              parts.0).1 in
              let at : may_go lines c false (place a b) n ≡ true =
              ap (may_go lines c false (place a b)) (sym e) ∙ may in cc)
          | inr ne ↦ h.bounded a b s la lb (omega arith) on k
        ];
  }

  arrived : (n a b : ℕ) → n < 64 →
      (arrives_freely lines c false n after a b && has_pair before a b) ≡ true →
      (steps_freely lines c after a b && has_pair before a b) ≡ true
  arrived n a b ln h =
      let parts = and_parts (arrives_freely lines c false n after a b) (has_pair before a b) h in
      let both = and_parts (steps_onto c n after a b) (may_go lines c false (place a b) n) parts.0 in
      let step = and_parts (is_king_step n (place a b)) (has_pair after (white a n) (black b n))
      both.0 in
      and_from (steps_freely lines c after a b) (has_pair before a b)
      (any_square (goes a b) n ln
      (and_from (distance (place a b) n == 1)
      (may_go lines c false (place a b) n && has_pair after (white a n) (black b n))
      (step_back (place a b) n ∙ step.0)
      (and_from (may_go lines c false (place a b) n) (has_pair after (white a n) (black b n)) both.1
      step.1)))
      parts.1

  pub one_more : (bound n : ℕ) (plane one then : List ℕ) → AreStepped bound n plane → n < 64 →
      IsPlaneOf one (λ a b. arrives_freely lines c false n after a b && has_pair before a b) →
      IsPlaneOf then (λ a b. has_pair plane a b || has_pair one a b) →
      AreStepped bound (n + 1) then
  one_more bound n plane one then h ln new union = record {
    forth = λ a b la lb k.
        elim (or_cases (has_pair plane a b) (has_pair one a b) (sym (union a b la lb) ∙ k)) [
          | inl old ↦ h.forth a b la lb old
          | inr at ↦ arrived n a b ln (sym (new a b la lb) ∙ at)
        ];
    loosely = λ a b s la lb ls off near there here.
        union a b la lb
        ∙ or_left (has_pair plane a b) (has_pair one a b)
        (h.loosely a b s la lb ls off near there here);
    bounded = λ a b s la lb low on k.
        union a b la lb
        ∙ elim (cases_eq s n) [
          | inl e ↦ or_right (has_pair plane a b) (has_pair one a b)
              (new a b la lb
              ∙ ap (λ x. arrives_freely lines c false x after a b && has_pair before a b) (sym e) ∙ k)
          | inr ne ↦ or_left (has_pair plane a b) (has_pair one a b)
              (h.bounded a b s la lb (omega arith) on k)
        ];
  }

  ended_back : (bound n : ℕ) (plane : List ℕ) → AreStepped bound n plane → 64 ≤ n → (a b : ℕ) →
      a < 64 → b < 64 → (steps_freely lines c after a b && has_pair before a b) ≡ true →
      has_pair plane a b ≡ true
  ended_back bound n plane h end a b la lb k =
      let parts = and_parts (steps_freely lines c after a b) (has_pair before a b) k in
      let w = some_square (goes a b) parts.0 in
      let s : ℕ = w.square in
      let ls : s < 64 = w.on_board in
      let step = and_parts (distance (place a b) s == 1)
      (may_go lines c false (place a b) s && has_pair after (white a s) (black b s)) w.passes in
      let both = and_parts (may_go lines c false (place a b) s)
      (has_pair after (white a s) (black b s)) step.1 in
      elim (cases_Bool (has_square bound s)) [
        | inl on ↦ h.bounded a b s la lb (omega arith) on
            (and_from (arrives_freely lines c false s after a b) (has_pair before a b)
            (and_from (steps_onto c s after a b) (may_go lines c false (place a b) s)
            (and_from (is_king_step s (place a b)) (has_pair after (white a s) (black b s))
            (step_back s (place a b) ∙ step.0) both.1)
            both.0)
            parts.1)
        | inr off ↦ h.loosely a b s la lb ls off step.0 both.1 parts.1
      ]

  pub ended : (bound n : ℕ) (plane : List ℕ) → AreStepped bound n plane → 64 ≤ n →
      IsPlaneOf plane (λ a b. steps_freely lines c after a b && has_pair before a b)
  ended bound n plane h end a b la lb =
      both_ways (has_pair plane a b) (steps_freely lines c after a b && has_pair before a b)
      (h.forth a b la lb) (ended_back bound n plane h end a b la lb)
