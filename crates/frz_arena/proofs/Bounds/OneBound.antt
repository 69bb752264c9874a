-- Bounds against codes.
use Rattle.std.proofs.Common.{◌≡◌, ◌≤◌, ◌<◌, ◌+◌, ◌*◌, ◌↔◌, ℕ, zero, suc, inl, inr, true, refl, sym, subst, ap, ◌∙◌, arith}
use Rattle.std.proofs.lemmas.Bool.{cases_lt}
use Rattle.frz_board.specs.declared.man.Colour.{Colour}
use Rattle.frz_board.specs.Men.{other_of}
use Rattle.frz_arena.specs.declared.node.Node.TheVariants.{Broken}
use Rattle.frz_arena.specs.declared.bound.Bound.{Bound}
use Rattle.frz_arena.specs.declared.bound.Bound.TheVariants.{Wins, Holds, Fails}
use Rattle.frz_arena.specs.Arena.{Arena, IsLawful}
use Rattle.frz_arena.specs.Plies.{WinsWithin, FailsWithin}
use Rattle.frz_arena.specs.Codes.{is_win, is_failure, IsWinWithin, IsFailureWithin, code_of}
use Rattle.frz_arena.specs.Bounds.{IsBound, IsCodeAt}
use Rattle.frz_arena.proofs.LocalCodes.CodesByPlies.{AreCodes}
use Rattle.frz_arena.proofs.Plies.NeverBoth.{never_both}
use Rattle.frz_arena.proofs.Plies.Opposed.{wins_later, fails_later, wins_gives_fails}
use Rattle.frz_arena.proofs.LocalCodes.ChosenCodes.{win_of, win_and_failure}
use Rattle.frz_arena.proofs.LocalCodes.UniqueCodes.{none, hold, win, failure, code_is, as_win, as_failure}

-- two numbers that are the least of one kind are equal
least_is_one : (F : ℕ → Type 0) (n m : ℕ) → F n → ((k : ℕ) → k < n → F k → ⊥) → F m →
    ((k : ℕ) → k < m → F k → ⊥) → n ≡ m
least_is_one F n m f below g under =
    elim (cases_lt n m) [
      | inl h ↦ absurd (under n h f)
      | inr h ↦ elim (cases_lt m n) [ inl k ↦ absurd (below m k g) | inr k ↦ omega arith ]
    ]

-- different bounds have different codes
pub codes_differ : (b c : Bound) → code_of b ≡ code_of c → b ≡ c
codes_differ (Wins n) (Wins m) e = ap Wins (omega arith)
codes_differ (Wins n) Holds e = absurd (omega arith)
codes_differ (Wins n) (Fails m) e = absurd (omega arith)
codes_differ Holds (Wins m) e = absurd (omega arith)
codes_differ Holds Holds e = refl
codes_differ Holds (Fails m) e = absurd (omega arith)
codes_differ (Fails n) (Wins m) e = absurd (omega arith)
codes_differ (Fails n) Holds e = absurd (omega arith)
codes_differ (Fails n) (Fails m) e = ap Fails (omega arith)

-- a position has at most one bound
pub one_bound : {M N V : Type 0} (arena : Arena M N V) (side : Colour) (p : N) (b c : Bound) →
    IsBound arena side p b → IsBound arena side p c → b ≡ c
one_bound arena side p (Wins n) (Wins m) h k =
    ap Wins (least_is_one (λ i. WinsWithin arena side i p) n m h.0 h.1 k.0 k.1)
one_bound arena side p (Wins n) Holds h k = absurd (k.0 n h.0)
one_bound arena side p (Wins n) (Fails m) h k = absurd (never_both arena side n m p h.0 k.0)
one_bound arena side p Holds (Wins m) h k = absurd (h.0 m k.0)
one_bound arena side p Holds Holds h k = refl
one_bound arena side p Holds (Fails m) h k = absurd (h.1 m k.0)
one_bound arena side p (Fails n) (Wins m) h k = absurd (never_both arena side m n p k.0 h.0)
one_bound arena side p (Fails n) Holds h k = absurd (k.1 n h.0)
one_bound arena side p (Fails n) (Fails m) h k =
    ap Fails (least_is_one (λ i. FailsWithin arena side i p) n m h.0 h.1 k.0 k.1)

pub broken_never_wins : {M N V : Type 0} (arena : Arena M N V) (side : Colour) (n : ℕ) (p : N) →
    arena.node p ≡ Broken → WinsWithin arena side n p → ⊥
broken_never_wins arena side zero p e w = cc
broken_never_wins arena side (suc n) p e (inl w) = broken_never_wins arena side n p e w
broken_never_wins arena side (suc n) p e (inr (inl w)) = let g = w.0 in cc
broken_never_wins arena side (suc n) p e (inr (inr w)) = let g = w.0 in cc

pub broken_never_fails : {M N V : Type 0} (arena : Arena M N V) (side : Colour) (n : ℕ) (p : N) →
    arena.node p ≡ Broken → FailsWithin arena side n p → ⊥
broken_never_fails arena side zero p e (inl f) = cc
broken_never_fails arena side zero p e (inr f) = let g = f.0 in cc
broken_never_fails arena side (suc n) p e (inl f) = broken_never_fails arena side n p e f
broken_never_fails arena side (suc n) p e (inr (inl f)) = let g = f.0 in cc
broken_never_fails arena side (suc n) p e (inr (inr f)) = let g = f.0 in cc

-- codes by wins and failures are codes of bounds
pub codes_of_bounds : {M N V : Type 0} (arena : Arena M N V) (side : Colour) (entry : N → ℕ) →
    AreCodes arena side entry → (p : N) → IsCodeAt arena side p (entry p)
codes_of_bounds arena side entry codes p =
    elim (code_is (entry p)) [
      | none e ↦ inl ((codes.broken p).1 e, e)
      | hold e ↦ inr (
        λ b. (let k = (codes.broken p).0 b in omega arith),
        (
          Holds,
          e,
          (
            λ n w. (let g = ((codes.wins n p).0 w).0 in let b : is_win 1 ≡ true = subst
                (λ x. is_win x ≡ true) e g in cc),
            λ n f. (let g = ((codes.fails n p).0 f).0 in let b : is_failure 1 ≡ true = subst
                (λ x. is_failure x ≡ true) e g in cc),
          ),
        ),
      )
      | win n e ↦ inr (
        λ b. (let k = (codes.broken p).0 b in omega arith),
        (
          Wins n,
          e,
          (
            (codes.wins n p).1 (as_win (entry p) n e),
            λ k l w. (let g = ((codes.wins k p).0 w).1 in omega arith),
          ),
        ),
      )
      | failure n e ↦ inr (
        λ b. (let k = (codes.broken p).0 b in omega arith),
        (
          Fails n,
          e,
          (
            (codes.fails n p).1 (as_failure (entry p) n e),
            λ k l f. (let g = ((codes.fails k p).0 f).1 in omega arith),
          ),
        ),
      )
    ]

-- where b is the bound, the side wins within n plies exactly where the code of b says so
pub bound_wins : {M N V : Type 0} (arena : Arena M N V) (side : Colour) (p : N) (b : Bound) →
    IsBound arena side p b → (n : ℕ) → WinsWithin arena side n p ↔ IsWinWithin n (code_of b)
bound_wins arena side p (Wins m) h n = (
  λ w. elim (cases_lt n m) [ inl l ↦ absurd (h.1 n l w) | inr l ↦ (win_of m, omega arith) ],
  λ c. (let l = c.1 in wins_later arena side m n p (omega arith) h.0),
)
bound_wins arena side p Holds h n = (λ w. absurd (h.0 n w), λ c. absurd (let g = c.0 in cc))
bound_wins arena side p (Fails m) h n = (
  λ w. absurd (never_both arena side n m p w h.0),
  λ c. absurd (win_and_failure (3 + 2 * m) c.0 (as_failure (3 + 2 * m) m refl).0),
)

pub bound_fails : {M N V : Type 0} (arena : Arena M N V) (side : Colour) (p : N) (b : Bound) →
    IsBound arena side p b → (n : ℕ) → FailsWithin arena side n p ↔ IsFailureWithin n (code_of b)
bound_fails arena side p (Wins m) h n = (
  λ f. absurd (never_both arena side m n p h.0 f),
  λ c. absurd (win_and_failure (2 + 2 * m) (win_of m) c.0),
)
bound_fails arena side p Holds h n = (λ f. absurd (h.1 n f), λ c. absurd (let g = c.0 in cc))
bound_fails arena side p (Fails m) h n = (
  λ f. elim (cases_lt n m)
      [ inl l ↦ absurd (h.1 n l f) | inr l ↦ ((as_failure (3 + 2 * m) m refl).0, omega arith) ],
  λ c. (let l = c.1 in fails_later arena side m n p (omega arith) h.0),
)

code_above : (b : Bound) → 1 ≤ code_of b
code_above (Wins n) = omega arith
code_above Holds = omega arith
code_above (Fails n) = omega arith

at_code : {M N V : Type 0} (arena : Arena M N V) (side : Colour) (p : N) (c : ℕ) →
    IsCodeAt arena side p c →
    record {
      broken : (arena.node p ≡ Broken) ↔ (c ≡ 0);
      wins : (n : ℕ)
          → WinsWithin arena side n p ↔ IsWinWithin n c;
      fails : (n : ℕ)
          → FailsWithin arena side n p ↔ IsFailureWithin n c;
    }
at_code arena side p c (inl h) = record {
  broken = (λ e. h.1, λ e. h.0);
  wins =
      λ n. (
        λ w. absurd (broken_never_wins arena side n p h.0 w),
        λ k. absurd (let b : is_win 0 ≡ true = subst (λ x. is_win x ≡ true) h.1 k.0 in cc),
      );
  fails =
      λ n. (
        λ w. absurd (broken_never_fails arena side n p h.0 w),
        λ k. absurd (let b : is_failure 0 ≡ true = subst (λ x. is_failure x ≡ true) h.1 k.0 in
            cc),
      );
}
at_code arena side p c (inr h) =
    let b = h.1.0 in
    let e = h.1.1 in
    let l = code_above b in
    record {
      broken = (λ k. absurd (h.0 k), λ k. absurd (omega arith));
      wins = λ n. subst (λ z. WinsWithin arena side n p ↔ IsWinWithin n z) (sym e)
          (bound_wins arena side p b h.1.2 n);
      fails = λ n. subst (λ z. FailsWithin arena side n p ↔ IsFailureWithin n z) (sym e)
          (bound_fails arena side p b h.1.2 n);
    }

pub bounds_are_codes : {M N V : Type 0} (arena : Arena M N V) (side : Colour) (entry : N → ℕ) →
    ((p : N) → IsCodeAt arena side p (entry p)) → AreCodes arena side entry
bounds_are_codes arena side entry h = record {
  broken = λ p. (at_code arena side p (entry p) (h p)).broken;
  wins = λ n p. (at_code arena side p (entry p) (h p)).wins n;
  fails = λ n p. (at_code arena side p (entry p) (h p)).fails n;
}

pub one_code : {M N V : Type 0} (arena : Arena M N V) (side : Colour) (p : N) (c d : ℕ) →
    IsCodeAt arena side p c → IsCodeAt arena side p d → c ≡ d
one_code arena side p c d (inl h) (inl k) = h.1 ∙ sym k.1
one_code arena side p c d (inl h) (inr k) = absurd (k.0 h.0)
one_code arena side p c d (inr h) (inl k) = absurd (h.0 k.0)
one_code arena side p c d (inr h) (inr k) =
    h.1.1 ∙ ap code_of (one_bound arena side p h.1.0 k.1.0 h.1.2 k.1.2) ∙ sym k.1.1

-- where one side's bound is a win, the other's is a failure of no more plies
pub opposed_bounds : {M N V : Type 0} (arena : Arena M N V) → IsLawful arena →
    (side : Colour) (p : N) (n : ℕ) (c : Bound) → IsBound arena side p (Wins n) →
    IsBound arena (other_of side) p c → (m : ℕ) × (m ≤ n) × (c ≡ Fails m)
opposed_bounds arena law side p n (Wins k) h c =
    absurd (never_both arena (other_of side) k n p c.0 (wins_gives_fails arena law side n p h.0))
opposed_bounds arena law side p n Holds h c =
    absurd (c.1 n (wins_gives_fails arena law side n p h.0))
opposed_bounds arena law side p n (Fails m) h c = (
  m,
  elim (cases_lt n m) [
    | inl l ↦ absurd (c.1 n l (wins_gives_fails arena law side n p h.0))
    | inr l ↦ l
  ],
  refl,
)
