-- Each position of a finite arena has a bound, of at most as
-- many plies as the size and the greatest lag.
use Rattle.std.proofs.Common.{◌≡◌, ◌≢◌, ◌≤◌, ◌<◌, ◌+◌, ℕ, zero, suc, inl, inr, List, [], ◌∷◌, length, refl, subst, ap, arith}
use Rattle.std.specs.Prelude.{eqb}
use Rattle.std.specs.List.{Contains, IsDistinct}
use Rattle.std.proofs.lemmas.Bool.{cases_lt, cases_Bool}
use Rattle.std.proofs.lemmas.Map.Keys.{IsDistinct-cons}
use Rattle.std.proofs.lemmas.Map.Steps.{length-le_from_distinct_below}
use Rattle.frz_board.specs.declared.man.Colour.{Colour}
use Rattle.frz_arena.specs.declared.class.Class.TheVariants.{Good}
use Rattle.frz_arena.specs.declared.bound.Bound.{Bound}
use Rattle.frz_arena.specs.declared.bound.Bound.TheVariants.{Wins, Holds, Fails}
use Rattle.frz_arena.specs.declared.arm.Arm.{Arm}
use Rattle.frz_arena.specs.declared.arm.Next.{Next}
use Rattle.frz_arena.specs.declared.arm.Next.TheVariants.{Inside, Outside}
use Rattle.frz_arena.specs.Arena.{Arena, IsLawful}
use Rattle.frz_arena.specs.Plies.{LeadsTo, IsGoodExit, IsBadExit, WinsWithin, FailsWithin, LagsWithin}
use Rattle.frz_arena.specs.Bounds.{IsBound}
use Rattle.frz_arena.specs.Names.{IsNumbered}
use Rattle.frz_arena.proofs.Lists.Members.{none_in_empty, in_cases}
use Rattle.frz_arena.proofs.Plies.Opposed.{wins_later, fails_later}
use Rattle.frz_arena.proofs.Bounds.OneBound.{broken_never_wins, broken_never_fails, one_bound}
use Rattle.frz_arena.proofs.Plies.FewPlies.{apart, among, one_distinct}
use Rattle.frz_arena.proofs.Plies.Decided.{each_or_not, each_free_or_not, good_decided, bad_decided, wins_decided, fails_decided, least_of}

-- an arm that is good at one ply more leads to a least win
least_arm : {M N V : Type 0} (arena : Arena M N V) (side : Colour) (most n : ℕ) → most < suc n →
    (x : Next N V) → ((v : V) → x ≡ Outside v → arena.class v side ≡ Good → arena.lag v ≤ most)
    → LeadsTo (WinsWithin arena side (suc n)) (IsGoodExit arena side (suc n)) x
    → (LeadsTo (WinsWithin arena side n) (IsGoodExit arena side n) x → ⊥)
    → (q : N) × IsBound arena side q (Wins (suc n))
least_arm arena side most n l (Inside q) lags h not =
    (q, (h, λ k m v. not (wins_later arena side k n q (omega arith) v)))
least_arm arena side most n l (Outside v) lags h not =
    absurd (not (h.0, (let b = lags v refl h.0 in omega arith)))

-- a least win of two plies or more, past the lags, rests on a least win of one ply less
pub win_step : {M N V : Type 0} (arena : Arena M N V) → IsLawful arena →
    (side : Colour) (most : ℕ) → LagsWithin arena side most → (n : ℕ) → most < suc n → (p : N) →
    IsBound arena side p (Wins (suc (suc n))) → (q : N) × IsBound arena side q (Wins (suc n))
win_step arena law side most lags n l p (inl w, least) = absurd (least (suc n) (omega arith) w)
win_step arena law side most lags n l p (inr (inl w), least) =
    least_arm arena side most n l w.1.0.next (λ v. lags p w.1.0 v w.1.1) w.1.3
    (λ g. least (suc n) (omega arith) (inr (inl (w.0, (w.1.0, w.1.1, w.1.2, g)))))
win_step {M} {N} {V} arena law side most lags n l p (inr (inr w), least) =
    elim (each_or_not (λ (a : Arm M N V). LeadsTo (WinsWithin arena side n)
    (IsGoodExit arena side n) a.next)
    (λ a. good_decided arena side n (wins_decided arena law side n) a.next) (arena.arms p)) [
      | inl all ↦
          absurd (least (suc n) (omega arith)
          (inr (inr (w.0, (w.1.0, w.1.1, all w.1.0 w.1.1), all))))
      | inr r ↦ least_arm arena side most n l r.0.next (λ v. lags p r.0 v r.1) (w.2 r.0 r.1) r.2
    ]

least_bad_arm : {M N V : Type 0} (arena : Arena M N V) (side : Colour) (n : ℕ) (x : Next N V)
    → LeadsTo (FailsWithin arena side (suc n)) (IsBadExit arena side) x
    → (LeadsTo (FailsWithin arena side n) (IsBadExit arena side) x → ⊥) → (q : N)
    × IsBound arena side q (Fails (suc n))
least_bad_arm arena side n (Inside q) h not =
    (q, (h, λ k m v. not (fails_later arena side k n q (omega arith) v)))
least_bad_arm arena side n (Outside v) h not = absurd (not h)

pub failure_step : {M N V : Type 0} (arena : Arena M N V) → IsLawful arena →
    (side : Colour) (n : ℕ) (p : N) → IsBound arena side p (Fails (suc (suc n))) →
    (q : N) × IsBound arena side q (Fails (suc n))
failure_step arena law side n p (inl w, least) = absurd (least (suc n) (omega arith) w)
failure_step arena law side n p (inr (inl w), least) =
    least_bad_arm arena side n w.1.0.next w.1.2
    (λ g. least (suc n) (omega arith) (inr (inl (w.0, (w.1.0, w.1.1, g)))))
failure_step {M} {N} {V} arena law side n p (inr (inr w), least) =
    elim (each_free_or_not arena (LeadsTo (FailsWithin arena side n) (IsBadExit arena side))
    (bad_decided arena side n (fails_decided arena law side n)) p) [
      | inl all ↦
          absurd (least (suc n) (omega arith)
          (inr (inr (w.0, (w.1.0, w.1.1, w.1.2, all w.1.0 w.1.1 w.1.2), all))))
      | inr r ↦ elim (cases_Bool r.0.free) [
        | inl t ↦ least_bad_arm arena side n r.0.next (w.2 r.0 r.1 t) (λ g. r.2 (λ _. g))
        | inr f ↦ absurd (r.2 (λ t. absurd (cc)))
      ]
    ]

-- a family of numbers below a size, each of which rests on another of one less
pub record Descends (size most : ℕ) (B : ℕ → ℕ → Type 0) : Type 0 where
  pub below : (n p : ℕ) → B n p → p < size
  pub one : (n m p : ℕ) → B n p → B m p → n ≡ m
  pub step : (n : ℕ) → most < suc n → (p : ℕ) → B (suc (suc n)) p → (q : ℕ) × B (suc n) q

pub record Descent (size : ℕ) (B : ℕ → ℕ → Type 0) (n k : ℕ) : Type 0 where
  pub nodes : List ℕ
  pub many : length nodes ≡ suc k
  pub distinct : IsDistinct eqb nodes
  pub each : (x : ℕ) → Contains nodes x → (m : ℕ) × (m ≤ n) × B m x

descent : {size most : ℕ} {B : ℕ → ℕ → Type 0} → Descends size most B → (k n p : ℕ) →
    most + 1 + k ≤ n → B n p → Descent size B n k
descent {B = B} d zero n p h b = record {
  nodes = p ∷ [];
  many = refl;
  distinct = one_distinct p;
  each =
      λ x i. elim (in_cases p [] x i)
      [ inl e ↦ (n, omega arith, subst (λ z. B n z) e b) | inr j ↦ absurd (none_in_empty x j) ];
}
descent d (suc k) zero p h b = absurd (omega arith)
descent d (suc k) (suc zero) p h b = absurd (omega arith)
descent {B = B} d (suc k) (suc (suc n)) p h b =
    let q = d.step n (omega arith) p b in
    let c = descent d k (suc n) q.0 (omega arith) q.1 in
    let new : (x : ℕ) → Contains c.nodes x
    → p ≢ x = λ x i e.
    (let r = c.each x i in let g = d.one (suc (suc n)) r.0 x
    (subst (λ z. B (suc (suc n)) z) e b) r.2 in let l = r.1 in omega arith) in
    record {
      nodes = p ∷ c.nodes;
      many = ap suc c.many;
      distinct = IsDistinct-cons eqb p c.nodes (apart p c.nodes new) c.distinct;
      each = λ x i. elim (in_cases p c.nodes x i) [
        | inl e ↦ (suc (suc n), omega arith, subst (λ z. B (suc (suc n)) z) e b)
        | inr j ↦ (let r = c.each x j in (r.0, (let l = r.1 in omega arith), r.2))
      ];
    }

pub few : {size most : ℕ} {B : ℕ → ℕ → Type 0} → Descends size most B → (n p : ℕ) → B n p →
    n ≤ size + most
few {size} {most} {B} d n p b =
    elim (cases_lt (size + most) n) [
      | inr h ↦ h
      | inl h ↦ absurd (
          let c = descent d size n p (omega arith) b in
          let l = length-le_from_distinct_below c.nodes size c.distinct
          (λ q t. (let r = c.each q (among c.nodes q t) in d.below r.0 q r.2)) in
          let m = c.many in
          omega arith)
    ]

wins_descend : {M V : Type 0} (arena : Arena M ℕ V) → IsLawful arena → (size : ℕ) →
    IsNumbered arena size → (side : Colour) (most : ℕ) → LagsWithin arena side most →
    Descends size most (λ n p. IsBound arena side p (Wins n))
wins_descend arena law size numbered side most lags = record {
  below =
      λ n p b. elim (cases_lt p size)
      [ inl l ↦ l | inr l ↦ absurd (broken_never_wins arena side n p (numbered.past p l) b.0) ];
  one = λ n m p b c. (let e = one_bound arena side p (Wins n) (Wins m) b c in cc);
  step = λ n l p b. win_step arena law side most lags n l p b;
}

fails_descend : {M V : Type 0} (arena : Arena M ℕ V) → IsLawful arena → (size : ℕ) →
    IsNumbered arena size → (side : Colour) →
    Descends size 0 (λ n p. IsBound arena side p (Fails n))
fails_descend arena law size numbered side = record {
  below =
      λ n p b. elim (cases_lt p size)
      [ inl l ↦ l | inr l ↦ absurd (broken_never_fails arena side n p (numbered.past p l) b.0) ];
  one = λ n m p b c. (let e = one_bound arena side p (Fails n) (Fails m) b c in cc);
  step = λ n l p b. failure_step arena law side n p b;
}

-- the plies of a win and of a failure
pub win_plies_few : {M V : Type 0} (arena : Arena M ℕ V) → IsLawful arena → (size : ℕ) →
    IsNumbered arena size → (side : Colour) (most : ℕ) → LagsWithin arena side most → (n p : ℕ) →
    IsBound arena side p (Wins n) → n ≤ size + most
win_plies_few arena law size numbered side most lags n p b =
    few (wins_descend arena law size numbered side most lags) n p b

pub failure_plies_few : {M V : Type 0} (arena : Arena M ℕ V) → IsLawful arena → (size : ℕ) →
    IsNumbered arena size → (side : Colour) (n p : ℕ) → IsBound arena side p (Fails n) → n ≤ size
failure_plies_few arena law size numbered side n p b =
    let h = few (fails_descend arena law size numbered side) n p b in omega arith

-- each position has a bound
pub bound_exists : {M V : Type 0} (arena : Arena M ℕ V) → IsLawful arena → (size : ℕ) →
    IsNumbered arena size → (side : Colour) (most : ℕ) → LagsWithin arena side most → (p : ℕ) →
    (b : Bound) × IsBound arena side p b
bound_exists arena law size numbered side most lags p =
    elim (wins_decided arena law side (size + most) p) [
      | inl w ↦ (let r = least_of (λ n. WinsWithin arena side n p)
          (λ n. wins_decided arena law side n p) (size + most) w in (Wins r.0, (r.2, r.3)))
      | inr none ↦ elim (fails_decided arena law side (size + most) p) [
        | inl f ↦ (let r = least_of (λ n. FailsWithin arena side n p)
            (λ n. fails_decided arena law side n p) (size + most) f in (Fails r.0, (r.2, r.3)))
        | inr never ↦ (
          Holds,
          (
            λ n w. (let r = least_of (λ n. WinsWithin arena side n p)
                (λ n. wins_decided arena law side n p) n w in
                let l = win_plies_few arena law size numbered side most lags r.0 p (r.2, r.3) in
                none (wins_later arena side r.0 (size + most) p l r.2)),
            λ n f. (let r = least_of (λ n. FailsWithin arena side n p)
                (λ n. fails_decided arena law side n p) n f in
                let l = failure_plies_few arena law size numbered side r.0 p (r.2, r.3) in
                never (fails_later arena side r.0 (size + most) p (omega arith) r.2)),
          ),
        )
      ]
    ]
