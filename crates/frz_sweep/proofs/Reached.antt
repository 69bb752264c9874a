-- Where the plies end.
use Rattle.std.proofs.Common.{◌≡◌, ◌≤◌, ◌<◌, ◌+◌, ◌*◌, ℕ, zero, suc, inl, inr, List, slice_index, subst, arith}
use Rattle.std.proofs.lemmas.Bool.{cases_lt}
use Rattle.std.proofs.lemmas.Bool.Decides.{nat_tests}
use Rattle.frz_board.specs.declared.man.Colour.{Colour}
use Rattle.frz_sets.specs.declared.exit.Value.{Value}
use Rattle.frz_arena.specs.declared.bound.Bound.TheVariants.{Wins, Fails}
use Rattle.frz_arena.specs.Arena.{Arena}
use Rattle.frz_arena.specs.Plies.{WinsWithin, FailsWithin, LagsWithin}
use Rattle.frz_arena.specs.Codes.{IsWinWithin, IsFailureWithin}
use Rattle.frz_arena.specs.Bounds.{IsBound, IsCodeAt}
use Rattle.frz_arena.proofs.Lemmas.{win_plies_few, failure_plies_few, AreCodes, codes_of_bounds, wins_later, fails_later, wins_stay, fails_stay, none, hold, win, failure, code_is, as_win, as_failure}
use Rattle.frz_graph.specs.Finite.{IsFinite}
use Rattle.frz_sweep.specs.Told.{IsTold, AreTold}

-- a code of a later ply than all before is that of a bound, so the plies are few
pub few_plies : {M : Type 0} (arena : Arena M ℕ Value) (size : ℕ) → IsFinite arena size →
    (side : Colour) (most : ℕ) → LagsWithin arena side most →
    (n i c : ℕ) → IsTold arena side (n + 1) i c → 2 + 2 * n ≤ c → n ≤ size + most
few_plies arena size finite side most lags n i c told late =
    let within = told.within in
    elim (code_is c) [
      | none e ↦ absurd (omega arith)
      | hold e ↦ absurd (omega arith)
      | win k e ↦ (
          let b : IsBound arena side i (Wins k) = (
            (told.wins k (omega arith)).1 (as_win c k e),
            λ m l w. (let h = ((told.wins m (omega arith)).0 w).1 in omega arith),
          ) in
          let few = win_plies_few arena finite.lawful size finite.numbered side most lags k i b in
          omega arith)
      | failure k e ↦ (
          let b : IsBound arena side i (Fails k) = (
            (told.fails k (omega arith)).1 (as_failure c k e),
            λ m l f. (let h = ((told.fails m (omega arith)).0 f).1 in omega arith),
          ) in
          let few = failure_plies_few arena finite.lawful size finite.numbered side k i b in
          omega arith)
    ]

earlier_win : (n c : ℕ) → c ≤ 3 + 2 * n → (m : ℕ) → IsWinWithin m c → IsWinWithin n c
earlier_win n c l m w = let k = w.0 in (k, grind (arith, nat_tests))

earlier_failure : (n c : ℕ) → c ≤ 3 + 2 * n → (m : ℕ) → IsFailureWithin m c → IsFailureWithin n c
earlier_failure n c l m f = (f.0, l)

-- the codes after a ply that changed nothing, with no lag to come, tell all
tells_all : {M V : Type 0} (arena : Arena M ℕ V) (side : Colour) (n : ℕ) → LagsWithin arena side n →
    (codes : List ℕ) →
    AreTold arena side (n + 1) codes → AreTold arena side (n + 2) codes
    → AreCodes arena side (λ i. slice_index codes i)
tells_all arena side n lags codes before after =
    let still : (p : ℕ) → WinsWithin arena side (suc n) p → WinsWithin arena side n p =
    λ p w. (let told = before p in (told.wins n (omega arith)).1
    (earlier_win n _ (let h = told.within in omega arith) (suc n)
    (((after p).wins (suc n) (omega arith)).0 w))) in
    let calm : (p : ℕ) → FailsWithin arena side (suc n) p → FailsWithin arena side n p =
    λ p f. (let told = before p in (told.fails n (omega arith)).1
    (earlier_failure n _ (let h = told.within in omega arith) (suc n)
    (((after p).fails (suc n) (omega arith)).0 f))) in
    let wins_by : (m p : ℕ) → WinsWithin arena side m p → IsWinWithin n (slice_index codes p) =
    λ m p w. ((before p).wins n (omega arith)).0 (wins_stay arena side n lags still m p w) in
    let fails_by : (m p : ℕ) → FailsWithin arena side m p
    → IsFailureWithin n (slice_index codes p) =
    λ m p f. ((before p).fails n (omega arith)).0 (fails_stay arena side n calm m p f) in
    record {
      broken = λ p. ((before p).broken (omega arith), (before p).zero);
      wins = λ m p. elim (cases_lt m (n + 1)) [
        | inl below ↦ (before p).wins m below
        | inr above ↦ (
          λ w. (let k = wins_by m p w in (k.0, omega (arith, k.1))),
          λ w. wins_later arena side n m p (omega arith)
              (((before p).wins n (omega arith)).1
              (earlier_win n _ (let h = (before p).within in omega arith) m w)),
        )
      ];
      fails = λ m p. elim (cases_lt m (n + 1)) [
        | inl below ↦ (before p).fails m below
        | inr above ↦ (
          λ f. (let k = fails_by m p f in (k.0, omega (arith, k.1))),
          λ f. fails_later arena side n m p (omega arith)
              (((before p).fails n (omega arith)).1
              (earlier_failure n _ (let h = (before p).within in omega arith) m f)),
        )
      ];
    }

lags_later : {M V : Type 0} (arena : Arena M ℕ V) (side : Colour) (n most : ℕ) → most ≤ n →
    LagsWithin arena side most → LagsWithin arena side n
lags_later arena side n most l lags p a v i e good = let h = lags p a v i e good in omega arith

-- where a ply above 0 changes nothing, and each lag is below it, the codes are those of the bounds
pub reached_codes : {M V : Type 0} (arena : Arena M ℕ V) (side : Colour) (ply most : ℕ) →
    most < ply → LagsWithin arena side most → (codes : List ℕ) →
    AreTold arena side ply codes → AreTold arena side (ply + 1) codes → (i : ℕ)
    → IsCodeAt arena side i (slice_index codes i)
reached_codes arena side zero most l lags codes before after i = absurd (omega arith)
reached_codes arena side (suc n) most l lags codes before after i =
    let ply : suc n ≡ n + 1 = omega arith in
    let next : suc n + 1 ≡ n + 2 = omega arith in
    codes_of_bounds arena side (λ k. slice_index codes k)
    (tells_all arena side n (lags_later arena side n most (omega arith) lags) codes
    (subst (λ z. AreTold arena side z codes) ply before)
    (subst (λ z. AreTold arena side z codes) next after)) i
