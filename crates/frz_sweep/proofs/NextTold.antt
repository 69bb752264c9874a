-- A code that tells so many plies, and what it is one ply on.
use Rattle.std.proofs.Common.{◌≡◌, ◌≢◌, ◌≤◌, ◌<◌, ◌+◌, ◌*◌, ◌↔◌, ℕ, List, length, slice_index, inl, inr, sym, subst, ◌∙◌, arith}
use Rattle.std.proofs.lemmas.Bool.{cases_lt}
use Rattle.std.proofs.lemmas.Bool.Decides.{nat_tests}
use Rattle.std.proofs.lemmas.List.{get_or_past}
use Rattle.frz_board.specs.declared.man.Colour.{Colour}
use Rattle.frz_arena.specs.Arena.{Arena, IsLawful}
use Rattle.frz_arena.specs.Codes.{IsWinWithin, IsFailureWithin}
use Rattle.frz_arena.specs.LocalCodes.{local_code}
use Rattle.frz_arena.proofs.Lemmas.{win_and_failure, never_both, broken_never_wins, broken_never_fails, wins_later, fails_later, at_broken, TellBefore, broken_of_code, local_tells, none, hold, win, failure, code_is, as_win, as_failure}
use Rattle.frz_sweep.specs.Told.{IsTold, settled_code}

pub settled_low : (n c : ℕ) → c ≤ 3 + 2 * n → settled_code n c ≡ c
settled_low n c l = grind (arith, nat_tests)

pub settled_high : (n c : ℕ) → 3 + 2 * n < c → settled_code n c ≡ 1
settled_high n c l = grind (arith, nat_tests)

pub no_win : (m c : ℕ) → c ≤ 1 → IsWinWithin m c → ⊥
no_win m c l w = let k = w.0 in grind (arith, nat_tests)

pub no_failure : (m c : ℕ) → c ≤ 1 → IsFailureWithin m c → ⊥
no_failure m c l f = let k = f.0 in grind (arith, nat_tests)

-- settling keeps what a code says of the plies that are reached
settled_says : (Says : ℕ → Type 0) (n c : ℕ) → (Says 1 → ⊥) → (Says c → c ≤ 3 + 2 * n) →
    Says c ↔ Says (settled_code n c)
settled_says Says n c open_says few =
    elim (cases_lt (3 + 2 * n) c) [
      | inl high ↦ (
        λ s. absurd (let k = few s in omega arith),
        λ s. absurd (open_says (subst Says (settled_high n c high) s)),
      )
      | inr low ↦ (subst Says (sym (settled_low n c low)), subst Says (settled_low n c low))
    ]

settled_win : (n m c : ℕ) → m ≤ n → IsWinWithin m c ↔ IsWinWithin m (settled_code n c)
settled_win n m c l =
    settled_says (λ d. IsWinWithin m d) n c (no_win m 1 (omega arith)) (λ w. omega (arith, w.1))

settled_failure : (n m c : ℕ) → m ≤ n → IsFailureWithin m c ↔ IsFailureWithin m (settled_code n c)
settled_failure n m c l =
    settled_says (λ d. IsFailureWithin m d) n c (no_failure m 1 (omega arith))
    (λ f. omega (arith, f.1))

settled_zero : (n c : ℕ) → settled_code n c ≡ 0 → c ≡ 0
settled_zero n c e =
    elim (cases_lt (3 + 2 * n) c) [
      | inl high ↦ absurd (let k = settled_high n c high in omega arith)
      | inr low ↦ sym (settled_low n c low) ∙ e
    ]

settled_few : (n c : ℕ) → settled_code n c ≤ 3 + 2 * n
settled_few n c =
    elim (cases_lt (3 + 2 * n) c) [
      | inl high ↦ (let k = settled_high n c high in omega arith)
      | inr low ↦ (let k = settled_low n c low in omega arith)
    ]

-- a local code is told one ply more
pub local_told : {M V : Type 0} (arena : Arena M ℕ V) → IsLawful arena →
    (side : Colour) (n : ℕ) (entry : ℕ → ℕ) → TellBefore arena side n entry →
    (i : ℕ) → IsTold arena side (n + 1) i (settled_code n (local_code arena side entry i))
local_told arena law side n entry told i =
    let next = local_tells arena law side n entry told in
    let code = local_code arena side entry i in
    record {
      zero = λ e. broken_of_code arena side entry i (settled_zero n code e);
      broken = λ some e. (let k = at_broken arena side entry i e in
          let l = settled_low n code (omega arith) in l ∙ k);
      wins = λ m l. (
        λ w. (settled_win n m code (omega arith)).0 ((next.wins m i (omega arith)).0 w),
        λ w. (next.wins m i (omega arith)).1 ((settled_win n m code (omega arith)).1 w),
      );
      fails = λ m l. (
        λ f. (settled_failure n m code (omega arith)).0 ((next.fails m i (omega arith)).0 f),
        λ f. (next.fails m i (omega arith)).1 ((settled_failure n m code (omega arith)).1 f),
      );
      within = let k = settled_few n code in omega arith;
    }

-- a code that is settled tells each further ply
pub settled_told : {M V : Type 0} (arena : Arena M ℕ V) (side : Colour) (n i c : ℕ) →
    IsTold arena side n i c → c ≢ 1 → IsTold arena side (n + 1) i c
settled_told arena side n i c told ne =
    elim (code_is c) [
      | none e ↦ (
          let b = told.zero e in
          record {
            zero = λ _. b;
            broken = λ _ _. e;
            wins = λ m l. (
              λ w. absurd (broken_never_wins arena side m i b w),
              λ w. absurd (no_win m c (omega arith) w),
            );
            fails = λ m l. (
              λ f. absurd (broken_never_fails arena side m i b f),
              λ f. absurd (no_failure m c (omega arith) f),
            );
            within = omega arith;
          })
      | hold e ↦ absurd (ne e)
      | win k e ↦ (
          let within = told.within in
          let w = (told.wins k (omega arith)).1 (as_win c k e) in
          record {
            zero = told.zero;
            broken = λ _ b. absurd (broken_never_wins arena side k i b w);
            wins = λ m l. elim (cases_lt m n) [
              | inl below ↦ told.wins m below
              | inr above ↦ (
                λ _. ((as_win c k e).0, omega arith),
                λ _. wins_later arena side k m i
                    (omega arith) w,
              )
            ];
            fails = λ m l. (
              λ f. absurd (never_both arena side k m i w f),
              λ f. absurd (win_and_failure c (as_win c k e).0 f.0),
            );
            within = omega arith;
          })
      | failure k e ↦ (
          let within = told.within in
          let f = (told.fails k (omega arith)).1 (as_failure c k e) in
          record {
            zero = told.zero;
            broken = λ _ b. absurd (broken_never_fails arena side k i b f);
            wins = λ m l. (
              λ w. absurd (never_both arena side m k i w f),
              λ w. absurd (win_and_failure c w.0 (as_failure c k e).0),
            );
            fails = λ m l. elim (cases_lt m n) [
              | inl below ↦ told.fails m below
              | inr above ↦ (
                λ _. ((as_failure c k e).0, omega arith),
                λ _. fails_later arena side k m i
                    (omega arith) f,
              )
            ];
            within = omega arith;
          })
    ]

-- a number that was open has no code of fewer plies
pub late_code : {M V : Type 0} (arena : Arena M ℕ V) (side : Colour) (n i c : ℕ) → 0 < n →
    IsTold arena side n i 1 → IsTold arena side (n + 1) i c → c ≢ 1 → 2 + 2 * n ≤ c
late_code arena side n i c some open_one told ne =
    elim (code_is c) [
      | none e ↦ absurd (let k = open_one.broken some (told.zero e) in omega arith)
      | hold e ↦ absurd (ne e)
      | win k e ↦ elim (cases_lt k n) [
        | inl below ↦
            absurd (no_win k 1 (omega arith)
            ((open_one.wins k below).0 ((told.wins k (omega arith)).1 (as_win c k e))))
        | inr above ↦ omega arith
      ]
      | failure k e ↦ elim (cases_lt k n) [
        | inl below ↦
            absurd (no_failure k 1 (omega arith)
            ((open_one.fails k below).0 ((told.fails k (omega arith)).1 (as_failure c k e))))
        | inr above ↦ omega arith
      ]
    ]

-- in the middle of a ply, where the codes of the numbers below i tell this ply too, the local code
-- of number i makes its code tell it
pub next_told : {M V : Type 0} (arena : Arena M ℕ V) → IsLawful arena →
    (side : Colour) (n i : ℕ) (codes : List ℕ) →
    ((p : ℕ) → p < i → IsTold arena side (n + 1) p (slice_index codes p)) →
    ((p : ℕ) → i ≤ p → IsTold arena side n p (slice_index codes p)) →
    IsTold arena side (n + 1) i
    (settled_code n (local_code arena side (λ k. slice_index codes k) i))
next_told arena law side n i codes before after =
    local_told arena law side n (λ k. slice_index codes k)
    (record {
      wins = λ m p l. elim (cases_lt p i)
          [ inl h ↦ (before p h).wins m (omega arith) | inr h ↦ (after p h).wins m l ];
      fails = λ m p l. elim (cases_lt p i)
          [ inl h ↦ (before p h).fails m (omega arith) | inr h ↦ (after p h).fails m l ];
    })
    i

-- past the numbers of the arena all is told
pub past_told : {M V : Type 0} (arena : Arena M ℕ V) (side : Colour) (n i : ℕ) (codes : List ℕ) →
    length codes ≤ i →
    IsTold arena side n i (slice_index codes i) → IsTold arena side (n + 1) i (slice_index codes i)
past_told arena side n i codes l told =
    settled_told arena side n i (slice_index codes i) told
    (λ e. (let k = get_or_past codes i 0 l in omega arith))
