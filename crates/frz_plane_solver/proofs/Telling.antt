-- What codes tell one ply on.
use Rattle.std.proofs.Common.{◌≡◌, ◌<◌, ◌≤◌, ◌+◌, ◌*◌, ◌↔◌, ℕ, inl, inr, refl, subst, arith}
use Rattle.std.proofs.lemmas.Bool.{cases_lt}
use Rattle.std.proofs.lemmas.Bool.Decides.{nat_tests}
use Rattle.frz_board.specs.declared.man.Colour.{Colour}
use Rattle.frz_arena.specs.declared.node.Node.TheVariants.{Broken}
use Rattle.frz_arena.specs.Arena.{Arena}
use Rattle.frz_arena.specs.Codes.{IsFailureWithin, IsWinWithin}
use Rattle.frz_arena.specs.Plies.{FailsWithin, WinsWithin}
use Rattle.frz_arena.proofs.Lemmas.{as_failure, as_win, broken_never_fails, broken_never_wins, fails_later, never_both, win_and_failure, wins_later}
use Rattle.frz_sweep.specs.Told.{IsTold}
use Rattle.frz_sweep.proofs.Lemmas.{no_failure, no_win}

-- the code of a win within n plies, and no fewer
pub told_win : {M V : Type 0} (arena : Arena M ℕ V) (side : Colour) (n i : ℕ) →
    WinsWithin arena side n i → ((k : ℕ) → k < n → WinsWithin arena side k i → ⊥) →
    IsTold arena side (n + 1) i (2 + 2 * n)
told_win arena side n i w none = record {
  zero = λ e. absurd (omega arith);
  broken = λ _ b. absurd (broken_never_wins arena side n i b w);
  wins = λ m l. (
    λ v. elim (cases_lt m n) [
      | inl below ↦ absurd (none m below v)
      | inr above ↦ ((as_win (2 + 2 * n) n refl).0, omega arith)
    ],
    λ c. (let few = c.1 in wins_later arena side n m i (omega arith) w),
  );
  fails = λ m l. (
    λ f. absurd (never_both arena side n m i w f),
    λ f. absurd (win_and_failure (2 + 2 * n) (as_win (2 + 2 * n) n refl).0 f.0),
  );
  within = omega arith;
}

-- the code of a failure within n plies, and no fewer
pub told_failure : {M V : Type 0} (arena : Arena M ℕ V) (side : Colour) (n i : ℕ) →
    FailsWithin arena side n i → ((k : ℕ) → k < n → FailsWithin arena side k i → ⊥) →
    IsTold arena side (n + 1) i (3 + 2 * n)
told_failure arena side n i f none = record {
  zero = λ e. absurd (omega arith);
  broken = λ _ b. absurd (broken_never_fails arena side n i b f);
  wins = λ m l. (
    λ w. absurd (never_both arena side m n i w f),
    λ w. absurd (win_and_failure (3 + 2 * n) w.0 (as_failure (3 + 2 * n) n refl).0),
  );
  fails = λ m l. (
    λ v. elim (cases_lt m n) [
      | inl below ↦ absurd (none m below v)
      | inr above ↦ ((as_failure (3 + 2 * n) n refl).0, omega arith)
    ],
    λ c. (let few = c.1 in fails_later arena side n m i (omega arith) f),
  );
  within = omega arith;
}

win_before : (n c : ℕ) → c ≤ 3 + 2 * n → IsWinWithin (n + 1) c → IsWinWithin n c
win_before n c l w = let k = w.0 in (k, grind (arith, nat_tests))

-- a code tells one ply more of a number that the ply does not decide
pub told_still : {M V : Type 0} (arena : Arena M ℕ V) (side : Colour) (n i c : ℕ) →
    IsTold arena side (n + 1) i c →
    (WinsWithin arena side (n + 1) i → WinsWithin arena side n i) →
    (FailsWithin arena side (n + 1) i → FailsWithin arena side n i) →
    IsTold arena side (n + 1 + 1) i c
told_still arena side n i c told still calm = record {
  zero = told.zero;
  broken = λ _ b. told.broken (omega arith) b;
  wins = λ m l. elim (cases_lt m (n + 1)) [
    | inl below ↦ told.wins m below
    | inr above ↦ (
        let same : n + 1 ≡ m = omega arith in
        subst (λ (z : ℕ). WinsWithin arena side z i ↔ IsWinWithin z c) same (
          λ w. (let k = (told.wins n (omega arith)).0 (still w) in (k.0, omega (arith, k.1))),
          λ w. wins_later arena side n (n + 1) i (omega arith)
              ((told.wins n (omega arith)).1
              (win_before n c (let h = told.within in omega arith) w)),
        ))
  ];
  fails = λ m l. elim (cases_lt m (n + 1)) [
    | inl below ↦ told.fails m below
    | inr above ↦ (
        let same : n + 1 ≡ m = omega arith in
        subst (λ (z : ℕ). FailsWithin arena side z i ↔ IsFailureWithin z c) same (
          λ f. (let k = (told.fails n (omega arith)).0 (calm f) in (k.0, omega (arith, k.1))),
          λ f. fails_later arena side n (n + 1) i (omega arith)
              ((told.fails n (omega arith)).1
              (f.0, let h = told.within in omega arith)),
        ))
  ];
  within = let h = told.within in omega arith;
}

-- the code 1 tells of a number that is not decided at once and not broken
pub told_open : {M V : Type 0} (arena : Arena M ℕ V) (side : Colour) (i : ℕ) →
    (arena.node i ≡ Broken → ⊥) → (WinsWithin arena side 0 i → ⊥) →
    (FailsWithin arena side 0 i → ⊥) → IsTold arena side 1 i 1
told_open arena side i live no_wins no_fails = record {
  zero = λ e. absurd (omega arith);
  broken = λ _ b. absurd (live b);
  wins = λ m l. (
    λ w. absurd (no_wins (wins_later arena side m 0 i (omega arith) w)),
    λ w. absurd (no_win m 1 (omega arith) w),
  );
  fails = λ m l. (
    λ f. absurd (no_fails (fails_later arena side m 0 i (omega arith) f)),
    λ f. absurd (no_failure m 1 (omega arith) f),
  );
  within = omega arith;
}

-- and the code 0 of a broken one
pub told_broken : {M V : Type 0} (arena : Arena M ℕ V) (side : Colour) (i : ℕ) →
    arena.node i ≡ Broken → IsTold arena side 1 i 0
told_broken arena side i broken = record {
  zero = λ _. broken;
  broken = λ _ _. refl;
  wins = λ m l. (
    λ w. absurd (broken_never_wins arena side m i broken w),
    λ w. absurd (no_win m 0 (omega arith) w),
  );
  fails = λ m l. (
    λ f. absurd (broken_never_fails arena side m i broken f),
    λ f. absurd (no_failure m 0 (omega arith) f),
  );
  within = omega arith;
}
