-- Entries that meet every local equation are the codes of the bounds.
use Rattle.std.proofs.Common.{◌≡◌, ◌↔◌, ◌+◌, ◌*◌, ℕ, zero, suc, true, refl, sym, subst, ◌∙◌, arith}
use Rattle.std.proofs.lemmas.Bool.Decides.{nat_tests}
use Rattle.frz_board.specs.declared.man.Colour.{Colour}
use Rattle.frz_arena.specs.Arena.{Arena, IsLawful}
use Rattle.frz_arena.specs.Plies.{WinsWithin, FailsWithin}
use Rattle.frz_arena.specs.Codes.{is_win, is_failure, IsWinWithin, IsFailureWithin}
use Rattle.frz_arena.specs.LocalCodes.{local_code, MeetsEquations}
use Rattle.frz_arena.proofs.LocalCodes.CodesByPlies.{AreCodes}
use Rattle.frz_arena.proofs.LocalCodes.ChosenCodes.{win_and_failure, win_of}
use Rattle.frz_arena.proofs.LocalCodes.OnePly.{TellBefore, local_tells, broken_of_code}
use Rattle.frz_arena.proofs.LocalCodes.PlyCodes.{at_broken}

-- entries that meet the equations tell every ply
equations_tell : {M N V : Type 0} (arena : Arena M N V) → IsLawful arena →
    (side : Colour) (entry : N → ℕ) → MeetsEquations arena side entry → (n : ℕ) →
    TellBefore arena side n entry
equations_tell arena law side entry eqs zero =
    record { wins = λ m p l. absurd (omega (arith, l)); fails = λ m p l. absurd (omega (arith, l)) }
equations_tell arena law side entry eqs (suc n) =
    let next = local_tells arena law side n entry (equations_tell arena law side entry eqs n) in
    record {
      wins = λ m p l. subst (λ c. WinsWithin arena side m p ↔ IsWinWithin m c) (sym (eqs p))
          (next.wins m p l);
      fails = λ m p l. subst (λ c. FailsWithin arena side m p ↔ IsFailureWithin m c) (sym (eqs p))
          (next.fails m p l);
    }

-- entries that meet every equation are the codes
pub solution_is_codes : {M N V : Type 0} (arena : Arena M N V) → IsLawful arena →
    (side : Colour) (entry : N → ℕ) → MeetsEquations arena side entry → AreCodes arena side entry
solution_is_codes arena law side entry eqs = record {
  broken =
      λ p. (
        λ e. eqs p ∙ at_broken arena side entry p e,
        λ e. broken_of_code arena side entry p
            (sym (eqs p) ∙ e),
      );
  wins = λ n p. (equations_tell arena law side entry eqs (suc n)).wins n p (omega arith);
  fails = λ n p. (equations_tell arena law side entry eqs (suc n)).fails n p (omega arith);
}

-- each number is the code of one thing
pub data CodeIs (c : ℕ) : Type 0 where
  none : c ≡ 0 → CodeIs c
  hold : c ≡ 1 → CodeIs c
  win : (n : ℕ) → c ≡ 2 + 2 * n → CodeIs c
  failure : (n : ℕ) → c ≡ 3 + 2 * n → CodeIs c

pub code_is : (c : ℕ) → CodeIs c
code_is zero = none refl
code_is (suc zero) = hold refl
code_is (suc (suc c)) =
    elim (code_is c) [
      | none e ↦ win 0 (omega arith)
      | hold e ↦ failure 0 (omega arith)
      | win n e ↦ win (suc n) (omega arith)
      | failure n e ↦ failure (suc n) (omega arith)
    ]

failure_of : (n : ℕ) → is_failure (3 + 2 * n) ≡ true
failure_of n = grind (arith, nat_tests)

pub as_win : (c n : ℕ) → c ≡ 2 + 2 * n → IsWinWithin n c
as_win c n e = (subst (λ z. is_win z ≡ true) (sym e) (win_of n), omega arith)

pub as_failure : (c n : ℕ) → c ≡ 3 + 2 * n → IsFailureWithin n c
as_failure c n e = (subst (λ z. is_failure z ≡ true) (sym e) (failure_of n), omega arith)

-- two codes that say the same of wins, failures and broken positions are one
pub same_code : (c d : ℕ) → ((n : ℕ) → IsWinWithin n c → IsWinWithin n d) →
    ((n : ℕ) → IsWinWithin n d → IsWinWithin n c) →
    ((n : ℕ) → IsFailureWithin n c → IsFailureWithin n d) →
    ((n : ℕ) → IsFailureWithin n d → IsFailureWithin n c) → (c ≡ 0 → d ≡ 0) → (d ≡ 0 → c ≡ 0) →
    c ≡ d
same_code c d w w' f f' z z' =
    elim (code_is c) [
      | none e ↦ e ∙ sym (z e)
      | win n e ↦ (
          let h = w n (as_win c n e) in
          elim (code_is d) [
            | none k ↦ absurd (let g = z' k in omega arith)
            | hold k ↦ absurd (let g = h.0 in let b : is_win 1 ≡ true = subst (λ x. is_win x ≡ true)
                k g in cc)
            | win m k ↦ (let g = w' m (as_win d m k) in let a = h.1 in let b = g.1 in omega arith)
            | failure m k ↦ absurd (win_and_failure d h.0 (as_failure d m k).0)
          ])
      | failure n e ↦ (
          let h = f n (as_failure c n e) in
          elim (code_is d) [
            | none k ↦ absurd (let g = z' k in omega arith)
            | hold k ↦ absurd (let g = h.0 in let b : is_failure 1 ≡ true = subst
                (λ x. is_failure x ≡ true) k g in cc)
            | win m k ↦ absurd (win_and_failure d (as_win d m k).0 h.0)
            | failure m k ↦ (let g = f' m (as_failure d m k) in let a = h.1 in let b = g.1 in
                omega arith)
          ])
      | hold e ↦ elim (code_is d) [
        | none k ↦ absurd (let g = z' k in omega arith)
        | hold k ↦ e ∙ sym k
        | win m k ↦ absurd (let g = (w' m (as_win d m k)).0 in let b : is_win 1 ≡ true = subst
            (λ x. is_win x ≡ true) e g in cc)
        | failure m k ↦ absurd
            (let g = (f' m (as_failure d m k)).0 in let b : is_failure 1 ≡ true = subst
            (λ x. is_failure x ≡ true) e g in cc)
      ]
    ]

-- the codes meet the equations
pub codes_meet : {M N V : Type 0} (arena : Arena M N V) → IsLawful arena →
    (side : Colour) (entry : N → ℕ) → AreCodes arena side entry → MeetsEquations arena side entry
codes_meet arena law side entry codes p =
    let told : (n : ℕ) → TellBefore arena side (suc n) (local_code arena side entry) =
    λ n. local_tells arena law side n entry
    (record { wins = λ m q _. codes.wins m q; fails = λ m q _. codes.fails m q }) in
    same_code (entry p) (local_code arena side entry p)
    (λ n h. ((told n).wins n p (omega arith)).0 ((codes.wins n p).1 h))
    (λ n h. (codes.wins n p).0 (((told n).wins n p (omega arith)).1 h))
    (λ n h. ((told n).fails n p (omega arith)).0 ((codes.fails n p).1 h))
    (λ n h. (codes.fails n p).0 (((told n).fails n p (omega arith)).1 h))
    (λ e. at_broken arena side entry p ((codes.broken p).1 e))
    (λ e. (codes.broken p).0 (broken_of_code arena side entry p e))
