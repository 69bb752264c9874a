-- What the codes one ply on say of a position.
use Rattle.std.proofs.Common.{◌≡◌, ◌≤◌, ◌<◌, ◌↔◌, ◌+◌, ◌*◌, ℕ, zero, suc, ◌⊎◌, inl, inr, Bool, true, List, [], ◌∷◌, refl, sym, subst, ap, ◌∙◌, arith}
use Rattle.std.specs.List.{Contains, list_any, list_all, filter}
use Rattle.std.proofs.lemmas.Bool.{cases_Bool}
use Rattle.frz_board.specs.declared.man.Colour.{Colour}
use Rattle.frz_board.specs.Men.{other_of}
use Rattle.frz_arena.specs.declared.node.Node.TheVariants.{Broken, Mate}
use Rattle.frz_arena.specs.declared.arm.Arm.{Arm}
use Rattle.frz_arena.specs.Arena.{Arena, IsLawful}
use Rattle.frz_arena.specs.Plies.{LeadsTo, IsGoodExit, IsBadExit, EachFree, EachArm, MovesToGood, MovesToBad, IsLost, WinsWithin, FailsWithin}
use Rattle.frz_arena.specs.Codes.{is_win, is_failure, IsWinWithin, IsFailureWithin}
use Rattle.frz_arena.specs.LocalCodes.{free_codes, all_codes, next_code, chosen_code, least, greatest, own_code, local_code}
use Rattle.frz_arena.proofs.LocalCodes.ChosenCodes.{win_above, failure_above}
use Rattle.frz_arena.proofs.Lists.Members.{first_in, passes_or_none}
use Rattle.frz_arena.proofs.Plies.Opposed.{wins_later, fails_at_once}
use Rattle.frz_arena.proofs.LocalCodes.PlyCodes.{broken, mated, mates, stale, moves, waits, node_is, at_broken, at_mated, at_mates, at_stale, at_own, at_other, own_win, own_win_from, own_failure, own_failure_from, other_failure, other_failure_from, other_win, other_win_from, code_among_free, code_among_all, free_of_code, arm_of_code, some_arm, code_of_good, good_of_code, code_of_bad, bad_of_code}

win_at : (n c d : ℕ) → c ≡ d → IsWinWithin n c → IsWinWithin n d
win_at n c d e h = subst (λ z. IsWinWithin n z) e h

failure_at : (n c d : ℕ) → c ≡ d → IsFailureWithin n c → IsFailureWithin n d
failure_at n c d e h = subst (λ z. IsFailureWithin n z) e h

pub empty_list : (cs : List ℕ) → ((x : ℕ) → Contains cs x → ⊥) → cs ≡ []
empty_list [] h = refl
empty_list (c ∷ cs) h = absurd (h c (first_in c cs))

chosen_above : (sought shunned : ℕ → Bool) (cs : List ℕ) → 1 ≤ chosen_code sought shunned cs
chosen_above sought shunned cs =
    elim (cases_Bool (list_any sought cs)) [
      | inl t ↦ (let e : chosen_code sought shunned cs ≡ least (filter sought cs) + 2 = rw t refl in
          omega arith)
      | inr f ↦ elim (cases_Bool (list_all shunned cs)) [
        | inl a ↦ (let e : chosen_code sought shunned cs ≡ greatest cs + 2 = rw (f, a) refl in
            omega arith)
        | inr b ↦ (let e : chosen_code sought shunned cs ≡ 1 = rw (f, b) refl in omega arith)
      ]
    ]

own_above : (cs : List ℕ) → 1 ≤ own_code cs
own_above [] = omega arith
own_above (c ∷ cs) = chosen_above is_win is_failure (c ∷ cs)

-- moves to what is good make a win
pub code_of_moves : {M N V : Type 0} (arena : Arena M N V) (side : Colour) (entry : N → ℕ) (n : ℕ)
    (P : N → Type 0) → ((q : N) → P q → IsWinWithin n (entry q)) → (p : N)
    → MovesToGood arena side (LeadsTo P (IsGoodExit arena side n)) p
    → IsWinWithin (suc n) (local_code arena side entry p)
code_of_moves arena side entry n P h p (inl m) =
    let a = m.1.0 in
    let g = code_of_good arena side entry n P h a.next m.1.3 in
    let k = own_win_from (free_codes arena side entry p) (next_code arena side entry a.next)
    (code_among_free arena side entry p a m.1.1 m.1.2) g.0 in
    let e = at_own arena side entry p m.0 in
    (subst (λ z. is_win z ≡ true) (sym e) k.0, omega arith)
code_of_moves arena side entry n P h p (inr m) =
    let cs = all_codes arena side entry p in
    let each : (x : ℕ) → Contains cs x → (is_win x ≡ true) × (x ≤ 2 + 2 * n) =
    λ x i. (let r = arm_of_code arena side entry p x i in
    win_at n (next_code arena side entry r.0.next) x r.2
    (code_of_good arena side entry n P h r.0.next (m.2 r.0 r.1))) in
    let k = other_win_from cs (next_code arena side entry m.1.0.next) (2 + 2 * n)
    (code_among_all arena side entry p m.1.0 m.1.1) each in
    let e = at_other arena side entry p m.0 in
    (subst (λ z. is_win z ≡ true) (sym e) k.0, omega arith)

-- a win comes of a mate, or of moves to what is good
pub moves_of_code : {M N V : Type 0} (arena : Arena M N V) → IsLawful arena →
    (side : Colour) (entry : N → ℕ) (n : ℕ) (P : N → Type 0) →
    ((q : N) → IsWinWithin n (entry q) → P q) → (p : N) →
    IsWinWithin (suc n) (local_code arena side entry p) →
    (arena.node p ≡ Mate (other_of side))
    ⊎ MovesToGood arena side (LeadsTo P (IsGoodExit arena side n)) p
moves_of_code {M} {N} {V} arena law side entry n P h p w =
    elim (node_is side (arena.node p)) [
      | broken e ↦ absurd (let k = win_at (suc n) _ _ (at_broken arena side entry p e) w in
          let b = k.0 in cc)
      | mated e ↦ absurd (let k = win_at (suc n) _ _ (at_mated arena side entry p e) w in
          let b = k.0 in cc)
      | mates e ↦ inl e
      | stale mover e ↦ absurd
          (let k = win_at (suc n) _ _ (at_stale arena side entry p mover e) w in let b = k.0 in cc)
      | moves e ↦ inr (inl (
          let f = at_own arena side entry p e in
          let k = win_at (suc n) _ _ f w in
          let s = own_win (free_codes arena side entry p) k.0 in
          let a = free_of_code arena side entry p s.0 s.1 in
          let g : IsWinWithin n s.0 = (s.2, omega arith) in (
            e,
            (
              a.0,
              a.1,
              a.2,
              good_of_code arena side entry n P h a.0.next
                  (win_at n _ _ (sym a.3) g),
            ),
          )))
      | waits e ↦ inr (inr (
          let f = at_other arena side entry p e in
          let k = win_at (suc n) _ _ f w in
          let each : EachArm arena p (LeadsTo P (IsGoodExit arena side n)) =
          λ a i. (let s = other_win (all_codes arena side entry p) k.0
          (next_code arena side entry a.next) (code_among_all arena side entry p a i) in
          good_of_code arena side entry n P h a.next (s.0, omega arith)) in
          let a = some_arm arena law p (other_of side) e in
          (e, (a.0, a.1, each a.0 a.1), each)))
    ]

-- a position whose code is 2 is a mate
pub mate_of_code : {M N V : Type 0} (arena : Arena M N V) → IsLawful arena →
    (side : Colour) (entry : N → ℕ) (p : N) → IsWinWithin zero (local_code arena side entry p) →
    arena.node p ≡ Mate (other_of side)
mate_of_code {M} {N} {V} arena law side entry p w =
    elim (node_is side (arena.node p)) [
      | broken e ↦ absurd (let k = win_at zero _ _ (at_broken arena side entry p e) w in
          let b = k.0 in cc)
      | mated e ↦ absurd (let k = win_at zero _ _ (at_mated arena side entry p e) w in
          let b = k.0 in cc)
      | mates e ↦ e
      | stale mover e ↦ absurd
          (let k = win_at zero _ _ (at_stale arena side entry p mover e) w in let b = k.0 in cc)
      | moves e ↦ absurd (
          let k = win_at zero _ _ (at_own arena side entry p e) w in
          let s = own_win (free_codes arena side entry p) k.0 in
          let b = win_above s.0 s.2 in
          omega arith)
      | waits e ↦ absurd (
          let k = win_at zero _ _ (at_other arena side entry p e) w in
          let a = some_arm arena law p (other_of side) e in
          let s = other_win (all_codes arena side entry p) k.0 (next_code arena side entry a.0.next)
          (code_among_all arena side entry p a.0 a.1) in
          let b = win_above (next_code arena side entry a.0.next) s.0 in
          omega arith)
    ]

-- moves to what is bad make a failure
pub code_of_bad_moves : {M N V : Type 0} (arena : Arena M N V) (side : Colour) (entry : N → ℕ)
    (n : ℕ) (P : N → Type 0) → ((q : N) → P q → IsFailureWithin n (entry q)) → (p : N)
    → MovesToBad arena side (LeadsTo P (IsBadExit arena side)) p
    → IsFailureWithin (suc n) (local_code arena side entry p)
code_of_bad_moves arena side entry n P h p (inl m) =
    let a = m.1.0 in
    let g = code_of_bad arena side entry n P h a.next m.1.2 in
    let k = other_failure_from (all_codes arena side entry p) (next_code arena side entry a.next)
    (code_among_all arena side entry p a m.1.1) g.0 in
    let e = at_other arena side entry p m.0 in
    (subst (λ z. is_failure z ≡ true) (sym e) k.0, omega arith)
code_of_bad_moves arena side entry n P h p (inr m) =
    let cs = free_codes arena side entry p in
    let each : (x : ℕ) → Contains cs x → (is_failure x ≡ true) × (x ≤ 3 + 2 * n) =
    λ x i. (let r = free_of_code arena side entry p x i in
    failure_at n (next_code arena side entry r.0.next) x r.3
    (code_of_bad arena side entry n P h r.0.next (m.2 r.0 r.1 r.2))) in
    let k = own_failure_from cs (3 + 2 * n) (omega arith) each in
    let e = at_own arena side entry p m.0 in
    (subst (λ z. is_failure z ≡ true) (sym e) k.0, omega arith)

-- a position that is lost at once has the code 3
pub code_of_lost : {M N V : Type 0} (arena : Arena M N V) (side : Colour) (entry : N → ℕ) (p : N) →
    IsLost arena side p → local_code arena side entry p ≡ 3
code_of_lost arena side entry p (inl e) = at_mated arena side entry p e
code_of_lost {M} {N} {V} arena side entry p (inr f) =
    let none : (x : ℕ) → Contains (free_codes arena side entry p) x
    → ⊥ = λ x i. (let r = free_of_code arena side entry p x i in f.1 r.0 r.1 r.2) in
    at_own arena side entry p f.0 ∙ ap own_code (empty_list (free_codes arena side entry p) none)

-- a failure comes of a loss, or of moves to what is bad
pub bad_moves_of_code : {M N V : Type 0} (arena : Arena M N V) → IsLawful arena →
    (side : Colour) (entry : N → ℕ) (n : ℕ) (P : N → Type 0) →
    ((q : N) → IsFailureWithin n (entry q) → P q) → (p : N) →
    IsFailureWithin (suc n) (local_code arena side entry p) →
    IsLost arena side p ⊎ MovesToBad arena side (LeadsTo P (IsBadExit arena side)) p
bad_moves_of_code {M} {N} {V} arena law side entry n P h p w =
    elim (node_is side (arena.node p)) [
      | broken e ↦ absurd (let k = failure_at (suc n) _ _ (at_broken arena side entry p e) w in
          let b = k.0 in cc)
      | mated e ↦ inl (inl e)
      | mates e ↦ absurd (let k = failure_at (suc n) _ _ (at_mates arena side entry p e) w in
          let b = k.0 in cc)
      | stale mover e ↦ absurd
          (let k = failure_at (suc n) _ _ (at_stale arena side entry p mover e) w in let b = k.0 in
          cc)
      | moves e ↦ (
          let f = at_own arena side entry p e in
          let k = failure_at (suc n) _ _ f w in
          let each : EachFree arena p (LeadsTo P (IsBadExit arena side)) =
          λ a i t. (let s = own_failure (free_codes arena side entry p) k.0
          (next_code arena side entry a.next) (code_among_free arena side entry p a i t) in
          bad_of_code arena side entry n P h a.next (s.0, omega arith)) in
          elim (passes_or_none (λ (a : Arm M N V). a.free) (arena.arms p)) [
            | inl r ↦ inr (inr (e, (r.0, r.1, r.2, each r.0 r.1 r.2), each))
            | inr none ↦ inl (inr (e, none))
          ])
      | waits e ↦ inr (inl (
          let f = at_other arena side entry p e in
          let k = failure_at (suc n) _ _ f w in
          let b = some_arm arena law p (other_of side) e in
          let s = other_failure (all_codes arena side entry p) (next_code arena side entry b.0.next)
          (code_among_all arena side entry p b.0 b.1) k.0 in
          let a = arm_of_code arena side entry p s.0 s.1 in
          let g : IsFailureWithin n s.0 = (s.2, omega arith) in (
            e,
            (
              a.0,
              a.1,
              bad_of_code arena side entry n P h a.0.next
                  (failure_at n _ _ (sym a.2) g),
            ),
          )))
    ]

-- a position whose code is 3 is lost at once
pub lost_of_code : {M N V : Type 0} (arena : Arena M N V) → IsLawful arena →
    (side : Colour) (entry : N → ℕ) (p : N) → IsFailureWithin zero (local_code arena side entry p) →
    IsLost arena side p
lost_of_code {M} {N} {V} arena law side entry p w =
    elim (node_is side (arena.node p)) [
      | broken e ↦ absurd (let k = failure_at zero _ _ (at_broken arena side entry p e) w in
          let b = k.0 in cc)
      | mated e ↦ inl e
      | mates e ↦ absurd (let k = failure_at zero _ _ (at_mates arena side entry p e) w in
          let b = k.0 in cc)
      | stale mover e ↦ absurd
          (let k = failure_at zero _ _ (at_stale arena side entry p mover e) w in let b = k.0 in cc)
      | moves e ↦ inr (
        e,
        λ a i t. (
            let k = failure_at zero _ _ (at_own arena side entry p e) w in
            let s = own_failure (free_codes arena side entry p) k.0
            (next_code arena side entry a.next) (code_among_free arena side entry p a i t) in
            let b = failure_above (next_code arena side entry a.next) s.0 in
            omega arith),
      )
      | waits e ↦ absurd (
          let k = failure_at zero _ _ (at_other arena side entry p e) w in
          let a = some_arm arena law p (other_of side) e in
          let s = other_failure (all_codes arena side entry p) (next_code arena side entry a.0.next)
          (code_among_all arena side entry p a.0 a.1) k.0 in
          let b = failure_above s.0 s.2 in
          omega arith)
    ]

-- a number that is not broken has no code 0
pub broken_of_code : {M N V : Type 0} (arena : Arena M N V) (side : Colour) (entry : N → ℕ) (p : N)
    → local_code arena side entry p ≡ 0 → arena.node p ≡ Broken
broken_of_code {M} {N} {V} arena side entry p w =
    elim (node_is side (arena.node p)) [
      | broken e ↦ e
      | mated e ↦ absurd (let k = at_mated arena side entry p e in omega arith)
      | mates e ↦ absurd (let k = at_mates arena side entry p e in omega arith)
      | stale mover e ↦ absurd (let k = at_stale arena side entry p mover e in omega arith)
      | moves e ↦ absurd (let k = at_own arena side entry p e in
          let l = own_above (free_codes arena side entry p) in omega arith)
      | waits e ↦ absurd (let k = at_other arena side entry p e in
          let l = chosen_above is_failure is_win (all_codes arena side entry p) in omega arith)
    ]

-- the entries tell the wins and failures within fewer plies than n
pub record TellBefore {M N V : Type 0} (arena : Arena M N V) (side : Colour) (n : ℕ)
    (entry : N → ℕ) : Type 0 where
  pub wins : (m : ℕ) (p : N) → m < n → WinsWithin arena side m p ↔ IsWinWithin m (entry p)
  pub fails : (m : ℕ) (p : N) → m < n → FailsWithin arena side m p ↔ IsFailureWithin m (entry p)

-- what comes at once or by moves is told by the codes, where each such step is
told_by_codes : {N : Type 0} (Within Moves : ℕ → N → Type 0) (Tells : ℕ → ℕ → Type 0) (code : N → ℕ)
    (n : ℕ) →
    ((m : ℕ) (p : N) → Within (suc m) p → Within m p ⊎ Moves m p) →
    ((m c : ℕ) → Tells m c → Tells (suc m) c) →
    ((p : N) → Within zero p → Tells zero (code p)) →
    ((m : ℕ) (p : N) → m < n → Moves m p → Tells (suc m) (code p)) →
    (m : ℕ) (p : N) → m ≤ n → Within m p → Tells m (code p)
told_by_codes Within Moves Tells code n split more at_once by_moves zero p l w = at_once p w
told_by_codes Within Moves Tells code n split more at_once by_moves (suc m) p l w =
    elim (split m p w) [
      | inl earlier ↦
          more m (code p) (told_by_codes Within Moves Tells code n split more at_once by_moves m p
          (omega arith) earlier)
      | inr step ↦ by_moves m p (omega arith) step
    ]

-- the local codes tell one ply more
module _ {M N V : Type 0} (arena : Arena M N V) (law : IsLawful arena) (side : Colour) (n : ℕ)
    (entry : N → ℕ) (before : TellBefore arena side n entry) where
  local_wins : (m : ℕ) (p : N) → m ≤ n → WinsWithin arena side m p
      → IsWinWithin m (local_code arena side entry p)
  local_wins =
      told_by_codes (WinsWithin arena side)
      (λ m. MovesToGood arena side (LeadsTo (WinsWithin arena side m) (IsGoodExit arena side m)))
      IsWinWithin (local_code arena side entry) n
      (λ m p w. w)
      (λ m c w. (w.0, omega (arith, w.1)))
      (λ p w. win_at zero _ _ (sym (at_mates arena side entry p w)) (refl, omega arith))
      (λ m p l. code_of_moves arena side entry m (WinsWithin arena side m)
      (λ q. (before.wins m q l).0) p)

  local_fails : (m : ℕ) (p : N) → m ≤ n → FailsWithin arena side m p
      → IsFailureWithin m (local_code arena side entry p)
  local_fails =
      told_by_codes (FailsWithin arena side)
      (λ m. MovesToBad arena side (LeadsTo (FailsWithin arena side m) (IsBadExit arena side)))
      IsFailureWithin (local_code arena side entry) n
      (λ m p f. f)
      (λ m c f. (f.0, omega (arith, f.1)))
      (λ p f. failure_at zero _ _ (sym (code_of_lost arena side entry p f)) (refl, omega arith))
      (λ m p l. code_of_bad_moves arena side entry m (FailsWithin arena side m)
      (λ q. (before.fails m q l).0) p)

  wins_local : (m : ℕ) (p : N) → m ≤ n → IsWinWithin m (local_code arena side entry p)
      → WinsWithin arena side m p
  wins_local zero p l w = mate_of_code arena law side entry p w
  wins_local (suc m) p l w =
      elim (moves_of_code arena law side entry m (WinsWithin arena side m)
      (λ q. (before.wins m q (omega arith)).1) p w) [
        | inl mate ↦ wins_later arena side zero (suc m) p (omega arith) mate
        | inr step ↦ inr step
      ]

  fails_local : (m : ℕ) (p : N) → m ≤ n → IsFailureWithin m (local_code arena side entry p)
      → FailsWithin arena side m p
  fails_local zero p l f = lost_of_code arena law side entry p f
  fails_local (suc m) p l f =
      elim (bad_moves_of_code arena law side entry m (FailsWithin arena side m)
      (λ q. (before.fails m q (omega arith)).1) p f) [
        | inl lost ↦ fails_at_once arena side (suc m) p lost
        | inr step ↦ inr step
      ]

  pub local_tells : TellBefore arena side (suc n) (local_code arena side entry)
  local_tells = record {
    wins = λ m p l. (local_wins m p (omega arith), wins_local m p (omega arith));
    fails = λ m p l. (local_fails m p (omega arith), fails_local m p (omega arith));
  }
