-- The codes of the free moves among those of all moves.
use Rattle.std.proofs.Common.{◌≡◌, ◌<◌, ◌+◌, ◌++◌, ◌||◌, not, ℕ, zero, suc, Bool, true, false, List, [], ◌∷◌, map, refl, sym, subst, ap, ◌∙◌, if◌then◌else◌, inl, inr, length, take, get_or, arith, add-one, append-nil}
use Rattle.std.specs.List.{filter}
use Rattle.std.proofs.lemmas.Bool.{cases_Bool}
use Rattle.std.proofs.lemmas.List.{take_more}
use Rattle.frz_board.specs.Moving.{Step}
use Rattle.frz_exits.specs.Value.{Value}
use Rattle.frz_arena.specs.declared.arm.Arm.{Arm}
use Rattle.frz_arena.specs.declared.best.Best.{Best}
use Rattle.frz_arena.specs.Best.{IsBest}
use Rattle.frz_graph.specs.FreeCodes.{counted_codes, free_among}

-- where the codes are those of the moves
pub free_mapped : (code : Arm Step ℕ Value → ℕ) (arms : List (Arm Step ℕ Value)) →
    free_among arms (map code arms) ≡ map code (filter (λ a. a.free) arms)
free_mapped code [] = refl
free_mapped code (x ∷ xs) =
    elim (cases_Bool x.free) [
      | inl t ↦ rw (t, free_mapped code xs) refl
      | inr f ↦ rw (f, free_mapped code xs) refl
    ]

-- one move more
free_push : (arms : List (Arm Step ℕ Value)) (cs : List ℕ) (i : ℕ) (a : Arm Step ℕ Value) →
    i < length arms → length arms ≡ length cs →
    free_among (take (suc i) arms) (take (suc i) cs)
    ≡ free_among (take i arms) (take i cs)
    ++ (if (get_or arms i a).free then get_or cs i 0 ∷ [] else [])
free_push [] cs i a h e = absurd (omega arith)
free_push (b ∷ arms) [] i a h e = absurd (omega arith)
free_push (b ∷ arms) (c ∷ cs) zero a h e = refl
free_push (b ∷ arms) (c ∷ cs) (suc i) a h e =
    let k = free_push arms cs i a (omega arith) (omega arith) in
    elim (cases_Bool b.free) [
      | inl t ↦ (rw t (ap (λ xs. c ∷ xs) k))
      | inr f ↦ (rw f k)
    ]

free_next : (arms : List (Arm Step ℕ Value)) (cs : List ℕ) (i : ℕ) (a : Arm Step ℕ Value) →
    i < length arms → length arms ≡ length cs →
    free_among (take (i + 1) arms) (take (i + 1) cs)
    ≡ free_among (take i arms) (take i cs)
    ++ (if (get_or arms i a).free then get_or cs i 0 ∷ [] else [])
free_next arms cs i a h e = rw add-one (free_push arms cs i a h e)

-- one move more among those that count
counted_next : (own : Bool) (arms : List (Arm Step ℕ Value)) (cs : List ℕ) (i : ℕ)
    (a : Arm Step ℕ Value) → i < length arms → length arms ≡ length cs →
    counted_codes own (take (i + 1) arms) (take (i + 1) cs)
    ≡ counted_codes own (take i arms) (take i cs)
    ++ (if not own || (get_or arms i a).free then get_or cs i 0 ∷ [] else [])
counted_next true arms cs i a h e = free_next arms cs i a h e
counted_next false arms cs i a h e = take_more cs i 0 (omega arith)

-- the best of those that count, with this move if it counts
pub best_counted : (own : Bool) (arms : List (Arm Step ℕ Value)) (cs : List ℕ) (i : ℕ)
    (a : Arm Step ℕ Value) (test : Bool) (best : Best) →
    a ≡ get_or arms i a → i < length arms → length arms ≡ length cs →
    test ≡ (not own || a.free) → test ≡ true →
    IsBest own (counted_codes own (take i arms) (take i cs) ++ get_or cs i 0 ∷ []) best →
    IsBest own (counted_codes own (take (i + 1) arms) (take (i + 1) cs)) best
best_counted own arms cs i a test best here h e tells t is =
    subst (λ xs. IsBest own xs best)
    (sym (counted_next own arms cs i a h e
    ∙ (rw (← here, ← tells, t) refl))) is

pub best_passed : (own : Bool) (arms : List (Arm Step ℕ Value)) (cs : List ℕ) (i : ℕ)
    (a : Arm Step ℕ Value) (test : Bool) (best : Best) →
    a ≡ get_or arms i a → i < length arms → length arms ≡ length cs →
    test ≡ (not own || a.free) → test ≡ false →
    IsBest own (counted_codes own (take i arms) (take i cs)) best →
    IsBest own (counted_codes own (take (i + 1) arms) (take (i + 1) cs)) best
best_passed own arms cs i a test best here h e tells f is =
    subst (λ xs. IsBest own xs best)
    (sym (counted_next own arms cs i a h e
    ∙ (rw (← here, ← tells, f) (append-nil (counted_codes own (take i arms) (take i cs)))))) is
