-- The move of a number that was found or said, as an arm of the session's player.
use Rattle.std.proofs.Common.{◌≡◌, ◌<◌, ◌+◌, ℕ, zero, suc, inl, inr, true, false, List, [], ◌∷◌, Some, map, min, length, refl, sym, subst, ap, ◌∙◌, arith, get_or}
use Rattle.std.specs.Prelude.{slice_get, slice_index, ⊤}
use Rattle.std.specs.List.{list_any, filter}
use Rattle.std.proofs.lemmas.Bool.{cases_lt, cases_Bool}
use Rattle.std.proofs.lemmas.Option.{slice_get-map, get_or_from_slice_get}
use Rattle.frz_board.specs.declared.man.Colour.{Colour}
use Rattle.frz_board.specs.Moving.{Step}
use Rattle.frz_sets.specs.declared.exit.Value.{Value}
use Rattle.frz_arena.specs.declared.arm.Arm.{Arm}
use Rattle.frz_arena.specs.declared.arm.Next.TheVariants.{Inside}
use Rattle.frz_arena.specs.Codes.{is_failure}
use Rattle.frz_arena.specs.LocalCodes.{other_code, least}
use Rattle.frz_arena.proofs.Lemmas.{failure_more}
use Rattle.frz_graph.specs.EntryCodes.{arm_code, next_code}

-- the code that was read for a move is the one that the file keeps of where it leads
pub code_inside : (side : Colour) (kept : List ℕ) (arms : List (Arm Step ℕ Value)) (cs : List ℕ)
    → cs ≡ map (arm_code side kept) arms → (place : ℕ) (a : Arm Step ℕ Value)
    → slice_get arms place ≡ Some a → (n : ℕ) → a.next ≡ Inside n
    → slice_index kept n ≡ get_or cs place 0
code_inside side kept arms cs same place a there n leads =
    let m = slice_get-map (arm_code side kept) arms place in
    let image : slice_get (map (arm_code side kept) arms) place ≡ Some (arm_code side kept a) =
    rw (m, there) refl in
    let read : slice_get cs place ≡ Some (arm_code side kept a) = subst
    (λ (z : List ℕ). slice_get z place ≡ Some (arm_code side kept a)) (sym same) image in
    let code : arm_code side kept a ≡ slice_index kept n = ap (next_code side kept) leads in
    sym (get_or_from_slice_get cs place (arm_code side kept a) 0 read ∙ code)

min_fails : (a b : ℕ) → is_failure a ≡ true → is_failure b ≡ true → is_failure (min a b) ≡ true
min_fails a b h k =
    elim (cases_lt a b) [
      | inl l ↦ (let e : min a b ≡ a = omega (arith, l) in subst (λ c. is_failure c ≡ true)
          (sym e) h)
      | inr l ↦ (let e : min a b ≡ b = omega (arith, l) in subst (λ c. is_failure c ≡ true)
          (sym e) k)
    ]

abbrev AllFail : List ℕ → Type 0
AllFail [] = ⊤
AllFail (c ∷ cs) = (is_failure c ≡ true) × AllFail cs

least_fails : (c : ℕ) (cs : List ℕ) → is_failure c ≡ true → AllFail cs
    → is_failure (least (c ∷ cs)) ≡ true
least_fails c [] h all = h
least_fails c (d ∷ cs) h all = min_fails c (least (d ∷ cs)) h (least_fails d cs all.0 all.1)

failing_ones : (cs : List ℕ) → AllFail (filter is_failure cs)
failing_ones [] = tt
failing_ones (c ∷ cs) =
    elim (cases_Bool (is_failure c)) [
      | inl t ↦ rw t (t, failing_ones cs)
      | inr f ↦ rw f (failing_ones cs)
    ]

-- a code that fails among the codes
record SomeFails (cs : List ℕ) : Type 0 where
  pub first : ℕ
  pub others : List ℕ
  pub are : filter is_failure cs ≡ first ∷ others
  pub any : list_any is_failure cs ≡ true

some_fails : (cs : List ℕ) (i : ℕ) → i < length cs → is_failure (get_or cs i 0) ≡ true
    → SomeFails cs
some_fails [] i l t = absurd (omega arith)
some_fails (c ∷ cs) zero l t =
    record { first = c; others = filter is_failure cs; are = rw t refl; any = rw t refl }
some_fails (c ∷ cs) (suc i) l t =
    let h = some_fails cs i (omega arith) t in
    let are = h.are in
    let any = h.any in
    elim (cases_Bool (is_failure c)) [
      | inl y ↦ record {
        first = c;
        others = filter is_failure cs;
        are = rw y refl;
        any = rw y refl;
      }
      | inr n ↦ record { first = h.first; others = h.others; are = rw n are; any = rw n any }
    ]

-- where the opponent is to move and the code is no failure, no move of his leads to one
pub other_stands : (cs : List ℕ) (i : ℕ) → is_failure (other_code cs) ≡ false → i < length cs
    → is_failure (get_or cs i 0) ≡ false
other_stands cs i stands l =
    elim (cases_Bool (is_failure (get_or cs i 0))) [
      | inr f ↦ f
      | inl t ↦ (
          let h = some_fails cs i l t in
          let any = h.any in
          let all : AllFail (h.first ∷ h.others) = subst AllFail h.are (failing_ones cs) in
          let low : is_failure (least (filter is_failure cs)) ≡ true = subst
          (λ (z : List ℕ). is_failure (least z) ≡ true) (sym h.are)
          (least_fails h.first h.others all.0 all.1) in
          let code : other_code cs ≡ least (filter is_failure cs) + 2 = rw any refl in
          let fails : is_failure (other_code cs) ≡ true = subst (λ c. is_failure c ≡ true)
          (sym code) (failure_more (least (filter is_failure cs)) low) in
          absurd (cc))
    ]
