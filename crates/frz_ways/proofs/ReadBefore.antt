-- What was read after each ply until now, and in this turn.
use Rattle.std.proofs.Common.{◌≡◌, ◌<◌, ◌==◌, ℕ, inl, inr, Bool, true, false, List, Option, refl, arith, if◌then◌else◌, eq-eqb}
use Rattle.std.proofs.lemmas.Bool.Decides.{eqb_tells}
use Rattle.frz_ways.specs.Kept.{MayRead}

-- what was read until now, and in this turn
abbrev pub and_now : (ℕ → List ℕ) → (played : ℕ) → List ℕ → ℕ → List ℕ
and_now read played now k = if k == played then now else read k

pub read_now_is_now : (read : ℕ → List ℕ) (played : ℕ) (now : List ℕ)
    → and_now read played now played ≡ now
read_now_is_now read played now = let e = eq-eqb played played refl in rw e refl

pub read_before_stays : (read : ℕ → List ℕ) (played : ℕ) (now : List ℕ) (k : ℕ) → k < played
    → and_now read played now k ≡ read k
read_before_stays read played now k l =
    elim (eqb_tells k played) [
      | inl w ↦ absurd (let e = w.1 in omega (arith, e, l))
      | inr w ↦ rw w.0 refl
    ]

pub each_may_be_read : (known : Option (List ℕ)) (size : ℕ) (read : ℕ → List ℕ) (played : ℕ)
    (now : List ℕ)
    → ((k : ℕ) → MayRead known size (read k)) → MayRead known size now → (k : ℕ)
    → MayRead known size (and_now read played now k)
each_may_be_read known size read played now may this k = by_test (k == played)
  where
    by_test : (b : Bool) → MayRead known size (if b then now else read k)
    by_test true = this
    by_test false = may k
