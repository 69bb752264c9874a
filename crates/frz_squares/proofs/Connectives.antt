-- What tests made of others say.
use Rattle.std.proofs.Common.{◌≡◌, ◌≢◌, ℕ, Bool, true, false, ◌||◌, not, ◌⊎◌, inl, inr, refl}
use Rattle.std.specs.Prelude.{◌==◌}
use Rattle.std.proofs.lemmas.Bool.Decides.{eqb_tells}

pub either_or : (x y : Bool) → (x ≡ true) ⊎ (y ≡ true) → (x || y) ≡ true
either_or x y (inl h) = rw h
either_or true y (inr h) = refl
either_or false y (inr h) = h

-- a test of the form 'if x then y'
pub implied : (x y : Bool) → (not x || y) ≡ true → x ≡ true → y ≡ true
implied true y h e = h
implied false y h e = cc

pub implies : (x y : Bool) → (x ≡ true → y ≡ true) → (not x || y) ≡ true
implies true y h = h refl
implies false y h = refl

pub not_same : (a b : ℕ) → not (a == b) ≡ true → a ≢ b
not_same a b h =
    elim (eqb_tells a b) [ inl w ↦ (let e = w.0 in absurd cc) | inr w ↦ w.1 ]

pub same_not : (a b : ℕ) → a ≢ b → not (a == b) ≡ true
same_not a b h =
    elim (eqb_tells a b) [ inl w ↦ absurd (h w.1) | inr w ↦ rw w.0 ]
