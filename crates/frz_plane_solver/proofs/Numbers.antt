-- Planes joined and cut, as sets of numbers.
use Rattle.std.proofs.Common.{◌≡◌, ◌↔◌, ◌⊎◌, ◌∙◌, ◌<◌, ◌&&◌, ◌||◌, not, ℕ, Bool, true, false, List, inl, inr, refl, sym}
use Rattle.frz_planes.specs.Planes.{IsPlaneOf, has_pair}
use Rattle.frz_plane_game.specs.Spots.{AreSpots, HasNumbers, Spots}

both_without : (x y : Bool) → (x && not y) ≡ true → (x ≡ true) × (y ≡ false)
both_without true true e = absurd cc
both_without true false e = (refl, refl)
both_without false y e = absurd cc

without_both : (x y : Bool) → x ≡ true → (y ≡ true → ⊥) → (x && not y) ≡ true
without_both true true e is_not = absurd (is_not refl)
without_both true false e is_not = refl
without_both false y e is_not = absurd cc

either_of : (x y : Bool) → (x || y) ≡ true → (x ≡ true) ⊎ (y ≡ true)
either_of true y e = inl refl
either_of false y e = inr e

of_either : (x y : Bool) → (x ≡ true) ⊎ (y ≡ true) → (x || y) ≡ true
of_either true y e = refl
of_either false y (inl e) = absurd cc
of_either false y (inr e) = e

-- the same numbers, told by another fact
pub same_numbers : (spots : Spots) (c : ℕ) (plane : List ℕ) (P Q : ℕ → Type 0) →
    ((i : ℕ) → i < spots.numbers → (spots.at i).configuration ≡ c → P i ↔ Q i) →
    HasNumbers spots c plane P → HasNumbers spots c plane Q
same_numbers spots c plane P Q both has = record {
  there = λ i l e. (
    λ t. (both i l e).0 ((has.there i l e).0 t),
    λ q. (has.there i l e).1 ((both i l e).1 q),
  );
  only = has.only;
}

pub numbers_without : (spots : Spots) → AreSpots spots → (c : ℕ) (p q r : List ℕ)
    (P Q : ℕ → Type 0) →
    HasNumbers spots c p P → HasNumbers spots c q Q →
    IsPlaneOf r (λ a b. has_pair p a b && not (has_pair q a b)) →
    HasNumbers spots c r (λ i. P i × (Q i → ⊥))
numbers_without spots are c p q r P Q one other plane = record {
  there = λ i l e. (
      let a = (spots.at i).white in
      let b = (spots.at i).black in
      let is : has_pair r a b ≡ (has_pair p a b && not (has_pair q a b)) =
      plane a b (are.white i l) (are.black i l) in (
        λ t. (
            let both = both_without (has_pair p a b) (has_pair q a b) (sym is ∙ t) in (
              (one.there i l e).0 both.0,
              λ k. (let is_so = (other.there i l e).1 k in let is_not = both.1 in cc),
            )),
        λ both. is ∙ without_both (has_pair p a b) (has_pair q a b) ((one.there i l e).1 both.0)
            (λ t. both.1 ((other.there i l e).0 t)),
      ));
  only = λ a b m n t. one.only a b m n
      (both_without (has_pair p a b) (has_pair q a b) (sym (plane a b m n) ∙ t)).0;
}

pub numbers_joined : (spots : Spots) → AreSpots spots → (c : ℕ) (p q r : List ℕ)
    (P Q : ℕ → Type 0) →
    HasNumbers spots c p P → HasNumbers spots c q Q →
    IsPlaneOf r (λ a b. has_pair p a b || has_pair q a b) →
    HasNumbers spots c r (λ i. P i ⊎ Q i)
numbers_joined spots are c p q r P Q one other plane = record {
  there = λ i l e. (
      let a = (spots.at i).white in
      let b = (spots.at i).black in
      let is : has_pair r a b ≡ (has_pair p a b || has_pair q a b) =
      plane a b (are.white i l) (are.black i l) in (
        λ t. elim (either_of (has_pair p a b) (has_pair q a b) (sym is ∙ t)) [
          | inl x ↦ inl ((one.there i l e).0 x)
          | inr y ↦ inr ((other.there i l e).0 y)
        ],
        λ k. is ∙ of_either (has_pair p a b) (has_pair q a b) (elim k [
          | inl x ↦ inl ((one.there i l e).1 x)
          | inr y ↦ inr ((other.there i l e).1 y)
        ]),
      ));
  only = λ a b m n t. elim
      (either_of (has_pair p a b) (has_pair q a b) (sym (plane a b m n) ∙ t)) [
        | inl x ↦ one.only a b m n x
        | inr y ↦ other.only a b m n y
      ];
}

pub numbers_none : (spots : Spots) → AreSpots spots → (c : ℕ) (r : List ℕ) (P : ℕ → Type 0) →
    ((i : ℕ) → i < spots.numbers → (spots.at i).configuration ≡ c → P i → ⊥) →
    IsPlaneOf r (λ a b. false) → HasNumbers spots c r P
numbers_none spots are c r P none plane = record {
  there = λ i l e. (
    λ t. (let is_not = plane (spots.at i).white (spots.at i).black (are.white i l) (are.black i l) in
        absurd cc),
    λ p. absurd (none i l e p),
  );
  only = λ a b m n t. (let is_not = plane a b m n in absurd cc);
}
