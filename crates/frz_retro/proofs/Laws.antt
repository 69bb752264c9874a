-- What the laws of a graph give the solver.
use Rattle.std.proofs.Common.{◌≡◌, ◌↔◌, ℕ, Bool, zero, suc, ◌<◌, List, [], ◌∷◌, length, get_or, Some, refl, sym, ◌∙◌, ap, inl, inr, arith}
use Rattle.std.specs.List.{Contains, slice_get}
use Rattle.std.proofs.lemmas.Bool.{cases_lt}
use Rattle.std.proofs.lemmas.Option.{same_Some, slice_get_within, get_or_from_slice_get}
use Rattle.frz_board.specs.declared.man.Colour.{Colour}
use Rattle.frz_board.specs.Men.{same_colour}
use Rattle.frz_board.specs.Moving.{Step}
use Rattle.frz_sets.specs.declared.exit.Value.{Value}
use Rattle.frz_arena.specs.Arena.{Arena, IsArm}
use Rattle.frz_arena.specs.declared.node.Node.{Node}
use Rattle.frz_arena.specs.declared.node.Node.TheVariants.{Going}
use Rattle.frz_arena.specs.declared.arm.Next.TheVariants.{Inside, Outside}
use Rattle.frz_graph.specs.Finite.{IsFinite}
use Rattle.frz_unmove.specs.declared.preds.Pred.{Pred}
use Rattle.frz_unmove.specs.Pairs.{HaveDifferentNumbers}
use Rattle.frz_retro.specs.Graphs.{Arm, Next, IsMoveTo, HasDifferentArms, mover_of}
use Rattle.frz_retro.specs.Shape.{In, Apart, Differ, AreShort, IsGraph, ArePreds, shape_of}

-- the place of what is among a list
pub place_in : {X : Type 0} (xs : List X) (x : X) → In x xs → (k : ℕ) × (slice_get xs k ≡ Some x)
place_in [] x h = absurd h
place_in (y ∷ xs) x (inl s) = (zero, ap Some s)
place_in (y ∷ xs) x (inr t) = let p = place_in xs x t in (suc p.0, p.1)

pub in_at : {X : Type 0} (xs : List X) (k : ℕ) (x : X) → slice_get xs k ≡ Some x → In x xs
in_at [] k x e = absurd (cc)
in_at (y ∷ xs) zero x e = inl (same_Some y x e)
in_at (y ∷ xs) (suc k) x e = inr (in_at xs k x e)

pub contains_in : {X : Type 0} (xs : List X) (x : X) → In x xs → Contains xs x
contains_in xs x h =
    let p = place_in xs x h in
    (p.0, slice_get_within xs p.0 x p.1, get_or_from_slice_get xs p.0 x x p.1)

pub in_contains : {X : Type 0} (xs : List X) (x : X) → Contains xs x → In x xs
in_contains xs x h = within xs h.0 x h.1 h.2
  where
    within : {X : Type 0} (xs : List X) (k : ℕ) (x : X) → k < length xs → get_or xs k x ≡ x →
        In x xs
    within [] k x l e = absurd (omega (arith, l))
    within (y ∷ xs) zero x l e = inl e
    within (y ∷ xs) (suc k) x l e = inr (within xs k x (omega (arith, l)) e)

-- two places of a list whose elements are not alike
pub apart_places : {X : Type 0} (R : X → X → Type 0) (xs : List X) →
    ((k l : ℕ) (x y : X) → slice_get xs k ≡ Some x → slice_get xs l ≡ Some y → R x y → k ≡ l) →
    Apart (λ x y. R x y → ⊥) xs
apart_places R [] h = tt
apart_places R (x ∷ xs) h = (
  λ y i r. let p = place_in xs y i in let e = h zero (suc p.0) x y refl p.1 r in cc,
  apart_places R xs (λ k l y z a b r. let e = h (suc k) (suc l) y z a b r in omega (arith, e)),
)

next_short : (lags : ℕ → Type 0) (n : Next) → ((v : Value) → n ≡ Outside v → AreShort (Outside v)) →
    AreShort n
next_short lags (Inside q) h = tt
next_short lags (Outside v) h = h v refl

pub is_graph : {arena : Arena Step ℕ Value} {size : ℕ} → IsFinite arena size →
    HasDifferentArms arena → IsGraph (shape_of arena size)
is_graph {arena} f d = record {
  few = f.few;
  others = λ i a h. f.going i a (contains_in (arena.arms i) a h);
  apart = λ i. differ (arena.arms i) (λ q k l a b e g x y. d i k l q (a, e, x) (b, g, y));
  lags =
      λ i a h. next_short (λ _. Unit {0}) a.next
      (λ v e. f.lags i v a (contains_in (arena.arms i) a h) e);
}
  where
    differ : (xs : List Arm) →
        ((q k l : ℕ) (a b : Arm) → slice_get xs k ≡ Some a → slice_get xs l ≡ Some b
        → a.next ≡ Inside q → b.next ≡ Inside q → k ≡ l) → Apart Differ xs
    differ [] h = tt
    differ (x ∷ xs) h = (
      λ y i q e g. let p = place_in xs y i in let s = h q zero (suc p.0) x y refl p.1 e g in cc,
      differ xs (λ q k l a b e g x y. let s = h q (suc k) (suc l) a b e g x y in omega (arith, s)),
    )

pub are_preds : {arena : Arena Step ℕ Value} {size q : ℕ} {pairs : List Pred} →
    IsFinite arena size →
    ((i : ℕ) (m : Step) → Contains pairs (record { number = i; mv = m }) ↔ IsMoveTo arena i m q) →
    HaveDifferentNumbers pairs → ArePreds (shape_of arena size) q pairs
are_preds {arena} {size} {q} {pairs} f all once = record {
  sound = λ p h. let a = (all p.number p.mv).0 (contains_in pairs p h) in (
    below p.number a.0 a.1,
    record {
      arm = a.0;
      there = in_contains (arena.arms p.number) a.0 a.1;
      move = a.2;
      inside = a.3;
    },
  );
  whole =
      λ i a h e. in_contains pairs (record { number = i; mv = a.mv })
      ((all i a.mv).1 (a, contains_in (arena.arms i) a h, refl, e));
  once = apart_places (λ x y. x.number ≡ y.number) pairs once;
}
  where
    below : (i : ℕ) (a : Arm) → IsArm arena i a → i < size
    below i a h = let g = f.going i a h in elim (cases_lt i size) [
      | inl l ↦ l
      | inr l ↦ absurd (let e = f.numbered.past i l in cc)
    ]

-- whether the mover of a number is the side
pub own_is : {n : Node} {m : Colour} {own : Bool} (side : Colour) → mover_of n ≡ Some m →
    own ≡ same_colour m side → (c : Colour) → n ≡ Going c → own ≡ same_colour c side
own_is {m = m} side moves own c n =
    let s : Some c ≡ Some m = sym (ap mover_of n) ∙ moves in
    own ∙ ap (λ x. same_colour x side) (sym (same_Some c m s))
