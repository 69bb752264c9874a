-- The place that the codes ask for among the moves as the mover sees them is that of the arm.
use Rattle.std.proofs.Common.{◌≡◌, ◌<◌, ◌-◌, ℕ, inl, inr, Bool, true, false, List, Option, Some, None, map, refl, sym, ap, ◌∙◌}
use Rattle.std.specs.Prelude.{slice_get}
use Rattle.std.proofs.lemmas.Option.{slice_get-map}
use Rattle.frz_board.specs.declared.man.Colour.{Colour}
use Rattle.frz_arena.specs.declared.choice.Choice.{Choice}
use Rattle.frz_arena.specs.declared.arm.Arm.{Arm}
use Rattle.frz_arena.specs.Arena.{Arena}
use Rattle.frz_arena.specs.Codes.{is_win}
use Rattle.frz_arena.specs.Choices.{has_code, choice_of}
use Rattle.frz_arena.specs.Chosen.{IsFirst, IsFound, is_candidate, IsChosen}
use Rattle.frz_arena.proofs.LocalCodes.PlyCodes.{mapped_in}

mapped_at : {X Y : Type 0} (f : X → Y) (xs : List X) (i : ℕ) (x : X) → slice_get xs i ≡ Some x →
    slice_get (map f xs) i ≡ Some (f x)
mapped_at f xs i x e = let m = slice_get-map f xs i in rw (m, e) refl

pub from_mapped_at : {X Y : Type 0} (f : X → Y) (xs : List X) (i : ℕ) (y : Y) →
    slice_get (map f xs) i ≡ Some y → (o : Option X) → slice_get xs i ≡ o →
    (x : X) × (slice_get xs i ≡ Some x) × (f x ≡ y)
from_mapped_at f xs i y e None h =
    absurd (let m = slice_get-map f xs i in let g : slice_get (map f xs) i ≡ None =
    rw (m, h) refl in cc)
from_mapped_at f xs i y e (Some x) h = (x, h, (let m = mapped_at f xs i x h in cc))

first_mapped : {X Y : Type 0} (f : X → Y) (test : X → Bool) (seen : Y → Bool) →
    ((x : X) → seen (f x) ≡ test x) → (xs : List X) (i : ℕ) (y : Y) → IsFirst seen (map f xs) i y →
    (x : X) × IsFirst test xs i x
first_mapped {X} f test seen same xs i y h =
    let r = from_mapped_at f xs i y h.here (slice_get xs i) refl in
    let passes : test r.0 ≡ true = sym (same r.0) ∙ (ap seen r.2 ∙ h.passes) in
    let before : (j : ℕ) (z : X) → j < i → slice_get xs j ≡ Some z
    → test z ≡ false = λ j z l e. sym (same z) ∙ h.before j (f z) l (mapped_at f xs j z e) in
    (r.0, record { here = r.1; passes = passes; before = before })

found_mapped : {X Y : Type 0} (f : X → Y) (test : ℕ → X → Bool) (seen : ℕ → Y → Bool) →
    ((c : ℕ) (x : X) → seen c (f x) ≡ test c x) →
    (won : Bool) (c : ℕ) (xs : List X) (i : ℕ) (y : Y) → IsFound seen won c (map f xs) i y →
    (x : X) × IsFound test won c xs i x
found_mapped f test seen same true c xs i y h =
    first_mapped f (test (c - 2)) (seen (c - 2)) (same (c - 2)) xs i y h
found_mapped f test seen same false c xs i y (inl h) =
    let r = first_mapped f (test 1) (seen 1) (same 1) xs i y h in (r.0, inl r.1)
found_mapped f test seen same false c xs i y (inr h) =
    let r = first_mapped f (test 0) (seen 0) (same 0) xs i y h.1 in
    (r.0, inr (λ x j. sym (same 1 x) ∙ h.0 (f x) (mapped_in f xs x j), r.1))

-- the chosen arm
pub choice_is_arm : {M N V : Type 0} (arena : Arena M N V) (side : Colour) (entry : N → ℕ)
    (mover : Colour) (p : N) (i : ℕ) (y : Choice) → IsFound has_code (is_win (entry p)) (entry p)
    (map (choice_of arena side entry mover) (arena.arms p)) i y → (a : Arm M N V)
    × IsChosen arena side entry mover p i a
choice_is_arm arena side entry mover p i y h =
    found_mapped (choice_of arena side entry mover) (is_candidate arena side entry mover) has_code
    (λ c x. refl) (is_win (entry p)) (entry p) (arena.arms p) i y h
