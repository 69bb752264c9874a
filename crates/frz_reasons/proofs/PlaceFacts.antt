-- The place of a move that is found by its code.
use Rattle.std.proofs.Common.{◌≡◌, ◌<◌, ℕ, Bool, true, false, List, length, ap, ◌∙◌, get_or, slice_index}
use Rattle.std.proofs.lemmas.Option.{slice_get_within, get_or_from_slice_get}
use Rattle.frz_board.specs.Moving.{Step}
use Rattle.frz_sets.specs.declared.exit.Value.{Value}
use Rattle.frz_arena.specs.declared.arm.Arm.{Arm}
use Rattle.frz_reasons.specs.Places.{is_one, IsOneAt}

pub not_at_this_place : (own : Bool) (code : ℕ) (arms : List (Arm Step ℕ Value)) (cs : List ℕ)
    (k : ℕ)
    (a : Arm Step ℕ Value) → a ≡ get_or arms k a
    → is_one own a.free code (slice_index cs k) ≡ false → IsOneAt own code arms cs k → ⊥
not_at_this_place own code arms cs k a is fails h =
    let same : a ≡ h.arm = is ∙ get_or_from_slice_get arms k h.arm a h.here in
    let passes : is_one own a.free code (slice_index cs k) ≡ true =
    ap (λ (x : Arm Step ℕ Value). is_one own x.free code (slice_index cs k)) same ∙ h.passes in
    cc

pub place_below_length : (own : Bool) (code : ℕ) (arms : List (Arm Step ℕ Value)) (cs : List ℕ)
    (k : ℕ)
    → IsOneAt own code arms cs k → k < length arms
place_below_length own code arms cs k h = slice_get_within arms k h.arm h.here
