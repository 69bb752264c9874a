-- The moves as their mover sees them, one after the other.
use Rattle.std.proofs.Common.{◌≡◌, ◌<◌, ◌≤◌, ◌+◌, ◌||◌, ◌++◌, not, ℕ, zero, suc, Bool, List, [], ◌∷◌, refl, sym, ap, ◌∙◌, length, take, get_or, arith}
use Rattle.std.proofs.Math.ListN.{set}
use Rattle.std.proofs.lemmas.List.{take_all, take_more, take_more_set}
use Rattle.std.proofs.lemmas.Option.{slice_get_within, get_or_from_slice_get}
use Rattle.frz_board.specs.Moving.{Step}
use Rattle.frz_sets.specs.declared.exit.Value.{Value}
use Rattle.frz_arena.specs.declared.arm.Arm.{Arm}
use Rattle.frz_arena.specs.declared.choice.Choice.{Choice}
use Rattle.frz_arena.specs.Chosen.{IsFound}
use Rattle.frz_arena.specs.Choices.{has_code}
use Rattle.frz_arena.proofs.Lemmas.{found_at}
use Rattle.frz_ways.specs.SeenMoves.{choices_by}

pub length_choices : (own : Bool) (arms : List (Arm Step ℕ Value)) (cs : List ℕ)
    → length cs ≡ length arms → length (choices_by own arms cs) ≡ length arms
length_choices own [] cs e = refl
length_choices own (a ∷ arms) [] e = absurd (omega arith)
length_choices own (a ∷ arms) (c ∷ cs) e =
    (let h = length_choices own arms cs (omega arith) in omega (arith, h))

choice_at : (own : Bool) (arms : List (Arm Step ℕ Value)) (cs : List ℕ) (i : ℕ)
    (a : Arm Step ℕ Value) (d : Choice) → i < length arms → length cs ≡ length arms
    → get_or (choices_by own arms cs) i d
    ≡ record { allowed = not own || (get_or arms i a).free; code = get_or cs i 0 }
choice_at own [] cs i a d l e = absurd (omega arith)
choice_at own (b ∷ arms) [] i a d l e = absurd (omega arith)
choice_at own (b ∷ arms) (c ∷ cs) zero a d l e = refl
choice_at own (b ∷ arms) (c ∷ cs) (suc i) a d l e =
    choice_at own arms cs i a d (omega arith) (omega arith)

code_there : (own : Bool) (arms : List (Arm Step ℕ Value)) (cs : List ℕ) (i : ℕ) (x : Choice)
    → i < length arms → length cs ≡ length arms → get_or (choices_by own arms cs) i x ≡ x
    → x.code ≡ get_or cs i 0
code_there own [] cs i x l e is = absurd (omega arith)
code_there own (a ∷ arms) [] i x l e is = absurd (omega arith)
code_there own (a ∷ arms) (c ∷ cs) zero x l e is = ap (λ (z : Choice). z.code) (sym is)
code_there own (a ∷ arms) (c ∷ cs) (suc i) x l e is =
    code_there own arms cs i x (omega arith) (omega arith) is

-- one move more
pub choice_put : (own : Bool) (arms : List (Arm Step ℕ Value)) (cs : List ℕ) (into : List Choice)
    (i : ℕ) (a : Arm Step ℕ Value) (y : Choice) → i < length arms → length cs ≡ length arms
    → length into ≡ length arms → a ≡ get_or arms i a
    → y ≡ record { allowed = not own || a.free; code = get_or cs i 0 }
    → take i into ≡ take i (choices_by own arms cs)
    → take (i + 1) (set into i y) ≡ take (i + 1) (choices_by own arms cs)
choice_put own arms cs into i a y l e m here is done =
    let long = length_choices own arms cs e in
    let at = choice_at own arms cs i a y l e in
    let same : y ≡ get_or (choices_by own arms cs) i y = is
    ∙ (ap (λ (z : Arm Step ℕ Value).
    record { allowed = not own || z.free; code = get_or cs i 0 }) here ∙ sym at) in
    take_more_set into i y (omega arith)
    ∙ (ap (λ (xs : List Choice). xs ++ y ∷ []) done
    ∙ (ap (λ (z : Choice). take i (choices_by own arms cs) ++ z ∷ []) same
    ∙ sym (take_more (choices_by own arms cs) i y (omega arith))))

-- no move is left
pub filled_all : (own : Bool) (arms : List (Arm Step ℕ Value)) (cs : List ℕ) (into : List Choice)
    (i : ℕ) → length arms ≤ i → length cs ≡ length arms → length into ≡ length arms
    → take i into ≡ take i (choices_by own arms cs) → into ≡ choices_by own arms cs
filled_all own arms cs into i l e m done =
    let long = length_choices own arms cs e in
    sym (take_all i into (omega arith)) ∙ (done ∙ take_all i (choices_by own arms cs) (omega arith))

-- its code is the one that was read at its place
pub found_code : (own : Bool) (arms : List (Arm Step ℕ Value)) (cs : List ℕ) (won : Bool)
    (kept i : ℕ) (x : Choice) → length cs ≡ length arms
    → IsFound has_code won kept (choices_by own arms cs) i x → (i < length arms)
    × (x.code ≡ get_or cs i 0)
found_code own arms cs won kept i x e found =
    let there = found_at has_code won kept (choices_by own arms cs) i x found in
    let within = slice_get_within (choices_by own arms cs) i x there in
    let long = length_choices own arms cs e in
    let below : i < length arms = omega (arith, within, long) in (
      below,
      code_there own arms cs i x below e
          (get_or_from_slice_get (choices_by own arms cs) i x x there),
    )
