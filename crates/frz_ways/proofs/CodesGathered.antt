-- Codes that were read for the moves of a number, as the codes of a side.
use Rattle.std.proofs.Common.{◌≡◌, ◌<◌, ◌+◌, ◌^◌, ◌++◌, ℕ, zero, suc, inl, inr, List, [], ◌∷◌, length, map, replicate, take, Option, Some, None, IfSome, refl, sym, subst, ap, ◌∙◌, arith, lit<, slice_index, slice_set, get_or, get_or-set_same, get_or-set_other, length-set}
use Rattle.std.specs.List.{All}
use Rattle.std.specs.Prelude.{Result, Ok, Err, OnOk}
use Rattle.std.proofs.lemmas.Bool.Decides.{eqb_tells}
use Rattle.std.proofs.lemmas.List.{length-replicate, get_or-replicate, take_more}
use Rattle.std.proofs.lemmas.List.Elements.{All-head, All-tail}
use Rattle.frz_board.specs.declared.man.Colour.{Colour}
use Rattle.frz_board.specs.Moving.{Step}
use Rattle.frz_sets.specs.declared.exit.Value.{Value}
use Rattle.frz_store.specs.declared.outside.StoreFault.{StoreFault}
use Rattle.frz_arena.specs.declared.arm.Arm.{Arm}
use Rattle.frz_arena.specs.declared.arm.Next.{Next}
use Rattle.frz_arena.specs.declared.arm.Next.TheVariants.{Inside, Outside}
use Rattle.frz_arena.specs.Arena.{LeadsInside}
use Rattle.frz_graph.specs.EntryCodes.{arm_code, next_code, IsWithin}
use Rattle.frz_table.specs.Numbers.{AreNumbers}
use Rattle.frz_ways.specs.Kept.{MayRead}
use Rattle.frz_ways.specs.Reads.{IsCodeFor, AreCodesFor, AreApart}

pub small_codes : (n code : ℕ) → code < 2 ^ 32 → AreNumbers (replicate n code)
small_codes zero code small i = lit< tt
small_codes (suc n) code small zero = small
small_codes (suc n) code small (suc i) = small_codes n code small i

-- some codes that may be read
pub any_read : (known : Option (List ℕ)) (size : ℕ) → (codes : List ℕ) × MayRead known size codes
any_read None size = (replicate size 0, (length-replicate size 0, small_codes size 0 (lit< tt)))
any_read (Some told) size = (told, refl)

-- some codes that may be read, with this code at one number
pub start_read : (known : Option (List ℕ)) (size start code : ℕ) → start < size → code < 2 ^ 32
    → IfSome known (λ codes. slice_index codes start ≡ code)
    → (codes : List ℕ) × MayRead known size codes × (slice_index codes start ≡ code)
start_read None size start code l small h = (
  replicate size code,
  (length-replicate size code, small_codes size code small),
  get_or-replicate size start code 0 l,
)
start_read (Some told) size start code l small h = (told, refl, h)

-- one code more, where a move leads inside
abbrev pub put_code : Next ℕ Value → (code : ℕ) → List ℕ → List ℕ
put_code (Inside number) code kept = slice_set kept number code
put_code (Outside v) code kept = kept

abbrev pub gathered : (size : ℕ) → List (Arm Step ℕ Value) → List ℕ → List ℕ
gathered size [] cs = replicate size 0
gathered size (a ∷ arms) [] = replicate size 0
gathered size (a ∷ arms) (c ∷ cs) = put_code a.next c (gathered size arms cs)

put_long : (x : Next ℕ Value) (c : ℕ) (kept : List ℕ) → length (put_code x c kept) ≡ length kept
put_long (Inside n) c kept = rw length-set refl
put_long (Outside v) c kept = refl

gathered_long : (size : ℕ) (arms : List (Arm Step ℕ Value)) (cs : List ℕ)
    → length (gathered size arms cs) ≡ size
gathered_long size [] cs = length-replicate size 0
gathered_long size (a ∷ arms) [] = length-replicate size 0
gathered_long size (a ∷ arms) (c ∷ cs) =
    put_long a.next c (gathered size arms cs) ∙ gathered_long size arms cs

set_small : (kept : List ℕ) (n c : ℕ) → n < length kept → c < 2 ^ 32 → AreNumbers kept
    → AreNumbers (slice_set kept n c)
set_small kept n c l small all i =
    elim (eqb_tells i n) [
      | inl w ↦ subst (λ z. z < 2 ^ 32)
          (sym (ap (λ z. slice_index (slice_set kept n c) z) w.1 ∙ get_or-set_same kept n c 0 l))
          small
      | inr w ↦ subst (λ z. z < 2 ^ 32) (sym (get_or-set_other kept n i c 0 w.1)) (all i)
    ]

put_small : (side : Colour) (x : Next ℕ Value) (c : ℕ) (kept : List ℕ) → IsWithin (length kept) x
    → IsCodeFor side x c → AreNumbers kept → AreNumbers (put_code x c kept)
put_small side (Inside n) c kept within for all = set_small kept n c within for all
put_small side (Outside v) c kept within for all = all

gathered_small : (side : Colour) (size : ℕ) (arms : List (Arm Step ℕ Value)) (cs : List ℕ)
    → All (λ a. IsWithin size a.next) arms → AreCodesFor side arms cs
    → AreNumbers (gathered size arms cs)
gathered_small side size [] cs all for = small_codes size 0 (lit< tt)
gathered_small side size (a ∷ arms) [] all for = small_codes size 0 (lit< tt)
gathered_small side size (a ∷ arms) (c ∷ cs) all for =
    let within : Arm Step ℕ Value → Type 0 = λ b. IsWithin size b.next in
    put_small side a.next c (gathered size arms cs)
    (subst (λ n. IsWithin n a.next) (sym (gathered_long size arms cs))
    (All-head within a arms all)) for.0
    (gathered_small side size arms cs (All-tail within a arms all) for.1)

head_code : (side : Colour) (x : Next ℕ Value) (c : ℕ) (kept : List ℕ) → IsWithin (length kept) x
    → IsCodeFor side x c → next_code side (put_code x c kept) x ≡ c
head_code side (Inside n) c kept within for = get_or-set_same kept n c 0 within
head_code side (Outside v) c kept within for = sym for

other_code : (side : Colour) (x : Next ℕ Value) (c : ℕ) (kept : List ℕ) (y : Next ℕ Value)
    → ((n : ℕ) → x ≡ Inside n → y ≡ Inside n → ⊥)
    → next_code side (put_code x c kept) y ≡ next_code side kept y
other_code side (Outside v) c kept y apart = refl
other_code side (Inside n) c kept (Outside v) apart = refl
other_code side (Inside n) c kept (Inside m) apart =
    get_or-set_other kept n m c 0 (λ e. apart n refl (ap Inside e))

other_codes : (side : Colour) (x : Next ℕ Value) (c : ℕ) (kept : List ℕ)
    (arms : List (Arm Step ℕ Value))
    → ((k n : ℕ) → x ≡ Inside n → LeadsInside arms k n → ⊥)
    → map (arm_code side (put_code x c kept)) arms ≡ map (arm_code side kept) arms
other_codes side x c kept [] none = refl
other_codes side x c kept (b ∷ arms) none =
    let here = other_code side x c kept b.next (λ n e f. none 0 n e (b, refl, f)) in
    let rest = other_codes side x c kept arms (λ k n e l. none (suc k) n e l) in
    ap (λ (z : ℕ). z ∷ map (arm_code side (put_code x c kept)) arms) here
    ∙ ap (λ (zs : List ℕ). arm_code side kept b ∷ zs) rest

gathered_is : (side : Colour) (size : ℕ) (arms : List (Arm Step ℕ Value)) (cs : List ℕ)
    → All (λ a. IsWithin size a.next) arms → AreApart arms → AreCodesFor side arms cs
    → cs ≡ map (arm_code side (gathered size arms cs)) arms
gathered_is side size [] [] all apart for = refl
gathered_is side size [] (c ∷ cs) all apart for = absurd for
gathered_is side size (a ∷ arms) [] all apart for = absurd for
gathered_is side size (a ∷ arms) (c ∷ cs) all apart for =
    let within : Arm Step ℕ Value → Type 0 = λ b. IsWithin size b.next in
    let kept = gathered size arms cs in
    let rest = gathered_is side size arms cs (All-tail within a arms all)
    (λ k l n f g. let z = apart (suc k) (suc l) n f g in omega (arith, z)) for.1 in
    let here = head_code side a.next c kept
    (subst (λ n. IsWithin n a.next) (sym (gathered_long size arms cs))
    (All-head within a arms all)) for.0 in
    let others = other_codes side a.next c kept arms
    (λ k n e l. let z = apart 0 (suc k) n (a, refl, e) l in omega (arith, z)) in
    ap (λ (z : ℕ). z ∷ cs) (sym here)
    ∙ ap (λ (zs : List ℕ). arm_code side (put_code a.next c kept) a ∷ zs) (rest ∙ sym others)

-- the codes that were read for the moves of a number are those of some codes that may be read
pub gathered_codes_may_be_read : (known : Option (List ℕ)) (side : Colour) (size : ℕ)
    (arms : List (Arm Step ℕ Value))
    (cs : List ℕ) → All (λ a. IsWithin size a.next) arms → AreApart arms
    → AreCodesFor side arms cs → IfSome known (λ kept. cs ≡ map (arm_code side kept) arms)
    → (kept : List ℕ) × MayRead known size kept × (cs ≡ map (arm_code side kept) arms)
gathered_codes_may_be_read None side size arms cs all apart for h = (
  gathered size arms cs,
  (gathered_long size arms cs, gathered_small side size arms cs all for),
  gathered_is side size arms cs all apart for,
)
gathered_codes_may_be_read (Some told) side size arms cs all apart for h = (told, refl, h)

-- the same where they were read
pub gather_read : {T : Type 0} (result : Result T StoreFault) (known : Option (List ℕ))
    (side : Colour) (size : ℕ) (arms : List (Arm Step ℕ Value)) (cs : List ℕ)
    → All (λ a. IsWithin size a.next) arms → AreApart arms
    → OnOk result (AreCodesFor side arms cs)
    → OnOk result (IfSome known (λ kept. cs ≡ map (arm_code side kept) arms))
    → OnOk result ((kept : List ℕ) × MayRead known size kept
    × (cs ≡ map (arm_code side kept) arms))
gather_read (Ok x) known side size arms cs all apart for h =
    gathered_codes_may_be_read known side size arms cs all apart for h
gather_read (Err fault) known side size arms cs all apart for h = tt

-- one move more
pub codes_more : (side : Colour) (arms : List (Arm Step ℕ Value)) (cs : List ℕ)
    (a : Arm Step ℕ Value) (c : ℕ) → AreCodesFor side arms cs → IsCodeFor side a.next c
    → AreCodesFor side (arms ++ a ∷ []) (cs ++ c ∷ [])
codes_more side [] [] a c for one = (one, tt)
codes_more side [] (d ∷ cs) a c for one = absurd for
codes_more side (b ∷ arms) [] a c for one = absurd for
codes_more side (b ∷ arms) (d ∷ cs) a c for one = (for.0, codes_more side arms cs a c for.1 one)

pub codes_next : (side : Colour) (arms : List (Arm Step ℕ Value)) (cs new : List ℕ) (i : ℕ)
    (a d : Arm Step ℕ Value) (c : ℕ) → a ≡ get_or arms i d → i < length arms
    → AreCodesFor side (take i arms) cs → IsCodeFor side a.next c → new ≡ cs ++ c ∷ []
    → AreCodesFor side (take (i + 1) arms) new
codes_next side arms cs new i a d c there within for one is =
    let more : take (i + 1) arms ≡ take i arms ++ a ∷ [] =
    take_more arms i d within
    ∙ ap (λ (z : Arm Step ℕ Value). take i arms ++ z ∷ []) (sym there) in
    subst (λ (z : List ℕ). AreCodesFor side (take (i + 1) arms) z) (sym is)
    (subst (λ (z : List (Arm Step ℕ Value)). AreCodesFor side z (cs ++ c ∷ [])) (sym more)
    (codes_more side (take i arms) cs a c for one))
