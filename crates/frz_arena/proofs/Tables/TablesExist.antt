-- There is a table of the bounds.
use Rattle.std.proofs.Common.{◌≡◌, ◌<◌, ℕ, zero, suc, inl, inr, List, [], ◌∷◌, length, refl, ap, arith}
use Rattle.std.specs.Prelude.{slice_index}
use Rattle.std.proofs.lemmas.Bool.{cases_lt}
use Rattle.frz_board.specs.declared.man.Colour.{Colour}
use Rattle.frz_arena.specs.Arena.{Arena, IsLawful}
use Rattle.frz_arena.specs.Plies.{LagsWithin}
use Rattle.frz_arena.specs.Codes.{code_of}
use Rattle.frz_arena.specs.Bounds.{IsCodeAt}
use Rattle.frz_arena.specs.Names.{IsNumbered, Numbering, IsNumbering, numbers_of}
use Rattle.frz_arena.specs.Tables.{IsTable}
use Rattle.frz_arena.proofs.LocalCodes.PlyCodes.{broken, mated, mates, stale, moves, waits, node_is}
use Rattle.frz_arena.proofs.LocalCodes.UniqueCodes.{codes_meet}
use Rattle.frz_arena.proofs.Bounds.OneBound.{bounds_are_codes}
use Rattle.frz_arena.proofs.Bounds.BoundsExist.{bound_exists}
use Rattle.frz_arena.proofs.Names.NumbersAreNames.{numbered_is, numbers_lawful}
use Rattle.frz_arena.proofs.Tables.OneTable.{none_past, exact_is_table}

-- one choice for each number below a size
pub record Listed (F : ℕ → ℕ → Type 0) (size : ℕ) : Type 0 where
  pub items : List ℕ
  pub many : length items ≡ size
  pub each : (i : ℕ) → i < size → F i (slice_index items i)

each_of_more : (F : ℕ → ℕ → Type 0) (size x : ℕ) (xs : List ℕ) → F zero x →
    ((i : ℕ) → i < size → F (suc i) (slice_index xs i)) → (i : ℕ) → i < suc size →
    F i (slice_index (x ∷ xs) i)
each_of_more F size x xs f h zero l = f
each_of_more F size x xs f h (suc i) l = h i (omega arith)

pub listed : (F : ℕ → ℕ → Type 0) → ((i : ℕ) → (c : ℕ) × F i c) → (size : ℕ) → Listed F size
listed F choice zero = record { items = []; many = refl; each = λ i l. absurd (omega arith) }
listed F choice (suc size) =
    let rest = listed (λ i. F (suc i)) (λ i. choice (suc i)) size in
    let first = choice zero in
    record {
      items = first.0 ∷ rest.items;
      many = ap suc rest.many;
      each = each_of_more F size first.0 rest.items first.1 rest.each;
    }

-- each number of a finite arena has a code
pub code_exists : {M V : Type 0} (arena : Arena M ℕ V) → IsLawful arena → (size : ℕ) →
    IsNumbered arena size → (side : Colour) (most : ℕ) → LagsWithin arena side most → (i : ℕ) →
    (c : ℕ) × IsCodeAt arena side i c
code_exists arena law size numbered side most lags i =
    let b = bound_exists arena law size numbered side most lags i in
    elim (node_is side (arena.node i)) [
      | broken e ↦ (0, inl (e, refl))
      | mated e ↦ (code_of b.0, inr (λ h. cc, (b.0, refl, b.1)))
      | mates e ↦ (code_of b.0, inr (λ h. cc, (b.0, refl, b.1)))
      | stale mover e ↦ (code_of b.0, inr (λ h. cc, (b.0, refl, b.1)))
      | moves e ↦ (code_of b.0, inr (λ h. cc, (b.0, refl, b.1)))
      | waits e ↦ (code_of b.0, inr (λ h. cc, (b.0, refl, b.1)))
    ]

pub table_exists : {M N V : Type 0} (numbers : Numbering N) (arena : Arena M N V) →
    IsNumbering numbers arena → IsLawful arena → (side : Colour) (most : ℕ) →
    LagsWithin (numbers_of numbers arena) side most →
    (codes : List ℕ) × IsTable numbers arena side codes
table_exists {M} {N} {V} numbers arena numbering law side most lags =
    let graph = numbers_of numbers arena in
    let lawful = numbers_lawful numbers arena law in
    let numbered = numbered_is numbers arena numbering in
    let r = listed (IsCodeAt graph side)
    (code_exists graph lawful numbers.size numbered side most lags) numbers.size in
    let entry : ℕ → ℕ = λ k. slice_index r.items k in
    let all : (i : ℕ) → IsCodeAt graph side i (entry i) = λ i.
    elim (cases_lt i numbers.size) [
      | inl l ↦ r.each i l
      | inr l ↦ inl (numbered.past i l, (let m = r.many in none_past r.items i (omega arith)))
    ] in
    let eqs = codes_meet graph lawful side entry (bounds_are_codes graph side entry all) in (
      r.items,
      exact_is_table numbers arena numbering law side r.items
          (record { many = r.many; local = λ i h. eqs i }),
    )
