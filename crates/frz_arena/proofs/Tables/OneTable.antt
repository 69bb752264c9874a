-- A table over numbers tells the bounds at positions.
use Rattle.std.proofs.Common.{◌≡◌, ◌≤◌, ◌<◌, ◌+◌, ◌*◌, ℕ, inl, inr, List, length, sym, subst, ap, ◌∙◌, arith}
use Rattle.std.specs.Prelude.{slice_index}
use Rattle.std.proofs.lemmas.Bool.{cases_lt}
use Rattle.std.proofs.lemmas.List.{get_or_past, ext_get_or}
use Rattle.frz_board.specs.declared.man.Colour.{Colour}
use Rattle.frz_arena.specs.Arena.{Arena, IsLawful}
use Rattle.frz_arena.specs.Plies.{LagsWithin}
use Rattle.frz_arena.specs.Codes.{code_of}
use Rattle.frz_arena.specs.Bounds.{IsBound, IsCodeAt}
use Rattle.frz_arena.specs.LocalCodes.{MeetsEquations}
use Rattle.frz_arena.specs.Names.{IsNumbered, Numbering, IsNumbering, name_by, node_at, numbers_of, name_in}
use Rattle.frz_arena.specs.Tables.{IsExact, IsTable}
use Rattle.frz_arena.proofs.Plies.FewPlies.{entries_small}
use Rattle.frz_arena.proofs.LocalCodes.PlyCodes.{at_broken}
use Rattle.frz_arena.proofs.LocalCodes.UniqueCodes.{solution_is_codes, codes_meet}
use Rattle.frz_arena.proofs.Bounds.OneBound.{codes_of_bounds, bounds_are_codes, one_bound}
use Rattle.frz_arena.proofs.Names.SameUnderNames.{same_bounds}
use Rattle.frz_arena.proofs.Names.NumbersAreNames.{numbered_is, numbers_lawful, naming_node, naming}
use Rattle.frz_arena.proofs.Lists.Members.{cases_Option}

pub none_past : (codes : List ℕ) (i : ℕ) → length codes ≤ i → slice_index codes i ≡ 0
none_past codes i h = get_or_past codes i 0 h

pub exact_meets : {M V : Type 0} (arena : Arena M ℕ V) (side : Colour) (size : ℕ) →
    IsNumbered arena size → (codes : List ℕ) → IsExact arena side size codes →
    MeetsEquations arena side (λ k. slice_index codes k)
exact_meets arena side size numbered codes exact i =
    elim (cases_lt i size) [
      | inl h ↦ exact.local i h
      | inr h ↦ (let m = exact.many in none_past codes i (omega arith)
          ∙ sym (at_broken arena side (λ k. slice_index codes k) i (numbered.past i h)))
    ]

pub exact_codes : {M V : Type 0} (arena : Arena M ℕ V) → IsLawful arena →
    (side : Colour) (size : ℕ) → IsNumbered arena size → (codes : List ℕ) →
    IsExact arena side size codes → (i : ℕ) → IsCodeAt arena side i (slice_index codes i)
exact_codes arena law side size numbered codes exact =
    codes_of_bounds arena side (λ k. slice_index codes k)
    (solution_is_codes arena law side (λ k. slice_index codes k)
    (exact_meets arena side size numbered codes exact))

-- an exact table is the table of the bounds
pub exact_is_table : {M N V : Type 0} (numbers : Numbering N) (arena : Arena M N V) →
    IsNumbering numbers arena → IsLawful arena → (side : Colour) (codes : List ℕ) →
    IsExact (numbers_of numbers arena) side numbers.size codes → IsTable numbers arena side codes
exact_is_table {M} {N} {V} numbers arena numbering law side codes exact =
    let entry : ℕ → ℕ = λ k. slice_index codes k in
    let eqs = exact_meets (numbers_of numbers arena) side numbers.size
    (numbered_is numbers arena numbering) codes exact in
    let all = codes_of_bounds (numbers_of numbers arena) side entry
    (solution_is_codes (numbers_of numbers arena) (numbers_lawful numbers arena law) side entry
    eqs) in
    record {
      many = exact.many;
      broken = λ i h e. eqs i
          ∙ at_broken (numbers_of numbers arena) side entry i (ap (node_at arena) e);
      bound = λ p i e.
          (let n : name_by numbers.size (numbers.number p) ≡ i = ap (name_by numbers.size) e in
          let k = naming_node numbers arena numbering p in
          elim (all i) [
            | inl h ↦
                absurd (numbering.there p i e
                (sym k ∙ (ap (λ j. node_at arena (numbers.at j)) n ∙ h.0)))
            | inr h ↦ (
              h.1.0,
              h.1.1,
              (same_bounds (name_in numbers) arena (numbers_of numbers arena)
                  (naming numbers arena numbering) side p h.1.0).1
                  (subst (λ j. IsBound (numbers_of numbers arena) side j h.1.0) (sym n) h.1.2),
            )
          ]);
    }

-- the table of the bounds is exact
pub table_is_exact : {M N V : Type 0} (numbers : Numbering N) (arena : Arena M N V) →
    IsNumbering numbers arena → IsLawful arena → (side : Colour) (codes : List ℕ) →
    IsTable numbers arena side codes → IsExact (numbers_of numbers arena) side numbers.size codes
table_is_exact {M} {N} {V} numbers arena numbering law side codes table =
    let entry : ℕ → ℕ = λ k. slice_index codes k in
    let zero_past : (i : ℕ) → numbers.size ≤ i
    → entry i ≡ 0 = λ i h. (let m = table.many in none_past codes i (omega arith)) in
    let all : (i : ℕ) → IsCodeAt (numbers_of numbers arena) side i (entry i) = λ i.
    elim (cases_Option (numbers.at i)) [
      | inl e ↦ inl (
        ap (node_at arena) e,
        elim (cases_lt i numbers.size) [ inl l ↦ table.broken i l e | inr l ↦ zero_past i l ],
      )
      | inr r ↦ (
          let e = numbering.number_at r.0 i r.1 in
          let b = table.bound r.0 i e in
          let n : name_by numbers.size (numbers.number r.0) ≡ i = ap (name_by numbers.size) e in
          inr (
            λ h. numbering.there r.0 i e (sym (ap (node_at arena) r.1) ∙ h),
            (
              b.0,
              b.1,
              subst (λ j. IsBound (numbers_of numbers arena) side j b.0) n
                  ((same_bounds (name_in numbers) arena (numbers_of numbers arena)
                  (naming numbers arena numbering) side r.0 b.0).0 b.2),
            ),
          ))
    ] in
    let eqs = codes_meet (numbers_of numbers arena) (numbers_lawful numbers arena law) side entry
    (bounds_are_codes (numbers_of numbers arena) side entry all) in
    record { many = table.many; local = λ i h. eqs i }

same_entry : {M N V : Type 0} (numbers : Numbering N) (arena : Arena M N V) →
    IsNumbering numbers arena → (side : Colour) (codes others : List ℕ) →
    IsTable numbers arena side codes → IsTable numbers arena side others → (i : ℕ) →
    i < numbers.size → slice_index codes i ≡ slice_index others i
same_entry numbers arena numbering side codes others one two i h =
    elim (cases_Option (numbers.at i)) [
      | inl e ↦ one.broken i h e ∙ sym (two.broken i h e)
      | inr r ↦ (
          let e = numbering.number_at r.0 i r.1 in
          let a = one.bound r.0 i e in
          let b = two.bound r.0 i e in
          a.1 ∙ (ap code_of (one_bound arena side r.0 a.0 b.0 a.2 b.2) ∙ sym b.1))
    ]

-- there is one table
pub one_table : {M N V : Type 0} (numbers : Numbering N) (arena : Arena M N V) →
    IsNumbering numbers arena → (side : Colour) (codes others : List ℕ) →
    IsTable numbers arena side codes → IsTable numbers arena side others → codes ≡ others
one_table numbers arena numbering side codes others one two =
    ext_get_or 0 codes others (one.many ∙ sym two.many)
    (λ i h. same_entry numbers arena numbering side codes others one two i
    (let m = one.many in omega arith))

-- each bound has at most as many plies as the size and the greatest lag
pub plies_small : {M N V : Type 0} (numbers : Numbering N) (arena : Arena M N V) →
    IsNumbering numbers arena → IsLawful arena → (side : Colour) (most : ℕ) →
    LagsWithin (numbers_of numbers arena) side most → (codes : List ℕ) →
    IsExact (numbers_of numbers arena) side numbers.size codes → (i : ℕ) →
    slice_index codes i ≤ 3 + 2 * (numbers.size + most)
plies_small numbers arena numbering law side most lags codes exact i =
    entries_small (numbers_of numbers arena) (numbers_lawful numbers arena law) numbers.size
    (numbered_is numbers arena numbering) side most lags (λ k. slice_index codes k)
    (exact_meets (numbers_of numbers arena) side numbers.size (numbered_is numbers arena numbering)
    codes exact) i
