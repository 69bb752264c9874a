-- Notes of numbers, and the greatest of their codes.
use Rattle.std.proofs.Common.{◌≡◌, ◌≢◌, ℕ, ◌+◌, ◌<◌, ◌≤◌, ◌⊎◌, Bool, true, false, cond, List, get_or, get_or-set_other, get_or-set_same, length, length-set, slice_set, sym, ◌∙◌, ap, refl, subst, arith, inl, inr}
use Rattle.std.specs.Prelude.{max, nat_lt}
use Rattle.std.proofs.lemmas.Bool.{cases_eq, cases_lt}
use Rattle.std.proofs.lemmas.Bool.Decides.{nat_tests}
use Rattle.frz_board.specs.Men.{same_colour}
use Rattle.frz_board.specs.Moving.{Step}
use Rattle.frz_board.specs.declared.man.Colour.{Colour}
use Rattle.frz_sets.specs.declared.exit.Value.{Value}
use Rattle.frz_arena.specs.Arena.{Arena}
use Rattle.frz_arena.specs.declared.node.Node.TheVariants.{Going}
use Rattle.frz_retro.specs.Beginning.{Opens, later_of, start_of}
use Rattle.frz_retro.specs.Graphs.{Arm}
use Rattle.frz_retro.specs.Notes.{AreNoted, IsNoteOf, Notes, entry_in, later_in}
use Rattle.frz_retro.specs.State.{IsLater}
use Rattle.frz_retro.specs.Tallies.{IsGreatest}
use Rattle.frz_retro.proofs.Starts.{opens_from}

-- a code of an open number
read_early : (code : ℕ) → code ≡ 1 → (entry_in code ≡ 1) × (later_in code ≡ 0)
read_early code e =
    let test : nat_lt code 4 ≡ true = grind (arith, nat_tests) in
    (ap (λ t. cond t code 1) test ∙ e, ap (λ t. cond t 0 code) test)

read_late : (code later : ℕ) → 4 ≤ later → code ≡ later →
    (entry_in code ≡ 1) × (later_in code ≡ later)
read_late code later high e =
    let test : nat_lt code 4 ≡ false = grind (arith, nat_tests) in
    (ap (λ t. cond t code 1) test, ap (λ t. cond t 0 code) test ∙ e)

read_open : (own : Bool) (side : Colour) (arms : List Arm) (code later : ℕ) →
    IsLater own side arms later → (later ≡ 0 → code ≡ 1) → (1 ≤ later → code ≡ later) →
    (entry_in code ≡ 1) × (later_in code ≡ later)
read_open own side arms code later h none some = elim h.met [
  | inl z ↦ let r = read_early code (none z) in (r.0, r.1 ∙ sym z)
  | inr x ↦
      let low = x.5 in
      let is = x.6 in
      read_late code later (omega (arith, low, is)) (some (omega (arith, low, is)))
]

-- the note of a number that begins open
pub open_note : (own : Bool) (side : Colour) (arms : List Arm) (c : Colour) (count code : ℕ) →
    own ≡ same_colour c side → (start_of own side arms).any ≡ true →
    count ≡ (start_of own side arms).count →
    (later_of (start_of own side arms) ≡ 0 → code ≡ 1) →
    (1 ≤ later_of (start_of own side arms) → code ≡ later_of (start_of own side arms)) →
    code ≤ 2004 → IsNoteOf side (Going c) arms count code
open_note own side arms c count code w any counted none some short =
    let o = opens_from own side arms (entry_in code)
    (read_open own side arms code (later_of (start_of own side arms))
    (opens_from own side arms 1 refl any).exits none some).0 any in
    let r = read_open own side arms code (later_of (start_of own side arms)) o.exits none some in
    let mine : Opens own side arms (entry_in code) count (later_in code) = record {
      open_ = r.0;
      some = o.some;
      counter = counted ∙ o.counter;
      exits = subst (IsLater own side arms) (sym r.1) o.exits;
    } in
    record {
      begun = inl (subst (λ x. Opens x side arms (entry_in code) count (later_in code)) w mine);
      ended = λ g. absurd (g c refl);
      short = short;
    }

-- one more note
pub noted_next : (arena : Arena Step ℕ Value) (size : ℕ) (side : Colour) (i : ℕ) (notes : Notes)
    (count code : ℕ) → i < size → AreNoted arena size side i notes →
    IsNoteOf side (arena.node i) (arena.arms i) count code →
    AreNoted arena size side (i + 1)
    (record { counts = slice_set notes.counts i count; codes = slice_set notes.codes i code })
noted_next arena size side i notes count code l h here =
    let counts = h.room.counts in
    let codes = h.room.codes in
    record {
      room = record {
        counts = length-set notes.counts i count ∙ counts;
        codes = length-set notes.codes i code ∙ codes;
      };
      each = λ j m. elim (cases_eq j i) [
        | inl e ↦
            let d : get_or (slice_set notes.counts i count) i 0 ≡ count =
            get_or-set_same notes.counts i count 0 (omega (arith, counts, l)) in
            let f : get_or (slice_set notes.codes i code) i 0 ≡ code =
            get_or-set_same notes.codes i code 0 (omega (arith, codes, l)) in
            subst (λ k. IsNoteOf side (arena.node k) (arena.arms k)
            (get_or (slice_set notes.counts i count) k 0)
            (get_or (slice_set notes.codes i code) k 0)) (sym e) (rw (d, f) here)
        | inr n ↦
            let d = get_or-set_other notes.counts i j count 0 n in
            let f = get_or-set_other notes.codes i j code 0 n in
            rw (d, f) (h.each j (omega (arith, m, n)))
      ];
    }

-- no number has begun
pub greatest_none : (L : List ℕ) → IsGreatest L 0 0
greatest_none L =
    record { last = λ j h. absurd (omega (arith, h)); reached = inl refl; short = omega arith }

-- one number more
module _ (L : List ℕ) (i top next x : ℕ) (room : i < length L) (is : next ≡ max x top)
    (small : x ≤ 2004) (h : IsGreatest L i top) where
  abbrev M : List ℕ
  M = slice_set L i x

  here : get_or M i 0 ≡ x
  here = get_or-set_same L i x 0 room

  others : (j : ℕ) → j ≢ i → get_or M j 0 ≡ get_or L j 0
  others j n = get_or-set_other L i j x 0 n

  last_next : (j : ℕ) → j < i + 1 → get_or M j 0 ≤ next
  last_next j l = elim (cases_eq j i) [
    | inl e ↦ let y = ap (λ k. get_or M k 0) e in omega (arith, y, here, is)
    | inr n ↦
        let y = others j n in let z = h.last j (omega (arith, l, n)) in omega (arith, y, z, is)
  ]

  reached_next : (next ≡ top) ⊎ (next ≡ x) →
      (top ≡ 0) ⊎ ((j : ℕ) × (j < i) × (get_or L j 0 ≡ top)) →
      (next ≡ 0) ⊎ ((j : ℕ) × (j < i + 1) × (get_or M j 0 ≡ next))
  reached_next (inr e) r = inr (i, omega arith, here ∙ sym e)
  reached_next (inl e) (inl z) = inl (e ∙ z)
  reached_next (inl e) (inr r) =
      let l = r.1 in
      inr (r.0, omega (arith, l), others r.0 (omega (arith, l)) ∙ r.2 ∙ sym e)

  -- the greater one is one of both
  one_of : (next ≡ top) ⊎ (next ≡ x)
  one_of = elim (cases_lt top x) [
    | inl l ↦ inr (omega (arith, is, l))
    | inr l ↦ inl (omega (arith, is, l))
  ]

  pub greatest_next : IsGreatest M (i + 1) next
  greatest_next = record {
    last = last_next;
    reached = reached_next one_of h.reached;
    short = let short = h.short in omega (arith, is, small, short);
  }

pub later_small : (code : ℕ) → later_in code ≤ code
later_small code = of_test (nat_lt code 4)
  where
    of_test : (t : Bool) → cond t 0 code ≤ code
    of_test true = omega arith
    of_test false = omega arith
