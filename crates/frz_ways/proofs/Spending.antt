-- What is spent at one number and then at others.
use Rattle.std.proofs.Common.{◌≡◌, ◌≤◌, ◌+◌, ◌*◌, ◌++◌, ℕ, List, [], ◌∷◌, refl, sym, subst, ap, ◌∙◌, arith, append_assoc, length-append}
use Rattle.std.proofs.lemmas.List.Sums.{sum_by-append, sum_by-cons}
use Rattle.frz_board.specs.Moving.{Step}
use Rattle.frz_sets.specs.declared.exit.Value.{Value}
use Rattle.frz_store.specs.Outside.{IsNext}
use Rattle.frz_store.specs.Told.{StoreTold}
use Rattle.frz_answer.specs.World.{Spent, spent_by}
use Rattle.frz_arena.specs.declared.arm.Next.{Next}
use Rattle.frz_arena.specs.declared.arm.Next.TheVariants.{Inside}
use Rattle.frz_arena.specs.Arena.{Arena}
use Rattle.frz_arena.specs.Ways.{Ply}
use Rattle.frz_ways.specs.Costs.{arms_reads, reads_at, way_numbers, Spends, SpendsAt}

-- the codes read at some numbers and then at others, or at one number
reads_more : (arena : Arena Step ℕ Value) (xs ys : List ℕ)
    → reads_at arena (xs ++ ys) ≡ reads_at arena xs + reads_at arena ys
reads_more arena xs ys = sum_by-append (λ n. arms_reads (arena.arms n)) xs ys

reads_one : (arena : Arena Step ℕ Value) (number : ℕ)
    → reads_at arena (number ∷ []) ≡ arms_reads (arena.arms number) + 0
reads_one arena number = sum_by-cons (λ n. arms_reads (arena.arms n)) number []

pub nothing_spent : (arena : Arena Step ℕ Value) (at : Spent) → SpendsAt arena 0 [] at at
nothing_spent arena at = record { stepped = omega arith; called = omega arith; asked = omega arith }

pub spends_at_one : (arena : Arena Step ℕ Value) (number : ℕ) {before now : Spent}
    → now.asked ≤ before.asked + 4 * arms_reads (arena.arms number)
    → now.calls ≤ before.calls + arms_reads (arena.arms number)
    → now.steps ≤ before.steps + 1 → SpendsAt arena 0 (number ∷ []) before now
spends_at_one arena number asked calls step =
    let one = reads_one arena number in
    record {
      stepped = omega (arith, step);
      called = omega (arith, calls, one);
      asked = omega (arith, asked, one);
    }

pub spends_on : (arena : Arena Step ℕ Value) (xs ys : List ℕ) (before mid now : Spent)
    → SpendsAt arena 0 xs before mid → SpendsAt arena 0 ys mid now
    → SpendsAt arena 0 (xs ++ ys) before now
spends_on arena xs ys before mid now first next =
    let reads = reads_more arena xs ys in
    let long = length-append xs ys in
    record {
      stepped = (let a = first.stepped in let b = next.stepped in omega (arith, long, a, b));
      called = (let a = first.called in let b = next.called in omega (arith, reads, a, b));
      asked = (let a = first.asked in let b = next.asked in omega (arith, reads, a, b));
    }

-- what was spent at some numbers is no more than what may be spent at more
spends_less : (arena : Arena Step ℕ Value) (xs ys : List ℕ) (before now : Spent)
    → SpendsAt arena 0 xs before now → SpendsAt arena 0 (xs ++ ys) before now
spends_less arena xs ys before now spent =
    let reads = reads_more arena xs ys in
    let long = length-append xs ys in
    record {
      stepped = (let a = spent.stepped in omega (arith, long, a));
      called = (let a = spent.called in omega (arith, reads, a));
      asked = (let a = spent.asked in omega (arith, reads, a));
    }

-- a way that is at a number comes to it
comes_here : (at : ℕ × ℕ) (plies : List (Ply Step (ℕ × ℕ) Value)) → (others : List ℕ)
    × (way_numbers (Inside at) plies ≡ at.1 ∷ others)
comes_here at [] = ([], refl)
comes_here at (x ∷ plies) = (way_numbers x.arm.next plies, refl)

-- a way that went by some numbers, and was at one when it stopped
pub spends_last : (arena : Arena Step ℕ Value) (xs : List ℕ) (played number : ℕ)
    (plies : List (Ply Step (ℕ × ℕ) Value)) (whole : List ℕ) (before mid now : Spent)
    → xs ++ way_numbers (Inside (played, number)) plies ≡ whole
    → SpendsAt arena 0 xs before mid → SpendsAt arena 0 (number ∷ []) mid now
    → SpendsAt arena 0 whole before now
spends_last arena xs played number plies whole before mid now are first last =
    let here = comes_here (played, number) plies in
    let all : (xs ++ number ∷ []) ++ here.0 ≡ whole = append_assoc xs (number ∷ []) here.0
    ∙ (ap (λ (l : List ℕ). xs ++ l) (sym here.1) ∙ are) in
    subst (λ (l : List ℕ). SpendsAt arena 0 l before now) all
    (spends_less arena (xs ++ number ∷ []) here.0 before now
    (spends_on arena xs (number ∷ []) before mid now first last))

-- a way that went by some numbers goes on behind this one, by its first ply
pub came_on : (xs : List ℕ) (played number : ℕ) (next : ℕ × ℕ)
    (plies others : List (Ply Step (ℕ × ℕ) Value)) (first : Ply Step (ℕ × ℕ) Value)
    (whole : List ℕ) → xs ++ way_numbers (Inside (played, number)) plies ≡ whole
    → plies ≡ first ∷ others → first.arm.next ≡ Inside next
    → (xs ++ number ∷ []) ++ way_numbers (Inside next) others ≡ whole
came_on xs played number next plies others first whole came are to =
    let on : way_numbers (Inside (played, number)) plies ≡ number ∷ way_numbers (Inside next) others
    =
    ap (way_numbers (Inside (played, number))) are
    ∙ ap (λ (z : Next (ℕ × ℕ) Value). number ∷ way_numbers z others) to in
    append_assoc xs (number ∷ []) (way_numbers (Inside next) others)
    ∙ (ap (λ (l : List ℕ). xs ++ l) (sym on) ∙ came)

next_is_one_more : (old new : ℕ) → IsNext old new → new ≤ old + 1
next_is_one_more old new next = (let n = next.next in omega (arith, n))

-- the code of one number was read
pub code_read : (old new : StoreTold) (steps : ℕ) → new.asked ≤ old.asked + 4
    → IsNext old.calls new.calls → Spends 1 0 (spent_by old steps) (spent_by new steps)
code_read old new steps few next =
    record {
      stepped = omega arith;
      called = next_is_one_more old.calls new.calls next;
      asked = omega (arith, few);
    }

pub read_alone : (arena : Arena Step ℕ Value) (numbers : List ℕ) (before now : Spent)
    → Spends 1 0 before now → SpendsAt arena 1 numbers before now
read_alone arena numbers before now read = record {
  stepped = (let a = read.stepped in omega (arith, a));
  called = (let a = read.called in omega (arith, a));
  asked = (let a = read.asked in omega (arith, a));
}

pub read_first : (arena : Arena Step ℕ Value) (numbers : List ℕ) (before mid now : Spent)
    → Spends 1 0 before mid → SpendsAt arena 0 numbers mid now → SpendsAt arena 1 numbers before now
read_first arena numbers before mid now read then = record {
  stepped = (let a = read.stepped in let b = then.stepped in omega (arith, a, b));
  called = (let a = read.called in let b = then.called in omega (arith, a, b));
  asked = (let a = read.asked in let b = then.asked in omega (arith, a, b));
}
