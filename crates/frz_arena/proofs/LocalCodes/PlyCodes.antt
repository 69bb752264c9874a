-- A position's local code against the moves of one ply.
use Rattle.std.proofs.Common.{◌≡◌, ◌≢◌, ◌≤◌, ◌+◌, ◌*◌, ℕ, inl, inr, true, List, [], ◌∷◌, map, refl, subst, arith, if◌then◌else◌}
use Rattle.std.specs.List.{Contains, filter}
use Rattle.frz_board.specs.declared.man.Colour.{Colour}
use Rattle.frz_board.specs.declared.man.Colour.TheVariants.{White, Black}
use Rattle.frz_arena.specs.declared.class.Class.{Class}
use Rattle.frz_arena.specs.declared.class.Class.TheVariants.{Good, Safe, Bad}
use Rattle.frz_board.specs.Men.{other_of, same_colour}
use Rattle.frz_arena.specs.declared.node.Node.{Node}
use Rattle.frz_arena.specs.declared.node.Node.TheVariants.{Broken, Mate, Stalemate, Going}
use Rattle.frz_arena.specs.declared.arm.Arm.{Arm}
use Rattle.frz_arena.specs.declared.arm.Next.{Next}
use Rattle.frz_arena.specs.declared.arm.Next.TheVariants.{Inside, Outside}
use Rattle.frz_arena.specs.Arena.{Arena, IsArm, IsLawful}
use Rattle.frz_arena.specs.Plies.{LeadsTo, IsGoodExit, IsBadExit}
use Rattle.frz_arena.specs.Codes.{is_win, is_failure, exit_code, IsWinWithin, IsFailureWithin}
use Rattle.frz_arena.specs.LocalCodes.{free_codes, all_codes, next_code, own_code, other_code, local_code}
use Rattle.frz_arena.proofs.Lists.Members.{none_in_empty, first_in, later_in, in_cases}
use Rattle.frz_arena.proofs.LocalCodes.ChosenCodes.{wins_first, failures_first, win_of, win_and_failure, chosen_sought, chosen_least, chosen_shunned, chosen_all, kept_in, from_kept}

pub mapped_in : {X Y : Type 0} (f : X → Y) (xs : List X) (x : X) → Contains xs x →
    Contains (map f xs) (f x)
mapped_in f [] x h = absurd (none_in_empty x h)
mapped_in f (y ∷ xs) x h =
    elim (in_cases y xs x h) [
      | inl e ↦ subst (λ z. Contains (f y ∷ map f xs) (f z)) e (first_in (f y) (map f xs))
      | inr i ↦ later_in (f y) (map f xs) (f x) (mapped_in f xs x i)
    ]

pub from_mapped : {X Y : Type 0} (f : X → Y) (xs : List X) (w : Y) → Contains (map f xs) w →
    (x : X) × Contains xs x × (f x ≡ w)
from_mapped f [] w h = absurd (none_in_empty w h)
from_mapped f (y ∷ xs) w h =
    elim (in_cases (f y) (map f xs) w h) [
      | inl e ↦ (y, first_in y xs, e)
      | inr i ↦ (let r = from_mapped f xs w i in (r.0, later_in y xs r.0 r.1, r.2))
    ]

good_code : (n lag : ℕ) (c : Class) → c ≡ Good → lag ≤ n → IsWinWithin n (exit_code c lag)
good_code n lag Good e h = (win_of lag, omega arith)
good_code n lag Safe e h = absurd (cc)
good_code n lag Bad e h = absurd (cc)

code_good : (n lag : ℕ) (c : Class) → IsWinWithin n (exit_code c lag) → (c ≡ Good) × (lag ≤ n)
code_good n lag Good h = (refl, omega (arith, h.1))
code_good n lag Safe h = absurd (let k = h.0 in cc)
code_good n lag Bad h = absurd (let k = h.0 in cc)

bad_code : (n lag : ℕ) (c : Class) → c ≡ Bad → IsFailureWithin n (exit_code c lag)
bad_code n lag Good e = absurd (cc)
bad_code n lag Safe e = absurd (cc)
bad_code n lag Bad e = (refl, omega arith)

code_bad : (n lag : ℕ) (c : Class) → IsFailureWithin n (exit_code c lag) → c ≡ Bad
code_bad n lag Good h = absurd (win_and_failure (2 + 2 * lag) (win_of lag) h.0)
code_bad n lag Safe h = absurd (let k = h.0 in cc)
code_bad n lag Bad h = refl

pub code_of_good : {M N V : Type 0} (arena : Arena M N V) (side : Colour) (entry : N → ℕ) (n : ℕ)
    (P : N → Type 0) → ((q : N) → P q → IsWinWithin n (entry q)) → (x : Next N V)
    → LeadsTo P (IsGoodExit arena side n) x → IsWinWithin n (next_code arena side entry x)
code_of_good arena side entry n P h (Inside q) g = h q g
code_of_good arena side entry n P h (Outside v) g =
    good_code n (arena.lag v) (arena.class v side) g.0 g.1

pub good_of_code : {M N V : Type 0} (arena : Arena M N V) (side : Colour) (entry : N → ℕ) (n : ℕ)
    (P : N → Type 0) → ((q : N) → IsWinWithin n (entry q) → P q) → (x : Next N V)
    → IsWinWithin n (next_code arena side entry x) → LeadsTo P (IsGoodExit arena side n) x
good_of_code arena side entry n P h (Inside q) g = h q g
good_of_code arena side entry n P h (Outside v) g = code_good n (arena.lag v) (arena.class v side) g

pub code_of_bad : {M N V : Type 0} (arena : Arena M N V) (side : Colour) (entry : N → ℕ) (n : ℕ)
    (P : N → Type 0) → ((q : N) → P q → IsFailureWithin n (entry q)) → (x : Next N V)
    → LeadsTo P (IsBadExit arena side) x → IsFailureWithin n (next_code arena side entry x)
code_of_bad arena side entry n P h (Inside q) g = h q g
code_of_bad arena side entry n P h (Outside v) g = bad_code n (arena.lag v) (arena.class v side) g

pub bad_of_code : {M N V : Type 0} (arena : Arena M N V) (side : Colour) (entry : N → ℕ) (n : ℕ)
    (P : N → Type 0) → ((q : N) → IsFailureWithin n (entry q) → P q) → (x : Next N V)
    → IsFailureWithin n (next_code arena side entry x) → LeadsTo P (IsBadExit arena side) x
bad_of_code arena side entry n P h (Inside q) g = h q g
bad_of_code arena side entry n P h (Outside v) g = code_bad n (arena.lag v) (arena.class v side) g

-- what a position is to a side
pub data NodeIs (side : Colour) (x : Node) : Type 0 where
  broken : x ≡ Broken → NodeIs side x
  mated : x ≡ Mate side → NodeIs side x
  mates : x ≡ Mate (other_of side) → NodeIs side x
  stale : (mover : Colour) → x ≡ Stalemate mover → NodeIs side x
  moves : x ≡ Going side → NodeIs side x
  waits : x ≡ Going (other_of side) → NodeIs side x

pub node_is : (side : Colour) (x : Node) → NodeIs side x
node_is side Broken = broken refl
node_is White (Mate White) = mated refl
node_is White (Mate Black) = mates refl
node_is Black (Mate White) = mates refl
node_is Black (Mate Black) = mated refl
node_is side (Stalemate mover) = stale mover refl
node_is White (Going White) = moves refl
node_is White (Going Black) = waits refl
node_is Black (Going White) = waits refl
node_is Black (Going Black) = moves refl

same_side : (side : Colour) (x y : ℕ) → (if same_colour side side then x else y) ≡ x
same_side White x y = refl
same_side Black x y = refl

other_side : (side : Colour) (x y : ℕ) → (if same_colour (other_of side) side then x else y) ≡ y
other_side White x y = refl
other_side Black x y = refl

pub at_broken : {M N V : Type 0} (arena : Arena M N V) (side : Colour) (entry : N → ℕ) (p : N) →
    arena.node p ≡ Broken → local_code arena side entry p ≡ 0
at_broken arena side entry p e = rw e refl

pub at_mated : {M N V : Type 0} (arena : Arena M N V) (side : Colour) (entry : N → ℕ) (p : N) →
    arena.node p ≡ Mate side → local_code arena side entry p ≡ 3
at_mated arena side entry p e = rw e (same_side side 3 2)

pub at_mates : {M N V : Type 0} (arena : Arena M N V) (side : Colour) (entry : N → ℕ) (p : N) →
    arena.node p ≡ Mate (other_of side) → local_code arena side entry p ≡ 2
at_mates arena side entry p e = rw e (other_side side 3 2)

pub at_stale : {M N V : Type 0} (arena : Arena M N V) (side : Colour) (entry : N → ℕ) (p : N)
    (mover : Colour) → arena.node p ≡ Stalemate mover → local_code arena side entry p ≡ 1
at_stale arena side entry p mover e = rw e refl

pub at_own : {M N V : Type 0} (arena : Arena M N V) (side : Colour) (entry : N → ℕ) (p : N) →
    arena.node p ≡ Going side →
    local_code arena side entry p ≡ own_code (free_codes arena side entry p)
at_own arena side entry p e = rw e (same_side side _ _)

pub at_other : {M N V : Type 0} (arena : Arena M N V) (side : Colour) (entry : N → ℕ) (p : N) →
    arena.node p ≡ Going (other_of side) →
    local_code arena side entry p ≡ other_code (all_codes arena side entry p)
at_other arena side entry p e = rw e (other_side side _ _)

-- own moves
pub own_win : (cs : List ℕ) → is_win (own_code cs) ≡ true →
    (w : ℕ) × Contains cs w × (is_win w ≡ true) × (own_code cs ≡ w + 2)
own_win [] h = absurd (cc)
own_win (c ∷ cs) h = chosen_sought wins_first c cs h

pub own_win_from : (cs : List ℕ) (w : ℕ) → Contains cs w → is_win w ≡ true →
    (is_win (own_code cs) ≡ true) × (own_code cs ≤ w + 2)
own_win_from [] w i h = absurd (none_in_empty w i)
own_win_from (c ∷ cs) w i h = chosen_least wins_first (c ∷ cs) w i h

pub own_failure : (cs : List ℕ) → is_failure (own_code cs) ≡ true → (x : ℕ) → Contains cs x →
    (is_failure x ≡ true) × (x + 2 ≤ own_code cs)
own_failure [] h x i = absurd (none_in_empty x i)
own_failure (c ∷ cs) h x i = chosen_shunned wins_first (c ∷ cs) h x i

pub own_failure_from : (cs : List ℕ) (m : ℕ) → 1 ≤ m →
    ((x : ℕ) → Contains cs x → (is_failure x ≡ true) × (x ≤ m)) →
    (is_failure (own_code cs) ≡ true) × (own_code cs ≤ m + 2)
own_failure_from [] m l h = (refl, omega arith)
own_failure_from (c ∷ cs) m l h = chosen_all wins_first c cs m h

-- the opponent's moves
pub other_failure : (cs : List ℕ) (x : ℕ) → Contains cs x → is_failure (other_code cs) ≡ true →
    (w : ℕ) × Contains cs w × (is_failure w ≡ true) × (other_code cs ≡ w + 2)
other_failure [] x i h = absurd (none_in_empty x i)
other_failure (c ∷ cs) x i h = chosen_sought failures_first c cs h

pub other_failure_from : (cs : List ℕ) (w : ℕ) → Contains cs w → is_failure w ≡ true →
    (is_failure (other_code cs) ≡ true) × (other_code cs ≤ w + 2)
other_failure_from cs w i h = chosen_least failures_first cs w i h

pub other_win : (cs : List ℕ) → is_win (other_code cs) ≡ true → (x : ℕ) → Contains cs x →
    (is_win x ≡ true) × (x + 2 ≤ other_code cs)
other_win cs h x i = chosen_shunned failures_first cs h x i

pub other_win_from : (cs : List ℕ) (y : ℕ) (m : ℕ) → Contains cs y →
    ((x : ℕ) → Contains cs x → (is_win x ≡ true) × (x ≤ m)) →
    (is_win (other_code cs) ≡ true) × (other_code cs ≤ m + 2)
other_win_from [] y m i h = absurd (none_in_empty y i)
other_win_from (c ∷ cs) y m i h = chosen_all failures_first c cs m h

-- arms and their codes
pub code_among_free : {M N V : Type 0} (arena : Arena M N V) (side : Colour) (entry : N → ℕ) (p : N)
    (a : Arm M N V) → IsArm arena p a → a.free ≡ true
    → Contains (free_codes arena side entry p) (next_code arena side entry a.next)
code_among_free {M} {N} {V} arena side entry p a h t =
    mapped_in (λ (b : Arm M N V). next_code arena side entry b.next)
    (filter (λ b. b.free) (arena.arms p)) a (kept_in (λ b. b.free) (arena.arms p) a h t)

pub code_among_all : {M N V : Type 0} (arena : Arena M N V) (side : Colour) (entry : N → ℕ) (p : N)
    (a : Arm M N V) → IsArm arena p a
    → Contains (all_codes arena side entry p) (next_code arena side entry a.next)
code_among_all {M} {N} {V} arena side entry p a h =
    mapped_in (λ (b : Arm M N V). next_code arena side entry b.next) (arena.arms p) a h

pub free_of_code : {M N V : Type 0} (arena : Arena M N V) (side : Colour) (entry : N → ℕ) (p : N)
    (w : ℕ) → Contains (free_codes arena side entry p) w → (a : Arm M N V) × IsArm arena p a
    × (a.free ≡ true) × (next_code arena side entry a.next ≡ w)
free_of_code {M} {N} {V} arena side entry p w h =
    let r = from_mapped (λ (b : Arm M N V). next_code arena side entry b.next)
    (filter (λ b. b.free) (arena.arms p)) w h in
    let k = from_kept (λ (b : Arm M N V). b.free) (arena.arms p) r.0 r.1 in
    (r.0, k.0, k.1, r.2)

pub arm_of_code : {M N V : Type 0} (arena : Arena M N V) (side : Colour) (entry : N → ℕ) (p : N)
    (w : ℕ) → Contains (all_codes arena side entry p) w → (a : Arm M N V) × IsArm arena p a
    × (next_code arena side entry a.next ≡ w)
arm_of_code {M} {N} {V} arena side entry p w h =
    from_mapped (λ (b : Arm M N V). next_code arena side entry b.next) (arena.arms p) w h

some_in : {X : Type 0} (xs : List X) → xs ≢ [] → (x : X) × Contains xs x
some_in [] h = absurd (h refl)
some_in (x ∷ xs) h = (x, first_in x xs)

-- a position that goes on has an arm
pub some_arm : {M N V : Type 0} (arena : Arena M N V) → IsLawful arena → (p : N) (mover : Colour) →
    arena.node p ≡ Going mover → (a : Arm M N V) × IsArm arena p a
some_arm arena law p mover e = some_in (arena.arms p) (law.goes_on p mover e)
