-- Two moves of one number lead to two different numbers.
use Rattle.std.proofs.Common.{◌≡◌, ℕ, zero, suc, List, [], ◌∷◌, map, Option, Some, None, refl, sym, subst, ap, ◌∙◌, inl, inr}
use Rattle.std.specs.List.{Contains, slice_get, AllByRecursion}
use Rattle.std.specs.List.Sorted.{IsStrictlySortedBy}
use Rattle.std.specs.Ordering.{nat_cmp}
use Rattle.std.specs.Cmp.{nat_cmp_is}
use Rattle.std.specs.declared.cmp.Ordering.{Ordering}
use Rattle.std.specs.declared.cmp.Ordering.TheVariants.{Less, Equal}
use Rattle.std.proofs.lemmas.Option.{same_Some, slice_get_within, get_or_from_slice_get}
use Rattle.frz_board.specs.Boards.{Board}
use Rattle.frz_board.specs.Moving.{Step, promotion_number, step_cmp}
use Rattle.frz_fide.specs.Legal.{after}
use Rattle.frz_fide.specs.Listing.{legal_moves_of}
use Rattle.frz_fide.specs.Valid.{IsValid}
use Rattle.frz_fide.proofs.Lemmas.{same_move}
use Rattle.frz_fide.proofs.Lemmas.{sorted, only_legal}
use Rattle.frz_sets.specs.declared.exit.Value.{Value}
use Rattle.frz_sets.specs.Views.{RuleLines}
use Rattle.frz_arena.specs.declared.arm.Next.TheVariants.{Inside}
use Rattle.frz_arena.specs.declared.arm.Arm.{Arm}
use Rattle.frz_arena.specs.Arena.{LeadsInside}
use Rattle.frz_arena.specs.Games.{next_by}
use Rattle.frz_arena.specs.Names.{named_next, name_in}
use Rattle.frz_arena.proofs.Lemmas.{cases_Option}
use Rattle.frz_game.specs.Numbers.{is_member, number_of, numbers_by, position_at}
use Rattle.frz_game.specs.Games.{arm_at, graph_by}
use Rattle.frz_game.proofs.Graph.{numbering, arms_missing, arms_there, next_inside, next_outside}
use Rattle.frz_index.proofs.Lemmas.{position_tells}

-- an element of a list of which each has P
at_place : {X : Type 0} (P : X → Type 0) (xs : List X) → AllByRecursion P xs → (k : ℕ) (x : X) →
    slice_get xs k ≡ Some x → P x
at_place P [] h k x e = absurd (cc)
at_place P (y ∷ xs) h zero x e = subst P (same_Some y x e) h.0
at_place P (y ∷ xs) h (suc k) x e = at_place P xs h.1 k x e

-- a list in strict order has each element at one place
one_place : {X : Type 0} (c : X → X → Ordering) → ((x : X) → c x x ≡ Less → ⊥) → (xs : List X) →
    IsStrictlySortedBy c xs →
    (k l : ℕ) (x : X) → slice_get xs k ≡ Some x → slice_get xs l ≡ Some x → k ≡ l
unfolding IsStrictlySortedBy
one_place c apart [] s k l x e f = absurd (cc)
one_place c apart (y ∷ xs) s zero zero x e f = refl
one_place c apart (y ∷ xs) s zero (suc l) x e f =
    absurd (apart x (subst (λ z. c z x ≡ Less) (same_Some y x e)
    (at_place (λ z. c y z ≡ Less) xs s.0 l x f)))
one_place c apart (y ∷ xs) s (suc k) zero x e f =
    absurd (apart x (subst (λ z. c z x ≡ Less) (same_Some y x f)
    (at_place (λ z. c y z ≡ Less) xs s.0 k x e)))
one_place c apart (y ∷ xs) s (suc k) (suc l) x e f = ap suc (one_place c apart xs s.1 k l x e f)

-- no move is before itself
not_before : (m : Step) → step_cmp m m ≡ Less → ⊥
not_before m e =
    let same : (n : ℕ) → nat_cmp n n ≡ Equal = λ n. sym (nat_cmp_is n n Equal refl) in
    let equal : step_cmp m m ≡ Equal = rw (same m.from, same m.to, same (promotion_number m.promo))
    refl in
    cc

-- what stands at a place of a mapped list
from_place : {X Y : Type 0} (f : X → Y) (xs : List X) (k : ℕ) (y : Y) →
    slice_get (map f xs) k ≡ Some y → (x : X) × (slice_get xs k ≡ Some x) × (f x ≡ y)
from_place f [] k y e = absurd (cc)
from_place f (x ∷ xs) zero y e = (x, refl, same_Some (f x) y e)
from_place f (x ∷ xs) (suc k) y e = from_place f xs k y e

-- a move that leads to a number leads to the position of that number
number_inside :
    (rules : RuleLines) (value : Board → Value) (q : Board) (v : Value) (n : ℕ) (o : Option ℕ) →
    number_of rules.groups q ≡ o →
    named_next (name_in (numbers_by rules.groups)) (next_by (is_member rules.groups q) q v)
    ≡ Inside n →
    number_of rules.groups q ≡ Some n
number_inside rules value q v n None e h = absurd (let k = next_outside rules.groups q v e in cc)
number_inside rules value q v n (Some m) e h =
    (let k = next_inside rules.groups q v m e in let same : m ≡ n = cc in e ∙ ap Some same)

position_inside : (rules : RuleLines) (value : Board → Value) (p : Board) (m : Step) (n : ℕ) →
    (arm_at rules value p m).next ≡ Inside n → position_at rules.groups n ≡ Some (after p m)
unfolding arm_at
position_inside rules value p m n e =
    (numbering rules value).at_number (after p m) n
    (number_inside rules value (after p m) (value (after p m)) n
    (number_of rules.groups (after p m)) refl e)

legal_place : (p : Board) (k : ℕ) (m : Step) → slice_get (legal_moves_of p) k ≡ Some m →
    Contains (legal_moves_of p) m
legal_place p k m e =
    (k, slice_get_within (legal_moves_of p) k m e, get_or_from_slice_get (legal_moves_of p) k m m e)

different_at : (rules : RuleLines) (value : Board → Value) (p : Board) → IsValid p → (k l n : ℕ) →
    LeadsInside (map (arm_at rules value p) (legal_moves_of p)) k n
    → LeadsInside (map (arm_at rules value p) (legal_moves_of p)) l n → k ≡ l
different_at rules value p valid k l n a b =
    let first = from_place (arm_at rules value p) (legal_moves_of p) k a.0 a.1 in
    let second = from_place (arm_at rules value p) (legal_moves_of p) l b.0 b.1 in
    let one = position_inside rules value p first.0 n
    (ap (λ (x : Arm Step ℕ Value). x.next) first.2 ∙ a.2) in
    let other = position_inside rules value p second.0 n
    (ap (λ (x : Arm Step ℕ Value). x.next) second.2 ∙ b.2) in
    let legal = only_legal p first.0 (legal_place p k first.0 first.1) in
    let allowed = only_legal p second.0 (legal_place p l second.0 second.1) in
    let same = same_move p first.0 second.0 valid legal.0 allowed.0 legal.1 allowed.1
    (same_Some (after p first.0) (after p second.0) (sym one ∙ other)) in
    one_place step_cmp not_before (legal_moves_of p) (sorted p) k l second.0
    (subst (λ m. slice_get (legal_moves_of p) k ≡ Some m) same first.1) second.1

pub different_arms : (rules : RuleLines) (value : Board → Value) (i k l n : ℕ) →
    LeadsInside ((graph_by rules value).arms i) k n →
    LeadsInside ((graph_by rules value).arms i) l n → k ≡ l
different_arms rules value i k l n a b =
    elim (cases_Option (position_at rules.groups i)) [
      | inl none ↦ absurd (let e = subst (λ xs. LeadsInside xs k n)
          (arms_missing rules value i none) a in let f = e.1 in cc)
      | inr there ↦ (
          let same = arms_there rules value i there.0 there.1 in
          different_at rules value there.0
          (position_tells rules.groups i there.0 there.1).member.valid k l n
          (subst (λ xs. LeadsInside xs k n) same a) (subst (λ xs. LeadsInside xs l n) same b))
    ]
