-- Where a report counts no open exit, none is open.
use Rattle.std.proofs.Common.{◌≡◌, ◌≤◌, ◌<◌, ◌+◌, ℕ, zero, suc, inl, inr, Bool, true, false, List, [], ◌∷◌, ◌++◌, map, length, Some, refl, sym, subst, ap, ◌∙◌, arith}
use Rattle.std.specs.List.{Contains, flat_map, filter, range_with_len}
use Rattle.std.proofs.lemmas.Bool.{cases_Bool, cases_lt}
use Rattle.frz_board.specs.Boards.{Board}
use Rattle.frz_board.specs.Moving.{Step}
use Rattle.frz_fide.specs.Legal.{after}
use Rattle.frz_fide.specs.Listing.{legal_moves_of}
use Rattle.frz_sets.specs.declared.exit.Value.{Value}
use Rattle.frz_sets.specs.declared.exit.Value.TheVariants.{Unknown}
use Rattle.frz_sets.specs.Sets.{size_of}
use Rattle.frz_sets.specs.Views.{RuleLines}
use Rattle.frz_index.specs.Members.{Num}
use Rattle.frz_index.specs.Membership.{is_member, position_at}
use Rattle.frz_index.proofs.Lemmas.{member_of, position_of, Num_below}
use Rattle.frz_arena.specs.declared.arm.Arm.{Arm}
use Rattle.frz_arena.specs.Games.{next_by}
use Rattle.frz_arena.specs.Names.{named_next, name_in}
use Rattle.frz_arena.proofs.Lemmas.{none_in_empty, in_cases}
use Rattle.frz_game.specs.Games.{graph_by, arm_at}
use Rattle.frz_game.specs.TextsByMen.{HasNoOpenExit}
use Rattle.frz_game.specs.Numbers.{numbers_by}
use Rattle.frz_game.proofs.Lemmas.{arms_there}
use Rattle.frz_report.specs.Exits.{is_open, class_of, classes_after, classes_on, exits_at, exits_of}

-- lists
map_empty : {X Y : Type 0} (f : X → Y) (xs : List X) → map f xs ≡ [] → xs ≡ []
map_empty f [] h = refl
map_empty f (x ∷ xs) h = absurd (cc)

both_empty : {X : Type 0} (xs ys : List X) → (xs ++ ys) ≡ [] → (xs ≡ []) × (ys ≡ [])
both_empty [] ys h = (refl, h)
both_empty (x ∷ xs) ys h = absurd (cc)

filtered_none_passes : {X : Type 0} (test : X → Bool) (xs : List X) (x : X) → filter test xs ≡ [] →
    Contains xs x → test x ≡ true → ⊥
filtered_none_passes test [] x h i t = none_in_empty x i
filtered_none_passes test (y ∷ xs) x h i t =
    elim (cases_Bool (test y)) [
      | inl kept ↦ (let e = rw kept at h in cc)
      | inr gone ↦ (let e = rw gone at h in elim (in_cases y xs x i) [
        | inl same ↦ (let b = ap test same in cc)
        | inr j ↦ filtered_none_passes test xs x e j t
      ])
    ]

piece_empty : {X Y : Type 0} (f : X → List Y) (xs : List X) (x : X) → flat_map f xs ≡ [] →
    Contains xs x → f x ≡ []
piece_empty f [] x h i = absurd (none_in_empty x i)
piece_empty {X} {Y} f (y ∷ xs) x h i =
    let both = both_empty (f y) (flat_map f xs) h in
    elim (in_cases y xs x i) [
      | inl same ↦ subst (λ z. f z ≡ []) same both.0
      | inr j ↦ piece_empty f xs x both.1 j
    ]

first_there : {X : Type 0} (x : X) (xs : List X) → Contains (x ∷ xs) x
first_there x xs = (zero, omega arith, refl)

later_there : {X : Type 0} (y : X) (xs : List X) (x : X) → Contains xs x → Contains (y ∷ xs) x
later_there y xs x h = let l = h.1 in (suc h.0, omega arith, h.2)

mapped_there : {X Y : Type 0} (f : X → Y) (xs : List X) (x : X) → Contains xs x →
    Contains (map f xs) (f x)
mapped_there f [] x h = absurd (none_in_empty x h)
mapped_there f (y ∷ xs) x h =
    elim (in_cases y xs x h) [
      | inl e ↦ subst (λ z. Contains (map f (y ∷ xs)) (f z)) e (first_there (f y) (map f xs))
      | inr i ↦ later_there (f y) (map f xs) (f x) (mapped_there f xs x i)
    ]

number_there_in : (a n i : ℕ) → a ≤ i → i < a + n → Contains (range_with_len a n) i
number_there_in a zero i h l = absurd (omega arith)
number_there_in a (suc n) i h l =
    elim (cases_lt a i) [
      | inl less ↦ later_there a (range_with_len (a + 1) n) i
          (number_there_in (a + 1) n i (omega arith) (omega arith))
      | inr least ↦ (let e : a ≡ i = omega arith in
          subst (λ z. Contains (range_with_len a (suc n)) z) e
          (first_there a (range_with_len (a + 1) n)))
    ]

open_by : (name : Board → ℕ) (i : Bool) (q : Board) (v : Value) → i ≡ false → v ≡ Unknown →
    is_open (named_next name (next_by i q v)) ≡ true
open_by name i q v e h = rw (e, h) refl

open_arm : (rules : RuleLines) (value : Board → Value) (p : Board) (m : Step) →
    is_member rules.groups (after p m) ≡ false → value (after p m) ≡ Unknown →
    is_open (arm_at rules value p m).next ≡ true
unfolding arm_at
open_arm rules value p m o h =
    open_by (name_in (numbers_by rules.groups)) (is_member rules.groups (after p m)) (after p m)
    (value (after p m)) o h

-- an exit of unknown value is listed
module _ (rules : RuleLines) (value : Board → Value) (none : exits_of rules value ≡ []) where
  empty_at : (i : ℕ) → i < size_of rules.groups → exits_at rules value i ≡ []
  empty_at i h =
      piece_empty (exits_at rules value) (range_with_len 0 (size_of rules.groups)) i none
      (number_there_in 0 (size_of rules.groups) i (omega arith) (omega arith))

  no_arm : (p : Board) → is_member rules.groups p ≡ true → (a : Arm Step ℕ Value) →
      Contains ((graph_by rules value).arms (Num rules.groups p)) a → is_open a.next ≡ true → ⊥
  no_arm p member a i o =
      let at_p : position_at rules.groups (Num rules.groups p) ≡ Some p =
      position_of rules.groups (Num rules.groups p) p
      (record { member = member_of rules.groups p member; number = refl }) in
      let arms = (graph_by rules value).arms (Num rules.groups p) in
      let below = Num_below rules.groups p (member_of rules.groups p member) in
      let e : classes_after p arms ≡ [] = sym (ap (classes_on arms) at_p)
      ∙ empty_at (Num rules.groups p) below in
      filtered_none_passes (λ (b : Arm Step ℕ Value). is_open b.next) arms a
      (map_empty (λ (b : Arm Step ℕ Value). class_of (after p b.mv))
      (filter (λ (b : Arm Step ℕ Value). is_open b.next) arms) e) i o

  pub none_open : HasNoOpenExit rules value
  none_open q x unknown =
      let p = x.from in
      let m = x.move in
      let a = arm_at rules value p m in
      let at_p : position_at rules.groups (Num rules.groups p) ≡ Some p =
      position_of rules.groups (Num rules.groups p) p
      (record { member = member_of rules.groups p x.begins; number = refl }) in
      let listed = subst (λ (xs : List (Arm Step ℕ Value)). Contains xs a)
      (sym (arms_there rules value (Num rules.groups p) p at_p))
      (mapped_there (arm_at rules value p) (legal_moves_of p) m x.legal) in
      no_arm p x.begins a listed (open_arm rules value p m
      (subst (λ (z : Board). is_member rules.groups z ≡ false) (sym x.ends) x.outside)
      (ap value x.ends ∙ unknown))

zero_length_is_empty : {X : Type 0} (xs : List X) → length xs ≡ 0 → xs ≡ []
zero_length_is_empty [] h = refl
zero_length_is_empty (x ∷ xs) h = absurd (omega arith)

pub none_counted : (rules : RuleLines) (value : Board → Value) →
    length (exits_of rules value) ≡ 0 → HasNoOpenExit rules value
none_counted rules value h = none_open rules value (zero_length_is_empty (exits_of rules value) h)
