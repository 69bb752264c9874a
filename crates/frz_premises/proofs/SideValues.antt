-- What the values of the exits tell of the bounds of a side that no line forbids a move.
use Rattle.std.proofs.Common.{◌≡◌, ◌<◌, ◌+◌, ◌↔◌, ◌⊎◌, ℕ, inl, inr, Bool, true, false, not, ◌&&◌, ◌||◌, List, [], ◌∷◌, ◌++◌, map, filter, length, take, get_or, Option, Some, None, refl, sym, ap, ◌∙◌, slice_index, if◌then◌else◌}
use Rattle.std.specs.Prelude.{nat_lt}
use Rattle.std.specs.List.{Contains, cons_option, list_all, list_any}
use Rattle.std.proofs.lemmas.Bool.{and_parts, or_parts, cases_Bool, cases_order}
use Rattle.std.proofs.lemmas.List.{map-append, take_more}
use Rattle.std.proofs.lemmas.List.Elements.{filter_map-append}
use Rattle.std.proofs.lemmas.List.Folds.{list_all-append, list_any-append}
use Rattle.frz_board.specs.declared.man.Colour.{Colour}
use Rattle.frz_board.specs.declared.man.Colour.TheVariants.{White, Black}
use Rattle.frz_board.specs.Moving.{Step}
use Rattle.frz_fide.specs.Legal.{after}
use Rattle.frz_fide.specs.Listing.{legal_moves_of}
use Rattle.frz_board.specs.Boards.{Board}
use Rattle.frz_board.specs.Men.{other_of}
use Rattle.frz_sets.specs.declared.exit.Value.{Value}
use Rattle.frz_sets.specs.Views.{RuleLines}
use Rattle.frz_index.specs.Members.{Member, Num}
use Rattle.frz_index.specs.Membership.{is_member, position_at}
use Rattle.frz_arena.specs.declared.arm.Arm.{Arm}
use Rattle.frz_arena.specs.declared.arm.Next.{Next}
use Rattle.frz_arena.specs.declared.arm.Next.TheVariants.{Inside, Outside}
use Rattle.frz_arena.specs.Games.{next_by}
use Rattle.frz_arena.specs.Names.{arms_at, name_in, named_next}
use Rattle.frz_arena.specs.declared.bound.Bound.TheVariants.{Wins}
use Rattle.frz_arena.specs.Codes.{code_of, is_win}
use Rattle.frz_arena.specs.Exits.{IsExit}
use Rattle.frz_arena.specs.WholeTruth.{MatesIn, NoneIsBad}
use Rattle.frz_arena.proofs.Lemmas.{none_in_empty, in_cases}
use Rattle.frz_exits.specs.Values.{class_of}
use Rattle.frz_game.specs.Bounds.{IsTableOf}
use Rattle.frz_game.specs.ExactTables.{AreDecidedOutside, HasExactOutcomes, HasNoForbid, is_decided}
use Rattle.frz_game.specs.Games.{arena_by, arm_at, chess, game_of, graph_by}
use Rattle.frz_game.specs.Numbers.{numbers_by}
use Rattle.frz_game.specs.Values.{AreTrueExits}
use Rattle.frz_game.proofs.Lemmas.{arms_there, exact_where_decided, stored_bound, table_exactly, win_code}
use Rattle.frz_premises.specs.declared.sides.ExitValues.{ExitValues}
use Rattle.frz_premises.specs.declared.sides.Strength.TheVariants.{Undecided, Outcomes, Exact}
use Rattle.frz_premises.specs.Sides.{bad_for, exits_tell, is_bad, renounces, strength_by, strength_of, value_behind, values_after, values_of, values_tell}
use Rattle.frz_premises.specs.WaysOut.{outside_at, outside_below, outside_of, outside_on}
use Rattle.frz_premises.proofs.Exits.{exits_are_listed}
use Rattle.frz_premises.proofs.InLists.{in_map}
use Rattle.frz_premises.proofs.Numbering.{outside_more}

each_passes_all : {X : Type 0} (test : X → Bool) (xs : List X) (x : X) → list_all test xs ≡ true →
    Contains xs x → test x ≡ true
each_passes_all test [] x h i = absurd (none_in_empty x i)
each_passes_all test (y ∷ xs) x h i =
    let both = and_parts (test y) (list_all test xs) h in
    elim (in_cases y xs x i) [
      | inl e ↦ sym (ap test e) ∙ both.0
      | inr j ↦ each_passes_all test xs x both.1 j
    ]

none_passes_any : {X : Type 0} (test : X → Bool) (xs : List X) (x : X) → list_any test xs ≡ false →
    Contains xs x → test x ≡ false
none_passes_any test [] x h i = absurd (none_in_empty x i)
none_passes_any test (y ∷ xs) x h i =
    let both = or_parts (test y) (list_any test xs) h in
    elim (in_cases y xs x i) [
      | inl e ↦ sym (ap test e) ∙ both.0
      | inr j ↦ none_passes_any test xs x both.1 j
    ]

module _ (rules : RuleLines) (value : Board → Value) where
  -- the value of an exit is one of those listed
  its_value : (q : Board) → IsExit (game_of rules value) q →
      Contains (values_of rules value) (value q)
  its_value q x = in_map value (outside_of rules.groups) q (exits_are_listed rules value q x)

  pub decided_outside : (exits_tell rules value).decided ≡ true → AreDecidedOutside rules value
  decided_outside h q x = each_passes_all is_decided (values_of rules value) (value q) h
      (its_value q x)

  pub none_bad : (side : Colour) → bad_for (exits_tell rules value) side ≡ false →
      NoneIsBad (game_of rules value) side
  none_bad White h q x bad =
      let no = none_passes_any (λ (v : Value). is_bad (class_of v White)) (values_of rules value)
      (value q)
      h (its_value q x) in
      let yes : is_bad (class_of (value q) White) ≡ true = ap is_bad bad in cc
  none_bad Black h q x bad =
      let no = none_passes_any (λ (v : Value). is_bad (class_of v Black)) (values_of rules value)
      (value q)
      h (its_value q x) in
      let yes : is_bad (class_of (value q) Black) ≡ true = ap is_bad bad in cc

  module _ (side : Colour) (codes : List ℕ) (table : IsTableOf rules value side codes)
      (free : HasNoForbid rules side) (exits : AreTrueExits rules value)
      (decided : (exits_tell rules value).decided ≡ true) where
    pub exact_outcomes : HasExactOutcomes rules side codes
    exact_outcomes =
        exact_where_decided rules value side codes table free exits (decided_outside decided)

    module _ (none : bad_for (exits_tell rules value) (other_of side) ≡ false) (p : Board)
        (member : Member rules.groups p) where
      winning_code_mates : (n : ℕ) → slice_index codes (Num rules.groups p) ≡ code_of (Wins n) →
          MatesIn chess side n p
      winning_code_mates n e =
          ((table_exactly rules value side codes table free).bound p (Wins n) member e).win exits
          (none_bad (other_of side) none) n refl

      same_plies : (n k : ℕ) → MatesIn chess side n p → MatesIn chess side k p → n ≡ k
      same_plies n k a b =
          elim (cases_order n k) [
            | inl same ↦ same
            | inr other ↦ elim other [
              | inl less ↦ absurd (b.least n less a.forced)
              | inr more ↦ absurd (a.least k more b.forced)
            ]
          ]

      pub exact_wins : (n : ℕ) →
          (slice_index codes (Num rules.groups p) ≡ code_of (Wins n)) ↔ MatesIn chess side n p
      exact_wins n = (
        winning_code_mates n,
        λ m. (
            let stored = stored_bound rules value side codes table p member in
            let code = slice_index codes (Num rules.groups p) in
            let win : is_win code ≡ true =
            (exact_outcomes.win p member).1 (n, m.forced) in
            let is = (win_code stored.0).0 (sym (ap is_win stored.1) ∙ win) in
            let here : code ≡ code_of (Wins is.0) = stored.1 ∙ ap code_of is.1 in
            here ∙ ap (λ (k : ℕ). code_of (Wins k))
            (same_plies is.0 n (winning_code_mates is.0 here) m)),
      )

-- what each strength needs
strong_by : (believes gives : Bool) (values : ExitValues) (side : Colour) →
    (strength_by believes gives values side ≡ Outcomes)
    ⊎ (strength_by believes gives values side ≡ Exact) →
    (gives ≡ false) × (values.decided ≡ true)
strong_by true gives values side (inl h) = absurd (cc)
strong_by true gives values side (inr h) = absurd (cc)
strong_by false true values side (inl h) = absurd (cc)
strong_by false true values side (inr h) = absurd (cc)
strong_by false false values side h = (refl, by_decided values.decided refl h)
  where
    by_decided : (d : Bool) → values.decided ≡ d →
        (strength_by false false values side ≡ Outcomes)
        ⊎ (strength_by false false values side ≡ Exact) → values.decided ≡ true
    by_decided true e k = e
    by_decided false e (inl k) =
        absurd (let u : Undecided ≡ Outcomes = rw e at k in cc)
    by_decided false e (inr k) =
        absurd (let u : Undecided ≡ Exact = rw e at k in cc)

exact_by : (believes gives : Bool) (values : ExitValues) (side : Colour) →
    strength_by believes gives values side ≡ Exact → bad_for values (other_of side) ≡ false
exact_by true gives values side h = absurd (cc)
exact_by false true values side h = absurd (cc)
exact_by false false values side h =
    by_bad (bad_for values (other_of side)) refl
    ((strong_by false false values side (inr h)).1)
  where
    by_bad : (b : Bool) → bad_for values (other_of side) ≡ b → values.decided ≡ true →
        bad_for values (other_of side) ≡ false
    by_bad false e d = e
    by_bad true e d =
        absurd (let u : Outcomes ≡ Exact = rw (d, e) at h in cc)

pub strong_side_is_decided : (rules : RuleLines) (believed : ℕ) (values : ExitValues)
    (side : Colour) →
    (strength_of rules believed values side ≡ Outcomes)
    ⊎ (strength_of rules believed values side ≡ Exact) →
    (HasNoForbid rules side) × (values.decided ≡ true)
strong_side_is_decided rules believed values side h =
    strong_by (nat_lt 0 believed) (renounces rules side) values side h

pub nothing_bad_where_exact : (rules : RuleLines) (believed : ℕ) (values : ExitValues)
    (side : Colour) →
    strength_of rules believed values side ≡ Exact → bad_for values (other_of side) ≡ false
nothing_bad_where_exact rules believed values side h =
    exact_by (nat_lt 0 believed) (renounces rules side) values side h

-- values, one by one
all_with_one_more : (test : Value → Bool) (vs : List Value) (v : Value) →
    list_all test (vs ++ v ∷ []) ≡ (list_all test vs && test v)
all_with_one_more test vs v =
    list_all-append test vs (v ∷ []) ∙ ap (λ b. list_all test vs && b) (and_true (test v))
  where
    and_true : (b : Bool) → (b && true) ≡ b
    and_true true = refl
    and_true false = refl

any_with_one_more : (test : Value → Bool) (vs : List Value) (v : Value) →
    list_any test (vs ++ v ∷ []) ≡ (list_any test vs || test v)
any_with_one_more test vs v =
    list_any-append test vs (v ∷ []) ∙ ap (λ b. list_any test vs || b) (or_false (test v))
  where
    or_false : (b : Bool) → (b || false) ≡ b
    or_false true = refl
    or_false false = refl

equal_fields_equal_values : (d w b e x c : Bool) → d ≡ e → w ≡ x → b ≡ c →
    let left : ExitValues = record { decided = d; bad_for_white = w; bad_for_black = b } in
    let right : ExitValues = record { decided = e; bad_for_white = x; bad_for_black = c } in
    left ≡ right
equal_fields_equal_values d w b e x c p q r = rw (p, q, r) refl

pub one_told : (vs : List Value) (v : Value) (told : ExitValues) (d w b : Bool) →
    told ≡ values_tell vs → d ≡ (told.decided && is_decided v) →
    w ≡ (told.bad_for_white || is_bad (class_of v White)) →
    b ≡ (told.bad_for_black || is_bad (class_of v Black)) →
    let now : ExitValues = record { decided = d; bad_for_white = w; bad_for_black = b } in
    now ≡ values_tell (vs ++ v ∷ [])
one_told vs v told d w b is p q r =
    equal_fields_equal_values d w b (list_all is_decided (vs ++ v ∷ []))
    (list_any (λ x. is_bad (class_of x White)) (vs ++ v ∷ []))
    (list_any (λ x. is_bad (class_of x Black)) (vs ++ v ∷ []))
    (p ∙ ap (λ (t : ExitValues). t.decided && is_decided v) is
    ∙ sym (all_with_one_more is_decided vs v))
    (q ∙ ap (λ (t : ExitValues). t.bad_for_white || is_bad (class_of v White)) is
    ∙ sym (any_with_one_more (λ x. is_bad (class_of x White)) vs v))
    (r ∙ ap (λ (t : ExitValues). t.bad_for_black || is_bad (class_of v Black)) is
    ∙ sym (any_with_one_more (λ x. is_bad (class_of x Black)) vs v))

pub values_step : (arms : List (Arm Step ℕ Value)) (i : ℕ) (a : Arm Step ℕ Value) →
    i < length arms → a ≡ get_or arms i a →
    values_after (take (i + 1) arms) ≡ values_after (take i arms) ++ values_after (a ∷ [])
values_step arms i a within is =
    ap values_after (take_more arms i a within)
    ∙ filter_map-append (λ (x : Arm Step ℕ Value). value_behind x.next) (take i arms)
    (get_or arms i a ∷ [])
    ∙ ap (λ (x : Arm Step ℕ Value). values_after (take i arms) ++ values_after (x ∷ [])) (sym is)

pub arm_inside : (a : Arm Step ℕ Value) (n : ℕ) → a.next ≡ Inside n → values_after (a ∷ []) ≡ []
arm_inside a n e = ap (λ (x : Next ℕ Value). cons_option (value_behind x) []) e

pub arm_outside : (a : Arm Step ℕ Value) (v : Value) → a.next ≡ Outside v →
    values_after (a ∷ []) ≡ v ∷ []
arm_outside a v e = ap (λ (x : Next ℕ Value). cons_option (value_behind x) []) e

-- the values of the exits of one more number
value_by_test : (name : Board → ℕ) (inside : Bool) (q : Board) (v : Value) →
    value_behind (named_next name (next_by inside q v)) ≡ (if inside then None else Some v)
value_by_test name true q v = refl
value_by_test name false q v = refl

module _ (rules : RuleLines) (value : Board → Value) (p : Board) where
  arm_value : (m : Step) → value_behind (arm_at rules value p m).next
      ≡ (if is_member rules.groups (after p m) then None else Some (value (after p m)))
  unfolding arm_at
  arm_value m =
      value_by_test (name_in (numbers_by rules.groups)) (is_member rules.groups (after p m))
      (after p m) (value (after p m))

  values_out : (ms : List Step) → values_after (map (arm_at rules value p) ms)
      ≡ map value (filter (λ q. not (is_member rules.groups q)) (map (λ m. after p m) ms))
  values_out [] = refl
  values_out (m ∷ ms) =
      elim (cases_Bool (is_member rules.groups (after p m))) [
        | inl inside ↦ (let gone : value_behind (arm_at rules value p m).next ≡ None =
            arm_value m ∙ rw inside refl in
            rw (gone, inside) (values_out ms))
        | inr outside ↦ (let kept : value_behind (arm_at rules value p m).next
            ≡ Some (value (after p m)) = arm_value m ∙ rw outside refl in
            rw (kept, outside) (ap (λ (l : List Value). value (after p m) ∷ l) (values_out ms)))
      ]

values_at : (rules : RuleLines) (value : Board → Value) (i : ℕ) (o : Option Board) →
    position_at rules.groups i ≡ o →
    values_after ((graph_by rules value).arms i) ≡ map value (outside_at rules.groups i)
values_at rules value i None e =
    ap values_after (ap (arms_at (arena_by rules value) (name_in (numbers_by rules.groups))) e)
    ∙ sym (ap (λ o. map value (outside_on rules.groups o)) e)
values_at rules value i (Some p) e =
    ap values_after (arms_there rules value i p e) ∙ values_out rules value p (legal_moves_of p)
    ∙ sym (ap (λ o. map value (outside_on rules.groups o)) e)

pub values_more : (rules : RuleLines) (value : Board → Value) (n : ℕ)
    (arms : List (Arm Step ℕ Value)) → arms ≡ (graph_by rules value).arms n →
    map value (outside_below rules.groups n) ++ values_after arms
    ≡ map value (outside_below rules.groups (n + 1))
values_more rules value n arms are =
    ap (λ (l : List Value). map value (outside_below rules.groups n) ++ l)
    (ap values_after are ∙ values_at rules value n (position_at rules.groups n) refl)
    ∙ sym (map-append value (outside_below rules.groups n) (outside_at rules.groups n))
    ∙ ap (map value) (sym (outside_more rules.groups n))
