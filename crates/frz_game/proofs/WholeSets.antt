-- A move out of a set with all squares leaves a group short of men.
use Rattle.std.proofs.Common.{◌≡◌, ◌≢◌, ◌≤◌, ◌<◌, ℕ, zero, suc, inl, inr, Bool, true, cond, ◌&&◌, List, [], ◌∷◌, None, refl, sym, subst, ap, ◌∙◌, arith, slice_index}
use Rattle.std.specs.Prelude.{◌==◌, nat_le}
use Rattle.std.specs.List.{Contains, AllByRecursion, list_any, list_all}
use Rattle.std.proofs.lemmas.Bool.{eqb-true, eq-eqb, cases_Bool, cases_lt, and_parts, and_from}
use Rattle.std.proofs.lemmas.Bool.Decides.{nat_tests}
use Rattle.std.proofs.lemmas.List.Elements.{Contains-append_left, Contains-append_right, Contains-append_cases}
use Rattle.frz_board.specs.declared.man.Colour.{Colour}
use Rattle.frz_board.specs.declared.man.Colour.TheVariants.{White, Black}
use Rattle.frz_board.specs.declared.man.Kind.{Kind}
use Rattle.frz_board.specs.declared.man.Kind.TheVariants.{King, Queen, Rook, Bishop, Knight, Pawn}
use Rattle.frz_board.specs.Attacking.{Stands}
use Rattle.frz_board.specs.Boards.{Board}
use Rattle.frz_board.specs.Men.{cell_of_man}
use Rattle.frz_board.specs.Shapes.{count_of}
use Rattle.frz_board.specs.Squares.{squares}
use Rattle.frz_board.proofs.Lemmas.{cell-some, cell_back}
use Rattle.frz_fide.specs.Legal.{after}
use Rattle.frz_fide.specs.Valid.{IsValid}
use Rattle.frz_fide.proofs.Lemmas.{only_legal, facts, stayed, moved, came, same_man, counts_fall, kings_are}
use Rattle.frz_sets.specs.declared.exit.Value.{Value}
use Rattle.frz_sets.specs.declared.exit.Value.TheVariants.{Unknown}
use Rattle.frz_sets.specs.Views.{Condition, GroupLine, ExitLine, RuleLines}
use Rattle.frz_sets.specs.Sets.{has_state, is_state}
use Rattle.frz_index.specs.Members.{Member}
use Rattle.frz_index.specs.Places.{IsWithinCount}
use Rattle.frz_index.proofs.Lemmas.{member_of, of_member}
use Rattle.frz_arena.specs.Exits.{IsExit}
use Rattle.frz_arena.proofs.Lemmas.{none_in_empty, first_in, later_in, in_cases, from_mapped}
use Rattle.frz_graph.specs.Books.{value_by, first_value}
use Rattle.frz_graph.specs.Conditions.{condition_holds, conditions_hold}
use Rattle.frz_game.specs.Games.{game_of}
use Rattle.frz_game.specs.MenAlone.{IsDrawnOutside}
use Rattle.frz_game.specs.TextsByMen.{leave_dead, is_draw, are_drawn_by_men}
use Rattle.frz_game.specs.WholeSets.{everywhere, each_everywhere, IsWholeGroup, IsClosed, AsksAtMost, by_king, by_none, by_line, IsWholeSet}
use Rattle.frz_game.proofs.Elements.{mapped_there, number_in, some_in, any_in, all_in, all_by}
use Rattle.frz_game.proofs.MenAlone.{exit_valid}
use Rattle.frz_game.proofs.MenCounted.{count_each, places_of}
use Rattle.frz_game.proofs.TextsByMen.{promotes_none, draw_is, drawn_text}

pub square_in : (s : ℕ) → s < 64 → Contains squares s
unfolding squares
square_in s h = number_in 0 64 s (omega arith) (omega arith)

-- the states of kinds on every square
kind_in : (kinds : List Kind) (st : Kind × ℕ) → Contains (each_everywhere kinds) st →
    Contains kinds st.0
kind_in [] st h = absurd (none_in_empty st h)
kind_in (k ∷ kinds) st h =
    elim (Contains-append_cases (everywhere k) (each_everywhere kinds) st h) [
      | inl i ↦ (let on = from_mapped (λ (z : ℕ). (k, z)) squares st i in
          subst (λ (j : Kind). Contains (k ∷ kinds) j) (ap (λ (z : Kind × ℕ). z.0) on.2)
          (first_in k kinds))
      | inr i ↦ later_in k kinds st.0 (kind_in kinds st i)
    ]

pub state_in : (kinds : List Kind) (k : Kind) (s : ℕ) → Contains kinds k → s < 64 →
    Contains (each_everywhere kinds) (k, s)
state_in [] k s h ls = absurd (none_in_empty k h)
state_in (j ∷ kinds) k s h ls =
    elim (in_cases j kinds k h) [
      | inl same ↦ subst (λ (i : Kind). Contains (each_everywhere (j ∷ kinds)) (i, s)) same
          (Contains-append_left (everywhere j) (each_everywhere kinds) (j, s)
          (mapped_there (λ (z : ℕ). (j, z)) squares s (square_in s ls)))
      | inr i ↦ Contains-append_right (everywhere j) (each_everywhere kinds) (k, s)
          (state_in kinds k s i ls)
    ]

-- a side has no more men of one kind than of several
one_of_each : (q : Board) (c : Colour) (kinds : List Kind) (k : Kind) → Contains kinds k →
    count_of q c k ≤ count_each q c kinds
one_of_each q c [] k h = absurd (none_in_empty k h)
one_of_each q c (j ∷ kinds) k h =
    elim (in_cases j kinds k h) [
      | inl same ↦ (let e = ap (λ (i : Kind). count_of q c i) same in omega arith)
      | inr i ↦ (let l = one_of_each q c kinds k i in omega arith)
    ]

-- where no side has more men of a kind, none has more of several
each_falls : (q p : Board) (c : Colour) → ((k : Kind) → count_of q c k ≤ count_of p c k) →
    (kinds : List Kind) → count_each q c kinds ≤ count_each p c kinds
each_falls q p c falls [] = omega arith
each_falls q p c falls (k ∷ kinds) =
    let a = falls k in let b = each_falls q p c falls kinds in omega arith

le_test : (m n : ℕ) → m ≤ n → nat_le m n ≡ true
le_test m n h = grind (arith, nat_tests)

count_holds : (n most : ℕ) → n ≤ most → (nat_le 0 n && nat_le n most) ≡ true
count_holds n most h =
    and_from (nat_le 0 n) (nat_le n most) (le_test 0 n (omega arith)) (le_test n most h)

-- conditions that each ask for at most so many men hold where no more stand
line_holds : (q : Board) (c : Colour) (kinds : List Kind) (most : ℕ) →
    count_each q c kinds ≤ most → (conds : List Condition) →
    AllByRecursion (AsksAtMost c kinds most) conds → conditions_hold q conds ≡ true
line_holds q c kinds most few [] all = refl
line_holds q c kinds most few (cond ∷ conds) all =
    let k = all.0.0 in
    let less = one_of_each q c kinds k all.0.1 in
    and_from (condition_holds q cond) (conditions_hold q conds)
    (ap (condition_holds q) all.0.2 ∙ count_holds (count_of q c k) most (omega arith))
    (line_holds q c kinds most few conds all.1)

-- the man of a cell
pub man_at : (x : ℕ) → x ≢ 0 → x < 13 →
    (c : Colour) × (k : Kind) × (x ≡ cell_of_man (record { colour = c; kind = k }))
man_at zero n h = absurd (n refl)
man_at (suc zero) n h = (White, King, refl)
man_at (suc (suc zero)) n h = (White, Queen, refl)
man_at (suc (suc (suc zero))) n h = (White, Rook, refl)
man_at (suc (suc (suc (suc zero)))) n h = (White, Bishop, refl)
man_at (suc (suc (suc (suc (suc zero))))) n h = (White, Knight, refl)
man_at (suc (suc (suc (suc (suc (suc zero)))))) n h = (White, Pawn, refl)
man_at (suc (suc (suc (suc (suc (suc (suc zero))))))) n h = (Black, King, refl)
man_at (suc (suc (suc (suc (suc (suc (suc (suc zero)))))))) n h = (Black, Queen, refl)
man_at (suc (suc (suc (suc (suc (suc (suc (suc (suc zero))))))))) n h = (Black, Rook, refl)
man_at (suc (suc (suc (suc (suc (suc (suc (suc (suc (suc zero)))))))))) n h = (Black, Bishop, refl)
man_at (suc (suc (suc (suc (suc (suc (suc (suc (suc (suc (suc zero))))))))))) n h =
    (Black, Knight, refl)
man_at (suc (suc (suc (suc (suc (suc (suc (suc (suc (suc (suc (suc zero)))))))))))) n h =
    (Black, Pawn, refl)
man_at (suc (suc (suc (suc (suc (suc (suc (suc (suc (suc (suc (suc (suc x))))))))))))) n h =
    absurd (omega arith)

-- a line that holds says a draw, or an earlier one does
not_unknown : (groups : List GroupLine) (q : Board) (lines : List ExitLine) (line : ExitLine) →
    Contains lines line → conditions_hold q line.conds ≡ true →
    list_all (λ l. is_draw l.value && leave_dead groups l.conds) lines ≡ true →
    first_value lines q ≢ Unknown
not_unknown groups q [] line i h all = absurd (none_in_empty line i)
not_unknown groups q (l ∷ lines) line i h all =
    let both = and_parts (is_draw l.value && leave_dead groups l.conds)
    (list_all (λ z. is_draw z.value && leave_dead groups z.conds) lines) all in
    elim (cases_Bool (conditions_hold q l.conds)) [
      | inl e ↦ rw e (λ unknown. (
          let drawn = draw_is l.value (and_parts (is_draw l.value) (leave_dead groups l.conds)
          both.0).0 in cc))
      | inr e ↦ rw e (elim (in_cases l lines line i) [
        | inl same ↦ absurd (let there = ap (λ (z : ExitLine). conditions_hold q z.conds) same in
            cc)
        | inr j ↦ not_unknown groups q lines line j h both.1
      ])
    ]

module _ (rules : RuleLines) (w : IsWholeSet rules) (value : Board → Value) (q : Board)
    (x : IsExit (game_of rules value) q) where
  -- what is said of a group
  at_group : (g : GroupLine) → Contains rules.groups g →
      (whole : IsWholeGroup g) × IsClosed rules.exits g whole.kinds
  at_group g i =
      all_in (λ (h : GroupLine). (whole : IsWholeGroup h) × IsClosed rules.exits h whole.kinds)
      rules.groups w.groups g i

  from_member : Member rules.groups x.from
  from_member = member_of rules.groups x.from x.begins

  there_valid : IsValid q
  there_valid = exit_valid rules value q x

  -- the group of a man of the set
  group_of : (c : Colour) (k : Kind) (s : ℕ) → s < 64 → Stands x.from c k s →
      (g : GroupLine) × (i : Contains rules.groups g) × (g.colour ≡ c)
      × Contains (at_group g i).0.kinds k
  group_of c k s ls h =
      let cell = cell_of_man (record { colour = c; kind = k }) in
      let some : slice_index x.from.cells s ≢ 0 = λ e. (let n = cell-some c k in omega arith) in
      let state : has_state rules.groups cell s ≡ true =
      subst (λ z. has_state rules.groups z s ≡ true) h (from_member.men s ls some) in
      let g = some_in (is_state cell s) rules.groups state in
      let whole = (at_group g.0 g.1).0 in
      let test : Kind × ℕ → Bool = λ (st : Kind × ℕ).
      cell_of_man (record { colour = g.0.colour; kind = st.0 }) == cell && st.1 == s in
      let listed : list_any test (each_everywhere whole.kinds) ≡ true =
      subst (λ (states : List (Kind × ℕ)). list_any test states ≡ true) whole.states g.2 in
      let st = some_in test (each_everywhere whole.kinds) listed in
      let kind = kind_in whole.kinds st.0 st.1 in
      let man = same_man g.0.colour c st.0.0 k (eqb-true
      (cell_of_man (record { colour = g.0.colour; kind = st.0.0 })) cell
      (and_parts (cell_of_man (record { colour = g.0.colour; kind = st.0.0 }) == cell)
      (st.0.1 == s) st.2).0) in
      (g.0, g.1, man.0, subst (λ (j : Kind). Contains whole.kinds j) man.1 kind)

  no_pawn : (c : Colour) (k : Kind) (s : ℕ) → s < 64 → Stands x.from c k s → k ≢ Pawn
  no_pawn c k s ls h e =
      let g = group_of c k s ls h in (at_group g.0 g.1).0.no_pawn k g.3 e

  no_promotion : x.move.promo ≡ None
  no_promotion =
      let l = only_legal x.from x.move x.legal in
      let f = facts x.from x.move l.1 in
      let stood : Stands x.from f.man.colour f.man.kind x.move.from =
      cell_back (slice_index x.from.cells x.move.from) f.man.colour f.man.kind f.on in
      promotes_none f.man.colour f.man.kind x.move.to x.move.promo
      (no_pawn f.man.colour f.man.kind x.move.from l.0.from stood) f.promo

  -- a man outside is of a kind that stood inside
  stood_before : (c : Colour) (k : Kind) (s : ℕ) → s < 64 → Stands q c k s →
      (t : ℕ) × (t < 64) × Stands x.from c k t
  stood_before c k s ls h =
      let l = only_legal x.from x.move x.legal in
      let there : Stands (after x.from x.move) c k s =
      subst (λ (p : Board). Stands p c k s) (sym x.ends) h in
      elim (came x.from x.move from_member.valid l.0 l.1 c k s there) [
        | stayed stood ne ↦ (s, ls, stood)
        | moved j own stood was to ↦ elim was [
          | inl e ↦ (
            x.move.from,
            l.0.from,
            subst (λ (i : Kind). Stands x.from c i x.move.from) e
                stood,
          )
          | inr e ↦ absurd (no_pawn c j x.move.from l.0.from stood e)
        ]
      ]

  covered : (s : ℕ) → s < 64 → slice_index q.cells s ≢ 0 →
      has_state rules.groups (slice_index q.cells s) s ≡ true
  covered s ls some =
      let size = there_valid.fits.size in
      let small = there_valid.fits.men s 0 (omega arith) in
      let man = man_at (slice_index q.cells s) some small in
      let before = stood_before man.0 man.1 s ls man.2 in
      let g = group_of man.0 man.1 before.0 before.1 before.2 in
      let whole = (at_group g.0 g.1).0 in
      let cell = slice_index q.cells s in
      let test : Kind × ℕ → Bool = λ (st : Kind × ℕ).
      cell_of_man (record { colour = g.0.colour; kind = st.0 }) == cell && st.1 == s in
      let same : cell_of_man (record { colour = g.0.colour; kind = man.1 }) ≡ cell =
      ap (λ (c : Colour). cell_of_man (record { colour = c; kind = man.1 })) g.2 ∙ sym man.2 in
      let listed = state_in whole.kinds man.1 s g.3 ls in
      any_in (is_state cell s) rules.groups g.0 g.1
      (subst (λ (states : List (Kind × ℕ)). list_any test states ≡ true) (sym whole.states)
      (any_in test (each_everywhere whole.kinds) (man.1, s) listed
      (and_from (cell_of_man (record { colour = g.0.colour; kind = man.1 }) == cell) (s == s)
      (eq-eqb (cell_of_man (record { colour = g.0.colour; kind = man.1 })) cell same)
      (eq-eqb s s refl))))

  -- where no line holds, each group has its men
  counted : are_drawn_by_men rules ≡ true → value_by rules q ≡ Unknown → (g : GroupLine) →
      Contains rules.groups g → IsWithinCount q g
  unfolding are_drawn_by_men
  counted drawn unknown g i =
      let whole = (at_group g i).0 in
      let kinds = whole.kinds in
      let l = only_legal x.from x.move x.legal in
      let now = places_of q g kinds there_valid.fits.size whole.states in
      let before = places_of x.from g kinds from_member.valid.fits.size whole.states in
      let within = all_in (IsWithinCount x.from) rules.groups from_member.counts g i in
      let fall = each_falls q x.from g.colour
      (λ k. subst (λ (p : Board). count_of p g.colour k ≤ count_of x.from g.colour k) x.ends
      (counts_fall x.from x.move g.colour k from_member.valid l.0.to l.1 no_promotion)) kinds in
      let most = within.most in
      record {
        least = elim ((at_group g i).1) [
          | by_king e few ↦ (
              let one = kings_are q g.colour there_valid in
              let king = ap (count_each q g.colour) e in
              omega (arith, now, few, one, king))
          | by_none e ↦ omega arith
          | by_line line bound there conds least ↦
              elim (cases_lt (count_each q g.colour kinds) g.least) [
                | inr enough ↦ omega arith
                | inl short ↦ absurd (not_unknown rules.groups q rules.exits line there
                    (line_holds q g.colour kinds bound (omega arith) line.conds conds) drawn
                    unknown)
              ]
        ];
        most = omega arith;
      }

  pub none_open : are_drawn_by_men rules ≡ true → value_by rules q ≡ Unknown → ⊥
  none_open drawn unknown =
      let inside = of_member rules.groups q (record {
        valid = there_valid;
        men = covered;
        counts = all_by (IsWithinCount q) rules.groups (counted drawn unknown);
      }) in
      let outside = x.outside in cc

pub whole_set_drawn : (rules : RuleLines) → IsWholeSet rules → are_drawn_by_men rules ≡ true →
    IsDrawnOutside rules (value_by rules)
whole_set_drawn rules w drawn =
    drawn_text rules drawn (λ q x unknown. none_open rules w (value_by rules) q x drawn unknown)
