-- Rules whose exit lines the men alone show to be true.
use Rattle.std.proofs.Common.{◌≡◌, ◌≢◌, ◌≤◌, ◌<◌, ℕ, ◌⊎◌, inl, inr, Option, Some, None, Bool, true, false, not, ◌&&◌, ◌||◌, List, [], ◌∷◌, refl, sym, subst, ap, ◌∙◌, arith, slice_index}
use Rattle.std.specs.Prelude.{◌==◌, nat_le, if◌then◌else◌}
use Rattle.std.specs.List.{list_any, list_all}
use Rattle.std.proofs.lemmas.Bool.{eqb-true, cases_Bool, and_parts, and_from, or_cases}
use Rattle.std.proofs.lemmas.Bool.Decides.{nat_tests}
use Rattle.frz_board.specs.declared.man.Colour.{Colour}
use Rattle.frz_board.specs.declared.man.Colour.TheVariants.{White, Black}
use Rattle.frz_board.specs.declared.man.Kind.{Kind}
use Rattle.frz_board.specs.declared.man.Kind.TheVariants.{King, Queen, Rook, Bishop, Knight, Pawn}
use Rattle.frz_board.specs.Boards.{Board}
use Rattle.frz_board.specs.Attacking.{Stands}
use Rattle.frz_board.specs.Men.{same_colour, cell_of_man}
use Rattle.frz_board.specs.Shapes.{count_of}
use Rattle.frz_board.proofs.Lemmas.{cell-some, cell_back}
use Rattle.frz_fide.specs.Bare.{IsBare, HasOneMinor}
use Rattle.frz_fide.specs.Legal.{after, promotes}
use Rattle.frz_fide.specs.Valid.{IsValid}
use Rattle.frz_fide.proofs.Lemmas.{same_side, own_colour, only_legal, facts, counts_fall, stayed, moved, came, same_man, man_counted, one_of}
use Rattle.frz_sets.specs.declared.exit.Test.{Test}
use Rattle.frz_sets.specs.declared.exit.Test.TheVariants.{Turn, Count, On, Distance, Check, Always}
use Rattle.frz_sets.specs.declared.exit.Value.{Value}
use Rattle.frz_sets.specs.declared.exit.Value.TheVariants.{WhiteWins, BlackWins, Draw, WhiteHolds, BlackHolds, Unknown, WhiteWinsIn, BlackWinsIn}
use Rattle.frz_sets.specs.Views.{Condition, GroupLine, ExitLine, RuleLines}
use Rattle.frz_sets.specs.Sets.{has_state, is_state}
use Rattle.frz_index.specs.Members.{Member}
use Rattle.frz_index.proofs.Lemmas.{member_of}
use Rattle.frz_arena.specs.Exits.{IsExit}
use Rattle.frz_graph.specs.Books.{value_by, first_value}
use Rattle.frz_graph.specs.Conditions.{test_holds, condition_holds, conditions_hold}
use Rattle.frz_game.specs.Games.{game_of}
use Rattle.frz_game.specs.MenAlone.{HasDeadMen, IsTrueByMen, AreTrueByMen, IsDrawnOutside}
use Rattle.frz_game.specs.TextsByMen.{same_kind, has_kind, may_have, asks_at_most, say_at_most, most_of, groups_leave_at_most, leave_at_most, leave_bare, leave_minor, leave_dead, is_true_by, are_true_by_men, is_draw, are_drawn_by_men, HasNoOpenExit}
use Rattle.frz_game.proofs.Elements.{or_first, or_second}
use Rattle.frz_game.proofs.SameKinds.{same_kind_of, same_kind_means}
use Rattle.frz_game.proofs.MenAlone.{exit_valid}
use Rattle.frz_game.proofs.MenWithin.{men_within}

le_of : (m n : ℕ) → nat_le m n ≡ true → m ≤ n
le_of m n h = grind (arith, nat_tests)

-- a test that some element passes
some_passes : {X : Type 0} (f : X → Bool) (xs : List X) → list_any f xs ≡ true →
    (x : X) × (f x ≡ true)
some_passes f [] h = absurd (cc)
some_passes f (x ∷ xs) h =
    elim (cases_Bool (f x)) [
      | inl e ↦ (x, e)
      | inr e ↦ some_passes f xs (ap (λ b. b || list_any f xs) (sym e) ∙ h)
    ]

any_more : {X : Type 0} (f g : X → Bool) → ((x : X) → f x ≡ true → g x ≡ true) → (xs : List X) →
    list_any f xs ≡ true → list_any g xs ≡ true
any_more f g more [] h = h
any_more f g more (x ∷ xs) h =
    elim (cases_Bool (f x)) [
      | inl e ↦ or_first (g x) (list_any g xs) (more x e)
      | inr e ↦ or_second (g x) (list_any g xs)
          (any_more f g more xs (ap (λ b. b || list_any f xs) (sym e) ∙ h))
    ]

some_and_all : {X : Type 0} (f g : X → Bool) (xs : List X) → list_any f xs ≡ true →
    list_all g xs ≡ true → (x : X) × (f x ≡ true) × (g x ≡ true)
some_and_all f g [] h k = absurd (cc)
some_and_all f g (x ∷ xs) h k =
    let both = and_parts (g x) (list_all g xs) k in
    elim (cases_Bool (f x)) [
      | inl e ↦ (x, e, both.0)
      | inr e ↦ some_and_all f g xs (ap (λ b. b || list_any f xs) (sym e) ∙ h) both.1
    ]

same_colour_of : (c d : Colour) → c ≡ d → same_colour c d ≡ true
same_colour_of c d e = ap (λ (x : Colour). same_colour c x) (sym e) ∙ own_colour c

-- a man of a position of the set is of a kind that the set gives its side
pub kind_there : (groups : List GroupLine) (p : Board) → Member groups p → (c : Colour) (k : Kind)
    (s : ℕ) → s < 64 → Stands p c k s → has_kind groups c k ≡ true
kind_there groups p member c k s ls h =
    let cell = cell_of_man (record { colour = c; kind = k }) in
    let some : slice_index p.cells s ≢ 0 = λ e. (let n = cell-some c k in omega arith) in
    let state : has_state groups cell s ≡ true =
    subst (λ x. has_state groups x s ≡ true) h (member.men s ls some) in
    any_more (is_state cell s)
    (λ g. same_colour g.colour c && list_any (λ state. same_kind state.0 k) g.states)
    (λ g e. (
    let first = some_passes (λ (state : Kind × ℕ).
    cell_of_man (record { colour = g.colour; kind = state.0 }) == cell && state.1 == s)
    g.states e in
    let man = eqb-true (cell_of_man (record { colour = g.colour; kind = first.0.0 })) cell
    (and_parts (cell_of_man (record { colour = g.colour; kind = first.0.0 }) == cell)
    (first.0.1 == s) first.1).0 in
    and_from (same_colour g.colour c) (list_any (λ state. same_kind state.0 k) g.states)
    (same_colour_of g.colour c (same_man g.colour c first.0.0 k man).0)
    (any_more (λ (state : Kind × ℕ).
    cell_of_man (record { colour = g.colour; kind = state.0 }) == cell && state.1 == s)
    (λ (state : Kind × ℕ). same_kind state.0 k)
    (λ state w. (
    let one = eqb-true (cell_of_man (record { colour = g.colour; kind = state.0 })) cell
    (and_parts (cell_of_man (record { colour = g.colour; kind = state.0 }) == cell)
    (state.1 == s) w).0 in
    same_kind_of state.0 k (same_man g.colour c state.0 k one).1))
    g.states e)))
    groups state

-- what a test asks of a count
counts_as_asked : (t : Test) (q : Board) (c : Colour) (k : Kind) (n : ℕ) →
    asks_at_most t c k n ≡ true → test_holds t q ≡ true → count_of q c k ≤ n
counts_as_asked (Count side kind least most) q c k n h e =
    let first = and_parts (same_colour side c) (same_kind kind k && nat_le most n) h in
    let second = and_parts (same_kind kind k) (nat_le most n) first.1 in
    let range = and_parts (nat_le least (count_of q side kind)) (nat_le (count_of q side kind) most)
    e in
    let within : count_of q side kind ≤ most =
    le_of (count_of q side kind) most range.1 in
    let few : most ≤ n = le_of most n second.1 in
    let there : count_of q side k ≤ most = subst (λ (j : Kind). count_of q side j ≤ most)
    (same_kind_means kind k second.0) within in
    let mine : count_of q c k ≤ most = subst (λ (d : Colour). count_of q d k ≤ most)
    (same_side side c first.0) there in
    omega arith
counts_as_asked (Turn side) q c k n h e = absurd (cc)
counts_as_asked (On side man set) q c k n h e = absurd (cc)
counts_as_asked (Distance side square least most) q c k n h e = absurd (cc)
counts_as_asked Check q c k n h e = absurd (cc)
counts_as_asked Always q c k n h e = absurd (cc)

-- no other man than a pawn becomes another
pub promotes_none : (c : Colour) (k : Kind) (b : ℕ) (o : Option Kind) → k ≢ Pawn →
    promotes c k b o ≡ true → o ≡ None
promotes_none c k b None n h = refl
promotes_none c King b (Some j) n h = absurd (cc)
promotes_none c Queen b (Some j) n h = absurd (cc)
promotes_none c Rook b (Some j) n h = absurd (cc)
promotes_none c Bishop b (Some j) n h = absurd (cc)
promotes_none c Knight b (Some j) n h = absurd (cc)
promotes_none c Pawn b (Some j) n h = absurd (n refl)

-- a side with a pawn is one of the two
no_pawn_of : (white black : Bool) → not (white || black) ≡ true → (has_pawn : Colour → Bool) →
    has_pawn White ≡ white → has_pawn Black ≡ black → (c : Colour) → has_pawn c ≡ true → ⊥
no_pawn_of true black h has_pawn w b c e = cc
no_pawn_of false true h has_pawn w b c e = cc
no_pawn_of false false h has_pawn w b White e = cc
no_pawn_of false false h has_pawn w b Black e = cc

not_negated : (b t : Bool) → not b ≡ true → (if b then not t else t) ≡ true → t ≡ true
not_negated true t h e = absurd (cc)
not_negated false t h e = e

module _ (rules : RuleLines) (value : Board → Value) (q : Board)
    (x : IsExit (game_of rules value) q) (conds : List Condition)
    (hold : conditions_hold q conds ≡ true) where
  from_valid : IsValid q
  from_valid = exit_valid rules value q x

  kind_may : (c : Colour) (k : Kind) (s : ℕ) → s < 64 → Stands q c k s →
      may_have rules.groups c k ≡ true
  kind_may c k s ls h =
      let member = member_of rules.groups x.from x.begins in
      let l = only_legal x.from x.move x.legal in
      let there : Stands (after x.from x.move) c k s =
      subst (λ (p : Board). Stands p c k s) (sym x.ends) h in
      elim (came x.from x.move member.valid l.0 l.1 c k s there) [
        | stayed stood ne ↦ or_first (has_kind rules.groups c k) (has_kind rules.groups c Pawn)
            (kind_there rules.groups x.from member c k s ls stood)
        | moved j own stood w to ↦ elim w [
          | inl e ↦ or_first (has_kind rules.groups c k) (has_kind rules.groups c Pawn)
              (subst (λ (i : Kind). has_kind rules.groups c i ≡ true) e
              (kind_there rules.groups x.from member c j x.move.from l.0.from stood))
          | inr e ↦ or_second (has_kind rules.groups c k) (has_kind rules.groups c Pawn)
              (subst (λ (i : Kind). has_kind rules.groups c i ≡ true) e
              (kind_there rules.groups x.from member c j x.move.from l.0.from stood))
        ]
      ]

  -- where the set has no pawn, no man of a kind comes to those that the groups allow
  few_in_groups : (c : Colour) (k : Kind) (n : ℕ) →
      groups_leave_at_most rules.groups c k n ≡ true → count_of q c k ≤ n
  few_in_groups c k n h =
      let W = has_kind rules.groups White Pawn in
      let B = has_kind rules.groups Black Pawn in
      let both = and_parts (not (W || B)) (nat_le (most_of rules.groups c k) n) h in
      let member = member_of rules.groups x.from x.begins in
      let l = only_legal x.from x.move x.legal in
      let f = facts x.from x.move l.1 in
      let stood : Stands x.from f.man.colour f.man.kind x.move.from =
      cell_back (slice_index x.from.cells x.move.from) f.man.colour f.man.kind f.on in
      let no_pawn : f.man.kind ≢ Pawn = λ e. no_pawn_of W B both.0
      (λ d. has_kind rules.groups d Pawn) refl refl f.man.colour
      (subst (λ (i : Kind). has_kind rules.groups f.man.colour i ≡ true) e
      (kind_there rules.groups x.from member f.man.colour f.man.kind x.move.from l.0.from stood)) in
      let none = promotes_none f.man.colour f.man.kind x.move.to x.move.promo no_pawn f.promo in
      let fall = counts_fall x.from x.move c k member.valid l.0.to l.1 none in
      let same = ap (λ (p : Board). count_of p c k) x.ends in
      let within = men_within rules.groups x.from member c k in
      let few = le_of (most_of rules.groups c k) n both.1 in
      omega arith

  few_there : (c : Colour) (k : Kind) (n s : ℕ) → leave_at_most rules.groups conds c k n ≡ true →
      s < 64 → Stands q c k s → count_of q c k ≤ n
  few_there c k n s h ls e =
      let G = groups_leave_at_most rules.groups c k n in
      elim (or_cases (not (may_have rules.groups c k)) (G || say_at_most conds c k n) h) [
        | inl none ↦ absurd (let may = kind_may c k s ls e in
            let no : not true ≡ true = ap not (sym may) ∙ none in cc)
        | inr few ↦ elim (or_cases G (say_at_most conds c k n) few) [
          | inl within ↦ few_in_groups c k n within
          | inr says ↦ (
              let w = some_and_all (λ (cond : Condition). not cond.negated
              && asks_at_most cond.test c k n) (condition_holds q) conds says hold in
              let both = and_parts (not w.0.negated) (asks_at_most w.0.test c k n) w.1 in
              counts_as_asked w.0.test q c k n both.1
              (not_negated w.0.negated (test_holds w.0.test q) both.0 w.2))
        ]
      ]

  none_there : (c : Colour) (k : Kind) (s : ℕ) → leave_at_most rules.groups conds c k 0 ≡ true →
      s < 64 → Stands q c k s → ⊥
  none_there c k s h ls e =
      let few = few_there c k 0 s h ls e in
      let one = man_counted q c k s from_valid ls e in
      omega arith

  bare_by : (c : Colour) (k : Kind) (s : ℕ) → leave_at_most rules.groups conds c Queen 0 ≡ true →
      leave_at_most rules.groups conds c Rook 0 ≡ true →
      leave_at_most rules.groups conds c Bishop 0 ≡ true →
      leave_at_most rules.groups conds c Knight 0 ≡ true →
      leave_at_most rules.groups conds c Pawn 0 ≡ true → s < 64 → Stands q c k s → k ≡ King
  bare_by c King s queens rooks bishops knights pawns ls e = refl
  bare_by c Queen s queens rooks bishops knights pawns ls e =
      absurd (none_there c Queen s queens ls e)
  bare_by c Rook s queens rooks bishops knights pawns ls e =
      absurd (none_there c Rook s rooks ls e)
  bare_by c Bishop s queens rooks bishops knights pawns ls e =
      absurd (none_there c Bishop s bishops ls e)
  bare_by c Knight s queens rooks bishops knights pawns ls e =
      absurd (none_there c Knight s knights ls e)
  bare_by c Pawn s queens rooks bishops knights pawns ls e =
      absurd (none_there c Pawn s pawns ls e)

  pub bare_there : (c : Colour) → leave_bare rules.groups conds c ≡ true → IsBare q c
  unfolding leave_bare
  bare_there c h s k ls e =
      let L = leave_at_most rules.groups conds c in
      let a = and_parts (L Queen 0) (L Rook 0 && (L Bishop 0 && (L Knight 0 && L Pawn 0))) h in
      let b = and_parts (L Rook 0) (L Bishop 0 && (L Knight 0 && L Pawn 0)) a.1 in
      let d = and_parts (L Bishop 0) (L Knight 0 && L Pawn 0) b.1 in
      let f = and_parts (L Knight 0) (L Pawn 0) d.1 in
      bare_by c k s a.0 b.0 d.0 f.0 f.1 ls e

  -- the bishops and knights that are left
  abbrev Few : Colour → Kind → ℕ → Type 0
  Few c k n = leave_at_most rules.groups conds c k n ≡ true

  officer : (c : Colour) → Few c Queen 0 → Few c Rook 0 → Few c Pawn 0 → (k : Kind) (s : ℕ) →
      s < 64 → Stands q c k s → k ≢ King → (k ≡ Bishop) ⊎ (k ≡ Knight)
  officer c queens rooks pawns King s ls e n = absurd (n refl)
  officer c queens rooks pawns Queen s ls e n = absurd (none_there c Queen s queens ls e)
  officer c queens rooks pawns Rook s ls e n = absurd (none_there c Rook s rooks ls e)
  officer c queens rooks pawns Bishop s ls e n = inl refl
  officer c queens rooks pawns Knight s ls e n = inr refl
  officer c queens rooks pawns Pawn s ls e n = absurd (none_there c Pawn s pawns ls e)

  -- of two men, both are of the one kind, and the other is gone
  one_left : (c : Colour) (a b : Kind) → Few c a 1 → Few c b 0 → (j k : Kind) (s t : ℕ) →
      s < 64 → t < 64 → Stands q c j s → Stands q c k t → (j ≡ a) ⊎ (j ≡ b) → (k ≡ a) ⊎ (k ≡ b) →
      s ≡ t
  one_left c a b one none j k s t ls lt e f (inr u) w =
      absurd (none_there c b s none ls (subst (λ (i : Kind). Stands q c i s) u e))
  one_left c a b one none j k s t ls lt e f (inl u) (inr w) =
      absurd (none_there c b t none lt (subst (λ (i : Kind). Stands q c i t) w f))
  one_left c a b one none j k s t ls lt e f (inl u) (inl w) =
      let first = subst (λ (i : Kind). Stands q c i s) u e in
      one_of q c a s t from_valid (few_there c a 1 s one ls first) ls lt first
      (subst (λ (i : Kind). Stands q c i t) w f)

  turned : {A B : Type 0} → A ⊎ B → B ⊎ A
  turned (inl a) = inr a
  turned (inr b) = inl b

  pub minor_there : (c : Colour) → leave_minor rules.groups conds c ≡ true → HasOneMinor q c
  unfolding leave_minor
  minor_there c h =
      let L = leave_at_most rules.groups conds c in
      let parts = and_parts (L Queen 0 && (L Rook 0 && L Pawn 0))
      ((L Bishop 1 && L Knight 0) || (L Bishop 0 && L Knight 1)) h in
      let first = and_parts (L Queen 0) (L Rook 0 && L Pawn 0) parts.0 in
      let second = and_parts (L Rook 0) (L Pawn 0) first.1 in
      let kinds = officer c first.0 second.0 second.1 in
      record {
        minor = λ s k ls e n. kinds k s ls e n;
        one = λ s t j k ls lt e f nj nk.
            elim (or_cases (L Bishop 1 && L Knight 0) (L Bishop 0 && L Knight 1) parts.1) [
              | inl w ↦ (let both = and_parts (L Bishop 1) (L Knight 0) w in
                  one_left c Bishop Knight both.0 both.1 j k s t ls lt e f (kinds j s ls e nj)
                  (kinds k t lt f nk))
              | inr w ↦ (let both = and_parts (L Bishop 0) (L Knight 1) w in
                  one_left c Knight Bishop both.1 both.0 j k s t ls lt e f
                  (turned (kinds j s ls e nj)) (turned (kinds k t lt f nk)))
            ];
      }

  pub dead_there : leave_dead rules.groups conds ≡ true → HasDeadMen q
  unfolding leave_dead
  dead_there h =
      let B = leave_bare rules.groups conds in
      let M = leave_minor rules.groups conds in
      elim (or_cases (B White && M Black) (B Black && M White) h) [
        | inl w ↦ (let both = and_parts (B White) (M Black) w in record {
          side = White;
          bare = bare_there White both.0;
          minor = minor_there Black both.1;
        })
        | inr w ↦ (let both = and_parts (B Black) (M White) w in record {
          side = Black;
          bare = bare_there Black both.0;
          minor = minor_there White both.1;
        })
      ]

  pub true_there : (v : Value) → is_true_by rules.groups conds v ≡ true → IsTrueByMen v q
  true_there Draw h = dead_there h
  true_there WhiteHolds h = bare_there Black h
  true_there BlackHolds h = bare_there White h
  true_there Unknown h = tt
  true_there WhiteWins h = cc
  true_there BlackWins h = cc
  true_there (WhiteWinsIn n) h = cc
  true_there (BlackWinsIn n) h = cc

-- the first line that says a value says one that is true by the men
first_true : (rules : RuleLines) (value : Board → Value) (q : Board) →
    IsExit (game_of rules value) q → (lines : List ExitLine) →
    list_all (λ line. is_true_by rules.groups line.conds line.value) lines ≡ true →
    IsTrueByMen (first_value lines q) q
first_true rules value q x [] h = tt
first_true rules value q x (line ∷ lines) h =
    let both = and_parts (is_true_by rules.groups line.conds line.value)
    (list_all (λ l. is_true_by rules.groups l.conds l.value) lines) h in
    elim (cases_Bool (conditions_hold q line.conds)) [
      | inl e ↦ rw e (true_there rules value q x line.conds e line.value both.0)
      | inr e ↦ rw e (first_true rules value q x lines both.1)
    ]

pub text_by_men : (rules : RuleLines) → are_true_by_men rules ≡ true →
    AreTrueByMen rules (value_by rules)
unfolding are_true_by_men
text_by_men rules h q x = first_true rules (value_by rules) q x rules.exits h

pub draw_is : (v : Value) → is_draw v ≡ true → v ≡ Draw
draw_is Draw h = refl
draw_is WhiteWins h = absurd (cc)
draw_is BlackWins h = absurd (cc)
draw_is WhiteHolds h = absurd (cc)
draw_is BlackHolds h = absurd (cc)
draw_is Unknown h = absurd (cc)
draw_is (WhiteWinsIn n) h = absurd (cc)
draw_is (BlackWinsIn n) h = absurd (cc)

first_drawn : (rules : RuleLines) (value : Board → Value) (q : Board) →
    IsExit (game_of rules value) q → (lines : List ExitLine) →
    list_all (λ line. is_draw line.value && leave_dead rules.groups line.conds) lines ≡ true →
    first_value lines q ≢ Unknown → (first_value lines q ≡ Draw) × HasDeadMen q
first_drawn rules value q x [] h = λ known. absurd (known refl)
first_drawn rules value q x (line ∷ lines) h =
    let both = and_parts (is_draw line.value && leave_dead rules.groups line.conds)
    (list_all (λ l. is_draw l.value && leave_dead rules.groups l.conds) lines) h in
    elim (cases_Bool (conditions_hold q line.conds)) [
      | inl e ↦ rw e (λ known. (
          let here = and_parts (is_draw line.value) (leave_dead rules.groups line.conds) both.0 in
          (draw_is line.value here.0, dead_there rules value q x line.conds e here.1)))
      | inr e ↦ rw e (first_drawn rules value q x lines both.1)
    ]

pub drawn_text : (rules : RuleLines) → are_drawn_by_men rules ≡ true →
    HasNoOpenExit rules (value_by rules) → IsDrawnOutside rules (value_by rules)
unfolding are_drawn_by_men
drawn_text rules h known q x = first_drawn rules (value_by rules) q x rules.exits h (known q x)
