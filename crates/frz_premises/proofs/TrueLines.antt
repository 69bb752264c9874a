-- A line that is not believed is true at each exit that it decides.
use Rattle.std.proofs.Common.{◌≡◌, ◌+◌, ℕ, zero, suc, inl, inr, Bool, true, false, List, [], ◌∷◌, map, All, Option, Some, None, refl, sym, subst, ap, ◌∙◌, arith, cond}
use Rattle.std.specs.Prelude.{slice_get, find, count_by}
use Rattle.std.specs.List.{Contains, enumerate_from, list_any, position_from}
use Rattle.std.proofs.lemmas.Bool.{cases_Bool}
use Rattle.std.proofs.lemmas.List.Elements.{All-head, All-tail}
use Rattle.std.proofs.lemmas.List.Sums.{sum_by-cons}
use Rattle.frz_board.specs.Boards.{Board}
use Rattle.frz_fide.specs.Legal.{after}
use Rattle.frz_sets.specs.declared.exit.Value.{Value}
use Rattle.frz_sets.specs.declared.exit.Value.TheVariants.{WhiteWins, BlackWins, Draw, WhiteHolds, BlackHolds, Unknown, WhiteWinsIn, BlackWinsIn}
use Rattle.frz_sets.specs.Views.{ExitLine, RuleLines}
use Rattle.frz_exits.specs.Books.{value_by}
use Rattle.frz_arena.specs.Exits.{IsExit}
use Rattle.frz_arena.proofs.Lemmas.{none_in_empty}
use Rattle.frz_game.specs.Games.{game_of}
use Rattle.frz_game.specs.Values.{AreTrueExits, IsTrueValue}
use Rattle.frz_backs.specs.Links.{AreExact, AreTrueLines, Link, backs_of, own_over, value_over}
use Rattle.frz_backs.proofs.Lemmas.{link_exits_true, tables_true}
use Rattle.frz_premises.specs.declared.basis.Basis.{Basis}
use Rattle.frz_premises.specs.declared.basis.Basis.TheVariants.{Believed}
use Rattle.frz_exits.specs.Values.{is_unknown}
use Rattle.frz_premises.specs.Bases.{asked_of, bases_of, basis_at, basis_of, believed_of, by_need, by_tables, is_believed}
use Rattle.frz_premises.specs.Believing.{BeliefHolds}
use Rattle.frz_premises.specs.Deciding.{decided_by, decides}
use Rattle.frz_premises.specs.Saying.{none_says, says_as_much, says_at_each}
use Rattle.frz_premises.specs.WaysOut.{outside_of}
use Rattle.frz_premises.proofs.Exits.{exits_are_listed}
use Rattle.frz_premises.proofs.FirstLines.{first_cases}
use Rattle.frz_premises.proofs.InLists.{in_filter}
use Rattle.frz_premises.proofs.MenShow.{men_true}
use Rattle.frz_premises.proofs.Resting.{Resting, none_asked, resting, shown_or_asked, some_says}
use Rattle.frz_premises.proofs.TableWords.{Proves, all_prove}

-- what one of several tables says is true where each of them says what is true
some_proves : (links : List Link) (v : Value) (q : Board) → All Proves links →
    list_any (λ link. says_as_much v link q) links ≡ true → IsTrueValue v q
some_proves [] v q proves h = absurd (cc)
some_proves (link ∷ links) v q proves h =
    elim (cases_Bool (says_as_much v link q)) [
      | inl says ↦ All-head Proves link links proves v q says
      | inr silent ↦ some_proves links v q (All-tail Proves link links proves)
          (let rest = rw silent at h in rest)
    ]

-- an unknown value is true, and so is one that the men show
unknown_true : (v : Value) (q : Board) → is_unknown v ≡ true → IsTrueValue v q
unknown_true Unknown q h = tt
unknown_true WhiteWins q h = absurd (cc)
unknown_true BlackWins q h = absurd (cc)
unknown_true Draw q h = absurd (cc)
unknown_true WhiteHolds q h = absurd (cc)
unknown_true BlackHolds q h = absurd (cc)
unknown_true (WhiteWinsIn n) q h = absurd (cc)
unknown_true (BlackWinsIn n) q h = absurd (cc)

-- no exit needs belief where the tables are asked
tables_told : (links : List Link) (v : Value) (asked : List Board) (q : Board) →
    Contains asked q → is_believed (by_tables links v asked) ≡ false →
    list_any (λ link. says_as_much v link q) links ≡ true
tables_told links v asked q i h = by_find (find (none_says links v) asked) refl
  where
    by_find : (need : Option Board) → find (none_says links v) asked ≡ need →
        list_any (λ link. says_as_much v link q) links ≡ true
    by_find None e = some_says links v asked q e i
    by_find (Some first) e =
        absurd (let told : is_believed (Believed first) ≡ false =
        sym (ap (λ (o : Option Board). is_believed
        (by_need o (position_from (says_at_each v asked) 0 links))) e) ∙ h in cc)

-- what shows that a value is true at an exit that gets it
shown_line_is_true : (rules : RuleLines) (value : Board → Value) (links : List Link)
    → All Proves links →
    (v : Value) (q : Board) → IsExit (game_of rules value) q → (qs : List Board) →
    Contains qs q → is_believed (basis_at links v qs) ≡ false → IsTrueValue v q
shown_line_is_true rules value links proves v q x qs i h =
    elim (resting links v qs) [
      | Resting.of_none none is ↦ absurd (none_in_empty q
          (subst (λ (l : List Board). Contains l q) none i))
      | Resting.of_unknown unknown is ↦ unknown_true v q unknown
      | Resting.of_men none is ↦ men_true rules value v q x (none_asked v qs q none i)
      | Resting.of_asked known is ↦ elim (shown_or_asked v qs q i) [
        | inl shown ↦ men_true rules value v q x shown
        | inr asked ↦ some_proves links v q proves
            (tables_told links v (asked_of v qs) q asked
            (sym (ap is_believed is) ∙ h))
      ]
    ]

pub line_true : (leans : Bool) (rules : RuleLines) (value : Board → Value) (links : List Link) →
    All Proves links → (i : ℕ) (line : ExitLine) → slice_get rules.exits i ≡ Some line →
    is_believed (basis_of leans rules links i line) ≡ false → (q : Board) →
    IsExit (game_of rules value) q → decides leans rules links i q ≡ true → IsTrueValue line.value q
line_true leans rules value links proves i line there h q x d =
    shown_line_is_true rules value links proves line.value q x
    (decided_by leans rules links i (outside_of rules.groups))
    (in_filter (decides leans rules links i) (outside_of rules.groups) q
    (exits_are_listed rules value q x) d) h

-- none of several is counted
zero_parts : (t : Bool) (n : ℕ) → cond t 1 0 + n ≡ 0 → (t ≡ false) × (n ≡ 0)
zero_parts true n h = absurd (omega arith)
zero_parts false n h = (refl, omega arith)

counts_none : (p : Basis → Bool) (b : Basis) (bs : List Basis) → count_by p (b ∷ bs) ≡ 0 →
    (p b ≡ false) × (count_by p bs ≡ 0)
counts_none p b bs h =
    zero_parts (p b) (count_by p bs) (sym (sum_by-cons (λ x. cond (p x) 1 0) b bs) ∙ h)

none_counted : (p : Basis → Bool) (f : ℕ × ExitLine → Basis) (n : ℕ) (lines : List ExitLine)
    (i j : ℕ) (line : ExitLine) → j ≡ n + i →
    count_by p (map f (enumerate_from n lines)) ≡ 0 → slice_get lines i ≡ Some line →
    p (f (j, line)) ≡ false
none_counted p f n [] i j line e h there = absurd (cc)
none_counted p f n (x ∷ lines) zero j line e h there =
    let same : x ≡ line = cc in
    let place : n ≡ j = omega arith in
    let parts = counts_none p (f (n, x)) (map f (enumerate_from (n + 1) lines)) h in
    subst (λ (l : ExitLine). p (f (j, l)) ≡ false) same
    (subst (λ (k : ℕ). p (f (k, x)) ≡ false) place parts.0)
none_counted p f n (x ∷ lines) (suc i) j line e h there =
    let parts = counts_none p (f (n, x)) (map f (enumerate_from (n + 1) lines)) h in
    none_counted p f (n + 1) lines i j line (omega arith) parts.1 there

not_believed : (leans : Bool) (rules : RuleLines) (links : List Link) (i : ℕ) (line : ExitLine) →
    believed_of leans rules links ≡ 0 → slice_get rules.exits i ≡ Some line →
    is_believed (basis_of leans rules links i line) ≡ false
unfolding bases_of
not_believed leans rules links i line h there =
    none_counted is_believed (λ e. basis_of leans rules links e.0 e.1) 0 rules.exits i i line
    (omega arith) h there

-- where no line is believed, what is believed holds
pub none_holds : (leans : Bool) (rules : RuleLines) (links : List Link) → believed_of leans rules links ≡ 0 →
    BeliefHolds leans rules links
none_holds leans rules links none i line q there h x d =
    absurd (let no : true ≡ false = sym h ∙ not_believed leans rules links i line none there in cc)

-- where what is believed holds, the exits are true
pub exits_true_by : (leans : Bool) (rules : RuleLines) (links : List Link) → All Proves links →
    BeliefHolds leans rules links → AreTrueExits rules (own_over leans rules (backs_of links))
exits_true_by leans rules links proves holds p m member legal outside =
    let q = after p m in
    let x : IsExit (game_of rules (value_by rules)) q = record {
      from = p;
      move = m;
      begins = member;
      legal = legal;
      ends = refl;
      outside = outside;
    } in
    elim (first_cases leans rules links q) [
      | inl unknown ↦ subst (λ (v : Value). IsTrueValue v q) (sym unknown) tt
      | inr (i, line, d, given) ↦ subst (λ (v : Value). IsTrueValue v q) (sym given.value)
          (elim (cases_Bool (is_believed (basis_of leans rules links i line))) [
            | inl believed ↦ holds i line q given.there believed x d
            | inr shown ↦ line_true leans rules (value_by rules) links proves i line given.there
                shown q x d
          ])
    ]

pub true_where : (leans : Bool) (rules : RuleLines) (links : List Link) → AreExact links →
    AreTrueLines links → BeliefHolds leans rules links →
    AreTrueExits rules (own_over leans rules (backs_of links))
true_where leans rules links exact own holds =
    exits_true_by leans rules links (all_prove links exact own) holds

pub true_over : (leans : Bool) (rules : RuleLines) (links : List Link) → AreExact links →
    AreTrueLines links → BeliefHolds leans rules links →
    AreTrueExits rules (value_over leans rules (backs_of links))
true_over leans rules links exact own holds =
    link_exits_true leans rules (backs_of links) (tables_true links exact own)
    (true_where leans rules links exact own holds)
