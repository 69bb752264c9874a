-- There is one verdict on the codes of both sides.
use Rattle.std.proofs.Common.{◌≡◌, ◌≢◌, refl, sym, ap, subst, ◌∙◌, ℕ, inl, inr, List, length}
use Rattle.std.specs.Prelude.{◌↔◌}
use Rattle.std.proofs.lemmas.Bool.{cases_order}
use Rattle.frz_board.specs.Boards.{Board}
use Rattle.frz_board.specs.declared.man.Colour.{Colour}
use Rattle.frz_board.specs.declared.man.Colour.TheVariants.{White, Black}
use Rattle.frz_sets.specs.declared.exit.Value.{Value}
use Rattle.frz_sets.specs.Sets.{size_of}
use Rattle.frz_sets.specs.Views.{RuleLines}
use Rattle.frz_arena.specs.Arena.{Arena}
use Rattle.frz_arena.specs.Tables.{IsExact}
use Rattle.frz_game.specs.declared.wrong.Wrong.{Wrong}
use Rattle.frz_game.specs.Bounds.{IsTableOf}
use Rattle.frz_game.specs.Games.{graph_by}
use Rattle.frz_game.proofs.Lemmas.{exact_table}
use Rattle.frz_check.specs.declared.verdict.Verdict.{Verdict}
use Rattle.frz_check.specs.declared.verdict.Verdict.TheVariants as verdict
use Rattle.frz_check.specs.Verdicts.{IsFirstWrong, IsVerdict, IsVerdictOver, given_code, kept_code}
use Rattle.frz_check.proofs.FirstWrong.{all_agree, first_below}

same_wrong : (v w : Wrong) → v.side ≡ w.side → v.number ≡ w.number → v.kept ≡ w.kept
    → v.given ≡ w.given → v ≡ w
same_wrong v w side number kept given =
    ap (λ (x : Colour). record { side = x; number = v.number; kept = v.kept; given = v.given }) side
    ∙ (ap (λ (x : ℕ). record { side = w.side; number = x; kept = v.kept; given = v.given }) number
    ∙ (ap (λ (x : ℕ). record { side = w.side; number = w.number; kept = x; given = v.given }) kept
    ∙ ap (λ (x : ℕ). record { side = w.side; number = w.number; kept = w.kept; given = x }) given))

-- where the entry is wrong, its side does not agree
wrong_differs : {M V : Type 0} (arena : Arena M ℕ V) (size : ℕ) (codes : Colour → List ℕ)
    (wrong : Wrong) →
    IsFirstWrong arena size codes wrong → kept_code codes wrong.side wrong.number ≢ given_code arena
    codes wrong.side wrong.number
wrong_differs arena size codes wrong first e = first.differs (first.kept ∙ (e ∙ sym first.given))

same_number : {M V : Type 0} (arena : Arena M ℕ V) (size : ℕ) (codes : Colour → List ℕ)
    (v w : Wrong) →
    IsFirstWrong arena size codes v → IsFirstWrong arena size codes w → v.number ≡ w.number
same_number arena size codes v w a b =
    elim (cases_order v.number w.number) [
      | inl same ↦ same
      | inr other ↦ elim other [
        | inl less ↦ absurd (wrong_differs arena size codes v a (b.before v.number less v.side))
        | inr more ↦ absurd (wrong_differs arena size codes w b (a.before w.number more w.side))
      ]
    ]

-- White's entry at the number of a wrong one of Black is not wrong
white_agrees : {M V : Type 0} (arena : Arena M ℕ V) (size : ℕ) (codes : Colour → List ℕ)
    (v w : Wrong) →
    IsFirstWrong arena size codes v → IsFirstWrong arena size codes w → v.side ≡ White
    → w.side ≡ Black → ⊥
white_agrees arena size codes v w a b white black =
    let number = same_number arena size codes v w a b in
    let agrees : kept_code codes White v.number ≡ given_code arena codes White v.number =
    subst (λ (i : ℕ). kept_code codes White i ≡ given_code arena codes White i) (sym number)
    (b.white_first black) in
    wrong_differs arena size codes v a
    (subst (λ (s : Colour). kept_code codes s v.number ≡ given_code arena codes s v.number)
    (sym white) agrees)

same_side : {M V : Type 0} (arena : Arena M ℕ V) (size : ℕ) (codes : Colour → List ℕ)
    (v w : Wrong) →
    IsFirstWrong arena size codes v → IsFirstWrong arena size codes w → v.side ≡ w.side
same_side arena size codes v w a b = by_sides v.side w.side refl refl
  where
    by_sides : (x y : Colour) → v.side ≡ x → w.side ≡ y → v.side ≡ w.side
    by_sides White White p q = p ∙ sym q
    by_sides White Black p q = absurd (white_agrees arena size codes v w a b p q)
    by_sides Black White p q = absurd (white_agrees arena size codes w v b a q p)
    by_sides Black Black p q = p ∙ sym q

one_wrong : {M V : Type 0} (arena : Arena M ℕ V) (size : ℕ) (codes : Colour → List ℕ)
    (v w : Wrong) →
    IsFirstWrong arena size codes v → IsFirstWrong arena size codes w → v ≡ w
one_wrong arena size codes v w a b =
    let side = same_side arena size codes v w a b in
    let number = same_number arena size codes v w a b in
    let kept : kept_code codes v.side v.number ≡ kept_code codes w.side w.number =
    ap (λ (s : Colour). kept_code codes s v.number) side ∙ ap (λ (i : ℕ). kept_code codes w.side i)
    number in
    let given : given_code arena codes v.side v.number ≡ given_code arena codes w.side w.number =
    ap (λ (s : Colour). given_code arena codes s v.number) side
    ∙ ap (λ (i : ℕ). given_code arena codes w.side i) number in
    same_wrong v w side number (a.kept ∙ (kept ∙ sym b.kept)) (a.given ∙ (given ∙ sym b.given))

never_exact : {M V : Type 0} (arena : Arena M ℕ V) (size : ℕ) (codes : Colour → List ℕ)
    (wrong : Wrong) →
    ((side : Colour) → IsExact arena side size (codes side)) → IsFirstWrong arena size codes wrong
    → ⊥
never_exact arena size codes wrong exact first =
    wrong_differs arena size codes wrong first ((exact wrong.side).local wrong.number first.inside)

one_over : {M V : Type 0} (arena : Arena M ℕ V) (size : ℕ) (codes : Colour → List ℕ)
    (v w : Verdict) →
    IsVerdictOver arena size codes v → IsVerdictOver arena size codes w → v ≡ w
one_over arena size codes verdict.Exact verdict.Exact a b = refl
one_over arena size codes verdict.Exact (verdict.Wrong w) a b =
    absurd (never_exact arena size codes w a b)
one_over arena size codes (verdict.Wrong v) verdict.Exact a b =
    absurd (never_exact arena size codes v b a)
one_over arena size codes (verdict.Wrong v) (verdict.Wrong w) a b =
    ap verdict.Wrong (one_wrong arena size codes v w a b)

there_over : {M V : Type 0} (arena : Arena M ℕ V) (size : ℕ) (codes : Colour → List ℕ) →
    ((side : Colour) → length (codes side) ≡ size) → (v : Verdict)
    × IsVerdictOver arena size codes v
there_over arena size codes many =
    elim (first_below arena codes size) [
      | inl agree ↦ (verdict.Exact, all_agree arena size codes many agree)
      | inr first ↦ (verdict.Wrong first.0, first.1)
    ]

-- tables are exact, as a law of the game says
abbrev pub TablesExact : RuleLines → (Board → Value) → Type 0
TablesExact rules value =
    (side : Colour) (codes : List ℕ) → IsTableOf rules value side codes →
    IsExact (graph_by rules value) side (size_of rules.groups) codes

-- a verdict by local codes is one by tables, and the other way round
pub by_tables : (rules : RuleLines) (value : Board → Value) (codes : Colour → List ℕ)
    (v : Verdict) →
    IsVerdictOver (graph_by rules value) (size_of rules.groups) codes v
    → IsVerdict rules value codes v
by_tables rules value codes verdict.Exact h =
    λ side. exact_table rules value side (codes side) (h side)
by_tables rules value codes (verdict.Wrong w) h = h

by_local_codes : (rules : RuleLines) (value : Board → Value) → TablesExact rules value →
    (codes : Colour → List ℕ) (v : Verdict) →
    IsVerdict rules value codes v → IsVerdictOver (graph_by rules value) (size_of rules.groups)
    codes v
by_local_codes rules value exact codes verdict.Exact h = λ side. exact side (codes side) (h side)
by_local_codes rules value exact codes (verdict.Wrong w) h = h

pub verdict_there : (rules : RuleLines) (value : Board → Value) (codes : Colour → List ℕ) →
    ((side : Colour) → length (codes side) ≡ size_of rules.groups) → (v : Verdict)
    × IsVerdict rules value codes v
verdict_there rules value codes many =
    let v = there_over (graph_by rules value) (size_of rules.groups) codes many in
    (v.0, by_tables rules value codes v.0 v.1)

pub one_verdict : (rules : RuleLines) (value : Board → Value) → TablesExact rules value →
    (codes : Colour → List ℕ) (v w : Verdict) →
    IsVerdict rules value codes v → IsVerdict rules value codes w → v ≡ w
one_verdict rules value exact codes v w a b =
    one_over (graph_by rules value) (size_of rules.groups) codes v w
    (by_local_codes rules value exact codes v a) (by_local_codes rules value exact codes w b)

-- it is exact just where the codes of both sides are their tables
pub exact_verdict : (rules : RuleLines) (value : Board → Value) → TablesExact rules value →
    (codes : Colour → List ℕ) (v : Verdict) →
    IsVerdict rules value codes v
    → (v ≡ verdict.Exact) ↔ ((side : Colour) → IsTableOf rules value side (codes side))
exact_verdict rules value exact codes v h = (
  λ is. subst (λ (w : Verdict). IsVerdict rules value codes w) is h,
  λ tables. one_verdict rules value exact codes v verdict.Exact h tables,
)
