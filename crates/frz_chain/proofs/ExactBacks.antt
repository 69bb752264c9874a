-- A back table is known to be exact by the verdict on it.
use Rattle.std.proofs.Common.{◌≡◌, ◌≢◌, refl, sym, ap, ◌∙◌, ◌==◌, ◌<◌, ℕ, zero, suc, Bool, true, false, if◌then◌else◌, inl, inr, List, Option, Some, None, Result, Ok, Err, arith}
use Rattle.std.proofs.lemmas.Bool.{and_from, and_left, and_right, cases_lt, eq-eqb, ne_eqb}
use Rattle.frz_board.specs.declared.man.Colour.{Colour}
use Rattle.frz_board.specs.declared.man.Colour.TheVariants.{White, Black}
use Rattle.frz_arena.specs.Arena.{Arena}
use Rattle.frz_arena.specs.Tables.{IsExact}
use Rattle.frz_exits.specs.Books.{value_by}
use Rattle.frz_game.specs.Games.{graph_by}
use Rattle.frz_game.specs.declared.wrong.Wrong.{Wrong}
use Rattle.frz_game.proofs.Lemmas.{table_exact}
use Rattle.frz_sets.specs.Sets.{size_of}
use Rattle.frz_table.specs.declared.fault.TableFault.{TableFault}
use Rattle.frz_table.specs.declared.kind.FileKind.TheVariants.{Plain}
use Rattle.frz_table.specs.Opening.{Contents, opened, table_format}
use Rattle.frz_build.specs.Verdict.TheVariants as verdict
use Rattle.frz_build.specs.Kept.{kept_codes}
use Rattle.frz_build.specs.Verdicts.{AgreeAt, IsFirstWrong, given_code, kept_code}
use Rattle.frz_chain.specs.Backs.{HasWrong, IsBackJudged}
use Rattle.frz_chain.specs.ExactBacks.{agree_at, all_agree, if_exact, is_exact, is_exact_by}

module _ {M V : Type 0} (arena : Arena M ℕ V) (codes : Colour → List ℕ) where
  -- where the codes of both sides agree they are found to
  agree_there : (i : ℕ) → AgreeAt arena codes i → agree_at arena codes i ≡ true
  agree_there i agree =
      and_from (kept_code codes White i == given_code arena codes White i)
      (kept_code codes Black i == given_code arena codes Black i)
      (eq-eqb (kept_code codes White i) (given_code arena codes White i) (agree White))
      (eq-eqb (kept_code codes Black i) (given_code arena codes Black i) (agree Black))

  all_agree_where_each : (n : ℕ) → ((i : ℕ) → i < n → AgreeAt arena codes i)
      → all_agree arena codes n ≡ true
  unfolding all_agree
  all_agree_where_each zero agree = refl
  all_agree_where_each (suc n) agree =
      and_from (all_agree arena codes n) (agree_at arena codes n)
      (all_agree_where_each n (λ i l. agree i (omega (arith, l))))
      (agree_there n (agree n (omega arith)))

  -- and where one differs they are not
  differ_there : (side : Colour) (i : ℕ) → kept_code codes side i ≢ given_code arena codes side i
      → agree_at arena codes i ≡ false
  differ_there White i differ =
      and_left (kept_code codes White i == given_code arena codes White i)
      (kept_code codes Black i == given_code arena codes Black i)
      (ne_eqb (kept_code codes White i) (given_code arena codes White i) differ)
  differ_there Black i differ =
      and_right (kept_code codes White i == given_code arena codes White i)
      (kept_code codes Black i == given_code arena codes Black i)
      (ne_eqb (kept_code codes Black i) (given_code arena codes Black i) differ)

  some_differ : (n i : ℕ) → i < n → agree_at arena codes i ≡ false → all_agree arena codes n ≡ false
  unfolding all_agree
  some_differ zero i l e = absurd (omega (arith, l))
  some_differ (suc n) i l e =
      elim (cases_lt i n) [
        | inl below ↦ and_left (all_agree arena codes n) (agree_at arena codes n)
            (some_differ n i below e)
        | inr above ↦
            (let same : i ≡ n = omega (arith, l, above) in
            and_right (all_agree arena codes n) (agree_at arena codes n)
            (ap (λ k. agree_at arena codes k) (sym same) ∙ e))
      ]

  exact_agree : (size : ℕ) → ((side : Colour) → IsExact arena side size (codes side))
      → all_agree arena codes size ≡ true
  exact_agree size exact = all_agree_where_each size (λ i l side. (exact side).local i l)

  wrong_differ : (size : ℕ) (wrong : Wrong) → IsFirstWrong arena size codes wrong
      → all_agree arena codes size ≡ false
  wrong_differ size wrong h =
      some_differ size wrong.number h.inside
      (differ_there wrong.side wrong.number (λ e. h.differs (h.kept ∙ e ∙ sym h.given)))

-- bytes that open are exact where their codes agree
by_opening : (bytes : List ℕ) (contents : Contents)
    → opened (table_format Plain) (Some bytes) ≡ Ok contents
    → is_exact (Some bytes) ≡ all_agree (graph_by contents.rules (value_by contents.rules))
    (kept_codes contents bytes) (size_of contents.rules.groups)
unfolding is_exact
by_opening bytes contents opens = ap (λ (x : Result Contents TableFault). is_exact_by x bytes) opens

pub judged_exact : (bytes : List ℕ) (contents : Contents)
    → IsBackJudged bytes contents verdict.Exact → is_exact (Some bytes) ≡ true
judged_exact bytes contents h =
    let value = value_by contents.rules in
    by_opening bytes contents h.opens
    ∙ exact_agree (graph_by contents.rules value) (kept_codes contents bytes)
    (size_of contents.rules.groups)
    (λ side. table_exact contents.rules value side (kept_codes contents bytes side)
    (h.codes side))

pub judged_wrong : (held : Option (List ℕ)) (wrong : Wrong) → HasWrong held wrong
    → is_exact held ≡ false
judged_wrong held wrong h =
    let contents = h.contents in
    ap is_exact h.there
    ∙ by_opening h.bytes contents h.judged.opens
    ∙ wrong_differ (graph_by contents.rules (value_by contents.rules)) (kept_codes contents h.bytes)
    (size_of contents.rules.groups) wrong h.judged.codes

pub not_open : (held : Option (List ℕ)) (fault : TableFault)
    → opened (table_format Plain) held ≡ Err fault → is_exact held ≡ false
unfolding is_exact
not_open None fault e = refl
not_open (Some bytes) fault e = ap (λ (x : Result Contents TableFault). is_exact_by x bytes) e

-- if the back table is exact, `if_exact` is the whole count
pub all_if_exact : (held : Option (List ℕ)) → is_exact held ≡ true → (n : ℕ) → if_exact held n ≡ n
all_if_exact held exact n = ap (λ (b : Bool). if b then n else 0) exact
