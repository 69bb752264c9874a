-- What a name holds as a back table: it is refused, or its first entry that is wrong is known, or
-- it is exact; and only one of them.
use Rattle.std.proofs.Common.{◌≡◌, refl, sym, ap, subst, ◌∙◌, ℕ, List, true, Option, Some, None, Result, Ok, Err}
use Rattle.frz_exits.specs.Books.{value_by}
use Rattle.frz_game.specs.declared.wrong.Wrong.{Wrong as WrongEntry}
use Rattle.frz_game.proofs.Lemmas.{table_exact}
use Rattle.frz_rules.specs.Text.{rules_of}
use Rattle.frz_table.specs.declared.fault.TableFault.{TableFault}
use Rattle.frz_table.specs.declared.fault.TableFault.TheVariants.{Missing}
use Rattle.frz_table.specs.declared.kind.FileKind.{FileKind}
use Rattle.frz_table.specs.declared.kind.FileKind.TheVariants.{Plain}
use Rattle.frz_table.specs.Opening.{Contents, opened, table_format}
use Rattle.frz_table.proofs.Lemmas.{belongs, opened_missing}
use Rattle.frz_check.specs.declared.verdict.Verdict.{Verdict}
use Rattle.frz_check.specs.declared.verdict.Verdict.TheVariants.{Exact, Wrong}
use Rattle.frz_check.specs.Kept.{kept_codes}
use Rattle.frz_check.specs.Verdicts.{IsVerdict}
use Rattle.frz_check.proofs.Lemmas.{few_plies, many_codes, one_verdict, verdict_on, verdict_there}
use Rattle.frz_chain.specs.Backs.{HasWrong, IsBackJudged}
use Rattle.frz_chain.specs.Books.{Back}
use Rattle.frz_chain.specs.ExactBacks.{is_exact}
use Rattle.frz_chain.specs.FileOn.{back_of}
use Rattle.frz_chain.proofs.Lemmas.{judged_exact}
use Rattle.frz_commands_chain.specs.Backs.{IsBackIn}

-- what opens is there
open_there : (kind : FileKind) (held : Option (List ℕ)) (contents : Contents)
    → opened (table_format kind) held ≡ Ok contents
    → (bytes : List ℕ) × (held ≡ Some bytes)
open_there kind None contents e =
    (let no : ◌≡◌ {A = Result Contents TableFault} (Err Missing) (Ok contents) = sym
    (opened_missing (table_format kind)) ∙ e in cc)
open_there kind (Some bytes) contents e = (bytes, refl)

pub there_open : (kind : FileKind) (held : Option (List ℕ)) (contents : Contents)
    → opened (table_format kind) held ≡ Ok contents
    → (bytes : List ℕ) × (held ≡ Some bytes)
    × (opened (table_format kind) (Some bytes) ≡ Ok contents)
there_open kind held contents e =
    let there = open_there kind held contents e in
    (there.0, there.1, ap (opened (table_format kind)) (sym there.1) ∙ e)

-- the verdict on a plain file that opens
pub judged_so : (bytes : List ℕ) (contents : Contents) (v : Verdict)
    → opened (table_format Plain) (Some bytes) ≡ Ok contents
    → IsVerdict contents.rules (value_by contents.rules) (kept_codes contents bytes) v
    → IsBackJudged bytes contents v
judged_so bytes contents v opens h =
    let rules = contents.rules in
    let read : rules_of contents.text ≡ Ok contents.rules =
    (belongs (table_format Plain) bytes contents opens).read in
    record {
      opens = opens;
      codes = h;
      told = λ are.
          verdict_on Plain (value_by contents.rules) contents bytes v are
          (table_exact contents.rules (value_by contents.rules))
          (few_plies contents.text contents.rules read) read opens h;
    }

pub data BackFound (held : Option (List ℕ)) : Type 0 where
  not_open : (fault : TableFault) → opened (table_format Plain) held ≡ Err fault → BackFound held
  wrong : (w : WrongEntry) → HasWrong held w → BackFound held
  right : (back : Back) → IsBackIn held back → BackFound held

by_verdict : (held : Option (List ℕ)) (bytes : List ℕ) → held ≡ Some bytes
    → (contents : Contents) (v : Verdict) → IsBackJudged bytes contents v → BackFound held
by_verdict held bytes there contents Exact h =
    right (back_of contents bytes)
    (record { bytes = bytes; there = there; contents = contents; judged = h; keeps = refl })
by_verdict held bytes there contents (Wrong w) h =
    wrong w (record { bytes = bytes; there = there; contents = contents; judged = h })

by_opening : (held : Option (List ℕ)) (x : Result Contents TableFault)
    → opened (table_format Plain) held ≡ x → BackFound held
by_opening held (Err fault) e = not_open fault e
by_opening held (Ok contents) e =
    let there = there_open Plain held contents e in
    let v = verdict_there contents.rules (value_by contents.rules) (kept_codes contents there.0)
    (many_codes contents there.0) in
    by_verdict held there.0 there.1 contents v.0 (judged_so there.0 contents v.0 there.2 v.1)

pub back_found : (held : Option (List ℕ)) → BackFound held
back_found held = by_opening held (opened (table_format Plain) held) refl

-- bytes that are judged open
pub judged_opens : (held : Option (List ℕ)) (bytes : List ℕ) (contents : Contents) (v : Verdict)
    → held ≡ Some bytes → IsBackJudged bytes contents v
    → opened (table_format Plain) held ≡ Ok contents
judged_opens held bytes contents v there h = ap (opened (table_format Plain)) there ∙ h.opens

-- one file has one verdict, and is one back table
module _ (held : Option (List ℕ)) (bytes others : List ℕ) (contents other : Contents)
    (v w : Verdict) (there : held ≡ Some bytes) (other_there : held ≡ Some others)
    (h : IsBackJudged bytes contents v) (k : IsBackJudged others other w) where
  same_bytes : others ≡ bytes
  same_bytes = (let e : Some others ≡ Some bytes = sym other_there ∙ there in cc)

  same_contents : other ≡ contents
  same_contents =
      (let e : ◌≡◌ {A = Result Contents TableFault} (Ok other) (Ok contents) =
      sym k.opens ∙ ap (λ (l : List ℕ). opened (table_format Plain) (Some l)) same_bytes
      ∙ h.opens in cc)

  pub same_verdict : v ≡ w
  same_verdict =
      let moved : IsBackJudged bytes contents w =
      subst (λ (c : Contents). IsBackJudged bytes c w) same_contents
      (subst (λ (l : List ℕ). IsBackJudged l other w) same_bytes k) in
      one_verdict contents.rules (value_by contents.rules)
      (table_exact contents.rules (value_by contents.rules)) (kept_codes contents bytes) v w
      h.codes moved.codes

  pub same_back : back_of other others ≡ back_of contents bytes
  same_back = ap (λ (l : List ℕ). back_of other l) same_bytes
      ∙ ap (λ (c : Contents). back_of c bytes) same_contents

-- so the answers exclude each other
pub never_both : (held : Option (List ℕ)) (w : WrongEntry) (back : Back) → HasWrong held w
    → IsBackIn held back → ⊥
never_both held w back h k =
    (let e : Wrong w ≡ Exact = same_verdict held h.bytes k.bytes h.contents k.contents
    (Wrong w) Exact h.there k.there h.judged k.judged in cc)

pub one_wrong_entry : (held : Option (List ℕ)) (w x : WrongEntry) → HasWrong held w
    → HasWrong held x → w ≡ x
one_wrong_entry held w x h k =
    (let e : Wrong w ≡ Wrong x = same_verdict held h.bytes k.bytes h.contents k.contents (Wrong w)
    (Wrong x) h.there k.there h.judged k.judged in cc)

pub one_back : (held : Option (List ℕ)) (a b : Back) → IsBackIn held a → IsBackIn held b → b ≡ a
one_back held a b h k =
    k.keeps ∙ same_back held h.bytes k.bytes h.contents k.contents Exact Exact h.there k.there
    h.judged k.judged ∙ sym h.keeps

-- and it is found to be exact
pub back_exact : (held : Option (List ℕ)) (back : Back) → IsBackIn held back → is_exact held ≡ true
back_exact held back h = ap is_exact h.there ∙ judged_exact h.bytes h.contents h.judged
