-- That `chaincheck` has an answer, and only one.
use Rattle.std.proofs.Common.{◌≡◌, refl, sym, ap, subst, ◌∙◌, ℕ, List, [], Option, Some, Result, Ok, Err}
use Rattle.frz_store.specs.Files.{Files}
use Rattle.frz_game.specs.declared.wrong.Wrong.{Wrong as WrongEntry}
use Rattle.frz_game.proofs.Lemmas.{table_exact}
use Rattle.frz_sets.specs.Sets.{size_of}
use Rattle.frz_table.specs.declared.fault.TableFault.{TableFault}
use Rattle.frz_table.specs.declared.kind.FileKind.TheVariants.{Plain, Chained}
use Rattle.frz_table.specs.Opening.{Contents, opened, table_format}
use Rattle.frz_check.specs.declared.verdict.Verdict.{Verdict}
use Rattle.frz_check.specs.declared.verdict.Verdict.TheVariants as verdict
use Rattle.frz_check.specs.Kept.{kept_codes}
use Rattle.frz_check.specs.Verdicts.{IsVerdict}
use Rattle.frz_check.proofs.Lemmas.{many_codes, one_verdict, verdict_there}
use Rattle.frz_chain.specs.Backs.{HasWrong}
use Rattle.frz_chain.specs.Books.{Back, chain_value}
use Rattle.frz_chain.specs.Chains.{OpensChained}
use Rattle.frz_answer.specs.Answers.{Answer, says, SomeAnswer}
use Rattle.frz_answer.specs.Lawful.{HasOneAnswer}
use Rattle.frz_prelude.specs.Refusals.{refusal_line, status_of}
use Rattle.frz_prelude.specs.declared.refused.Refused.{Refused as Refusal}
use Rattle.frz_prelude.specs.declared.refused.Refused.TheVariants as refusals
use Rattle.frz_prelude.proofs.Lemmas.{refusal_said}
use Rattle.frz_commands_chain.specs.Backs.{IsBackIn}
use Rattle.frz_commands_chain.specs.Checking.{IsCheckedPair, IsJudgedPair, IsRefusedPair, refused, judged, chain_status, chain_verdict_line}
use Rattle.frz_commands_chain.proofs.BackOnce.{BackFound, back_found, judged_opens, never_both, not_open, one_back, one_wrong_entry, right, there_open, wrong}

text_said : (size back : ℕ) (v : Verdict) → chain_verdict_line size back v ≡ [] → ⊥
text_said size back verdict.Exact e = cc
text_said size back (verdict.Wrong w) e = cc

-- a name of a pair is refused for TABLE or for BACK
pub by_refusal : (P : Refusal → Type 0) (held back_held : Option (List ℕ)) (why : Refusal)
    → IsRefusedPair held back_held why
    → ((fault : TableFault) → opened (table_format Chained) held ≡ Err fault
    → P (refusals.Table fault))
    → ((fault : TableFault) → OpensChained held → opened (table_format Plain) back_held ≡ Err fault
    → P (refusals.Back fault))
    → ((w : WrongEntry) → OpensChained held → HasWrong back_held w → P (refusals.BackWrong w))
    → P why
by_refusal P held back_held (refusals.Words words) h of_table of_back of_wrong = absurd h
by_refusal P held back_held (refusals.Fen fault) h of_table of_back of_wrong = absurd h
by_refusal P held back_held refusals.MissingRules h of_table of_back of_wrong = absurd h
by_refusal P held back_held (refusals.Rules fault) h of_table of_back of_wrong = absurd h
by_refusal P held back_held (refusals.Table fault) h of_table of_back of_wrong = of_table fault h
by_refusal P held back_held (refusals.Back fault) h of_table of_back of_wrong =
    of_back fault h.0 h.1
by_refusal P held back_held (refusals.BackWrong w) h of_table of_back of_wrong = of_wrong w h.0 h.1
by_refusal P held back_held refusals.Outside h of_table of_back of_wrong = absurd h

-- what is read in one way is not read in another
pub not_both : {A E : Type 0} (x : Result A E) (a : A) (e : E) → x ≡ Ok a → x ≡ Err e → ⊥
not_both x a e h k = (let no : Ok a ≡ Err e = sym h ∙ k in cc)

pub same_fault : {A E : Type 0} (x : Result A E) (e f : E) → x ≡ Err e → x ≡ Err f → e ≡ f
same_fault {A} {E} x e f h k = (let same : ◌≡◌ {A = Result A E} (Err e) (Err f) = sym h ∙ k in cc)

pub same_value : {A E : Type 0} (x : Result A E) (a b : A) → x ≡ Ok a → x ≡ Ok b → a ≡ b
same_value {A} {E} x a b h k = (let same : ◌≡◌ {A = Result A E} (Ok a) (Ok b) = sym h ∙ k in cc)

-- a back table that has a wrong entry opens
pub wrong_opens : (held : Option (List ℕ)) (w : WrongEntry) → (h : HasWrong held w)
    → opened (table_format Plain) held ≡ Ok h.contents
wrong_opens held w h = judged_opens held h.bytes h.contents (verdict.Wrong w) h.there h.judged

pub back_opens : (held : Option (List ℕ)) (back : Back) → (h : IsBackIn held back)
    → opened (table_format Plain) held ≡ Ok h.contents
back_opens held back h = judged_opens held h.bytes h.contents verdict.Exact h.there h.judged

module _ (held back_held : Option (List ℕ)) where
  table_opens : (v : Verdict) → (h : IsJudgedPair held back_held v)
      → opened (table_format Chained) held ≡ Ok h.contents
  table_opens v h = ap (opened (table_format Chained)) h.there ∙ h.opens

  -- one refusal alone
  one_refusal : (why other : Refusal) → IsRefusedPair held back_held why
      → IsRefusedPair held back_held other → other ≡ why
  one_refusal why other h k =
      by_refusal (λ w. other ≡ w) held back_held why h
      (λ fault e. by_refusal (λ x. x ≡ refusals.Table fault) held back_held other k
      (λ more f. ap (λ (t : TableFault). refusals.Table t)
      (same_fault (opened (table_format Chained) held) more fault f e))
      (λ more opens f. absurd
      (not_both (opened (table_format Chained) held) opens.0 fault opens.1 e))
      (λ w opens f. absurd (not_both (opened (table_format Chained) held) opens.0 fault opens.1 e)))
      (λ fault there e. by_refusal (λ x. x ≡ refusals.Back fault) held back_held other k
      (λ more f. absurd (not_both (opened (table_format Chained) held) there.0 more there.1 f))
      (λ more opens f. ap (λ (t : TableFault). refusals.Back t)
      (same_fault (opened (table_format Plain) back_held) more fault f e))
      (λ w opens f. absurd
      (not_both (opened (table_format Plain) back_held) f.contents fault (wrong_opens back_held w f)
      e)))
      (λ w there e. by_refusal (λ x. x ≡ refusals.BackWrong w) held back_held other k
      (λ more f. absurd (not_both (opened (table_format Chained) held) there.0 more there.1 f))
      (λ more opens f. absurd
      (not_both (opened (table_format Plain) back_held) e.contents more (wrong_opens back_held w e)
      f))
      (λ x opens f. ap (λ (t : WrongEntry). refusals.BackWrong t)
      (one_wrong_entry back_held x w f e)))

  -- what is refused has no verdict
  pub never_judged : (why : Refusal) (v : Verdict) → IsRefusedPair held back_held why
      → IsJudgedPair held back_held v → ⊥
  never_judged why v h k =
      by_refusal (λ _. ⊥) held back_held why h
      (λ fault e. not_both (opened (table_format Chained) held) k.contents fault (table_opens v k)
      e)
      (λ fault opens e. not_both (opened (table_format Plain) back_held) k.back_there.contents fault
      (back_opens back_held k.behind k.back_there) e)
      (λ w opens e. never_both back_held w k.behind e k.back_there)

  module _ (v w : Verdict) (h : IsJudgedPair held back_held v)
      (k : IsJudgedPair held back_held w) where
    same_bytes : k.bytes ≡ h.bytes
    same_bytes = (let e : Some k.bytes ≡ Some h.bytes = sym k.there ∙ h.there in cc)

    pub same_contents : k.contents ≡ h.contents
    same_contents = same_value (opened (table_format Chained) held) k.contents h.contents
        (table_opens w k) (table_opens v h)

    pub same_behind : k.behind ≡ h.behind
    same_behind = one_back back_held h.behind k.behind h.back_there k.back_there

    pub same_verdict : w ≡ v
    same_verdict =
        let moved : IsVerdict h.contents.rules (chain_value h.contents.rules h.behind)
        (kept_codes h.contents h.bytes) w =
        subst (λ (b : Back). IsVerdict h.contents.rules (chain_value h.contents.rules b)
        (kept_codes h.contents h.bytes) w) same_behind
        (subst (λ (c : Contents). IsVerdict c.rules (chain_value c.rules k.behind)
        (kept_codes c h.bytes) w) same_contents
        (subst (λ (l : List ℕ). IsVerdict k.contents.rules (chain_value k.contents.rules k.behind)
        (kept_codes k.contents l) w) same_bytes k.judged)) in
        one_verdict h.contents.rules (chain_value h.contents.rules h.behind)
        (table_exact h.contents.rules (chain_value h.contents.rules h.behind))
        (kept_codes h.contents h.bytes) w v moved h.judged

module _ (table back : List ℕ) (m : Files) where
  -- there is an answer
  by_back : (contents : Contents) (bytes : List ℕ) → m table ≡ Some bytes
      → opened (table_format Chained) (Some bytes) ≡ Ok contents → BackFound (m back)
      → SomeAnswer (λ a. IsCheckedPair table back m a)
  by_back contents bytes there opens (not_open fault e) = record {
    a = says (status_of (refusals.Back fault)) (refusal_line (refusals.Back fault)) m;
    answer = refused (refusals.Back fault)
        ((contents, ap (opened (table_format Chained)) there ∙ opens), e) refl;
    text = refusal_said (refusals.Back fault);
  }
  by_back contents bytes there opens (wrong w e) = record {
    a = says (status_of (refusals.BackWrong w)) (refusal_line (refusals.BackWrong w)) m;
    answer = refused (refusals.BackWrong w)
        ((contents, ap (opened (table_format Chained)) there ∙ opens), e) refl;
    text = refusal_said (refusals.BackWrong w);
  }
  by_back contents bytes there opens (right behind e) =
      let v = verdict_there contents.rules (chain_value contents.rules behind)
      (kept_codes contents bytes) (many_codes contents bytes) in
      record {
        a = says (chain_status v.0)
            (chain_verdict_line (size_of contents.rules.groups) (size_of behind.groups) v.0) m;
        answer =
            judged v.0
            (record {
              bytes = bytes;
              there = there;
              contents = contents;
              opens = opens;
              behind = behind;
              back_there = e;
              judged = v.1;
            }) refl;
        text = text_said (size_of contents.rules.groups) (size_of behind.groups) v.0;
      }

  by_table : (x : Result Contents TableFault) → opened (table_format Chained) (m table) ≡ x
      → SomeAnswer (λ a. IsCheckedPair table back m a)
  by_table (Err fault) e = record {
    a = says (status_of (refusals.Table fault)) (refusal_line (refusals.Table fault)) m;
    answer = refused (refusals.Table fault) e refl;
    text = refusal_said (refusals.Table fault);
  }
  by_table (Ok contents) e =
      let there = there_open Chained (m table) contents e in
      by_back contents there.0 there.1 there.2 (back_found (m back))

  pub some_pair : SomeAnswer (λ a. IsCheckedPair table back m a)
  some_pair = by_table (opened (table_format Chained) (m table)) refl

  -- and only one
  one_of : (a b : Answer) → IsCheckedPair table back m a → IsCheckedPair table back m b → b ≡ a
  one_of a b (refused why h e) (refused other k f) =
      f ∙ ap (λ (w : Refusal). says (status_of w) (refusal_line w) m)
      (one_refusal (m table) (m back) why other h k) ∙ sym e
  one_of a b (refused why h e) (judged v k f) = absurd (never_judged (m table) (m back) why v h k)
  one_of a b (judged v k f) (refused why h e) = absurd (never_judged (m table) (m back) why v h k)
  one_of a b (judged v h e) (judged w k f) =
      f
      ∙ ap (λ (c : Contents). says (chain_status w)
      (chain_verdict_line (size_of c.rules.groups) (size_of k.behind.groups) w) m)
      (same_contents (m table) (m back) v w h k)
      ∙ ap (λ (x : Back). says (chain_status w)
      (chain_verdict_line (size_of h.contents.rules.groups) (size_of x.groups) w) m)
      (same_behind (m table) (m back) v w h k)
      ∙ ap (λ (x : Verdict). says (chain_status x)
      (chain_verdict_line (size_of h.contents.rules.groups) (size_of h.behind.groups) x) m)
      (same_verdict (m table) (m back) v w h k)
      ∙ sym e

  pub one_pair : HasOneAnswer (λ a. IsCheckedPair table back m a)
  one_pair = (some_pair.a, some_pair.answer, λ b k. one_of some_pair.a b some_pair.answer k)
