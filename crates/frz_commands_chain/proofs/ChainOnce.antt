-- That `chain` has an answer, and only one, and what it means.
use Rattle.std.proofs.Common.{◌≡◌, refl, sym, ap, subst, ◌∙◌, ℕ, List, Option, Some, None, Result, Ok, Err}
use Rattle.frz_game.specs.declared.wrong.Wrong.{Wrong as WrongEntry}
use Rattle.frz_game.proofs.Lemmas.{table_one}
use Rattle.frz_rules.specs.declared.fault.RulesFault.{RulesFault}
use Rattle.frz_rules.specs.Text.{rules_of}
use Rattle.frz_rules.proofs.Lemmas.{text_sound}
use Rattle.frz_sets.specs.Sets.{size_of}
use Rattle.frz_sets.specs.Sound.{IsSound}
use Rattle.frz_sets.specs.Views.{RuleLines}
use Rattle.frz_store.specs.Files.{Files, put}
use Rattle.frz_table.specs.declared.fault.TableFault.{TableFault}
use Rattle.frz_table.specs.declared.kind.FileKind.TheVariants.{Plain, Chained}
use Rattle.frz_table.specs.Layout.{magic_of}
use Rattle.frz_table.specs.Opening.{opened, table_format}
use Rattle.frz_check.proofs.Lemmas.{one_file}
use Rattle.frz_chain.specs.Backs.{HasWrong}
use Rattle.frz_chain.specs.Books.{Back, chain_value}
use Rattle.frz_chain.proofs.Lemmas.{file_on_there}
use Rattle.frz_answer.specs.declared.status.Status.TheVariants as statuses
use Rattle.frz_answer.specs.Answers.{Answer, says, SomeAnswer}
use Rattle.frz_answer.specs.Lawful.{HasOneAnswer, IsLawful}
use Rattle.frz_answer.specs.Words.{three_words_of, unless}
use Rattle.frz_answer.proofs.Lemmas.{taking_lawful, unless_lawful}
use Rattle.frz_prelude.specs.Replies.{chained_line}
use Rattle.frz_prelude.specs.Refusals.{refusal_line, status_of, table_status}
use Rattle.frz_prelude.specs.RulesFiles.{or_fault, rules_held}
use Rattle.frz_prelude.specs.declared.refused.Refused.{Refused as Refusal}
use Rattle.frz_prelude.specs.declared.refused.Refused.TheVariants as refusals
use Rattle.frz_prelude.proofs.Lemmas.{by_table_status, refusal_said}
use Rattle.frz_commands_chain.specs.Backs.{IsBackIn}
use Rattle.frz_commands_chain.specs.Chaining.{IsChainedAt, IsChainedBy, MakesChain, MeansByStatus, MeansChain, made, refused, chain_words, chaining_at, is_named_twice}
use Rattle.frz_commands_chain.specs.Reading.{HasRules, IsRefusedBoth}
use Rattle.frz_commands_chain.proofs.BackOnce.{BackFound, back_found, never_both, not_open, one_back, one_wrong_entry, right, wrong}
use Rattle.frz_commands_chain.proofs.PairOnce.{back_opens, not_both, same_fault, same_value, wrong_opens}

pub some_chained_by : (text : List ℕ) (r : RuleLines) (back : Back) → IsSound r
    → (table : List ℕ) (m : Files) → SomeAnswer (λ a. IsChainedBy text r back table m a)
some_chained_by text r back sound table m =
    let file = file_on_there text r back sound in record {
      a = says statuses.Success (chained_line (size_of r.groups)) (put m table file.0);
      answer = (file.0, file.1, refl);
      text = λ e. cc;
    }

-- a name is refused for RULES or for BACK
pub by_refusal : (P : Refusal → Type 0) (held back_held : Option (List ℕ)) (why : Refusal)
    → IsRefusedBoth held back_held why
    → (rules_held held ≡ Err refusals.MissingRules → P refusals.MissingRules)
    → ((fault : RulesFault) → rules_held held ≡ Err (refusals.Rules fault)
    → P (refusals.Rules fault))
    → ((fault : TableFault) → HasRules held → opened (table_format Plain) back_held ≡ Err fault
    → P (refusals.Back fault))
    → ((w : WrongEntry) → HasRules held → HasWrong back_held w → P (refusals.BackWrong w)) → P why
by_refusal P held back_held (refusals.Words words) h missing bad of_back of_wrong = absurd h
by_refusal P held back_held (refusals.Fen fault) h missing bad of_back of_wrong = absurd h
by_refusal P held back_held refusals.MissingRules h missing bad of_back of_wrong = missing h
by_refusal P held back_held (refusals.Rules fault) h missing bad of_back of_wrong = bad fault h
by_refusal P held back_held (refusals.Table fault) h missing bad of_back of_wrong = absurd h
by_refusal P held back_held (refusals.Back fault) h missing bad of_back of_wrong =
    of_back fault h.0 h.1
by_refusal P held back_held (refusals.BackWrong w) h missing bad of_back of_wrong =
    of_wrong w h.0 h.1
by_refusal P held back_held refusals.Outside h missing bad of_back of_wrong = absurd h

-- it is refused for RULES alone, or for BACK where RULES is accepted
module _ (held back_held : Option (List ℕ)) where
  rules_refused : (why other : Refusal) → rules_held held ≡ Err why
      → IsRefusedBoth held back_held other → other ≡ why
  rules_refused why other e k =
      by_refusal (λ x. x ≡ why) held back_held other k
      (λ f. same_fault (rules_held held) refusals.MissingRules why f e)
      (λ fault f. same_fault (rules_held held) (refusals.Rules fault) why f e)
      (λ fault r f. absurd (not_both (rules_held held) r.0 why r.1 e))
      (λ w r f. absurd (not_both (rules_held held) r.0 why r.1 e))

  one_refusal : (why other : Refusal) → IsRefusedBoth held back_held why
      → IsRefusedBoth held back_held other → other ≡ why
  one_refusal why other h k =
      by_refusal (λ x. other ≡ x) held back_held why h
      (λ e. rules_refused refusals.MissingRules other e k)
      (λ fault e. rules_refused (refusals.Rules fault) other e k)
      (λ fault r e. by_refusal (λ x. x ≡ refusals.Back fault) held back_held other k
      (λ f. absurd (not_both (rules_held held) r.0 refusals.MissingRules r.1 f))
      (λ bad f. absurd (not_both (rules_held held) r.0 (refusals.Rules bad) r.1 f))
      (λ more s f. ap (λ (t : TableFault). refusals.Back t)
      (same_fault (opened (table_format Plain) back_held) more fault f e))
      (λ w s f. absurd
      (not_both (opened (table_format Plain) back_held) f.contents fault (wrong_opens back_held w f)
      e)))
      (λ w r e. by_refusal (λ x. x ≡ refusals.BackWrong w) held back_held other k
      (λ f. absurd (not_both (rules_held held) r.0 refusals.MissingRules r.1 f))
      (λ bad f. absurd (not_both (rules_held held) r.0 (refusals.Rules bad) r.1 f))
      (λ more s f. absurd
      (not_both (opened (table_format Plain) back_held) e.contents more (wrong_opens back_held w e)
      f))
      (λ x s f. ap (λ (t : WrongEntry). refusals.BackWrong t) (one_wrong_entry back_held x w f e)))

  never_made : (why : Refusal) (r : RuleLines) (behind : Back) → IsRefusedBoth held back_held why
      → rules_held held ≡ Ok r → IsBackIn back_held behind → ⊥
  never_made why r behind h read there =
      by_refusal (λ _. ⊥) held back_held why h
      (λ e. not_both (rules_held held) r refusals.MissingRules read e)
      (λ fault e. not_both (rules_held held) r (refusals.Rules fault) read e)
      (λ fault s e. not_both (opened (table_format Plain) back_held) there.contents fault
      (back_opens back_held behind there) e)
      (λ w s e. never_both back_held w behind e there)

module _ (rules back table : List ℕ) (m : Files) where
  refusing_so : (why : Refusal) → IsRefusedBoth (m rules) (m back) why
      → SomeAnswer (λ a. IsChainedAt rules back table m a)
  refusing_so why h = record {
    a = says (status_of why) (refusal_line why) m;
    answer = refused why h refl;
    text = refusal_said why;
  }

  by_back : (text : List ℕ) (r : RuleLines) → m rules ≡ Some text → rules_of text ≡ Ok r
      → BackFound (m back) → SomeAnswer (λ a. IsChainedAt rules back table m a)
  by_back text r there read (not_open fault e) =
      refusing_so (refusals.Back fault) ((r, ap rules_held there ∙ ap or_fault read), e)
  by_back text r there read (wrong w e) =
      refusing_so (refusals.BackWrong w) ((r, ap rules_held there ∙ ap or_fault read), e)
  by_back text r there read (right behind e) =
      let some = some_chained_by text r behind (text_sound text r read) table m in record {
        a = some.a;
        answer = made (record {
          text = text;
          there = there;
          lines = r;
          accepted = read;
          behind = behind;
          back_there = e;
          made = some.answer;
        });
        text = some.text;
      }

  by_rules : (text : List ℕ) → m rules ≡ Some text → (x : Result RuleLines RulesFault)
      → rules_of text ≡ x → SomeAnswer (λ a. IsChainedAt rules back table m a)
  by_rules text there (Err fault) e =
      refusing_so (refusals.Rules fault) (ap rules_held there ∙ ap or_fault e)
  by_rules text there (Ok r) e = by_back text r there e (back_found (m back))

  by_name : (held : Option (List ℕ)) → m rules ≡ held
      → SomeAnswer (λ a. IsChainedAt rules back table m a)
  by_name None e = refusing_so refusals.MissingRules (ap rules_held e)
  by_name (Some text) e = by_rules text e (rules_of text) refl

  pub some_chained : SomeAnswer (λ a. IsChainedAt rules back table m a)
  some_chained = by_name (m rules) refl

  -- and only one
  held_rules : (a : Answer) → (h : MakesChain rules back table m a)
      → rules_held (m rules) ≡ Ok h.lines
  held_rules a h = ap rules_held h.there ∙ ap or_fault h.accepted

  one_by : (a b : Answer) (text : List ℕ) (r : RuleLines) (behind : Back)
      → IsChainedBy text r behind table m a → IsChainedBy text r behind table m b → b ≡ a
  one_by a b text r behind (bytes, one, e) (others, other, f) =
      let same : others ≡ bytes =
      one_file r (chain_value r behind) (table_one r (chain_value r behind)) (magic_of Chained) text
      others bytes other one in
      f ∙ ap (λ (x : List ℕ). says statuses.Success (chained_line (size_of r.groups))
      (put m table x)) same ∙ sym e

  one_made : (a b : Answer) → MakesChain rules back table m a → MakesChain rules back table m b
      → b ≡ a
  one_made a b h k =
      let text : k.text ≡ h.text =
      (let e : Some k.text ≡ Some h.text = sym k.there ∙ h.there in cc) in
      let lines : k.lines ≡ h.lines = same_value (rules_held (m rules)) k.lines h.lines
      (held_rules b k) (held_rules a h) in
      one_by a b h.text h.lines h.behind h.made
      (subst (λ (t : List ℕ). IsChainedBy t h.lines h.behind table m b) text
      (subst (λ (r : RuleLines). IsChainedBy k.text r h.behind table m b) lines
      (subst (λ (x : Back). IsChainedBy k.text k.lines x table m b)
      (one_back (m back) h.behind k.behind h.back_there k.back_there) k.made)))

  one_of : (a b : Answer) → IsChainedAt rules back table m a → IsChainedAt rules back table m b
      → b ≡ a
  one_of a b (refused why h e) (refused other k f) =
      f ∙ ap (λ (w : Refusal). says (status_of w) (refusal_line w) m)
      (one_refusal (m rules) (m back) why other h k) ∙ sym e
  one_of a b (refused why h e) (made k) =
      absurd (never_made (m rules) (m back) why k.lines k.behind h (held_rules b k) k.back_there)
  one_of a b (made k) (refused why h e) =
      absurd (never_made (m rules) (m back) why k.lines k.behind h (held_rules a k) k.back_there)
  one_of a b (made h) (made k) = one_made a b h k

  one_chained : HasOneAnswer (λ a. IsChainedAt rules back table m a)
  one_chained =
      (some_chained.a, some_chained.answer, λ b k. one_of some_chained.a b some_chained.answer k)

  -- what it means
  means_status : (why : Refusal) → IsRefusedBoth (m rules) (m back) why
      → MeansByStatus rules back table m (says (status_of why) (refusal_line why) m) (status_of why)
  means_status why h =
      by_refusal (λ w. MeansByStatus rules back table m (says (status_of w) (refusal_line w) m)
      (status_of w)) (m rules) (m back) why h
      (λ e. (refusals.MissingRules, e, refl))
      (λ fault e. (refusals.Rules fault, e, refl))
      (λ fault r e.
      by_table_status (λ s. MeansByStatus rules back table m
      (says (table_status fault) (refusal_line (refusals.Back fault)) m) s) fault
      (refusals.Back fault, (r, e), refl) (refusals.Back fault, (r, e), refl))
      (λ w r e. (refusals.BackWrong w, (r, e), refl))

  means_made : (a : Answer) (h : MakesChain rules back table m a)
      → IsChainedBy h.text h.lines h.behind table m a → MeansChain rules back table m a
  means_made a h (bytes, one, e) =
      subst (λ (x : Answer). MakesChain rules back table m x → MeansChain rules back table m x)
      (sym e)
      (λ k. record { untaken = refl; says = k }) h

  means_so : (a : Answer) → IsChainedAt rules back table m a → MeansChain rules back table m a
  means_so a (refused why h e) =
      subst (λ (x : Answer). MeansChain rules back table m x) (sym e)
      (record { untaken = refl; says = means_status why h })
  means_so a (made h) = means_made a h h.made

at_lawful : (rules back table : List ℕ) → IsLawful (chaining_at rules back table)
at_lawful rules back table =
    record {
      one = λ files input. one_chained rules back table files;
      means = λ files input a are h. means_so rules back table files a h;
    }

pub chain_lawful : (words : List (List ℕ)) → IsLawful (chain_words words)
chain_lawful words =
    taking_lawful (λ (names : List ℕ × List ℕ × List ℕ). unless
    (is_named_twice names.0 names.1 names.2) (chaining_at names.0 names.1 names.2))
    (three_words_of words)
    (λ names. unless_lawful (is_named_twice names.0 names.1 names.2)
    (chaining_at names.0 names.1 names.2) (at_lawful names.0 names.1 names.2))
