-- What `chain` wrote, `chaincheck` finds exact over the same back table.
use Rattle.std.proofs.Common.{◌≡◌, sym, ap, subst, ◌∙◌, ℕ, List, Bool, true, false, ◌||◌, Option, Some}
use Rattle.std.specs.Str.{bytes_eq}
use Rattle.frz_store.specs.Files.{Files, put}
use Rattle.frz_store.proofs.Lemmas.{put-off, put-same}
use Rattle.frz_check.specs.declared.verdict.Verdict.TheVariants as verdict
use Rattle.frz_answer.specs.declared.status.Status.TheVariants.{Success}
use Rattle.frz_answer.specs.Answers.{Answer}
use Rattle.frz_prelude.specs.Refusals.{status_of}
use Rattle.frz_prelude.specs.declared.refused.Refused.{Refused as Refusal}
use Rattle.frz_prelude.proofs.Lemmas.{by_table_status}
use Rattle.frz_commands_chain.specs.Backs.{IsBackIn}
use Rattle.frz_commands_chain.specs.Chaining.{IsChainedAt, MakesChain, made, refused, is_named_twice}
use Rattle.frz_commands_chain.specs.Checking.{IsCheckedPair, IsJudgedPair, chain_status, judged, refused as refused_pair}
use Rattle.frz_commands_chain.specs.Reading.{IsRefusedBoth}
use Rattle.frz_commands_chain.proofs.ChainOnce.{by_refusal}
use Rattle.frz_commands_chain.proofs.PairMeaning.{judged_on}
use Rattle.frz_commands_chain.proofs.PairOnce.{never_judged, same_verdict}

-- a refusal has another status
refusal_fails : (held back_held : Option (List ℕ)) (why : Refusal)
    → IsRefusedBoth held back_held why → status_of why ≡ Success → ⊥
refusal_fails held back_held why h =
    by_refusal (λ w. status_of w ≡ Success → ⊥) held back_held why h (λ e s. cc) (λ fault e s. cc)
    (λ fault r e. by_table_status (λ s. s ≡ Success → ⊥) fault (λ s. cc) (λ s. cc)) (λ w r e s. cc)

second_false : (b c : Bool) → (b || c) ≡ false → c ≡ false
second_false true c e = cc
second_false false c e = e

module _ (rules back table : List ℕ) (files : Files) (a : Answer) where
  pub made_of : IsChainedAt rules back table files a → a.status ≡ Success
      → MakesChain rules back table files a
  made_of (made h) done = h
  made_of (refused why h e) done =
      absurd (refusal_fails (files rules) (files back) why h
      (sym (ap (λ (x : Answer). x.status) e) ∙ done))

  pub exact_after : MakesChain rules back table files a → is_named_twice rules back table ≡ false
      → IsJudgedPair (a.files table) (a.files back) verdict.Exact
  exact_after h differ =
      let bytes = h.made.0 in
      let after : a.files ≡ put files table bytes = ap (λ (x : Answer). x.files) h.made.2 in
      let there : a.files table ≡ Some bytes = ap (λ (f : Files). f table) after
      ∙ put-same files table bytes in
      let same : a.files back ≡ files back =
      ap (λ (f : Files). f back) after ∙ put-off files table bytes back
      (second_false (bytes_eq table rules) (bytes_eq table back) differ) in
      judged_on (a.files table) (a.files back) bytes h.text h.lines h.behind there
      (subst (λ (held : Option (List ℕ)). IsBackIn held h.behind) (sym same) h.back_there)
      h.accepted h.made.1

pub finds_exact : (table back : List ℕ) (m : Files) (b : Answer)
    → IsJudgedPair (m table) (m back) verdict.Exact → IsCheckedPair table back m b
    → b.status ≡ Success
finds_exact table back m b h (refused_pair why k e) =
    absurd (never_judged (m table) (m back) why verdict.Exact k h)
finds_exact table back m b h (judged v k e) =
    ap (λ (x : Answer). x.status) e
    ∙ ap chain_status (same_verdict (m table) (m back) verdict.Exact v h k)
