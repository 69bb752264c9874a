-- Of two files with one text `check` accepts at most one.
use Rattle.std.proofs.Common.{◌≡◌, sym, ap, subst, ◌∙◌, ℕ, List, [], take, drop, Option, Some, None, IfSome}
use Rattle.std.specs.Option.{unwrap_or}
use Rattle.frz_board.specs.Boards.{Board}
use Rattle.frz_sets.specs.declared.exit.Value.{Value}
use Rattle.frz_exits.specs.Books.{value_by}
use Rattle.frz_sets.specs.Views.{RuleLines}
use Rattle.frz_rules.specs.Text.{rules_of}
use Rattle.frz_store.specs.Files.{Files, bytes_at}
use Rattle.frz_table.specs.declared.kind.FileKind.TheVariants.{Plain}
use Rattle.frz_table.specs.Layout.{magic_of}
use Rattle.frz_table.specs.Numbers.{AreBytes}
use Rattle.frz_table.specs.Possible.{held_text}
use Rattle.frz_check.specs.OneFile.{IsOneFile}
use Rattle.frz_check.proofs.Lemmas.{same_rules}
use Rattle.frz_answer.specs.declared.status.Status.{Status}
use Rattle.frz_answer.specs.declared.status.Status.TheVariants.{Success}
use Rattle.frz_answer.specs.Answers.{Answer}
use Rattle.frz_commands_table.specs.Checking.{IsCheckedAt}
use Rattle.frz_commands_table.specs.CheckMeans.{MeansStatus, TellsExact}
use Rattle.frz_commands_table.specs.Headline.{Headline}
use Rattle.frz_commands_table.proofs.CheckMeaning.{check_means}

-- what a name holds are bytes, where they are bytes if it is there
held_bytes : (held : Option (List ℕ)) → AreBytes (unwrap_or held []) → IfSome held AreBytes
held_bytes None are = tt
held_bytes (Some bytes) are = are

-- what an answer with status 0 says
pub accepted_headline : (table : List ℕ) (files : Files) (a : Answer)
    → AreBytes (bytes_at files table)
    → IsCheckedAt table files a → a.status ≡ Success → Headline table files
accepted_headline table files a are checked done =
    let means = check_means table files a (held_bytes (files table) are) checked in
    let tells : TellsExact table files a.text = subst
    (λ (s : Status). MeansStatus table files s a.text) done means.says in
    tells.exact

-- the text of the headline is the one that the file holds
text_held : (table : List ℕ) (files : Files) (one : Headline table files)
    → held_text (files table) ≡ one.text
text_held table files one =
    ap held_text one.there ∙ ap (λ (n : ℕ). take n (drop 12 one.bytes)) one.layout.counted
    ∙ one.layout.has_text

-- of files with one text there is one that is accepted
pub one_accepted : ((rules : RuleLines) (value : Board → Value) (magic text bytes others : List ℕ) →
    IsOneFile magic text rules value bytes → IsOneFile magic text rules value others →
    bytes ≡ others) →
    (table other : List ℕ) (files others : Files) → Headline table files → Headline other others →
    held_text (files table) ≡ held_text (others other) →
    files table ≡ others other
one_accepted law table other files others one another same =
    let text : one.text ≡ another.text = sym (text_held table files one) ∙ same
    ∙ text_held other others another in
    let rules : one.rules ≡ another.rules = same_rules one.rules another.rules (rules_of one.text)
    one.accepted (ap rules_of text ∙ another.accepted) in
    let moved : IsOneFile (magic_of Plain) one.text one.rules (value_by one.rules) another.bytes =
    subst (λ (r : RuleLines). IsOneFile (magic_of Plain) one.text r (value_by r) another.bytes)
    (sym rules)
    (subst (λ (t : List ℕ). IsOneFile (magic_of Plain) t another.rules (value_by another.rules)
    another.bytes) (sym text) another.one_file) in
    let bytes : one.bytes ≡ another.bytes = law one.rules (value_by one.rules) (magic_of Plain)
    one.text one.bytes another.bytes one.one_file moved in
    one.there ∙ ap Some bytes ∙ sym another.there
