-- That `sample` has an answer, and only one.
use Rattle.std.proofs.Common.{◌≡◌, refl, sym, ap, subst, ◌∙◌, ℕ, ◌<◌, ◌≤◌, List, Bool, true, false, ◌&&◌, if◌then◌else◌, Option, Some, None, Result, Ok, Err, arith}
use Rattle.std.specs.Prelude.{nat_le}
use Rattle.std.specs.List.{list_all}
use Rattle.std.proofs.lemmas.Bool.{leb-true}
use Rattle.frz_store.specs.Files.{Files}
use Rattle.frz_answer.specs.declared.end.End.{End}
use Rattle.frz_answer.specs.declared.status.Status.TheVariants.{Success, Words}
use Rattle.frz_answer.specs.Answers.{Answer, says, SomeAnswer}
use Rattle.frz_answer.specs.Ends.{Ran}
use Rattle.frz_answer.specs.Lawful.{HasOneAnswer, IsLawful}
use Rattle.frz_answer.specs.Words.{one_word_of}
use Rattle.frz_answer.specs.World.{World}
use Rattle.frz_answer.proofs.Lemmas.{one_answer, said_job, taking_lawful}
use Rattle.frz_board.specs.Boards.{Board}
use Rattle.frz_board.specs.declared.man.Colour.{Colour}
use Rattle.frz_board.specs.declared.man.Colour.TheVariants.{White, Black}
use Rattle.frz_words.specs.Numbers.{number_of, is_short, is_digit, decimal}
use Rattle.frz_sets.specs.declared.exit.Value.{Value}
use Rattle.frz_sets.specs.Sets.{size_of}
use Rattle.frz_sets.specs.Views.{RuleLines}
use Rattle.frz_rules.specs.Text.{rules_of}
use Rattle.frz_rules.specs.declared.fault.RulesFault.{RulesFault}
use Rattle.frz_exits.specs.Books.{value_by}
use Rattle.frz_game.specs.Bounds.{IsTableOf}
use Rattle.frz_game.proofs.Lemmas.{table_there, table_one}
use Rattle.frz_graph.specs.EntryCodes.{of_side}
use Rattle.frz_commands_table.specs.Sampling.{sample_text, sample_size, sample_lines, number_line, IsSampledBy, IsSampled, sampling, sampling_named, sample_words}
use Rattle.frz_commands_table.specs.declared.sample.TheConstants.{LAST_SQUARE}
use Rattle.frz_check.proofs.Lemmas.{read_small, same_rules}
use Rattle.frz_commands_table.proofs.SampleText.{text_read}

-- the table of either side is exact where both are
pub either_table : (rules : RuleLines) (value : Board → Value) (white black : List ℕ)
    → IsTableOf rules value White white → IsTableOf rules value Black black
    → (side : Colour) → IsTableOf rules value side (of_side side white black)
either_table rules value white black w b White = w
either_table rules value white black w b Black = b

-- there is an answer by the rules of the text
pub some_sampled : (k : ℕ) (r : RuleLines) → rules_of (sample_text k) ≡ Ok r → (m : Files)
    → SomeAnswer (λ a. IsSampled k m a)
some_sampled k r read m =
    let small = read_small (sample_text k) r read in
    let white = table_there r (value_by r) small White in
    let black = table_there r (value_by r) small Black in record {
      a = says Success (sample_lines k sample_size white.0 black.0) m;
      answer = (r, read, (white.0, black.0, white.1, black.1, refl));
      text = λ e. cc;
    }

pub some_at : (k : ℕ) → k < 64 → (m : Files) → SomeAnswer (λ a. IsSampled k m a)
some_at k small m = let given = text_read k small in some_sampled k given.rules given.read m

-- the text is never refused, and its rules have the size of a sample
pub never_bad : (k : ℕ) → k < 64 → (fault : RulesFault) → rules_of (sample_text k) ≡ Err fault → ⊥
never_bad k small fault e =
    let given = text_read k small in
    let ok : Result RuleLines RulesFault = Ok given.rules in
    let both : ok ≡ Err fault = sym given.read ∙ e in cc

pub size_is : (k : ℕ) → k < 64 → (r : RuleLines) → rules_of (sample_text k) ≡ Ok r
    → size_of r.groups ≡ sample_size
size_is k small r e =
    let given = text_read k small in
    ap (λ (x : RuleLines). size_of x.groups)
    (same_rules r given.rules (rules_of (sample_text k)) e given.read)
    ∙ given.size

-- a table by the values of equal rules, in an equal list
pub table_as : (r b : RuleLines) (side : Colour) (codes others : List ℕ) → b ≡ r → others ≡ codes
    → IsTableOf r (value_by b) side codes → IsTableOf r (value_by r) side others
table_as r b side codes others e f table =
    subst (λ (s : RuleLines). IsTableOf r (value_by s) side others) e
    (subst (λ (l : List ℕ). IsTableOf r (value_by b) side l) (sym f) table)

module _ (k : ℕ) (m : Files) (a b : Answer) where
  -- the tables of the rules are one
  one_by : (r : RuleLines) → IsSampledBy k r m a → IsSampledBy k r m b → b ≡ a
  one_by r (white, black, w, s, e) (whites, blacks, w', s', e') =
      let same_white : whites ≡ white = table_one r (value_by r) White whites white w' w in
      let same_black : blacks ≡ black = table_one r (value_by r) Black blacks black s' s in
      e' ∙ ap (λ (t : List ℕ). says Success (sample_lines k sample_size t blacks) m) same_white
      ∙ ap (λ (t : List ℕ). says Success (sample_lines k sample_size white t) m) same_black ∙ sym e

  one_of : IsSampled k m a → IsSampled k m b → b ≡ a
  one_of (r, read, h) (s, read', h') =
      let same : s ≡ r = same_rules s r (rules_of (sample_text k)) read' read in
      one_by r h (subst (λ (t : RuleLines). IsSampledBy k t m b) same h')

one_sampled : (k : ℕ) → k < 64 → (m : Files) → HasOneAnswer (λ a. IsSampled k m a)
one_sampled k small m =
    let some = some_at k small m in
    (some.a, some.answer, λ b h. one_of k m some.a b some.answer h)

-- a number that a word writes is that of a square
below_last : (first second third : Bool) (n k : ℕ) → third ≡ nat_le n LAST_SQUARE
    → (if first && (second && third) then Some n else None) ≡ Some k → k < 64
below_last true true true n k e h = let same : n ≡ k = cc in let small : n ≤ LAST_SQUARE =
    leb-true n LAST_SQUARE (sym e) in omega arith
below_last false second third n k e h = cc
below_last true false third n k e h = cc
below_last true true false n k e h = cc

on_board : (word : List ℕ) (k : ℕ) → number_of word LAST_SQUARE ≡ Some k → k < 64
unfolding number_of
on_board word k h = below_last (is_short word) (list_all is_digit word)
    (nat_le (decimal 0 word) LAST_SQUARE) (decimal 0 word) k refl h

named_lawful : (number : Option ℕ) → ((k : ℕ) → number ≡ Some k → k < 64)
    → IsLawful (sampling_named number)
named_lawful None small =
    said_job (sampling_named None) (λ files input. one_answer (says Words number_line files))
    (λ _ _ _ _. tt)
named_lawful (Some k) small =
    said_job (sampling k) (λ files input. one_sampled k (small k refl) files) (λ _ _ _ _. tt)

pub sample_lawful : (words : List (List ℕ)) → IsLawful (sample_words words)
sample_lawful words =
    taking_lawful (λ (word : List ℕ). sampling_named (number_of word LAST_SQUARE))
    (one_word_of words)
    (λ word. named_lawful (number_of word LAST_SQUARE) (on_board word))

-- what was done for a number was done for an equal one
pub as_named : (end : End) (old new : World) (these number : Option ℕ) → these ≡ number
    → Ran (sampling_named these) end old new → Ran (sampling_named number) end old new
as_named end old new these number e ran = subst (λ o. Ran (sampling_named o) end old new) e ran
