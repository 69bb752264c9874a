-- That `ask` has one answer, which means what it is to mean.
use Rattle.std.proofs.Common.{sym, ◌∙◌, List, ℕ}
use Rattle.frz_answer.specs.Lawful.{IsLawful}
use Rattle.frz_answer.specs.Words.{unless}
use Rattle.frz_answer.proofs.Lemmas.{taking_lawful, unless_lawful}
use Rattle.frz_atlas_prelude.specs.Names.{Names, file_names_of, has_twice}
use Rattle.frz_atlas_prelude.proofs.Lemmas.{one_over}
use Rattle.frz_commands_inquiry.specs.AskOf.{IsAskedOver}
use Rattle.frz_commands_inquiry.specs.Asking.{ask_words, asking_at, asking_named}
use Rattle.frz_commands_inquiry.proofs.Means.{ask_means}
use Rattle.frz_commands_inquiry.proofs.Unread.{some_opened}

asking_lawful : (table : List ℕ) (behind : List (List ℕ)) → IsLawful (asking_at table behind)
asking_lawful table behind = record {
  one = λ files input. one_over (IsAskedOver input files) table behind files
      (some_opened input files) (λ contents bytes tables a b h k. k ∙ sym h);
  means = λ files input a are h. ask_means table behind files input a h;
}

pub ask_lawful : (words : List (List ℕ)) → IsLawful (ask_words words)
ask_lawful words =
    taking_lawful
    (λ (names : Names). unless (has_twice words) (asking_named names))
    (file_names_of words)
    (λ names. unless_lawful (has_twice words) (asking_named names)
    (asking_lawful names.0 names.1))
