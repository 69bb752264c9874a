-- That each call of `premises` has one answer, which means what it is to mean.
use Rattle.std.proofs.Common.{List, ℕ}
use Rattle.frz_answer.specs.Lawful.{IsLawful}
use Rattle.frz_answer.specs.Words.{unless}
use Rattle.frz_answer.proofs.Lemmas.{taking_lawful, unless_lawful}
use Rattle.frz_atlas_prelude.specs.Names.{Names, file_names_of, has_twice}
use Rattle.frz_commands_premises.specs.Premising.{premises_words, premising_at}
use Rattle.frz_commands_premises.proofs.Meaning.{premises_mean}
use Rattle.frz_commands_premises.proofs.Once.{one_told}

premising_lawful : (rules : List ℕ) (behind : List (List ℕ)) → IsLawful (premising_at rules behind)
premising_lawful rules behind = record {
  one = λ files input. one_told rules behind files;
  means = λ files input a are h. premises_mean rules behind files are a h;
}

pub premises_lawful : (words : List (List ℕ)) → IsLawful (premises_words words)
premises_lawful words =
    taking_lawful
    (λ (names : Names). unless (has_twice words) (premising_at names.0 names.1))
    (file_names_of words)
    (λ names. unless_lawful (has_twice words) (premising_at names.0 names.1)
    (premising_lawful names.0 names.1))
