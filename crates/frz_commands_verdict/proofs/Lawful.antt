-- That each call of `verdict` has one answer, which means what it is to mean.
use Rattle.std.proofs.Common.{List, ℕ}
use Rattle.frz_board.specs.Boards.{Board}
use Rattle.frz_fen.specs.Reading.{fen_of}
use Rattle.frz_answer.specs.Lawful.{IsLawful}
use Rattle.frz_prelude.proofs.Lemmas.{fen_lawful}
use Rattle.frz_commands_verdict.specs.Verdicting.{verdict_named, verdict_on, verdict_words}
use Rattle.frz_atlas_prelude.specs.Given.{GivenNames}
use Rattle.frz_commands_verdict.proofs.Meaning.{verdict_means}
use Rattle.frz_commands_verdict.proofs.Once.{one_verdict}
use Rattle.frz_atlas_prelude.proofs.Lemmas.{given_lawful}

on_lawful : (table : List ℕ) (behind : List (List ℕ)) (p : Board)
    → IsLawful (verdict_on table behind p)
on_lawful table behind p = record {
  one = λ files input. one_verdict table behind p files;
  means = λ files input a are h. verdict_means table behind p files are a h;
}

named_lawful : (names : GivenNames) → IsLawful (verdict_named names)
named_lawful names =
    fen_lawful (verdict_on names.table names.behind) (fen_of names.fen)
    (λ p read. on_lawful names.table names.behind p)

pub verdict_lawful : (words : List (List ℕ)) → IsLawful (verdict_words words)
verdict_lawful words = given_lawful verdict_named named_lawful words
