-- That a query of a table has one answer, which means what it is to mean.
use Rattle.std.proofs.Common.{ℕ, List, None}
use Rattle.frz_board.specs.Boards.{Board}
use Rattle.frz_fen.specs.Reading.{fen_of}
use Rattle.frz_answer.specs.Lawful.{IsLawful}
use Rattle.frz_answer.specs.Words.{two_words_of}
use Rattle.frz_answer.proofs.Lemmas.{one_answer, taking_lawful}
use Rattle.frz_prelude.specs.Positions.{on_position}
use Rattle.frz_prelude.proofs.Lemmas.{fen_lawful}
use Rattle.frz_commands_ask.specs.Kept.{answer_by, kept_of}
use Rattle.frz_commands_ask.specs.Querying.{querying_at, querying_words}
use Rattle.frz_commands_ask.proofs.Lemmas.{query_means}

querying_lawful : (table : List ℕ) (p : Board) → IsLawful (querying_at None table p)
querying_lawful table p = record {
  one = λ files input. one_answer (answer_by (kept_of None p (files table)) files);
  means = λ files input a are h. query_means None table p files a h;
}

pub query_lawful : (words : List (List ℕ)) → IsLawful (querying_words None words)
query_lawful words =
    taking_lawful (λ (names : List ℕ × List ℕ). on_position (querying_at None names.0)
    (fen_of names.1)) (two_words_of words)
    (λ names. fen_lawful (querying_at None names.0) (fen_of names.1)
    (λ p read. querying_lawful names.0 p))
