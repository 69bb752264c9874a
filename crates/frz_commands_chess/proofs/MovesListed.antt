-- The answers of `moves` and `sans` are lawful, and the steps of their texts.
use Rattle.std.proofs.Common.{ℕ, ◌+◌, ◌≤◌, List, arith}
use Rattle.frz_board.specs.Boards.{Board}
use Rattle.frz_fen.specs.Reading.{fen_of}
use Rattle.frz_answer.specs.declared.status.Status.TheVariants.{Success}
use Rattle.frz_answer.specs.Answers.{says}
use Rattle.frz_answer.specs.Lawful.{IsLawful}
use Rattle.frz_answer.specs.Words.{one_word_of, taking}
use Rattle.frz_answer.proofs.Lemmas.{one_answer, said_job, taking_lawful}
use Rattle.frz_prelude.specs.Positions.{on_position}
use Rattle.frz_prelude.proofs.Lemmas.{fen_lawful}
use Rattle.frz_commands_chess.specs.declared.notation.Notation.{Notation}
use Rattle.frz_commands_chess.specs.declared.notation.Notation.TheVariants.{Coordinates, Algebraic}
use Rattle.frz_commands_chess.specs.Listing.{text_by, steps_by, moves_line, listing, moves_words, sans_words}

listing_lawful : (notation : Notation) (p : Board) → IsLawful (listing notation p)
listing_lawful notation p =
    said_job (listing notation p)
    (λ files input. one_answer (says Success (moves_line (text_by notation p) p) files))
    (λ _ _ _ _. tt)

by_notation : (notation : Notation) (words : List (List ℕ))
    → IsLawful (taking (λ fen. on_position (listing notation) (fen_of fen)) (one_word_of words))
by_notation notation words =
    taking_lawful (λ fen. on_position (listing notation) (fen_of fen)) (one_word_of words)
    (λ fen. fen_lawful (listing notation) (fen_of fen) (λ p read. listing_lawful notation p))

pub moves_lawful : (words : List (List ℕ)) → IsLawful (moves_words words)
moves_lawful words = by_notation Coordinates words

pub sans_lawful : (words : List (List ℕ)) → IsLawful (sans_words words)
sans_lawful words = by_notation Algebraic words

-- no text takes no step
pub no_steps : (notation : Notation) → steps_by notation 0 ≤ 0
no_steps Coordinates = omega arith
no_steps Algebraic = omega arith

-- one text more
pub more_steps : (notation : Notation) (i : ℕ)
    → steps_by notation i + steps_by notation 1 ≤ steps_by notation (i + 1)
more_steps Coordinates i = omega arith
more_steps Algebraic i = omega arith

-- fewer texts take no more
pub fewer_steps : (notation : Notation) (i n : ℕ) → i ≤ n
    → steps_by notation i ≤ steps_by notation n
fewer_steps Coordinates i n h = omega arith
fewer_steps Algebraic i n h = omega arith
