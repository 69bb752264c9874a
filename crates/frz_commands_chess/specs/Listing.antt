-- What `moves FEN` and `sans FEN` answer.
use Rattle.std.specs.Prelude.{◌≡◌, ℕ, ◌+◌, Bool, true, false, List, [], ◌∷◌, ◌++◌, length, map, codes, Some}
use Rattle.std.specs.List.{join_with_byte}
use Rattle.frz_answer.specs.declared.status.Status.TheVariants.{Success}
use Rattle.frz_answer.specs.Answers.{says}
use Rattle.frz_answer.specs.Jobs.{Job, plain, steps_alone, WithinCosts}
use Rattle.frz_answer.specs.Words.{taking, one_word_of}
use Rattle.frz_board.specs.Boards.{Board}
use Rattle.frz_board.specs.Moving.{Step}
use Rattle.frz_board.specs.Texts.{text_of}
use Rattle.frz_board.specs.Attacks.{is_in_check}
use Rattle.frz_fide.specs.Listing.{legal_moves_of}
use Rattle.frz_fen.specs.Reading.{fen_of}
use Rattle.frz_san.specs.Notation.{san_of}
use Rattle.frz_prelude.specs.Positions.{on_position}
use Rattle.frz_commands_chess.specs.declared.notation.Notation.{Notation}
use Rattle.frz_commands_chess.specs.declared.notation.Notation.TheVariants.{Coordinates, Algebraic}

-- the text of a move of the position
abbrev pub text_by : Notation → Board → Step → List ℕ
text_by Coordinates p m = text_of m
text_by Algebraic p m = san_of p m

-- the steps that this many texts may take: in algebraic notation, a move that gives check has the
-- moves afterwards listed once
abbrev pub steps_by : Notation → ℕ → ℕ
steps_by Coordinates count = 0
steps_by Algebraic count = count

-- the moves on one line, with one space between each two
abbrev pub joined : (Step → List ℕ) → List Step → List ℕ
joined text moves = join_with_byte 32 (map text moves)

-- the line of the mover's legal moves; the flag says whether his king is attacked. Without a move
-- it is mate or stalemate
abbrev pub line_of_moves : (Step → List ℕ) → List Step → Bool → List ℕ
line_of_moves text [] true = codes "mate\n"
line_of_moves text [] false = codes "stalemate\n"
line_of_moves text (m ∷ ms) check = joined text (m ∷ ms) ++ codes "\n"

abbrev pub moves_line : (Step → List ℕ) → Board → List ℕ
moves_line text p = line_of_moves text (legal_moves_of p) (is_in_check p p.turn)

-- lists the legal moves of the position, in one step and those that their texts take. No file
-- changes
abbrev pub listing : Notation → Board → Job
listing notation p = record (plain (Success ∷ [])
    (λ files input a. a ≡ says Success (moves_line (text_by notation p) p) files)) {
      costs = λ files input a. WithinCosts
          (steps_alone (Some (1 + steps_by notation (length (legal_moves_of p)))));
    }

-- moves FEN
abbrev pub moves_words : List (List ℕ) → Job
moves_words words =
    taking (λ fen. on_position (listing Coordinates) (fen_of fen)) (one_word_of words)

-- sans FEN
abbrev pub sans_words : List (List ℕ) → Job
sans_words words = taking (λ fen. on_position (listing Algebraic) (fen_of fen)) (one_word_of words)
