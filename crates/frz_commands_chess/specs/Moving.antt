-- What `move FEN SAN` answers.
use Rattle.std.specs.Prelude.{◌≡◌, ℕ, true, List, [], ◌∷◌, codes, Some}
use Rattle.frz_store.specs.Files.{Files}
use Rattle.frz_answer.specs.declared.status.Status.TheVariants.{Success, NoMove}
use Rattle.frz_answer.specs.Answers.{Answer, says}
use Rattle.frz_answer.specs.Jobs.{Job, plain, steps_alone, WithinCosts}
use Rattle.frz_answer.specs.Words.{taking, two_words_of}
use Rattle.frz_board.specs.Boards.{Board}
use Rattle.frz_board.specs.Moving.{Step, IsStep}
use Rattle.frz_fide.specs.Legal.{is_legal, after}
use Rattle.frz_fen.specs.Reading.{fen_of}
use Rattle.frz_fen.specs.Writing.{fen_text}
use Rattle.frz_san.specs.Notation.{IsSan}
use Rattle.frz_prelude.specs.Positions.{on_position}
use Rattle.frz_prelude.specs.Replies.{moved_lines}

-- a legal move has this text, and the answer tells the move and the position afterwards; or no
-- legal move has it. No file changes
pub data IsMoved (text : List ℕ) (p : Board) (files : Files) (a : Answer) : Type 0 where
  moved : (m : Step) → IsStep m → is_legal p m ≡ true → IsSan p m text
      → a ≡ says Success (moved_lines m (fen_text (after p m))) files → IsMoved text p files a
  no_move : ((m : Step) → IsStep m → is_legal p m ≡ true → IsSan p m text → ⊥)
      → a ≡ says NoMove (codes "no move\n") files → IsMoved text p files a

-- makes the move with this text, in two steps at most
abbrev pub moving : List ℕ → Board → Job
moving text p = record (plain (Success ∷ NoMove ∷ []) (λ files input a. IsMoved text p files a)) {
  costs = λ files input a. WithinCosts (steps_alone (Some 2));
}

-- move FEN SAN
abbrev pub move_words : List (List ℕ) → Job
move_words words = taking (λ both. on_position (moving both.1) (fen_of both.0)) (two_words_of words)
