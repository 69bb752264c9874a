-- The answers of `move` are lawful: there is one, and only one.
use Rattle.std.proofs.Common.{◌≡◌, subst, ℕ, Bool, true, false, ◌||◌, List, [], ◌∷◌, refl, ap, sym, ◌∙◌, inl, inr, codes}
use Rattle.std.specs.Str.{bytes_eq}
use Rattle.std.specs.List.{list_any}
use Rattle.std.proofs.lemmas.Bool.{or_cases, or_left, or_right}
use Rattle.std.proofs.lemmas.List.Folds.{Any-from_list_any, list_any_at}
use Rattle.std.proofs.lemmas.Slice.Eq.{bytes_eq-Decides}
use Rattle.frz_store.specs.Files.{Files, no_files}
use Rattle.frz_board.specs.Boards.{Board}
use Rattle.frz_board.specs.Moving.{Step}
use Rattle.frz_fen.specs.Reading.{fen_of}
use Rattle.frz_fen.specs.Writing.{fen_text}
use Rattle.frz_fide.specs.Legal.{after}
use Rattle.frz_fide.specs.Listing.{legal_moves_of}
use Rattle.frz_fide.proofs.Lemmas.{listed, only_legal}
use Rattle.frz_san.specs.Notation.{IsSan, san_of, unsigned}
use Rattle.frz_san.proofs.Lemmas.{one_move}
use Rattle.frz_answer.specs.declared.status.Status.{Status}
use Rattle.frz_answer.specs.declared.status.Status.TheVariants.{Success, NoMove}
use Rattle.frz_answer.specs.Statuses.{OneOf}
use Rattle.frz_answer.specs.Answers.{Answer, says}
use Rattle.frz_answer.specs.Lawful.{HasOneAnswer, IsLawful}
use Rattle.frz_answer.specs.Words.{two_words_of}
use Rattle.frz_answer.proofs.Lemmas.{said_job, taking_lawful}
use Rattle.frz_prelude.specs.Positions.{on_position}
use Rattle.frz_prelude.specs.Replies.{moved_lines, reply_status, text_of}
use Rattle.frz_prelude.specs.declared.reply.Reply.{Reply}
use Rattle.frz_prelude.proofs.Lemmas.{fen_lawful}
use Rattle.frz_commands_chess.specs.Moving.{IsMoved, moved, no_move, moving, move_words}

module _ (text : List ℕ) (p : Board) where
  -- the test whether a text is that of a move
  has_text : Step → Bool
  has_text m = bytes_eq text (san_of p m) || bytes_eq text (unsigned p m)

  san_has_text : (m : Step) → IsSan p m text → has_text m ≡ true
  unfolding has_text
  san_has_text m (inl e) = or_left (bytes_eq text (san_of p m)) (bytes_eq text (unsigned p m))
      ((bytes_eq-Decides text (san_of p m)).1 e)
  san_has_text m (inr e) = or_right (bytes_eq text (san_of p m)) (bytes_eq text (unsigned p m))
      ((bytes_eq-Decides text (unsigned p m)).1 e)

  text_is_san : (m : Step) → has_text m ≡ true → IsSan p m text
  unfolding has_text
  text_is_san m h =
      elim (or_cases (bytes_eq text (san_of p m)) (bytes_eq text (unsigned p m)) h) [
        | inl w ↦ inl ((bytes_eq-Decides text (san_of p m)).0 w)
        | inr w ↦ inr ((bytes_eq-Decides text (unsigned p m)).0 w)
      ]

  module _ (files : Files) where
    by_test : (b : Bool) → list_any has_text (legal_moves_of p) ≡ b → (a : Answer)
        × IsMoved text p files a
    by_test true h =
        let found = Any-from_list_any has_text (legal_moves_of p) h in
        let legal = only_legal p found.1 (found.0, found.2, found.3) in (
          says Success (moved_lines found.1 (fen_text (after p found.1))) files,
          moved found.1 legal.0 legal.1
              (text_is_san found.1 found.4) refl,
        )
    by_test false h = (
      says NoMove (codes "no move\n") files,
      no_move (λ m step legal t.
          let place = listed p m step legal in
          let yes = list_any_at has_text (legal_moves_of p) place.0 m place.1
          (ap has_text place.2 ∙ san_has_text m t) in
          cc) refl,
    )

    same : (a b : Answer) → IsMoved text p files a → IsMoved text p files b → b ≡ a
    same a b (moved m sm lm tm e) (moved n sn ln tn h) =
        h ∙ ap (λ x. says Success (moved_lines x (fen_text (after p x))) files) (one_move p n m text sn sm ln lm tn tm)
        ∙ sym e
    same a b (moved m sm lm tm e) (no_move n h) = absurd (n m sm lm tm)
    same a b (no_move n h) (moved m sm lm tm e) = absurd (n m sm lm tm)
    same a b (no_move n e) (no_move o h) = h ∙ sym e

    one : HasOneAnswer (IsMoved text p files)
    one = let some = by_test (list_any has_text (legal_moves_of p)) refl in
        (some.0, some.1, λ b h. same some.0 b some.1 h)

moving_lawful : (text : List ℕ) (p : Board) → IsLawful (moving text p)
moving_lawful text p = said_job (moving text p) (λ files input. one text p files) (λ _ _ _ _. tt)

pub move_lawful : (words : List (List ℕ)) → IsLawful (move_words words)
move_lawful words =
    taking_lawful (λ both. on_position (moving both.1) (fen_of both.0)) (two_words_of words)
    (λ both. fen_lawful (moving both.1) (fen_of both.0) (λ p read. moving_lawful both.1 p))

-- what is replied has a status of `move`
pub own_reply : (text : List ℕ) (p : Board) (reply : Reply)
    → ((files : Files) → IsMoved text p files (says (reply_status reply) (text_of reply) files))
    → OneOf (reply_status reply) (Success ∷ NoMove ∷ [])
own_reply text p reply moves = own_status (moves no_files)
  where
    own_status : IsMoved text p no_files (says (reply_status reply) (text_of reply) no_files)
        → OneOf (reply_status reply) (Success ∷ NoMove ∷ [])
    own_status (moved m step legal is e) =
        let status : reply_status reply ≡ Success = ap (λ (a : Answer). a.status) e in
        subst (λ (s : Status). OneOf s (Success ∷ NoMove ∷ [])) (sym status) refl
    own_status (no_move none e) =
        let status : reply_status reply ≡ NoMove = ap (λ (a : Answer). a.status) e in
        subst (λ (s : Status). OneOf s (Success ∷ NoMove ∷ [])) (sym status) refl
