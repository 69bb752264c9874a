-- Two different legal moves have different texts, with the sign or without.
use Rattle.std.proofs.Common.{◌≡◌, ℕ, ◌<◌, Bool, true, false, List, [], ◌∷◌, ◌++◌, refl, ap, sym, ◌∙◌, subst, arith, Option, None, Some, inl, inr}
use Rattle.std.specs.Prelude.{if◌then◌else◌, not}
use Rattle.std.specs.List.{AllByRecursion}
use Rattle.std.proofs.lemmas.List.{append-nil}
use Rattle.frz_board.specs.Attacks.{is_in_check}
use Rattle.frz_board.specs.Boards.{Board, man_on}
use Rattle.frz_board.specs.declared.man.Kind.{Kind}
use Rattle.frz_board.specs.declared.man.Kind.TheVariants.{King, Queen, Rook, Bishop, Knight, Pawn}
use Rattle.frz_board.specs.declared.man.Man.{Man}
use Rattle.frz_board.specs.Men.{letter_of_kind, is_pawn}
use Rattle.frz_board.specs.Moving.{Step, IsStep}
use Rattle.frz_board.specs.Texts.{file_letter, rank_digit}
use Rattle.frz_fide.specs.Legal.{is_legal, after}
use Rattle.frz_fide.specs.Listing.{legal_moves_of}
use Rattle.frz_san.specs.Notation.{square_text, promotion, has_rival, has_rival_on_file, has_rival_on_rank, origin, is_capture, cross, pawn_origin, pawn_text, piece_text, text_by, unsigned, sign, sign_by, IsSan}
use Rattle.frz_san.proofs.Parts.{end_one}
use Rattle.frz_san.proofs.Telling.{same_move}

-- the letters and digits of a text come after + and # in ASCII
abbrev Plain : List ℕ → Type 0
Plain xs = AllByRecursion (λ c. 47 < c) xs

plain_append : (xs ys : List ℕ) → Plain xs → Plain ys → Plain (xs ++ ys)
plain_append [] ys a b = b
plain_append (x ∷ xs) ys a b = (a.0, plain_append xs ys a.1 b)

plain_if : (t : Bool) (c : ℕ) → 47 < c → Plain (if t then c ∷ [] else [])
plain_if true c h = (h, tt)
plain_if false c h = tt

plain_letter : (k : Kind) → 47 < letter_of_kind k
plain_letter King = omega arith
plain_letter Queen = omega arith
plain_letter Rook = omega arith
plain_letter Bishop = omega arith
plain_letter Knight = omega arith
plain_letter Pawn = omega arith

plain_square : (s : ℕ) → Plain (square_text s)
plain_square s = (omega arith, (omega arith, tt))

plain_promotion : (x : Option Kind) → Plain (promotion x)
plain_promotion None = tt
plain_promotion (Some k) = (omega arith, (plain_letter k, tt))

plain_part : (r f k : Bool) (s : ℕ) →
    Plain (if not r then []
    else (if not f then file_letter s ∷ []
    else (if not k then rank_digit s ∷ [] else square_text s)))
plain_part false f k s = tt
plain_part true false k s = (omega arith, tt)
plain_part true true false s = (omega arith, tt)
plain_part true true true s = plain_square s

plain_pawn : (p : Board) (man : Man) (m : Step) → Plain (pawn_text p man m)
plain_pawn p man m =
    plain_append (pawn_origin p man m ++ cross p man m ++ square_text m.to) (promotion m.promo)
    (plain_append (pawn_origin p man m ++ cross p man m) (square_text m.to)
    (plain_append (pawn_origin p man m) (cross p man m)
    (plain_if (is_capture p man m) (file_letter m.from) (omega arith))
    (plain_if (is_capture p man m) 120 (omega arith)))
    (plain_square m.to))
    (plain_promotion m.promo)

plain_piece : (p : Board) (man : Man) (m : Step) → Plain (piece_text p man m)
plain_piece p man m =
    plain_append ((letter_of_kind man.kind ∷ []) ++ origin p m ++ cross p man m) (square_text m.to)
    (plain_append ((letter_of_kind man.kind ∷ []) ++ origin p m) (cross p man m) (
      plain_letter man.kind,
      plain_part (has_rival p m) (has_rival_on_file p m)
          (has_rival_on_rank p m) m.from,
    )
    (plain_if (is_capture p man m) 120 (omega arith)))
    (plain_square m.to)

plain_either : (t : Bool) (xs ys : List ℕ) → Plain xs → Plain ys → Plain (if t then xs else ys)
plain_either true xs ys a b = a
plain_either false xs ys a b = b

plain_by : (p : Board) (o : Option Man) (m : Step) → Plain (text_by p o m)
plain_by p None m = tt
plain_by p (Some man) m = plain_either (is_pawn man.kind) (pawn_text p man m) (piece_text p man m)
    (plain_pawn p man m) (plain_piece p man m)

plain : (p : Board) (m : Step) → Plain (unsigned p m)
plain p m = plain_by p (man_on p m.from) m

plain_end : (xs : List ℕ) (c : ℕ) → Plain (xs ++ c ∷ []) → 47 < c
plain_end [] c a = a.0
plain_end (x ∷ xs) c a = plain_end xs c a.1

-- a sign is nothing, or a byte before the letters and digits
pub data Sign (s : List ℕ) : Type 0 where
  none : s ≡ [] → Sign s
  one : (c : ℕ) → c < 48 → s ≡ c ∷ [] → Sign s

sign_cases : (b : Bool) (moves : List Step) → Sign (sign_by b moves)
sign_cases false moves = none refl
sign_cases true [] = one 35 (omega arith) refl
sign_cases true (m ∷ ms) = one 43 (omega arith) refl

pub signs : (q : Board) → Sign (sign q)
unfolding sign
signs q = sign_cases (is_in_check q q.turn) (legal_moves_of q)

not_longer : (xs ys : List ℕ) (c : ℕ) → Plain xs → c < 48 → xs ≡ ys ++ c ∷ [] → ⊥
not_longer xs ys c a h e = let high : 47 < c = plain_end ys c (subst Plain e a) in omega arith

without : (xs ys s t : List ℕ) → Plain xs → Plain ys → Sign s → Sign t → xs ++ s ≡ ys ++ t → xs ≡ ys
without xs ys s t a b (none h) (none k) e =
    sym (append-nil xs) ∙ ap (λ z. xs ++ z) (sym h) ∙ e ∙ ap (λ z. ys ++ z) k ∙ append-nil ys
without xs ys s t a b (none h) (one d l k) e =
    absurd (not_longer xs ys d a l
    (sym (append-nil xs) ∙ ap (λ z. xs ++ z) (sym h) ∙ e ∙ ap (λ z. ys ++ z) k))
without xs ys s t a b (one c l h) (none k) e =
    absurd (not_longer ys xs c b l
    (sym (append-nil ys) ∙ ap (λ z. ys ++ z) (sym k) ∙ sym e ∙ ap (λ z. xs ++ z) h))
without xs ys s t a b (one c l h) (one d r k) e =
    (end_one xs ys c d (ap (λ z. xs ++ z) (sym h) ∙ e ∙ ap (λ z. ys ++ z) k)).0

-- a text of a move is the text without the sign, and a sign or nothing
split : (p : Board) (m : Step) (text : List ℕ) → IsSan p m text →
    (s : List ℕ) × Sign s × (text ≡ unsigned p m ++ s)
split p m text (inl h) = (sign (after p m), signs (after p m), h)
split p m text (inr h) = ([], none refl, h ∙ sym (append-nil (unsigned p m)))

pub one_move : (p : Board) (m n : Step) (text : List ℕ) → IsStep m → IsStep n →
    is_legal p m ≡ true → is_legal p n ≡ true → IsSan p m text → IsSan p n text → m ≡ n
one_move p m n text sm sn hm hn tm tn =
    let a = split p m text tm in
    let b = split p n text tn in
    same_move p m n sm sn hm hn
    (without (unsigned p m) (unsigned p n) a.0 b.0 (plain p m) (plain p n) a.1 b.1 (sym a.2 ∙ b.2))
