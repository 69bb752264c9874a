-- The squares for kings, by the target.
use Rattle.std.proofs.Common.{◌≡◌, ℕ, Bool, true, false, ◌&&◌, ◌||◌, not, Option, None, Some, refl, ap, sym, ◌∙◌}
use Rattle.std.specs.Prelude.{◌==◌, if◌then◌else◌}
use Rattle.frz_board.specs.Men.{other_of}
use Rattle.frz_board.specs.Boards.{Board, is_empty}
use Rattle.frz_board.specs.EnPassant.{ahead, is_passing_rank}
use Rattle.frz_king_planes.specs.Room.{is_room, was_passed}

by_target : (p : Board) (s : ℕ) (o : Option ℕ) → p.ep ≡ o →
    is_room p s ≡ (is_empty p s && not (was_passed o p.turn s))
by_target p s o e = ap (λ x. is_empty p s && not (was_passed x p.turn s)) e

taken_out : (e x y : Bool) → (if y then false else (if x then false else e)) ≡ (e && not (x || y))
taken_out true true true = refl
taken_out true true false = refl
taken_out true false true = refl
taken_out true false false = refl
taken_out false true true = refl
taken_out false true false = refl
taken_out false false true = refl
taken_out false false false = refl

and_all : (e : Bool) → e ≡ (e && true)
and_all true = refl
and_all false = refl

-- without the target and the square behind it
pub passed_out : (p : Board) (s t behind : ℕ) (e first last : Bool) → p.ep ≡ Some t →
    is_passing_rank (other_of p.turn) t ≡ true → behind ≡ ahead p.turn t → e ≡ is_empty p s →
    first ≡ (if s == t then false else e) → last ≡ (if s == behind then false else first) →
    last ≡ is_room p s
passed_out p s t behind e first last ep rank is_behind is_e is_first is_last =
    is_last
    ∙ ap (λ x. if s == x then false else first) is_behind
    ∙ ap (λ x. if s == ahead p.turn t then false else x)
    (is_first ∙ ap (λ x. if s == t then false else x) is_e)
    ∙ taken_out (is_empty p s) (s == t) (s == ahead p.turn t)
    ∙ ap (λ x. is_empty p s && not (x && (s == t || s == ahead p.turn t))) (sym rank)
    ∙ sym (by_target p s (Some t) ep)

-- where no pawn can have passed over the target, it does not count
pub unpassed : (p : Board) (s t : ℕ) → p.ep ≡ Some t →
    is_passing_rank (other_of p.turn) t ≡ false → is_empty p s ≡ is_room p s
unpassed p s t ep rank =
    and_all (is_empty p s)
    ∙ ap (λ x. is_empty p s && not (x && (s == t || s == ahead p.turn t))) (sym rank)
    ∙ sym (by_target p s (Some t) ep)

pub no_target : (p : Board) (s : ℕ) → p.ep ≡ None → is_empty p s ≡ is_room p s
no_target p s ep = and_all (is_empty p s) ∙ sym (by_target p s None ep)
