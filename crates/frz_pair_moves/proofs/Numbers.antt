-- The numbers of steps.
use Rattle.std.proofs.Common.{◌≡◌, ℕ, ◌+◌, ◌*◌, ◌/◌, ◌%◌, ◌<◌, true, false, ◌&&◌, not, Option, None, Some, refl, ap, ◌∙◌, arith}
use Rattle.std.proofs.lemmas.Bool.{and_left}
use Rattle.frz_board.specs.declared.man.Kind.{Kind}
use Rattle.frz_board.specs.declared.man.Kind.TheVariants.{King, Queen, Rook, Bishop, Knight, Pawn}
use Rattle.frz_board.specs.Boards.{Board, holds, man_on}
use Rattle.frz_board.specs.Moving.{IsStep, Step, is_promotion, promotion_number}
use Rattle.frz_fide.specs.Legal.{can_go, man_goes}
use Rattle.frz_pair_moves.specs.Steps.{promotion_at, step_at, step_number}

same_promotion : (k : Option Kind) → is_promotion k ≡ true → promotion_at (promotion_number k) ≡ k
same_promotion None h = refl
same_promotion (Some King) h = absurd cc
same_promotion (Some Queen) h = refl
same_promotion (Some Rook) h = refl
same_promotion (Some Bishop) h = refl
same_promotion (Some Knight) h = refl
same_promotion (Some Pawn) h = absurd cc

five : (k : Option Kind) → is_promotion k ≡ true → promotion_number k < 5
five None h = omega arith
five (Some King) h = absurd cc
five (Some Queen) h = omega arith
five (Some Rook) h = omega arith
five (Some Bishop) h = omega arith
five (Some Knight) h = omega arith
five (Some Pawn) h = absurd cc

-- the parts of a number
record Parts (f t r n : ℕ) : Type 0 where
  below : n < 20480
  from : n / 320 ≡ f
  to : (n / 5) % 64 ≡ t
  rest : n % 5 ≡ r

parts_of : (f t r n : ℕ) → f < 64 → t < 64 → r < 5 → n ≡ (64 * f + t) * 5 + r → Parts f t r n
parts_of f t r n lf lt lr e = record {
  below = omega arith;
  from = omega arith;
  to = omega arith;
  rest = omega arith;
}

pub numbered : (m : Step) → IsStep m → (step_number m < 20480) × (step_at (step_number m) ≡ m)
numbered m step =
    let r = promotion_number m.promo in
    let n = step_number m in
    let w = parts_of m.from m.to r n step.from step.to (five m.promo step.promo) refl in
    let F : ℕ → Step = λ x. record { from = x; to = (n / 5) % 64; promo = promotion_at (n % 5) } in
    let G : ℕ → Step = λ x. record { from = m.from; to = x; promo = promotion_at (n % 5) } in
    let H : Option Kind → Step = λ k. record { from = m.from; to = m.to; promo = k } in (
      w.below,
      ap F w.from ∙ ap G w.to
          ∙ ap H (ap promotion_at w.rest ∙ same_promotion m.promo step.promo),
    )

-- no step from a square goes where none of the mover's men stands there
pub none_from : (p : Board) (f k : ℕ) → holds p p.turn f ≡ false → k / 320 ≡ f →
    can_go p (step_at k) ≡ false
none_from p f k none e =
    and_left (holds p p.turn (k / 320) && not (holds p p.turn (step_at k).to))
    (man_goes p (man_on p (k / 320)) (step_at k))
    (and_left (holds p p.turn (k / 320)) (not (holds p p.turn (step_at k).to))
    (ap (holds p p.turn) e ∙ none))
