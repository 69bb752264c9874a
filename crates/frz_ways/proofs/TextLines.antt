-- Texts that are whole lines.
use Rattle.std.proofs.Common.{◌≡◌, ◌++◌, ℕ, inr, List, [], ◌∷◌, refl, sym, ap, ◌∙◌, append_assoc, append-nil}
use Rattle.std.specs.Prelude.{codes}
use Rattle.frz_board.specs.Moving.{Step}
use Rattle.frz_board.specs.Texts.{text_of}
use Rattle.frz_sets.specs.declared.exit.Value.{Value}
use Rattle.frz_answer.specs.Answers.{IsLines}
use Rattle.frz_arena.specs.declared.arm.Arm.{Arm}
use Rattle.frz_arena.specs.declared.arm.Next.{Next}
use Rattle.frz_arena.specs.declared.arm.Next.TheVariants.{Inside, Outside}
use Rattle.frz_ways.specs.Texts.{arm_text, exit_line, move_line, next_line, value_text}

-- a text that ends with a line feed
pub record EndsLine (text : List ℕ) : Type 0 where
  pub front : List ℕ
  pub is : text ≡ front ++ 10 ∷ []

pub ends_behind : (a b : List ℕ) → EndsLine b → EndsLine (a ++ b)
ends_behind a b e =
    record {
      front = a ++ e.front;
      is = ap (λ (z : List ℕ). a ++ z) e.is
          ∙ sym (append_assoc a e.front (10 ∷ []));
    }

pub ends_exit : (v : Value) → EndsLine (exit_line v)
ends_exit v = ends_behind (codes "exit ") (value_text v ++ codes "\n")
    (record { front = value_text v; is = refl })

ends_move : (m : Step) (next : Next ℕ Value) → EndsLine (move_line m ++ next_line next)
ends_move m (Inside n) = record { front = text_of m; is = append-nil (move_line m) }
ends_move m (Outside v) = ends_behind (move_line m) (exit_line v) (ends_exit v)

-- the lines of a move
pub ends_arm : (a : Arm Step ℕ Value) → EndsLine (arm_text a)
ends_arm a = ends_move a.mv a.next

pub as_lines : (text : List ℕ) → EndsLine text → IsLines text
as_lines text e = inr (e.front, e.is)
