-- A hold is told of in exactly one way.
use Rattle.std.proofs.Common.{◌≡◌, ◌⊎◌, ℕ, Bool, true, false, List, [], Option, None, Some, inl, inr, refl, sym, ap, ◌∙◌, slice_index, arith}
use Rattle.std.specs.Prelude.{◌==◌, filter, if◌then◌else◌}
use Rattle.std.proofs.lemmas.Bool.{eqb-false, eqb-true}
use Rattle.frz_board.specs.declared.man.Colour.{Colour}
use Rattle.frz_board.specs.declared.man.Colour.TheVariants.{White, Black}
use Rattle.frz_board.specs.Men.{other_of, same_colour}
use Rattle.frz_board.specs.Moving.{Step}
use Rattle.frz_sets.specs.declared.exit.Value.{Value}
use Rattle.frz_arena.specs.declared.node.Node.{Node}
use Rattle.frz_arena.specs.declared.node.Node.TheVariants.{Broken, Mate, Stalemate, Going}
use Rattle.frz_arena.specs.Arena.{Arena}
use Rattle.frz_arena.specs.LocalCodes.{all_codes, free_codes, node_code}
use Rattle.frz_game.specs.declared.wrong.Wrong.{Wrong as WrongEntry}
use Rattle.frz_reasons.specs.declared.denial.Denial.{Denial}
use Rattle.frz_reasons.specs.Denials.{DeniesWin, first_wrong, other_denials, own_denials, wrong, own, other, stalemate}
use Rattle.frz_reasons.specs.LocalEntries.{Agrees, given_at, wrong_at}

mover_is_either_side : (side mover : Colour) → (mover ≡ side) ⊎ (mover ≡ other_of side)
mover_is_either_side White White = inl refl
mover_is_either_side White Black = inr refl
mover_is_either_side Black White = inr refl
mover_is_either_side Black Black = inl refl

sides_differ : (side : Colour) → side ≡ other_of side → ⊥
sides_differ White e = cc
sides_differ Black e = cc

mated_code : (mine : Bool) (code : ℕ) → code ≡ (if mine then 3 else 2) → code ≡ 1 → ⊥
mated_code true code e hold = omega arith
mated_code false code e hold = omega arith

module _ (arena : Arena Step ℕ Value) (side : Colour) (codes : List ℕ) (number : ℕ) where
  -- what is told
  pub record Denied : Type 0 where
    pub denials : List Denial
    pub wrong_one : Option WrongEntry
    pub denied : DeniesWin arena side codes number denials wrong_one

  module _ (hold : slice_index codes number ≡ 1) where
    abbrev given_by : Node → ℕ
    given_by node =
        node_code side node (free_codes arena side (λ k. slice_index codes k) number)
        (all_codes arena side (λ k. slice_index codes k) number)

    by_node : Agrees arena side codes number → (node : Node) → arena.node number ≡ node → Denied
    by_node agrees Broken n =
        let zero : slice_index codes number ≡ 0 = agrees ∙ ap given_by n in absurd (omega arith)
    by_node agrees (Mate mover) n =
        absurd (mated_code (same_colour mover side) (slice_index codes number)
        (agrees ∙ ap given_by n) hold)
    by_node agrees (Stalemate mover) n =
        record { denials = []; wrong_one = None; denied = stalemate agrees mover n }
    by_node agrees (Going mover) n = by_mover (mover_is_either_side side mover)
      where
        by_mover : (mover ≡ side) ⊎ (mover ≡ other_of side) → Denied
        by_mover (inl e) = record {
          denials = own_denials arena side codes (filter (λ a. a.free) (arena.arms number));
          wrong_one = first_wrong arena side codes (filter (λ a. a.free) (arena.arms number));
          denied = own agrees (n ∙ ap (λ (c : Colour). Going c) e);
        }
        by_mover (inr e) = record {
          denials = other_denials side codes (arena.arms number);
          wrong_one = None;
          denied = other agrees (n ∙ ap (λ (c : Colour). Going c) e);
        }

    pub denied_there : Denied
    denied_there =
        by_test (slice_index codes number == given_at arena side codes number) refl
      where
        by_test : (b : Bool) →
            (slice_index codes number == given_at arena side codes number) ≡ b → Denied
        by_test true e =
            by_node (eqb-true (slice_index codes number) (given_at arena side codes number) e)
            (arena.node number) refl
        by_test false e = record {
          denials = [];
          wrong_one = Some (wrong_at arena side codes number);
          denied = wrong (eqb-false (slice_index codes number)
              (given_at arena side codes number) e);
        }

  both_turns : arena.node number ≡ Going side → arena.node number ≡ Going (other_of side) → ⊥
  both_turns n m =
      let e : Going side ≡ Going (other_of side) = sym n ∙ m in
      let same : side ≡ other_of side = cc in sides_differ side same

  ends_and_goes : (m c : Colour) → arena.node number ≡ Stalemate m → arena.node number ≡ Going c →
      ⊥
  ends_and_goes m c n o = let e : Stalemate m ≡ Going c = sym n ∙ o in cc

  pub one_denial : (d e : List Denial) (v w : Option WrongEntry) →
      DeniesWin arena side codes number d v → DeniesWin arena side codes number e w →
      (d ≡ e) × (v ≡ w)
  one_denial d e v w (wrong x) (wrong y) = (refl, refl)
  one_denial d e v w (wrong x) (own a n) = absurd (x a)
  one_denial d e v w (wrong x) (other a n) = absurd (x a)
  one_denial d e v w (wrong x) (stalemate a m n) = absurd (x a)
  one_denial d e v w (own a n) (wrong y) = absurd (y a)
  one_denial d e v w (own a n) (own b o) = (refl, refl)
  one_denial d e v w (own a n) (other b o) = absurd (both_turns n o)
  one_denial d e v w (own a n) (stalemate b m o) = absurd (ends_and_goes m side o n)
  one_denial d e v w (other a n) (wrong y) = absurd (y a)
  one_denial d e v w (other a n) (own b o) = absurd (both_turns o n)
  one_denial d e v w (other a n) (other b o) = (refl, refl)
  one_denial d e v w (other a n) (stalemate b m o) = absurd (ends_and_goes m (other_of side) o n)
  one_denial d e v w (stalemate a m n) (wrong y) = absurd (y a)
  one_denial d e v w (stalemate a m n) (own b o) = absurd (ends_and_goes m side n o)
  one_denial d e v w (stalemate a m n) (other b o) =
      absurd (ends_and_goes m (other_of side) n o)
  one_denial d e v w (stalemate a m n) (stalemate b c o) = (refl, refl)
