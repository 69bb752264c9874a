use Rattle.std.proofs.Common.{◌≡◌, ℕ, true, false, not, slice_index, refl, sym, ◌∙◌, ap, inl}
use Rattle.std.proofs.lemmas.Bool.{true≢false}
use Rattle.frz_board.specs.Men.{same_colour, other_of}
use Rattle.frz_arena.specs.declared.node.Node.TheVariants.{Going}
use Rattle.frz_arena.specs.LocalCodes as local
use Rattle.frz_graph.specs.EntryCodes.{arm_code}
use Rattle.frz_graph.proofs.Lemmas.{same_next}
use Rattle.frz_retro.specs.Graphs.{Arm}
use Rattle.frz_retro.specs.Kinds.{is_of}
use Rattle.frz_retro.proofs.CodeFacts.{win_is, failure_is}
use Rattle.frz_retro.proofs.Laws.{contains_in, in_contains}
use Rattle.frz_retro.proofs.SettledIsLocal.{Rules, settled_by, held_by, by_turn, nothing_in}
use Rattle.frz_retro.proofs.StateFacts.{settled_stays}
use Rattle.frz_retro.proofs.local.local_codes.Goals as goal

pub returns : goal.returns
returns c arena size finite side E = record {
  settled = λ i mover code n s. settled_by (rules i mover n)
      (settled_stays (same_colour mover side) (arm_code side E) f (arena.arms i) code
      (λ a _. inl (same a)) s);
  held = λ i mover n h. held_by (rules i mover n) (record {
    undecided = λ b j k. ap (is_of (same_colour mover side)) (same b) ∙ h.undecided b j k;
    arm = h.arm;
    there = h.there;
    counted = h.counted;
    kind = ap (is_of (not (same_colour mover side))) (same h.arm) ∙ h.kind;
  });
}
  where
    entry : ℕ → ℕ
    entry k = slice_index E k

    f : Arm → ℕ
    f a = local.arm_code arena side entry a

    same : (a : Arm) → local.arm_code arena side (λ k. slice_index E k) a ≡ arm_code side E a
    same a = sym (same_next arena finite.class finite.lag side E a.next)

    own : (i : ℕ) → arena.node i ≡ Going side →
        Rules true f (arena.arms i) (local.local_code arena side entry i)
    own i n = record {
      decided = λ a j k t least. c.own_codes.ensures.win arena side entry i n a
          (contains_in (arena.arms i) a j) k (win_is (f a) ∙ t)
          (λ b m free t'. least b (in_contains (arena.arms i) b m) free (sym (win_is (f b)) ∙ t'));
      exhausted = λ a j k each. c.own_codes.ensures.failure arena side entry i n a
          (contains_in (arena.arms i) a j) k
          (λ b m free. let e = each b (in_contains (arena.arms i) b m) free in
          (failure_is (f b) ∙ e.0, e.1));
      held = λ a j k t none. c.own_codes.ensures.hold arena side entry i n a
          (contains_in (arena.arms i) a j) k (failure_is (f a) ∙ t)
          (λ b m free. win_is (f b) ∙ none b (in_contains (arena.arms i) b m) free);
      none = λ h. c.own_codes.ensures.none arena side entry i n
          (λ a m free. true≢false (sym free ∙ h a (in_contains (arena.arms i) a m)));
    }

    opponent : (i : ℕ) → arena.node i ≡ Going (other_of side) →
        Rules false f (arena.arms i) (local.local_code arena side entry i)
    opponent i n = record {
      decided = λ a j k t least. c.opponent_codes.ensures.failure arena side entry i n a
          (contains_in (arena.arms i) a j) (failure_is (f a) ∙ t)
          (λ b m t'. least b (in_contains (arena.arms i) b m) refl (sym (failure_is (f b)) ∙ t'));
      exhausted = λ a j k each. c.opponent_codes.ensures.win arena side entry i n a
          (contains_in (arena.arms i) a j)
          (λ b m. let e = each b (in_contains (arena.arms i) b m) refl in
          (win_is (f b) ∙ e.0, e.1));
      held = λ a j k t none. c.opponent_codes.ensures.hold arena side entry i n a
          (contains_in (arena.arms i) a j) (win_is (f a) ∙ t)
          (λ b m. failure_is (f b) ∙ none b (in_contains (arena.arms i) b m) refl);
      none = λ h. absurd (finite.lawful.goes_on i (other_of side) n
          (nothing_in (arena.arms i) (λ a j. true≢false (h a j))));
    }

    rules : (i : ℕ) (mover : _) → arena.node i ≡ Going mover →
        Rules (same_colour mover side) f (arena.arms i) (local.local_code arena side entry i)
    rules i mover n =
        by_turn (λ w. Rules w f (arena.arms i) (local.local_code arena side entry i)) mover side
        (λ e. own i (n ∙ ap Going e)) (λ e. opponent i (n ∙ ap Going e))
