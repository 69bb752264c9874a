-- A line by codes that stay the same: where a number comes again, the line is cut.
use Rattle.std.proofs.Common.{◌≡◌, ◌<◌, ◌==◌, ◌&&◌, ℕ, suc, zero, ◌⊎◌, inl, inr, Bool, true, false, List, [], Some, None, Option, map, length, refl, sym, subst, ap, ◌∙◌, arith, nat_le, if◌then◌else◌}
use Rattle.std.specs.Prelude.{slice_get, slice_index}
use Rattle.std.proofs.lemmas.Bool.Decides.{nat_tests}
use Rattle.std.proofs.lemmas.Option.{slice_get-map}
use Rattle.frz_board.specs.declared.man.Colour.{Colour}
use Rattle.frz_board.specs.Moving.{Step}
use Rattle.frz_sets.specs.declared.exit.Value.{Value}
use Rattle.frz_arena.specs.declared.arm.Arm.{Arm}
use Rattle.frz_arena.specs.declared.arm.Next.{Next}
use Rattle.frz_arena.specs.declared.arm.Next.TheVariants.{Inside, Outside}
use Rattle.frz_arena.specs.declared.choice.Choice.{Choice}
use Rattle.frz_arena.specs.declared.node.Node.{Node}
use Rattle.frz_arena.specs.declared.node.Node.TheVariants as nodes
use Rattle.frz_arena.specs.Arena.{Arena}
use Rattle.frz_arena.specs.Chosen.{IsFound, IsChosen, is_candidate}
use Rattle.frz_arena.specs.Choices.{choice_of, has_code}
use Rattle.frz_arena.specs.Codes.{is_win, is_failure}
use Rattle.frz_arena.specs.Counted.{after, counted}
use Rattle.frz_arena.specs.LocalCodes.{local_code}
use Rattle.frz_arena.specs.Names.{named, named_next}
use Rattle.frz_arena.specs.Plies.{LeadsTo}
use Rattle.frz_arena.specs.WayEnds.{Exit, Wrong, NoBound, Mated, Stalemated, Cut}
use Rattle.frz_arena.specs.Ways.{Over, stage, IsWay}
use Rattle.frz_arena.proofs.Lemmas.{counted_local, found_at}
use Rattle.frz_graph.specs.EntryCodes.{arm_code}
use Rattle.frz_graph.specs.Finite.{IsFinite}
use Rattle.frz_ways.specs.declared.due.Due.{Due}
use Rattle.frz_ways.specs.declared.due.Due.TheVariants as dues
use Rattle.frz_ways.specs.declared.end.TheConstants.{LINE_LIMIT}
use Rattle.frz_ways.specs.declared.opponent.Opponent.TheVariants as opponents
use Rattle.frz_ways.specs.Dues.{due_by, due_on}
use Rattle.frz_ways.specs.Reading.{Input}
use Rattle.frz_ways.specs.Ways.{WayPly, EndOfWay, way_player, GoesOn}
use Rattle.frz_ways.proofs.Goings.{over_here, moves_by_codes}
use Rattle.frz_ways.proofs.MoveChosen.{AsksForOne, arm_found, known}
use Rattle.frz_ways.proofs.MovesOfOneNumber.{found_map}
use Rattle.frz_ways.proofs.Stages.{stage_told, stage_due, seen_by_codes}

-- what is due later at the same number: the same, unless the hold is cut
on_later : (early late : Bool) → (early ≡ true → late ≡ true) → (kept : ℕ) (node : Node)
    → (due_on late kept node ≡ dues.Cut) ⊎ (due_on early kept node ≡ due_on late kept node)
on_later early late later kept nodes.Broken = inr refl
on_later early late later kept (nodes.Mate m) = inr refl
on_later early late later kept (nodes.Stalemate m) = inr refl
on_later early late later kept (nodes.Going m) = by_tests (kept == 1) early late later where
  by_tests : (b early late : Bool) → (early ≡ true → late ≡ true)
      → ((if b && late then dues.Cut else dues.Ply m) ≡ dues.Cut)
      ⊎ ((if b && early then dues.Cut else dues.Ply m) ≡ (if b && late then dues.Cut else dues.Ply m))
  by_tests false early late later = inr refl
  by_tests true early true later = inl refl
  by_tests true false false later = inr refl
  by_tests true true false later = absurd (let h = later refl in cc)

due_later : (start early late : Bool) (kept given : ℕ) → (start && is_failure kept) ≡ false
    → (early ≡ true → late ≡ true) → (node : Node)
    → (due_by false late kept given node ≡ dues.Cut)
    ⊎ (due_by start early kept given node ≡ due_by false late kept given node)
due_later start early late kept given stands later node =
    elim (on_later early late later kept node) [
      | inl cut ↦ by_given (kept == given) (inl cut)
      | inr same ↦ by_given (kept == given) (inr same)
    ]
  where
    by_given : (b : Bool)
        → (due_on late kept node ≡ dues.Cut) ⊎ (due_on early kept node ≡ due_on late kept node)
        → ((if b then due_on late kept node else dues.Wrong given) ≡ dues.Cut)
        ⊎ ((if b then (if start && is_failure kept then dues.NoBound else due_on early kept node)
        else dues.Wrong given) ≡ (if b then due_on late kept node else dues.Wrong given))
    by_given true (inl cut) = inl cut
    by_given true (inr same) =
        inr (ap (λ b. if b then dues.NoBound else due_on early kept node) stands ∙ same)
    by_given false h = inr refl

late_later : (i j : ℕ) → i < j → nat_le LINE_LIMIT i ≡ true → nat_le LINE_LIMIT j ≡ true
late_later i j l h = grind (arith, nat_tests)

later_is_no_start : (i j : ℕ) → i < j → (j == 0) ≡ false
later_is_no_start i j l = grind (arith, nat_tests)

pub no_start : (i : ℕ) → (suc i == 0) ≡ false
no_start i = grind (arith, nat_tests)

never_start : (i : ℕ) (b : Bool) → ((suc i == 0) && b) ≡ false
never_start i b = ap (λ z. z && b) (no_start i)

from_mapped_at : {X Y : Type 0} (f : X → Y) (xs : List X) (i : ℕ) (y : Y)
    → slice_get (map f xs) i ≡ Some y → (x : X) × (slice_get xs i ≡ Some x) × (y ≡ f x)
from_mapped_at {X} {Y} f xs i y e = by_place (slice_get xs i) refl where
  by_place : (o : Option X) → slice_get xs i ≡ o
      → (x : X) × (slice_get xs i ≡ Some x) × (y ≡ f x)
  by_place None h =
      absurd (let m = slice_get-map f xs i in let g : slice_get (map f xs) i ≡ None =
      rw (m, h) refl in cc)
  by_place (Some x) h = (
    x,
    h,
    (let m = slice_get-map f xs i in let g : slice_get (map f xs) i ≡ Some (f x) =
        rw (m, h) refl in cc),
  )

module _ (one : AsksForOne) (arena : Arena Step ℕ Value) (size : ℕ) (finite : IsFinite arena size)
    (side : Colour) (codes : List ℕ) where
  abbrev kept : ℕ → List ℕ
  kept = λ k. codes

  -- what is due at a number after so many plies
  abbrev due_after : (k q : ℕ) → Due
  due_after k q =
      due_by (k == 0) (nat_le LINE_LIMIT k) (slice_index codes q)
      (local_code arena side (λ n. slice_index codes n) q) (arena.node q)

  stage_is : (k q : ℕ) → stage (way_player arena opponents.Codes side kept) k (k, q)
      ≡ stage_told (k, q) (slice_index codes q) (due_after k q)
  stage_is k q =
      stage_due (way_player arena opponents.Codes side kept) k (k, q) (slice_index codes q)
      (local_code arena side (λ n. slice_index codes n) q) (k == 0) (nat_le LINE_LIMIT k) refl
      (counted_local arena side (known kept) k q) refl refl

  -- the same move is chosen at the same number
  same_arm : (i j q : ℕ) (m : Colour) (x y : ℕ) (a b : Arm Step (ℕ × ℕ) Value)
      → IsChosen (counted arena) side (known kept) m (i, q) x a
      → IsChosen (counted arena) side (known kept) m (j, q) y b
      → (c : Arm Step ℕ Value) × (a ≡ named (after (suc i)) c) × (b ≡ named (after (suc j)) c)
  same_arm i j q m x y a b first second =
      let arms = arena.arms q in
      let turn : Arm Step ℕ Value → Arm Step (ℕ × ℕ) Value = named (after (suc i)) in
      let at = from_mapped_at turn arms x a
      (found_at (is_candidate (counted arena) side (known kept) m) (is_win (slice_index codes q))
      (slice_index codes q) (map turn arms) x a first) in
      let cs = map (arm_code side codes) arms in
      let seen = found_map (choice_of (counted arena) side (known kept) m)
      (is_candidate (counted arena) side (known kept) m) has_code (λ c z. refl)
      (is_win (slice_index codes q)) (slice_index codes q) (map turn arms) x a first in
      let found = subst (λ (z : List Choice). IsFound has_code (is_win (slice_index codes q))
      (slice_index codes q) z x (choice_of (counted arena) side (known kept) m a))
      (sym (seen_by_codes arena finite.class finite.lag side m kept (suc i) arms)) seen in
      let there = (arm_found arena size finite side m kept j q (slice_index codes q) arms cs refl refl
      refl x (choice_of (counted arena) side (known kept) m a) at.0 found at.1).chosen in (
        at.0,
        at.2,
        (one (counted arena) side (known kept) m (j, q) y x b
            (named (after (suc j)) at.0) second there).1,
      )

  abbrev Goes : (k q : ℕ) → Input → List WayPly → EndOfWay → Input → Type 0
  Goes k q s ys e t = GoesOn arena opponents.Codes side kept k s q ys e t

  -- the same for one ply, and what follows it
  one_ply : (ys : List WayPly) (i j q : ℕ) → i < j
      → ((i == 0) && is_failure (slice_index codes q)) ≡ false → (s t u v : Input)
      → (zs : List WayPly) (e f : EndOfWay) → Goes i q s ys e t → Goes j q u zs f v
      → ((xs others : List WayPly) (n : ℕ) → length xs < length ys → Goes (suc i) n s xs e t
      → Goes (suc j) n u others f v → (f ≡ Cut) ⊎ (length others ≡ length xs))
      → (f ≡ Cut) ⊎ (length zs ≡ length ys)
  one_ply ys i j q l stands s t u v zs e f w z later =
      elim (due_later (i == 0) (nat_le LINE_LIMIT i) (nat_le LINE_LIMIT j) (slice_index codes q)
      (local_code arena side (λ n. slice_index codes n) q) stands (late_later i j l)
      (arena.node q)) [
        | inl cut ↦ inl (over_here arena opponents.Codes side kept j u v q zs f Cut z
            (second ∙ ap (stage_told (j, q) (slice_index codes q)) cut)).1
        | inr same ↦ by_due (due_after i q) refl (sym same)
      ]
    where
      second : stage (way_player arena opponents.Codes side kept) j (j, q)
          ≡ stage_told (j, q) (slice_index codes q) (due_by false (nat_le LINE_LIMIT j)
          (slice_index codes q) (local_code arena side (λ n. slice_index codes n) q) (arena.node q))
      second = stage_is j q ∙ ap (λ b. stage_told (j, q) (slice_index codes q)
          (due_by b (nat_le LINE_LIMIT j) (slice_index codes q)
          (local_code arena side (λ n. slice_index codes n) q) (arena.node q)))
          (later_is_no_start i j l)

      both_over : (g h : EndOfWay)
          → stage (way_player arena opponents.Codes side kept) i (i, q) ≡ Over g
          → stage (way_player arena opponents.Codes side kept) j (j, q) ≡ Over h
          → (f ≡ Cut) ⊎ (length zs ≡ length ys)
      both_over g h first other =
          inr (ap length (over_here arena opponents.Codes side kept j u v q zs f h z other).0
          ∙ sym (ap length (over_here arena opponents.Codes side kept i s t q ys e g w first).0))

      on_to : (xs others : List WayPly) (n : Next ℕ Value) → length xs < length ys
          → LeadsTo (λ p. IsWay (way_player arena opponents.Codes side kept) (suc i) s p xs e t)
          (λ v. (xs ≡ []) × (e ≡ Exit v) × (t ≡ s)) (named_next (after (suc i)) n)
          → LeadsTo (λ p. IsWay (way_player arena opponents.Codes side kept) (suc j) u p others f v)
          (λ r. (others ≡ []) × (f ≡ Exit r) × (v ≡ u)) (named_next (after (suc j)) n)
          → (f ≡ Cut) ⊎ (length others ≡ length xs)
      on_to xs others (Outside r) less a b = inr (ap length b.0 ∙ sym (ap length a.0))
      on_to xs others (Inside n) less a b = later xs others n less a b

      by_due : (d : Due) → due_after i q ≡ d
          → due_by false (nat_le LINE_LIMIT j) (slice_index codes q)
          (local_code arena side (λ n. slice_index codes n) q) (arena.node q) ≡ due_after i q
          → (f ≡ Cut) ⊎ (length zs ≡ length ys)
      by_due (dues.Wrong given) is same =
          both_over (Wrong (i, q) (slice_index codes q) given)
          (Wrong (j, q) (slice_index codes q) given)
          (stage_is i q ∙ ap (stage_told (i, q) (slice_index codes q)) is)
          (second ∙ ap (stage_told (j, q) (slice_index codes q)) (same ∙ is))
      by_due dues.NoBound is same =
          both_over NoBound NoBound
          (stage_is i q ∙ ap (stage_told (i, q) (slice_index codes q)) is)
          (second ∙ ap (stage_told (j, q) (slice_index codes q)) (same ∙ is))
      by_due (dues.Mate m) is same =
          both_over (Mated m) (Mated m)
          (stage_is i q ∙ ap (stage_told (i, q) (slice_index codes q)) is)
          (second ∙ ap (stage_told (j, q) (slice_index codes q)) (same ∙ is))
      by_due (dues.Stalemate m) is same =
          both_over (Stalemated m) (Stalemated m)
          (stage_is i q ∙ ap (stage_told (i, q) (slice_index codes q)) is)
          (second ∙ ap (stage_told (j, q) (slice_index codes q)) (same ∙ is))
      by_due dues.Cut is same =
          both_over Cut Cut
          (stage_is i q ∙ ap (stage_told (i, q) (slice_index codes q)) is)
          (second ∙ ap (stage_told (j, q) (slice_index codes q)) (same ∙ is))
      by_due (dues.Ply m) is same =
          let g = moves_by_codes arena opponents.Codes side kept i s t q ys e m refl w
          (stage_is i q ∙ ap (stage_told (i, q) (slice_index codes q)) is) in
          let h = moves_by_codes arena opponents.Codes side kept j u v q zs f m refl z
          (second ∙ ap (stage_told (j, q) (slice_index codes q)) (same ∙ is)) in
          let c = same_arm i j q m g.0.first.place h.0.first.place g.0.first.arm h.0.first.arm
          g.1 h.1 in
          let long = ap length g.0.are in
          let a = subst (λ (y : Arm Step (ℕ × ℕ) Value). LeadsTo
          (λ p. IsWay (way_player arena opponents.Codes side kept) (suc i) s p g.0.others e t)
          (λ r. (g.0.others ≡ []) × (e ≡ Exit r) × (t ≡ s)) y.next) c.1 g.0.leads in
          let b = subst (λ (y : Arm Step (ℕ × ℕ) Value). LeadsTo
          (λ p. IsWay (way_player arena opponents.Codes side kept) (suc j) u p h.0.others f v)
          (λ r. (h.0.others ≡ []) × (f ≡ Exit r) × (v ≡ u)) y.next) c.2 h.0.leads in
          elim (on_to g.0.others h.0.others c.0.next (omega (arith, long)) a b) [
            | inl cut ↦ inl cut
            | inr even ↦ (
                let other = ap length h.0.are in
                inr (omega (arith, long, other, even)))
          ]

  -- a line from a number is as long as an earlier one from it, or is cut
  tails_within : (most : ℕ) (ys : List WayPly) → length ys < most → (i j q : ℕ) → i < j
      → ((i == 0) && is_failure (slice_index codes q)) ≡ false → (s t u v : Input)
      → (zs : List WayPly) (e f : EndOfWay) → Goes i q s ys e t → Goes j q u zs f v
      → (f ≡ Cut) ⊎ (length zs ≡ length ys)
  tails_within zero ys few i j q l stands s t u v zs e f w z = absurd (omega (arith, few))
  tails_within (suc most) ys few i j q l stands s t u v zs e f w z =
      one_ply ys i j q l stands s t u v zs e f w z
      (λ xs others n less a b. tails_within most xs (omega (arith, few, less)) (suc i) (suc j) n
      (omega (arith, l)) (never_start i (is_failure (slice_index codes n))) s t u v others e f a b)

  pub same_tail : (ys : List WayPly) (i j q : ℕ) → i < j
      → ((i == 0) && is_failure (slice_index codes q)) ≡ false → (s t u v : Input)
      → (zs : List WayPly) (e f : EndOfWay) → Goes i q s ys e t → Goes j q u zs f v
      → (f ≡ Cut) ⊎ (length zs ≡ length ys)
  same_tail ys = tails_within (suc (length ys)) ys (omega arith)
